use Rattle.std.proofs.Common.{refl}
use Rattle.std.proofs.lemmas.Result.{on_ok_weaker}
use Rattle.index_form.specs.Views.{record_of}
use Rattle.mail_scan.specs.Names.{name_of}
use Rattle.mail_rebuild.proofs.TakingLemmas.{takes_old}
use Rattle.mail_rebuild.proofs.taking.Made.take.Goals as goal

pub returns-in-Both-clause-taken : goal.returns-in-Both-clause-taken
returns-in-Both-clause-taken g c =
    rw c.in-Both.is (on_ok_weaker c.take_name.result (λ taken files shown named. taken files shown (named (name_of c.in-Both.uid) refl)) c.take_name.ensures.taken)

pub returns-in-File-clause-taken : goal.returns-in-File-clause-taken
returns-in-File-clause-taken g c =
    rw c.in-File.is (on_ok_weaker c.take_name-in-File.result (λ taken files shown named. taken files shown (named (name_of c.in-File.uid) refl)) c.take_name-in-File.ensures.taken)

pub returns-in-Ok-clause-taken : goal.returns-in-Ok-clause-taken
returns-in-Ok-clause-taken g c files shown named =
    rw c.in-Old.is (takes_old files (record_of c.in-Old.old) c.args.self.now _ refl c.in-Ok.ensures.added)
