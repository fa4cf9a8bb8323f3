use Rattle.std.proofs.Common.{None, Some, rules}
use Rattle.std.proofs.lemmas.Result.{on_ok_weaker}
use Rattle.index_form.specs.Views.{record_of}
use Rattle.mail_rebuild.proofs.IndexLemmas.{adds_nothing}
use Rattle.mail_rebuild.proofs.TakingLemmas.{takes_odd}
use Rattle.mail_rebuild.proofs.taking.Made.add_odd.Goals as goal

pub returns-in-Some-clause-added : goal.returns-in-Some-clause-added
returns-in-Some-clause-added c =
    rw c.in-Some.is (on_ok_weaker c.add_old.result
    (λ adds files none. takes_odd files c.args.name (Some (record_of c.in-Some.old)) c.args.self.now _ none (search rules) adds)
    c.add_old.ensures.added)

pub returns-in-None-clause-added : goal.returns-in-None-clause-added
returns-in-None-clause-added c files none =
    rw c.in-None.is (takes_odd files c.args.name None c.args.self.now _ none (search rules) (adds_nothing c.args.self.now.index))
