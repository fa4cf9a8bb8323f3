use Rattle.std.proofs.Common.{refl, sym, ◌∙◌, arith}
use Rattle.std.specs.Option.{option_map}
use Rattle.index_form.specs.Views.{record_of}
use Rattle.mail_scan.specs.Names.{name_of}
use Rattle.mail_scan.proofs.NameLemmas.{spelled_uid}
use Rattle.mail_rebuild.proofs.TakingLemmas.{has_file, message_is, no_message_is, takes_message, uid_is_file's}
use Rattle.mail_rebuild.proofs.taking.Made.take_name.Goals as goal
use Rattle.mail_rebuild.proofs.taking.Made.take_name.Goals.{in-Some, in-None}

pub returns-in-Ok-added-clause-taken : goal.returns-in-Ok-added-clause-taken
returns-in-Ok-added-clause-taken g c files shown named =
    let name = name_of c.args.uid in
    let has = has_file (g.S.Spool.state c.args.spool.now) files name named.file shown named.has in
    let scan = c.in-Ok.ensures.facts named.file (rw c.message_name-name.ensures has) in
    elim c.match-scanned.branch [
      | in-Some w ↦
          let facts = rw w.in-Some.is at scan in
          let added = rw (sym w.added-is ∙ c.in-Ok-added.is) at w.add_message-added.ensures.added in
          let uid = sym (spelled_uid c.args.uid (omega arith)) ∙ uid_is_file's files name named in
          rw w.self-is (takes_message files name named.file (option_map record_of c.args.old) c.args.self.now _ (message_is files name named facts.0) refl (added named.file facts.1 uid))
      | in-None w ↦
          let none = rw w.in-None.is at scan in
          let added = rw (sym w.added-is ∙ c.in-Ok-added.is, c.message_name-name.ensures) at w.add_odd-added.ensures.added in
          rw w.self-is (added files (no_message_is files name named none))
    ]
