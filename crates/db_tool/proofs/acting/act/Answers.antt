use Rattle.std.proofs.Common.{[], Bool, sym, subst}
use Rattle.base_devices.specs.HostCalls.{moment}
use Rattle.base_devices.proofs.FrameLemmas.{only_none}
use Rattle.base_notes.specs.declared.note.Note.{Note}
use Rattle.base_notes.specs.declared.note.Note.TheVariants.{BadLine}
use Rattle.db_tool.specs.Doing.{DoesTask, during}
use Rattle.db_tool.specs.Tasks.{given, task_if, task_of}
use Rattle.db_tool.proofs.PrintLemmas.{printed_none}
use Rattle.db_tool.proofs.TaskLemmas.{rests_of, looks_nothing, looks_does}
use Rattle.db_tool.proofs.acting.act.Goals as goal

pub returns-then-has_no_key-clause-task : goal.returns-then-has_no_key-clause-task
returns-then-has_no_key-clause-task g c =
    let s = g.B.Db.state c.args.db.now in
    let m = moment (g.H.Disk.state c.args.host.now) (g.H.Host.streams c.args.host.now) in
    let d = during (g.H.Disk.state c.args.host.now) (g.H.Host.streams c.args.host.now) s in
    let given_words = given (g.R.Rng.stream c.args.rng.now) [] in
    let is = g.met.H.Disk.is_moment c.args.host.now in
    subst (λ (n : Note). DoesTask g.B.Db.kind (task_of g.B.Db.kind s given_words c.args.action.now) d d n) (sym c.outcome_of.ensures.note)
    (subst (λ (b : Bool). DoesTask g.B.Db.kind (task_if b g.B.Db.kind s given_words c.args.action.now) d d (BadLine 1)) c.if-has_no_key.ensures
    (looks_does g.B.Db.kind s m m [] (BadLine 1) (BadLine 1) (rests_of s c.requires.sound (g.met.B.Db.outside _ c.requires.sound c.requires.closed)) (g.met.B.Db.tie_opens _ _ c.requires.sound c.requires.tied)
    (looks_nothing m (BadLine 1) (λ fault. fault) (λ is. cc is) is (only_none _ is) (printed_none m))))

pub returns-clause-task : goal.returns-clause-task
returns-clause-task g c =
    let s = g.B.Db.state c.args.db.now in
    let before = during (g.H.Disk.state c.args.host.now) (g.H.Host.streams c.args.host.now) s in
    let after = during (g.H.Disk.state c.act_with_key.new.host) (g.H.Host.streams c.act_with_key.new.host) (g.B.Db.state c.act_with_key.new.db) in
    let given_words = given (g.R.Rng.stream c.args.rng.now) [] in
    subst (λ (n : Note). DoesTask g.B.Db.kind (task_of g.B.Db.kind s given_words c.args.action.now) before after n) (sym c.outcome_of-2.ensures.note)
    (subst (λ (b : Bool). DoesTask g.B.Db.kind (task_if b g.B.Db.kind s given_words c.args.action.now) before after c.act_with_key.result) c.if-has_no_key.ensures c.act_with_key.ensures.task)
