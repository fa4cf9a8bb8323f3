use Rattle.std.proofs.Common.{inr, ap, subst, sym}
use Rattle.db_core.specs.Sessions.{DbState}
use Rattle.base_devices.specs.HostCalls.{moment}
use Rattle.base_notes.specs.declared.note.Note.{Note}
use Rattle.db_tool.specs.Doing.{DoesTask, StandsAfter, during}
use Rattle.db_script.specs.Scripts.{script_task}
use Rattle.db_script.proofs.EndLemmas.{nothing_done_of_task, nothing_drawn, nothing_leaves, nothing_stands, nothing_stated}
use Rattle.db_script.proofs.batching.batch.Goals as goal

pub returns-in-Err-clause-stated : goal.returns-in-Err-clause-stated
returns-in-Err-clause-stated g c left shown =
    nothing_stated g.B.Db.kind (g.B.Db.state c.args.db.now) (g.R.Rng.stream c.args.rng.now) left (moment (g.H.Disk.state c.args.host.now) (g.H.Host.streams c.args.host.now)) _
    (inr c.outcome_of-in-Err.ensures.note)

pub returns-in-Err-clause-words : goal.returns-in-Err-clause-words
returns-in-Err-clause-words g c left shown = nothing_drawn g.B.Db.kind (g.B.Db.state c.args.db.now) (g.R.Rng.stream c.args.rng.now) left _ (inr c.outcome_of-in-Err.ensures.note)

pub returns-in-Err-clause-moments : goal.returns-in-Err-clause-moments
returns-in-Err-clause-moments g c left shown =
    nothing_leaves g.B.Db.kind (g.B.Db.state c.args.db.now) (g.R.Rng.stream c.args.rng.now) left (moment (g.H.Disk.state c.args.host.now) (g.H.Host.streams c.args.host.now))
    (ap (λ (s : DbState). s.seen) (sym (g.met.B.Db.outside _ c.requires.sound c.requires.closed))) (g.met.H.Disk.is_moment _) (g.met.B.Db.tie_opens _ _ c.requires.sound c.requires.tied)

pub returns-in-Err-clause-stands : goal.returns-in-Err-clause-stands
returns-in-Err-clause-stands g c left shown calm =
    let s = g.B.Db.state c.args.db.now in
    let now = during (g.H.Disk.state c.args.host.now) (g.H.Host.streams c.args.host.now) s in
    subst (λ (note : Note). StandsAfter g.B.Db.kind (script_task g.B.Db.kind s (g.R.Rng.stream c.args.rng.now) left) now now note) (sym c.outcome_of-in-Err.ensures.note)
    (nothing_stands g.B.Db.kind s (g.R.Rng.stream c.args.rng.now) left (moment (g.H.Disk.state c.args.host.now) (g.H.Host.streams c.args.host.now))
    c.requires.sound (g.met.B.Db.outside _ c.requires.sound c.requires.closed) (g.met.H.Disk.is_moment _) (g.met.B.Db.tie_opens _ _ c.requires.sound c.requires.tied))

pub returns-in-Err-clause-task : goal.returns-in-Err-clause-task
returns-in-Err-clause-task g c left shown whole =
    let s = g.B.Db.state c.args.db.now in
    let now = during (g.H.Disk.state c.args.host.now) (g.H.Host.streams c.args.host.now) s in
    subst (λ (note : Note). DoesTask g.B.Db.kind (script_task g.B.Db.kind s (g.R.Rng.stream c.args.rng.now) left) now now note) (sym c.outcome_of-in-Err.ensures.note)
    (nothing_done_of_task g.B.Db.kind s (g.R.Rng.stream c.args.rng.now) left (moment (g.H.Disk.state c.args.host.now) (g.H.Host.streams c.args.host.now))
    c.requires.sound (g.met.B.Db.outside _ c.requires.sound c.requires.closed) (g.met.H.Disk.is_moment _) (g.met.B.Db.tie_opens _ _ c.requires.sound c.requires.tied))
