use Rattle.std.proofs.Common.{[], ◌∷◌, List, ℕ, sym, ap, subst, inr, arith}
use Rattle.std.specs.Prelude.{if◌then◌else◌, is_some}
use Rattle.base_bytes.specs.OrderedMap.{with_prefix, value_at}
use Rattle.base_notes.specs.declared.action.Action.{Action}
use Rattle.base_notes.specs.declared.note.Note.TheVariants.{Done, Answer}
use Rattle.base_devices.specs.HostCalls.{moment}
use Rattle.base_bytes.specs.declared.change.Change.TheVariants.{Put, Del}
use Rattle.db_core.specs.WholeTransactions.{run_refusal}
use Rattle.rand_core.specs.Stream.{Stream, next_u32}
use Rattle.db_tool.specs.Doing.{DoesTask, DrawsWords, Looks, ChangesOnce, during}
use Rattle.db_tool.specs.Printing.{shown, value_line}
use Rattle.db_tool.specs.Tasks.{given, task_with_key}
use Rattle.db_tool.proofs.TaskLemmas.{rests_of, looks_does, changes_does, words_of}
use Rattle.db_tool.proofs.acting.act_with_key.Goals as goal

pub returns-in-Show-clause-task : goal.returns-in-Show-clause-task
returns-in-Show-clause-task g c =
    let s = g.B.Db.state c.args.db.now in
    subst (λ (a : Action). DoesTask g.B.Db.kind (task_with_key g.B.Db.kind s (given (g.R.Rng.stream c.args.rng.now) []) a) (during (g.H.Disk.state c.args.host.now) (g.H.Host.streams c.args.host.now) s) (during (g.H.Disk.state c.show.new.host) (g.H.Host.streams c.show.new.host) s) c.show.result) (sym c.in-Show.is)
    (looks_does g.B.Db.kind s _ _ _ _ c.show.result (rests_of s c.requires.sound (g.met.B.Db.outside _ c.requires.sound c.requires.closed)) (g.met.B.Db.tie_opens _ _ c.requires.sound c.requires.tied)
    (subst (λ (l : List ℕ). Looks Done (shown (with_prefix s.seen l)) (moment (g.H.Disk.state c.args.host.now) (g.H.Host.streams c.args.host.now)) (moment (g.H.Disk.state c.show.new.host) (g.H.Host.streams c.show.new.host)) c.show.result) c.as_slice.ensures c.show.ensures.looks))

pub returns-in-Get-clause-task : goal.returns-in-Get-clause-task
returns-in-Get-clause-task g c =
    let s = g.B.Db.state c.args.db.now in
    subst (λ (a : Action). DoesTask g.B.Db.kind (task_with_key g.B.Db.kind s (given (g.R.Rng.stream c.args.rng.now) []) a) (during (g.H.Disk.state c.args.host.now) (g.H.Host.streams c.args.host.now) s) (during (g.H.Disk.state c.get.new.host) (g.H.Host.streams c.get.new.host) s) c.get.result) (sym c.in-Get.is)
    (looks_does g.B.Db.kind s _ _ _ _ c.get.result (rests_of s c.requires.sound (g.met.B.Db.outside _ c.requires.sound c.requires.closed)) (g.met.B.Db.tie_opens _ _ c.requires.sound c.requires.tied)
    (subst (λ (l : List ℕ). Looks (if is_some (value_at s.seen l) then Done else Answer) (value_line (value_at s.seen l)) (moment (g.H.Disk.state c.args.host.now) (g.H.Host.streams c.args.host.now)) (moment (g.H.Disk.state c.get.new.host) (g.H.Host.streams c.get.new.host)) c.get.result) c.as_slice-in-Get.ensures c.get.ensures.looks))

pub returns-in-Set-clause-task : goal.returns-in-Set-clause-task
returns-in-Set-clause-task g c =
    let s = g.B.Db.state c.args.db.now in
    subst (λ (a : Action). DoesTask g.B.Db.kind (task_with_key g.B.Db.kind s (given (g.R.Rng.stream c.args.rng.now) []) a) (during (g.H.Disk.state c.args.host.now) (g.H.Host.streams c.args.host.now) s) (during (g.H.Disk.state c.set.new.host) (g.H.Host.streams c.set.new.host) (g.B.Db.state c.set.new.db)) c.set.result) (sym c.in-Set.is)
    (changes_does g.B.Db.kind s (g.B.Db.state c.set.new.db) (Put (next_u32 (g.R.Rng.stream c.args.rng.now)).0 c.in-Set.key c.in-Set.value) 1 _ _ c.set.result (rests_of s c.requires.sound (g.met.B.Db.outside _ c.requires.sound c.requires.closed))
    (subst (λ (word : ℕ). ChangesOnce g.B.Db.kind (Put word c.in-Set.key c.in-Set.value) (during (g.H.Disk.state c.args.host.now) (g.H.Host.streams c.args.host.now) s) (during (g.H.Disk.state c.set.new.host) (g.H.Host.streams c.set.new.host) (g.B.Db.state c.set.new.db)) c.set.result)
    (ap (λ (p : ℕ × Stream). p.0) c.next_u32.ensures) c.set.ensures.changes))

pub returns-in-Delete-clause-task : goal.returns-in-Delete-clause-task
returns-in-Delete-clause-task g c =
    let s = g.B.Db.state c.args.db.now in
    subst (λ (a : Action). DoesTask g.B.Db.kind (task_with_key g.B.Db.kind s (given (g.R.Rng.stream c.args.rng.now) []) a) (during (g.H.Disk.state c.args.host.now) (g.H.Host.streams c.args.host.now) s) (during (g.H.Disk.state c.delete.new.host) (g.H.Host.streams c.delete.new.host) (g.B.Db.state c.delete.new.db)) c.delete.result) (sym c.in-Delete.is)
    (changes_does g.B.Db.kind s (g.B.Db.state c.delete.new.db) (Del c.in-Delete.key) 0 _ _ c.delete.result (rests_of s c.requires.sound (g.met.B.Db.outside _ c.requires.sound c.requires.closed)) c.delete.ensures.changes)

pub returns-in-Set-clause-words : goal.returns-in-Set-clause-words
returns-in-Set-clause-words g c =
    let s = g.B.Db.state c.args.db.now in
    subst (λ (a : Action). DrawsWords (task_with_key g.B.Db.kind s (given (g.R.Rng.stream c.args.rng.now) []) a) (g.R.Rng.stream c.args.rng.now) (g.R.Rng.stream c.next_u32.new.self) c.set.result) (sym c.in-Set.is)
    (let one = words_of (run_refusal g.B.Db.kind s (Put (next_u32 (g.R.Rng.stream c.args.rng.now)).0 c.in-Set.key c.in-Set.value ∷ [])) g.B.Db.kind s (Put (next_u32 (g.R.Rng.stream c.args.rng.now)).0 c.in-Set.key c.in-Set.value) 1 in
    record { count = 1; drawn = ap (λ (p : ℕ × Stream). p.1) c.next_u32.ensures; within = omega (arith, one); whole = inr (sym one) })
