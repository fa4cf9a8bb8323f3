-- What a crash leaves while a line is done.
use Rattle.std.proofs.Common.{◌≡◌, ◌⊎◌, inl, inr, ⊎_elim, ℕ, ◌≤◌, ◌+◌, false, List, [], ◌++◌, Option, Some, None, Result, Err, length, sym, ap, subst, arith, length-append, refl, ◌∙◌}
use Rattle.base_devices.specs.CrashImages.{Image, DiskState, GoesOn, IsMoment}
use Rattle.base_devices.specs.Frames.{OnlyPrints, KeepsCounts, LeavesBetween}
use Rattle.base_devices.specs.HostCalls.{HostMoment}
use Rattle.base_devices.proofs.FrameLemmas.{between_then}
use Rattle.base_devices.proofs.Moments.{each_then}
use Rattle.base_notes.specs.declared.note.Device.TheVariants.{Host}
use Rattle.base_notes.specs.declared.note.Note.{Note}
use Rattle.db_core.specs.Calls.{OnDisk, OpensCommitted}
use Rattle.db_core.specs.Refusals.{IsDiskFault}
use Rattle.db_core.specs.Sessions.{DbKind, DbState, over}
use Rattle.db_core.specs.declared.fault.DbFault.{DbFault}
use Rattle.db_core.specs.declared.fault.DbFault.TheVariants.{DiskFault}
use Rattle.db_tool.specs.Printing.{Printed, PrintsSome, Prints}
use Rattle.db_tool.specs.ToolNotes.{IsFault, change_note}
use Rattle.db_script.specs.Doing.{DoesLine, OpensWith}
use Rattle.db_script.specs.Moments.{MayBeDone, CommitsNothing, LeavesLine}
use Rattle.db_script.specs.Replies.{change_of, commits, owed_by, reply_of, session_after}
use Rattle.db_script.specs.Steps.{Asked, LineMoment, LineEnds, line_note}

disk_fault : (fault : DbFault) → IsDiskFault fault → IsFault (change_note Host fault)
disk_fault DiskFault is = tt
disk_fault fault is = absurd is

-- ---- what is not touched

pub counts_none : (a : DiskState) → KeepsCounts a a
counts_none a = record { fresh = refl; written = refl; publishes = refl }

pub counts_then : (a b c : DiskState) → KeepsCounts a b → KeepsCounts b c → KeepsCounts a c
counts_then a b c first second = record { fresh = second.fresh ∙ first.fresh; written = second.written ∙ first.written; publishes = second.publishes ∙ first.publishes }

pub counts_printed : (a b : DiskState) → OnlyPrints a b → KeepsCounts a b
counts_printed a b only = record { fresh = only.keeps.fresh; written = only.keeps.written; publishes = only.keeps.publishes }

quiet_of : (a : Asked) (old : LineMoment) (result : Option Note) → MayBeDone result → CommitsNothing a old result → commits old.session.in_transaction a.command ≡ false
quiet_of a old None may nothing = nothing
quiet_of a old (Some note) may nothing = absurd (nothing may)

-- ---- a line

-- nothing is done
pub line_still : (kind : DbKind) (a : Asked) (m : LineMoment) (result : Option Note) → IsMoment m.output.host.disk → ((c : Image) → m.output.host.disk.leaves c → kind.opens c m.session.committed) → LeavesLine kind a m m result
line_still kind a m result is opens = record {
  later = omega arith;
  each = record { each = λ c n left. let now = is.now c n left in (omega (arith, now.1), omega (arith, now.1), inl (opens c now.0, omega (arith, now.1))) };
  idle = λ _ _. counts_none m.output.host.disk;
}

-- the change is refused, or the disk fails
pub line_given_up : (kind : DbKind) (a : Asked) (old new : LineMoment) (fault : DbFault) → old.session.is_broken ≡ false
    → (owed_by kind old.session (change_of a.word a.command) ≡ None → line_note kind old.session a ≡ None)
    → DoesLine {T = Unit {0}} kind a.word a.command (over old.output.host.disk old.session) (over new.output.host.disk new.session) (Err fault) → LeavesLine kind a old new (Some (change_note Host fault))
line_given_up kind a old new fault sound stated does = ⊎_elim failed calm does.kept
  where
    untouched : kind.works_in_place ≡ false → (IsFault (change_note Host fault) → ⊥) → KeepsCounts old.output.host.disk new.output.host.disk
    untouched whole calm = ⊎_elim (λ is. absurd (calm (disk_fault fault is))) (λ keeps. keeps) (does.unharmed whole)

    failed : IsDiskFault fault × (owed_by kind old.session (change_of a.word a.command) ≡ None) → LeavesLine kind a old new (Some (change_note Host fault))
    failed both = record {
      later = omega (arith, does.disk.mark);
      each = record {
        each = λ c n left.
            let pair = (does.disk.each sound).each c n left in (
              omega (arith, pair.0),
              omega (arith, pair.0, does.disk.mark),
              ⊎_elim
                  (λ opens. inl (opens, omega (arith, pair.0)))
                  (λ opens. inr (disk_fault fault both.0, record { stated = stated both.1; opens = opens; within = omega (arith, pair.0) })) pair.1,
            );
      };
      idle = untouched;
    }

    calm : OnDisk old.session (OpensCommitted kind old.session) old.output.host.disk new.output.host.disk → LeavesLine kind a old new (Some (change_note Host fault))
    calm kept = record {
      later = omega (arith, kept.mark);
      each = record {
        each = λ c n left. let pair = (kept.each sound).each c n left in (omega (arith, pair.0), omega (arith, pair.0, kept.mark), inl (pair.1, omega (arith, pair.0)));
      };
      idle = untouched;
    }

-- the line is done, and of its reply this much is printed
pub line_replied : {T E : Type 0} (kind : DbKind) (a : Asked) (old mid new : LineMoment) (reply : List ℕ) (result : Option Note) (r : Result T E) → MayBeDone result → old.session.is_broken ≡ false
    → line_note kind old.session a ≡ None → mid.session ≡ session_after kind a.word old.session a.command → mid.output.held ++ reply ≡ old.output.held ++ reply_of old.session a.command
    → Printed [] old.output.host mid.output.host → OnDisk old.session (OpensWith kind old.session (session_after kind a.word old.session a.command)) old.output.host.disk mid.output.host.disk
    → (kind.works_in_place ≡ false → commits old.session.in_transaction a.command ≡ false → KeepsCounts old.output.host.disk mid.output.host.disk)
    → GoesOn old.output.host.disk mid.output.host.disk → GoesOn mid.output.host.disk new.output.host.disk
    → ((c : Image) → mid.output.host.disk.leaves c → kind.opens c mid.session.committed) → Prints reply mid.output new.output r → LeavesLine kind a old new result
line_replied kind a old mid new reply result r may sound stated after joined nothing disk idle om mn opens prints = record {
  later = omega (arith, nothing.later, prints.disk.mark);
  each = each_then old.output.host.disk mid.output.host.disk new.output.host.disk _ om mn
      (record {
        each = λ c n left.
            let pair = (disk.each sound).each c n left in (
              omega (arith, pair.0),
              omega (arith, pair.0, nothing.later, prints.disk.mark),
              ⊎_elim (λ was. inl (was, omega (arith, pair.0))) (λ is. inr (may, record { stated = stated; opens = is; within = omega (arith, pair.0) })) pair.1,
            );
      })
      (record {
        each = λ c n left.
            let p = prints.disk.each.each c n left in (
              omega (arith, p.1, nothing.later),
              p.2,
              inr (may, record { stated = stated; opens = subst (λ (s : DbState). kind.opens c s.committed) after (opens c p.0); within = omega (arith, p.2, most) }),
            );
      });
  idle = λ whole quiet. counts_then old.output.host.disk mid.output.host.disk new.output.host.disk (idle whole (quiet_of a old result may quiet)) (counts_printed mid.output.host.disk new.output.host.disk prints.disk);
}
  where
    most : new.output.host.disk.mark ≤ old.output.host.disk.mark + length (old.output.held ++ reply_of old.session a.command)
    most = omega (arith, prints.some.grew.most, nothing.most, ap length prints.some.whole, length-append prints.some.printed prints.some.unprinted, ap length joined)

-- ---- the end

pub between_prints : (a b : DiskState) (Q : Image → Type 0) → ((c : Image) → a.leaves c → Q c) → OnlyPrints a b → LeavesBetween a b Q
between_prints a b Q opens only = record { each = λ c n left. let p = only.each.each c n left in (p.1, p.2, opens c p.0) }

-- what is gathered is printed, and then the transaction given up
pub between_gives_up : (kind : DbKind) (s : DbState) (a b c : DiskState) → s.is_broken ≡ false → GoesOn a b → GoesOn b c → ((i : Image) → a.leaves i → kind.opens i s.committed) → OnlyPrints a b
    → OnDisk s (OpensCommitted kind s) b c → LeavesBetween a c (OpensCommitted kind s)
between_gives_up kind s a b c sound ab bc opens only disk =
    between_then a b c (OpensCommitted kind s) (OpensCommitted kind s) (OpensCommitted kind s) ab bc only.mark (omega (arith, disk.mark)) (λ i is. is) (λ i is. is)
    (between_prints a b (OpensCommitted kind s) opens only)
    (record { each = λ i n left. let pair = (disk.each sound).each i n left in (omega (arith, pair.0), omega (arith, pair.0, disk.mark), pair.1) })

-- a line ends with this note, and then the script with that one
pub stops_leaving : (kind : DbKind) (a : Asked) (old mid new : LineMoment) (note result : Note) → IsFault note ⊎ (IsFault note → ⊥) → LeavesLine kind a old mid (Some note) → LineEnds kind a old mid note
    → (IsFault note → (result ≡ note) × (new.output.host ≡ mid.output.host)) → GoesOn old.output.host.disk mid.output.host.disk → GoesOn mid.output.host.disk new.output.host.disk
    → PrintsSome mid.output.held mid.output.host new.output.host → (kind.works_in_place ≡ false → KeepsCounts mid.output.host.disk new.output.host.disk)
    → ((IsFault note → ⊥) → LeavesBetween mid.output.host.disk new.output.host.disk (OpensCommitted kind mid.session)) → LeavesLine kind a old new (Some result)
stops_leaving kind a old mid new note result either leaves ends failed om mn some idle rest = ⊎_elim cut calm either
  where
    cut : IsFault note → LeavesLine kind a old new (Some result)
    cut is =
        subst (λ (h : HostMoment). LeavesLine kind a old (record { session = new.session; output = record { held = new.output.held; host = h } }) (Some result)) (sym (failed is).1)
        (subst (λ (n : Note). LeavesLine kind a old (record { session = new.session; output = record { held = new.output.held; host = mid.output.host } }) (Some n)) (sym (failed is).0)
        (record { later = leaves.later; each = leaves.each; idle = leaves.idle }))

    most : new.output.host.disk.mark ≤ mid.output.host.disk.mark + length mid.output.held
    most = omega (arith, some.grew.most, ap length some.whole, length-append some.printed some.unprinted)

    calm : (IsFault note → ⊥) → LeavesLine kind a old new (Some result)
    calm sound =
        let still = ends.silent sound in
        let same = ends.kept sound in
        record {
          later = omega (arith, leaves.later, some.grew.later);
          each = each_then old.output.host.disk mid.output.host.disk new.output.host.disk _ om mn
              (record {
                each = λ c n left.
                    let p = leaves.each.each c n left in
                    (p.0, omega (arith, p.1, some.grew.later), ⊎_elim inl (λ both. absurd (sound both.0)) p.2);
              })
              (record {
                each = λ c n left.
                    let p = (rest sound).each c n left in (
                      omega (arith, p.0, leaves.later),
                      p.1,
                      inl (subst (λ (s : DbState). kind.opens c s.committed) same.0 p.2, omega (arith, p.1, most, still.most, ap length same.1)),
                    );
              });
          idle = λ whole _. counts_then old.output.host.disk mid.output.host.disk new.output.host.disk (leaves.idle whole sound) (idle whole);
        }
