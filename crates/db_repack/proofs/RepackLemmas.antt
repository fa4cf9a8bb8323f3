-- A repack that is refused, that meets a fault of the disk, or that is done.
use Rattle.std.proofs.Common.{◌≡◌, ⊎_elim, inl, inr, ℕ, ◌<◌, ◌≤◌, Bool, true, false, cond, List, Ok, Err, Some, None, length, refl, sym, ap, subst, ◌∙◌, arith}
use Rattle.std.specs.Prelude.{nat_lt}
use Rattle.std.specs.Option.{option_or}
use Rattle.base_devices.specs.Causes.{HasCause}
use Rattle.base_devices.specs.CrashImages.{Image, DiskState, IsMoment}
use Rattle.base_devices.specs.Frames.{MayReplace, Replaces}
use Rattle.base_devices.specs.declared.disk.Failed.{Failed}
use Rattle.db_core.specs.Calls.{OnDisk, OpensCommitted}
use Rattle.db_core.specs.Refusals.{IsAfterRefusal, IsDiskFault}
use Rattle.db_core.specs.Sessions.{DbKind, DbState, at_rest, over}
use Rattle.db_core.specs.declared.fault.DbFault.{DbFault}
use Rattle.db_core.specs.declared.fault.DbFault.TheVariants.{Broken, Full, DiskFault}
use Rattle.db_repack.specs.Repacking.{RepackKind, Repacks, IsRepacked, MayRefuse, repack_refusal}

-- ---- what is owed

owed_full : (b c : Bool) (size : ℕ) → b ≡ false → c ≡ true → option_or (cond b (Some Broken) None) (cond c (Some (Full size)) None) ≡ Some (Full size)
owed_full false true size sound over = refl
owed_full true c size sound over = absurd (cc sound)
owed_full false false size sound over = absurd (cc over)

owed_none : (b c : Bool) (size : ℕ) → b ≡ false → c ≡ false → option_or (cond b (Some Broken) None) (cond c (Some (Full size)) None) ≡ None
owed_none false false size sound fits = refl
owed_none true c size sound fits = absurd (cc sound)
owed_none false true size sound fits = absurd (cc fits)

is_over : (limit size : ℕ) → limit < size → nat_lt limit size ≡ true
is_over limit size over = grind (arith, over)

is_within : (limit size : ℕ) → size ≤ limit → nat_lt limit size ≡ false
is_within limit size fits = grind (arith, fits)

-- a file over the limit
pub owes_full : (kind : DbKind) (s : DbState) (size told : ℕ) → s.is_broken ≡ false → kind.limit < size → told ≡ size → repack_refusal kind s size ≡ Some (Full told)
owes_full kind s size told sound over is = owed_full s.is_broken (nat_lt kind.limit size) size sound (is_over kind.limit size over) ∙ ap (λ (n : ℕ). Some (Full n)) (sym is)

-- and one that fits
pub owes_none : (kind : DbKind) (s : DbState) (size : ℕ) → s.is_broken ≡ false → size ≤ kind.limit → repack_refusal kind s size ≡ None
owes_none kind s size sound fits = owed_none s.is_broken (nat_lt kind.limit size) size sound (is_within kind.limit size fits)

fits_none : (b c : Bool) (size : ℕ) → b ≡ false → option_or (cond b (Some Broken) None) (cond c (Some (Full size)) None) ≡ None → c ≡ false
fits_none false false size sound none = refl
fits_none true c size sound none = absurd (cc sound)
fits_none false true size sound none = absurd (cc none)

not_over : (limit size : ℕ) → nat_lt limit size ≡ false → size ≤ limit
not_over limit size fits = grind (arith, fits)

-- it fits where nothing is owed
pub fits_limit : (kind : DbKind) (s : DbState) (size : ℕ) → s.is_broken ≡ false → repack_refusal kind s size ≡ None → size ≤ kind.limit
fits_limit kind s size sound none = not_over kind.limit size (fits_none s.is_broken (nat_lt kind.limit size) size sound none)

-- ---- what is done

-- each image that could be left opens to the committed map
abbrev pub OpensNow : DbKind → DbState → DiskState → Type 0
OpensNow kind s d = s.is_broken ≡ false → (c : Image) → d.leaves c → kind.opens c s.committed

refused_after : (s : DbState) (fault : DbFault) → ¬ IsDiskFault fault → IsAfterRefusal fault s s
refused_after s DiskFault other = absurd (other tt)
refused_after s fault other = refl

module _ (repack : RepackKind) (made : List ℕ) (a : DiskState) (s : DbState) (is : s.is_broken ≡ false → IsRepacked repack made (over a s)) (opens : OpensNow repack.kind s a) where
  -- a refusal before the disk is called
  pub refuses : {T : Type 0} (fault : DbFault) → IsMoment a → MayRefuse repack.kind s (length made) fault → ¬ IsDiskFault fault → Repacks {T = T} repack made (over a s) (over a s) (Err fault)
  refuses fault moment may other = record {
    repacked = is;
    replaces = record { reads = tt; durable = tt };
    any_moment = record { each = λ sound. record { each = λ c n left. let now = moment.now c n left in (now.1, opens sound c now.0) }; mark = refl };
    allowed = tt;
    refused = may;
    cause = record { later = omega arith; rose = λ fault. absurd (other fault); stood = inr refl; kept = tt };
    rests = tt;
    after = refused_after s fault other;
  }

  module _ (b : DiskState) (t : DbState) (any : MayReplace made a b) (new_opens : repack.kind.opens (Some made) s.committed) where
    on_disk : OnDisk s (OpensCommitted repack.kind s) a b
    on_disk = record {
      each = λ sound. record {
        each = λ c n left. let p = any.each.each c n left in (p.0, ⊎_elim (λ was. opens sound c was) (λ now. subst (λ (i : Image). repack.kind.opens i s.committed) (sym now) new_opens) p.1);
      };
      mark = any.mark;
    }

    pub fails : {T U : Type 0} (e : Failed) → HasCause {T = T} {E = Failed} a.faults b.faults (Err e) → repack_refusal repack.kind s (length made) ≡ None → t.is_broken ≡ true → t.in_transaction ≡ false
        → Repacks {T = U} repack made (over a s) (over b t) (Err DiskFault)
    fails e cause allowed broken closed = record {
      repacked = is;
      replaces = record { reads = tt; durable = tt };
      any_moment = on_disk;
      allowed = tt;
      refused = allowed;
      cause = record { later = cause.later; rose = λ fault. cause.failed; stood = inl tt; kept = tt };
      rests = tt;
      after = (broken, closed);
    }

    pub repacks : {T U : Type 0} (x : T) (y : U) → Replaces {E = Failed} made a b (Ok x) → HasCause {E = Failed} a.faults b.faults (Ok x) → repack_refusal repack.kind s (length made) ≡ None
        → t ≡ at_rest s.committed (repack.kind.load_of made) → Repacks repack made (over a s) (over b t) (Ok y)
    repacks x y replaces cause allowed rests = record {
      repacked = is;
      replaces = record { reads = replaces.reads; durable = replaces.durable };
      any_moment = on_disk;
      allowed = allowed;
      refused = tt;
      cause = record { later = cause.later; rose = tt; stood = tt; kept = cause.kept };
      rests = rests;
      after = tt;
    }
