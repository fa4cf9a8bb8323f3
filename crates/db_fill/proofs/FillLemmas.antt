-- A fill that is refused, that meets a fault of the disk, or that is done.
use Rattle.std.proofs.Common.{◌≡◌, inl, inr, ℕ, ◌+◌, ◌≤◌, Bool, true, false, cond, [], ◌∷◌, Ok, Err, Some, None, length, refl, ap, subst, arith}
use Rattle.std.specs.Prelude.{Option, nat_lt, ◌==◌}
use Rattle.std.specs.Option.{option_or}
use Rattle.base_bytes.specs.declared.limits.TheConstants.{KEY_LIMIT, VALUE_LIMIT}
use Rattle.base_bytes.specs.OrderedMap.{Map}
use Rattle.base_devices.specs.Causes.{HasCause}
use Rattle.base_devices.specs.CrashImages.{DiskState, IsMoment}
use Rattle.base_devices.specs.Frames.{MayReplace, Replaces}
use Rattle.base_devices.specs.declared.disk.Failed.{Failed}
use Rattle.db_core.specs.Refusals.{IsDiskFault}
use Rattle.db_core.specs.declared.fault.DbFault.{DbFault}
use Rattle.db_core.specs.declared.fault.DbFault.TheVariants.{Broken, KeyEmpty, KeyTooLong, ValueTooLong, Full, NoMemory, DiskFault}
use Rattle.db_fill.specs.Filling.{FillKind, Fills, DrawsUpTo, MayRefuse, fill_refusal, left_after, pairs_refusal, size_refusal, with_words_to_come}
use Rattle.rand_core.specs.Stream.{Stream}

-- ---- a pair that is refused

abbrev IsPairFault : DbFault → Type 0
IsPairFault KeyEmpty = Unit {0}
IsPairFault (KeyTooLong length) = Unit {0}
IsPairFault (ValueTooLong length) = Unit {0}
IsPairFault fault = ⊥

abbrev within : Option DbFault → DbFault
within None = KeyEmpty
within (Some fault) = fault

first_of : (a b c : Bool) (key value : ℕ) (rest : Option DbFault) (fault : DbFault) → option_or (cond a (Some KeyEmpty) (cond b (Some (KeyTooLong key)) (cond c (Some (ValueTooLong value)) None))) rest ≡ Some fault → (rest ≡ Some fault → IsPairFault fault) → IsPairFault fault
first_of true b c key value rest fault is later = subst IsPairFault (ap within is) tt
first_of false true c key value rest fault is later = subst IsPairFault (ap within is) tt
first_of false false true key value rest fault is later = subst IsPairFault (ap within is) tt
first_of false false false key value rest fault is later = later is

is_pair_fault : (m : Map) (fault : DbFault) → pairs_refusal m ≡ Some fault → IsPairFault fault
is_pair_fault [] fault is = absurd (cc is)
is_pair_fault (p ∷ m) fault is = first_of (length p.0 == 0) (nat_lt KEY_LIMIT (length p.0)) (nat_lt VALUE_LIMIT (length p.1)) (length p.0) (length p.1) (pairs_refusal m) fault is (is_pair_fault m fault)

-- it is what is owed
owed : (kind : FillKind) (m : Map) (words : Stream) (fault : DbFault) → pairs_refusal m ≡ Some fault → fill_refusal kind m words ≡ Some fault
owed kind m words fault is = ap (λ (o : Option DbFault). option_or o (size_refusal kind.limit (kind.size_of m words))) is

pub refused_pair : (kind : FillKind) (m : Map) (words : Stream) (fault : DbFault) → pairs_refusal m ≡ Some fault → MayRefuse kind m words fault
refused_pair kind m words Broken is = owed kind m words Broken is
refused_pair kind m words KeyEmpty is = owed kind m words KeyEmpty is
refused_pair kind m words (KeyTooLong n) is = owed kind m words (KeyTooLong n) is
refused_pair kind m words (ValueTooLong n) is = owed kind m words (ValueTooLong n) is
refused_pair kind m words (Full n) is = owed kind m words (Full n) is
refused_pair kind m words NoMemory is = absurd (is_pair_fault m NoMemory is)
refused_pair kind m words DiskFault is = absurd (is_pair_fault m DiskFault is)

pub pair_no_disk : (m : Map) (fault : DbFault) → pairs_refusal m ≡ Some fault → ¬ IsDiskFault fault
pair_no_disk m DiskFault is fault = is_pair_fault m DiskFault is
pair_no_disk m Broken is fault = fault
pair_no_disk m KeyEmpty is fault = fault
pair_no_disk m (KeyTooLong n) is fault = fault
pair_no_disk m (ValueTooLong n) is fault = fault
pair_no_disk m (Full n) is fault = fault
pair_no_disk m NoMemory is fault = fault

-- no word is drawn
pub draws_none : (most : ℕ) (words : Stream) → DrawsUpTo most words words
draws_none most words = record { count = 0; within = omega arith; drawn = refl }

-- ---- the whole

pub refuses : (kind : FillKind) (m : Map) (s : DiskState) (old new : Stream) (fault : DbFault) → IsMoment s → MayRefuse kind m old fault → ¬ IsDiskFault fault → DrawsUpTo (kind.words_for (length m)) old new
    → Fills kind m (with_words_to_come s old) (with_words_to_come s new) (Err fault)
refuses kind m s old new fault moment may other drawn = record {
  replaces = record { reads = tt; durable = tt };
  any_moment = record { each = record { each = λ c n left. let is = moment.now c n left in (is.1, inl is.0) }; mark = refl };
  count = tt;
  allowed = tt;
  refused = may;
  cause = record { later = omega arith; rose = λ is. absurd (other is); stood = inr refl; kept = tt };
  all_drawn = tt;
  drawn = drawn;
}

pub fails : {T : Type 0} (kind : FillKind) (m : Map) (a b : DiskState) (old new : Stream) (e : Failed) → Replaces {T = T} (kind.file_of m old) a b (Err e) → MayReplace (kind.file_of m old) a b → HasCause {T = T} {E = Failed} a.faults b.faults (Err e)
    → fill_refusal kind m old ≡ None → DrawsUpTo (kind.words_for (length m)) old new
    → Fills kind m (with_words_to_come a old) (with_words_to_come b new) (Err DiskFault)
fails kind m a b old new e replaces any cause allowed drawn = record {
  replaces = record { reads = tt; durable = tt };
  any_moment = any;
  count = tt;
  allowed = tt;
  refused = allowed;
  cause = record { later = cause.later; rose = λ is. cause.failed; stood = inl tt; kept = tt };
  all_drawn = tt;
  drawn = drawn;
}

pub fills : {T : Type 0} (kind : FillKind) (m : Map) (a b : DiskState) (old new : Stream) (x : T) (count : ℕ) → Replaces {E = Failed} (kind.file_of m old) a b (Ok x) → MayReplace (kind.file_of m old) a b → HasCause {E = Failed} a.faults b.faults (Ok x)
    → fill_refusal kind m old ≡ None → count ≡ length m → new ≡ left_after (kind.words_for (length m)) old
    → Fills kind m (with_words_to_come a old) (with_words_to_come b new) (Ok count)
fills kind m a b old new x count replaces any cause allowed counted drawn = record {
  replaces = record { reads = replaces.reads; durable = replaces.durable };
  any_moment = any;
  count = counted;
  allowed = allowed;
  refused = tt;
  cause = record { later = cause.later; rose = tt; stood = tt; kept = cause.kept };
  all_drawn = drawn;
  drawn = record { count = kind.words_for (length m); within = omega arith; drawn = drawn };
}
