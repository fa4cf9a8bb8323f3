-- Bytes are added to a new file, one call after another.
use Rattle.std.proofs.Common.{◌≡◌, ⊎_elim, ◌+◌, ◌-◌, ◌<◌, ◌≤◌, ℕ, List, [], ◌∷◌, ◌++◌, Option, Some, None, Ok, Err, Result, refl, sym, ◌∙◌, ap, subst, append_assoc, length, length-append, take, drop, arith}
use Rattle.std.proofs.lemmas.List.{append-nil, length-drop, length-take-le, take_rest}
use Rattle.std.proofs.lemmas.List.Concat.{flat_map-append}
use Rattle.std.proofs.Math.Seq.{take-add}
use Rattle.std.specs.Option.{option_map}
use Rattle.std.specs.Prelude.{IsSome, flat_map}
use Rattle.base_bytes.specs.Escapes.{escaped, escaped_byte}
use Rattle.base_bytes.proofs.EscapeLemmas.{escaped_short}
use Rattle.std.specs.Result.{IsErr}
use Rattle.base_devices.specs.Causes.{Rose}
use Rattle.base_devices.specs.CrashImages.{DiskState, GoesOn, Fresh, IsMoment}
use Rattle.base_devices.proofs.Moments.{stays_then, stays_same}
use Rattle.base_devices.specs.declared.disk.Failed.{Failed}
use Rattle.flat_db.specs.Writing.{with_piece, filling, AddsBytes, Gathers}

abbrev pub Adds : DiskState → DiskState → List ℕ → List ℕ → List ℕ → Type 0
Adds old new held holds bytes = AddsBytes {T = Unit {0}} {E = Failed} bytes (filling old held) (filling new holds) (Ok tt)

with_both : (one two : List ℕ) (o : Option (List ℕ)) → option_map (λ (b : List ℕ). b ++ two) (option_map (λ (b : List ℕ). b ++ one) o) ≡ option_map (λ (b : List ℕ). b ++ (one ++ two)) o
with_both one two None = refl
with_both one two (Some b) = ap Some (append_assoc b one two)

with_none : (o : Option (List ℕ)) → o ≡ option_map (λ (b : List ℕ). b ++ []) o
with_none None = refl
with_none (Some b) = ap Some (sym (append-nil b))

pub adds_none : (s : DiskState) (held : List ℕ) → IsMoment s → Adds s s held held []
adds_none s held moment = record {
  added = with_none (with_piece s.fresh held);
  begun = refl;
  stays = stays_same s moment;
  cause = record { later = omega arith; failed = tt; kept = refl };
}

-- a part that was added, and then another or a failure
pub adds_then : {T E : Type 0} (a b c : DiskState) (held mid holds one two : List ℕ) (result : Result T E) → GoesOn a b → GoesOn b c → Adds a b held mid one → AddsBytes two (filling b mid) (filling c holds) result → AddsBytes (one ++ two) (filling a held) (filling c holds) result
adds_then a b c held mid holds one two (Ok x) ab bc first second = record {
  added = second.added ∙ ap (option_map (λ (l : List ℕ). l ++ two)) first.added ∙ with_both one two (with_piece a.fresh held);
  begun = second.begun ∙ first.begun;
  stays = stays_then a b c ab bc first.stays second.stays;
  cause = record { later = omega (arith, first.cause.later, second.cause.later); failed = tt; kept = second.cause.kept ∙ first.cause.kept };
}
adds_then a b c held mid holds one two (Err e) ab bc first second = record {
  added = tt;
  begun = tt;
  stays = stays_then a b c ab bc first.stays second.stays;
  cause = record { later = omega (arith, first.cause.later, second.cause.later); failed = subst (λ (n : ℕ). Rose n c.faults) first.cause.kept second.cause.failed; kept = tt };
}

-- where a call failed, how many bytes it was to add says nothing
pub adds_failed : {T U E F : Type 0} (a b : DiskState) (held holds one two : List ℕ) (e : E) (result : Result U F) → IsErr result → AddsBytes {T = T} one (filling a held) (filling b holds) (Err e) → AddsBytes two (filling a held) (filling b holds) result
adds_failed a b held holds one two e (Ok x) failed adds = absurd (cc failed)
adds_failed a b held holds one two e (Err f) failed adds = record { added = tt; begun = tt; stays = adds.stays; cause = record { later = adds.cause.later; failed = adds.cause.failed; kept = tt } }

-- the new file is still there
pub still_begun : {T E : Type 0} (old new : DiskState) (held holds bytes : List ℕ) (x : T) → AddsBytes {E = E} bytes (filling old held) (filling new holds) (Ok x) → IsSome old.fresh → IsSome new.fresh
still_begun old new held holds bytes x adds some = adds.begun ∙ some

-- what is gathered besides
pub adds_more : (a b : DiskState) (held mid holds one two : List ℕ) → Adds a b held mid one → holds ≡ mid ++ two → Adds a b held holds (one ++ two)
adds_more a b held mid holds one two adds is = record {
  added = ap (with_piece b.fresh) is ∙ more b.fresh ∙ ap (option_map (λ (l : List ℕ). l ++ two)) adds.added ∙ with_both one two (with_piece a.fresh held);
  begun = adds.begun;
  stays = adds.stays;
  cause = adds.cause;
}
  where
    more : (fresh : Option Fresh) → with_piece fresh (mid ++ two) ≡ option_map (λ (l : List ℕ). l ++ two) (with_piece fresh mid)
    more None = refl
    more (Some f) = ap Some (sym (append_assoc f.bytes mid two))

-- ---- what is gathered without a call of the disk

pub gathers_then : {D T U E : Type 0} (one two : List ℕ) (a b c : D × List ℕ) (x : T) (result : Result U E) → Gathers {E = E} one a b (Ok x) → Gathers two b c result → Gathers (one ++ two) a c result
gathers_then one two a b c x result first second = record {
  all = λ fits.
      let whole = length-append one two in
      let ab = first.all (omega (arith, fits, whole)) in
      let bc = second.all (omega (arith, fits, whole, ap length ab.1, length-append a.1 one)) in
      (bc.0 ∙ ab.0, bc.1 ∙ ap (λ (l : List ℕ). l ++ two) ab.1 ∙ append_assoc a.1 one two, bc.2);
}

-- where a part fails, the whole does not fit
pub gathers_failed : {D T U E : Type 0} (part whole : List ℕ) (a b : D × List ℕ) (e : E) (result : Result U E) → length part ≤ length whole → Gathers {T = T} part a b (Err e) → Gathers whole a b result
gathers_failed part whole a b e result within first = record { all = λ fits. let failed = first.all (omega (arith, fits, within)) in absurd (cc failed.2) }

-- ---- a field's part

-- one part more of a field
pub part_more : (field : List ℕ) (at count : ℕ) → at + count ≤ length field → escaped (take at field) ++ escaped (take count (take (length field - at) (drop at field))) ≡ escaped (take (at + count) field)
unfolding escaped
part_more field at count within =
    sym (flat_map-append escaped_byte (take at field) (take count (take (length field - at) (drop at field))))
    ∙ ap escaped (ap (λ (l : List ℕ). take at field ++ take count l) (take_rest field at) ∙ sym (take-add at count field))

some_escaped : (bytes : List ℕ) → length bytes ≤ length (escaped bytes)
unfolding escaped
some_escaped [] = omega arith
some_escaped (byte ∷ bytes) = ⊎_elim
    (λ one. omega (arith, one, some_escaped bytes, length-append (escaped_byte byte) (flat_map escaped_byte bytes)))
    (λ two. omega (arith, two, some_escaped bytes, length-append (escaped_byte byte) (flat_map escaped_byte bytes)))
    (escaped_short byte)

-- has a byte more at least
pub part_longer : (field : List ℕ) (at count : ℕ) → 0 < count → at + count ≤ length field → length (escaped (take at field)) + 1 ≤ length (escaped (take (at + count) field))
part_longer field at count some within =
    let more = take count (take (length field - at) (drop at field)) in
    omega (
      arith,
      some,
      ap length (part_more field at count within),
      length-append (escaped (take at field)) (escaped more),
      some_escaped more,
      ap (λ (l : List ℕ). length (take count l)) (take_rest field at),
      length-take-le count (drop at field) (omega (arith, within, length-drop at field)),
    )
