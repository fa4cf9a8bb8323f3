-- What the type of a record says of its level and lengths.
use Rattle.std.proofs.Common.{◌≡◌, ◌≤◌, ap, subst, arith}
use Rattle.skip_form.specs.declared.head.Head.{Head}
use Rattle.skip_form.specs.declared.head.Kind.{Kind}
use Rattle.skip_form.specs.declared.head.Kind.TheVariants.{Dummy, Put, Gone}
use Rattle.skip_form.specs.Spelling.{IsHead, IsLevelOf, AreLengthsOf, type_byte}

pub put_is_not_gone : (k : Kind) → k ≡ Put → k ≡ Gone → ⊥
put_is_not_gone k p q = omega (arith, ap type_byte p, ap type_byte q)

pub put_is_not_dummy : (k : Kind) → k ≡ Put → k ≡ Dummy → ⊥
put_is_not_dummy k p q = omega (arith, ap type_byte p, ap type_byte q)

pub gone_is_not_dummy : (k : Kind) → k ≡ Gone → k ≡ Dummy → ⊥
gone_is_not_dummy k p q = omega (arith, ap type_byte p, ap type_byte q)

pub dummy_level : (h : Head) → IsHead h → h.kind ≡ Dummy → h.level ≡ 31
dummy_level h is e = subst (λ (k : Kind). IsLevelOf k h.level) e is.level

pub dummy_lengths : (h : Head) → IsHead h → h.kind ≡ Dummy → (h.key_len ≡ 0) × (h.value_len ≡ 0)
dummy_lengths h is e = subst (λ (k : Kind). AreLengthsOf k h.key_len h.value_len) e is.lengths

pub put_level : (h : Head) → IsHead h → h.kind ≡ Put → 1 ≤ h.level
put_level h is e = (subst (λ (k : Kind). IsLevelOf k h.level) e is.level).0

pub gone_level : (h : Head) → IsHead h → h.kind ≡ Gone → h.level ≡ 0
gone_level h is e = subst (λ (k : Kind). IsLevelOf k h.level) e is.level
