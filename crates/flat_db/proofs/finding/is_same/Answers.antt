use Rattle.std.proofs.Common.{◌≡◌, Bool, true, false, List, ℕ, length, refl, ap, arith}
use Rattle.std.specs.BTreeMap.{is_at}
use Rattle.base_bytes.specs.OrderedMap.{key_order}
use Rattle.base_bytes.proofs.OrderedMaps.{is_at_key}
use Rattle.flat_db.proofs.finding.is_same.Goals as goal

-- keys that differ are not the same
not_same : (key other : List ℕ) → (key ≡ other → ⊥) → false ≡ is_at (key_order key) other
not_same key other differs = by (is_at (key_order key) other) refl
  where
    by : (b : Bool) → is_at (key_order key) other ≡ b → false ≡ b
    by true is = absurd (differs (is_at_key key other is))
    by false is = refl

pub returns-then-key-other : goal.returns-then-key-other
returns-then-key-other c = not_same c.args.key.now c.args.other.now (λ same. omega (arith, ap length same))

pub returns-then-ends_differ : goal.returns-then-ends_differ
returns-then-ends_differ c = not_same c.args.key.now c.args.other.now (c.ends_differ.ensures c.if-ends_differ.true)
