-- The value of one key in a text.
use Rattle.std.specs.Prelude.{◌≡◌, ℕ, ◌+◌, ◌≤◌, List, Option, IfSome}
use Rattle.base_bytes.specs.OrderedMap.{Map, value_at}
use Rattle.flat_db.specs.FlatText.{FlatTextOf}
use Rattle.flat_db.specs.declared.pairs.Span.{Span}

-- the text is that of a map, in which the key has this value
pub record FindsValue (text key : List ℕ) (value : Option (List ℕ)) : Type 0 where
  pub map : Map
  pub reads : FlatTextOf text map
  pub found : value ≡ value_at map key

-- the span, if there is one, ends by this offset
abbrev pub IsSpanWithin : ℕ → Option Span → Type 0
IsSpanWithin end span = IfSome span (λ s. s.start + s.size ≤ end)
