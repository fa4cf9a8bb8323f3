-- The live records and the map of bytes that end with their log, and how many steps a search in them may take.
use Rattle.std.specs.Prelude.{ℕ, ◌+◌, ◌≤◌, List, Option, length, map}
use Rattle.std.specs.Option.{option_map}
use Rattle.base_bytes.specs.OrderedMap.{Map}
use Rattle.base_bytes.specs.declared.pair.Pair.{Pair}
use Rattle.skip_spec.specs.Chain.{Entry}
use Rattle.skip_spec.specs.Live.{Live, live_under, map_under}
use Rattle.skip_spec.specs.Place.{Place}
use Rattle.skip_spec.specs.SearchBound.{search_bound}

-- the bytes end with their log, and some records in it are live
abbrev pub IsLive : List ℕ → Type 0
IsLive bytes = (starts : List ℕ) × (es : List Entry) × Live bytes starts es

-- these live records, and their map
abbrev pub live_of : List ℕ → List Entry
live_of bytes = live_under bytes (length bytes)

abbrev pub map_of : List ℕ → Map
map_of bytes = map_under bytes (length bytes)

abbrev pub levels_of : List Entry → List ℕ
levels_of es = map (λ e. e.level) es

-- how many steps a search may take that ends at this place
abbrev pub bound_at : {es : List Entry} {key : List ℕ} → Place es key → ℕ
bound_at {es} place = search_bound (levels_of es) (length place.front)

-- between two counts lie no more steps than a search for the key may take, and so many besides
abbrev pub StaysInBound : List ℕ → List ℕ → ℕ → ℕ → ℕ → Type 0
StaysInBound bytes key besides old new = (place : Place (live_of bytes) key) → new ≤ old + bound_at place + besides

-- an answer as a pair of lists
abbrev pub pair_of : Option Pair → Option (List ℕ × List ℕ)
pair_of answer = option_map (λ (p : Pair). (p.key.now, p.value.now)) answer
