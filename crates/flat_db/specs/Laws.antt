-- What holds of every text.
use Rattle.std.specs.Prelude.{◌≡◌, ◌≢◌, ◌↔◌, ℕ, List, [], Option, None}
use Rattle.base_bytes.specs.OrderedMap.{Map, IsDbMap, put}
use Rattle.base_bytes.specs.declared.flaw.Damage.{Damage}
use Rattle.flat_db.specs.FlatText.{FlatTextOf, FirstFlatFlaw, canonical_text}

-- a text is that of one map
abbrev pub TextIsOneMap : Type 0
TextIsOneMap = (text : List ℕ) → (m n : Map) → FlatTextOf text m → FlatTextOf text n → m ≡ n

-- whose keys rise strictly, and are not empty
abbrev pub TextIsOrdered : Type 0
TextIsOrdered = (text : List ℕ) → (m : Map) → FlatTextOf text m → IsDbMap m

-- a text has one first flaw, or none
abbrev pub FirstFlawIsOne : Type 0
FirstFlawIsOne = (text : List ℕ) → (a b : Option Damage) → FirstFlatFlaw text a → FirstFlatFlaw text b → a ≡ b

abbrev pub FirstFlawExists : Type 0
FirstFlawExists = (text : List ℕ) → (answer : Option Damage) × FirstFlatFlaw text answer

-- none exactly where it is the text of a map
abbrev pub FlawlessOpens : Type 0
FlawlessOpens = (text : List ℕ) → FirstFlatFlaw text None ↔ ((m : Map) × FlatTextOf text m)

-- the canonical text of the map of a database is that of this map
abbrev pub CanonicalReadsBack : Type 0
CanonicalReadsBack = (m : Map) → IsDbMap m → FlatTextOf (canonical_text m) m

-- so is that of the map of a text with a pair put
abbrev pub PutReadsBack : Type 0
PutReadsBack = (text key value : List ℕ) → (m : Map) → key ≢ [] → FlatTextOf text m → FlatTextOf (canonical_text (put m key value)) (put m key value)
