-- A text that is shown as it stands, and what a file gives that is opened to be shown.
use Rattle.std.specs.Prelude.{◌≡◌, ℕ, List, [], ◌∷◌, ◌++◌, Ok}
use Rattle.base_bytes.specs.OrderedMap.{Map, IsDbMap}
use Rattle.base_devices.specs.CrashImages.{DiskState, WhereRead}
use Rattle.db_core.specs.Opening.{OpensAs}
use Rattle.flat_db.specs.FlatText.{FlatTextOf}
use Rattle.flat_db.specs.Opening.{flat_opens}
use Rattle.flat_db.specs.Sessions.{FlatSession, FlatTied, flat_kind, flat_state}
use Rattle.flat_db.specs.declared.showing.Shown.{Shown}
use Rattle.flat_db.specs.declared.showing.Shown.TheVariants.{Text, Session}

-- a pair as it is: its key, TAB, its value, LF
abbrev pub bare_line : List ℕ × List ℕ → List ℕ
bare_line p = p.0 ++ (9 ∷ (p.1 ++ (10 ∷ [])))

abbrev pub bare_text : Map → List ℕ
bare_text [] = []
bare_text (p ∷ m) = bare_line p ++ bare_text m

-- the text is that of a map, and has its pairs as they are
pub record IsBare (text : List ℕ) : Type 0 where
  pub map : Map
  pub sound : IsDbMap map
  pub reads : FlatTextOf text map
  pub bare : text ≡ bare_text map

-- the file that is read opens to a map, of whose pairs as they are the text is
pub record ReadsBare (text : List ℕ) (d : DiskState) : Type 0 where
  pub map : Map
  pub sound : IsDbMap map
  pub opens : WhereRead d (λ main. flat_opens main map)
  pub bare : text ≡ bare_text map

abbrev pub ShowsAs : DiskState → Shown → Type 0
ShowsAs d (Text text) = ReadsBare text.items d
ShowsAs d (Session db) = OpensAs {B = FlatSession} flat_kind flat_state d (Ok db)

-- a session is tied to the disk
abbrev pub ShownTied : DiskState → Shown → Type 0
ShownTied d (Text text) = Unit {0}
ShownTied d (Session db) = FlatTied db d
