-- What a flat file opens to.
use Rattle.std.specs.Prelude.{◌≡◌, ℕ, List, Option}
use Rattle.base_devices.specs.CrashImages.{Image, DiskState, WhereRead}
use Rattle.base_bytes.specs.OrderedMap.{Map, IsDbMap, value_at}
use Rattle.base_bytes.specs.declared.limits.TheConstants.{FLAT_LIMIT}
use Rattle.db_core.specs.Opening.{Holds}
use Rattle.flat_db.specs.FlatText.{FlatTextOf}

-- the file is there, within its limit, and its text is that of the map
abbrev pub flat_opens : Image → Map → Type 0
flat_opens main m = Holds FLAT_LIMIT (λ text. FlatTextOf text m) main

-- it opens to some map
abbrev pub IsFlat : Image → Type 0
IsFlat main = (m : Map) × flat_opens main m

-- the file that is read opens to a map, and there the key has this value
pub record HasValue (key : List ℕ) (value : Option (List ℕ)) (d : DiskState) : Type 0 where
  pub map : Map
  pub sound : IsDbMap map
  pub opens : WhereRead d (λ main. flat_opens main map)
  pub found : value ≡ value_at map key
