-- What a store and a delete do, step by step.
use Rattle.std.specs.Prelude.{◌≡◌, ℕ, ◌<◌, List, [], ◌∷◌, ◌++◌, length, take, drop}
use Rattle.base_devices.specs.CrashImages.{DiskState}
use Rattle.skip_form.specs.Spelling.{Record, record_bytes}
use Rattle.skip_spec.specs.Rows.{IsAmong}
use Rattle.skip_spec.specs.Chain.{Entry}
use Rattle.skip_spec.specs.Opens.{Contents, Tidy}
use Rattle.skip_spec.specs.Near.{heads, free_slot_of}
use Rattle.skip_spec.specs.Live.{Live, live_under}
use Rattle.skip_spec.specs.Spelled.{IsSpelled}
use Rattle.skip_spec.specs.Appending.{ChangesLinks, put_entry, put_record, delete_record}
use Rattle.skip_lists.specs.Heads.{SetsPointer}
use Rattle.skip_lists.specs.Levels.{Relinking, Leads, IsSpot}
use Rattle.skip_lists.specs.Tie.{TiedToBase, AreKnown}
use Rattle.skip_change.specs.declared.spot.Spot.{Spot}

-- ---- where a key stands

-- The spot is that of a key among the live records of these bytes.
pub record HasSpot (bytes key : List ℕ) (spot : Spot) : Type 0 where
  pub starts : List ℕ
  pub es : List Entry
  pub live : Live bytes starts es
  pub found : IsSpot es key spot.before spot.same_at spot.next

-- ---- what changed of the bytes

-- only links of the dummy and of these records changed, and bytes were appended
pub record KeepsRest (es : List Entry) (old new : List ℕ) : Type 0 where
  pub header : take 64 new ≡ take 64 old
  pub links : ChangesLinks es old new

-- a record was appended, and the free slot of the record at an offset leads to it
pub record Places (committed at : ℕ) (r : Record) (old new : List ℕ) : Type 0 where
  pub sets : SetsPointer old new at (free_slot_of old committed at) (length old)
  pub spelled : IsSpelled new (length old) r

-- this is the committed end, and below it the offset is that of a head of the base
pub record IsKnown (says : Contents) (committed at : ℕ) : Type 0 where
  pub end : says.header.current_size ≡ committed
  pub head : at < committed → IsAmong (heads says) at

-- ---- the upper levels

-- in place of some records others are listed, between those before and those after them
pub record Swap : Type 0 where
  pub starts : List ℕ
  pub front : List Entry
  pub dropped : List Entry
  pub added : List Entry
  pub rest : List Entry

-- the records that are listed then
abbrev pub listed_by : Swap → List Entry
listed_by s = s.front ++ (s.added ++ s.rest)

-- level zero lists them, and on each upper level below a height this head is to lead there
pub record IsBegun (bytes before leads : List ℕ) (height : ℕ) (s : Swap) : Type 0 where
  pub relinking : Relinking bytes s.starts s.front s.dropped s.added s.rest 1
  pub to_lead : Leads before leads s.front s.added s.rest height

-- the levels below a height link them, and only the front's links changed
pub record IsRelinked (old new : List ℕ) (height : ℕ) (s : Swap) : Type 0 where
  pub relinking : Relinking new s.starts s.front s.dropped s.added s.rest height
  pub rest : KeepsRest s.front old new

-- ---- a whole change

-- a put record of this level and value was appended, for the key of a spot
pub record IsStored (level : ℕ) (value old new : List ℕ) {key : List ℕ} {spot : Spot} (s : HasSpot old key spot) : Type 0 where
  pub added : drop (length old) new ≡ record_bytes (put_record (put_entry (length old) level key value) s.found.place.rest)
  pub keeps : KeepsRest s.es old new
  pub live : Live new (s.starts ++ length old ∷ []) (s.found.place.front ++ (put_entry (length old) level key value ∷ s.found.place.rest))

-- a delete record was appended, for the key of a spot
pub record IsDeleted (old new : List ℕ) {key : List ℕ} {spot : Spot} (s : HasSpot old key spot) : Type 0 where
  pub added : drop (length old) new ≡ record_bytes (delete_record s.found.place.rest)
  pub keeps : KeepsRest s.es old new
  pub live : Live new (s.starts ++ length old ∷ []) (s.found.place.front ++ s.found.place.rest)

-- Something has changed since a tidy base with this committed end. The disk is tied to the base, which holds all live
-- records below that end.
pub record IsTied (base : List ℕ) (says : Contents) (committed : ℕ) (bytes : List ℕ) (disk : DiskState) : Type 0 where
  pub end : says.header.current_size ≡ committed
  pub tidy : Tidy base says
  pub tied : TiedToBase base says bytes disk
  pub known : AreKnown says (live_under bytes (length bytes))
