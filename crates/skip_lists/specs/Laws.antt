-- Laws of lists that change.
use Rattle.std.specs.Prelude.{Bool, true, false, ◌≡◌, ◌≢◌, ◌⊎◌, ℕ, ◌+◌, ◌-◌, ◌*◌, ◌^◌, ◌<◌, ◌≤◌, List, [], ◌∷◌, ◌++◌, length, take, slice_index}
use Rattle.std.specs.Int.{w32, w64, to_be_bytes}
use Rattle.check_word.specs.CheckWord.{check_word}
use Rattle.base_bytes.specs.Fields.{part}
use Rattle.base_bytes.specs.Landing.{written_at}
use Rattle.skip_form.specs.declared.head.Kind.TheVariants.{Put}
use Rattle.skip_form.specs.Fields.{pointer_in}
use Rattle.skip_form.specs.Flaws.{head_in}
use Rattle.skip_form.specs.Spelling.{head_of, header_bytes}
use Rattle.skip_spec.specs.Records.{HeadCheckIsRight, head_size_of}
use Rattle.skip_spec.specs.Rows.{IsAmong}
use Rattle.skip_spec.specs.Chain.{Entry}
use Rattle.skip_spec.specs.Change.{heads_of, first_at, last_at}
use Rattle.skip_spec.specs.Successor.{successor_under}
use Rattle.skip_spec.specs.Opens as opens
use Rattle.skip_spec.specs.Opens.{Contents, Tidy, on_level}
use Rattle.skip_spec.specs.Near.{heads, free_slot_of, IsImageOf, IsPermittedWrite}
use Rattle.skip_spec.specs.Live.{HasLog, Live}
use Rattle.skip_spec.specs.Place.{last_on, IsFound}
use Rattle.skip_spec.specs.Spelled.{IsSpelled}
use Rattle.skip_spec.specs.Appending.{record_of, delete_record, put_entry, ChangesLinks}
use Rattle.skip_spec.specs.Recovery.{recovered}
use Rattle.skip_lists.specs.Heads.{HasSlots, SetsPointer, MaySet}
use Rattle.skip_lists.specs.Levels.{Relinking, IsSpot, ArePast}
use Rattle.skip_lists.specs.Repair.{IsLinked}
use Rattle.skip_lists.specs.Tie.{AreKnown}

-- ---- one pointer

-- a pointer is set where it is written, and then the check word over the head
abbrev pub TwoPatchesSetAPointer : Type 0
TwoPatchesSetAPointer =
    (old middle new : List ℕ) (at slot to word : ℕ)
    → HasSlots old at
    → slot ≤ (head_in old at).level
    → to < 2 ^ 64
    → word < 2 ^ 32
    → middle ≡ written_at (at + 8 + 8 * slot) (to_be_bytes w64 to) old
    → word ≡ check_word (part middle at (head_size_of (head_in old at) - 8))
    → new ≡ written_at (at + (head_size_of (head_in old at) - 8)) (to_be_bytes w32 word) middle
    → SetsPointer old new at slot to

-- and the two are one write of the head up to its check
abbrev pub SettingIsOneWrite : Type 0
SettingIsOneWrite =
    (old new : List ℕ) (at slot to : ℕ)
    → HasSlots old at
    → slot ≤ (head_in old at).level
    → SetsPointer old new at slot to
    → length new ≡ length old
    → new ≡ written_at at (part new at (head_size_of (head_in old at) - 4)) old

-- the other pointers of the dummy and the live records stay, and so do right head checks
abbrev pub OtherPointersStay : Type 0
OtherPointersStay =
    (old new starts : List ℕ) (es : List Entry) (end at slot to : ℕ)
    → HasLog old starts es end
    → IsAmong (heads_of es) at
    → SetsPointer old new at slot to
    → slot ≤ (head_in old at).level
    → (head n : ℕ)
    → IsAmong (heads_of es) head
    → ((head ≢ at) ⊎ (n ≢ slot) → n ≤ (head_in old head).level → pointer_in new head n ≡ pointer_in old head n)
    × (HeadCheckIsRight old head → HeadCheckIsRight new head)

-- where an upper pointer is set, the log stays
abbrev pub UpperPointersKeepTheLog : Type 0
UpperPointersKeepTheLog =
    (old new starts : List ℕ) (es : List Entry) (end at slot to : ℕ)
    → HasLog old starts es end
    → IsAmong (heads_of es) at
    → SetsPointer old new at slot to
    → slot ≤ (head_in old at).level
    → 2 ≤ slot
    → HasLog new starts es end

-- ---- what may be written

-- setting a pointer that may be set is a permitted write
abbrev pub SettingIsPermitted : Type 0
SettingIsPermitted =
    (base old new : List ℕ) (says : Contents) (at slot to : ℕ)
    → opens.Reads base says
    → IsImageOf base says old
    → HasSlots old at
    → MaySet base says old at slot to
    → SetsPointer old new at slot to
    → length new ≡ length old
    → IsPermittedWrite base says at (part new at (head_size_of (head_in old at) - 4))

-- A change may lead the slot of a head that was free in its bytes before it appended some, to the committed end or
-- past it.
abbrev pub ChangesMayLead : Type 0
ChangesMayLead =
    (base image grown added : List ℕ) (says : Contents) (at to : ℕ)
    → opens.Reads base says
    → Tidy base says
    → IsImageOf base says image
    → HasSlots image at
    → grown ≡ image ++ added
    → (at < says.header.current_size → IsAmong (heads says) at)
    → says.header.current_size ≤ to
    → MaySet base says grown at (free_slot_of image says.header.current_size at) to

-- a repair may clear a level-zero slot that points to the committed end or past it, also over a dirty base
abbrev pub RepairMayClear : Type 0
RepairMayClear =
    (base image : List ℕ) (says : Contents) (at slot : ℕ)
    → opens.Reads base says
    → IsImageOf base says image
    → slot ≤ 1
    → 1 ≤ (head_in image at).level
    → (at < says.header.current_size → IsAmong (heads says) at)
    → says.header.current_size ≤ pointer_in image at slot
    → MaySet base says image at slot 0

-- ---- along the list

-- from the last of the records that were passed the successor is the first of those that are left
abbrev pub NextIsTheSuccessor : Type 0
NextIsTheSuccessor =
    (file starts : List ℕ) (es passed left : List Entry) (end : ℕ)
    → HasLog file starts es end
    → es ≡ passed ++ left
    → successor_under file end (last_at 64 passed) ≡ first_at left

-- What a search found is a spot: the record of the key and the one after it, where it is there, and else the first
-- one above the key.
abbrev pub FoundIsASpot : Type 0
FoundIsASpot =
    (bytes starts : List ℕ) (es : List Entry) (key : List ℕ) (here : ℕ) (before : List ℕ) (exact : Bool) (same_at next : ℕ)
    → Live bytes starts es
    → IsFound es key here before exact
    → (exact ≡ true → (same_at ≡ here) × (next ≡ successor_under bytes (length bytes) here))
    → (exact ≡ false → (same_at ≡ 0) × (next ≡ here))
    → IsSpot es key before same_at next

-- ---- a record is put in its place, or taken out

-- setting a pointer of the dummy or of a live record changes links alone
abbrev pub SettingChangesLinks : Type 0
SettingChangesLinks =
    (old new : List ℕ) (es : List Entry) (at slot to : ℕ)
    → IsAmong (heads_of es) at
    → slot ≤ (head_in old at).level
    → SetsPointer old new at slot to
    → ChangesLinks es old new

-- and so do two such steps
abbrev pub LinkChangesJoin : Type 0
LinkChangesJoin =
    (first second third starts : List ℕ) (es : List Entry)
    → HasLog first starts es (length first)
    → ChangesLinks es first second
    → ChangesLinks es second third
    → ChangesLinks es first third

-- Where a put record was appended before the records past its place, and the level-zero predecessor leads to it,
-- the new list is there, and its upper levels are pending.
abbrev pub PutBegins : Type 0
PutBegins =
    (old new starts : List ℕ) (es : List Entry) (key before : List ℕ) (same_at next slot : ℕ)
    → Live old starts es
    → (spot : IsSpot es key before same_at next)
    → slot ≤ 1
    → SetsPointer old new (slice_index before 0) slot (length old)
    → key ≢ []
    → (level height : ℕ) (pointers value : List ℕ)
    → 1 ≤ level
    → level ≤ height
    → ArePast pointers spot.place.rest height
    → let r = record_of Put level (take (level + 1) pointers) key value in
    IsSpelled new (length old) r
    → length new ≡ length old + (head_of r).size
    → Relinking new (starts ++ length old ∷ []) spot.place.front spot.place.dropped (put_entry (length old) level key value ∷ []) spot.place.rest 1

-- the same of a delete record that leads to the records past the place
abbrev pub DeleteBegins : Type 0
DeleteBegins =
    (old new starts : List ℕ) (es : List Entry) (key before : List ℕ) (same_at next slot : ℕ)
    → Live old starts es
    → (spot : IsSpot es key before same_at next)
    → slot ≤ 1
    → SetsPointer old new (slice_index before 0) slot (length old)
    → IsSpelled new (length old) (delete_record spot.place.rest)
    → length new ≡ length old + 24
    → Relinking new (starts ++ length old ∷ []) spot.place.front spot.place.dropped [] spot.place.rest 1

-- where the last of the front is led past the place on a level, this level is linked too
abbrev pub LevelIsRelinked : Type 0
LevelIsRelinked =
    (old new starts : List ℕ) (front dropped added rest : List Entry) (level : ℕ)
    → Relinking old starts front dropped added rest level
    → 1 ≤ level
    → level ≤ 30
    → SetsPointer old new (last_on level front) (level + 1) (first_at (on_level level (added ++ rest)))
    → length new ≡ length old
    → Relinking new starts front dropped added rest (level + 1)

-- once all levels are linked that the change touches, the new list is live
abbrev pub RelinkedIsLive : Type 0
RelinkedIsLive =
    (bytes starts : List ℕ) (front dropped added rest : List Entry) (height : ℕ)
    → Relinking bytes starts front dropped added rest height
    → ((level : ℕ) → height ≤ level → on_level level (dropped ++ rest) ≡ on_level level (added ++ rest))
    → Live bytes starts (front ++ (added ++ rest))

-- the pointers that a change sets on upper levels may be set
abbrev pub RelinkingIsAllowed : Type 0
RelinkingIsAllowed =
    (base bytes starts : List ℕ) (says : Contents) (front dropped added rest : List Entry) (level to : ℕ)
    → AreKnown says (front ++ (added ++ rest))
    → Relinking bytes starts front dropped added rest level
    → 1 ≤ level
    → level ≤ 30
    → MaySet base says bytes (last_on level front) (level + 1) to

-- ---- repair

-- An image whose heads are tidy and whose levels are linked, cut to the committed end and with a clean header that
-- counts its records, is recovered.
abbrev pub LinkedImagesRecover : Type 0
LinkedImagesRecover =
    (base image file : List ℕ) (says : Contents)
    → opens.Reads base says
    → IsImageOf base says image
    → IsLinked says image
    → length file ≡ says.header.current_size
    → ((i : ℕ) → 64 ≤ i → i < says.header.current_size → slice_index file i ≡ slice_index image i)
    → take 64 file ≡ header_bytes (recovered says).header
    → opens.Reads file (recovered says) × Tidy file (recovered says)
