-- Laws of files and images.
use Rattle.std.specs.Prelude.{◌≡◌, ◌↔◌, ◌+◌, ◌^◌, ◌<◌, ◌≤◌, ℕ, List, [], ◌∷◌, ◌++◌, length, take, slice_index, Option, None}
use Rattle.std.specs.List.{AllByRecursion}
use Rattle.base_bytes.specs.Fields.{AreBytes}
use Rattle.base_bytes.specs.OrderedMap.{Map, IsOrderedMap, IsBelow, BeginsAbove, put, without, value_at, first_from, first_above}
use Rattle.base_bytes.specs.Landing.{Lands}
use Rattle.base_bytes.specs.declared.flaw.Damage.{Damage}
use Rattle.skip_form.specs.declared.head.Head.{Head}
use Rattle.skip_form.specs.Flaws.{head_in}
use Rattle.skip_form.specs.Spelling.{StandsAt}
use Rattle.skip_spec.specs.FirstFlaw.{FirstFlaw}
use Rattle.skip_spec.specs.Opens.{Contents, Reads, Tidy, Opens, HasDirty, with_dirty}
use Rattle.skip_spec.specs.Near.{Near, IsPermittedWrite}
use Rattle.skip_spec.specs.Successor.{IsSuccessorUnder}
use Rattle.skip_spec.specs.Chain.{Entry, Chain, StandsAsEntry, pairs}
use Rattle.skip_spec.specs.Live.{live_under, Live, IsCommitted}
use Rattle.skip_spec.specs.Place.{Place, first_value, first_pair}
use Rattle.skip_spec.specs.Layout.{Item, IsPair, FitsLayout, IsFresh, fresh_layout, fresh_size, items_of, with_words, Converted, Repacked}
use Rattle.skip_spec.specs.Recovery.{recovered}
use Rattle.skip_spec.specs.Change.{Changes, first_at, last_at, last_key}

-- ---- of files

-- a file opens to at most one map
abbrev pub OpensToOneMap : Type 0
OpensToOneMap = (file : List ℕ) (m n : Map) → Opens file m → Opens file n → m ≡ n

-- the keys of the map that a file opens to rise strictly
abbrev pub OpensToOrderedMap : Type 0
OpensToOrderedMap = (file : List ℕ) (m : Map) → Opens file m → IsOrderedMap m

-- A head depends on the bytes before an end alone: where it begins so far before the end, the file up to the end
-- has the same one.
abbrev pub HeadsStandBeforeEnd : Type 0
HeadsStandBeforeEnd = (file : List ℕ) (end at : ℕ) → at + 8 ≤ end → end ≤ length file → head_in (take end file) at ≡ head_in file at

-- a record stands in the file up to an end exactly where it stands in the file and ends by then
abbrev pub RecordsStandBeforeEnd : Type 0
RecordsStandBeforeEnd =
    (file : List ℕ) (end at : ℕ) (h : Head)
    → end ≤ length file
    → StandsAt (take end file) at h ↔ (StandsAt file at h × (at + h.size ≤ end))

-- ---- of live records

-- the live records of a file that is read are those of the function
abbrev pub FileListsAreComputed : Type 0
FileListsAreComputed = (file : List ℕ) (says : Contents) → Reads file says → live_under file says.header.current_size ≡ says.chain

-- and so are those of bytes that end with their log
abbrev pub LiveListsAreComputed : Type 0
LiveListsAreComputed = (bytes starts : List ℕ) (es : List Entry) → Live bytes starts es → live_under bytes (length bytes) ≡ es

-- the records of a tidy file are live
abbrev pub TidyFilesAreLive : Type 0
TidyFilesAreLive = (file : List ℕ) (says : Contents) → Reads file says → Tidy file says → Live file says.starts says.chain

-- Where the records of a file are live, and a right header without DIRTY names their end and their number, the
-- file reads so and is tidy.
abbrev pub LiveFilesAreTidy : Type 0
LiveFilesAreTidy =
    (file : List ℕ) (says : Contents)
    → Live file says.starts says.chain
    → IsCommitted file says
    → Reads file says × Tidy file says

-- the header says nothing of the log: under another the same records are live
abbrev pub LiveWhateverTheHeader : Type 0
LiveWhateverTheHeader =
    (old new starts : List ℕ) (es : List Entry)
    → Live old starts es
    → length new ≡ length old
    → ((i : ℕ) → 64 ≤ i → i < length old → slice_index new i ≡ slice_index old i)
    → Live new starts es

-- ---- of places

-- each key, the empty one too, has a place among records whose keys rise
abbrev pub EachKeyHasAPlace : Type 0
EachKeyHasAPlace = (es : List Entry) (key : List ℕ) → IsOrderedMap (pairs es) → Place es key

-- the keys of live records rise
abbrev pub LiveKeysRise : Type 0
LiveKeysRise = (bytes starts : List ℕ) (es : List Entry) → Live bytes starts es → IsOrderedMap (pairs es)

-- a record in its place puts its pair into the map
abbrev pub PlacePuts : Type 0
PlacePuts =
    (es : List Entry) (key : List ℕ) (place : Place es key) (e : Entry)
    → IsOrderedMap (pairs es)
    → e.key ≡ key
    → pairs (place.front ++ e ∷ place.rest) ≡ put (pairs es) key e.value

-- without the record of the key the map lacks the key
abbrev pub PlaceRemoves : Type 0
PlaceRemoves =
    (es : List Entry) (key : List ℕ) (place : Place es key)
    → IsOrderedMap (pairs es)
    → pairs (place.front ++ place.rest) ≡ without (pairs es) key

-- the record of the key has its value, and where there is none the key has none
abbrev pub PlaceTells : Type 0
PlaceTells =
    (es : List Entry) (key : List ℕ) (place : Place es key)
    → IsOrderedMap (pairs es)
    → value_at (pairs es) key ≡ first_value place.dropped

-- the first pair that is not below the key is that of the first record from its place on
abbrev pub PlaceLeadsFrom : Type 0
PlaceLeadsFrom = (es : List Entry) (key : List ℕ) (place : Place es key) → first_from (pairs es) key ≡ first_pair (place.dropped ++ place.rest)

-- the first pair above the key is that of the first record past its place
abbrev pub PlaceLeadsPast : Type 0
PlaceLeadsPast = (es : List Entry) (key : List ℕ) (place : Place es key) → first_above (pairs es) key ≡ first_pair place.rest

-- ---- of images

-- an image of an open transaction opens to the map of its base
abbrev pub ImagesOpenAlike : Type 0
ImagesOpenAlike = (base image : List ℕ) (m : Map) → Opens base m → Near base image → Opens image m

-- where a permitted write lands on a dirty image, in whole or in part, it stays near its base and dirty
abbrev pub LandingsStayNear : Type 0
LandingsStayNear =
    (base old image : List ℕ) (says : Contents) (at : ℕ) (bytes : List ℕ)
    → Reads base says
    → Near base old
    → HasDirty old
    → IsPermittedWrite base says at bytes
    → Lands old at bytes image
    → Near base image × HasDirty image

-- a dirty image that is cut, but not below the committed end, stays near its base and dirty
abbrev pub CutsStayNear : Type 0
CutsStayNear =
    (base image : List ℕ) (says : Contents) (count : ℕ)
    → Reads base says
    → Near base image
    → HasDirty image
    → says.header.current_size ≤ count
    → Near base (take count image) × HasDirty (take count image)

-- a write from the committed end on is permitted
abbrev pub AppendsArePermitted : Type 0
AppendsArePermitted =
    (base : List ℕ) (says : Contents) (at : ℕ) (bytes : List ℕ)
    → Reads base says
    → says.header.current_size ≤ at
    → IsPermittedWrite base says at bytes

-- ---- of the fresh layout

-- the layout of an ordered map that fits it is a tidy file of this map, with these levels
abbrev pub LayoutsAreFresh : Type 0
LayoutsAreFresh = (generation flags : ℕ) (items : List Item) → FitsLayout generation flags items → IsFresh generation flags items (fresh_layout generation flags items)

-- a file that a conversion wrote opens to the map
abbrev pub ConvertedFilesOpen : Type 0
ConvertedFilesOpen =
    (m : Map) (words file : List ℕ)
    → Converted m words file
    → IsOrderedMap m
    → BeginsAbove [] m
    → AllByRecursion (λ p. IsPair p.0 p.1) m
    → fresh_size (with_words m words) < 2 ^ 64
    → Opens file m

-- a file that a repack wrote opens to the old one's map
abbrev pub RepackedFilesOpen : Type 0
RepackedFilesOpen =
    (old file : List ℕ) (m : Map)
    → AreBytes old
    → Opens old m
    → Repacked old file
    → ((says : Contents) → Reads old says → fresh_size (items_of says.chain) < 2 ^ 64)
    → Opens file m

-- ---- of recovery

-- what recovery gives back of a tidy file's image is what the file said
abbrev pub RecoveryGivesBack : Type 0
RecoveryGivesBack =
    (base : List ℕ) (says : Contents)
    → Tidy base says
    → recovered (record says { header = with_dirty says.header }) ≡ says

-- ---- of changes

-- Where the last of the front leads to a record that was appended, and that leads to the rest, the list
-- is the front, the record and the rest. A record of the same key may be dropped.
abbrev pub PutGivesChain : Type 0
PutGivesChain =
    (old new : List ℕ) (bound bound' end : ℕ) (starts starts' : List ℕ) (front dropped rest : List Entry) (e : Entry)
    → Changes old new bound bound' end starts starts' front dropped rest
    → StandsAsEntry new starts' e
    → IsBelow (last_key [] front) e.key
    → BeginsAbove e.key (pairs rest)
    → IsSuccessorUnder new bound' starts' (last_at 64 front) e.at
    → IsSuccessorUnder new bound' starts' e.at (first_at rest)
    → Chain new bound' starts' 64 [] (front ++ e ∷ rest)

-- where the last of the front leads to the rest, the list is the front and the rest
abbrev pub DeleteGivesChain : Type 0
DeleteGivesChain =
    (old new : List ℕ) (bound bound' end : ℕ) (starts starts' : List ℕ) (front dropped rest : List Entry)
    → Changes old new bound bound' end starts starts' front dropped rest
    → IsSuccessorUnder new bound' starts' (last_at 64 front) (first_at rest)
    → Chain new bound' starts' 64 [] (front ++ rest)

-- ---- of verification

-- verification finds no flaw exactly where the file opens to some map
abbrev pub FlawlessOpens : Type 0
FlawlessOpens = (file : List ℕ) → AreBytes file → FirstFlaw file None ↔ ((m : Map) × Opens file m)

-- verification has one answer at most
abbrev pub FirstFlawIsUnique : Type 0
FirstFlawIsUnique = (file : List ℕ) (a b : Option Damage) → FirstFlaw file a → FirstFlaw file b → a ≡ b

-- each file has an answer
abbrev pub FirstFlawExists : Type 0
FirstFlawExists = (file : List ℕ) → (answer : Option Damage) × FirstFlaw file answer
