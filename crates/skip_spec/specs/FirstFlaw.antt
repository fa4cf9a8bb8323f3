-- What verification answers: the first flaw of a file with its place, or none.
use Rattle.std.specs.Prelude.{◌≡◌, ◌≢◌, ℕ, zero, suc, ◌+◌, ◌-◌, ◌%◌, ◌==◌, ◌<◌, List, [], ◌∷◌, Bool, true, false, not, ◌&&◌, ◌||◌, if◌then◌else◌, length, take, Option, Some, None, nat_lt, nat_le, ◌⊎◌}
use Rattle.std.specs.List.{list_all}
use Rattle.std.specs.Ordering.{is_lt}
use Rattle.base_bytes.specs.OrderedMap.{key_order}
use Rattle.base_bytes.specs.declared.flaw.Flaw.{Flaw}
use Rattle.base_bytes.specs.declared.flaw.Flaw.TheVariants.{Version, Check, Kind, Padding, Tail, Size, Place, Slot, Order, Link, Count}
use Rattle.base_bytes.specs.declared.flaw.Damage.{Damage}
use Rattle.check_word.specs.CheckWord.{check_word}
use Rattle.skip_form.specs.declared.head.Kind.TheVariants.{Put, Gone, Commit}
use Rattle.base_bytes.specs.Fields.{part, u32_in}
use Rattle.skip_form.specs.Fields.{pointer_in}
use Rattle.skip_form.specs.Flaws.{header_flaw, header_in, head_flaw, head_in}
use Rattle.skip_spec.specs.Records.{head_size_of, body_size_of, key_in}
use Rattle.skip_spec.specs.Successor.{is_of, pointer_under, successor_under}
use Rattle.skip_spec.specs.Chain.{Entry, entry_at}

-- ---- checks in a row

-- a check that holds finds nothing, and else this flaw at this place
abbrev pub unless : Bool → ℕ → Flaw → Option Damage
unless true at flaw = None
unless false at flaw = Some (record { at = at; check = flaw })

-- the first that was found
abbrev pub first_some : List (Option Damage) → Option Damage
first_some [] = None
first_some (Some d ∷ others) = Some d
first_some (None ∷ others) = first_some others

-- ---- the header and the dummy

-- where a flaw of the header is reported
abbrev pub header_place : Flaw → ℕ
header_place Version = 20
header_place Check = 60
header_place other = 0

-- a flaw of the header, at its place
abbrev pub at_header_place : Option Flaw → Option Damage
at_header_place None = None
at_header_place (Some flaw) = Some (record { at = header_place flaw; check = flaw })

-- the committed end
abbrev pub end_of : List ℕ → ℕ
end_of file = (header_in file).current_size

-- DIRTY is set
abbrev pub is_dirty : List ℕ → Bool
is_dirty file = (header_in file).flags % 2 == 1

-- the committed end is in the file, and where the file is clean it is the file's end
abbrev pub is_end_right : List ℕ → Bool
is_end_right file = if is_dirty file then nat_le (end_of file) (length file) else end_of file == length file

-- the file up to its committed end
abbrev pub before_end : List ℕ → List ℕ
before_end file = take (end_of file) file

-- a flaw at a place
abbrev pub at_place : ℕ → Option Flaw → Option Damage
at_place at None = None
at_place at (Some flaw) = Some (record { at = at; check = flaw })

-- what is wrong with the place, type, level and lengths of the record at an offset, in the file up to its end
unfoldable pub row_flaw : List ℕ → ℕ → Option Damage
row_flaw file at = at_place at (head_flaw (before_end file) at)

-- the checks of the header and of the row of the dummy, in this order
abbrev pub front_checks : List ℕ → List (Option Damage)
front_checks file =
    at_header_place (header_flaw file)
    ∷ unless (nat_le 336 (end_of file)) 48 Size
    ∷ unless (end_of file % 8 == 0) 48 Size
    ∷ unless (is_end_right file) 48 Size
    ∷ row_flaw file 64
    ∷ []

-- what is wrong with the header, or with the row of the dummy
unfoldable pub front_flaw : List ℕ → Option Damage
front_flaw file = first_some (front_checks file)

-- the head check of the record at an offset is right
abbrev pub is_head_right : List ℕ → ℕ → Bool
is_head_right file at =
    let size = head_size_of (head_in file at) in
    u32_in (part file (at + (size - 8)) 4) == check_word (part file at (size - 8))

-- the tail check of the record at an offset is right
abbrev pub is_tail_right : List ℕ → ℕ → Bool
is_tail_right file at =
    let h = head_in file at in
    u32_in (part file (at + (head_size_of h - 4)) 4) == check_word (part file (at + head_size_of h) (body_size_of h))

-- the checks of the check words of the dummy, in this order
abbrev pub dummy_checks : List ℕ → List (Option Damage)
dummy_checks file =
    unless (is_dirty file || is_head_right file 64) 64 Check
    ∷ unless (is_tail_right file 64) 64 Tail
    ∷ []

-- what is wrong with the check words of the dummy
unfoldable pub dummy_flaw : List ℕ → Option Damage
dummy_flaw file = first_some (dummy_checks file)

-- ---- from one live record to the next

-- the offset is one of these
abbrev pub is_among : List ℕ → ℕ → Bool
is_among [] at = false
is_among (first ∷ others) at = first == at || is_among others at

-- the greatest of the two level-zero slots that is below the committed end, or 0
abbrev pub pointer_under_end : List ℕ → ℕ → ℕ
pointer_under_end file at = pointer_under file (end_of file) at

-- the live record after the one at an offset, or 0
abbrev pub successor : List ℕ → ℕ → ℕ
successor file at = successor_under file (end_of file) at

-- one of the two level-zero slots is below the committed end, and where the file is clean both are
abbrev pub are_slots_right : List ℕ → ℕ → Bool
are_slots_right file at =
    let first = nat_lt (pointer_in file at 0) (end_of file) in
    let second = nat_lt (pointer_in file at 1) (end_of file) in
    if is_dirty file then first || second else first && second

-- the checks of the delete record at an offset, in this order
abbrev pub delete_checks : List ℕ → List ℕ → ℕ → List (Option Damage)
delete_checks file starts at =
    unless (is_head_right file at) at Check
    ∷ unless (is_tail_right file at) at Tail
    ∷ unless (pointer_in file at 0 == 0 || is_among starts (pointer_in file at 0)) at Place
    ∷ unless (pointer_in file at 0 == 0 || is_of file (pointer_in file at 0) Put) (pointer_in file at 0) Kind
    ∷ []

-- what is wrong with the delete record at an offset
unfoldable pub delete_flaw : List ℕ → List ℕ → ℕ → Option Damage
delete_flaw file starts at = first_some (delete_checks file starts at)

-- the checks of a start that a pointer of the record at an offset leads to
abbrev pub pointer_checks : List ℕ → List ℕ → ℕ → ℕ → List (Option Damage)
pointer_checks file starts at pointer =
    unless (is_among starts pointer) at Place
    ∷ unless (not (is_of file pointer Commit)) pointer Kind
    ∷ (if is_of file pointer Gone then delete_flaw file starts pointer else None)
    ∷ []

-- what is wrong with what a pointer of the record at an offset leads to
abbrev pub pointer_flaw : List ℕ → List ℕ → ℕ → ℕ → Option Damage
pointer_flaw file starts at pointer =
    if pointer == 0 then None else first_some (pointer_checks file starts at pointer)

-- the checks, in this order, on the way from the record at an offset to the next live one
abbrev pub way_checks : List ℕ → List ℕ → ℕ → List (Option Damage)
way_checks file starts at =
    unless (are_slots_right file at) at Slot
    ∷ pointer_flaw file starts at (pointer_under_end file at)
    ∷ []

-- what is wrong on the way from the record at an offset to the next live one
unfoldable pub way_flaw : List ℕ → List ℕ → ℕ → Option Damage
way_flaw file starts at = first_some (way_checks file starts at)

-- ---- the live records that were passed, the latest first

-- where the latest begins, or the dummy
abbrev pub latest : List Entry → ℕ
latest [] = 64
latest (e ∷ passed) = e.at

-- its key; the dummy's is empty
abbrev pub latest_key : List Entry → List ℕ
latest_key [] = []
latest_key (e ∷ passed) = e.key

-- where the latest of level above this one begins, or the dummy
abbrev pub latest_on : ℕ → List Entry → ℕ
latest_on level [] = 64
latest_on level (e ∷ passed) = if nat_lt level e.level then e.at else latest_on level passed

-- on the levels from 1 to this one, the latest records point there
abbrev pub lead_to : List ℕ → List Entry → ℕ → ℕ → Bool
lead_to file passed at zero = true
lead_to file passed at (suc level) =
    pointer_in file (latest_on (suc level) passed) (suc level + 1) == at && lead_to file passed at level

-- a byte is zero
abbrev pub is_zero : ℕ → Bool
is_zero byte = byte == 0

-- what stands between the value and the end of the record at an offset is zeros
abbrev pub is_padding_right : List ℕ → ℕ → Bool
is_padding_right file at =
    let h = head_in file at in
    let used = h.key_len + h.value_len in
    list_all is_zero (part file (at + head_size_of h + used) (body_size_of h - used))

-- keys are ordered as bytes, a proper prefix first
abbrev pub is_below : List ℕ → List ℕ → Bool
is_below a b = is_lt (key_order a b)

-- the checks of the live record at an offset after those that were passed, in this order
abbrev pub live_checks : List ℕ → List Entry → ℕ → List (Option Damage)
live_checks file passed at =
    unless (is_dirty file || is_head_right file at) at Check
    ∷ unless (is_tail_right file at) at Tail
    ∷ unless (is_padding_right file at) at Padding
    ∷ unless (is_below (latest_key passed) (key_in file at)) at Order
    ∷ unless (is_dirty file || lead_to file passed at ((head_in file at).level - 1)) at Link
    ∷ []

-- what is wrong with the live record at an offset after those that were passed
unfoldable pub live_flaw : List ℕ → List Entry → ℕ → Option Damage
live_flaw file passed at = first_some (live_checks file passed at)

-- the checks, in this order, once all live records were passed
abbrev pub end_checks : List ℕ → List Entry → List (Option Damage)
end_checks file passed =
    unless (is_dirty file || lead_to file passed 0 30) 64 Link
    ∷ unless (is_dirty file || (header_in file).num_records == length passed) 32 Count
    ∷ []

-- what is wrong once all live records were passed
unfoldable pub end_flaw : List ℕ → List Entry → Option Damage
end_flaw file passed = first_some (end_checks file passed)

-- the checks, in this order, after the live records that were passed, up to the next one or the end
abbrev pub next_checks : List ℕ → List ℕ → List Entry → List (Option Damage)
next_checks file starts passed =
    way_flaw file starts (latest passed)
    ∷ (if successor file (latest passed) == 0 then end_flaw file passed else live_flaw file passed (successor file (latest passed)))
    ∷ []

-- what is wrong after the live records that were passed, up to the next one or the end
unfoldable pub next_flaw : List ℕ → List ℕ → List Entry → Option Damage
next_flaw file starts passed = first_some (next_checks file starts passed)

-- ---- the first flaw

-- from one place to another records stand back to back at just these offsets, and none has a flaw
abbrev pub RightRows : List ℕ → ℕ → List ℕ → ℕ → Type 0
RightRows file from [] to = from ≡ to
RightRows file from (start ∷ starts) to =
    (start ≡ from) × (row_flaw file from ≡ None) × (from < end_of file) × RightRows file (from + (head_in file from).size) starts to

-- these live records, the latest first, were passed from the dummy on, and none has a flaw
abbrev pub RightLive : List ℕ → List ℕ → List Entry → Type 0
RightLive file starts [] = Unit {0}
RightLive file starts (e ∷ passed) =
    (next_flaw file starts passed ≡ None)
    × (successor file (latest passed) ≢ 0)
    × (e ≡ entry_at file (successor file (latest passed)))
    × RightLive file starts passed

-- the list goes right up to the answer's flaw, or to its end
abbrev pub InChain : List ℕ → List ℕ → Option Damage → Type 0
InChain file starts answer =
    (passed : List Entry)
    × RightLive file starts passed
    × (next_flaw file starts passed ≡ answer)
    × ((answer ≢ None) ⊎ (successor file (latest passed) ≡ 0))

-- the dummy has the answer's flaw, or it is right, and the list has the answer
abbrev pub FromDummy : List ℕ → List ℕ → Option Damage → Type 0
FromDummy file starts answer =
    ((answer ≢ None) × (dummy_flaw file ≡ answer)) ⊎ ((dummy_flaw file ≡ None) × InChain file starts answer)

-- the rows are right up to one with the answer's flaw, or all are, and what comes after them has the answer
abbrev pub FromRows : List ℕ → Option Damage → Type 0
FromRows file answer =
    (starts : List ℕ)
    × (at : ℕ)
    × RightRows file 336 starts at
    × (((at < end_of file) × (answer ≢ None) × (row_flaw file at ≡ answer)) ⊎ ((at ≡ end_of file) × FromDummy file starts answer))

-- the answer of verification: the first flaw of the file, or none
abbrev pub FirstFlaw : List ℕ → Option Damage → Type 0
FirstFlaw file answer = ((answer ≢ None) × (front_flaw file ≡ answer)) ⊎ ((front_flaw file ≡ None) × FromRows file answer)
