-- Twoskip as a kind of database.
use Rattle.std.specs.Prelude.{◌≡◌, ℕ, ◌+◌, true, false, List, [], length, Some}
use Rattle.base_bytes.specs.Fields.{AreBytes}
use Rattle.base_bytes.specs.OrderedMap.{Map}
use Rattle.base_bytes.specs.declared.change.Change.{Change}
use Rattle.base_bytes.specs.declared.change.Change.TheVariants.{Put, Del}
use Rattle.base_bytes.specs.declared.flaw.Damage.{Damage}
use Rattle.base_bytes.specs.declared.limits.TheConstants.{SKIP_LIMIT}
use Rattle.base_devices.specs.CrashImages.{Image}
use Rattle.db_core.specs.Opening.{Holds}
use Rattle.db_core.specs.Sessions.{DbKind}
use Rattle.skip_form.specs.Sizes.{record_size}
use Rattle.skip_spec.specs.FirstFlaw.{FirstFlaw, end_of, is_dirty}
use Rattle.skip_spec.specs.Layout.{fresh_layout, level_for}
use Rattle.skip_spec.specs.Opens.{Opens}

-- the file is there, within its limit, and its live records are those of the map
abbrev pub skip_opens : Image → Map → Type 0
skip_opens main m = Holds SKIP_LIMIT (λ file. Opens file m) main

-- verification answers this flaw of these bytes
pub record IsFlawedAt (file : List ℕ) (damage : Damage) : Type 0 where
  pub bytes : AreBytes file
  pub first : FirstFlaw file (Some damage)

-- how many bytes a delete record takes, and a commit record
abbrev pub plain_size : ℕ
plain_size = record_size 0 0 0

-- how many bytes the record of a change takes
abbrev pub change_size : Change → ℕ
change_size (Put word key value) = record_size (level_for word) (length key) (length value)
change_size (Del key) = plain_size

-- The load is the end of the records. A change appends one record, and a transaction that changed something one more.
-- Only a file with DIRTY is written when it is opened.
abbrev pub skip_kind : DbKind
skip_kind = record {
  opens = skip_opens;
  flawed = IsFlawedAt;
  limit = SKIP_LIMIT;
  empty = fresh_layout 1 0 [];
  load_of = end_of;
  is_settled = λ file. is_dirty file ≡ false;
  load_after = λ _ load change. load + change_size change;
  size_after = λ _ load change. load + change_size change + plain_size;
  load_committed = λ load. load + plain_size;
  works_in_place = true;
}
