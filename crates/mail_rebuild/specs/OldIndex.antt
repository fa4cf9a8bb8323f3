-- What the code holds of an old index.
use Rattle.std.specs.Prelude.{◌≡◌, ◌≤◌, ℕ, List, Option, None, Some, length}
use Rattle.base_bytes.specs.declared.limits.TheConstants.{SKIP_LIMIT}
use Rattle.base_devices.specs.CrashImages.{Image}
use Rattle.index_form.specs.Reading.{first_fault}
use Rattle.index_form.specs.Views.{file_of}
use Rattle.index_form.specs.declared.view.IndexView.{IndexView}
use Rattle.mail_rebuild.specs.declared.old_index.OldIndex.{OldIndex}
use Rattle.mail_rebuild.specs.declared.old_index.OldIndex.TheVariants.{Absent, Damaged, Whole}

-- the main file is absent, has this fault first, or is viewed
abbrev pub IsOldIndex : Image → OldIndex → Type 0
IsOldIndex image Absent = image ≡ None
IsOldIndex image (Damaged fault) = (file : List ℕ) × (image ≡ Some file) × (first_fault file ≡ Some fault)
IsOldIndex image (Whole view) = (image ≡ Some (file_of view)) × (first_fault (file_of view) ≡ None)

-- it has no more bytes than an index may have, and no fault where it is viewed
abbrev pub IsShort : OldIndex → Type 0
IsShort Absent = Unit {0}
IsShort (Damaged fault) = Unit {0}
IsShort (Whole view) = (length (file_of view) ≤ SKIP_LIMIT) × (first_fault (file_of view) ≡ None)

-- what is viewed of it
abbrev pub view_of : OldIndex → Option IndexView
view_of (Whole view) = Some view
view_of other = None
