-- The live record after a live record or the dummy, where only offsets below a bound count.
use Rattle.std.specs.Prelude.{◌≡◌, ℕ, ◌==◌, ◌<◌, ◌≤◌, List, Bool, if◌then◌else◌, nat_lt, max, ◌⊎◌}
use Rattle.skip_form.specs.declared.head.Kind as kinds
use Rattle.skip_form.specs.declared.head.Kind.TheVariants.{Put, Gone}
use Rattle.skip_form.specs.Fields.{pointer_in}
use Rattle.skip_form.specs.Flaws.{head_in}
use Rattle.skip_form.specs.Spelling.{type_byte}
use Rattle.skip_spec.specs.Records.{HasKind, HeadCheckIsRight, TailCheckIsRight}
use Rattle.skip_spec.specs.Rows.{IsAmong}

-- ---- as a relation

-- the greatest of two numbers that is below the bound
pub record IsGreatestUnder (bound x y greatest : ℕ) : Type 0 where
  pub below : greatest < bound
  pub one_of : (greatest ≡ x) ⊎ (greatest ≡ y)
  pub first : x < bound → x ≤ greatest
  pub second : y < bound → y ≤ greatest

-- the level-zero pointer of the record at an offset: the greatest of its two slots that is below the bound
abbrev pub IsPointerUnder : List ℕ → ℕ → ℕ → ℕ → Type 0
IsPointerUnder file bound at pointer = IsGreatestUnder bound (pointer_in file at 0) (pointer_in file at 1) pointer

-- A delete record with right check words stands at one start, and leads on to a put record at another
-- or to the end, which is 0.
pub record LeadsPastDelete (file starts : List ℕ) (at next : ℕ) : Type 0 where
  pub start : IsAmong starts at
  pub kind : HasKind file at Gone
  pub head_check : HeadCheckIsRight file at
  pub tail_check : TailCheckIsRight file at
  pub pointer : pointer_in file at 0 ≡ next
  pub leads : (next ≡ 0) ⊎ (IsAmong starts next × HasKind file next Put)

-- a pointer is the end, or that of a put record, or leads past a delete record
abbrev pub LeadsTo : List ℕ → List ℕ → ℕ → ℕ → Type 0
LeadsTo file starts pointer next =
    ((pointer ≡ 0) × (next ≡ 0))
    ⊎ ((IsAmong starts pointer × HasKind file pointer Put × (next ≡ pointer)) ⊎ LeadsPastDelete file starts pointer next)

-- the live record after the one at an offset is the one at next, or there is none and next is 0
abbrev pub IsSuccessorUnder : List ℕ → ℕ → List ℕ → ℕ → ℕ → Type 0
IsSuccessorUnder file bound starts at next =
    (pointer : ℕ) × IsPointerUnder file bound at pointer × LeadsTo file starts pointer next

-- ---- as a function

-- the record at an offset is of this type
abbrev pub is_of : List ℕ → ℕ → kinds.Kind → Bool
is_of file at kind = type_byte (head_in file at).kind == type_byte kind

-- a number where it is below the bound, and else 0
abbrev pub below_or_zero : ℕ → ℕ → ℕ
below_or_zero bound n = if nat_lt n bound then n else 0

-- the greatest of the two level-zero slots that is below the bound, or 0
abbrev pub pointer_under : List ℕ → ℕ → ℕ → ℕ
pointer_under file bound at = max (below_or_zero bound (pointer_in file at 0)) (below_or_zero bound (pointer_in file at 1))

-- the live record after the one at an offset, or 0: the pointer, or where a delete record stands there, its pointer
unfoldable pub successor_under : List ℕ → ℕ → ℕ → ℕ
successor_under file bound at =
    let pointer = pointer_under file bound at in
    if pointer == 0 then 0
    else if is_of file pointer Gone then pointer_in file pointer 0
    else pointer
