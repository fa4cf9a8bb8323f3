-- One item of a layout after another.
use Rattle.std.proofs.Common.{refl, ◌≡◌, ℕ, zero, suc, ◌+◌, ◌-◌, ◌<◌, ◌≤◌, List, [], ◌∷◌, length, get_or, drop, sym, ap, ◌∙◌, subst, arith}
use Rattle.std.specs.List.{AllByRecursion}
use Rattle.std.proofs.lemmas.List.{at_drop_more}
use Rattle.skip_spec.specs.Layout.{Item, fresh_entries, fresh_size, laid_out, records_size}
use Rattle.skip_layout.specs.declared.item.LayoutItem.{LayoutItem}
use Rattle.skip_layout.specs.Items.{FitsRecord, entry_at, item_of, items_in}
use Rattle.skip_layout.specs.Sizes.{item_size}

-- an item that stands nowhere
abbrev pub nothing : LayoutItem
nothing = record { level = 0; key = record { ref_ptr = (0, 0); now = [] }; value = record { ref_ptr = (0, 0); now = [] } }

-- an item, and those behind it
pub then_rest : (items : List LayoutItem) (k : ℕ) → k < length items → items_in (drop k items) ≡ item_of (get_or items k nothing) ∷ items_in (drop (k + 1) items)
then_rest items k below = at_drop_more items_in items k nothing below

pub fits_from : (items : List LayoutItem) (k : ℕ) → AllByRecursion FitsRecord (items_in items) → AllByRecursion FitsRecord (items_in (drop k items))
fits_from items zero all = all
fits_from [] (suc k) all = all
fits_from (item ∷ items) (suc k) all = fits_from items k all.1

-- so each fits
pub item_fits : (items : List LayoutItem) (k : ℕ) → AllByRecursion FitsRecord (items_in items) → k < length items → FitsRecord (item_of (get_or items k nothing))
item_fits items k all below =
    let from = subst (λ (l : List Item). AllByRecursion FitsRecord l) (then_rest items k below) (fits_from items k all) in
    from.0

-- some of the records take no more than all
pub records_part : (items : List LayoutItem) (k : ℕ) → records_size (items_in (drop k items)) ≤ records_size (items_in items)
records_part items zero = omega arith
records_part [] (suc k) = omega arith
records_part (item ∷ items) (suc k) = omega (arith, records_part items k)

-- one record more
pub records_more : (items : List LayoutItem) (k : ℕ) → k < length items → records_size (items_in (drop k items)) ≡ item_size (item_of (get_or items k nothing)) + records_size (items_in (drop (k + 1) items))
records_more items k below = ap records_size (then_rest items k below)

-- the size, where there is an item
pub some_size : (items : List LayoutItem) → 0 < length items → fresh_size (items_in items) ≡ 360 + records_size (items_in items)
some_size [] some = absurd (omega arith)
some_size (item ∷ items) some = omega arith

-- the same, where so many are left
pub before_left : (items : List LayoutItem) (left : ℕ) → 0 < left → left ≤ length items → records_size (items_in (drop (left - 1) items)) ≡ item_size (item_of (get_or items (left - 1) nothing)) + records_size (items_in (drop left items))
before_left items left some within =
    let e : left - 1 + 1 ≡ left = omega arith in
    records_more items (left - 1) (omega arith) ∙ ap (λ (n : ℕ). item_size (item_of (get_or items (left - 1) nothing)) + records_size (items_in (drop n items))) e

-- so there is room for the next one
pub next_fits : (items : List LayoutItem) (left at total : ℕ) → 0 < left → left ≤ length items → at + records_size (items_in (drop left items)) ≡ total → total ≡ records_size (items_in items) → item_size (item_of (get_or items (left - 1) nothing)) ≤ at
next_fits items left at total some within place all = omega (arith, before_left items left some within, records_part items (left - 1))

-- the items from a place on, laid out before the others
pub laid_then : (items : List LayoutItem) (k left at was : ℕ) → k < length items → left ≡ k + 1 → at + item_size (item_of (get_or items k nothing)) ≡ was
    → laid_out (336 + at) (items_in (drop k items)) ≡ entry_at (336 + at) (item_of (get_or items k nothing)) ∷ laid_out (336 + was) (items_in (drop left items))
laid_then items k left at was below is_left is_was =
    let item = item_of (get_or items k nothing) in
    let next : 336 + at + item_size item ≡ 336 + was = omega (arith, is_was) in
    ap (λ (l : List Item). laid_out (336 + at) l) (then_rest items k below)
    ∙ ap (λ (n : ℕ). entry_at (336 + at) item ∷ laid_out n (items_in (drop (k + 1) items))) next
    ∙ ap (λ (n : ℕ). entry_at (336 + at) item ∷ laid_out (336 + was) (items_in (drop n items))) (sym is_left)

-- where none is left, all are laid out from 336 on
pub none_left : (items : List LayoutItem) (left at total : ℕ) → left ≤ 0 → at + records_size (items_in (drop left items)) ≡ total → total ≡ records_size (items_in items) → at ≡ 0
none_left items left at total none place all =
    let e : left ≡ 0 = omega arith in
    omega (arith, ap (λ (n : ℕ). records_size (items_in (drop n items))) e)

pub laid_all : (items : List LayoutItem) (left at : ℕ) → left ≤ 0 → at ≡ 0 → laid_out (336 + at) (items_in (drop left items)) ≡ fresh_entries (items_in items)
laid_all items left at none start =
    let e : left ≡ 0 = omega arith in
    ap (λ (n : ℕ). laid_out (336 + at) (items_in (drop n items))) e ∙ ap (λ (n : ℕ). laid_out (336 + n) (items_in items)) start

pub length-laid : (at : ℕ) (items : List Item) → length (laid_out at items) ≡ length items
length-laid at [] = refl
length-laid at (i ∷ items) = omega (arith, length-laid (at + item_size i) items)

pub length-items : (items : List LayoutItem) → length (items_in items) ≡ length items
length-items [] = refl
length-items (i ∷ items) = omega (arith, length-items items)
