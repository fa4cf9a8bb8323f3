-- The lines of a write, taken one at a time.
use Rattle.std.proofs.Common.{◌≡◌, ◌⊎◌, ⊎_elim, ℕ, zero, suc, ◌+◌, ◌-◌, ◌*◌, ◌/◌, ◌%◌, ◌<◌, ◌≤◌, min, Bool, true, false, List, [], ◌∷◌, length, take, drop, Some, None, refl, sym, ◌∙◌, ap, subst, arith, length-drop}
use Rattle.std.specs.Prelude.{option_map, if◌then◌else◌}
use Rattle.std.proofs.lemmas.List.{take_all, drop_all, drop-drop}
use Rattle.base_devices.specs.CrashImages.{Image}
use Rattle.mem_devices.specs.Landings.{line_count_of}
use Rattle.mem_devices.specs.Left.{line_end, laid_at, is_landed, with_lines}
use Rattle.mem_devices.proofs.LeftImages.{no_lines}

-- the first line of a write ends with its line or with the write
abbrev pub IsFirstLine : ℕ → List ℕ → ℕ → Type 0
IsFirstLine at rest count = count ≡ min (64 - at % 64) (length rest)

to_end : (at : ℕ) → line_end at - at ≡ 64 - at % 64
to_end at = let split : 64 * (at / 64) + at % 64 ≡ at = omega arith in let small : at % 64 < 64 = omega arith in omega arith

-- the first line, and then the others
one_line : (at : ℕ) (rest : List ℕ) (count : ℕ) (landed : List Bool) (old : List ℕ) → 0 < length rest → IsFirstLine at rest count
    → with_lines at rest landed old ≡ with_lines (at + count) (drop count rest) (drop 1 landed) (if is_landed landed then laid_at at (take count rest) old else old)
one_line at [] count landed old some is = absurd (omega (arith, some))
one_line at (c ∷ rest) count landed old some is = ⊎_elim (whole landed) (cut landed) (cases count (length (c ∷ rest)) (64 - at % 64) is)
  where
    cases : (count size line : ℕ) → count ≡ min line size → (count ≡ line) ⊎ ((size ≤ count) × (size ≤ line))
    cases count size line is = grind (arith, is)

    whole : (landed : List Bool) → count ≡ 64 - at % 64 → with_lines at (c ∷ rest) landed old ≡ with_lines (at + count) (drop count (c ∷ rest)) (drop 1 landed) (if is_landed landed then laid_at at (take count (c ∷ rest)) old else old)
    whole [] line = refl
    whole (b ∷ landed) line = go b
      where
        same : line_end at - at ≡ count
        same = to_end at ∙ sym line

        next : line_end at ≡ at + count
        next = omega (arith, same, end_after at)
          where
            end_after : (at : ℕ) → at < line_end at
            end_after at = let split : 64 * (at / 64) + at % 64 ≡ at = omega arith in let small : at % 64 < 64 = omega arith in omega arith

        go : (b : Bool) → with_lines at (c ∷ rest) (b ∷ landed) old ≡ with_lines (at + count) (drop count (c ∷ rest)) landed (if b then laid_at at (take count (c ∷ rest)) old else old)
        go true = ap (λ (n : ℕ). with_lines (line_end at) (drop n (c ∷ rest)) landed (laid_at at (take n (c ∷ rest)) old)) same ∙ ap (λ (n : ℕ). with_lines n (drop count (c ∷ rest)) landed (laid_at at (take count (c ∷ rest)) old)) next
        go false = ap (λ (n : ℕ). with_lines (line_end at) (drop n (c ∷ rest)) landed old) same ∙ ap (λ (n : ℕ). with_lines n (drop count (c ∷ rest)) landed old) next

    cut : (landed : List Bool) → (length (c ∷ rest) ≤ count) × (length (c ∷ rest) ≤ 64 - at % 64) → with_lines at (c ∷ rest) landed old ≡ with_lines (at + count) (drop count (c ∷ rest)) (drop 1 landed) (if is_landed landed then laid_at at (take count (c ∷ rest)) old else old)
    cut [] short = refl
    cut (b ∷ landed) short = go b
      where
        long : length (c ∷ rest) ≤ line_end at - at
        long = omega (arith, to_end at, short.1)

        gone : (from other : ℕ) (l : List ℕ) → with_lines from (drop (line_end at - at) (c ∷ rest)) landed l ≡ with_lines other (drop count (c ∷ rest)) landed l
        gone from other l =
            ap (λ (m : List ℕ). with_lines from m landed l) (drop_all (line_end at - at) (c ∷ rest) long) ∙ no_lines from landed l
            ∙ sym (ap (λ (m : List ℕ). with_lines other m landed l) (drop_all count (c ∷ rest) short.0) ∙ no_lines other landed l)

        go : (b : Bool) → with_lines at (c ∷ rest) (b ∷ landed) old ≡ with_lines (at + count) (drop count (c ∷ rest)) landed (if b then laid_at at (take count (c ∷ rest)) old else old)
        go true = gone (line_end at) (at + count) _ ∙ ap (λ (m : List ℕ). with_lines (at + count) (drop count (c ∷ rest)) landed (laid_at at m old)) (take_all (line_end at - at) (c ∷ rest) long ∙ sym (take_all count (c ∷ rest) short.0))
        go false = gone (line_end at) (at + count) _

one_line_of : (at : ℕ) (rest : List ℕ) (count : ℕ) (landed : List Bool) (image now : Image) → 0 < length rest → IsFirstLine at rest count
    → now ≡ (if is_landed landed then option_map (laid_at at (take count rest)) image else image)
    → option_map (with_lines (at + count) (drop count rest) (drop 1 landed)) now ≡ option_map (with_lines at rest landed) image
one_line_of at rest count landed None now some is became = ap (option_map (with_lines (at + count) (drop count rest) (drop 1 landed))) (became ∙ none (is_landed landed))
  where
    none : (b : Bool) → (if b then option_map (laid_at at (take count rest)) None else None) ≡ None
    none true = refl
    none false = refl
one_line_of at rest count landed (Some old) now some is became =
    ap (option_map (with_lines (at + count) (drop count rest) (drop 1 landed))) (became ∙ there (is_landed landed))
    ∙ ap (λ (l : List ℕ). Some l) (sym (one_line at rest count landed old some is))
  where
    there : (b : Bool) → (if b then option_map (laid_at at (take count rest)) (Some old) else Some old) ≡ Some (if b then laid_at at (take count rest) old else old)
    there true = refl
    there false = refl

-- and one entry of the list is used up
one_entry : (at : ℕ) (rest : List ℕ) (count : ℕ) (landed : List Bool) → 0 < length rest → IsFirstLine at rest count
    → drop (line_count_of (at + count) (length (drop count rest))) (drop 1 landed) ≡ drop (line_count_of at (length rest)) landed
one_entry at rest count landed some is =
    drop-drop (line_count_of (at + count) (length (drop count rest))) 1 landed
    ∙ ap (λ (n : ℕ). drop n landed) (counted (length rest) (length (drop count rest)) some is (length-drop count rest))
  where
    counted : (size left : ℕ) → 0 < size → count ≡ min (64 - at % 64) size → left ≡ size - count → 1 + line_count_of (at + count) left ≡ line_count_of at size
    counted zero left some is less = absurd (omega (arith, some))
    counted (suc n) zero some is less = omega (arith, is, less)
    counted (suc n) (suc m) some is less = omega (arith, is, less)

-- once no bytes are left nothing more lands
pub none_left : (at : ℕ) (rest : List ℕ) (landed : List Bool) (image : Image) → length rest ≡ 0 → image ≡ option_map (with_lines at rest landed) image
none_left at [] landed None none = refl
none_left at [] landed (Some old) none = ap (λ (l : List ℕ). Some l) (sym (no_lines at landed old))
none_left at (c ∷ rest) landed image none = absurd (omega (arith, none))

-- both, as a loop meets them
module _ (at : ℕ) (rest : List ℕ) (count : ℕ) (line more : List ℕ) (landed after : List Bool) (some : 0 < length rest) (is : IsFirstLine at rest count) (first : line ≡ take count rest) (others : more ≡ drop count rest) (used : after ≡ drop 1 landed) where
  pub next_left : (image now : Image) → now ≡ (if is_landed landed then option_map (laid_at at line) image else image) → option_map (with_lines (at + count) more after) now ≡ option_map (with_lines at rest landed) image
  next_left image now became =
      ap (λ (l : List ℕ). option_map (with_lines (at + count) l after) now) others
      ∙ ap (λ (l : List Bool). option_map (with_lines (at + count) (drop count rest) l) now) used
      ∙ one_line_of at rest count landed image now some is (subst (λ (l : List ℕ). now ≡ (if is_landed landed then option_map (laid_at at l) image else image)) first became)

  pub next_used : drop (line_count_of (at + count) (length more)) after ≡ drop (line_count_of at (length rest)) landed
  next_used =
      ap (λ (l : List ℕ). drop (line_count_of (at + count) (length l)) after) others
      ∙ ap (λ (l : List Bool). drop (line_count_of (at + count) (length (drop count rest))) l) used
      ∙ one_entry at rest count landed some is
