-- The image of the landings that landed is one that the disk could leave.
use Rattle.std.proofs.Common.{◌≡◌, ◌⊎◌, inl, inr, ⊎_elim, ℕ, ◌+◌, ◌-◌, ◌%◌, ◌≤◌, Bool, true, false, List, [], ◌∷◌, length, take, drop, Some, refl, sym, ◌∙◌, ap, subst, arith, length-take}
use Rattle.std.specs.Prelude.{replicate, option_map, if◌then◌else◌}
use Rattle.std.proofs.lemmas.List.{take_all, drop_all, take-append-drop, length-replicate}
use Rattle.base_devices.specs.CrashImages.{Image}
use Rattle.base_devices.specs.DiskCalls.{OnFile}
use Rattle.base_bytes.specs.Landing.{Lands, Shortens}
use Rattle.base_bytes.proofs.Landings.{lands_none, lands_both, lands_pad, shortens_whole, shortens_none}
use Rattle.mem_devices.specs.History.{Change, laid, shortened, replaced, LeftBy, Happens, landing_count}
use Rattle.mem_devices.specs.Left.{line_end, laid_at, is_landed, with_lines, with_change, with_changes}
use Rattle.mem_devices.proofs.Pending.{same_file, changed_file}

pub no_lines : (at : ℕ) (landed : List Bool) (old : List ℕ) → with_lines at [] landed old ≡ old
no_lines at [] old = refl
no_lines at (b ∷ landed) old = refl

-- the first line, and the rest of them
join_lines : (at : ℕ) (bytes old between image : List ℕ) → Lands old at (take (line_end at - at) bytes) between → Lands between (line_end at) (drop (line_end at - at) bytes) image
    → (drop (line_end at - at) bytes ≡ [] → image ≡ between) → Lands old at bytes image
join_lines at bytes old between image first rest none = ⊎_elim whole parted (cases (length bytes) (line_end at - at))
  where
    cases : (size count : ℕ) → (size ≤ count) ⊎ (count ≤ size)
    cases size count = grind arith

    whole : length bytes ≤ line_end at - at → Lands old at bytes image
    whole short =
        let same : image ≡ between = none (drop_all (line_end at - at) bytes short) in
        subst (λ (l : List ℕ). Lands old at bytes l) (sym same) (subst (λ (l : List ℕ). Lands old at l between) (take_all (line_end at - at) bytes short) first)

    parted : line_end at - at ≤ length bytes → Lands old at bytes image
    parted long =
        let size : at + length (take (line_end at - at) bytes) ≡ line_end at = omega (arith, length-take (line_end at - at) bytes, long) in
        let line : (at + length (take (line_end at - at) bytes)) % 64 ≡ 0 = omega (arith, size) in
        subst (λ (l : List ℕ). Lands old at l image) (take-append-drop (line_end at - at) bytes)
        (lands_both at (take (line_end at - at) bytes) (drop (line_end at - at) bytes) old between image line first (subst (λ (n : ℕ). Lands between n (drop (line_end at - at) bytes) image) (sym size) rest))

filled : (count : ℕ) → length {A = ℕ} (replicate count 0) ≡ count
filled count = length-replicate {A = ℕ} count 0

pub lines_land : (at : ℕ) (bytes : List ℕ) (landed : List Bool) (old : List ℕ) → Lands old at bytes (with_lines at bytes landed old)
lines_land at bytes [] old = lands_none at bytes old
lines_land at [] (b ∷ landed) old = lands_none at [] old
lines_land at (c ∷ bytes) (true ∷ landed) old =
    let between : List ℕ = laid_at at (take (line_end at - at) (c ∷ bytes)) old in
    join_lines at (c ∷ bytes) old between _ (lands_pad at (take (line_end at - at) (c ∷ bytes)) old (replicate (at - length old) 0) (omega (arith, filled (at - length old))) (omega (arith, filled (at - length old))))
    (lines_land (line_end at) (drop (line_end at - at) (c ∷ bytes)) landed between)
    (λ none. ap (λ (l : List ℕ). with_lines (line_end at) l landed between) none ∙ no_lines (line_end at) landed between)
lines_land at (c ∷ bytes) (false ∷ landed) old =
    join_lines at (c ∷ bytes) old old _ (lands_none at (take (line_end at - at) (c ∷ bytes)) old)
    (lines_land (line_end at) (drop (line_end at - at) (c ∷ bytes)) landed old)
    (λ none. ap (λ (l : List ℕ). with_lines (line_end at) l landed old) none ∙ no_lines (line_end at) landed old)

change_happens : (change : Change) (landed : List Bool) (image : Image) → Happens change image (with_change change landed image)
change_happens (laid at bytes) landed image = changed_file (λ b e. Lands b at bytes e) (with_lines at bytes landed) (lines_land at bytes landed) image
change_happens (shortened to) landed image = cut (is_landed landed)
  where
    cut : (b : Bool) → OnFile (λ b e. Shortens b to e) image (if b then option_map (λ l. take to l) image else image)
    cut true = changed_file (λ b e. Shortens b to e) (λ b. take to b) (λ b. shortens_whole b to) image
    cut false = same_file (λ b e. Shortens b to e) (λ b. shortens_none b to) image
change_happens (replaced bytes) landed image = there (is_landed landed)
  where
    there : (b : Bool) → ((if b then Some bytes else image) ≡ image) ⊎ ((if b then Some bytes else image) ≡ Some bytes)
    there true = inr refl
    there false = inl refl

pub changes_left : (base : Image) (pending : List Change) (landed : List Bool) → LeftBy base pending (with_changes base pending landed)
changes_left base [] landed = refl
changes_left base (change ∷ older) landed = (with_changes base older landed, changes_left base older landed, change_happens change (drop (landing_count older) landed) (with_changes base older landed))
