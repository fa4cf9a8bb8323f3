-- What the landings of a write have in common.
use Rattle.std.proofs.Common.{◌≡◌, ◌⊎◌, inl, inr, ⊎_elim, ℕ, ◌+◌, ◌-◌, ◌*◌, ◌/◌, ◌%◌, ◌<◌, ◌≤◌, max, List, ◌++◌, length, get_or, take, drop, refl, sym, ◌∙◌, ap, arith, length-append, length-drop}
use Rattle.std.proofs.lemmas.List.{ext_get_or, get_or-take, get_or_append_left, get_or-drop, get_or-append_right, length-take, take_all}
use Rattle.base_bytes.specs.Landing.{written_at, SameLine, Lands, Shortens}

-- ---- the bytes of a written file, below its old end

-- before the write
pub written_before : (at : ℕ) (bytes old : List ℕ) (i : ℕ) → i < length old → i < at → get_or (written_at at bytes old) i 0 ≡ get_or old i 0
written_before at bytes old i inside before =
    let left : i < length (take at old) = omega (arith, length-take at old) in
    let more : i < length (take at old ++ bytes) = omega (arith, length-append (take at old) bytes) in
    get_or_append_left (take at old ++ bytes) (drop (at + length bytes) old) 0 i more
    ∙ get_or_append_left (take at old) bytes 0 i left
    ∙ get_or-take at old i 0 before

-- in the write
pub written_inside : (at : ℕ) (bytes old : List ℕ) (i : ℕ) → i < length old → at ≤ i → i < at + length bytes → get_or (written_at at bytes old) i 0 ≡ get_or bytes (i - at) 0
written_inside at bytes old i inside from to =
    let front : length (take at old) ≡ at = omega (arith, length-take at old) in
    let more : i < length (take at old ++ bytes) = omega (arith, length-append (take at old) bytes) in
    get_or_append_left (take at old ++ bytes) (drop (at + length bytes) old) 0 i more
    ∙ get_or-append_right (take at old) bytes at i 0 front from

-- after the write
pub written_after : (at : ℕ) (bytes old : List ℕ) (i : ℕ) → i < length old → at + length bytes ≤ i → get_or (written_at at bytes old) i 0 ≡ get_or old i 0
written_after at bytes old i inside after =
    let front : length (take at old) ≡ at = omega (arith, length-take at old) in
    let seam : length (take at old ++ bytes) ≡ at + length bytes = omega (arith, length-append (take at old) bytes) in
    get_or-append_right (take at old ++ bytes) (drop (at + length bytes) old) (at + length bytes) i 0 seam after
    ∙ get_or-drop (at + length bytes) old (i - (at + length bytes)) 0
    ∙ ap (λ (j : ℕ). get_or old j 0) (omega arith)

pub length-written : (at : ℕ) (bytes old : List ℕ) → at ≤ length old → length (written_at at bytes old) ≡ max (length old) (at + length bytes)
length-written at bytes old fits =
    omega (arith, length-append (take at old ++ bytes) (drop (at + length bytes) old), length-append (take at old) bytes, length-drop (at + length bytes) old, length-take at old)

-- ---- landings

-- the byte is on a line
within : (i : ℕ) → (64 * (i / 64) ≤ i) × (i < 64 * (i / 64) + 64)
within i = let split : 64 * (i / 64) + i % 64 ≡ i = omega arith in let small : i % 64 < 64 = omega arith in (omega arith, omega arith)

-- byte by byte
pub lands_at : (at : ℕ) (bytes old image : List ℕ) (i : ℕ) → Lands old at bytes image → i < length old → (get_or image i 0 ≡ get_or old i 0) ⊎ (get_or image i 0 ≡ get_or (written_at at bytes old) i 0)
lands_at at bytes old image i lands below =
    ⊎_elim (λ same. inl (same i (within i).0 (within i).1 below)) (λ same. inr (same i (within i).0 (within i).1 below)) (lands.lines (i / 64))

-- where the write changes no byte, the image has the old one
pub lands_kept : (at : ℕ) (bytes old image : List ℕ) (i : ℕ) → Lands old at bytes image → i < length old → (i < at) ⊎ (at + length bytes ≤ i) → get_or image i 0 ≡ get_or old i 0
lands_kept at bytes old image i lands below side =
    ⊎_elim (λ same. same) (λ same. same ∙ ⊎_elim (written_before at bytes old i below) (written_after at bytes old i below) side) (lands_at at bytes old image i lands below)

-- before the write nothing changes
pub lands_front : (at : ℕ) (bytes old image : List ℕ) → at ≤ length old → Lands old at bytes image → take at image ≡ take at old
lands_front at bytes old image fits lands =
    let now : length (take at image) ≡ at = omega (arith, length-take at image, lands.no_shorter) in
    let was : length (take at old) ≡ at = omega (arith, length-take at old) in
    ext_get_or 0 (take at image) (take at old) (omega arith) (λ i below.
    let before : i < at = omega arith in
    get_or-take at image i 0 before
    ∙ lands_kept at bytes old image i lands (omega arith) (inl before)
    ∙ sym (get_or-take at old i 0 before))

-- a write within one line of the file lands whole or not at all
pub lands_line : (at line : ℕ) (bytes old image : List ℕ) → 64 * line ≤ at → at + length bytes ≤ 64 * line + 64 → at + length bytes ≤ length old → Lands old at bytes image → (image ≡ old) ⊎ (image ≡ written_at at bytes old)
lands_line at line bytes old image from to fits lands = ⊎_elim (λ same. inl (as_old same)) (λ same. inr (as_new same)) (lands.lines line)
  where
    long : length image ≡ length old
    long = omega (arith, lands.no_shorter, lands.no_longer)

    side_of : (i : ℕ) → ((64 * line ≤ i) × (i < 64 * line + 64)) ⊎ ((i < 64 * line) ⊎ (64 * line + 64 ≤ i))
    side_of i = grind arith

    outside : (i : ℕ) → (i < 64 * line) ⊎ (64 * line + 64 ≤ i) → (i < at) ⊎ (at + length bytes ≤ i)
    outside i side = ⊎_elim (λ before. inl (omega arith)) (λ past. inr (omega arith)) side

    as_old : SameLine line (length old) old image → image ≡ old
    as_old same = ext_get_or 0 image old long (λ i below. ⊎_elim (λ here. same i here.0 here.1 (omega arith)) (λ side. lands_kept at bytes old image i lands (omega arith) (outside i side)) (side_of i))

    as_new : SameLine line (length old) (written_at at bytes old) image → image ≡ written_at at bytes old
    as_new same = ext_get_or 0 image (written_at at bytes old) (omega (arith, long, length-written at bytes old (omega arith)))
        (λ i below. ⊎_elim (λ here. same i here.0 here.1 (omega arith))
        (λ side. lands_kept at bytes old image i lands (omega arith) (outside i side) ∙ sym (⊎_elim (written_before at bytes old i (omega arith)) (written_after at bytes old i (omega arith)) (outside i side)))
        (side_of i))

-- ---- which landings there are

-- the write lands whole
pub lands_whole : (at : ℕ) (bytes old : List ℕ) → Lands old at bytes (written_at at bytes old)
lands_whole at bytes old = record { no_shorter = omega (arith, long, length-take at old, length-drop (at + length bytes) old); no_longer = omega (arith, long, length-take at old, length-drop (at + length bytes) old); lines = λ line. inr (λ i _ _ _. refl) }
  where
    long : length (written_at at bytes old) ≡ length (take at old) + length bytes + length (drop (at + length bytes) old)
    long = length-append (take at old ++ bytes) (drop (at + length bytes) old) ∙ ap (λ (n : ℕ). n + length (drop (at + length bytes) old)) (length-append (take at old) bytes)

-- it lands whole behind other bytes, up to which the file was filled
pub lands_pad : (at : ℕ) (bytes old more : List ℕ) → at ≤ length old + length more → length more ≤ at - length old → Lands old at bytes (written_at at bytes (old ++ more))
lands_pad at bytes old more reaches fills = record {
  no_shorter = omega (arith, long, both);
  no_longer = omega (arith, long, both, fills);
  lines = λ line. inr (λ i _ _ below. same i below);
}
  where
    both : length (old ++ more) ≡ length old + length more
    both = length-append old more

    long : length (written_at at bytes (old ++ more)) ≡ max (length (old ++ more)) (at + length bytes)
    long = length-written at bytes (old ++ more) (omega (arith, both, reaches))

    sides : (i : ℕ) → (i < at) ⊎ ((at ≤ i) × (i < at + length bytes)) ⊎ (at + length bytes ≤ i)
    sides i = grind arith

    same : (i : ℕ) → i < length old → get_or (written_at at bytes (old ++ more)) i 0 ≡ get_or (written_at at bytes old) i 0
    same i below =
        let inside : i < length (old ++ more) = omega (arith, both, below) in
        let was : get_or (old ++ more) i 0 ≡ get_or old i 0 = get_or_append_left old more 0 i below in
        elim (sides i) [
          | inl before ↦ written_before at bytes (old ++ more) i inside before ∙ was ∙ sym (written_before at bytes old i below before)
          | inr rest ↦ elim rest [
            | inl here ↦ written_inside at bytes (old ++ more) i inside here.0 here.1 ∙ sym (written_inside at bytes old i below here.0 here.1)
            | inr after ↦ written_after at bytes (old ++ more) i inside after ∙ was ∙ sym (written_after at bytes old i below after)
          ]
        ]

-- it doesn't land
pub lands_none : (at : ℕ) (bytes old : List ℕ) → Lands old at bytes old
lands_none at bytes old = record { no_shorter = omega arith; no_longer = omega arith; lines = λ line. inl (λ i _ _ _. refl) }

-- a byte below the end of the first part of a write
first_part : (at : ℕ) (p q old : List ℕ) (i : ℕ) → i < length old → i < at + length p → get_or (written_at at (p ++ q) old) i 0 ≡ get_or (written_at at p old) i 0
first_part at p q old i inside to = ⊎_elim
    (λ before. written_before at (p ++ q) old i inside before ∙ sym (written_before at p old i inside before))
    (λ from.
    written_inside at (p ++ q) old i inside from (omega (arith, length-append p q))
    ∙ get_or_append_left p q 0 (i - at) (omega arith)
    ∙ sym (written_inside at p old i inside from to))
    (cases i)
  where
    cases : (i : ℕ) → (i < at) ⊎ (at ≤ i)
    cases i = grind arith

-- a byte from there on
second_part : (at : ℕ) (p q old : List ℕ) (i : ℕ) → i < length old → at + length p ≤ i → get_or (written_at at (p ++ q) old) i 0 ≡ get_or (written_at (at + length p) q old) i 0
second_part at p q old i inside from = ⊎_elim
    (λ to.
    written_inside at (p ++ q) old i inside (omega arith) (omega (arith, length-append p q))
    ∙ get_or-append_right p q (length p) (i - at) 0 refl (omega arith)
    ∙ ap (λ (j : ℕ). get_or q j 0) (omega arith)
    ∙ sym (written_inside (at + length p) q old i inside from to))
    (λ past. written_after at (p ++ q) old i inside (omega (arith, length-append p q)) ∙ sym (written_after (at + length p) q old i inside past))
    (cases i)
  where
    cases : (i : ℕ) → (i < at + length p + length q) ⊎ (at + length p + length q ≤ i)
    cases i = grind arith

-- a write that is parted where a line begins lands as its parts do, one after the other
pub lands_both : (at : ℕ) (p q old between image : List ℕ) → (at + length p) % 64 ≡ 0 → Lands old at p between → Lands between (at + length p) q image → Lands old at (p ++ q) image
lands_both at p q old between image parted first second = record {
  no_shorter = omega (arith, first.no_shorter, second.no_shorter);
  no_longer = omega (arith, first.no_longer, second.no_longer, length-append p q);
  lines = λ line. ⊎_elim (before line) (after line) (cases line);
}
  where
    cases : (line : ℕ) → (64 * line + 64 ≤ at + length p) ⊎ (at + length p ≤ 64 * line)
    cases line = grind (arith, parted)

    inside : (i : ℕ) → i < length old → i < length between
    inside i below = omega (arith, first.no_shorter)

    before : (line : ℕ) → 64 * line + 64 ≤ at + length p → SameLine line (length old) old image ⊎ SameLine line (length old) (written_at at (p ++ q) old) image
    before line ends =
        let kept = λ (i : ℕ) (to : i < 64 * line + 64) (below : i < length old). lands_kept (at + length p) q between image i second (inside i below) (inl (omega arith)) in
        ⊎_elim
        (λ same. inl (λ i from to below. kept i to below ∙ same i from to below))
        (λ same. inr (λ i from to below. kept i to below ∙ same i from to below ∙ sym (first_part at p q old i below (omega arith))))
        (first.lines line)

    after : (line : ℕ) → at + length p ≤ 64 * line → SameLine line (length old) old image ⊎ SameLine line (length old) (written_at at (p ++ q) old) image
    after line begins =
        let was = λ (i : ℕ) (from : 64 * line ≤ i) (below : i < length old). lands_kept at p old between i first below (inr (omega arith)) in
        ⊎_elim
        (λ same. inl (λ i from to below. same i from to (inside i below) ∙ was i from below))
        (λ same. inr (λ i from to below. same i from to (inside i below) ∙ on_old i from below ∙ sym (second_part at p q old i below (omega arith))))
        (second.lines line)
      where
        sides : (i : ℕ) → (i < at + length p + length q) ⊎ (at + length p + length q ≤ i)
        sides i = grind arith

        on_old : (i : ℕ) → 64 * line ≤ i → i < length old → get_or (written_at (at + length p) q between) i 0 ≡ get_or (written_at (at + length p) q old) i 0
        on_old i from below = ⊎_elim
            (λ to. written_inside (at + length p) q between i (inside i below) (omega arith) to ∙ sym (written_inside (at + length p) q old i below (omega arith) to))
            (λ past.
            written_after (at + length p) q between i (inside i below) past
            ∙ lands_kept at p old between i first below (inr (omega arith))
            ∙ sym (written_after (at + length p) q old i below past))
            (sides i)

-- where just the first lines of a write land, the write lands in part
pub lands_prefix : (at : ℕ) (p q old image : List ℕ) → (at + length p) % 64 ≡ 0 → Lands old at p image → Lands old at (p ++ q) image
lands_prefix at p q old image parted lands = lands_both at p q old image image parted lands (lands_none (at + length p) q image)

-- ---- cuts

pub shortens_whole : (old : List ℕ) (to : ℕ) → Shortens old to (take to old)
shortens_whole old to = record { front = front; no_shorter = omega (arith, length-take to old) }
  where
    front : take (length (take to old)) old ≡ take to old
    front = ext_get_or 0 (take (length (take to old)) old) (take to old) (omega (arith, length-take to old, length-take (length (take to old)) old)) (λ i below.
        let short : i < length (take to old) = omega (arith, length-take (length (take to old)) old) in
        get_or-take (length (take to old)) old i 0 short ∙ sym (get_or-take to old i 0 (omega (arith, length-take to old))))

pub shortens_none : (old : List ℕ) (to : ℕ) → Shortens old to old
shortens_none old to = record { front = take_all (length old) old (omega arith); no_shorter = omega arith }
