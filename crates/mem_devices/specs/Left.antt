-- The image that a stop leaves, by which of the pending landings landed.
use Rattle.std.specs.Prelude.{ℕ, ◌+◌, ◌-◌, ◌*◌, ◌/◌, Bool, true, false, List, [], ◌∷◌, ◌++◌, Some, length, take, drop, replicate, if◌then◌else◌}
use Rattle.std.specs.Option.{option_map}
use Rattle.base_devices.specs.CrashImages.{Image}
use Rattle.base_bytes.specs.Landing.{written_at}
use Rattle.mem_devices.specs.History.{Change, laid, shortened, replaced, landing_count}
use Rattle.mem_devices.specs.Memory.{now_of}
use Rattle.mem_devices.specs.declared.memory.MemDisk.{MemDisk}

-- where the line of an offset ends
abbrev pub line_end : ℕ → ℕ
line_end at = 64 * (at / 64) + 64

-- the file with these bytes at an offset, and zeros before them where the file ends before
abbrev pub laid_at : ℕ → List ℕ → List ℕ → List ℕ
laid_at at bytes old = written_at at bytes (old ++ replicate (at - length old) 0)

-- the next landing landed; one that is not listed did not
abbrev pub is_landed : List Bool → Bool
is_landed [] = false
is_landed (b ∷ landed) = b

-- the file with the lines of a write that landed, one after the other
abbrev pub with_lines : ℕ → List ℕ → List Bool → List ℕ → List ℕ
with_lines at bytes [] old = old
with_lines at [] (b ∷ landed) old = old
with_lines at (c ∷ bytes) (true ∷ landed) old =
    with_lines (line_end at) (drop (line_end at - at) (c ∷ bytes)) landed
    (laid_at at (take (line_end at - at) (c ∷ bytes)) old)
with_lines at (c ∷ bytes) (false ∷ landed) old =
    with_lines (line_end at) (drop (line_end at - at) (c ∷ bytes)) landed old

-- the main file with what landed of a change
abbrev pub with_change : Change → List Bool → Image → Image
with_change (laid at bytes) landed image = option_map (with_lines at bytes landed) image
with_change (shortened to) landed image = if is_landed landed then option_map (λ b. take to b) image else image
with_change (replaced bytes) landed image = if is_landed landed then Some bytes else image

-- the image with what landed of these changes, the newest first, where the list goes from the oldest landing on
abbrev pub with_changes : Image → List Change → List Bool → Image
with_changes base [] landed = base
with_changes base (change ∷ older) landed =
    with_change change (drop (landing_count older) landed) (with_changes base older landed)

-- what a crash of the disk leaves where just these of its pending landings landed
abbrev pub left_image : MemDisk → List Bool → Image
left_image d landed = with_changes (now_of d).base (now_of d).pending landed
