-- What is pending after a write, a cut or a publish.
use Rattle.std.proofs.Common.{◌≡◌, ◌⊎◌, inl, inr, ℕ, ◌+◌, ◌<◌, List, [], ◌∷◌, ◌++◌, length, take, drop, Some, None, refl, sym, ◌∙◌, ap, subst, arith, add-zero, append-nil}
use Rattle.std.specs.Option.{option_map}
use Rattle.std.proofs.lemmas.List.{take-append-drop}
use Rattle.base_devices.specs.CrashImages.{Image}
use Rattle.base_devices.specs.DiskCalls.{OnFile}
use Rattle.base_bytes.specs.Landing.{Lands, Shortens, written_at}
use Rattle.base_bytes.proofs.Landings.{lands_whole, lands_none, shortens_whole, shortens_none}
use Rattle.mem_devices.specs.History.{Step, Moment, Change, main_written, write_pending, main_cut, cut_pending, publish_pending, kept, new_begun, new_extended, main_synced, new_published, output, with_write, moment_step, moment_after, first_moment, LeftBy, IsImage}

-- ---- steps of a file

pub same_file : (step : List ℕ → List ℕ → Type 0) → ((b : List ℕ) → step b b) → (i : Image) → OnFile step i i
same_file step none None = refl
same_file step none (Some b) = (b, refl, none b)

pub changed_file : (step : List ℕ → List ℕ → Type 0) (change : List ℕ → List ℕ) → ((b : List ℕ) → step b (change b)) → (i : Image) → OnFile step i (option_map change i)
changed_file step change whole None = refl
changed_file step change whole (Some b) = (change b, refl, whole b)

-- ---- what is read may be left

pub write_left : (at : ℕ) (bytes : List ℕ) (base : Image) (pending : List Change) (d c : Image) → LeftBy base pending d → OnFile (λ b e. Lands b at bytes e) d c → 0 < length bytes → LeftBy base (with_write at bytes pending) c
write_left at [] base pending d c left lands some = absurd (omega (arith, some))
write_left at (b ∷ bytes) base pending d c left lands some = (d, left, lands)

-- what is left after a write is left before it, but for what lands of it
pub write_from : (at : ℕ) (bytes : List ℕ) (base : Image) (pending : List Change) (c : Image) → LeftBy base (with_write at bytes pending) c
    → LeftBy base pending c ⊎ ((0 < length bytes) × ((d : Image) × LeftBy base pending d × OnFile (λ b e. Lands b at bytes e) d c))
write_from at [] base pending c left = inl left
write_from at (b ∷ bytes) base pending c left = inr (omega arith, left)

-- and what was left before it is left
pub kept_write : (at : ℕ) (bytes : List ℕ) (base : Image) (pending : List Change) (c : Image) → LeftBy base pending c → LeftBy base (with_write at bytes pending) c
kept_write at [] base pending c left = left
kept_write at (b ∷ bytes) base pending c left = (c, left, same_file (λ b' e. Lands b' at (b ∷ bytes) e) (lands_none at (b ∷ bytes)) c)

nothing_written : (at : ℕ) (i : Image) → option_map (written_at at []) i ≡ i
nothing_written at None = refl
nothing_written at (Some b) = ap (λ (l : List ℕ). Some l) (rejoined at b)
  where
    rejoined : (at : ℕ) (b : List ℕ) → take at b ++ [] ++ drop (at + 0) b ≡ b
    rejoined at b = ap (λ (l : List ℕ). l ++ drop (at + 0) b) (append-nil (take at b)) ∙ ap (λ (n : ℕ). take at b ++ drop n b) (add-zero at) ∙ take-append-drop at b

written_left : (m : Moment) (at : ℕ) (bytes : List ℕ) → LeftBy m.base m.pending m.reads → LeftBy m.base (with_write at bytes m.pending) (option_map (written_at at bytes) m.reads)
written_left m at [] left = subst (λ (i : Image). LeftBy m.base m.pending i) (sym (nothing_written at m.reads)) left
written_left m at (b ∷ bytes) left = (m.reads, left, changed_file (λ b' e. Lands b' at (b ∷ bytes) e) (written_at at (b ∷ bytes)) (lands_whole at (b ∷ bytes)) m.reads)

abbrev ReadsLeft : Moment → Type 0
ReadsLeft m = LeftBy m.base m.pending m.reads

step_left : (m : Moment) (step : Step) → ReadsLeft m → ReadsLeft (moment_step m step)
step_left m kept left = left
step_left m new_begun left = left
step_left m (new_extended bytes) left = left
step_left m (main_written at bytes) left = written_left m at bytes left
step_left m (write_pending at bytes) left = kept_write at bytes m.base m.pending m.reads left
step_left m (main_cut to) left = (m.reads, left, changed_file (λ b e. Shortens b to e) (λ b. take to b) (λ b. shortens_whole b to) m.reads)
step_left m (cut_pending to) left = (m.reads, left, same_file (λ b e. Shortens b to e) (λ b. shortens_none b to) m.reads)
step_left m main_synced left = refl
step_left m new_published left = refl
step_left m publish_pending left = (m.reads, left, inl refl)
step_left m (output count) left = left

steps_left : (m : Moment) (steps : List Step) → ReadsLeft m → ReadsLeft (moment_after m steps)
steps_left m [] left = left
steps_left m (step ∷ steps) left = steps_left (moment_step m step) steps (step_left m step left)

pub reads_left : (image : Image) (steps : List Step) → ReadsLeft (moment_after (first_moment image) steps)
reads_left image steps = steps_left (first_moment image) steps refl

-- so what may be left is what landed of the changes
pub left_by : (m : Moment) → ReadsLeft m → (c : Image) → IsImage m c → LeftBy m.base m.pending c
left_by m reads c (inl is) = subst (λ (i : Image). LeftBy m.base m.pending i) (sym is) reads
left_by m reads c (inr left) = left
