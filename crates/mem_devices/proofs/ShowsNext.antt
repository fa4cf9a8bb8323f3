-- A replay goes on with the events that change the main file.
use Rattle.std.proofs.Common.{◌≡◌, ℕ, ◌+◌, Bool, List, [], ◌∷◌, length, take, drop, Some, None, refl, sym, ◌∙◌, ap, subst, arith}
use Rattle.std.specs.Prelude.{option_map, if◌then◌else◌}
use Rattle.std.proofs.lemmas.List.{take_all, drop-drop}
use Rattle.base_devices.specs.CrashImages.{Image}
use Rattle.base_bytes.specs.Landing.{written_at}
use Rattle.mem_devices.specs.History.{Moment, Change, shortened, replaced, with_write, landing_count, size_of, step_of, moment_step}
use Rattle.mem_devices.specs.Landings.{line_count_of}
use Rattle.mem_devices.specs.Left.{is_landed, with_lines, with_change, with_changes}
use Rattle.mem_devices.specs.Replay.{main_of, left_of, UsesUp, ShowsMoment}
use Rattle.mem_devices.specs.declared.replay.Replay.{Replay}
use Rattle.mem_devices.specs.declared.call_log.Event.{Event}
use Rattle.mem_devices.specs.declared.call_log.Event.TheVariants.{Wrote, WritePending, Cut, CutPending, PublishPending}
use Rattle.mem_devices.proofs.LeftImages.{no_lines}
use Rattle.mem_devices.proofs.Writing.{count_write}

module _ (landed : List Bool) (old new : Replay) (m : Moment) (before : ShowsMoment landed old m) where
  now_ahead : (more count : ℕ) → UsesUp landed more old new → count ≡ landing_count m.pending + more → drop new.used landed ≡ drop count landed
  now_ahead more count used is = used ∙ ap (drop more) before.ahead ∙ drop-drop more (landing_count m.pending) landed ∙ ap (λ (n : ℕ). drop n landed) (sym is)

  now_left : (at : ℕ) (bytes : List ℕ) → left_of new ≡ option_map (with_lines at bytes (drop old.used landed)) (left_of old) → left_of new ≡ with_changes m.base (with_write at bytes m.pending) landed
  now_left at [] is = is ∙ none (left_of old) ∙ before.left
    where
      none : (i : Image) → option_map (with_lines at [] (drop old.used landed)) i ≡ i
      none None = refl
      none (Some b) = ap (λ (l : List ℕ). Some l) (no_lines at (drop old.used landed) b)
  now_left at (b ∷ bytes) is =
      is
      ∙ ap (λ (l : List Bool). option_map (with_lines at (b ∷ bytes) l) (left_of old)) before.ahead
      ∙ ap (option_map (with_lines at (b ∷ bytes) (drop (landing_count m.pending) landed))) before.left

  -- lines of a write
  shows_lines : (reads : Image) (landings at : ℕ) (bytes : List ℕ) → main_of new ≡ reads → left_of new ≡ option_map (with_lines at bytes (drop old.used landed)) (left_of old)
      → new.new_bytes.items ≡ old.new_bytes.items → UsesUp landed (line_count_of at (length bytes)) old new
      → ShowsMoment landed new (record m { reads = reads; pending = with_write at bytes m.pending; landings = landings })
  shows_lines reads landings at bytes main left same used = record {
    reads = main;
    left = now_left at bytes left;
    new_bytes = same ∙ before.new_bytes;
    ahead = now_ahead (line_count_of at (length bytes)) (landing_count (with_write at bytes m.pending)) used (count_write at bytes m.pending);
  }

  -- one landing
  shows_one : (reads : Image) (landings : ℕ) (change : Change) → landing_count (change ∷ m.pending) ≡ landing_count m.pending + 1 → main_of new ≡ reads → left_of new ≡ with_change change (drop old.used landed) (left_of old)
      → new.new_bytes.items ≡ old.new_bytes.items → UsesUp landed 1 old new
      → ShowsMoment landed new (record m { reads = reads; pending = change ∷ m.pending; landings = landings })
  shows_one reads landings change one main left same used = record {
    reads = main;
    left = left ∙ ap (λ (l : List Bool). with_change change l (left_of old)) before.ahead ∙ ap (with_change change (drop (landing_count m.pending) landed)) before.left;
    new_bytes = same ∙ before.new_bytes;
    ahead = now_ahead 1 (landing_count (change ∷ m.pending)) used one;
  }

  pub shows_written : (event : Event) (at size : ℕ) (bytes : List ℕ) → event ≡ Wrote at size → size_of event ≡ length bytes → main_of new ≡ option_map (written_at at bytes) (main_of old)
      → left_of new ≡ option_map (with_lines at bytes (drop old.used landed)) (left_of old) → new.new_bytes.items ≡ old.new_bytes.items → UsesUp landed (line_count_of at (length bytes)) old new
      → ShowsMoment landed new (moment_step m (step_of event bytes))
  shows_written event at size bytes is own main left same used =
      let all : take size bytes ≡ bytes = take_all size bytes (omega (arith, own, ap size_of is)) in
      subst (λ (e : Event). ShowsMoment landed new (moment_step m (step_of e bytes))) (sym is)
      (shows_lines (option_map (written_at at (take size bytes)) m.reads) _ at (take size bytes)
      (main ∙ ap (option_map (written_at at bytes)) before.reads ∙ ap (λ (l : List ℕ). option_map (written_at at l) m.reads) (sym all))
      (subst (λ (l : List ℕ). left_of new ≡ option_map (with_lines at l (drop old.used landed)) (left_of old)) (sym all) left)
      same
      (subst (λ (l : List ℕ). UsesUp landed (line_count_of at (length l)) old new) (sym all) used))

  pub shows_pending : (event : Event) (at size made : ℕ) (bytes : List ℕ) → event ≡ WritePending at size made → size_of event ≡ length bytes → main_of new ≡ main_of old
      → left_of new ≡ option_map (with_lines at (take made bytes) (drop old.used landed)) (left_of old) → new.new_bytes.items ≡ old.new_bytes.items → UsesUp landed (line_count_of at (length (take made bytes))) old new
      → ShowsMoment landed new (moment_step m (step_of event bytes))
  shows_pending event at size made bytes is own main left same used =
      let all : take size bytes ≡ bytes = take_all size bytes (omega (arith, own, ap size_of is)) in
      subst (λ (e : Event). ShowsMoment landed new (moment_step m (step_of e bytes))) (sym is)
      (shows_lines m.reads _ at (take made (take size bytes)) (main ∙ before.reads)
      (subst (λ (l : List ℕ). left_of new ≡ option_map (with_lines at (take made l) (drop old.used landed)) (left_of old)) (sym all) left)
      same
      (subst (λ (l : List ℕ). UsesUp landed (line_count_of at (length (take made l))) old new) (sym all) used))

  pub shows_cut : (event : Event) (to : ℕ) (bytes : List ℕ) → event ≡ Cut to → main_of new ≡ option_map (λ b. take to b) (main_of old)
      → left_of new ≡ (if is_landed (drop old.used landed) then option_map (λ b. take to b) (left_of old) else left_of old) → new.new_bytes.items ≡ old.new_bytes.items → UsesUp landed 1 old new
      → ShowsMoment landed new (moment_step m (step_of event bytes))
  shows_cut event to bytes is main left same used =
      subst (λ (e : Event). ShowsMoment landed new (moment_step m (step_of e bytes))) (sym is)
      (shows_one (option_map (λ b. take to b) m.reads) _ (shortened to) refl (main ∙ ap (option_map (λ b. take to b)) before.reads) left same used)

  pub shows_cut_pending : (event : Event) (to : ℕ) (bytes : List ℕ) → event ≡ CutPending to → main_of new ≡ main_of old
      → left_of new ≡ (if is_landed (drop old.used landed) then option_map (λ b. take to b) (left_of old) else left_of old) → new.new_bytes.items ≡ old.new_bytes.items → UsesUp landed 1 old new
      → ShowsMoment landed new (moment_step m (step_of event bytes))
  shows_cut_pending event to bytes is main left same used =
      subst (λ (e : Event). ShowsMoment landed new (moment_step m (step_of e bytes))) (sym is)
      (shows_one m.reads _ (shortened to) refl (main ∙ before.reads) left same used)

  pub shows_new : (event : Event) (bytes : List ℕ) → event ≡ PublishPending → main_of new ≡ main_of old
      → left_of new ≡ (if is_landed (drop old.used landed) then Some old.new_bytes.items else left_of old) → new.new_bytes.items ≡ old.new_bytes.items → UsesUp landed 1 old new
      → ShowsMoment landed new (moment_step m (step_of event bytes))
  shows_new event bytes is main left same used =
      subst (λ (e : Event). ShowsMoment landed new (moment_step m (step_of e bytes))) (sym is)
      (shows_one m.reads _ (replaced m.new_bytes) refl (main ∙ before.reads)
      (left ∙ ap (λ (l : List ℕ). if is_landed (drop old.used landed) then Some l else left_of old) before.new_bytes) same used)
