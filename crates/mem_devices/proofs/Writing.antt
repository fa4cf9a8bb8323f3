-- Writes and cuts of a disk in memory, done, or refused and pending.
use Rattle.std.proofs.Common.{◌≡◌, ◌⊎◌, inl, inr, ⊎_elim, ℕ, zero, suc, ◌+◌, ◌-◌, ◌*◌, ◌/◌, ◌%◌, ◌<◌, ◌≤◌, min, List, [], ◌∷◌, ◌++◌, length, take, drop, Option, Some, None, refl, sym, ◌∙◌, ap, subst, arith, length-take}
use Rattle.std.specs.Prelude.{Result, Ok, Err, OnOk}
use Rattle.std.specs.Option.{option_map}
use Rattle.std.proofs.lemmas.List.{take_all, take-append-drop}
use Rattle.base_devices.specs.CrashImages.{Image, Fresh}
use Rattle.base_devices.specs.DiskCalls.{OnFile, Writes, Cuts, new_image}
use Rattle.base_bytes.specs.Landing.{Lands, Shortens, written_at}
use Rattle.base_bytes.proofs.Landings.{lands_whole, lands_none, lands_prefix, shortens_whole, shortens_none}
use Rattle.mem_devices.specs.History.{Step, Moment, Change, main_written, write_pending, main_cut, cut_pending, publish_pending, shortened, replaced, landing_count, with_write, moment_step, moment_after, first_moment, start_image, fresh_of, Happens, LeftBy, IsImage}
use Rattle.mem_devices.specs.CallLog.{log_steps}
use Rattle.mem_devices.specs.Landings.{line_count_of, first_bytes_of, landings_before}
use Rattle.mem_devices.specs.Memory.{Pends, WritePends, CutPends, PublishPends, IsStopped, state_of, mem_state, now_of, stop_of, landings_made, bytes_before_stop}
use Rattle.mem_devices.specs.declared.memory.MemDisk.{MemDisk}
use Rattle.mem_devices.specs.declared.memory.NewFile.{NewFile}
use Rattle.mem_devices.specs.declared.memory.NewFile.TheVariants.{Absent, Begun, Whole}
use Rattle.mem_devices.proofs.Time.{after_one}
use Rattle.mem_devices.proofs.Pending.{same_file, changed_file, write_left, write_from, kept_write, reads_left, left_by}

on_ok : {T E P : Type 0} (result : Result T E) → P → OnOk result P
on_ok (Ok v) p = p
on_ok (Err e) p = tt

never_ok : {T E : Type 0} (P : Type 0) (result : Result T E) → OnOk result ⊥ → OnOk result P
never_ok P (Ok v) failed = absurd failed
never_ok P (Err e) failed = tt

-- ---- writes

-- the first lines of a write land as a part of it
part_lands : (at : ℕ) (bytes old image : List ℕ) (lines made : ℕ) → made ≡ first_bytes_of at (length bytes) lines → 0 < made → Lands old at (take made bytes) image → Lands old at bytes image
part_lands at bytes old image zero made is some lands = absurd (omega (arith, is, some))
part_lands at bytes old image (suc n) made is some lands = ⊎_elim whole parted (cases (length bytes) (at / 64) made is)
  where
    cases : (size line made : ℕ) → made ≡ min size (64 * (line + suc n) - at) → (size ≤ made) ⊎ ((made ≤ size) × (made ≡ 64 * (line + suc n) - at))
    cases size line made is = grind (arith, is)

    whole : length bytes ≤ made → Lands old at bytes image
    whole long = subst (λ (l : List ℕ). Lands old at l image) (take_all made bytes long) lands

    parted : (made ≤ length bytes) × (made ≡ 64 * (at / 64 + suc n) - at) → Lands old at bytes image
    parted ends =
        let first : length (take made bytes) ≡ made = omega (arith, length-take made bytes, ends.0) in
        let line : (at + length (take made bytes)) % 64 ≡ 0 = omega (arith, first, ends.1, some) in
        subst (λ (l : List ℕ). Lands old at l image) (take-append-drop made bytes) (lands_prefix at (take made bytes) (drop made bytes) old image line lands)

-- the first of its lines are so many
pub first_lines : (at size lines : ℕ) → lines ≤ line_count_of at size → line_count_of at (first_bytes_of at size lines) ≡ lines
first_lines at size zero le = refl
first_lines at zero (suc n) le = absurd (omega (arith, le))
first_lines at (suc size) (suc n) le = counted (min (suc size) (64 * (at / 64 + suc n) - at)) refl
  where
    counted : (made : ℕ) → made ≡ min (suc size) (64 * (at / 64 + suc n) - at) → line_count_of at made ≡ suc n
    counted zero is = absurd (omega (arith, is))
    counted (suc m) is = omega (arith, is, le)

pub before_stop_le : (stop : Option ℕ) (made count : ℕ) → landings_before stop made count ≤ count
before_stop_le None made count = omega arith
before_stop_le (Some stop) made count = omega arith

pub count_write : (at : ℕ) (bytes : List ℕ) (pending : List Change) → landing_count (with_write at bytes pending) ≡ landing_count pending + line_count_of at (length bytes)
count_write at [] pending = omega arith
count_write at (b ∷ bytes) pending = refl

module _ (m : Moment) (at : ℕ) (bytes : List ℕ) where
  -- what may be left once they are written landed from what could be left
  written_from : (c : Image) → IsImage (moment_step m (main_written at bytes)) c → (d : Image) × IsImage m d × OnFile (λ b e. Lands b at bytes e) d c
  written_from c (inl is) = (m.reads, inl refl, subst (λ (i : Image). OnFile (λ b e. Lands b at bytes e) m.reads i) (sym is) (changed_file (λ b e. Lands b at bytes e) (written_at at bytes) (lands_whole at bytes) m.reads))
  written_from c (inr left) = ⊎_elim
      (λ was. (c, inr was, same_file (λ b e. Lands b at bytes e) (lands_none at bytes) c))
      (λ new. (new.1.0, inr new.1.1, new.1.2))
      (write_from at bytes m.base m.pending c left)

pub writes_done : {T E : Type 0} (result : Result T E) (image : Image) (old new : List Step) (at : ℕ) (bytes : List ℕ) (fresh : Option Fresh) (faults faults' written written' publishes : ℕ)
    → new ≡ old ++ main_written at (take (length bytes) bytes) ∷ [] → written' ≤ written + length bytes
    → Writes at bytes (state_of (first_moment image) old fresh faults written publishes) (state_of (first_moment image) new fresh faults' written' publishes) result
writes_done result image old new at bytes fresh faults faults' written written' publishes noted more = record {
  reads = on_ok result (ap (λ (m : Moment). Some m.reads) played);
  lines = λ b is. (written_at at bytes b, ap (λ (m : Moment). Some m.reads) played ∙ ap (λ (i : Option Image). option_map (λ (main : Image). option_map (written_at at bytes) main) i) is, lands_whole at bytes b);
  crash = record { from = λ c left. written_from (moment_after (first_moment image) old) at bytes c (subst (λ (m : Moment). IsImage m c) played left) };
  fresh = refl;
  written = more;
  publishes = refl;
}
  where
    played : moment_after (first_moment image) new ≡ moment_step (moment_after (first_moment image) old) (main_written at bytes)
    played = after_one (first_moment image) old new (main_written at (take (length bytes) bytes)) noted
        ∙ ap (λ (l : List ℕ). moment_step (moment_after (first_moment image) old) (main_written at l)) (take_all (length bytes) bytes (omega arith))

-- a write of which the first lines may have landed
module _ (image : Image) (old new : List Step) (at : ℕ) (bytes : List ℕ) (lines made : ℕ) (noted : new ≡ old ++ write_pending at (take made (take (length bytes) bytes)) ∷ []) (is : made ≡ first_bytes_of at (length bytes) lines) where
  abbrev pub was : Moment
  was = moment_after (first_moment image) old

  refused : moment_after (first_moment image) new ≡ moment_step was (write_pending at (take made bytes))
  refused = after_one (first_moment image) old new (write_pending at (take made (take (length bytes) bytes))) noted
      ∙ ap (λ (l : List ℕ). moment_step was (write_pending at (take made l))) (take_all (length bytes) bytes (omega arith))

  pub refused_new : (moment_after (first_moment image) new).new_bytes ≡ was.new_bytes
  refused_new = ap (λ (m : Moment). m.new_bytes) refused

  module _ (le : lines ≤ line_count_of at (length bytes)) where
    lines_made : line_count_of at (length (take made bytes)) ≡ lines
    lines_made =
        let short : made ≤ length bytes = made_le lines is in
        ap (line_count_of at) (omega (arith, length-take made bytes, short)) ∙ ap (line_count_of at) is ∙ first_lines at (length bytes) lines le
      where
        made_le : (lines : ℕ) → made ≡ first_bytes_of at (length bytes) lines → made ≤ length bytes
        made_le zero is = omega (arith, is)
        made_le (suc n) is = omega (arith, is)

    pub refused_landings : (moment_after (first_moment image) new).landings ≡ was.landings + lines
    refused_landings = ap (λ (m : Moment). m.landings) refused ∙ ap (λ (n : ℕ). was.landings + n) lines_made

    pub refused_pending : landing_count (moment_after (first_moment image) new).pending ≡ landing_count was.pending + lines
    refused_pending = ap (λ (m : Moment). landing_count m.pending) refused ∙ count_write at (take made bytes) was.pending ∙ ap (λ (n : ℕ). landing_count was.pending + n) lines_made

  some_made : 0 < length (take made bytes) → 0 < made
  some_made some = omega (arith, some, length-take made bytes)

  some_taken : 0 < made → 0 < length (take made bytes)
  some_taken some = taken lines is
    where
      taken : (lines : ℕ) → made ≡ first_bytes_of at (length bytes) lines → 0 < length (take made bytes)
      taken zero is = absurd (omega (arith, is, some))
      taken (suc n) is = omega (arith, is, some, length-take made bytes)

  pub refused_only : (c : Image) → IsImage (moment_after (first_moment image) new) c → IsImage was c ⊎ ((d : Image) × IsImage was d × ((0 < made) × OnFile (λ b e. Lands b at (take made bytes) e) d c))
  refused_only c left = from c (subst (λ (m : Moment). IsImage m c) refused left)
    where
      from : (c : Image) → IsImage (moment_step was (write_pending at (take made bytes))) c → IsImage was c ⊎ ((d : Image) × IsImage was d × ((0 < made) × OnFile (λ b e. Lands b at (take made bytes) e) d c))
      from c (inl is) = inl (inl is)
      from c (inr left) = ⊎_elim (λ before. inl (inr before)) (λ landed. inr (landed.1.0, inr landed.1.1, (some_made landed.0, landed.1.2))) (write_from at (take made bytes) was.base was.pending c left)

  pub refused_keeps : (c : Image) → IsImage was c → IsImage (moment_after (first_moment image) new) c
  refused_keeps c left = subst (λ (m : Moment). IsImage m c) (sym refused) (kept left)
    where
      kept : IsImage was c → IsImage (moment_step was (write_pending at (take made bytes))) c
      kept (inl is) = inl is
      kept (inr left) = inr (kept_write at (take made bytes) was.base was.pending c left)

  pub refused_adds : (b c : Image) → IsImage was b → (0 < made) × OnFile (λ l e. Lands l at (take made bytes) e) b c → IsImage (moment_after (first_moment image) new) c
  refused_adds b c left makes = subst (λ (m : Moment). IsImage m c) (sym refused)
      (inr (write_left at (take made bytes) was.base was.pending b c (left_by was (reads_left image old) b left) makes.1 (some_taken makes.0)))

  pub refused_lands : (c : Image) → IsImage (moment_after (first_moment image) new) c → (d : Image) × IsImage was d × OnFile (λ b e. Lands b at bytes e) d c
  refused_lands c left = ⊎_elim
      (λ before. (c, before, same_file (λ b e. Lands b at bytes e) (lands_none at bytes) c))
      (λ landed. (landed.0, landed.1, on_part landed.0 c landed.2.0 landed.2.1))
      (refused_only c left)
    where
      on_part : (d c : Image) → 0 < made → OnFile (λ b e. Lands b at (take made bytes) e) d c → OnFile (λ b e. Lands b at bytes e) d c
      on_part None c some lands = lands
      on_part (Some b) c some lands = (lands.0, lands.1, part_lands at bytes b lands.0 lines made is some lands.2)

  pub writes_refused : {T E : Type 0} (result : Result T E) (fresh : Option Fresh) (faults faults' written written' publishes : ℕ) → written' ≤ written + length bytes → (OnOk result ⊥)
      → Writes at bytes (state_of (first_moment image) old fresh faults written publishes) (state_of (first_moment image) new fresh faults' written' publishes) result
  writes_refused result fresh faults faults' written written' publishes more failed = record {
    reads = never_ok _ result failed;
    lines = λ b same. (b, ap (λ (m : Moment). Some m.reads) refused ∙ same, lands_none at bytes b);
    crash = record { from = refused_lands };
    fresh = refl;
    written = more;
    publishes = refl;
  }

module _ (old new : MemDisk) (at : ℕ) (bytes : List ℕ) (made : ℕ) (start : new.start ≡ old.start) (noted : log_steps new.log ≡ log_steps old.log ++ write_pending at (take made (take (length bytes) bytes)) ∷ []) (is : made ≡ bytes_before_stop old at (length bytes)) where
  abbrev image : Image
  image = start_image old.start

  abbrev lines : ℕ
  lines = landings_before (stop_of old) (landings_made old) (line_count_of at (length bytes))

  begun : now_of new ≡ moment_after (first_moment (start_image old.start)) (log_steps new.log)
  begun = ap (λ s. moment_after (first_moment (start_image s)) (log_steps new.log)) start

  abbrev Makes : ℕ → Image → Image → Type 0
  Makes n b c = (0 < n) × OnFile (λ l e. Lands l at (take n bytes) e) b c

  pub write_pends : WritePends old new at bytes
  write_pends = record {
    reads = ap (λ (m : Moment). Some m.reads) (begun ∙ refused image (log_steps old.log) (log_steps new.log) at bytes lines made noted is);
    keeps = λ c left. subst (λ (m : Moment). IsImage m c) (sym begun) (refused_keeps image (log_steps old.log) (log_steps new.log) at bytes lines made noted is c left);
    adds = λ fits b c left makes. subst (λ (m : Moment). IsImage m c) (sym begun) (refused_adds image (log_steps old.log) (log_steps new.log) at bytes lines made noted is b c left (subst (λ (n : ℕ). Makes n b c) (sym is) makes));
    only = λ c left. subst (λ (n : ℕ). IsImage (now_of old) c ⊎ ((d : Image) × IsImage (now_of old) d × Makes n d c)) is (refused_only image (log_steps old.log) (log_steps new.log) at bytes lines made noted is c (subst (λ (m : Moment). IsImage m c) begun left));
  }

-- ---- cuts

-- what may be left once a cut is pending was cut from what could be left, or stays
cut_from : (m : Moment) (to : ℕ) (c : Image) → LeftBy m.base (shortened to ∷ m.pending) c → (d : Image) × IsImage m d × OnFile (λ b e. Shortens b to e) d c
cut_from m to c left = (left.0, inr left.1, left.2)

pub cuts_done : {T E : Type 0} (result : Result T E) (image : Image) (old new : List Step) (to : ℕ) (fresh : Option Fresh) (faults faults' written publishes : ℕ)
    → new ≡ old ++ main_cut to ∷ []
    → Cuts to (state_of (first_moment image) old fresh faults written publishes) (state_of (first_moment image) new fresh faults' written publishes) result
cuts_done result image old new to fresh faults faults' written publishes noted = record {
  reads = on_ok result (ap (λ (m : Moment). Some m.reads) played);
  crash = record { from = λ c left. from c (subst (λ (m : Moment). IsImage m c) played left) };
  fresh = refl;
  written = refl;
  publishes = refl;
}
  where
    played : moment_after (first_moment image) new ≡ moment_step (moment_after (first_moment image) old) (main_cut to)
    played = after_one (first_moment image) old new (main_cut to) noted

    from : (c : Image) → IsImage (moment_step (moment_after (first_moment image) old) (main_cut to)) c → (d : Image) × IsImage (moment_after (first_moment image) old) d × OnFile (λ b e. Shortens b to e) d c
    from c (inl is) =
        let reads : Image = (moment_after (first_moment image) old).reads in
        (reads, inl refl, subst (λ (i : Image). OnFile (λ b e. Shortens b to e) reads i) (sym is) (changed_file (λ b e. Shortens b to e) (λ b. take to b) (λ b. shortens_whole b to) reads))
    from c (inr left) = cut_from (moment_after (first_moment image) old) to c left

pub cuts_refused : {T E : Type 0} (result : Result T E) (image : Image) (old new : List Step) (to : ℕ) (fresh : Option Fresh) (faults faults' written publishes : ℕ)
    → new ≡ old ++ cut_pending to ∷ [] → OnOk result ⊥
    → Cuts to (state_of (first_moment image) old fresh faults written publishes) (state_of (first_moment image) new fresh faults' written publishes) result
cuts_refused result image old new to fresh faults faults' written publishes noted failed = record {
  reads = never_ok _ result failed;
  crash = record { from = λ c left. from c (subst (λ (m : Moment). IsImage m c) (after_one (first_moment image) old new (cut_pending to) noted) left) };
  fresh = refl;
  written = refl;
  publishes = refl;
}
  where
    from : (c : Image) → IsImage (moment_step (moment_after (first_moment image) old) (cut_pending to)) c → (d : Image) × IsImage (moment_after (first_moment image) old) d × OnFile (λ b e. Shortens b to e) d c
    from c (inl is) = (c, inl is, same_file (λ b e. Shortens b to e) (λ b. shortens_none b to) c)
    from c (inr left) = cut_from (moment_after (first_moment image) old) to c left

-- ---- what one call leaves pending

-- the change of a refused call, by what it makes of an image where it lands
module _ (old new : MemDisk) (step : Step) (change : Change) (fits : Type 0) (makes : Image → Image → Type 0) (start : new.start ≡ old.start) (noted : log_steps new.log ≡ log_steps old.log ++ step ∷ []) (pends : moment_step (now_of old) step ≡ record (now_of old) { pending = change ∷ (now_of old).pending; landings = (now_of old).landings + 1 }) where
  abbrev with_change : Moment
  with_change = record (now_of old) { pending = change ∷ (now_of old).pending; landings = (now_of old).landings + 1 }

  became : now_of new ≡ with_change
  became =
      ap (λ s. moment_after (first_moment (start_image s)) (log_steps new.log)) start
      ∙ after_one (first_moment (start_image old.start)) (log_steps old.log) (log_steps new.log) step noted
      ∙ pends

  pub change_pends : ((d : Image) → Happens change d d) → ((d c : Image) → makes d c → Happens change d c) → ((d c : Image) → Happens change d c → (c ≡ d) ⊎ makes d c) → Pends old new fits makes
  change_pends stays lands parts = record {
    reads = ap (λ (m : Moment). Some m.reads) became;
    keeps = λ c left. subst (λ (m : Moment). IsImage m c) (sym became) (⊎_elim (λ is. inl is) (λ was. inr (c, was, stays c)) left);
    adds = λ _ b c left make. subst (λ (m : Moment). IsImage m c) (sym became) (inr (b, left_by (now_of old) (reads_left (start_image old.start) (log_steps old.log)) b left, lands b c make));
    only = λ c left. from c (subst (λ (m : Moment). IsImage m c) became left);
  }
    where
      from : (c : Image) → IsImage with_change c → IsImage (now_of old) c ⊎ ((b : Image) × IsImage (now_of old) b × makes b c)
      from c (inl is) = inl (inl is)
      from c (inr left) = ⊎_elim (λ same. inl (subst (λ (i : Image). IsImage (now_of old) i) (sym same) (inr left.1))) (λ make. inr (left.0, inr left.1, make)) (parts left.0 c left.2)

pub cut_pends : (old new : MemDisk) (to : ℕ) → new.start ≡ old.start → log_steps new.log ≡ log_steps old.log ++ cut_pending to ∷ [] → (IsStopped old 1 → ⊥) → CutPends old new to
cut_pends old new to start noted going = change_pends old new (cut_pending to) (shortened to) _ _ start noted refl
    (λ d. same_file (λ b e. Shortens b to e) (λ b. shortens_none b to) d)
    (λ d c make. make.1)
    (λ d c cut. inr (going, cut))

new_image_is : (file : NewFile) (bytes : List ℕ) (c : Image) → new_image (fresh_of file bytes) ≡ Some c → c ≡ Some bytes
new_image_is Absent bytes c is = cc
new_image_is Begun bytes c is = cc
new_image_is Whole bytes c is = cc

pub publish_pends : (old new : MemDisk) → new.start ≡ old.start → log_steps new.log ≡ log_steps old.log ++ publish_pending ∷ [] → (IsStopped old 1 → ⊥) → new_image (mem_state old).fresh ≡ Some (Some (now_of old).new_bytes) → PublishPends old new
publish_pends old new start noted going whole = change_pends old new publish_pending (replaced (now_of old).new_bytes) _ _ start noted refl
    (λ d. inl refl)
    (λ d c make. inr (cc (make.1, whole)))
    (λ d c landed. ⊎_elim (λ same. inl same) (λ is. inr (going, cc (whole, is))) landed)
