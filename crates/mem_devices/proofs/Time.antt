-- A call of a disk in memory notes one step at most, so time goes on.
use Rattle.std.proofs.Common.{◌≡◌, ◌⊎◌, inl, inr, ⊎_elim, ℕ, ◌+◌, ◌≤◌, Option, Some, refl, [], ◌∷◌, ◌++◌, length, List, ap, sym, ◌∙◌, subst, arith, length-append}
use Rattle.base_devices.specs.CrashImages.{GoesOn, Image, Fresh, LeavesOnly}
use Rattle.base_devices.specs.DiskCalls.{DiskCall}
use Rattle.base_devices.specs.Frames.{KeepsFiles}
use Rattle.std.proofs.lemmas.List.Sums.{fold-append}
use Rattle.mem_devices.specs.Past.{LeftSince, past_now, past_keeps, past_adds, past_counts, past_earlier, after}
use Rattle.mem_devices.specs.Memory.{state_of}
use Rattle.mem_devices.specs.History.{Moment, Step, kept, output, moment_step, moment_after, IsImage, mark_of}

module _ (start : Moment) where
  abbrev Left : List Step → ℕ → Image → ℕ → Type 0
  Left steps = LeftSince moment_step IsImage mark_of start steps

  abbrev Time : List Step → List Step → Type 0
  Time old new = (length old ≤ length new)
      × ((t : ℕ) (c : Image) (n : ℕ) → t ≤ length old → Left old t c n → Left new t c n)
      × ((t : ℕ) (c : Image) (n : ℕ) → t ≤ length old → Left new t c n → Left old t c n ⊎ Left new (length old) c n)

  one_more : (old : List Step) (e : Step) → Time old (old ++ e ∷ [])
  one_more old e = (
    omega (arith, length-append old (e ∷ [])),
    λ t c n _ left. past_keeps moment_step IsImage mark_of start old e t c n left,
    λ t c n _ left. ⊎_elim (λ was. inl was) (λ now. inr (last c n now)) (past_adds moment_step IsImage mark_of start old e t c n left),
  )
    where
      last : (c : Image) (n : ℕ) → IsImage (after moment_step IsImage mark_of start (old ++ e ∷ [])) c × (n ≡ mark_of (after moment_step IsImage mark_of start (old ++ e ∷ []))) → Left (old ++ e ∷ []) (length old) c n
      last c n now =
          let left = past_counts moment_step IsImage mark_of start (old ++ e ∷ []) c now.0 in
          subst (λ (k : ℕ). Left (old ++ e ∷ []) (length old) c k) (sym now.1)
          (past_earlier moment_step IsImage mark_of start (old ++ e ∷ []) (length old) (length (old ++ e ∷ [])) c _ (omega (arith, length-append old (e ∷ []))) left)

  no_more : (old : List Step) → Time old old
  no_more old = (omega arith, λ t c n _ left. left, λ t c n _ left. inl left)

  time_of : (old new : List Step) (e : Step) → (new ≡ old ++ e ∷ []) ⊎ (new ≡ old) → Time old new
  time_of old new e (inl more) = subst (λ (es : List Step). Time old es) (sym more) (one_more old e)
  time_of old new e (inr same) = subst (λ (es : List Step). Time old es) (sym same) (no_more old)

pub goes_on : (start : Moment) (old new : List Step) (e : Step) (fresh fresh' : Option Fresh) (faults faults' written written' publishes publishes' : ℕ) → (new ≡ old ++ e ∷ []) ⊎ (new ≡ old) → faults ≤ faults' → written ≤ written' → publishes ≤ publishes'
    → GoesOn (state_of start old fresh faults written publishes) (state_of start new fresh' faults' written' publishes')
goes_on start old new e fresh fresh' faults faults' written written' publishes publishes' noted failed more counts =
    let time = time_of start old new e noted in
    record {
      later = time.0;
      keeps = time.1;
      adds = time.2;
      telling = (λ _. refl, λ _. refl);
      faults = failed;
      written = more;
      publishes = counts;
    }

-- one step more
pub goes_one_more : (start : Moment) (old new : List Step) (e : Step) (fresh fresh' : Option Fresh) (faults faults' written written' publishes publishes' : ℕ) → new ≡ old ++ e ∷ [] → faults ≤ faults' → written ≤ written' → publishes ≤ publishes'
    → GoesOn (state_of start old fresh faults written publishes) (state_of start new fresh' faults' written' publishes')
goes_one_more start old new e fresh fresh' faults faults' written written' publishes publishes' noted = goes_on start old new e fresh fresh' faults faults' written written' publishes publishes' (inl noted)

-- no step more
pub goes_no_more : (start : Moment) (old new : List Step) (fresh fresh' : Option Fresh) (faults faults' written written' publishes publishes' : ℕ) → new ≡ old → faults ≤ faults' → written ≤ written' → publishes ≤ publishes'
    → GoesOn (state_of start old fresh faults written publishes) (state_of start new fresh' faults' written' publishes')
goes_no_more start old new fresh fresh' faults faults' written written' publishes publishes' same = goes_on start old new kept fresh fresh' faults faults' written written' publishes publishes' (inr same)

-- one step more is played after all others
pub after_one : (start : Moment) (old new : List Step) (e : Step) → new ≡ old ++ e ∷ [] → moment_after start new ≡ moment_step (moment_after start old) e
after_one start old new e noted = ap (λ (es : List Step). moment_after start es) noted ∙ fold-append moment_step start old (e ∷ [])

-- a call that notes one step and keeps the mark leaves what could be left just before it or just after it
pub call_one_more : (start : Moment) (old new : List Step) (e : Step) (fresh fresh' : Option Fresh) (faults faults' written written' publishes publishes' : ℕ) → new ≡ old ++ e ∷ [] → (moment_step (moment_after start old) e).mark ≡ (moment_after start old).mark
    → DiskCall (state_of start old fresh faults written publishes) (state_of start new fresh' faults' written' publishes')
call_one_more start old new e fresh fresh' faults faults' written written' publishes publishes' noted kept_mark =
    subst (λ (es : List Step). DiskCall (state_of start old fresh faults written publishes) (state_of start es fresh' faults' written' publishes')) (sym noted) (record {
      mark = same_mark;
      each = record { each = λ c n left. ⊎_elim (before c n) (λ now. (now.1 ∙ same_mark, inr now.0)) (past_adds moment_step IsImage mark_of start old e (length old) c n left) };
      stands = λ same. absurd (omega (arith, same, length-append old (e ∷ [])));
    })
  where
    same_mark : (moment_after start (old ++ e ∷ [])).mark ≡ (moment_after start old).mark
    same_mark = ap mark_of (after_one start old (old ++ e ∷ []) e refl) ∙ kept_mark

    before : (c : Image) (n : ℕ) → LeftSince moment_step IsImage mark_of start old (length old) c n → (n ≡ (moment_after start old).mark) × (IsImage (moment_after start old) c ⊎ IsImage (moment_after start (old ++ e ∷ [])) c)
    before c n was = let now = past_now moment_step IsImage mark_of start old c n was in (now.1, inl now.0)

-- a print notes one step, and leaves what could be left before with a mark from the old one to the new one
pub print_one_more : (start : Moment) (old new : List Step) (count : ℕ) (fresh fresh' : Option Fresh) (faults faults' written written' publishes publishes' : ℕ) → new ≡ old ++ output count ∷ []
    → LeavesOnly (state_of start old fresh faults written publishes) (state_of start new fresh' faults' written' publishes') (λ c n. IsImage (moment_after start old) c × ((moment_after start old).mark ≤ n) × (n ≤ (moment_after start new).mark))
print_one_more start old new count fresh fresh' faults faults' written written' publishes publishes' noted =
    subst (λ (es : List Step). LeavesOnly (state_of start old fresh faults written publishes) (state_of start es fresh' faults' written' publishes') (λ c n. IsImage (moment_after start old) c × ((moment_after start old).mark ≤ n) × (n ≤ (moment_after start es).mark))) (sym noted)
    (record { each = λ c n left. ⊎_elim (before c n) (now c n) (past_adds moment_step IsImage mark_of start old (output count) (length old) c n left) })
  where
    played : moment_after start (old ++ output count ∷ []) ≡ moment_step (moment_after start old) (output count)
    played = after_one start old (old ++ output count ∷ []) (output count) refl

    moved : (moment_after start (old ++ output count ∷ [])).mark ≡ (moment_after start old).mark + count
    moved = ap mark_of played

    before : (c : Image) (n : ℕ) → LeftSince moment_step IsImage mark_of start old (length old) c n → IsImage (moment_after start old) c × ((moment_after start old).mark ≤ n) × (n ≤ (moment_after start (old ++ output count ∷ [])).mark)
    before c n was = let left = past_now moment_step IsImage mark_of start old c n was in (left.0, omega (arith, left.1), omega (arith, left.1, moved))

    now : (c : Image) (n : ℕ) → IsImage (moment_after start (old ++ output count ∷ [])) c × (n ≡ mark_of (moment_after start (old ++ output count ∷ []))) → IsImage (moment_after start old) c × ((moment_after start old).mark ≤ n) × (n ≤ (moment_after start (old ++ output count ∷ [])).mark)
    now c n left = (subst (λ (m : Moment). IsImage m c) played left.0, omega (arith, left.1, moved), omega (arith, left.1))

-- with one step more the clock rises
pub clock_rises : (old new : List Step) (e : Step) → new ≡ old ++ e ∷ [] → length new ≡ length old → ⊥
clock_rises old new e noted same = absurd (omega (arith, same, ap length noted, length-append old (e ∷ [])))

pub print_marks : (start : Moment) (old new : List Step) (count : ℕ) → new ≡ old ++ output count ∷ [] → (moment_after start new).mark ≡ (moment_after start old).mark + count
print_marks start old new count noted = ap mark_of (after_one start old new (output count) noted)

pub print_keeps : (start : Moment) (old new : List Step) (count : ℕ) (fresh : Option Fresh) (faults faults' written publishes : ℕ) → new ≡ old ++ output count ∷ [] → KeepsFiles (state_of start old fresh faults written publishes) (state_of start new fresh faults' written publishes)
print_keeps start old new count fresh faults faults' written publishes noted =
    let played : moment_after start new ≡ moment_step (moment_after start old) (output count) = after_one start old new (output count) noted in
    record {
      reads = ap (λ (m : Moment). Some m.reads) played;
      leaves = record {
        no_more = λ c left. subst (λ (m : Moment). IsImage m c) played left;
        no_less = λ c left. subst (λ (m : Moment). IsImage m c) (sym played) left;
      };
      fresh = refl;
      written = refl;
      publishes = refl;
    }
