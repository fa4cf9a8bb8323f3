-- From one live record to the next, and what a search found as a spot.
use Rattle.std.proofs.Common.{◌≡◌, ℕ, ◌+◌, ◌-◌, ◌<◌, ◌≤◌, Bool, true, false, List, [], ◌∷◌, ◌++◌, length, refl, sym, ap, subst, ◌∙◌, inl, inr, arith, append_assoc, ◌⊎◌}
use Rattle.skip_spec.specs.Records.{head_size_of}
use Rattle.skip_form.specs.Flaws.{head_in}
use Rattle.skip_spec.specs.Rows.{IsAmong}
use Rattle.skip_spec.specs.Successor.{IsSuccessorUnder, successor_under}
use Rattle.skip_spec.specs.Chain.{Entry, Chain}
use Rattle.skip_spec.specs.Change.{heads_of, first_at, last_at}
use Rattle.skip_spec.specs.Live.{HasLog, Live}
use Rattle.skip_spec.specs.Place.{IsFound}
use Rattle.skip_spec.specs.Appending.{ChangesLinks}
use Rattle.skip_spec.proofs.Lists.{last_more}
use Rattle.skip_spec.proofs.SameLog.{laid_log, head_of_log, high_in_log}
use Rattle.skip_spec.proofs.Splice.{Holds, Includes, head_stays}
use Rattle.skip_spec.proofs.Successors.{high_start, successor_of}
use Rattle.skip_lists.specs.Heads.{SetsPointer}
use Rattle.skip_lists.specs.Levels.{IsSpot}

-- ---- the next live record

chain_at : (file : List ℕ) (bound : ℕ) (starts : List ℕ) (at : ℕ) (key : List ℕ) (passed left : List Entry) → Chain file bound starts at key (passed ++ left) → IsSuccessorUnder file bound starts (last_at at passed) (first_at left)
chain_at file bound starts at key [] [] c = c
chain_at file bound starts at key [] (e ∷ left) c = c.0
chain_at file bound starts at key (e ∷ passed) left c = chain_at file bound starts e.at e.key passed left c.3

-- from the last of the records that were passed the successor is the first of those that are left
pub next_is : (file starts : List ℕ) (es : List Entry) (end : ℕ) → HasLog file starts es end → (passed left : List Entry) → es ≡ passed ++ left → successor_under file end (last_at 64 passed) ≡ first_at left
next_is file starts es end l passed left split =
    successor_of file starts (high_start file starts end l.rows) end (last_at 64 passed) (first_at left)
    (chain_at file end starts 64 [] passed left (subst (λ (ds : List Entry). Chain file end starts 64 [] ds) split l.chain))

-- and where it is 0, none is left
pub none_left : (file starts : List ℕ) (es : List Entry) (end : ℕ) → HasLog file starts es end → (passed left : List Entry) → es ≡ passed ++ left → first_at left ≡ 0 → left ≡ []
none_left file starts es end l passed left split z = along 64 [] passed left (subst (λ (ds : List Entry). Chain file end starts 64 [] ds) split l.chain) z
  where
    along : (at : ℕ) (key : List ℕ) (passed left : List Entry) → Chain file end starts at key (passed ++ left) → first_at left ≡ 0 → left ≡ []
    along at key [] [] c z = refl
    along at key [] (e ∷ left) c z = absurd (omega (arith, high_in_log file starts es end l e.at c.1.start, z))
    along at key (e ∷ passed) left c z = along e.at e.key passed left c.3 z

-- ---- what a search found

is_false : (exact : Bool) → (exact ≡ true → ⊥) → exact ≡ false
is_false true isnt = absurd (isnt refl)
is_false false isnt = refl

pub found_spot : (bytes starts : List ℕ) (es : List Entry) (key : List ℕ) (here : ℕ) (before : List ℕ) (exact : Bool) (same_at next : ℕ) → Live bytes starts es → IsFound es key here before exact
    → (exact ≡ true → (same_at ≡ here) × (next ≡ successor_under bytes (length bytes) here))
    → (exact ≡ false → (same_at ≡ 0) × (next ≡ here))
    → IsSpot es key before same_at next
found_spot bytes starts es key here before exact same_at next live found there absent = elim found.place.same_key [
  | inl none ↦
      let turned = absent (is_false exact (λ e. found.has_key.0 e none)) in
      let first : here ≡ first_at found.place.rest = found.first ∙ ap (λ (ds : List Entry). first_at (ds ++ found.place.rest)) none in
      record { place = found.place; last = found.last; same_is = turned.0 ∙ sym (ap first_at none); next_is = turned.1 ∙ first }
  | inr one ↦
      let e = one.0 in
      let turned = there (found.has_key.1 (λ none. absurd (let h : e ∷ [] ≡ [] = sym one.1 ∙ none in cc))) in
      let first : here ≡ e.at = found.first ∙ ap (λ (ds : List Entry). first_at (ds ++ found.place.rest)) one.1 in
      let split : es ≡ (found.place.front ++ e ∷ []) ++ found.place.rest = found.place.split ∙ ap (λ (ds : List Entry). found.place.front ++ (ds ++ found.place.rest)) one.1 ∙ sym (append_assoc found.place.front (e ∷ []) found.place.rest) in
      let next_one = next_is bytes starts es (length bytes) live.listed.log (found.place.front ++ e ∷ []) found.place.rest split in
      let past : successor_under bytes (length bytes) e.at ≡ first_at found.place.rest = ap (successor_under bytes (length bytes)) (sym (last_more 64 found.place.front e)) ∙ next_one in
      record {
        place = found.place;
        last = found.last;
        same_is = turned.0 ∙ first ∙ sym (ap first_at one.1);
        next_is = turned.1 ∙ ap (successor_under bytes (length bytes)) first ∙ past;
      }
]

-- ---- what changes

pub setting_changes : (old new : List ℕ) (es : List Entry) (at slot to : ℕ) → IsAmong (heads_of es) at → slot ≤ (head_in old at).level → SetsPointer old new at slot to → ChangesLinks es old new
setting_changes old new es at slot to is fits sets = record {
  grows = sets.long;
  others = λ i low lt all. elim (all at is) [
    | inl before ↦ sets.others i lt (inl (omega arith)) (inl (omega arith))
    | inr past ↦ sets.others i lt (inr (omega (arith, past, fits))) (inr past)
  ];
}

pub changes_then : (a b c starts : List ℕ) (es : List Entry) → HasLog a starts es (length a) → ChangesLinks es a b → ChangesLinks es b c → ChangesLinks es a c
changes_then a b c starts es l first second =
    let holds : Holds a b starts (length a) (heads_of es) = record { laid = laid_log a starts es (length a) l; rows = l.rows; heads = head_of_log a starts es (length a) l; long_b = l.inside; long_c = first.grows; others = first.others } in
    let itself : Includes starts starts = (λ v m. m) in
    record {
      grows = omega (arith, first.grows, second.grows);
      others = λ i low lt all.
          second.others i low (omega (arith, lt, first.grows)) (λ at m. subst (λ h. (i < at + 8) ⊎ (at + (head_size_of h - 4) ≤ i)) (sym (head_stays a b starts starts (length a) (heads_of es) holds itself at (head_of_log a starts es (length a) l at m).0)) (all at m))
          ∙ first.others i low lt all;
    }
