-- Only some links change, in one step and in two.
use Rattle.std.proofs.Common.{◌≡◌, ℕ, ◌+◌, ◌-◌, ◌<◌, ◌≤◌, List, length, take, drop, get_or, sym, ap, subst, ◌∙◌, inl, inr, arith, ◌⊎◌}
use Rattle.std.proofs.lemmas.List.{take_all, length-drop}
use Rattle.base_bytes.specs.Fields.{part}
use Rattle.skip_form.specs.Fields.{pointer_in}
use Rattle.skip_form.specs.Flaws.{head_in}
use Rattle.skip_form.specs.Spelling.{Record, record_bytes, head_of}
use Rattle.skip_spec.specs.Records.{head_size_of}
use Rattle.skip_spec.specs.Rows.{IsAmong}
use Rattle.skip_spec.specs.Chain.{Entry}
use Rattle.skip_spec.specs.Change.{heads_of}
use Rattle.skip_spec.specs.Live.{HasLog}
use Rattle.skip_spec.specs.Near.{free_slot_of}
use Rattle.skip_spec.proofs.Kept.{free_slot_le}
use Rattle.skip_spec.proofs.Parts.{part-same}
use Rattle.skip_spec.proofs.SameLog.{laid_log, head_of_log, span_of}
use Rattle.skip_spec.proofs.Splice.{Holds, Includes, head_stays}
use Rattle.skip_lists.specs.Heads.{SetsPointer}
use Rattle.skip_lists.proofs.Frames.{has_slots}
use Rattle.skip_lists.proofs.Walks.{setting_changes}
use Rattle.skip_change.specs.Changing.{KeepsRest, Places}

-- the same first bytes
pub first_same : (a b : List ℕ) (n : ℕ) → n ≤ length a → n ≤ length b → ((i : ℕ) → i < n → get_or b i 0 ≡ get_or a i 0) → take n b ≡ take n a
unfolding part
first_same a b n la lb same = part-same b a 0 n (omega (arith, lb)) (omega (arith, la)) (λ i lo hi. same i (omega arith))

-- a pointer past the header is set
pub setting_keeps : (a b : List ℕ) (es : List Entry) (at slot to : ℕ) → 64 ≤ length a → IsAmong (heads_of es) at → 64 ≤ at → slot ≤ (head_in a at).level → SetsPointer a b at slot to → KeepsRest es a b
setting_keeps a b es at slot to long m past fits sets = record {
  header = first_same a b 64 long (omega (arith, long, sets.long)) (λ i lt. sets.others i (omega (arith, long)) (inl (omega arith)) (inl (omega arith)));
  links = setting_changes a b es at slot to m fits sets;
}

module _ (a b starts : List ℕ) (es fs : List Entry) (l : HasLog a starts es (length a)) (in_list : (v : ℕ) → IsAmong (heads_of fs) v → IsAmong (heads_of es) v) (first : KeepsRest fs a b) where
  -- more links may change
  pub keeps_more : KeepsRest es a b
  keeps_more = record {
    header = first.header;
    links = record { grows = first.links.grows; others = λ i low lt all. first.links.others i low lt (λ at m. all at (in_list at m)) };
  }

  same_head : (v : ℕ) → IsAmong (heads_of fs) v → head_in b v ≡ head_in a v
  same_head v m =
      let holds : Holds a b starts (length a) (heads_of es) = record { laid = laid_log a starts es (length a) l; rows = l.rows; heads = head_of_log a starts es (length a) l; long_b = l.inside; long_c = first.links.grows; others = keeps_more.links.others } in
      let itself : Includes starts starts = (λ v m. m) in
      head_stays a b starts starts (length a) (heads_of es) holds itself v (head_of_log a starts es (length a) l v (in_list v m)).0

  module _ (c : List ℕ) (second : KeepsRest fs b c) where
    pub keeps_then : KeepsRest fs a c
    keeps_then = record {
      header = second.header ∙ first.header;
      links = record {
        grows = omega (arith, first.links.grows, second.links.grows);
        others = λ i low lt all.
            second.links.others i low (omega (arith, lt, first.links.grows)) (λ at m. subst (λ h. (i < at + 8) ⊎ (at + (head_size_of h - 4) ≤ i)) (sym (same_head at m)) (all at m))
            ∙ first.links.others i low lt all;
      };
    }

    -- what was appended first stays
    pub past_end : (i : ℕ) → length a ≤ i → i < length b → get_or c i 0 ≡ get_or b i 0
    past_end i le lt = second.links.others i (omega (arith, le, l.least)) lt (λ at m. inr (
        let there = has_slots a starts es (length a) l at (in_list at m) in
        let same = ap head_size_of (same_head at m) in
        omega (arith, there.inside, le, same)))

-- a record was placed, and then the front's links changed
module _ (old mid new starts : List ℕ) (es front : List Entry) (l : HasLog old starts es (length old)) (in_list : (v : ℕ) → IsAmong (heads_of front) v → IsAmong (heads_of es) v)
    (committed at : ℕ) (is : IsAmong (heads_of front) at) (r : Record) (placed : Places committed at r old mid) (long_mid : length mid ≡ length old + (head_of r).size) (links : KeepsRest front mid new) (long : length new ≡ length mid) where
  start : 64 ≤ at
  start = (span_of old starts es (length old) l at (head_of_log old starts es (length old) l at (in_list at is)).0).low

  placing : KeepsRest front old mid
  placing =
      let there = has_slots old starts es (length old) l at (in_list at is) in
      setting_keeps old mid front at (free_slot_of old committed at) (length old) (omega (arith, l.least)) is start (omega (arith, free_slot_le committed (pointer_in old at 0) (pointer_in old at 1), there.low)) placed.sets

  pub placed_keeps : KeepsRest es old new
  placed_keeps = keeps_more old new starts es front l in_list (keeps_then old mid starts es front l in_list placing new links)

  pub placed_adds : drop (length old) new ≡ record_bytes r
  unfolding part
  placed_adds =
      let size = (head_of r).size in
      sym (take_all size (drop (length old) new) (omega (arith, length-drop (length old) new, long, long_mid)))
      ∙ part-same new mid (length old) size (omega (arith, long, long_mid)) (omega (arith, long_mid)) (λ i lo hi. past_end old mid starts es front l in_list placing new links i lo (omega (arith, hi, long_mid)))
      ∙ placed.spelled.whole
