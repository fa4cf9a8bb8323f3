-- A record was appended, and then a pointer below it was set.
use Rattle.std.proofs.Common.{◌≡◌, ◌↔◌, ℕ, zero, suc, ◌+◌, ◌-◌, ◌*◌, ◌^◌, ◌<◌, ◌≤◌, List, [], ◌∷◌, ◌++◌, length, get_or, refl, sym, ap, subst, ◌∙◌, inl, inr, arith, ◌⊎◌}
use Rattle.std.specs.List.{AllByRecursion}
use Rattle.std.proofs.lemmas.List.{length-append, get_or_append_left, get_or-append_right}
use Rattle.base_bytes.specs.Fields.{AreBytes}
use Rattle.skip_form.specs.declared.head.Head.{Head}
use Rattle.skip_form.specs.declared.head.Kind.TheVariants.{Dummy}
use Rattle.skip_form.specs.Fields.{pointer_in}
use Rattle.skip_spec.specs.Near.{free_slot, free_slot_of, IsImageOf, heads}
use Rattle.base_bytes.specs.Fields.{u64_in}
use Rattle.skip_form.specs.Flaws.{head_in}
use Rattle.skip_form.specs.Spelling.{Record, IsRecord, record_bytes, head_of}
use Rattle.skip_spec.specs.Records.{head_size_of}
use Rattle.skip_spec.proofs.Parts.{head_in-same, part-moved, part-same}
use Rattle.skip_spec.specs.Rows.{IsAmong}
use Rattle.skip_spec.specs.Opens.{Contents, Reads, Tidy}
use Rattle.skip_spec.proofs.Kept.{free_slot_le}
use Rattle.skip_lists.specs.Heads.{HasSlots, SetsPointer, MaySet}
use Rattle.skip_lists.proofs.Permitted.{free_kept}
use Rattle.skip_spec.specs.Spelled.{IsSpelled}
use Rattle.skip_spec.proofs.SpelledRecords.{length-record}
use Rattle.skip_lists.proofs.Setting.{whole_part}

all_fit : (ps : List ℕ) → ((i : ℕ) → get_or ps i 0 < 2 ^ 64) → AllByRecursion (λ p. p < 2 ^ 64) ps
all_fit [] fit = record {}
all_fit (p ∷ ps) fit = (fit zero, all_fit ps (λ i. fit (suc i)))

pub numbers_fit : (ps : List ℕ) → ((i : ℕ) → get_or ps i 0 < 2 ^ 64) → AllByRecursion (λ p. p < 2 ^ 64) ps
numbers_fit = all_fit

-- a head in a file that grows
module _ (b more : List ℕ) (p : ℕ) (there : HasSlots b p) where
  pub head_grown : head_in (b ++ more) p ≡ head_in b p
  head_grown = head_in-same (b ++ more) b p (omega (arith, there.inside, length-append b more)) (omega (arith, there.inside)) (λ i lo hi. get_or_append_left b more 0 i (omega (arith, there.inside)))

  same_pointer : (n : ℕ) → n ≤ 1 → pointer_in (b ++ more) p n ≡ pointer_in b p n
  same_pointer n le = ap u64_in (part-same (b ++ more) b (p + 8 + 8 * n) 8 (omega (arith, there.inside, there.low, length-append b more)) (omega (arith, there.inside, there.low)) (λ i lo hi. get_or_append_left b more 0 i (omega (arith, there.inside, there.low))))

  pub slots_grown : HasSlots (b ++ more) p
  slots_grown = subst (λ (h : Head). (1 ≤ h.level) × (h.level ≤ 31) × (p + h.size ≤ length (b ++ more)) → HasSlots (b ++ more) p) head_grown (λ t. record { low = t.0; high = t.1; inside = t.2 })
      (there.low, there.high, omega (arith, there.inside, length-append b more))

pub free_grown : (b more : List ℕ) (p bound : ℕ) → HasSlots b p → free_slot_of (b ++ more) bound p ≡ free_slot_of b bound p
free_grown b more p bound there = ap (λ (x : ℕ). free_slot bound x (pointer_in (b ++ more) p 1)) (same_pointer b more p there 0 (omega arith)) ∙ ap (λ (y : ℕ). free_slot bound (pointer_in b p 0) y) (same_pointer b more p there 1 (omega arith))

module _ (b b1 c : List ℕ) (r : Record) (p k to : ℕ) (is_1 : b1 ≡ b ++ record_bytes r) (sets : SetsPointer b1 c p k to) (long : length c ≡ length b1)
    (there : HasSlots b p) (slot : k ≤ (head_in b p).level) (fits : IsRecord r) (bytes : AreBytes (record_bytes r)) (place : (r.kind ≡ Dummy) ↔ (length b ≡ 64)) where
  long_1 : length b1 ≡ length b + (head_of r).size
  long_1 = ap length is_1 ∙ length-append b (record_bytes r) ∙ ap (λ (n : ℕ). length b + n) (length-record r fits)

  pub long_c : length c ≡ length b + (head_of r).size
  long_c = long ∙ long_1

  left : (i : ℕ) → i < length b → get_or b1 i 0 ≡ get_or b i 0
  left i lt = ap (λ (l : List ℕ). get_or l i 0) is_1 ∙ get_or_append_left b (record_bytes r) 0 i lt

  same : head_in b1 p ≡ head_in b p
  same = ap (λ (l : List ℕ). head_in l p) is_1 ∙ head_grown b (record_bytes r) p there

  off : (n i : ℕ) → (i < p + (n - 8)) ⊎ (p + (n - 4) ≤ i) → n ≡ head_size_of (head_in b1 p) → (i < p + (head_size_of (head_in b1 p) - 8)) ⊎ (p + (head_size_of (head_in b1 p) - 4) ≤ i)
  off n i side e = subst (λ (m : ℕ). (i < p + (m - 8)) ⊎ (p + (m - 4) ≤ i)) e side

  pub sets_old : SetsPointer b c p k to
  sets_old = record {
    long = omega (arith, long_c);
    others = λ i lt out out'. sets.others i (omega (arith, long_1)) out (off (head_size_of (head_in b p)) i out' (ap head_size_of (sym same))) ∙ left i lt;
    spelled = sets.spelled;
    pointer = sets.pointer;
    check = sets.check;
  }

  -- the record is past the head
  past : (i : ℕ) → length b ≤ i → i < length b1 → get_or c i 0 ≡ get_or b1 i 0
  past i le lt = sets.others i lt (inr (omega (arith, there.inside, slot))) (off (head_size_of (head_in b p)) i (inr (omega (arith, there.inside))) (ap head_size_of (sym same)))

  pub spelled_c : IsSpelled c (length b) r
  spelled_c = record {
    bytes = bytes;
    fits = fits;
    whole = part-moved c (record_bytes r) (length b) 0 (head_of r).size (omega (arith, long_c)) (omega (arith, length-record r fits)) (λ i lt.
        past (length b + i) (omega arith) (omega (arith, long_1)) ∙ ap (λ (l : List ℕ). get_or l (length b + i) 0) is_1
        ∙ get_or-append_right b (record_bytes r) (length b) (length b + i) 0 refl (omega arith)
        ∙ ap (λ (j : ℕ). get_or (record_bytes r) j 0) (let e : length b + i - length b ≡ 0 + i = omega arith in e)) ∙ whole_part (record_bytes r) (head_of r).size (length-record r fits);
    inside = omega (arith, long_c);
    place = place;
  }

-- the slot that was free before the append may be led to what was appended
pub may_place : (base b mid added : List ℕ) (says : Contents) (at to : ℕ) → Reads base says → Tidy base says → IsImageOf base says b → HasSlots b at → mid ≡ b ++ added → (at < says.header.current_size → IsAmong (heads says) at) → says.header.current_size ≤ to → MaySet base says mid at (free_slot_of b says.header.current_size at) to
may_place base b mid added says at to r tidy n there is known past =
    let same : (head_in mid at).level ≡ (head_in b at).level = ap (λ (l : List ℕ). (head_in l at).level) is ∙ ap (λ (h : Head). h.level) (head_grown b added at there) in
    record {
      inside = omega (arith, same, there.low, free_slot_le says.header.current_size (pointer_in b at 0) (pointer_in b at 1));
      known = known;
      which = λ lt. inr (inl (free_kept base says r b n tidy at (known lt), inr (inr past)));
    }
