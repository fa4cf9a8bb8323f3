-- A head is written once, whatever pointers of it were set.
use Rattle.std.proofs.Common.{◌≡◌, ℕ, ◌+◌, ◌-◌, ◌*◌, ◌<◌, ◌≤◌, List, length, get_or, refl, sym, ap, subst, ◌∙◌, inl, inr, arith}
use Rattle.std.proofs.lemmas.Bool.{cases_lt}
use Rattle.base_bytes.specs.Fields.{part, u64_in}
use Rattle.base_bytes.specs.Landing.{written_at, Lands}
use Rattle.base_bytes.proofs.Landings.{lands_whole}
use Rattle.base_bytes.proofs.Parts.{length-part}
use Rattle.base_devices.specs.CrashImages.{DiskState, Shows, Reads}
use Rattle.base_devices.specs.DiskCalls.{DiskCall, Follows}
use Rattle.skip_form.specs.declared.head.Head.{Head}
use Rattle.skip_form.specs.Fields.{pointer_in}
use Rattle.skip_form.specs.Flaws.{head_in}
use Rattle.skip_spec.specs.Records.{head_size_of}
use Rattle.skip_spec.specs.Rows.{IsAmong}
use Rattle.skip_spec.specs.Chain.{pairs}
use Rattle.skip_spec.specs.Opens as opens
use Rattle.skip_spec.specs.Opens.{Contents}
use Rattle.skip_spec.specs.Near.{heads, MayHold, IsImageOf, IsPermittedWrite}
use Rattle.skip_spec.proofs.Cuts.{dirty_image, append_permitted}
use Rattle.skip_spec.proofs.Kept.{free_slot_le, head_kept}
use Rattle.skip_spec.proofs.Landed.{landing_near}
use Rattle.skip_spec.proofs.Parts.{part-moved, head_in-same, get_or-part}
use Rattle.skip_spec.proofs.Places.{Within, apart, places, laid, head_is}
use Rattle.skip_lists.specs.Heads.{HasSlots, SetsPointer, MaySet}
use Rattle.skip_lists.specs.Tie.{TiedToBase, LeavesMap}
use Rattle.skip_lists.proofs.Permitted.{head_span, set_permitted}
use Rattle.skip_lists.proofs.Setting.{as_written, set_as_written}
use Rattle.skip_lists.proofs.Ties.{write_moments, write_tied}
use Rattle.skip_image.specs.HeadWrites.{ChangesHead, ReadsButHead, IsAhead}

-- ---- the head of an image may be written

module _ (base c : List ℕ) (f : Contents) (r : opens.Reads base f) (n : IsImageOf base f c) (p : ℕ) (there : HasSlots c p) (known : p < f.header.current_size → IsAmong (heads f) p) where
  abbrev count : ℕ
  count = head_size_of (head_in c p) - 4

  abbrev head_bytes : List ℕ
  head_bytes = part c p count

  long_head : length head_bytes ≡ count
  long_head = length-part c p count (omega (arith, there.inside))

  byte_at : (i : ℕ) → p ≤ i → i < p + count → get_or head_bytes (i - p) 0 ≡ get_or c i 0
  byte_at i lo hi = get_or-part c p count (i - p) (omega arith) ∙ ap (λ (j : ℕ). get_or c j 0) (let e : p + (i - p) ≡ i = omega arith in e)

  module _ (lt : p < f.header.current_size) where
    is_head : IsAmong (heads f) p
    is_head = known lt

    span : Within base 64 f.header.current_size p
    span = head_span base f r p is_head

    size_kept : count ≡ head_size_of (head_in base p) - 4
    size_kept = ap (λ (h : Head). head_size_of h - 4) (head_kept base c f r n p (head_is base f r p is_head).0)

    head_inside : IsPermittedWrite base f p head_bytes
    head_inside = record {
      past_header = span.low;
      others = λ i lo hi in_end fixed. byte_at i lo (omega (arith, long_head)) ∙ n.others i (omega (arith, span.low)) in_end fixed;
      slots = λ h h_is m m_is.
          let small : m ≤ 1 = omega (arith, m_is, free_slot_le f.header.current_size (pointer_in base h 0) (pointer_in base h 1)) in
          elim (apart base 64 (places f) f.header.current_size h p (laid base f r) (head_is base f r h h_is).0 (head_is base f r p is_head).0) [
            | inl e ↦
                let read : part head_bytes (h + 8 + 8 * m - p) 8 ≡ part c (h + 8 + 8 * m) 8 =
                part-moved head_bytes c (h + 8 + 8 * m - p) (h + 8 + 8 * m) 8 (omega (arith, e, long_head, there.low)) (omega (arith, e, there.inside, there.low)) (λ i lt.
                get_or-part c p count (h + 8 + 8 * m - p + i) (omega (arith, e, there.low)) ∙ ap (λ (j : ℕ). get_or c j 0) (let x : p + (h + 8 + 8 * m - p + i) ≡ h + 8 + 8 * m + i = omega (arith, e) in x)) in
                inr (inr (omega (arith, e), omega (arith, e, long_head, there.low), subst (λ (x : ℕ). MayHold f.header.current_size (pointer_in base h m) x) (sym (ap u64_in read)) (n.slots h h_is m m_is)))
            | inr far ↦ elim far [ inl before ↦ inl (omega arith) | inr after ↦ inr (inl (omega (arith, long_head, size_kept))) ]
          ];
    }

  pub head_permitted : IsPermittedWrite base f p head_bytes
  head_permitted = elim (cases_lt p f.header.current_size) [
    | inr le ↦ append_permitted base f p head_bytes r le
    | inl lt ↦ head_inside lt
  ]

-- ---- the head is written

-- what the disk read becomes the bytes
pub head_written : (was c : List ℕ) (p : ℕ) → ChangesHead was c p → HasSlots c p → c ≡ written_at p (part c p (head_size_of (head_in c p) - 4)) was
head_written was c p changes there = as_written was c p (head_size_of (head_in c p) - 4) (omega (arith, there.inside, changes.long)) changes.long changes.others

module _ (base c : List ℕ) (says : Contents) (p : ℕ) (s : DiskState) (a : IsAhead base says c p s) (there : HasSlots c p)
    (bytes : List ℕ) (is : bytes ≡ part c p (head_size_of (head_in c p) - 4)) where
  permitted : IsPermittedWrite base says p bytes
  permitted = subst (λ (x : List ℕ). IsPermittedWrite base says p x) (sym is)
      (head_permitted base c says a.tied.committed (dirty_image base says a.tied.committed c a.own.0 a.own.1) p there a.known)

  pub head_moments : (y : DiskState) → DiskCall s y → Follows (λ b c. Lands b p bytes c) s y → LeavesMap (pairs says.chain) s y
  head_moments y call follows = write_moments base a.was says s a.tied y p bytes permitted call follows

  pub head_tied : (y : DiskState) → Follows (λ b c. Lands b p bytes c) s y → (Shows y → Reads y c) → TiedToBase base says c y
  head_tied y follows reads = write_tied base a.was says s a.tied y p bytes c permitted (head_written a.was c p a.changes there ∙ ap (λ (x : List ℕ). written_at p x a.was) (sym is)) follows reads

-- ---- what is ahead

pub changes_nothing : (b : List ℕ) (p : ℕ) → ChangesHead b b p
changes_nothing b p = record { long = refl; others = λ i lt side. refl }

-- nothing was set yet
pub not_ahead : (base b : List ℕ) (says : Contents) (p : ℕ) (s : DiskState) → TiedToBase base says b s → (p < says.header.current_size → IsAmong (heads says) p) → IsAhead base says b p s
not_ahead base b says p s t known = record { was = b; tied = t; own = t.own; changes = changes_nothing b p; known = known }

pub reads_all : (b : List ℕ) (p : ℕ) (s : DiskState) → Reads s b → ReadsButHead s b p
reads_all b p s reads = (b, reads, changes_nothing b p)

-- one more pointer of the head is set
module _ (b c : List ℕ) (p slot to : ℕ) (there : HasSlots b p) (fits : slot ≤ (head_in b p).level) (sets : SetsPointer b c p slot to) (long : length c ≡ length b) where
  same_head : head_in c p ≡ head_in b p
  same_head = head_in-same c b p (omega (arith, long, there.inside)) (omega (arith, there.inside)) (λ i lo hi.
      sets.others i (omega (arith, there.inside)) (inl (omega arith)) (inl (omega (arith, there.low))))

  pub set_more : (was : List ℕ) → ChangesHead was b p → ChangesHead was c p
  set_more was changes =
      let same : head_size_of (head_in c p) ≡ head_size_of (head_in b p) = ap head_size_of same_head in
      record {
        long = long ∙ changes.long;
        others = λ i lt side.
            sets.others i (omega (arith, lt, changes.long))
            (elim side [ inl low ↦ inl (omega arith) | inr high ↦ inr (omega (arith, high, fits, same)) ])
            (elim side [ inl low ↦ inl (omega arith) | inr high ↦ inr (omega (arith, high, same)) ])
            ∙ changes.others i lt (elim side [ inl low ↦ inl low | inr high ↦ inr (omega (arith, high, same)) ]);
      }

  pub reads_more : (s : DiskState) → ReadsButHead s b p → ReadsButHead s c p
  reads_more s reads = (reads.0, reads.1, set_more reads.0 reads.2)

  pub more_ahead : (base : List ℕ) (says : Contents) (s : DiskState) → IsAhead base says b p s → MaySet base says b p slot to → IsAhead base says c p s
  more_ahead base says s a may =
      let write = part c p (head_size_of (head_in b p) - 4) in
      let w : IsPermittedWrite base says p write = set_permitted base b c says a.tied.committed (dirty_image base says a.tied.committed b a.own.0 a.own.1) p slot to there may sets long in
      let lands : Lands b p write c = subst (λ (x : List ℕ). Lands b p write x) (sym (set_as_written b c p slot to there fits sets long)) (lands_whole p write b) in
      record {
        was = a.was;
        tied = a.tied;
        own = landing_near base b c says p write a.tied.committed a.own.0 a.own.1 w lands;
        changes = set_more a.was a.changes;
        known = a.known;
      }
