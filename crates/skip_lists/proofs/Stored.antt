-- A record was placed where a search found its place.
use Rattle.std.proofs.Common.{◌≡◌, ◌≢◌, ℕ, ◌+◌, ◌<◌, ◌≤◌, List, [], ◌∷◌, ◌++◌, length, get_or, take, sym, ap, subst, ◌∙◌, inl, inr, arith}
use Rattle.std.specs.Prelude.{slice_index}
use Rattle.std.proofs.lemmas.List.{get_or-take}
use Rattle.skip_form.specs.declared.head.Head.{Head}
use Rattle.skip_form.specs.declared.head.Kind.TheVariants.{Put, Gone}
use Rattle.skip_form.specs.Fields.{pointer_in}
use Rattle.skip_form.specs.Flaws.{head_in}
use Rattle.skip_form.specs.Spelling.{Record, StandsAt, head_of}
use Rattle.skip_spec.specs.Chain.{Entry}
use Rattle.skip_spec.specs.Rows.{IsAmong}
use Rattle.skip_spec.specs.Change.{first_at, last_at}
use Rattle.skip_lists.proofs.Placed.{put_begun, delete_begun, among_end}
use Rattle.skip_lists.proofs.Spots.{split_live, before_zero}
use Rattle.skip_lists.specs.Heads.{SetsPointer}
use Rattle.skip_lists.specs.Levels.{Relinking, Leads, IsSpot, ArePast}
use Rattle.skip_lists.specs.Tie.{AreKnown}
use Rattle.skip_spec.proofs.Lists.{ats, among_front, among_back, among_both, last_among, on_level-in, on_level-out}
use Rattle.skip_spec.specs.Appending.{delete_record, record_of, put_entry}
use Rattle.skip_spec.specs.Live.{Live}
use Rattle.skip_spec.specs.Place.{AreLast}
use Rattle.skip_spec.specs.Spelled.{IsSpelled}
use Rattle.skip_spec.specs.Change.{heads_of}
use Rattle.skip_spec.specs.Near.{heads}
use Rattle.skip_spec.specs.Opens.{Contents}
use Rattle.skip_spec.proofs.SpelledRecords.{spelled_stands, spelled_head, spelled_check, spelled_tail, spelled_key, spelled_value, spelled_padding, spelled_pointer}
use Rattle.std.proofs.lemmas.Bool.{cases_lt}
use Rattle.skip_spec.proofs.PlaceLemmas.{front_below}

module _ (b c starts : List ℕ) (es : List Entry) (key before : List ℕ) (same_at next : ℕ) (live : Live b starts es) (at : IsSpot es key before same_at next)
    (k : ℕ) (one : k ≤ 1) (sets : SetsPointer b c (slice_index before 0) k (length b)) where
  sets_last : SetsPointer b c (last_at 64 at.place.front) k (length b)
  sets_last = subst (λ (p : ℕ). SetsPointer b c p k (length b)) (before_zero b starts es key before same_at next live at) sets

  abbrev old : Live b starts (at.place.front ++ (at.place.dropped ++ at.place.rest))
  old = split_live b starts es key before same_at next live at

  module _ (r : Record) (is : IsSpelled c (length b) r) (long : length c ≡ length b + (head_of r).size) where
    stands : StandsAt c (length b) (head_in c (length b))
    stands = subst (λ (h : Head). StandsAt c (length b) h) (sym (spelled_head c (length b) r is)) (spelled_stands c (length b) r is)

    ends : length c ≡ length b + (head_in c (length b)).size
    ends = long ∙ ap (λ (h : Head). length b + h.size) (sym (spelled_head c (length b) r is))

  pub stored : key ≢ [] → (level height : ℕ) (pointers value : List ℕ) → 1 ≤ level → level ≤ height → ArePast pointers at.place.rest height
      → IsSpelled c (length b) (record_of Put level (take (level + 1) pointers) key value)
      → length c ≡ length b + (head_of (record_of Put level (take (level + 1) pointers) key value)).size
      → Relinking c (starts ++ length b ∷ []) at.place.front at.place.dropped (put_entry (length b) level key value ∷ []) at.place.rest 1
  stored some level height pointers value low le past is long =
      let r = record_of Put level (take (level + 1) pointers) key value in
      let head = spelled_head c (length b) r is in
      let pointer : (i : ℕ) → i ≤ level → pointer_in c (length b) i ≡ get_or pointers i 0 = λ i lt. spelled_pointer c (length b) r is i lt ∙ get_or-take (level + 1) pointers i 0 (omega arith) in
      put_begun b c starts at.place.front at.place.dropped at.place.rest old.listed k one sets_last (stands r is long) (ends r is long) old.levels level key value
      (record { start = among_end starts (length b); kind = ap (λ (h : Head). h.kind) head; level = ap (λ (h : Head). h.level) head; key = spelled_key c (length b) r is; value = spelled_value c (length b) r is; tail_check = spelled_tail c (length b) r is; padding = spelled_padding c (length b) r is })
      (spelled_check c (length b) r is)
      (pointer 0 (omega arith) ∙ past.zero_is)
      (pointer 1 low ∙ past.one_is)
      (λ n from to. pointer (n + 1) (omega arith) ∙ past.upper n from (omega arith))
      (front_below es key at.place some) at.place.above

  pub deleted : IsSpelled c (length b) (record_of Gone 0 (next ∷ []) [] [])
      → length c ≡ length b + (head_of (record_of Gone 0 (next ∷ []) [] [])).size
      → Relinking c (starts ++ length b ∷ []) at.place.front at.place.dropped [] at.place.rest 1
  deleted is long =
      let r = record_of Gone 0 (next ∷ []) [] [] in
      delete_begun b c starts at.place.front at.place.dropped at.place.rest old.listed k one sets_last (stands r is long) (ends r is long) old.levels
      (ap (λ (h : Head). h.kind) (spelled_head c (length b) r is))
      (spelled_check c (length b) r is)
      (spelled_tail c (length b) r is)
      (spelled_pointer c (length b) r is 0 (omega arith) ∙ at.next_is)

  pub deleted_rest : IsSpelled c (length b) (delete_record at.place.rest) → length c ≡ length b + 24 → Relinking c (starts ++ length b ∷ []) at.place.front at.place.dropped [] at.place.rest 1
  deleted_rest is long =
      let same : record_of Gone 0 (next ∷ []) [] [] ≡ delete_record at.place.rest = ap (λ (n : ℕ). record_of Gone 0 (n ∷ []) [] []) at.next_is in
      deleted (subst (λ (r : Record). IsSpelled c (length b) r) (sym same) is) long

-- where the levels of a put record are to lead
pub store_leads : (before pointers leads : List ℕ) (front rest : List Entry) (level height end : ℕ) (key value : List ℕ) → AreLast before front → ArePast pointers rest height
    → ((i : ℕ) → 1 ≤ i → i < level → slice_index leads (i + 1) ≡ end)
    → ((i : ℕ) → level ≤ i → 1 ≤ i → slice_index leads (i + 1) ≡ slice_index pointers (i + 1))
    → Leads before leads front (put_entry end level key value ∷ []) rest height
store_leads before pointers leads front rest level height end key value last past low high = record {
  last = last;
  to = λ i from lt. elim (cases_lt i level) [
    | inl inside ↦ low i from inside ∙ sym (ap first_at (on_level-in i (put_entry end level key value) rest inside))
    | inr out ↦ high i out from ∙ past.upper i from lt ∙ sym (ap first_at (on_level-out i (put_entry end level key value) rest out))
  ];
}

-- ---- known heads

-- what was known of the heads stays so
pub known_put : (says : Contents) (es front dropped rest : List Entry) (e : Entry) → es ≡ front ++ (dropped ++ rest) → AreKnown says es → says.header.current_size ≤ e.at → AreKnown says (front ++ (e ∷ rest))
known_put says es front dropped rest e split known past at (inl is) lt = known at (inl is) lt
known_put says es front dropped rest e split known past at (inr m) lt = elim (among_both front (e ∷ rest) at m) [
  | inl m ↦ known at (inr (subst (λ (l : List Entry). IsAmong (ats l) at) (sym split) (among_front front (dropped ++ rest) at m))) lt
  | inr back ↦ elim back [
    | inl new ↦ absurd (omega (arith, new, past))
    | inr m ↦ known at (inr (subst (λ (l : List Entry). IsAmong (ats l) at) (sym split) (among_back front (dropped ++ rest) at (among_back dropped rest at m)))) lt
  ]
]

-- the record before a place is a head
pub known_before : (says : Contents) (b starts : List ℕ) (es : List Entry) (key before : List ℕ) (same_at next committed : ℕ) → Live b starts es → (at : IsSpot es key before same_at next) → says.header.current_size ≡ committed → AreKnown says es → slice_index before 0 < committed → IsAmong (heads says) (slice_index before 0)
known_before says b starts es key before same_at next committed live at is known lt =
    let e = before_zero b starts es key before same_at next live at in
    known (slice_index before 0) (subst (λ (v : ℕ). IsAmong (heads_of es) v) (sym e) (elim (last_among 64 at.place.front) [
      | inl z ↦ inl z
      | inr m ↦ inr (subst (λ (l : List Entry). IsAmong (ats l) (last_at 64 at.place.front)) (sym at.place.split) (among_front at.place.front (at.place.dropped ++ at.place.rest) _ m))
    ])) (omega (arith, lt, is))

pub known_gone : (says : Contents) (es front dropped rest : List Entry) → es ≡ front ++ (dropped ++ rest) → AreKnown says es → AreKnown says (front ++ rest)
known_gone says es front dropped rest split known at (inl is) lt = known at (inl is) lt
known_gone says es front dropped rest split known at (inr m) lt = elim (among_both front rest at m) [
  | inl m ↦ known at (inr (subst (λ (l : List Entry). IsAmong (ats l) at) (sym split) (among_front front (dropped ++ rest) at m))) lt
  | inr m ↦ known at (inr (subst (λ (l : List Entry). IsAmong (ats l) at) (sym split) (among_back front (dropped ++ rest) at (among_back dropped rest at m)))) lt
]
