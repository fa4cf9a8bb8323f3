-- A file in which verification finds no flaw opens.
use Rattle.std.proofs.Common.{◌≡◌, ◌≢◌, ℕ, zero, suc, ◌+◌, ◌-◌, ◌%◌, ◌<◌, ◌≤◌, Bool, true, false, cond, eqb, ltb, leb, List, [], ◌∷◌, length, replicate, Option, Some, None, refl, sym, ap, subst, ◌∙◌, inl, inr, arith, ◌⊎◌}
use Rattle.std.specs.Prelude.{◌||◌, ◌&&◌, not}
use Rattle.std.specs.List.{list_all, AllByRecursion}
use Rattle.std.proofs.lemmas.Bool.{cases_lt, cases_eq, eqb-true, eq-eqb, ne_eqb, ltb-true, leb-true}
use Rattle.base_bytes.specs.OrderedMap.{Map}
use Rattle.base_bytes.specs.declared.flaw.Flaw.{Flaw}
use Rattle.base_bytes.specs.declared.flaw.Damage.{Damage}
use Rattle.skip_form.specs.declared.head.Kind as kinds
use Rattle.skip_form.specs.declared.head.Kind.TheVariants.{Dummy, Put, Gone, Commit}
use Rattle.skip_form.specs.Fields.{pointer_in}
use Rattle.skip_form.specs.Flaws.{header_flaw, header_in, head_in}
use Rattle.skip_form.specs.Spelling.{StandsAt, type_byte}
use Rattle.base_bytes.specs.Fields.{AreBytes}
use Rattle.base_bytes.proofs.Parts.{length-part}
use Rattle.skip_form.proofs.HeaderLemmas.{header_bytes-header_in}
use Rattle.skip_form.proofs.HeadLemmas.{StandsAt-head_in, head_inside}
use Rattle.skip_spec.specs.Records.{HasKind, head_size_of, body_size_of, HeadCheckIsRight, TailCheckIsRight}
use Rattle.skip_spec.specs.Rows.{IsAmong, Rows}
use Rattle.skip_spec.specs.Successor.{LeadsTo, IsSuccessorUnder, is_of, successor_under}
use Rattle.skip_spec.specs.Chain.{Entry, Chain, StandsAsEntry, pairs, entry_at}
use Rattle.skip_spec.specs.Opens.{Contents, Tidy, IsTidyHead, Links, on_level, Opens, IsDirty}
use Rattle.skip_spec.specs.FirstFlaw.{first_some, header_place, at_header_place, before_end, end_of, is_dirty, is_end_right, is_head_right, is_tail_right, is_padding_right, is_zero, is_among, pointer_under_end, are_slots_right, lead_to, row_flaw, front_checks, front_flaw, dummy_checks, dummy_flaw, delete_checks, delete_flaw, pointer_checks, pointer_flaw, way_checks, way_flaw, live_checks, live_flaw, end_checks, end_flaw, next_checks, next_flaw, successor, latest, latest_key, latest_on, RightRows, RightLive, FirstFlaw}
use Rattle.skip_spec.proofs.AnAnswer.{all_none, holds, otherwise, or_some, among, live_below, no_row_flaw}
use Rattle.skip_spec.proofs.BeforeEnd.{AreBytes-take, same_head, stands_in}
use Rattle.skip_spec.proofs.Pointers.{is_greatest}
use Rattle.skip_spec.proofs.Places.{within, laid-rows}
use Rattle.skip_spec.proofs.Kept.{row_at}

-- ---- tests

not_true : (t : Bool) → not t ≡ true → t ≡ false
not_true false e = refl
not_true true e = absurd cc

pub and_parts : (p q : Bool) → (p && q) ≡ true → (p ≡ true) × (q ≡ true)
and_parts true q e = (refl, e)
and_parts false q e = absurd cc

-- on a clean file
or_clean : (dirty t : Bool) → dirty ≡ false → (dirty || t) ≡ true → t ≡ true
or_clean false t d e = e
or_clean true t d e = absurd cc

one_right : (dirty p q : Bool) → cond dirty (p || q) (p && q) ≡ true → (p ≡ true) ⊎ (q ≡ true)
one_right true p q e = or_some p q e
one_right false p q e = inl (and_parts p q e).0

both_right : (dirty p q : Bool) → dirty ≡ false → cond dirty (p || q) (p && q) ≡ true → (p ≡ true) × (q ≡ true)
both_right false p q d e = and_parts p q e
both_right true p q d e = absurd cc

chosen : {A : Type 0} (t : Bool) (x y : A) → t ≡ false → (P : A → Type 0) → P (cond t x y) → P y
chosen t x y e P p = subst P (otherwise t x y e) p

is_gone : (k : kinds.Kind) → eqb (type_byte k) 45 ≡ true → k ≡ Gone
is_gone Dummy e = absurd cc
is_gone Put e = absurd cc
is_gone Gone e = refl
is_gone Commit e = absurd cc

is_put : (k : kinds.Kind) → eqb (type_byte k) 43 ≡ true → k ≡ Put
is_put Dummy e = absurd cc
is_put Put e = refl
is_put Gone e = absurd cc
is_put Commit e = absurd cc

left_is_put : (k : kinds.Kind) → (k ≡ Dummy → ⊥) → eqb (type_byte k) 45 ≡ false → eqb (type_byte k) 36 ≡ false → k ≡ Put
left_is_put Dummy d g c = absurd (d refl)
left_is_put Put d g c = refl
left_is_put Gone d g c = absurd cc
left_is_put Commit d g c = absurd cc

zeros : (xs : List ℕ) → list_all is_zero xs ≡ true → xs ≡ replicate (length xs) 0
zeros [] e = refl
zeros (x ∷ xs) e =
    let p = and_parts (eqb x 0) (list_all is_zero xs) e in
    let head = eqb-true x 0 p.0 in
    let tail = zeros xs p.1 in
    λ i. head i ∷ tail i

-- ---- rows

pub row_stands : (file : List ℕ) (at : ℕ) → AreBytes file → row_flaw file at ≡ None → StandsAt file at (head_in file at)
row_stands file at bytes e =
    let none = no_row_flaw file at e in
    let fits = head_inside (before_end file) at none in
    let stands = StandsAt-head_in (before_end file) at (AreBytes-take file (end_of file) bytes) none in
    subst (StandsAt file at) (same_head file (end_of file) at (omega (arith, fits))) (stands_in file (end_of file) at (head_in (before_end file) at) stands).0

pub rows_stand : (file : List ℕ) (from : ℕ) (ss : List ℕ) (to : ℕ) → AreBytes file → RightRows file from ss to → Rows file from ss to
rows_stand file from [] to bytes r = r
rows_stand file from (s ∷ ss) to bytes r = (r.0, row_stands file from bytes r.1, rows_stand file (from + (head_in file from).size) ss to bytes r.3)

-- these live records, the latest first, before those that are known
abbrev pub all_of : List Entry → List Entry → List Entry
all_of [] rest = rest
all_of (e ∷ passed) rest = all_of passed (e ∷ rest)

-- ---- live records

module _ (file starts : List ℕ) (inside : end_of file ≤ length file) (rows : Rows file 336 starts (end_of file)) where
  -- both slots of a record are below the end
  abbrev Slots : ℕ → Type 0
  Slots at = (pointer_in file at 0 < end_of file) × (pointer_in file at 1 < end_of file)

  a_slot : (at : ℕ) → way_flaw file starts at ≡ None → (pointer_in file at 0 < end_of file) ⊎ (pointer_in file at 1 < end_of file)
  unfolding way_flaw
  a_slot at e =
      let all = all_none (way_checks file starts at) e in
      elim (one_right (is_dirty file) (ltb (pointer_in file at 0) (end_of file)) (ltb (pointer_in file at 1) (end_of file)) (holds (are_slots_right file at) at _ all.0)) [
        | inl first ↦ inl (ltb-true _ _ first)
        | inr second ↦ inr (ltb-true _ _ second)
      ]

  slots_of : is_dirty file ≡ false → (at : ℕ) → way_flaw file starts at ≡ None → Slots at
  unfolding way_flaw
  slots_of clean at e =
      let all = all_none (way_checks file starts at) e in
      let both = both_right (is_dirty file) (ltb (pointer_in file at 0) (end_of file)) (ltb (pointer_in file at 1) (end_of file)) clean (holds (are_slots_right file at) at _ all.0) in
      (ltb-true _ _ both.0, ltb-true _ _ both.1)

  no_dummy : (v : ℕ) → IsAmong starts v → HasKind file v Dummy → ⊥
  no_dummy v m d =
      let low = (within file 336 starts (end_of file) v (laid-rows file 336 starts (end_of file) rows) m).low in
      let here = (row_at file 336 starts (end_of file) v rows m).place.0 d in
      omega (arith, low, here)

  past : (v : ℕ) → IsAmong starts v → HasKind file v Gone → delete_flaw file starts v ≡ None → LeadsTo file starts v (pointer_in file v 0)
  unfolding delete_flaw
  past v m gone e =
      let all = all_none (delete_checks file starts v) e in
      let next = pointer_in file v 0 in
      inr (inr (record {
        start = m;
        kind = gone;
        head_check = eqb-true _ _ (holds (is_head_right file v) v _ all.0);
        tail_check = eqb-true _ _ (holds (is_tail_right file v) v _ all.1.0);
        pointer = refl;
        leads = elim (cases_eq next 0) [
          | inl z ↦ inl z
          | inr some ↦ inr (
            elim (or_some (eqb next 0) (is_among starts next) (holds _ v _ all.1.1.0)) [ inl z ↦ absurd (some (eqb-true _ _ z)) | inr is ↦ among starts next is ],
            elim (or_some (eqb next 0) (is_of file next Put) (holds _ next _ all.1.1.1.0)) [ inl z ↦ absurd (some (eqb-true _ _ z)) | inr is ↦ is_put (head_in file next).kind is ],
          )
        ];
      }))

  leads : (at v : ℕ) (ends gone : Bool) → eqb v 0 ≡ ends → is_of file v Gone ≡ gone → pointer_flaw file starts at v ≡ None → LeadsTo file starts v (cond ends 0 (cond gone (pointer_in file v 0) v))
  leads at v true gone e g flaw = inl (eqb-true _ _ e, refl)
  leads at v false gone e g flaw =
      let all = all_none (pointer_checks file starts at v) (sym (otherwise (eqb v 0) None (first_some (pointer_checks file starts at v)) e) ∙ flaw) in
      to gone g (among starts v (holds _ at _ all.0)) (not_true (is_of file v Commit) (holds _ v _ all.1.0)) all.1.1.0
    where
      to : (gone : Bool) → is_of file v Gone ≡ gone → IsAmong starts v → is_of file v Commit ≡ false → cond (is_of file v Gone) (delete_flaw file starts v) None ≡ None → LeadsTo file starts v (cond gone (pointer_in file v 0) v)
      to false g m c d = inr (inl (m, left_is_put (head_in file v).kind (no_dummy v m) g c, refl))
      to true g m c d = past v m (is_gone (head_in file v).kind g) (subst (λ (t : Bool). cond t (delete_flaw file starts v) None ≡ None) g d)

  pub successor_is : (at : ℕ) → way_flaw file starts at ≡ None → IsSuccessorUnder file (end_of file) starts at (successor file at)
  unfolding way_flaw successor_under
  successor_is at e =
      let all = all_none (way_checks file starts at) e in
      let v = pointer_under_end file at in
      (v, is_greatest (end_of file) (pointer_in file at 0) (pointer_in file at 1) (a_slot at e), leads at v (eqb v 0) (is_of file v Gone) refl refl all.1.0)

  -- what a pointer leads to is the end, or a put record
  pub put_of : (v next : ℕ) → LeadsTo file starts v next → next ≢ 0 → IsAmong starts next × HasKind file next Put
  put_of v next (inl z) some = absurd (some z.1)
  put_of v next (inr (inl p)) some = subst (λ (x : ℕ). IsAmong starts x × HasKind file x Put) (sym p.2) (p.0, p.1)
  put_of v next (inr (inr p)) some = elim p.leads [ inl z ↦ absurd (some z) | inr q ↦ q ]

  entry_is : (passed : List Entry) (at : ℕ) → IsAmong starts at → HasKind file at Put → live_flaw file passed at ≡ None → StandsAsEntry file starts (entry_at file at)
  unfolding live_flaw
  entry_is passed at m put e =
      let all = all_none (live_checks file passed at) e in
      let h = head_in file at in
      let used = h.key_len + h.value_len in
      let span = within file 336 starts (end_of file) at (laid-rows file 336 starts (end_of file) rows) m in
      let len = length-part file (at + head_size_of h + used) (body_size_of h - used) (omega (arith, span.high, inside)) in
      record {
        start = m;
        kind = put;
        level = refl;
        key = refl;
        value = refl;
        tail_check = eqb-true _ _ (holds (is_tail_right file at) at _ all.1.0);
        padding = zeros _ (holds (is_padding_right file at) at _ all.1.1.0) ∙ ap (λ (n : ℕ). replicate n 0) len;
      }

  head_is_right : is_dirty file ≡ false → (passed : List Entry) (at : ℕ) → live_flaw file passed at ≡ None → HeadCheckIsRight file at
  unfolding live_flaw
  head_is_right clean passed at e = let all = all_none (live_checks file passed at) e in eqb-true _ _ (or_clean (is_dirty file) (is_head_right file at) clean (holds _ at _ all.0))

  linked : is_dirty file ≡ false → (passed : List Entry) (at : ℕ) → live_flaw file passed at ≡ None → lead_to file passed at ((head_in file at).level - 1) ≡ true
  unfolding live_flaw
  linked clean passed at e = let all = all_none (live_checks file passed at) e in or_clean (is_dirty file) (lead_to file passed at ((head_in file at).level - 1)) clean (holds _ at _ all.1.1.1.1.0)

  -- a right step: the way to the next live record, and this record
  abbrev RightStep : List Entry → Type 0
  RightStep passed = let next = successor file (latest passed) in (way_flaw file starts (latest passed) ≡ None) × (live_flaw file passed next ≡ None)

  step : (passed : List Entry) → next_flaw file starts passed ≡ None → successor file (latest passed) ≢ 0 → RightStep passed
  unfolding next_flaw
  step passed e some =
      let all = all_none (next_checks file starts passed) e in
      let next = successor file (latest passed) in
      (all.0, chosen (eqb next 0) (end_flaw file passed) (live_flaw file passed next) (ne_eqb next 0 some) (λ (x : Option Damage). x ≡ None) all.1.0)

  chain_of : (passed rest : List Entry) → RightLive file starts passed → Chain file (end_of file) starts (latest passed) (latest_key passed) rest → Chain file (end_of file) starts 64 [] (all_of passed rest)
  chain_of [] rest r c = c
  chain_of (e ∷ passed) rest r c =
      let next = successor file (latest passed) in
      let right = step passed r.0 r.1 in
      let after = successor_is (latest passed) right.0 in
      let put = put_of after.0 next after.2 r.1 in
      let whole = λ (d : Entry). Chain file (end_of file) starts d.at d.key rest → Chain file (end_of file) starts (latest passed) (latest_key passed) (d ∷ rest) in
      chain_of passed (e ∷ rest) r.3 (subst whole (sym r.2) (λ c. (after, entry_is passed next put.0 put.1 right.1, live_below file passed next right.1, c)) c)

  -- in a clean file the dummy and all live records have tidy heads
  abbrev TidyAll : List Entry → Type 0
  TidyAll es = AllByRecursion (λ e. IsTidyHead file (end_of file) e.at) es

  tidy_of : is_dirty file ≡ false → (passed rest : List Entry) → RightLive file starts passed → Slots (latest passed) → TidyAll rest → TidyAll (all_of passed rest) × Slots 64
  tidy_of clean [] rest r s t = (t, s)
  tidy_of clean (e ∷ passed) rest r s t =
      let next = successor file (latest passed) in
      let right = step passed r.0 r.1 in
      let whole = λ (d : Entry). Slots d.at → IsTidyHead file (end_of file) d.at in
      tidy_of clean passed (e ∷ rest) r.3 (slots_of clean (latest passed) right.0) (subst whole (sym r.2) (λ s. (s.0, s.1, head_is_right clean passed next right.1)) s, t)

  leads_to : (passed : List Entry) (at n level : ℕ) → lead_to file passed at n ≡ true → 1 ≤ level → level ≤ n → pointer_in file (latest_on level passed) (level + 1) ≡ at
  leads_to passed at zero level e low high = absurd (omega arith)
  leads_to passed at (suc n) level e low high =
      let both = and_parts (eqb (pointer_in file (latest_on (suc n) passed) (suc n + 1)) at) (lead_to file passed at n) e in
      elim (cases_lt level (suc n)) [
        | inl lt ↦ leads_to passed at n level both.1 low (omega arith)
        | inr le ↦ let last : suc n ≡ level = omega arith in subst (λ (k : ℕ). pointer_in file (latest_on k passed) (k + 1) ≡ at) last (eqb-true _ _ both.0)
      ]

  links_of : is_dirty file ≡ false → (level : ℕ) → 1 ≤ level → (passed rest : List Entry) → RightLive file starts passed → Links file level (latest_on level passed) (on_level level rest) → Links file level 64 (on_level level (all_of passed rest))
  links_of clean level low [] rest r l = l
  links_of clean level low (e ∷ passed) rest r l =
      let next = successor file (latest passed) in
      let right = step passed r.0 r.1 in
      let lead = λ (d : Entry). level < d.level → pointer_in file (latest_on level passed) (level + 1) ≡ d.at in
      let points : level < e.level → pointer_in file (latest_on level passed) (level + 1) ≡ e.at =
      subst lead (sym r.2) (λ lt. leads_to passed next ((head_in file next).level - 1) level (linked clean passed next right.1) low (omega (arith, lt))) in
      links_of clean level low passed (e ∷ rest) r.3 (here (ltb level e.level) refl points l)
    where
      here : (t : Bool) → ltb level e.level ≡ t → (level < e.level → pointer_in file (latest_on level passed) (level + 1) ≡ e.at) → Links file level (cond (ltb level e.level) e.at (latest_on level passed)) (on_level level rest) → Links file level (latest_on level passed) (cond (ltb level e.level) (e ∷ on_level level rest) (on_level level rest))
      here true t points l =
          subst (λ (b : Bool). Links file level (latest_on level passed) (cond b (e ∷ on_level level rest) (on_level level rest))) (sym t)
          (points (ltb-true level e.level t), subst (λ (b : Bool). Links file level (cond b e.at (latest_on level passed)) (on_level level rest)) t l)
      here false t points l =
          subst (λ (b : Bool). Links file level (latest_on level passed) (cond b (e ∷ on_level level rest) (on_level level rest))) (sym t)
          (subst (λ (b : Bool). Links file level (cond b e.at (latest_on level passed)) (on_level level rest)) t l)

  pub length_all : (passed rest : List Entry) → length (all_of passed rest) ≡ length passed + length rest
  length_all [] rest = omega arith
  length_all (e ∷ passed) rest = omega (arith, length_all passed (e ∷ rest))

  -- the way to the end, and what is right there
  pub last : (passed : List Entry) → next_flaw file starts passed ≡ None → successor file (latest passed) ≡ 0 → (way_flaw file starts (latest passed) ≡ None) × (end_flaw file passed ≡ None)
  unfolding next_flaw
  last passed e ends =
      let all = all_none (next_checks file starts passed) e in
      let next = successor file (latest passed) in
      (all.0, subst (λ (t : Bool). cond t (end_flaw file passed) (live_flaw file passed next) ≡ None) (eq-eqb next 0 ends) all.1.0)

  end_links : is_dirty file ≡ false → (passed : List Entry) → end_flaw file passed ≡ None → lead_to file passed 0 30 ≡ true
  unfolding end_flaw
  end_links clean passed e = let all = all_none (end_checks file passed) e in or_clean (is_dirty file) (lead_to file passed 0 30) clean (holds _ 64 _ all.0)

  pub end_count : is_dirty file ≡ false → (passed : List Entry) → end_flaw file passed ≡ None → (header_in file).num_records ≡ length passed
  unfolding end_flaw
  end_count clean passed e = let all = all_none (end_checks file passed) e in eqb-true _ _ (or_clean (is_dirty file) (eqb (header_in file).num_records (length passed)) clean (holds _ 32 _ all.1.0))

-- ---- the whole

no_header_flaw : (x : Option Flaw) → at_header_place x ≡ None → x ≡ None
no_header_flaw None e = refl
no_header_flaw (Some f) e = absurd (let h : Some (record { at = header_place f; check = f }) ≡ None = e in cc)

pub record FrontIsRight (file : List ℕ) : Type 0 where
  pub header : header_flaw file ≡ None
  pub least : 336 ≤ end_of file
  pub aligned : end_of file % 8 ≡ 0
  pub inside : end_of file ≤ length file
  pub ends : is_dirty file ≡ false → end_of file ≡ length file
  pub dummy : row_flaw file 64 ≡ None

is_inside : (file : List ℕ) (dirty : Bool) → cond dirty (leb (end_of file) (length file)) (eqb (end_of file) (length file)) ≡ true → end_of file ≤ length file
is_inside file true e = leb-true _ _ e
is_inside file false e = let same = eqb-true (end_of file) (length file) e in omega (arith, same)

pub front_right : (file : List ℕ) → front_flaw file ≡ None → FrontIsRight file
unfolding front_flaw
front_right file e =
    let all = all_none (front_checks file) e in
    let right = holds (is_end_right file) 48 _ all.1.1.1.0 in
    record {
      header = no_header_flaw (header_flaw file) all.0;
      least = leb-true 336 (end_of file) (holds _ 48 _ all.1.0);
      aligned = eqb-true _ _ (holds _ 48 _ all.1.1.0);
      inside = is_inside file (is_dirty file) right;
      ends = λ clean. eqb-true _ _ (chosen (is_dirty file) (leb (end_of file) (length file)) (eqb (end_of file) (length file)) clean (λ (t : Bool). t ≡ true) right);
      dummy = all.1.1.1.1.0;
    }

dummy_tail : (file : List ℕ) → dummy_flaw file ≡ None → TailCheckIsRight file 64
unfolding dummy_flaw
dummy_tail file e = let all = all_none (dummy_checks file) e in eqb-true _ _ (holds (is_tail_right file 64) 64 _ all.1.0)

dummy_head : (file : List ℕ) → is_dirty file ≡ false → dummy_flaw file ≡ None → HeadCheckIsRight file 64
unfolding dummy_flaw
dummy_head file clean e = let all = all_none (dummy_checks file) e in eqb-true _ _ (or_clean (is_dirty file) (is_head_right file 64) clean (holds _ 64 _ all.0))

not_dirty : (file : List ℕ) → is_dirty file ≡ false → IsDirty (header_in file) → ⊥
not_dirty file clean dirty = let t = eq-eqb _ _ dirty in cc

pub opens : (file : List ℕ) → AreBytes file → FrontIsRight file → (starts : List ℕ) → RightRows file 336 starts (end_of file) → dummy_flaw file ≡ None → (passed : List Entry) → RightLive file starts passed → next_flaw file starts passed ≡ None → successor file (latest passed) ≡ 0 → Opens file (pairs (all_of passed []))
opens file bytes front starts right dummy passed live next ends =
    let inside = front.inside in
    let rows = rows_stand file 336 starts (end_of file) bytes right in
    let header = header_bytes-header_in file bytes front.header in
    let final = last file starts inside rows passed next ends in
    let stop = subst (λ (n : ℕ). IsSuccessorUnder file (end_of file) starts (latest passed) n) ends (successor_is file starts inside rows (latest passed) final.0) in
    let entries = all_of passed [] in
    let says : Contents = record { header = header_in file; starts = starts; chain = entries } in
    let tidy : is_dirty file ≡ false → Tidy file says =
    (λ clean.
    let built = tidy_of file starts inside rows clean passed [] live (slots_of file starts inside rows clean (latest passed) final.0) tt in
    record {
      clean = not_dirty file clean;
      ends = sym (front.ends clean);
      dummy = (built.1.0, built.1.1, dummy_head file clean dummy);
      heads = built.0;
      count = omega (arith, end_count file starts inside rows clean passed final.1, length_all file starts inside rows passed []);
      levels = λ level low high. links_of file starts inside rows clean level low passed [] live (leads_to file starts inside rows passed 0 30 level (end_links file starts inside rows clean passed final.1) low high);
    }) in
    record {
      says = says;
      reads = record {
        header = header.1;
        fields = header.0;
        least = front.least;
        aligned = front.aligned;
        inside = inside;
        dummy = row_stands file 64 bytes front.dummy;
        rows = rows;
        dummy_tail = dummy_tail file dummy;
        chain = chain_of file starts inside rows passed [] live stop;
      };
      map = refl;
      sound = sound (is_dirty file) refl tidy;
    }
  where
    sound : (dirty : Bool) → is_dirty file ≡ dirty → (is_dirty file ≡ false → (let says : Contents = record { header = header_in file; starts = starts; chain = all_of passed [] } in Tidy file says)) → IsDirty (header_in file) ⊎ (let says : Contents = record { header = header_in file; starts = starts; chain = all_of passed [] } in Tidy file says)
    sound true e tidy = inl (eqb-true _ _ e)
    sound false e tidy = inr (tidy e)

-- what verification walks over in a file without a flaw
pub record IsFlawless (file : List ℕ) : Type 0 where
  pub front : FrontIsRight file
  pub starts : List ℕ
  pub rows : RightRows file 336 starts (end_of file)
  pub dummy : dummy_flaw file ≡ None
  pub passed : List Entry
  pub live : RightLive file starts passed
  pub next : next_flaw file starts passed ≡ None
  pub ends : successor file (latest passed) ≡ 0

pub flawless : (file : List ℕ) → FirstFlaw file None → IsFlawless file
flawless file (inl p) = absurd (p.0 refl)
flawless file (inr p) =
    let at_end = p.1 in
    elim at_end.3 [
      | inl q ↦ absurd (q.1 refl)
      | inr q ↦ elim q.1 [
        | inl d ↦ absurd (d.0 refl)
        | inr d ↦ elim d.1.3 [
          | inl some ↦ absurd (some refl)
          | inr ends ↦ record {
            front = front_right file p.0;
            starts = at_end.0;
            rows = subst (λ (to : ℕ). RightRows file 336 at_end.0 to) q.0 at_end.2;
            dummy = d.0;
            passed = d.1.0;
            live = d.1.1;
            next = d.1.2;
            ends = ends;
          }
        ]
      ]
    ]

pub flawless_opens : (file : List ℕ) → AreBytes file → FirstFlaw file None → (m : Map) × Opens file m
flawless_opens file bytes none = let f = flawless file none in (_, opens file bytes f.front f.starts f.rows f.dummy f.passed f.live f.next f.ends)
