-- A file that opens has no flaw.
use Rattle.std.proofs.Common.{◌≡◌, ◌≢◌, ℕ, zero, suc, ◌+◌, ◌-◌, ◌%◌, ◌<◌, ◌≤◌, Bool, true, false, cond, eqb, ltb, leb, List, [], ◌∷◌, length, replicate, Option, Some, None, refl, sym, ap, subst, ◌∙◌, inl, inr, arith, ◌⊎◌}
use Rattle.std.specs.Prelude.{◌||◌, ◌&&◌, not}
use Rattle.std.specs.List.{list_all, AllByRecursion}
use Rattle.std.specs.Ordering.{is_lt}
use Rattle.std.proofs.lemmas.Bool.{eq-eqb, ne_eqb, lt-ltb, le-leb}
use Rattle.base_bytes.specs.OrderedMap.{Map, IsBelow}
use Rattle.base_bytes.specs.declared.flaw.Flaw.{Flaw}
use Rattle.base_bytes.specs.declared.flaw.Damage.{Damage}
use Rattle.skip_form.specs.declared.head.Kind as kinds
use Rattle.skip_form.specs.declared.head.Kind.TheVariants.{Put, Gone, Commit}
use Rattle.skip_form.specs.declared.header.Header.{Header}
use Rattle.skip_form.specs.Fields.{pointer_in}
use Rattle.skip_form.specs.Flaws.{header_flaw, header_in, head_in}
use Rattle.skip_form.specs.Spelling.{StandsAt, IsLevelOf}
use Rattle.base_bytes.specs.Fields.{AreBytes}
use Rattle.skip_form.proofs.HeaderLemmas.{header_flaw-header_bytes}
use Rattle.skip_form.proofs.HeadLemmas.{head_flaw-StandsAt}
use Rattle.skip_spec.specs.Records.{HeadCheckIsRight, TailCheckIsRight}
use Rattle.skip_spec.specs.Rows.{IsAmong, Rows}
use Rattle.skip_spec.specs.Successor.{IsPointerUnder, LeadsPastDelete, LeadsTo, IsSuccessorUnder, is_of}
use Rattle.skip_spec.specs.Chain.{Entry, Chain, StandsAsEntry, entry_at}
use Rattle.skip_spec.specs.Opens.{Contents, Reads, Tidy, IsTidyHead, Links, on_level, Opens, IsDirty}
use Rattle.skip_spec.specs.FirstFlaw.{unless, first_some, at_header_place, at_place, before_end, end_of, is_dirty, is_end_right, is_head_right, is_tail_right, is_zero, is_among, pointer_under_end, are_slots_right, lead_to, row_flaw, front_checks, front_flaw, dummy_checks, dummy_flaw, delete_checks, delete_flaw, pointer_checks, pointer_flaw, way_checks, way_flaw, live_checks, live_flaw, end_checks, end_flaw, next_checks, next_flaw, successor, latest, latest_key, latest_on, RightRows, RightLive, InChain, FirstFlaw}
use Rattle.skip_spec.proofs.AnAnswer.{AllNone, otherwise}
use Rattle.skip_spec.proofs.KindLemmas.{dummy_level, dummy_lengths}
use Rattle.skip_spec.proofs.Kept.{row_at}
use Rattle.skip_spec.proofs.Places.{laid-rows, laid_le}
use Rattle.skip_spec.proofs.BeforeEnd.{stands_before}
use Rattle.skip_spec.proofs.Pointers.{one_under, greatest_is}
use Rattle.skip_spec.proofs.Successors.{chosen_first, of_kind, not_of, high_start, successor_of}

-- ---- tests

none_all : (xs : List (Option Damage)) → AllNone xs → first_some xs ≡ None
none_all [] all = refl
none_all (None ∷ xs) all = none_all xs all.1
none_all (Some d ∷ xs) all = absurd (let h = all.0 in cc)

passes : (b : Bool) (at : ℕ) (f : Flaw) → b ≡ true → unless b at f ≡ None
passes true at f e = refl
passes false at f e = absurd cc

both : (p q : Bool) → p ≡ true → q ≡ true → (p && q) ≡ true
both true q e f = f
both false q e f = absurd cc

either : (p q : Bool) → (p ≡ false → q ≡ true) → (p || q) ≡ true
either true q f = refl
either false q f = f refl

slots_pass : (dirty p q : Bool) → (p ≡ true) ⊎ (q ≡ true) → (dirty ≡ false → (p ≡ true) × (q ≡ true)) → cond dirty (p || q) (p && q) ≡ true
slots_pass true p q (inl e) all = either p q (λ f. absurd cc)
slots_pass true p q (inr e) all = either p q (λ f. e)
slots_pass false p q one all = let b = all refl in both p q b.0 b.1

negated : (t : Bool) → t ≡ false → not t ≡ true
negated false e = refl
negated true e = absurd cc

true_among : (starts : List ℕ) (v : ℕ) → IsAmong starts v → is_among starts v ≡ true
true_among [] v m = absurd m
true_among (s ∷ ss) v (inl e) = either (eqb s v) (is_among ss v) (λ f. absurd (let t = eq-eqb s v e in cc))
true_among (s ∷ ss) v (inr m) = either (eqb s v) (is_among ss v) (λ f. true_among ss v m)

are_zeros : (xs : List ℕ) (n : ℕ) → xs ≡ replicate n 0 → list_all is_zero xs ≡ true
are_zeros xs n e = ap (list_all is_zero) e ∙ of_zeros n
  where
    of_zeros : (n : ℕ) → list_all is_zero (replicate n 0) ≡ true
    of_zeros zero = refl
    of_zeros (suc n) = of_zeros n

-- ---- rows

row_right : (file : List ℕ) (at : ℕ) → StandsAt file at (head_in file at) → end_of file ≤ length file → at + (head_in file at).size ≤ end_of file → row_flaw file at ≡ None
unfolding row_flaw
row_right file at stands inside fits =
    ap (at_place at) (head_flaw-StandsAt (before_end file) at (head_in file at) (stands_before file (end_of file) at (head_in file at) inside stands fits)).0

rows_right : (file : List ℕ) (from : ℕ) (ss : List ℕ) → end_of file ≤ length file → Rows file from ss (end_of file) → RightRows file from ss (end_of file)
rows_right file from [] inside r = r
rows_right file from (s ∷ ss) inside r =
    let next = from + (head_in file from).size in
    let fits = laid_le file next ss (end_of file) (laid-rows file next ss (end_of file) r.2) in
    (r.0, row_right file from r.1 inside fits, omega (arith, fits), rows_right file next ss inside r.2)

-- ---- live records

module _ (file starts : List ℕ) (rows : Rows file 336 starts (end_of file)) where
  abbrev Slots : ℕ → Type 0
  Slots at = (pointer_in file at 0 < end_of file) × (pointer_in file at 1 < end_of file)

  positive : (v : ℕ) → IsAmong starts v → v ≢ 0
  positive v m = high_start file starts (end_of file) rows v m

  pointer_is : (at v : ℕ) → IsPointerUnder file (end_of file) at v → pointer_under_end file at ≡ v
  pointer_is at v p = greatest_is (end_of file) (pointer_in file at 0) (pointer_in file at 1) v p

  delete_right : (v next : ℕ) → LeadsPastDelete file starts v next → delete_flaw file starts v ≡ None
  unfolding delete_flaw
  delete_right v next p =
      let x = pointer_in file v 0 in
      none_all (delete_checks file starts v) (
        passes (is_head_right file v) v _ (eq-eqb _ _ p.head_check),
        (
          passes (is_tail_right file v) v _ (eq-eqb _ _ p.tail_check),
          (
            passes _ v _ (either (eqb x 0) (is_among starts x) (λ f. (leads f).0)),
            (passes _ x _ (either (eqb x 0) (is_of file x Put) (λ f. (leads f).1)), tt),
          ),
        ),
      )
    where
      leads : eqb (pointer_in file v 0) 0 ≡ false → (is_among starts (pointer_in file v 0) ≡ true) × (is_of file (pointer_in file v 0) Put ≡ true)
      leads f = elim p.leads [
        | inl z ↦ absurd (let t = eq-eqb (pointer_in file v 0) 0 (p.pointer ∙ z) in cc)
        | inr q ↦ subst (λ (x : ℕ). (is_among starts x ≡ true) × (is_of file x Put ≡ true)) (sym p.pointer) (true_among starts next q.0, of_kind file next Put q.1)
      ]

  -- what a right pointer leads to has no flaw
  goes_on : (at v next : ℕ) → LeadsTo file starts v next → pointer_flaw file starts at v ≡ None
  goes_on at v next (inl z) = chosen_first (eqb v 0) None (first_some (pointer_checks file starts at v)) (eq-eqb v 0 z.0)
  goes_on at v next (inr (inl p)) =
      let some = ne_eqb v 0 (positive v p.0) in
      let gone = not_of file v Put Gone p.1 (λ e. omega (arith, e)) in
      let commit = not_of file v Put Commit p.1 (λ e. omega (arith, e)) in
      otherwise (eqb v 0) None (first_some (pointer_checks file starts at v)) some ∙ none_all (pointer_checks file starts at v) (
        passes _ at _ (true_among starts v p.0),
        (
          passes _ v _ (negated (is_of file v Commit) commit),
          (otherwise (is_of file v Gone) (delete_flaw file starts v) None gone, tt),
        ),
      )
  goes_on at v next (inr (inr p)) =
      let some = ne_eqb v 0 (positive v p.start) in
      let gone = of_kind file v Gone p.kind in
      let commit = not_of file v Gone Commit p.kind (λ e. omega (arith, e)) in
      otherwise (eqb v 0) None (first_some (pointer_checks file starts at v)) some ∙ none_all (pointer_checks file starts at v) (
        passes _ at _ (true_among starts v p.start),
        (
          passes _ v _ (negated (is_of file v Commit) commit),
          (chosen_first (is_of file v Gone) (delete_flaw file starts v) None gone ∙ delete_right v next p, tt),
        ),
      )

  slots_right : (at v : ℕ) → IsPointerUnder file (end_of file) at v → (is_dirty file ≡ false → Slots at) → are_slots_right file at ≡ true
  slots_right at v p slots =
      slots_pass (is_dirty file) (ltb (pointer_in file at 0) (end_of file)) (ltb (pointer_in file at 1) (end_of file))
      (elim (one_under (end_of file) (pointer_in file at 0) (pointer_in file at 1) v p) [ inl lt ↦ inl (lt-ltb _ _ lt) | inr lt ↦ inr (lt-ltb _ _ lt) ])
      (λ clean. (lt-ltb _ _ (slots clean).0, lt-ltb _ _ (slots clean).1))

  way_right : (at next : ℕ) → (is_dirty file ≡ false → Slots at) → IsSuccessorUnder file (end_of file) starts at next → (way_flaw file starts at ≡ None) × (successor file at ≡ next)
  unfolding way_flaw
  way_right at next slots f =
      let on = subst (λ (v : ℕ). pointer_flaw file starts at v ≡ None) (sym (pointer_is at f.0 f.1)) (goes_on at f.0 next f.2) in
      (none_all (way_checks file starts at) (passes _ at _ (slots_right at f.0 f.1 slots), (on, tt)), successor_of file starts positive (end_of file) at next f)

  live_right : (passed : List Entry) (e : Entry) → StandsAsEntry file starts e → IsBelow (latest_key passed) e.key → (is_dirty file ≡ false → HeadCheckIsRight file e.at × (lead_to file passed e.at ((head_in file e.at).level - 1) ≡ true)) → live_flaw file passed e.at ≡ None
  unfolding live_flaw
  live_right passed e is below tidy =
      let at = e.at in
      none_all (live_checks file passed at) (
        passes _ at _ (either (is_dirty file) (is_head_right file at) (λ clean. eq-eqb _ _ (tidy clean).0)),
        (
          passes _ at _ (eq-eqb _ _ is.tail_check),
          (
            passes _ at _ (are_zeros _ _ is.padding),
            (
              passes _ at _ (ap is_lt (subst (λ (k : List ℕ). IsBelow (latest_key passed) k) (sym is.key) below)),
              (passes _ at _ (either (is_dirty file) (lead_to file passed at ((head_in file at).level - 1)) (λ clean. (tidy clean).1)), tt),
            ),
          ),
        ),
      )

  all_lead : (passed : List Entry) (at n : ℕ) → ((level : ℕ) → 1 ≤ level → level ≤ n → pointer_in file (latest_on level passed) (level + 1) ≡ at) → lead_to file passed at n ≡ true
  all_lead passed at zero each = refl
  all_lead passed at (suc n) each = both _ (lead_to file passed at n) (eq-eqb _ _ (each (suc n) (omega arith) (omega arith))) (all_lead passed at n (λ level low high. each level low (omega arith)))

  end_right : (passed : List Entry) → (is_dirty file ≡ false → (lead_to file passed 0 30 ≡ true) × ((header_in file).num_records ≡ length passed)) → end_flaw file passed ≡ None
  unfolding end_flaw
  end_right passed tidy = none_all (end_checks file passed) (
    passes _ 64 _ (either (is_dirty file) (lead_to file passed 0 30) (λ clean. (tidy clean).0)),
    (passes _ 32 _ (either (is_dirty file) (eqb (header_in file).num_records (length passed)) (λ clean. eq-eqb _ _ (tidy clean).1)), tt),
  )

  next_right : (passed : List Entry) (next : ℕ) → way_flaw file starts (latest passed) ≡ None → successor file (latest passed) ≡ next → next ≢ 0 → live_flaw file passed next ≡ None → next_flaw file starts passed ≡ None
  unfolding next_flaw
  next_right passed next way is some live =
      let to = successor file (latest passed) in
      none_all (next_checks file starts passed) (
        way,
        (otherwise (eqb to 0) (end_flaw file passed) (live_flaw file passed to) (ne_eqb to 0 (λ z. some (sym is ∙ z))) ∙ ap (live_flaw file passed) is ∙ live, tt),
      )

  last_right : (passed : List Entry) → way_flaw file starts (latest passed) ≡ None → successor file (latest passed) ≡ 0 → end_flaw file passed ≡ None → next_flaw file starts passed ≡ None
  unfolding next_flaw
  last_right passed way is end =
      let to = successor file (latest passed) in
      none_all (next_checks file starts passed) (way, (chosen_first (eqb to 0) (end_flaw file passed) (live_flaw file passed to) (eq-eqb to 0 is) ∙ end, tt))

  abbrev AllLinks : List Entry → List Entry → Type 0
  AllLinks passed es = (level : ℕ) → 1 ≤ level → level ≤ 30 → Links file level (latest_on level passed) (on_level level es)

  links_on : (passed es : List Entry) (e : Entry) → AllLinks passed (e ∷ es) → AllLinks (e ∷ passed) es
  links_on passed es e all level low high = here (ltb level e.level) refl (all level low high)
    where
      here : (t : Bool) → ltb level e.level ≡ t → Links file level (latest_on level passed) (cond (ltb level e.level) (e ∷ on_level level es) (on_level level es)) → Links file level (cond (ltb level e.level) e.at (latest_on level passed)) (on_level level es)
      here true t l = subst (λ (b : Bool). Links file level (cond b e.at (latest_on level passed)) (on_level level es)) (sym t) (subst (λ (b : Bool). Links file level (latest_on level passed) (cond b (e ∷ on_level level es) (on_level level es))) t l).1
      here false t l = subst (λ (b : Bool). Links file level (cond b e.at (latest_on level passed)) (on_level level es)) (sym t) (subst (λ (b : Bool). Links file level (latest_on level passed) (cond b (e ∷ on_level level es) (on_level level es))) t l)

  link_at : (passed es : List Entry) (e : Entry) (level : ℕ) → AllLinks passed (e ∷ es) → 1 ≤ level → level ≤ 30 → level < e.level → pointer_in file (latest_on level passed) (level + 1) ≡ e.at
  link_at passed es e level all low high lt = (subst (λ (b : Bool). Links file level (latest_on level passed) (cond b (e ∷ on_level level es) (on_level level es))) (lt-ltb level e.level lt) (all level low high)).0

  -- what a clean file has besides, for the records that were passed and those that are left
  record IsTidyOn (passed es : List Entry) : Type 0 where
    slots : Slots (latest passed)
    heads : AllByRecursion (λ e. IsTidyHead file (end_of file) e.at) es
    links : AllLinks passed es
    count : (header_in file).num_records ≡ length passed + length es

  tidy_on : (passed es : List Entry) (e : Entry) → IsTidyOn passed (e ∷ es) → IsTidyOn (e ∷ passed) es
  tidy_on passed es e t = record { slots = (t.heads.0.0, t.heads.0.1); heads = t.heads.1; links = links_on passed es e t.links; count = omega (arith, t.count) }

  chain_right : (passed es : List Entry) → RightLive file starts passed → Chain file (end_of file) starts (latest passed) (latest_key passed) es → (is_dirty file ≡ false → IsTidyOn passed es) → InChain file starts None
  chain_right passed [] right c tidy =
      let way = way_right (latest passed) 0 (λ clean. (tidy clean).slots) c in
      let end = end_right passed (λ clean. (all_lead passed 0 30 (tidy clean).links, omega (arith, (tidy clean).count))) in
      (passed, right, last_right passed way.0 way.1 end, inr way.1)
  chain_right passed (e ∷ es) right c tidy =
      let is = c.1 in
      let way = way_right (latest passed) e.at (λ clean. (tidy clean).slots) c.0 in
      let stands = row_at file 336 starts (end_of file) e.at rows is.start in
      let high : e.level ≤ 31 = omega (arith, is.level, (subst (λ (k : kinds.Kind). IsLevelOf k (head_in file e.at).level) is.kind stands.head.level).1) in
      let lead = λ (clean : is_dirty file ≡ false). all_lead passed e.at ((head_in file e.at).level - 1) (λ level low le. link_at passed es e level (tidy clean).links low (omega (arith, is.level, high, le)) (omega (arith, is.level, le, low))) in
      let live = live_right passed e is c.2 (λ clean. ((tidy clean).heads.0.2, lead clean)) in
      let some = positive e.at is.start in
      let next = next_right passed e.at way.0 way.1 some live in
      let same : entry_at file e.at ≡ e = (let level = is.level in let key = is.key in let value = is.value in λ i. record { at = e.at; level = level i; key = key i; value = value i }) in
      let step : RightLive file starts (e ∷ passed) = (next, (λ z. some (sym way.1 ∙ z)), sym (ap (entry_at file) way.1 ∙ same), right) in
      chain_right (e ∷ passed) es step c.3 (λ clean. tidy_on passed es e (tidy clean))

-- ---- the whole

dummy_right : (file : List ℕ) → (is_dirty file ≡ false → HeadCheckIsRight file 64) → TailCheckIsRight file 64 → dummy_flaw file ≡ None
unfolding dummy_flaw
dummy_right file head tail = none_all (dummy_checks file) (
  passes _ 64 _ (either (is_dirty file) (is_head_right file 64) (λ clean. eq-eqb _ _ (head clean))),
  (passes (is_tail_right file 64) 64 _ (eq-eqb _ _ tail), tt),
)

end_right_of : (file : List ℕ) → end_of file ≤ length file → (is_dirty file ≡ false → length file ≡ end_of file) → is_end_right file ≡ true
end_right_of file inside ends = right (is_dirty file) refl
  where
    right : (dirty : Bool) → is_dirty file ≡ dirty → cond (is_dirty file) (leb (end_of file) (length file)) (eqb (end_of file) (length file)) ≡ true
    right true e = chosen_first (is_dirty file) (leb (end_of file) (length file)) (eqb (end_of file) (length file)) e ∙ le-leb _ _ inside
    right false e = otherwise (is_dirty file) (leb (end_of file) (length file)) (eqb (end_of file) (length file)) e ∙ eq-eqb _ _ (sym (ends e))

front_is_right : (file : List ℕ) → header_flaw file ≡ None → 336 ≤ end_of file → end_of file % 8 ≡ 0 → is_end_right file ≡ true → row_flaw file 64 ≡ None → front_flaw file ≡ None
unfolding front_flaw
front_is_right file header least aligned ends dummy = none_all (front_checks file) (
  ap at_header_place header,
  (passes _ 48 _ (le-leb 336 (end_of file) least), (passes _ 48 _ (eq-eqb _ _ aligned), (passes _ 48 _ ends, (dummy, tt)))),
)

no_flaw : (file : List ℕ) (f : Contents) → AreBytes file → Reads file f → IsDirty f.header ⊎ Tidy file f → FirstFlaw file None
no_flaw file f bytes r sound =
    let header = header_flaw-header_bytes file f.header bytes r.fields r.header in
    whole f.header (sym header.1) header.0 f.starts f.chain r sound
  where
    whole : (h : Header) → h ≡ header_in file → header_flaw file ≡ None → (starts : List ℕ) (chain : List Entry) → (let g : Contents = record { header = h; starts = starts; chain = chain } in Reads file g) → (let g : Contents = record { header = h; starts = starts; chain = chain } in IsDirty h ⊎ Tidy file g) → FirstFlaw file None
    whole h e header starts chain r0 sound0 =
        let made = λ (k : Header). let g : Contents = record { header = k; starts = starts; chain = chain } in g in
        let r : Reads file (made (header_in file)) = subst (λ (k : Header). Reads file (made k)) e r0 in
        let sound : IsDirty (header_in file) ⊎ Tidy file (made (header_in file)) = subst (λ (k : Header). IsDirty k ⊎ Tidy file (made k)) e sound0 in
        let tidy : is_dirty file ≡ false → Tidy file (made (header_in file)) = (λ clean. elim sound [ inl dirty ↦ absurd (let t = eq-eqb _ _ dirty in cc) | inr t ↦ t ]) in
        let dummy_kind = r.dummy.place.1 refl in
        let dummy_fits : 64 + (head_in file 64).size ≤ end_of file =
        (let lengths = dummy_lengths (head_in file 64) r.dummy.head dummy_kind in omega (arith, dummy_level (head_in file 64) r.dummy.head dummy_kind, lengths, r.least)) in
        let on : is_dirty file ≡ false → IsTidyOn file starts r.rows [] chain =
        (λ clean. let t = tidy clean in record { slots = (t.dummy.0, t.dummy.1); heads = t.heads; links = t.levels; count = omega (arith, t.count) }) in
        inr (
          front_is_right file header r.least r.aligned (end_right_of file r.inside (λ clean. (tidy clean).ends)) (row_right file 64 r.dummy r.inside dummy_fits),
          (
            starts,
            end_of file,
            rows_right file 336 starts r.inside r.rows,
            inr (refl, inr (dummy_right file (λ clean. (tidy clean).dummy.2) r.dummy_tail, chain_right file starts r.rows [] chain tt r.chain on)),
          ),
        )

pub opens_flawless : (file : List ℕ) (m : Map) → AreBytes file → Opens file m → FirstFlaw file None
opens_flawless file m bytes o = no_flaw file o.says bytes o.reads o.sound
