-- A device in memory that keeps each event since it was made: what it might have left is shown by playing them again.
use Rattle.std.specs.Prelude.{◌≡◌, ◌⊎◌, ℕ, ◌+◌, ◌≤◌, List, [], ◌∷◌, ◌++◌, length, take, fold}
use Rattle.std.proofs.Common.{inl, inr, sym, ◌∙◌, ap, subst, arith, length-append}
use Rattle.std.proofs.lemmas.List.{take_all, take-append-le}
use Rattle.base_devices.specs.CrashImages.{Image}

module _ {M E : Type 0} (step : M → E → M) (may_leave : M → Image → Type 0) (mark_of : M → ℕ) where
  -- what stands after these events
  abbrev pub after : M → List E → M
  after start events = fold step start events

  -- what a crash after some number of the events, t or more of them, leaves
  pub record LeftSince (start : M) (events : List E) (t : ℕ) (c : Image) (n : ℕ) : Type 0 where
    pub count : ℕ
    pub from : t ≤ count
    pub to : count ≤ length events
    pub leaves : may_leave (after start (take count events)) c
    pub mark : n ≡ mark_of (after start (take count events))

  pub past_now : (start : M) (events : List E) (c : Image) (n : ℕ) → LeftSince start events (length events) c n → may_leave (after start events) c × (n ≡ mark_of (after start events))
  past_now start events c n left =
      let all : take left.count events ≡ events = take_all left.count events (omega arith) in
      (subst (λ (es : List E). may_leave (after start es) c) all left.leaves, left.mark ∙ ap (λ (es : List E). mark_of (after start es)) all)

  pub past_counts : (start : M) (events : List E) (c : Image) → may_leave (after start events) c → LeftSince start events (length events) c (mark_of (after start events))
  past_counts start events c left =
      let all : take (length events) events ≡ events = take_all (length events) events (omega arith) in
      record {
        count = length events;
        from = omega arith;
        to = omega arith;
        leaves = subst (λ (es : List E). may_leave (after start es) c) (sym all) left;
        mark = ap (λ (es : List E). mark_of (after start es)) (sym all);
      }

  pub past_earlier : (start : M) (events : List E) (t u : ℕ) (c : Image) (n : ℕ) → t ≤ u → LeftSince start events u c n → LeftSince start events t c n
  past_earlier start events t u c n le left = record { count = left.count; from = omega arith; to = left.to; leaves = left.leaves; mark = left.mark }

  -- one event more
  pub past_keeps : (start : M) (events : List E) (e : E) (t : ℕ) (c : Image) (n : ℕ) → LeftSince start events t c n → LeftSince start (events ++ e ∷ []) t c n
  past_keeps start events e t c n left =
      let same : take left.count (events ++ e ∷ []) ≡ take left.count events = take-append-le left.count events (e ∷ []) left.to in
      record {
        count = left.count;
        from = left.from;
        to = omega (arith, length-append events (e ∷ []), left.to);
        leaves = subst (λ (es : List E). may_leave (after start es) c) (sym same) left.leaves;
        mark = left.mark ∙ ap (λ (es : List E). mark_of (after start es)) (sym same);
      }

  -- since some time t of the past: an old pair, or one that stands after the last event
  pub past_adds : (start : M) (events : List E) (e : E) (t : ℕ) (c : Image) (n : ℕ) → LeftSince start (events ++ e ∷ []) t c n
      → LeftSince start events t c n ⊎ (may_leave (after start (events ++ e ∷ [])) c × (n ≡ mark_of (after start (events ++ e ∷ []))))
  past_adds start events e t c n left = elim (le_or_past left.count (length events)) [
    | inl le ↦ let same : take left.count (events ++ e ∷ []) ≡ take left.count events = take-append-le left.count events (e ∷ []) le in
        inl (record {
          count = left.count;
          from = left.from;
          to = le;
          leaves = subst (λ (es : List E). may_leave (after start es) c) same left.leaves;
          mark = left.mark ∙ ap (λ (es : List E). mark_of (after start es)) same;
        })
    | inr past ↦ let all : take left.count (events ++ e ∷ []) ≡ events ++ e ∷ [] = take_all left.count (events ++ e ∷ []) (omega (arith, length-append events (e ∷ []))) in
        inr (subst (λ (es : List E). may_leave (after start es) c) all left.leaves, left.mark ∙ ap (λ (es : List E). mark_of (after start es)) all)
  ]
    where
      le_or_past : (a b : ℕ) → (a ≤ b) ⊎ (b + 1 ≤ a)
      le_or_past a b = grind arith
