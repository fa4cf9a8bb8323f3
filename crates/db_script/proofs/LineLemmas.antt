-- A script is cut into lines from its front.
use Rattle.std.proofs.Common.{◌≡◌, ◌∙◌, ◌⊎◌, inl, inr, ⊎_elim, ℕ, ◌+◌, ◌<◌, ◌≤◌, Bool, true, false, List, [], ◌∷◌, ◌++◌, Some, None, length, take, drop, refl, sym, ap, arith, length-append}
use Rattle.std.proofs.lemmas.List.{append-nil, drop_all, length-take-le}
use Rattle.std.specs.Prelude.{◌==◌, is_some, nat_lt, ◌||◌, if◌then◌else◌}
use Rattle.base_bytes.specs.declared.limits.TheConstants.{SCRIPT_LIMIT}
use Rattle.db_script.specs.Fields.{before, behind, IsExtent}
use Rattle.db_script.specs.Lines.{Command, at_front, lines_of, read_line}
use Rattle.db_script.specs.Reading.{ScriptState, is_gathered, to_come, HandsOut, Refuses}

-- the first line of what begins so
abbrev pub with_lf : List ℕ → List ℕ
with_lf text = text ++ (10 ∷ [])

cut_at : (xs rest tail : List ℕ) → behind 10 xs ≡ Some rest → lines_of (xs ++ tail) ≡ with_lf (before 10 xs) ∷ lines_of (rest ++ tail)
unfolding before behind lines_of
cut_at [] rest tail is = absurd (cc is)
cut_at (x ∷ xs) rest tail is = by (x == 10) refl (cut_at xs rest tail)
  where
    by : (b : Bool) → (x == 10) ≡ b → (behind 10 xs ≡ Some rest → lines_of (xs ++ tail) ≡ with_lf (before 10 xs) ∷ lines_of (rest ++ tail))
        → lines_of (x ∷ (xs ++ tail)) ≡ with_lf (before 10 (x ∷ xs)) ∷ lines_of (rest ++ tail)
    by true here later =
        let same : xs ≡ rest = cc (sym (ap (λ (b : Bool). if b then Some xs else behind 10 xs) here) ∙ is) in
        ap (λ (b : Bool). if b then (10 ∷ []) ∷ lines_of (xs ++ tail) else at_front x (lines_of (xs ++ tail))) here
        ∙ ap (λ (l : List ℕ). (10 ∷ []) ∷ lines_of (l ++ tail)) same
        ∙ ap (λ (b : Bool). with_lf (if b then [] else x ∷ before 10 xs) ∷ lines_of (rest ++ tail)) (sym here)
    by false here later =
        ap (λ (b : Bool). if b then (10 ∷ []) ∷ lines_of (xs ++ tail) else at_front x (lines_of (xs ++ tail))) here
        ∙ ap (at_front x) (later (sym (ap (λ (b : Bool). if b then Some xs else behind 10 xs) here) ∙ is))
        ∙ ap (λ (b : Bool). with_lf (if b then [] else x ∷ before 10 xs) ∷ lines_of (rest ++ tail)) (sym here)

-- what has no LF is one line, or the beginning of one
pub record Begins (xs : List ℕ) (lines : List (List ℕ)) : Type 0 where
  pub line : List ℕ
  pub others : List (List ℕ)
  pub is : lines ≡ line ∷ others
  pub long : length xs ≤ length line

begins_all : (xs tail : List ℕ) → behind 10 xs ≡ None → 0 < length xs → Begins xs (lines_of (xs ++ tail))
unfolding before behind lines_of
begins_all [] tail is some = absurd (omega (arith, some))
begins_all (x ∷ xs) tail is some = by (x == 10) refl xs refl (begins_all xs tail)
  where
    by : (b : Bool) → (x == 10) ≡ b → (ys : List ℕ) → xs ≡ ys → (behind 10 xs ≡ None → 0 < length xs → Begins xs (lines_of (xs ++ tail))) → Begins (x ∷ xs) (lines_of (x ∷ (xs ++ tail)))
    by true here ys e later = absurd (cc (sym (ap (λ (b : Bool). if b then Some xs else behind 10 xs) here) ∙ is))
    by false here [] e later = last (lines_of (xs ++ tail)) refl
      where
        last : (ls : List (List ℕ)) → lines_of (xs ++ tail) ≡ ls → Begins (x ∷ xs) (lines_of (x ∷ (xs ++ tail)))
        last [] none = record {
          line = x ∷ [];
          others = [];
          is = ap (λ (b : Bool). if b then (10 ∷ []) ∷ lines_of (xs ++ tail) else at_front x (lines_of (xs ++ tail))) here ∙ ap (at_front x) none;
          long = omega (arith, ap length e);
        }
        last (l ∷ ls) more = record {
          line = x ∷ l;
          others = ls;
          is = ap (λ (b : Bool). if b then (10 ∷ []) ∷ lines_of (xs ++ tail) else at_front x (lines_of (xs ++ tail))) here ∙ ap (at_front x) more;
          long = omega (arith, ap length e);
        }
    by false here (y ∷ ys) e later =
        let first = later (sym (ap (λ (b : Bool). if b then Some xs else behind 10 xs) here) ∙ is) (omega (arith, ap length e)) in
        record {
          line = x ∷ first.line;
          others = first.others;
          is = ap (λ (b : Bool). if b then (10 ∷ []) ∷ lines_of (xs ++ tail) else at_front x (lines_of (xs ++ tail))) here ∙ ap (at_front x) first.is;
          long = omega (arith, first.long);
        }

one_line : (xs : List ℕ) → behind 10 xs ≡ None → 0 < length xs → lines_of xs ≡ xs ∷ []
unfolding before behind lines_of
one_line [] is some = absurd (omega (arith, some))
one_line (x ∷ xs) is some = by (x == 10) refl xs refl (one_line xs)
  where
    by : (b : Bool) → (x == 10) ≡ b → (ys : List ℕ) → xs ≡ ys → (behind 10 xs ≡ None → 0 < length xs → lines_of xs ≡ xs ∷ []) → lines_of (x ∷ xs) ≡ (x ∷ xs) ∷ []
    by true here ys e later = absurd (cc (sym (ap (λ (b : Bool). if b then Some xs else behind 10 xs) here) ∙ is))
    by false here [] e later =
        ap (λ (b : Bool). if b then (10 ∷ []) ∷ lines_of xs else at_front x (lines_of xs)) here
        ∙ ap (λ (l : List ℕ). at_front x (lines_of l)) e ∙ ap (λ (l : List ℕ). (x ∷ l) ∷ []) (sym e)
    by false here (y ∷ ys) e later =
        ap (λ (b : Bool). if b then (10 ∷ []) ∷ lines_of xs else at_front x (lines_of xs)) here
        ∙ ap (at_front x) (later (sym (ap (λ (b : Bool). if b then Some xs else behind 10 xs) here) ∙ is) (omega (arith, ap length e)))

pub no_lines : lines_of [] ≡ []
unfolding lines_of
no_lines = refl

before_lf : (xs : List ℕ) → before 10 (with_lf (before 10 xs)) ≡ before 10 xs
unfolding before
before_lf [] = refl
before_lf (x ∷ xs) = by (x == 10) refl (before_lf xs)
  where
    by : (b : Bool) → (x == 10) ≡ b → before 10 (with_lf (before 10 xs)) ≡ before 10 xs → before 10 (with_lf (before 10 (x ∷ xs))) ≡ before 10 (x ∷ xs)
    by true here later =
        let none : before 10 (x ∷ xs) ≡ [] = ap (λ (b : Bool). if b then [] else x ∷ before 10 xs) here in
        ap (λ (l : List ℕ). before 10 (with_lf l)) none ∙ sym none
    by false here later =
        let more : before 10 (x ∷ xs) ≡ x ∷ before 10 xs = ap (λ (b : Bool). if b then [] else x ∷ before 10 xs) here in
        ap (λ (l : List ℕ). before 10 (with_lf l)) more
        ∙ ap (λ (b : Bool). if b then [] else x ∷ before 10 (with_lf (before 10 xs))) here
        ∙ ap (λ (l : List ℕ). x ∷ l) later ∙ sym more

-- ---- the first line of a script

-- The first line by its extent, and what comes behind it.
pub record FirstLine (held tail : List ℕ) (text size : ℕ) : Type 0 where
  pub line : List ℕ
  pub is : lines_of (held ++ tail) ≡ line ∷ lines_of (drop size held ++ tail)
  pub front : before 10 line ≡ take text held
  pub long : length line ≡ size

-- where it has an LF, or nothing comes behind
pub first_line : (held tail : List ℕ) (text size : ℕ) → IsExtent held text size → 0 < size → (behind 10 held ≡ None → tail ≡ []) → FirstLine held tail text size
first_line held tail text size extent some over = ⊎_elim whole last extent.ends
  where
    whole : (behind 10 held ≡ Some (drop size held)) × (size ≡ text + 1) → FirstLine held tail text size
    whole e = record {
      line = with_lf (before 10 held);
      is = cut_at held (drop size held) tail e.0;
      front = before_lf held ∙ extent.front;
      long = length-append (before 10 held) (10 ∷ []) ∙ ap (λ (n : ℕ). n + 1) (ap length extent.front ∙ length-take-le text held (omega (arith, extent.ordered, extent.within))) ∙ sym e.1;
    }

    last : (behind 10 held ≡ None) × (text ≡ length held) × (size ≡ length held) → FirstLine held tail text size
    last e =
        let none = over e.0 in
        record {
          line = held;
          is = ap (λ (l : List ℕ). lines_of (held ++ l)) none ∙ ap lines_of (append-nil held) ∙ one_line held e.0 (omega (arith, some, e.2))
              ∙ ap (λ (ls : List (List ℕ)). held ∷ ls) (sym (ap lines_of (ap (λ (l : List ℕ). l ++ tail) (drop_all size held (omega (arith, e.2))) ∙ none) ∙ no_lines));
          front = extent.front;
          long = sym e.2;
        }

-- the first line is so long at least
pub long_line : (held tail : List ℕ) (text size : ℕ) → IsExtent held text size → 0 < size → Begins (take size held) (lines_of (held ++ tail))
long_line held tail text size extent some = ⊎_elim whole last extent.ends
  where
    whole : (behind 10 held ≡ Some (drop size held)) × (size ≡ text + 1) → Begins (take size held) (lines_of (held ++ tail))
    whole e = record {
      line = with_lf (before 10 held);
      others = lines_of (drop size held ++ tail);
      is = cut_at held (drop size held) tail e.0;
      long = omega (arith, length-take-le size held extent.within, e.1, length-append (before 10 held) (10 ∷ []), ap length extent.front, length-take-le text held (omega (arith, extent.ordered, extent.within)));
    }

    last : (behind 10 held ≡ None) × (text ≡ length held) × (size ≡ length held) → Begins (take size held) (lines_of (held ++ tail))
    last e =
        let all = begins_all held tail e.0 (omega (arith, some, e.2)) in
        record { line = all.line; others = all.others; is = all.is; long = omega (arith, all.long, length-take-le size held extent.within, e.2) }

-- ---- what is answered

-- nothing comes behind what is held, where it has no LF and is not too long
pub over_tail : (s : ScriptState) (left : List ℕ) (text size : ℕ) → is_gathered s ≡ true → IsExtent s.held text size → s.size + size ≤ SCRIPT_LIMIT → behind 10 s.held ≡ None → (if s.is_over then [] else left) ≡ []
over_tail s left text size whole extent short none = by s.is_over whole
  where
    all : (b : Bool) → nat_lt SCRIPT_LIMIT (s.size + length s.held) ≡ b → ((behind 10 s.held ≡ Some (drop size s.held)) × (size ≡ text + 1)) ⊎ ((behind 10 s.held ≡ None) × (text ≡ length s.held) × (size ≡ length s.held))
        → (nat_lt SCRIPT_LIMIT (s.size + length s.held) || is_some (behind 10 s.held)) ≡ true → ⊥
    all b is (inl e) gathered = cc (sym none ∙ e.0)
    all true is (inr e) gathered = absurd (grind (arith, is, short, e.2))
    all false is (inr e) gathered = cc (sym (ap (λ (b : Bool). b || is_some (behind 10 s.held)) is ∙ ap is_some none) ∙ gathered)

    by : (over : Bool) → (over || nat_lt SCRIPT_LIMIT (s.size + length s.held) || is_some (behind 10 s.held)) ≡ true → (if over then [] else left) ≡ []
    by true gathered = refl
    by false gathered = absurd (all (nat_lt SCRIPT_LIMIT (s.size + length s.held)) refl extent.ends gathered)

pub too_long : (s : ScriptState) (left : List ℕ) (text size : ℕ) → IsExtent s.held text size → 0 < size → SCRIPT_LIMIT < s.size + size → Refuses (λ line. SCRIPT_LIMIT < s.size + length line) s s (to_come s left) (to_come s left)
too_long s left text size extent some over =
    let first = long_line s.held (if s.is_over then [] else left) text size extent some in
    record {
      stays = refl;
      counts = (refl, refl);
      line = first.line;
      first = record { others = first.others; is = first.is };
      why = omega (arith, first.long, length-take-le size s.held extent.within, over);
    }

pub wrong : (s : ScriptState) (left : List ℕ) (text size number : ℕ) → is_gathered s ≡ true → IsExtent s.held text size → 0 < size → s.size + size ≤ SCRIPT_LIMIT → read_line (take text s.held) ≡ None → number ≡ s.lines + 1
    → Refuses (λ line. (s.size + length line ≤ SCRIPT_LIMIT) × (read_line (before 10 line) ≡ None) × (number ≡ s.lines + 1)) s s (to_come s left) (to_come s left)
wrong s left text size number whole extent some short none is =
    let first = first_line s.held (if s.is_over then [] else left) text size extent some (over_tail s left text size whole extent short) in
    record {
      stays = refl;
      counts = (refl, refl);
      line = first.line;
      first = record { others = _; is = first.is };
      why = (omega (arith, first.long, short), ap read_line first.front ∙ none, is);
    }

pub handed : (s t : ScriptState) (left : List ℕ) (text size : ℕ) (command : Command) → is_gathered s ≡ true → IsExtent s.held text size → 0 < size → s.size + size ≤ SCRIPT_LIMIT → read_line (take text s.held) ≡ Some command
    → t.held ≡ drop size s.held → t.lines ≡ s.lines + 1 → t.size ≡ s.size + size → t.is_over ≡ s.is_over → HandsOut s t (to_come s left) (to_come t left) command
handed s t left text size command whole extent some short asks held lines more over =
    let first = first_line s.held (if s.is_over then [] else left) text size extent some (over_tail s left text size whole extent short) in
    record {
      line = first.line;
      is = first.is ∙ ap (λ (b : Bool). first.line ∷ lines_of (drop size s.held ++ (if b then [] else left))) (sym over)
          ∙ ap (λ (l : List ℕ). first.line ∷ lines_of (l ++ (if t.is_over then [] else left))) (sym held);
      asks = ap read_line first.front ∙ asks;
      lines = lines;
      size = more ∙ ap (λ (n : ℕ). s.size + n) (sym first.long);
      within = omega (arith, more, short);
    }
