-- A line among the bytes of a text, and what its pair is once it was read.
use Rattle.std.proofs.Common.{◌≡◌, ◌⊎◌, inl, inr, ℕ, zero, suc, ◌+◌, ◌-◌, ◌<◌, ◌≤◌, List, [], ◌∷◌, ◌++◌, length, get_or, take, drop, refl, sym, ◌∙◌, ap, subst, arith}
use Rattle.std.specs.Prelude.{min}
use Rattle.std.specs.List.{All}
use Rattle.std.proofs.lemmas.List.{take-append-drop, drop_more, drop_all, drop-drop, drop_at, take-append-le, drop-append-le, length-drop, length-take-le, drop-take, take-take, append-nil}
use borrow.Rule.Slice.PartMut.{put_mid, post_of}
use Rattle.base_bytes.specs.OrderedMap.{Map}
use Rattle.base_bytes.specs.declared.flaw.Damage.{Damage}
use Rattle.flat_db.specs.FlatText.{IsFree, HasLine, SaysPair, SaysPairs, IsFlawedAt}
use Rattle.flat_db.specs.Lines.{IsFlawedLine}
use Rattle.flat_db.specs.Entries.{part_of, pair_of, pairs_of, EndsBy}
use Rattle.flat_db.specs.declared.pairs.Span.{Span}
use Rattle.flat_db.specs.declared.pairs.Entry.{Entry}

abbrev pub line_of : List ℕ → ℕ → ℕ → List ℕ
line_of text at end = take (end - at) (drop at text)

below_or_end : (m n : ℕ) → m ≤ n → (m < n) ⊎ (m ≡ n)
below_or_end m n le = by (n - m) refl
  where
    by : (k : ℕ) → n - m ≡ k → (m < n) ⊎ (m ≡ n)
    by zero is = inr (omega arith)
    by (suc k) is = inl (omega arith)

-- the line that begins at an offset, and what follows it
pub has_line_at : (text : List ℕ) (at end next : ℕ) → at < length text → at ≤ end → end ≤ length text → IsFree 10 (line_of text at end) → (end < length text → get_or text end 0 ≡ 10) → next ≡ min (end + 1) (length text) → HasLine (drop at text) (line_of text at end) (drop next text)
has_line_at text at end next some ordered within free ends is = record {
  some = λ none. omega (arith, ap length none, length-drop at text);
  whole = free;
  ends = by whole_or;
}
  where
    rest : drop at text ≡ line_of text at end ++ drop end text
    rest = sym (take-append-drop (end - at) (drop at text)) ∙ ap (λ (l : List ℕ). line_of text at end ++ l) (drop-drop (end - at) at text ∙ ap (λ (n : ℕ). drop n text) (omega arith))

    whole_or : (end < length text) ⊎ (end ≡ length text)
    whole_or = below_or_end end (length text) within

    by : (end < length text) ⊎ (end ≡ length text) → (drop at text ≡ line_of text at end ++ (10 ∷ drop next text)) ⊎ ((drop at text ≡ line_of text at end) × (drop next text ≡ []))
    by (inl below) = inl (rest ∙ ap (λ (l : List ℕ). line_of text at end ++ l) (drop_more text end 0 below ∙ ap (λ (b : ℕ). b ∷ drop (end + 1) text) (ends below) ∙ ap (λ (n : ℕ). 10 ∷ drop n text) (omega arith)))
    by (inr all) = inr (rest ∙ ap (λ (l : List ℕ). line_of text at end ++ l) (drop_all end text (omega arith)) ∙ append-nil (line_of text at end), drop_all next text (omega arith))

-- what stands at the front of what was read
pub front_part : (at k size : ℕ) (text new : List ℕ) → at ≤ length text → size ≤ length new → take size (drop at (put_mid at k text new)) ≡ take size new
front_part at k size text new fits within =
    ap (take size) (drop_at (take at text) (new ++ post_of at k text) at (length-take-le at text fits)) ∙ take-append-le size new (post_of at k text) within

pub later_part : (at k from size : ℕ) (text new : List ℕ) → at ≤ length text → from + size ≤ length new → take size (drop (at + from) (put_mid at k text new)) ≡ take size (drop from new)
later_part at k from size text new fits within =
    ap (take size) (sym (drop-drop from at (put_mid at k text new)) ∙ ap (drop from) (drop_at (take at text) (new ++ post_of at k text) at (length-take-le at text fits)) ∙ drop-append-le from new (post_of at k text) (omega arith))
    ∙ take-append-le size (drop from new) (post_of at k text) (omega (arith, length-drop from new))

-- ---- entries

-- what stands before an offset, where the bytes before it are the same
pub part_below : (old new : List ℕ) (at : ℕ) (span : Span) → take at new ≡ take at old → span.start + span.size ≤ at → part_of new span ≡ part_of old span
part_below old new at span same ends = within new ∙ ap (λ (l : List ℕ). take span.size (drop span.start l)) same ∙ sym (within old)
  where
    within : (xs : List ℕ) → take span.size (drop span.start xs) ≡ take span.size (drop span.start (take at xs))
    within xs =
        sym (take-take span.size (at - span.start) (drop span.start xs) (omega arith))
        ∙ ap (take span.size) (sym (drop-take span.start (at - span.start) xs) ∙ ap (λ (n : ℕ). drop span.start (take n xs)) (omega arith))

pub pairs_below : (old new : List ℕ) (at : ℕ) (entries : List Entry) → take at new ≡ take at old → All (EndsBy at) entries → pairs_of new entries ≡ pairs_of old entries
pairs_below old new at [] same ends = refl
pairs_below old new at (e ∷ entries) same ends =
    let here = ends 0 e (omega arith) in
    ap (λ (k : List ℕ). (k, part_of new e.value) ∷ pairs_of new entries) (part_below old new at e.key same here.key)
    ∙ ap (λ (v : List ℕ). (part_of old e.key, v) ∷ pairs_of new entries) (part_below old new at e.value same here.value)
    ∙ ap (λ (m : Map). pair_of old e ∷ m) (pairs_below old new at entries same (λ k d below. ends (suc k) d (omega (arith, below))))

pub ends_later : (at next : ℕ) (entries : List Entry) → at ≤ next → All (EndsBy at) entries → All (EndsBy next) entries
ends_later at next entries le ends k d below =
    let here = ends k d below in
    record { key = omega (arith, here.key); value = omega (arith, here.value) }

-- one line more
says_more : (pairs : List (List ℕ × List ℕ)) (text rest line later : List ℕ) (p : List ℕ × List ℕ) → SaysPairs text pairs rest → HasLine rest line later → SaysPair line p → SaysPairs text (pairs ++ (p ∷ [])) later
says_more [] text rest line later p says has pair = (line, later, subst (λ (l : List ℕ). HasLine l line later) (sym says) has, pair, refl)
says_more (q ∷ pairs) text rest line later p says has pair = (says.0, says.1, says.2, says.3, says_more pairs says.1 rest line later p says.4 has pair)

pub all_push : (end : ℕ) (entries : List Entry) (entry : Entry) → All (EndsBy end) entries → EndsBy end entry → All (EndsBy end) (entries ++ (entry ∷ []))
all_push end [] entry ends here zero d below = here
all_push end [] entry ends here (suc k) d below = absurd (omega (arith, below))
all_push end (e ∷ entries) entry ends here zero d below = ends 0 d (omega arith)
all_push end (e ∷ entries) entry ends here (suc k) d below = all_push end entries entry (λ i x less. ends (suc i) x (omega (arith, less))) here k d (omega (arith, below))

-- what is the same from an offset on is the same from a later one on
pub drop_later : (at next : ℕ) (xs ys : List ℕ) → at ≤ next → drop at xs ≡ drop at ys → drop next xs ≡ drop next ys
drop_later at next xs ys le same =
    ap (λ (n : ℕ). drop n xs) (omega arith) ∙ sym (drop-drop (next - at) at xs) ∙ ap (drop (next - at)) same ∙ drop-drop (next - at) at ys ∙ ap (λ (n : ℕ). drop n ys) (omega arith)

-- the first flaw of a text, in the line that begins at an offset
pub flawed_there : (text now : List ℕ) (at : ℕ) (pairs : Map) (damage : Damage) → at ≤ length text → drop at now ≡ drop at text → SaysPairs text pairs (drop at text) → IsFlawedLine at (drop at now) damage → IsFlawedAt text damage
flawed_there text now at pairs damage within same says flaw = record {
  before = pairs;
  rest = drop at text;
  line = flaw.line;
  later = flaw.later;
  offset = flaw.offset;
  sound = says;
  first = subst (λ (l : List ℕ). HasLine l flaw.line flaw.later) same flaw.first;
  flaw = flaw.flaw;
  place = omega (arith, flaw.place, within, length-drop at text);
}

-- the pairs so far, and that of one line more
pub says_later : (text now : List ℕ) (at next : ℕ) (pairs : Map) (p : List ℕ × List ℕ) → at ≤ next → drop at now ≡ drop at text → SaysPairs text pairs (drop at text) → (whole : List ℕ) × HasLine (drop at now) whole (drop next now) × SaysPair whole p → SaysPairs text (pairs ++ (p ∷ [])) (drop next text)
says_later text now at next pairs p later same says pair =
    says_more pairs text (drop at text) pair.0 (drop next text) p says
    (subst (λ (l : List ℕ). HasLine l pair.0 (drop next text)) same (subst (λ (l : List ℕ). HasLine (drop at now) pair.0 l) (drop_later at next now text later same) pair.1))
    pair.2
