-- The random words of a round.
use Rattle.std.proofs.Common.{◌≡◌, ◌∙◌, zero, suc, ℕ, ◌+◌, ◌*◌, Bool, true, false, [], ◌∷◌, ap, refl, arith}
use Rattle.std.specs.Prelude.{if◌then◌else◌}
use Rattle.db_exercise.specs.Changes.{change_at, deletes, transaction_at, words_behind, words_of, words_left, words_in}
use Rattle.base_bytes.specs.declared.change.Change.{Change}
use Rattle.db_tool.specs.Tasks.{words_after}
use Rattle.rand_core.specs.Stream.{Stream, next_u32}

one_more : (n : ℕ) → suc (n + 1) ≡ suc n + 1
one_more n = omega arith

no_more : (n : ℕ) → n ≡ n + 0
no_more n = omega arith

next_after : (n : ℕ) (words : Stream) → (next_u32 (words_after n words)).1 ≡ words_after (n + 1) words
next_after zero words = refl
next_after (suc n) words = next_after n (next_u32 words).1 ∙ ap (λ (k : ℕ). words_after k words) (one_more n)

-- those of one change
change_on : (number n : ℕ) (now start : Stream) → now ≡ words_after n start → words_behind number now ≡ words_after (n + words_of number) start
unfolding words_behind words_of
change_on number n now start is = by (deletes number)
  where
    by : (b : Bool) → (if b then now else (next_u32 now).1) ≡ words_after (n + (if b then 0 else 1)) start
    by true = is ∙ ap (λ (k : ℕ). words_after k start) (no_more n)
    by false = ap (λ (w : Stream). (next_u32 w).1) is ∙ next_after n start

sum_of_four : (n a b c d : ℕ) → n + a + b + c + d ≡ n + (a + b + c + d)
sum_of_four n a b c d = omega arith

pub round_on : (round n : ℕ) (now start : Stream) → now ≡ words_after n start → words_left round now ≡ words_after (n + words_in round) start
unfolding words_left words_in
round_on round n now start is =
    let first = 4 * round in
    let one = change_on first n now start is in
    let two = change_on (first + 1) (n + words_of first) _ start one in
    let three = change_on (first + 2) (n + words_of first + words_of (first + 1)) _ start two in
    change_on (first + 3) (n + words_of first + words_of (first + 1) + words_of (first + 2)) _ start three
    ∙ ap (λ (k : ℕ). words_after k start) (sum_of_four n (words_of first) (words_of (first + 1)) (words_of (first + 2)) (words_of (first + 3)))

-- four changes, one after another
pub left_of : (round : ℕ) (words a b c d : Stream) → a ≡ words_behind (4 * round) words → b ≡ words_behind (4 * round + 1) a → c ≡ words_behind (4 * round + 2) b → d ≡ words_behind (4 * round + 3) c → d ≡ words_left round words
unfolding words_left
left_of round words a b c d one two three four =
    four ∙ ap (words_behind (4 * round + 3)) (three ∙ ap (words_behind (4 * round + 2)) (two ∙ ap (words_behind (4 * round + 1)) one))

pub changes_are : (round first second third fourth : ℕ) (words a b c : Stream) (p q r s : Change) → a ≡ words_behind (4 * round) words → b ≡ words_behind (4 * round + 1) a → c ≡ words_behind (4 * round + 2) b
    → p ≡ change_at (4 * round) first → q ≡ change_at (4 * round + 1) second → r ≡ change_at (4 * round + 2) third → s ≡ change_at (4 * round + 3) fourth
    → change_at (4 * round) first ≡ change_at (4 * round) (next_u32 words).0 → change_at (4 * round + 1) second ≡ change_at (4 * round + 1) (next_u32 a).0
    → change_at (4 * round + 2) third ≡ change_at (4 * round + 2) (next_u32 b).0 → change_at (4 * round + 3) fourth ≡ change_at (4 * round + 3) (next_u32 c).0
    → (p ∷ q ∷ r ∷ s ∷ []) ≡ transaction_at round words
unfolding transaction_at
changes_are round first second third fourth words a b c p q r s one two three is_p is_q is_r is_s same_p same_q same_r same_s =
    let a_is : a ≡ words_behind (4 * round) words = one in
    let b_is : b ≡ words_behind (4 * round + 1) (words_behind (4 * round) words) = two ∙ ap (words_behind (4 * round + 1)) a_is in
    let c_is : c ≡ words_behind (4 * round + 2) (words_behind (4 * round + 1) (words_behind (4 * round) words)) = three ∙ ap (words_behind (4 * round + 2)) b_is in
    ap (λ (x : Change). x ∷ q ∷ r ∷ s ∷ []) (is_p ∙ same_p)
    ∙ ap (λ (x : Change). change_at (4 * round) (next_u32 words).0 ∷ x ∷ r ∷ s ∷ []) (is_q ∙ same_q ∙ ap (λ (w : Stream). change_at (4 * round + 1) (next_u32 w).0) a_is)
    ∙ ap (λ (x : Change). change_at (4 * round) (next_u32 words).0 ∷ change_at (4 * round + 1) (next_u32 (words_behind (4 * round) words)).0 ∷ x ∷ s ∷ []) (is_r ∙ same_r ∙ ap (λ (w : Stream). change_at (4 * round + 2) (next_u32 w).0) b_is)
    ∙ ap (λ (x : Change). change_at (4 * round) (next_u32 words).0 ∷ change_at (4 * round + 1) (next_u32 (words_behind (4 * round) words)).0
    ∷ change_at (4 * round + 2) (next_u32 (words_behind (4 * round + 1) (words_behind (4 * round) words))).0 ∷ x ∷ [])
    (is_s ∙ same_s ∙ ap (λ (w : Stream). change_at (4 * round + 3) (next_u32 w).0) c_is)
