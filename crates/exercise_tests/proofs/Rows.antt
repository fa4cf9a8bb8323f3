-- Exercises of no and of one round over an empty flat file, worked by hand.
use Rattle.std.proofs.Common.{◌≡◌, ◌∙◌, List, ℕ, [], ◌∷◌, None, refl, ap, arith}
use Rattle.std.proofs.lemmas.Fmt.{decimal_digit}
use Rattle.std.specs.Prelude.{codes, decimal}
use Rattle.base_bytes.specs.OrderedMap.{put, without, value_at}
use Rattle.base_bytes.specs.Transactions.{Transaction}
use Rattle.base_bytes.specs.declared.change.Change.TheVariants.{Put, Del}
use Rattle.base_notes.specs.declared.note.Note.TheVariants.{Done}
use Rattle.db_core.specs.Sessions.{at_rest}
use Rattle.db_core.specs.WholeTransactions.{run_after, run_refusal}
use Rattle.db_exercise.specs.Changes.{change_at, transaction_at, words_behind, words_in, words_of}
use Rattle.db_exercise.specs.Exercise.{ending_of, exercise_task}
use Rattle.flat_db.specs.FlatText.{pair_line}
use Rattle.flat_db.specs.Sessions.{flat_kind}
use Rattle.rand_core.specs.Stream.{Stream, next_u32}
use Rattle.base_bytes.specs.Escapes.{escaped, escaped_byte}

-- the changes of the first round, with these values
abbrev changes_with : Stream → List ℕ → List ℕ → List ℕ → Transaction
changes_with words one two three =
    let second = (next_u32 words).1 in
    let third = (next_u32 second).1 in
    Del (codes "k000") ∷ Put (next_u32 words).0 (codes "k9e3") one ∷ Put (next_u32 second).0 (codes "k3c6") two ∷ Put (next_u32 third).0 (codes "kdaa") three ∷ []

by_numbers : (words : Stream) → transaction_at 0 words ≡ changes_with words (decimal 1) (decimal 2) (decimal 3)
unfolding change_at transaction_at words_behind
by_numbers words = refl

first_round : (words : Stream) → transaction_at 0 words ≡ changes_with words (codes "1") (codes "2") (codes "3")
first_round words =
    by_numbers words
    ∙ ap (λ (l : List ℕ). changes_with words l (decimal 2) (decimal 3)) (decimal_digit 1 (omega arith))
    ∙ ap (λ (l : List ℕ). changes_with words (codes "1") l (decimal 3)) (decimal_digit 2 (omega arith))
    ∙ ap (λ (l : List ℕ). changes_with words (codes "1") (codes "2") l) (decimal_digit 3 (omega arith))

three_words : words_in 0 ≡ 3
unfolding words_in words_of
three_words = refl

is_made : (words : Stream) → run_refusal flat_kind (at_rest [] 0) (changes_with words (codes "1") (codes "2") (codes "3")) ≡ None
unfolding put without value_at pair_line escaped escaped_byte
is_made words = refl

its_map : (words : Stream) → run_after flat_kind (at_rest [] 0) (changes_with words (codes "1") (codes "2") (codes "3"))
    ≡ at_rest ((codes "k3c6", codes "2") ∷ (codes "k9e3", codes "1") ∷ (codes "kdaa", codes "3") ∷ []) 0
unfolding put without value_at
its_map words = refl

no_round : (words : Stream) → (exercise_task flat_kind 0 (at_rest [] 0) words).note ≡ Done
unfolding ending_of
no_round words = refl
