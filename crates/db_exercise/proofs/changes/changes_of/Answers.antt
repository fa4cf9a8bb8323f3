use Rattle.db_exercise.proofs.WordLemmas.{left_of, changes_are}
use Rattle.db_exercise.proofs.changes.changes_of.Goals as goal

pub returns-in_err-first-clause-words : goal.returns-in_err-first-clause-words
returns-in_err-first-clause-words g c = left_of c.args.round _ _ _ _ _ c.word_for-first_word.ensures.rest c.word_for-second_word.ensures.rest c.word_for-third_word.ensures.rest c.word_for-fourth_word.ensures.rest

pub returns-in_err-second-clause-words : goal.returns-in_err-second-clause-words
returns-in_err-second-clause-words g c = left_of c.args.round _ _ _ _ _ c.word_for-first_word.ensures.rest c.word_for-second_word.ensures.rest c.word_for-third_word.ensures.rest c.word_for-fourth_word.ensures.rest

pub returns-in_err-third-clause-words : goal.returns-in_err-third-clause-words
returns-in_err-third-clause-words g c = left_of c.args.round _ _ _ _ _ c.word_for-first_word.ensures.rest c.word_for-second_word.ensures.rest c.word_for-third_word.ensures.rest c.word_for-fourth_word.ensures.rest

pub returns-in_err-fourth-clause-words : goal.returns-in_err-fourth-clause-words
returns-in_err-fourth-clause-words g c = left_of c.args.round _ _ _ _ _ c.word_for-first_word.ensures.rest c.word_for-second_word.ensures.rest c.word_for-third_word.ensures.rest c.word_for-fourth_word.ensures.rest

pub returns-clause-words : goal.returns-clause-words
returns-clause-words g c = left_of c.args.round _ _ _ _ _ c.word_for-first_word.ensures.rest c.word_for-second_word.ensures.rest c.word_for-third_word.ensures.rest c.word_for-fourth_word.ensures.rest

pub returns-clause-changes : goal.returns-clause-changes
returns-clause-changes g c =
    changes_are c.args.round c.word_for-first_word.result c.word_for-second_word.result c.word_for-third_word.result c.word_for-fourth_word.result _ _ _ _ _ _ _ _ c.word_for-first_word.ensures.rest c.word_for-second_word.ensures.rest c.word_for-third_word.ensures.rest
    c.in_ok-first.ensures c.in_ok-second.ensures c.in_ok-third.ensures c.in_ok-fourth.ensures
    c.word_for-first_word.ensures.word c.word_for-second_word.ensures.word c.word_for-third_word.ensures.word c.word_for-fourth_word.ensures.word
