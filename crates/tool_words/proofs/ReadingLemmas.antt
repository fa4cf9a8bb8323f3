-- What the getters of clap's matches read.
use Rattle.std.proofs.Common.{◌==◌, length, rules, suc, inl, inr, ◌≡◌, ℕ, Bool, true, false, List, Option, Some, None, refl, codes}
use Rattle.std.specs.Option.{option_map_or, unwrap_or}
use Rattle.std.specs.Str.{bytes_eq}
use Rattle.std.specs.Str.Parse.{ParsesBool, true_text, false_text}
use Rattle.std.proofs.lemmas.Slice.Eq.{bytes_eq-Decides}
use Rattle.std.specs.Prelude.{[], ◌∷◌, if◌then◌else◌}
use Rattle.clap.specs.Faults.{fault_of}
use Rattle.clap.specs.Kinds.{HasKind, IsAmong, Kinds}
use Rattle.clap.specs.Matches.{ReadsOne}
use Rattle.clap.specs.Simple.{App, matches_of}
use Rattle.clap.specs.Values.{kind_of}
use Rattle.clap.specs.Walk.{Row, is_empty}
use Rattle.clap.specs.declared.error.Error.{Error}
use Rattle.clap.specs.declared.error.kind.ErrorKind.{ErrorKind}
use Rattle.clap.specs.declared.error.kind.ErrorKind.TheVariants.{OutOfMemory}
use Rattle.tool_words.specs.Reading.{has_flag, rows_by, word_fault_of}
use Rattle.tool_words.specs.declared.jobs.WordFault.TheVariants.{Usage}

pub not_true : (b : Bool) → (b ≡ true → ⊥) → b ≡ false
not_true true h = absurd (h refl)
not_true false h = refl

is_true_text : List ℕ → Bool
is_true_text text = bytes_eq text (codes "true")

read_value : (E : Type 0) (text : List ℕ) (read : Option Bool) → ReadsOne {T = Bool} {E = E} ParsesBool text read
    → unwrap_or read false ≡ bytes_eq text (codes "true")
read_value E text (Some true) h = rw h refl
read_value E text (Some false) h = rw h refl
read_value E text None h = let e = not_true _ (λ same. h.1.0 ((bytes_eq-Decides text (codes "true")).0 same)) in cc

-- a flag reads as true where its text is `true`
pub flag_read : (E : Type 0) (found : Option (List ℕ)) (read : Option Bool) → (found ≡ None → read ≡ None)
    → ((text : List ℕ) → found ≡ Some text → ReadsOne {T = Bool} {E = E} ParsesBool text read)
    → unwrap_or read false ≡ option_map_or (λ text. bytes_eq text (codes "true")) found false
flag_read E None read none some = rw (none refl) refl
flag_read E (Some text) read none some = read_value E text read (some text refl)

not_zero : (n : ℕ) → (suc n == 0) ≡ false
not_zero n = search rules

-- clap refuses nothing, and these are its matches
pub rows_taken : (command : App) (words : List (List ℕ)) (rows : List Row) → fault_of command words ≡ []
    → rows ≡ matches_of command words → rows_by command words ≡ Some rows
unfolding rows_by
rows_taken command words rows free same = rw (free, same) refl

refused_rows : (kinds : Kinds) (kind : ErrorKind) (rows : List Row) → IsAmong kind kinds
    → (if is_empty kinds then Some rows else None) ≡ None
refused_rows [] kind rows among = absurd among
refused_rows (k ∷ ks) kind rows among =
    let some : is_empty (k ∷ ks) ≡ false = not_zero (length ks) in rw some refl

-- clap refuses the words, and not for memory
pub rows_refused : (command : App) (words : List (List ℕ)) (error : Error) → HasKind (fault_of command words) error
    → word_fault_of (kind_of error) ≡ Usage → rows_by command words ≡ None
unfolding rows_by
rows_refused command words error (inl memory) usage =
    let e : word_fault_of OutOfMemory ≡ Usage = rw memory at usage in cc
rows_refused command words error (inr among) usage = refused_rows (fault_of command words) (kind_of error) (matches_of command words) among
