-- What clap gives of a command line, and how it is asked for.
use Rattle.std.specs.Prelude.{ℕ, Bool, false, List, [], Option, None, Some, codes, if◌then◌else◌, unwrap_or}
use Rattle.std.specs.Option.{option_map_or}
use Rattle.std.specs.Str.{bytes_eq}
use Rattle.clap.specs.Faults.{fault_of}
use Rattle.clap.specs.Matches.{found_of}
use Rattle.clap.specs.Simple.{App, matches_of}
use Rattle.clap.specs.Walk.{Row, all_of, is_empty, one_of, rows_of}
use Rattle.clap.specs.declared.error.kind.ErrorKind.{ErrorKind}
use Rattle.clap.specs.declared.error.kind.ErrorKind.TheVariants.{OutOfMemory}
use Rattle.clap.specs.declared.parser.matches.ArgMatches.{ArgMatches}
use Rattle.tool_words.specs.declared.jobs.WordFault.{WordFault}
use Rattle.tool_words.specs.declared.jobs.WordFault.TheVariants as fault

-- clap's matches of a command line, the tool's name included, or none where clap refuses it
unfoldable pub rows_by : App → List (List ℕ) → Option (List Row)
rows_by command words = if is_empty (fault_of command words) then Some (matches_of command words) else None

abbrev pub rows_in : ArgMatches → List Row
rows_in matches = rows_of (found_of matches)

-- the flag was given
abbrev pub has_flag : List ℕ → List Row → Bool
has_flag id rows = option_map_or (λ text. bytes_eq text (codes "true")) (one_of id rows) false

-- the words that a positional of several took
abbrev pub rest_of : List ℕ → List Row → List (List ℕ)
rest_of id rows = unwrap_or (all_of id rows) []

-- all that clap refuses is one to us, but for memory
abbrev pub word_fault_of : ErrorKind → WordFault
word_fault_of OutOfMemory = fault.NoMemory
word_fault_of kind = fault.Usage
