-- The command of each tool, as clap sees it: its flags, options and positionals in the order of the
-- words, and nothing else. There is no help, no version, no group and no rule between arguments.
use Rattle.std.specs.Prelude.{ℕ, true, List, [], ◌∷◌, Some, codes, slice_get}
use Rattle.clap.specs.Lexer.{usize_max}
use Rattle.clap.specs.Simple.{App, new_rule, new_shape}
use Rattle.clap.specs.Walk.{Rule}
use Rattle.clap.specs.declared.builder.action.ArgAction.TheVariants.{SetTrue}

abbrev pub command_of : List ℕ → List Rule → App
command_of name rules = record {
  top = record (new_shape name) { disable_help_flag = true; rules = rules };
  subs = [];
}

-- a flag that takes nothing, by its letter
abbrev pub flag_of : List ℕ → List ℕ → Rule
flag_of id letter = record (new_rule id) { short = slice_get letter 0; action = Some SetTrue }

-- a flag that takes one value
abbrev pub option_of : List ℕ → List ℕ → Rule
option_of id letter = record (new_rule id) { short = slice_get letter 0 }

-- a word that has to stand there
abbrev pub word_of : List ℕ → Rule
word_of id = record (new_rule id) { required = true }

-- words that may follow, so many at least where there are any, and so many at most
abbrev pub words_of : List ℕ → ℕ → ℕ → Rule
words_of id least most =
    record (new_rule id) { range = Some (record { start_inclusive = least; end_inclusive = most }) }

-- `cyr_dbtool [-n] FILE BACKEND ACTION [WORD [WORD]]`
abbrev pub dbtool_app : App
dbtool_app = command_of (codes "cyr_dbtool") (flag_of (codes "make") (codes "n")
    ∷ word_of (codes "file") ∷ word_of (codes "backend") ∷ word_of (codes "action")
    ∷ words_of (codes "operands") 0 2 ∷ [])

-- `cvt_cyrusdb OLD BACKEND NEW BACKEND`
abbrev pub convert_app : App
convert_app = command_of (codes "cvt_cyrusdb") (word_of (codes "old")
    ∷ word_of (codes "old_backend") ∷ word_of (codes "new") ∷ word_of (codes "new_backend") ∷ [])

-- `reconstruct [-r] [-n] [-q] [-o] [-G] FOLDER [PREFIX]`
abbrev pub reconstruct_app : App
reconstruct_app = command_of (codes "reconstruct") (flag_of (codes "recurse") (codes "r")
    ∷ flag_of (codes "dry") (codes "n") ∷ flag_of (codes "quiet") (codes "q")
    ∷ flag_of (codes "skip_odd") (codes "o") ∷ flag_of (codes "force") (codes "G")
    ∷ word_of (codes "folder") ∷ new_rule (codes "prefix") ∷ [])

-- `unexpunge [-l] [-a] [-u] FOLDER [UID ..]`
abbrev pub unexpunge_app : App
unexpunge_app = command_of (codes "unexpunge") (flag_of (codes "list") (codes "l")
    ∷ flag_of (codes "all") (codes "a") ∷ flag_of (codes "by_uid") (codes "u")
    ∷ word_of (codes "folder") ∷ words_of (codes "uids") 1 usize_max ∷ [])

-- `ipurge [-i] [-s] [-x] [-d N] [-b N] [-k N] [-m N] FOLDER`
abbrev pub purge_app : App
purge_app = command_of (codes "ipurge") (flag_of (codes "invert") (codes "i")
    ∷ flag_of (codes "skip_flagged") (codes "s") ∷ flag_of (codes "exact") (codes "x")
    ∷ option_of (codes "days") (codes "d") ∷ option_of (codes "bytes") (codes "b")
    ∷ option_of (codes "kilo") (codes "k") ∷ option_of (codes "mega") (codes "m")
    ∷ word_of (codes "folder") ∷ [])

-- `chk_cyrus [-M] FOLDER`
abbrev pub check_app : App
check_app = command_of (codes "chk_cyrus")
    (flag_of (codes "mailbox") (codes "M") ∷ word_of (codes "folder") ∷ [])
