-- What the names of a folder are: those of messages, odd ones, and those that are passed over.
use Rattle.std.specs.Prelude.{◌≡◌, ℕ, ◌+◌, ◌-◌, ◌<◌, ◌≤◌, Bool, true, false, ◌&&◌, nat_le, nat_eq, List, [], ◌∷◌, ◌++◌, length, take, codes, decimal, All, IsPermutation, Option, Some, if◌then◌else◌}
use Rattle.std.specs.Cmp.Lexicographic.{pointwise}
use Rattle.std.specs.List.{starts_with}
use Rattle.std.specs.List.Sorted.{IsNonDecreasingBy, IsSorted}
use Rattle.std.specs.Str.Parse.{digits_value}
use Rattle.base_bytes.specs.OrderedMap.{key_order}
use Rattle.base_devices.specs.SpoolCalls.{Folder, names_of}
use Rattle.mail_scan.specs.declared.fault.ScanFault.{ScanFault}
use Rattle.mail_scan.specs.declared.fault.ScanFault.TheVariants.{SpoolFault, TooMany, NoMemory}
use Rattle.mail_scan.specs.Names.{IsMessageName}

-- the server's own files
abbrev pub is_passed_over : List ℕ → Bool
is_passed_over name = starts_with nat_eq name (codes "cyrus.")

-- the name of some message
abbrev pub NamesMessage : List ℕ → Type 0
NamesMessage name = (uid : ℕ) × IsMessageName name uid

-- neither the name of a message nor one of the server's own
pub record IsOdd (name : List ℕ) : Type 0 where
  pub no_message : (uid : ℕ) → IsMessageName name uid → ⊥
  pub own : is_passed_over name ≡ false

-- the names of a folder, sorted out
pub record Names : Type 0 where
  pub messages : List (List ℕ)
  pub odd : List (List ℕ)

-- Each name is in its list as often as it was given, and nothing else is.
pub record SortsOut (given : List (List ℕ)) (names : Names) : Type 0 where
  pub passed_over : List (List ℕ)
  pub all : IsPermutation given (names.messages ++ (names.odd ++ passed_over))
  pub messages : All NamesMessage names.messages
  pub odd : All IsOdd names.odd
  pub own : All (λ name. is_passed_over name ≡ true) passed_over

-- the number that the digits before a name's dot write
abbrev pub number_before_dot : List ℕ → ℕ
number_before_dot name = digits_value 10 (take (length name - 1) name)

-- the name is that of the message with this number
abbrev pub is_message_name : List ℕ → Bool
is_message_name name =
    pointwise nat_eq name (decimal (number_before_dot name) ++ (46 ∷ []))
    && nat_le 1 (number_before_dot name) && nat_le (number_before_dot name) 4294967295

-- the uid of a message's name, and 0 of any other
abbrev pub uid_in : List ℕ → ℕ
uid_in name = if is_message_name name then number_before_dot name else 0

-- messages by rising uid, and odd names by their bytes
pub record IsInOrder (names : Names) : Type 0 where
  pub by_uid : IsNonDecreasingBy uid_in names.messages
  pub by_bytes : IsSorted key_order names.odd

-- the device failed, and it is neither a limit nor memory
abbrev pub IsSpoolFault : ScanFault → Type 0
IsSpoolFault SpoolFault = Unit {0}
IsSpoolFault TooMany = ⊥
IsSpoolFault NoMemory = ⊥

-- one name more was given than a folder may have
pub record GaveTooMany (folder : Folder) (new : Option Folder) (limit : ℕ) : Type 0 where
  pub more : limit < length folder.files
  pub given : new ≡ Some (record folder { given = limit + 1 })

-- the names of all files were given, and sorted out
pub record ListsFolder (folder : Folder) (limit : ℕ) (names : Names) : Type 0 where
  pub few : length folder.files ≤ limit
  pub sorted_out : SortsOut (names_of folder.files) names
