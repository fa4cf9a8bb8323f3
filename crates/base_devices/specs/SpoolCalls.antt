-- What a folder of message files holds, and what the calls of a spool do.
use Rattle.std.specs.Prelude.{◌≡◌, ◌≢◌, ℕ, ◌+◌, ◌<◌, ◌≤◌, List, map, length, take, drop, find, Option, None, Some, nat_eq, slice_get}
use Rattle.std.specs.Cmp.Lexicographic.{pointwise}
use Rattle.std.specs.Option.{option_map}

-- a file: its name, its time in seconds since 1970, and its bytes
pub record MessageFile : Type 0 where
  pub name : List ℕ
  pub time : ℕ
  pub bytes : List ℕ

-- the files of a folder, in the order in which their names are given, and how many names were given
pub record Folder : Type 0 where
  pub files : List MessageFile
  pub given : ℕ

-- a spool: its folder, where it shows that, and how often its calls failed
pub record SpoolState : Type 0 where
  pub folder : Option Folder
  pub faults : ℕ

-- the names of a folder's files
abbrev pub names_of : List MessageFile → List (List ℕ)
names_of files = map (λ file. file.name) files

-- no two files have one name
abbrev pub HasDistinctNames : List MessageFile → Type 0
HasDistinctNames files =
    (i j : ℕ) (name : List ℕ) → slice_get (names_of files) i ≡ Some name → slice_get (names_of files) j ≡ Some name → i ≡ j

-- the folder shows a file with this name
abbrev pub HasFile : Option Folder → List ℕ → MessageFile → Type 0
HasFile None name file = ⊥
HasFile (Some folder) name file = find (λ other. pointwise nat_eq other.name name) folder.files ≡ Some file

-- what is given next: the name of the next file, or none at the end
abbrev pub GivesName : Folder → Option (List ℕ) → Option Folder → Type 0
GivesName old None new = (length old.files ≤ old.given) × (new ≡ Some old)
GivesName old (Some name) new =
    (slice_get (names_of old.files) old.given ≡ Some name)
    × (new ≡ Some (record old { given = old.given + 1 }))

-- So many bytes were read from the offset on: one at least where there is room and bytes remain.
pub record ReadsFrom (bytes : List ℕ) (at : ℕ) (into : List ℕ) (count : ℕ) : Type 0 where
  pub within : count ≤ length (drop at bytes)
  pub read : take count into ≡ take count (drop at bytes)
  pub some : 0 < length into → 0 < length (drop at bytes) → 0 < count

-- the files that a spool shows
abbrev pub shown_files : SpoolState → Option (List MessageFile)
shown_files s = option_map (λ (folder : Folder). folder.files) s.folder

-- no name was given yet
abbrev pub GaveNoName : SpoolState → Type 0
GaveNoName s = (folder : Folder) → s.folder ≡ Some folder → folder.given ≡ 0
