-- The files of a spool in memory: which has a name, and that no two have the same.
use Rattle.std.proofs.Common.{◌≡◌, ◌⊎◌, inl, inr, ◌↔◌, ℕ, zero, suc, ◌+◌, ◌<◌, ◌≤◌, Bool, true, false, ◌||◌, cond, List, [], ◌∷◌, ◌++◌, Option, Some, None, IsSome, IfSome, nat_eq, length, map, refl, sym, ap, subst, ◌∙◌, arith, rules, find, Contains, get_or, min, take, drop, take_at, length-take, length-append, length-drop}
use Rattle.std.specs.Cmp.Lexicographic.{pointwise}
use Rattle.std.specs.List.{slice_get, list_any}
use Rattle.std.proofs.lemmas.Slice.Eq.{slice_eq-Decides}
use Rattle.std.proofs.lemmas.Bool.Decides.{Decides-eqb}
use Rattle.std.specs.Option.{option_map}
use Rattle.std.proofs.lemmas.List.{map-append}
use Rattle.std.proofs.lemmas.Option.{slice_get_within, get_or_from_slice_get, slice_get-get_or}
use Rattle.base_devices.specs.SpoolCalls.{MessageFile, Folder, ReadsFrom, names_of, HasDistinctNames}
use Rattle.mem_spool.specs.declared.mem_spool.MemFile.{MemFile}
use Rattle.mem_spool.specs.MemFiles.{file_of, files_of, AreDistinct}

-- the name at a place
name_at : (files : List MemFile) (i : ℕ) → slice_get (names_of (files_of files)) i ≡ option_map (λ file. file.name) (slice_get files i)
name_at [] i = refl
name_at (file ∷ files) zero = refl
name_at (file ∷ files) (suc i) = name_at files i

cond_map : {A B : Type 0} (f : A → B) (test : Bool) (x : A) (o : Option A) → cond test (Some (f x)) (option_map f o) ≡ option_map f (cond test (Some x) o)
cond_map f true x o = refl
cond_map f false x o = refl

-- the file with a name
find_file : (name : List ℕ) (files : List MemFile) → find (λ other. pointwise nat_eq other.name name) (files_of files) ≡ option_map file_of (find (λ file. pointwise nat_eq file.name name) files)
find_file name [] = refl
find_file name (file ∷ files) =
    ap (λ o. cond (pointwise nat_eq file.name name) (Some (file_of file)) o) (find_file name files)
    ∙ cond_map file_of (pointwise nat_eq file.name name) file (find (λ other. pointwise nat_eq other.name name) files)

-- the file that is found is the one with the name
pub found_file : (name : List ℕ) (files : List MemFile) (found : MemFile) (file : MessageFile) → Some found ≡ find (λ other. pointwise nat_eq other.name name) files → find (λ other. pointwise nat_eq other.name name) (files_of files) ≡ Some file → file_of found ≡ file
found_file name files found file there is =
    let e : ◌≡◌ {A = Option MessageFile} (Some (file_of found)) (Some file) = ap (option_map file_of) there ∙ sym (find_file name files) ∙ is in
    cc

-- no file has the name
pub no_file : (name : List ℕ) (files : List MemFile) (file : MessageFile) → None ≡ find (λ other. pointwise nat_eq other.name name) files → find (λ other. pointwise nat_eq other.name name) (files_of files) ≡ Some file → ⊥
no_file name files file there is =
    let e : ◌≡◌ {A = Option MessageFile} None (Some file) = ap (option_map file_of) there ∙ sym (find_file name files) ∙ is in
    cc

-- an element behind some others
slice_get_push : (names : List (List ℕ)) (last name : List ℕ) (i : ℕ) → slice_get (names ++ last ∷ []) i ≡ Some name → (slice_get names i ≡ Some name) ⊎ ((i ≡ length names) × (name ≡ last))
slice_get_push [] last name zero is = inr (refl, cc)
slice_get_push [] last name (suc i) is = absurd (cc)
slice_get_push (x ∷ names) last name zero is = inl is
slice_get_push (x ∷ names) last name (suc i) is =
    elim (slice_get_push names last name i is) [ inl e ↦ inl e | inr e ↦ inr (omega (arith, e.0), e.1) ]

contains_at : (names : List (List ℕ)) (name : List ℕ) (i : ℕ) → slice_get names i ≡ Some name → Contains names name
contains_at names name i is = (i, slice_get_within names i name is, get_or_from_slice_get names i name name is)

-- a name that is new stays apart from the others
apart_push : (names : List (List ℕ)) (last : List ℕ) → ((i j : ℕ) (name : List ℕ) → slice_get names i ≡ Some name → slice_get names j ≡ Some name → i ≡ j) → (Contains names last → ⊥) → (i j : ℕ) (name : List ℕ) → slice_get (names ++ last ∷ []) i ≡ Some name → slice_get (names ++ last ∷ []) j ≡ Some name → i ≡ j
apart_push names last apart new i j name at_i at_j =
    elim (slice_get_push names last name i at_i) [
      | inl e ↦ elim (slice_get_push names last name j at_j) [
        | inl f ↦ apart i j name e f
        | inr f ↦ absurd (new (contains_at names last i (e ∙ ap (λ n. Some n) f.1)))
      ]
      | inr e ↦ elim (slice_get_push names last name j at_j) [
        | inl f ↦ absurd (new (contains_at names last j (f ∙ ap (λ n. Some n) e.1)))
        | inr f ↦ e.0 ∙ sym f.0
      ]
    ]

names_push : (files : List MemFile) (file : MemFile) → names_of (files_of (files ++ file ∷ [])) ≡ names_of (files_of files) ++ file.name ∷ []
names_push files file = simp map-append

distinct_push : (files : List MemFile) (file : MemFile) → AreDistinct files → (Contains (names_of (files_of files)) file.name → ⊥) → AreDistinct (files ++ file ∷ [])
distinct_push files file apart new =
    let P : List (List ℕ) → Type 0 = λ names. (i j : ℕ) (name : List ℕ) → slice_get names i ≡ Some name → slice_get names j ≡ Some name → i ≡ j in
    subst P (sym (names_push files file)) (apart_push (names_of (files_of files)) file.name apart new)

-- the same where the file may not have been added
pub distinct_after : (is_added : Bool) (after files : List MemFile) (file : MemFile) (name : List ℕ) → after ≡ cond is_added (files ++ file ∷ []) files → AreDistinct files → file.name ≡ name → (Contains (names_of (files_of files)) name → ⊥) → AreDistinct after
distinct_after true after files file name e apart is new =
    subst AreDistinct (sym e) (distinct_push files file apart (λ there. new (let P : List ℕ → Type 0 = λ n. Contains (names_of (files_of files)) n in subst P is there)))
distinct_after false after files file name e apart is new = subst AreDistinct (sym e) apart

-- the name that is given is that of the file at its place
pub name_there : (files there : List MemFile) (i at : ℕ) (file : MemFile) (name : List ℕ) → there ≡ files → at ≡ i → at < length there → file ≡ get_or there at file → name ≡ file.name → slice_get (names_of (files_of files)) i ≡ Some name
name_there files there i at file name same place within is says =
    rw (says, ← same, ← place) (name_at there at ∙ ap (option_map (λ f. f.name)) (slice_get-get_or there at file within) ∙ ap (λ f. Some f.name) (sym is))

-- one name more was given
pub folder_is : (files old : List MemFile) (given at : ℕ) → files ≡ old → given ≡ at → ◌≡◌ {A = Option Folder} (Some (record { files = files_of files; given = given })) (Some (record { files = files_of old; given = at }))
folder_is files old given at same place = rw (same, place)

-- what is copied from the rest of a file's bytes
pub copied : (bytes rest into written : List ℕ) (at count : ℕ) → rest ≡ drop at bytes → count ≡ min (length rest) (length into) → written ≡ take count rest → ReadsFrom bytes at (written ++ drop count into) count
copied bytes rest into written at count from size is =
    let whole : length written ≡ count = omega (arith, ap length is, length-take count rest) in
    record {
      within = omega (arith, ap length from);
      read = take_at written (drop count into) count whole ∙ is ∙ ap (take count) from;
      some = λ room remain. omega (arith, ap length from, length-append written (drop count into), length-drop count into);
    }

-- the name of a text that is short enough
pub name_of : (name : Option (List ℕ)) (text : List ℕ) → (IsSome name ↔ (length text ≤ 255)) → length text ≤ 255 → IfSome name (λ n. n ≡ text) → name ≡ Some text
name_of None text some short is = let e : ◌≡◌ {A = Bool} false true = some.1 short in absurd (cc)
name_of (Some n) text some short is = ap (λ x. Some x) is

or_cases : (a b : Bool) → (a || b) ≡ true → (a ≡ true) ⊎ (b ≡ true)
or_cases true b h = inl refl
or_cases false b h = inr h

-- some file has the name, as the search for it says
pub named_there : (name : List ℕ) (files : List MemFile) → list_any (λ file. pointwise nat_eq file.name name) files ≡ true → Contains (names_of (files_of files)) name
named_there name [] found = absurd (cc)
named_there name (file ∷ files) found =
    elim (or_cases (pointwise nat_eq file.name name) (list_any (λ other. pointwise nat_eq other.name name) files) found) [
      | inl same ↦ (0, omega arith, (slice_eq-Decides Decides-eqb file.name name (pointwise nat_eq file.name name) refl).0 same)
      | inr rest ↦ let later = named_there name files rest in (suc later.0, omega (arith, later.1), later.2)
    ]

or_true : (a : Bool) → (a || true) ≡ true
or_true true = refl
or_true false = refl

pub there_named : (name : List ℕ) (files : List MemFile) (k : ℕ) → k < length (names_of (files_of files)) → get_or (names_of (files_of files)) k name ≡ name → list_any (λ file. pointwise nat_eq file.name name) files ≡ true
there_named name [] k within is = absurd (omega arith)
there_named name (file ∷ files) zero within is =
    ap (λ b. b || list_any (λ other. pointwise nat_eq other.name name) files) ((slice_eq-Decides Decides-eqb file.name name (pointwise nat_eq file.name name) refl).1 is)
there_named name (file ∷ files) (suc k) within is =
    ap (λ b. pointwise nat_eq file.name name || b) (there_named name files k (omega arith) is) ∙ or_true (pointwise nat_eq file.name name)
