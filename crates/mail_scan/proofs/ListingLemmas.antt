-- Names that are sorted out one after another.
use Rattle.std.proofs.Common.{◌≡◌, ℕ, ◌+◌, ◌<◌, ◌≤◌, true, false, List, [], ◌∷◌, ◌++◌, Option, Some, None, length, map, take, get_or, refl, sym, ap, subst, ◌∙◌, arith, append_assoc}
use Rattle.std.specs.List.{slice_get}
use Rattle.std.specs.Prelude.{All}
use Rattle.std.specs.List.Sorted.{IsNonDecreasing, IsNonDecreasingBy, IsPermutation}
use Rattle.std.proofs.lemmas.List.{get_or-map, length-map, take_more, take_all}
use Rattle.std.proofs.lemmas.List.Elements.{All-push}
use Rattle.std.proofs.lemmas.List.Sorted.{IsPermutation-refl, IsPermutation-trans, IsPermutation-append, IsPermutation-append_left, IsPermutation-append_right, IsPermutation-to_front, All-permutation}
use Rattle.std.proofs.lemmas.Option.{slice_get_within, get_or_from_slice_get}
use Rattle.base_devices.specs.SpoolCalls.{MessageFile, Folder, SpoolState, GivesName, names_of}
use Rattle.mail_scan.specs.Names.{IsMessageName, name_of}
use Rattle.mail_scan.specs.Listing.{is_passed_over, NamesMessage, IsOdd, Names, SortsOut, ListsFolder, GaveTooMany, uid_in}
use Rattle.mail_scan.proofs.NameLemmas.{spelled_uid}

pub no_names : SortsOut [] (record { messages = []; odd = [] })
no_names = record { passed_over = []; all = IsPermutation-refl []; messages = λ k d within. absurd (omega (arith, within)); odd = λ k d within. absurd (omega (arith, within)); own = λ k d within. absurd (omega (arith, within)) }

-- the names of the server's own files
pub passes_over : (given : List (List ℕ)) (name : List ℕ) (names : Names) → SortsOut given names → is_passed_over name ≡ true → SortsOut (given ++ name ∷ []) names
passes_over given name names is own =
    let all = IsPermutation-append_left (name ∷ []) given _ is.all in
    let regroup : (names.messages ++ (names.odd ++ is.passed_over)) ++ name ∷ [] ≡ names.messages ++ (names.odd ++ (is.passed_over ++ name ∷ [])) = simp append_assoc in
    record {
      passed_over = is.passed_over ++ name ∷ [];
      all = subst (IsPermutation (given ++ name ∷ [])) regroup all;
      messages = is.messages;
      odd = is.odd;
      own = All-push (λ n. is_passed_over n ≡ true) is.passed_over name is.own own;
    }

-- a message
pub takes_message : (given : List (List ℕ)) (name : List ℕ) (old new : Names) (uid : ℕ) → SortsOut given old → IsMessageName name uid → new.messages ≡ old.messages ++ name_of uid ∷ [] → new.odd ≡ old.odd → SortsOut (given ++ name ∷ []) new
takes_message given name old new uid is names spelled odd =
    let messages : new.messages ≡ old.messages ++ name ∷ [] = spelled ∙ ap (λ n. old.messages ++ n ∷ []) (sym names.spelled) in
    let rest = old.odd ++ is.passed_over in
    let all = IsPermutation-append_left (name ∷ []) given _ is.all in
    let regroup : (old.messages ++ rest) ++ name ∷ [] ≡ old.messages ++ (rest ++ name ∷ []) = simp append_assoc in
    let moved = IsPermutation-append_right old.messages _ _ (IsPermutation-to_front rest name) in
    let back : old.messages ++ (name ∷ rest) ≡ new.messages ++ (new.odd ++ is.passed_over) = rw (messages, odd) (simp append_assoc) in
    record {
      passed_over = is.passed_over;
      all = subst (IsPermutation (given ++ name ∷ [])) back (IsPermutation-trans _ _ _ (subst (IsPermutation (given ++ name ∷ [])) regroup all) moved);
      messages = rw messages (All-push NamesMessage old.messages name is.messages (uid, names));
      odd = rw odd is.odd;
      own = is.own;
    }

-- an odd name
pub takes_odd : (given : List (List ℕ)) (name : List ℕ) (old new : Names) → SortsOut given old → ((n : ℕ) → IsMessageName name n → ⊥) → is_passed_over name ≡ false → new.messages ≡ old.messages → new.odd ≡ old.odd ++ name ∷ [] → SortsOut (given ++ name ∷ []) new
takes_odd given name old new is none own messages odd =
    let front = old.messages ++ old.odd in
    let all = IsPermutation-append_left (name ∷ []) given _ is.all in
    let regroup : (old.messages ++ (old.odd ++ is.passed_over)) ++ name ∷ [] ≡ front ++ (is.passed_over ++ name ∷ []) = simp append_assoc in
    let moved = IsPermutation-append_right front _ _ (IsPermutation-to_front is.passed_over name) in
    let back : front ++ (name ∷ is.passed_over) ≡ new.messages ++ (new.odd ++ is.passed_over) = rw (messages, odd) (simp append_assoc) in
    record {
      passed_over = is.passed_over;
      all = subst (IsPermutation (given ++ name ∷ [])) back (IsPermutation-trans _ _ _ (subst (IsPermutation (given ++ name ∷ [])) regroup all) moved);
      messages = rw messages is.messages;
      odd = rw odd (All-push IsOdd old.odd name is.odd (record { no_message = none; own = own }));
      own = is.own;
    }

-- names by the uids that they spell
pub names_rise : (uids : List ℕ) → All (λ uid. uid ≤ 4294967295) uids → IsNonDecreasing uids → IsNonDecreasingBy uid_in (map name_of uids)
names_rise uids short rises i j d low within =
    let count = length-map uids name_of in
    let below : j < length uids = omega (arith, count, within) in
    rw (
      get_or-map name_of uids i 0 d (omega (arith, low, below)),
      get_or-map name_of uids j 0 d below,
      spelled_uid (get_or uids i 0) (short i 0 (omega (arith, low, below))),
      spelled_uid (get_or uids j 0) (short j 0 below),
    )
    (rises i j 0 low below)

-- the order of names is another, the names are the same
pub still_sorted_out : (given : List (List ℕ)) (old new : Names) → SortsOut given old → IsPermutation old.messages new.messages → IsPermutation old.odd new.odd → SortsOut given new
still_sorted_out given old new is messages odd = record {
  passed_over = is.passed_over;
  all = IsPermutation-trans _ _ _ is.all (IsPermutation-append _ _ _ _ messages (IsPermutation-append_left is.passed_over _ _ odd));
  messages = All-permutation NamesMessage _ _ messages is.messages;
  odd = All-permutation IsOdd _ _ odd is.odd;
  own = is.own;
}

-- the names given so far, and one more
pub given_more : (names : List (List ℕ)) (given : ℕ) (name : List ℕ) → slice_get names given ≡ Some name → take (given + 1) names ≡ take given names ++ name ∷ []
given_more names given name is =
    take_more names given name (slice_get_within names given name is)
    ∙ ap (λ n. take given names ++ n ∷ []) (get_or_from_slice_get names given name name is)

-- so many names of a folder were given, and they are sorted out
pub record HasGiven (folder : Folder) (given : ℕ) (names : Names) (now : SpoolState) : Type 0 where
  pub within : given ≤ length folder.files
  pub state : now.folder ≡ Some (record folder { given = given })
  pub sorted_out : SortsOut (take given (names_of folder.files)) names

length_names : (files : List MessageFile) → length (names_of files) ≡ length files
length_names [] = refl
length_names (file ∷ files) = omega (arith, length_names files)

-- nothing was given
pub begins : (folder : Folder) (names : Names) (now : SpoolState) → now.folder ≡ Some folder → folder.given ≡ 0 → names ≡ record { messages = []; odd = [] } → HasGiven folder 0 names now
begins folder names now is none empty = record {
  within = omega arith;
  state = is ∙ ap (λ n. Some (record folder { given = n })) none;
  sorted_out = rw empty no_names;
}

-- one name more was given, and is sorted out
pub gives_one : (folder : Folder) (given : ℕ) (old new : Names) (name : List ℕ) (before now : SpoolState) → HasGiven folder given old before → ((f : Folder) → before.folder ≡ Some f → GivesName f (Some name) now.folder) → ((names : List (List ℕ)) → SortsOut names old → SortsOut (names ++ name ∷ []) new) → HasGiven folder (given + 1) new now
gives_one folder given old new name before now had gives added =
    let next = gives (record folder { given = given }) had.state in
    record {
      within = omega (arith, slice_get_within (names_of folder.files) given name next.0, length_names folder.files);
      state = next.1;
      sorted_out = rw (given_more (names_of folder.files) given name next.0) (added _ had.sorted_out);
    }

-- no name is left
pub gave_all : (folder : Folder) (given limit : ℕ) (names : Names) (before : SpoolState) (after : Option Folder) → HasGiven folder given names before → given ≤ limit → ((f : Folder) → before.folder ≡ Some f → GivesName f None after) → ListsFolder folder limit names
gave_all folder given limit names before after had few gives =
    let end = gives (record folder { given = given }) had.state in
    let all : take given (names_of folder.files) ≡ names_of folder.files = take_all given (names_of folder.files) (omega (arith, end.0, length_names folder.files)) in
    record { few = omega (arith, end.0, had.within); sorted_out = rw (← all) had.sorted_out }

-- one name more was given than a folder may have
pub gave_too_many : (folder : Folder) (given limit : ℕ) (names : Names) (name : List ℕ) (before now : SpoolState) → HasGiven folder given names before → given ≡ limit → ((f : Folder) → before.folder ≡ Some f → GivesName f (Some name) now.folder) → GaveTooMany folder now.folder limit
gave_too_many folder given limit names name before now had full gives =
    let next = gives (record folder { given = given }) had.state in
    record {
      more = omega (arith, slice_get_within (names_of folder.files) given name next.0, length_names folder.files);
      given = next.1 ∙ ap (λ n. Some (record folder { given = n + 1 })) full;
    }
