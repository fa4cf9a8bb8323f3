-- The messages and the odd names of a folder, by the names that it gives.
use Rattle.std.proofs.Common.{◌≡◌, ◌<◌, ◌≤◌, ◌+◌, ◌^◌, ℕ, suc, Bool, true, false, not, ◌&&◌, List, [], ◌∷◌, ◌++◌, map, length, get_or, Option, Some, None, refl, sym, ap, ◌∙◌, arith}
use Rattle.std.specs.Prelude.{nat_eq, slice_get, is_none, codes, take, if◌then◌else◌, All}
use Rattle.std.specs.Cmp.Lexicographic.{pointwise}
use Rattle.std.specs.Fmt.{decimal}
use Rattle.std.specs.List.{AllByRecursion, cons_option, filter, filter_map, sum_by}
use Rattle.std.specs.List.Sorted.{IsNonDecreasingBy, IsPermutation}
use Rattle.std.specs.Option.{option_and_then}
use Rattle.std.specs.Str.Parse.{AllDigits}
use Rattle.std.proofs.lemmas.Bool.Decides.{nat_tests}
use Rattle.std.proofs.lemmas.Fmt.{decimal_is_IsNumeral, decimal_nonempty}
use Rattle.std.proofs.lemmas.List.{append-nil}
use Rattle.std.proofs.lemmas.List.Elements.{recursion_from_All, filter_map-append}
use Rattle.std.proofs.lemmas.List.Sorted.{sum_by-IsPermutation}
use Rattle.std.proofs.lemmas.List.Sums.{sum_by-append, sum_by-cons}
use Rattle.std.proofs.lemmas.Str.Parse.{digit_at}
use Rattle.base_devices.specs.SpoolCalls.{HasDistinctNames, MessageFile, names_of}
use Rattle.mail_scan.specs.Listing.{IsInOrder, IsOdd, Names, NamesMessage, SortsOut, is_message_name, is_passed_over, number_before_dot, uid_in}
use Rattle.mail_scan.specs.Names.{IsMessageName}
use Rattle.mail_scan.proofs.NameLemmas.{before_dot, both_true, same_text, tells_message, tells_no_other, text_same}
use Rattle.mail_rebuild.specs.Findings.{file_named, message_named}
use Rattle.mail_rebuild.specs.Rebuilt.{is_message, is_odd}
use Rattle.mail_rebuild.proofs.MergeLemmas.{RisesFrom}
use Rattle.mail_rebuild.proofs.PermutationLemmas.{IsPermutation-filter_map}

-- ---- names

first_of : (ds rest : List ℕ) → 0 < length ds → get_or (ds ++ rest) 0 0 ≡ get_or ds 0 0
first_of [] rest some = absurd (omega (arith, some))
first_of (d ∷ ds) rest some = refl

-- a message's name begins with a digit, and a name that is passed over does not
begins_with_digit : (name : List ℕ) (uid : ℕ) → IsMessageName name uid → get_or name 0 0 ≤ 57
begins_with_digit name uid is =
    let small : uid < 2 ^ 64 = omega (arith, is.most) in
    let some : 0 < length (decimal uid) = decimal_nonempty uid small in
    let all : AllDigits 10 (decimal uid) = (decimal_is_IsNumeral uid small).0.1 in
    let last = digit_at (decimal uid) 0 all some in
    let first : get_or name 0 0 ≡ get_or (decimal uid) 0 0 = ap (λ n. get_or n 0 0) is.spelled ∙ first_of (decimal uid) (46 ∷ []) some in
    omega (arith, last, first)

begins_with_letter : (name : List ℕ) → is_passed_over name ≡ true → get_or name 0 0 ≡ 99
begins_with_letter [] is = absurd (cc)
begins_with_letter (byte ∷ name) is =
    let same = (both_true (nat_eq 99 byte) (pointwise nat_eq (codes "yrus.") (take 5 name)) is).0 in
    grind (arith, nat_tests, same)

pub no_own_message : (name : List ℕ) → NamesMessage name → is_passed_over name ≡ false
no_own_message name is = go (is_passed_over name) refl
  where
    go : (b : Bool) → is_passed_over name ≡ b → b ≡ false
    go false e = refl
    go true e = absurd (omega (arith, begins_with_letter name e, begins_with_digit name is.0 is.1))

false_or : (b : Bool) → (b ≡ true → ⊥) → b ≡ false
false_or false none = refl
false_or true none = absurd (none refl)

no_message_own : (name : List ℕ) → is_passed_over name ≡ true → is_message_name name ≡ false
no_message_own name own = false_or (is_message_name name) (λ e.
    omega (arith, begins_with_letter name own, begins_with_digit name (number_before_dot name) (tells_no_other name e)))

no_message_odd : (name : List ℕ) → IsOdd name → is_message_name name ≡ false
no_message_odd name odd = false_or (is_message_name name) (λ e. odd.no_message (number_before_dot name) (tells_no_other name e))

-- ---- the file with a name

pub named_so : (files : List MessageFile) (name : List ℕ) (file : MessageFile) → file_named files name ≡ Some file → file.name ≡ name
named_so [] name file is = absurd (cc)
named_so (f ∷ files) name file is = go (named_so files name file) (pointwise nat_eq f.name name) refl (is)
  where
    go : (file_named files name ≡ Some file → file.name ≡ name) → (b : Bool) → pointwise nat_eq f.name name ≡ b → (if b then Some f else file_named files name) ≡ Some file → file.name ≡ name
    go more true e here = let same : f ≡ file = cc in ap (λ (m : MessageFile). m.name) (sym same) ∙ same_text f.name name e
    go more false e here = more here

-- a file of the name of one, as a test takes it
abbrev pub chosen : (MessageFile → Bool) → Option MessageFile → Option MessageFile
chosen p None = None
chosen p (Some file) = if p file then Some file else None

abbrev pub OtherNames : MessageFile → List MessageFile → Type 0
OtherNames f files = AllByRecursion (λ (g : MessageFile). pointwise nat_eq f.name g.name ≡ false) files

others_named : (f : MessageFile) (files : List MessageFile) → ((k : ℕ) → slice_get (names_of files) k ≡ Some f.name → ⊥) → OtherNames f files
others_named f [] none = tt
others_named f (g ∷ files) none = (
  false_or (pointwise nat_eq f.name g.name) (λ e. none 0 (ap Some (sym (same_text f.name g.name e)))),
  others_named f files (λ k is. none (suc k) is),
)

first_is_other : (f : MessageFile) (files : List MessageFile) → HasDistinctNames (f ∷ files) → OtherNames f files
first_is_other f files distinct = others_named f files (λ k is. let same : 0 ≡ suc k = distinct 0 (suc k) f.name refl is in omega (arith, same))

distinct_rest : (f : MessageFile) (files : List MessageFile) → HasDistinctNames (f ∷ files) → HasDistinctNames files
distinct_rest f files distinct = λ i j name a b. let same : suc i ≡ suc j = distinct (suc i) (suc j) name a b in omega (arith, same)

-- a value found by each name, which is another's than f's
passes_first : {Y : Type 0} (h : List ℕ → Option MessageFile → Option Y) (f : MessageFile) (files some : List MessageFile) → OtherNames f some
    → filter_map (λ name. h name (file_named (f ∷ files) name)) (names_of some) ≡ filter_map (λ name. h name (file_named files name)) (names_of some)
passes_first h f files [] other = refl
passes_first h f files (g ∷ some) other =
    let one : file_named (f ∷ files) g.name ≡ file_named files g.name = rw (other.0) refl in
    λ i. cons_option (h g.name (one i)) (passes_first h f files some other.1 i)

-- a value found by each file's own name is made of that file
pub by_names : {Y : Type 0} (h : List ℕ → Option MessageFile → Option Y) (files : List MessageFile) → HasDistinctNames files
    → filter_map (λ name. h name (file_named files name)) (names_of files) ≡ filter_map (λ (file : MessageFile). h file.name (Some file)) files
by_names h [] distinct = refl
by_names h (f ∷ files) distinct =
    let own : file_named (f ∷ files) f.name ≡ Some f = rw (text_same f.name f.name refl) refl in
    let rest = passes_first h f files files (first_is_other f files distinct) ∙ by_names h files (distinct_rest f files distinct) in
    λ i. cons_option (h f.name (own i)) (rest i)

-- ---- messages

-- the message that a file is
abbrev pub as_message : List ℕ → Option MessageFile → Option MessageFile
as_message name file = option_and_then (λ (f : MessageFile). if is_message f then Some f else None) file

messages_filtered : (files : List MessageFile) → filter_map (λ (file : MessageFile). as_message file.name (Some file)) files ≡ filter is_message files
messages_filtered [] = refl
messages_filtered (f ∷ files) = go (messages_filtered files) (is_message f)
  where
    go : filter_map (λ (file : MessageFile). as_message file.name (Some file)) files ≡ filter is_message files → (b : Bool)
        → cons_option (if b then Some f else None) (filter_map (λ (file : MessageFile). as_message file.name (Some file)) files) ≡ (if b then f ∷ filter is_message files else filter is_message files)
    go others true = ap (λ fs. f ∷ fs) others
    go others false = others

none_named : (files : List MessageFile) (name : List ℕ) → is_message_name name ≡ false → message_named files name ≡ None
none_named files name other = go (file_named files name) refl
  where
    go : (r : Option MessageFile) → file_named files name ≡ r → as_message name r ≡ None
    go None e = refl
    go (Some f) e =
        let not_one : is_message_name f.name ≡ false = rw (named_so files name f e) other in
        rw not_one refl

no_messages : (files : List MessageFile) (names : List (List ℕ)) → AllByRecursion (λ n. is_message_name n ≡ false) names → filter_map (message_named files) names ≡ []
no_messages files [] all = refl
no_messages files (n ∷ names) all = rw (none_named files n all.0) (no_messages files names all.1)

all_weaker : {X : Type 0} (P Q : X → Type 0) → ((x : X) → P x → Q x) → (xs : List X) → AllByRecursion P xs → AllByRecursion Q xs
all_weaker P Q f [] all = tt
all_weaker P Q f (x ∷ xs) all = (f x all.0, all_weaker P Q f xs all.1)

by_each : {X : Type 0} (P Q : X → Type 0) → ((x : X) → P x → Q x) → (xs : List X) → All P xs → AllByRecursion Q xs
by_each P Q f xs all = all_weaker P Q f xs (recursion_from_All P xs all)

pub all_messages : (files : List MessageFile) (names : Names) → HasDistinctNames files → SortsOut (names_of files) names
    → IsPermutation (filter is_message files) (filter_map (message_named files) names.messages)
all_messages files names distinct sorts =
    let all = IsPermutation-filter_map (message_named files) _ _ sorts.all in
    let whole : filter_map (message_named files) (names_of files) ≡ filter is_message files = by_names as_message files distinct ∙ messages_filtered files in
    let odd = no_messages files names.odd (by_each IsOdd (λ n. is_message_name n ≡ false) no_message_odd names.odd sorts.odd) in
    let own = no_messages files sorts.passed_over (by_each (λ n. is_passed_over n ≡ true) (λ n. is_message_name n ≡ false) no_message_own sorts.passed_over sorts.own) in
    let parts : filter_map (message_named files) (names.messages ++ (names.odd ++ sorts.passed_over)) ≡ filter_map (message_named files) names.messages =
    filter_map-append (message_named files) names.messages (names.odd ++ sorts.passed_over)
    ∙ ap (λ fs. filter_map (message_named files) names.messages ++ fs) (filter_map-append (message_named files) names.odd sorts.passed_over ∙ (λ i. odd i ++ own i))
    ∙ append-nil (filter_map (message_named files) names.messages) in
    rw (whole, parts) at all

-- ---- odd names

-- a name whose file is no message
abbrev pub odd_named : List MessageFile → List ℕ → Option (List ℕ)
odd_named files name = if is_none (message_named files name) then Some name else None

-- the name of an odd file
abbrev pub as_odd : List ℕ → Option MessageFile → Option (List ℕ)
as_odd name file = if is_none (as_message name file) && not (is_passed_over name) then Some name else None

odd_filtered : (files : List MessageFile) → filter_map (λ (file : MessageFile). as_odd file.name (Some file)) files ≡ names_of (filter is_odd files)
odd_filtered [] = refl
odd_filtered (f ∷ files) = go (odd_filtered files) (is_message f) (is_passed_over f.name)
  where
    odds : List (List ℕ)
    odds = filter_map (λ (file : MessageFile). as_odd file.name (Some file)) files

    go : odds ≡ names_of (filter is_odd files) → (b c : Bool)
        → cons_option (if is_none (if b then Some f else None) && not c then Some f.name else None) odds ≡ names_of (if not b && not c then f ∷ filter is_odd files else filter is_odd files)
    go others true c = others
    go others false true = others
    go others false false = ap (λ ns. f.name ∷ ns) others

odd_of_messages : (files : List MessageFile) (names : List (List ℕ)) → AllByRecursion NamesMessage names → filter_map (λ name. as_odd name (file_named files name)) names ≡ filter_map (odd_named files) names
odd_of_messages files [] all = refl
odd_of_messages files (n ∷ names) all =
    let own = no_own_message n all.0 in
    let one : as_odd n (file_named files n) ≡ odd_named files n = rw own (go n (is_none (message_named files n))) in
    λ i. cons_option (one i) (odd_of_messages files names all.1 i)
  where
    go : (name : List ℕ) (b : Bool) → (if b && true then Some name else None) ≡ (if b then Some name else None)
    go name true = refl
    go name false = refl

odd_of_odd : (files : List MessageFile) (names : List (List ℕ)) → AllByRecursion IsOdd names → filter_map (λ name. as_odd name (file_named files name)) names ≡ names
odd_of_odd files [] all = refl
odd_of_odd files (n ∷ names) all =
    let one : as_odd n (file_named files n) ≡ Some n = rw (none_named files n (no_message_odd n all.0), all.0.own) refl in
    λ i. cons_option (one i) (odd_of_odd files names all.1 i)

odd_of_own : (files : List MessageFile) (names : List (List ℕ)) → AllByRecursion (λ n. is_passed_over n ≡ true) names → filter_map (λ name. as_odd name (file_named files name)) names ≡ []
odd_of_own files [] all = refl
odd_of_own files (n ∷ names) all =
    let one : as_odd n (file_named files n) ≡ None = rw (all.0) (go n (is_none (message_named files n))) in
    λ i. cons_option (one i) (odd_of_own files names all.1 i)
  where
    go : (name : List ℕ) (b : Bool) → (if b && false then Some name else None) ≡ None
    go name true = refl
    go name false = refl

pub all_odd : (files : List MessageFile) (names : Names) → HasDistinctNames files → SortsOut (names_of files) names
    → IsPermutation (names_of (filter is_odd files)) (filter_map (odd_named files) names.messages ++ names.odd)
all_odd files names distinct sorts =
    let h : List ℕ → Option (List ℕ) = λ name. as_odd name (file_named files name) in
    let all = IsPermutation-filter_map h _ _ sorts.all in
    let whole : filter_map h (names_of files) ≡ names_of (filter is_odd files) = by_names as_odd files distinct ∙ odd_filtered files in
    let messages = odd_of_messages files names.messages (recursion_from_All NamesMessage names.messages sorts.messages) in
    let odd = odd_of_odd files names.odd (recursion_from_All IsOdd names.odd sorts.odd) in
    let own = odd_of_own files sorts.passed_over (recursion_from_All (λ n. is_passed_over n ≡ true) sorts.passed_over sorts.own) in
    let parts : filter_map h (names.messages ++ (names.odd ++ sorts.passed_over)) ≡ filter_map (odd_named files) names.messages ++ names.odd =
    filter_map-append h names.messages (names.odd ++ sorts.passed_over)
    ∙ (λ i. messages i ++ (filter_map-append h names.odd sorts.passed_over ∙ (λ j. odd j ++ own j) ∙ append-nil names.odd) i) in
    rw (whole, parts) at all

-- ---- the uids of messages rise strictly

-- how often a name stands
abbrev pub counted : List ℕ → List ℕ → ℕ
counted name other = if pointwise nat_eq other name then 1 else 0

none_other : (f : MessageFile) (files : List MessageFile) → OtherNames f files → sum_by (counted f.name) (names_of files) ≡ 0
none_other f [] other = refl
none_other f (g ∷ files) other =
    let apart : pointwise nat_eq g.name f.name ≡ false = false_or (pointwise nat_eq g.name f.name) (λ e. absurd (true_is_not (text_same f.name g.name (sym (same_text g.name f.name e))) other.0)) in
    let one : counted f.name g.name ≡ 0 = rw apart refl in
    sum_by-cons (counted f.name) g.name (names_of files) ∙ omega (arith, one, none_other f files other.1)
  where
    true_is_not : {b : Bool} → b ≡ true → b ≡ false → ⊥
    true_is_not yes_ no_ = cc

counted_most : (name other : List ℕ) → counted name other ≤ 1
counted_most name other = go (pointwise nat_eq other name)
  where
    go : (b : Bool) → (if b then 1 else 0) ≤ 1
    go true = omega arith
    go false = omega arith

stands_once : (files : List MessageFile) → HasDistinctNames files → (name : List ℕ) → sum_by (counted name) (names_of files) ≤ 1
stands_once [] distinct name = omega arith
stands_once (f ∷ files) distinct name =
    go (stands_once files (distinct_rest f files distinct) name) (first_is_other f files distinct) (pointwise nat_eq f.name name) refl
  where
    go : sum_by (counted name) (names_of files) ≤ 1 → OtherNames f files → (b : Bool) → pointwise nat_eq f.name name ≡ b → sum_by (counted name) (f.name ∷ names_of files) ≤ 1
    go more other true e =
        let others = none_other f files other in
        let none : sum_by (counted name) (names_of files) ≡ 0 = rw (same_text f.name name e) at others in
        omega (arith, sum_by-cons (counted name) f.name (names_of files), none, counted_most name f.name)
    go more other false e =
        let zero_here : counted name f.name ≡ 0 = rw e refl in
        omega (arith, sum_by-cons (counted name) f.name (names_of files), zero_here, more)

-- names of messages by rising uid, each of which stands once
strictly : (n : ℕ) (names : List (List ℕ)) → (0 < length names → n ≤ uid_in (get_or names 0 [])) → IsNonDecreasingBy uid_in names → AllByRecursion NamesMessage names
    → ((name : List ℕ) → sum_by (counted name) names ≤ 1) → RisesFrom n (map uid_in names)
strictly n [] first order all few = tt
strictly n (x ∷ []) first order all few = (first (omega arith), tt)
strictly n (x ∷ (y ∷ names)) first order all few = (
  first (omega arith),
  strictly (uid_in x + 1) (y ∷ names) (λ some. above) (λ i j d a b. order (suc i) (suc j) d (omega (arith, a)) (omega (arith, b))) all.1
      (λ name. omega (arith, sum_by-cons (counted name) x (y ∷ names), few name)),
)
  where
    uid_of_message : (name : List ℕ) (uid : ℕ) → IsMessageName name uid → uid_in name ≡ uid
    uid_of_message name uid is = rw (tells_message name uid is) (before_dot name uid is)

    apart : uid_in x ≡ uid_in y → ⊥
    apart same =
        let a = all.0 in
        let b = all.1.0 in
        let uids : a.0 ≡ b.0 = sym (uid_of_message x a.0 a.1) ∙ same ∙ uid_of_message y b.0 b.1 in
        let names_same : y ≡ x = b.1.spelled ∙ (λ i. decimal (sym uids i) ++ (46 ∷ [])) ∙ sym a.1.spelled in
        let first_counts : counted x x ≡ 1 = rw (text_same x x refl) refl in
        let second_counts : counted x y ≡ 1 = rw (text_same y x names_same) refl in
        omega (arith, few x, sum_by-cons (counted x) x (y ∷ names), sum_by-cons (counted x) y names, first_counts, second_counts)

    above : uid_in x + 1 ≤ uid_in y
    above =
        let up : uid_in x ≤ uid_in y = order 0 1 [] (omega arith) (omega arith) in
        go (uid_in x) (uid_in y) up apart
      where
        go : (a b : ℕ) → a ≤ b → (a ≡ b → ⊥) → a + 1 ≤ b
        go a b le ne = omega (arith, le, ne)

pub names_rise : (files : List MessageFile) (names : Names) → HasDistinctNames files → SortsOut (names_of files) names → IsInOrder names → RisesFrom 0 (map uid_in names.messages)
names_rise files names distinct sorts order =
    strictly 0 names.messages (λ some. omega arith) order.by_uid (recursion_from_All NamesMessage names.messages sorts.messages)
    (λ name. omega (arith, stands_once files distinct name, sum_by-IsPermutation (counted name) _ _ sorts.all, sum_by-append (counted name) names.messages (names.odd ++ sorts.passed_over)))
