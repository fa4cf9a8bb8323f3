-- Findings by rising uid, and the look-ups in all messages and all usable records.
use Rattle.std.proofs.Common.{◌≡◌, ◌<◌, ◌≤◌, ◌+◌, ℕ, Bool, true, false, ◌&&◌, ◌||◌, List, [], ◌∷◌, ◌++◌, Option, None, Some, refl, sym, ap, ◌∙◌, arith}
use Rattle.std.specs.Prelude.{find, ◌==◌, is_some, if◌then◌else◌}
use Rattle.std.specs.List.{AllByRecursion, cons_option, list_any}
use Rattle.std.specs.Option.{option_to_list}
use Rattle.std.proofs.lemmas.Bool.{eq-eqb, ne_eqb}
use Rattle.base_devices.specs.SpoolCalls.{MessageFile}
use Rattle.index_form.specs.declared.record.IndexRecord.{IndexRecord}
use Rattle.mail_rebuild.specs.Findings.{Finding, Rises, RisesBy, kept_from, messages_in, records_in, uid_from}
use Rattle.mail_rebuild.specs.Rebuilt.{kept, matches, uid_of_file}

abbrev pub finding : Option MessageFile → Option IndexRecord → Finding
finding message old = record { message = message; old = old }

-- each uid is less, or at least so great
abbrev pub Below : {X : Type 0} → (X → ℕ) → ℕ → List X → Type 0
Below uid n xs = AllByRecursion (λ x. uid x < n) xs

abbrev pub From : {X : Type 0} → (X → ℕ) → ℕ → List X → Type 0
From uid n xs = AllByRecursion (λ x. n ≤ uid x) xs

below_more : {X : Type 0} (uid : X → ℕ) (n m : ℕ) (xs : List X) → n ≤ m → Below uid n xs → Below uid m xs
below_more uid n m [] up all = tt
below_more uid n m (x ∷ xs) up all = (omega (arith, up, all.0), below_more uid n m xs up all.1)

below_then : {X : Type 0} (uid : X → ℕ) (n : ℕ) (xs : List X) (o : Option X) → Below uid n xs → Below uid n (option_to_list o) → Below uid n (xs ++ option_to_list o)
below_then uid n [] o all here = here
below_then uid n (x ∷ xs) o all here = (all.0, below_then uid n xs o all.1 here)

from_less : {X : Type 0} (uid : X → ℕ) (n m : ℕ) (xs : List X) → n ≤ m → From uid m xs → From uid n xs
from_less uid n m [] up all = tt
from_less uid n m (x ∷ xs) up all = (omega (arith, up, all.0), from_less uid n m xs up all.1)

-- the messages and the records from n on
messages_from : (n : ℕ) (found : List Finding) → Rises n found → From uid_of_file n (messages_in found)
messages_from n [] rises = tt
messages_from n (f ∷ found) rises = go (λ m. messages_from m found) f.message f.old rises
  where
    go : ((m : ℕ) → Rises m found → From uid_of_file m (messages_in found)) → (message : Option MessageFile) (old : Option IndexRecord) → RisesBy n message old (λ m. Rises m found) → From uid_of_file n (cons_option message (messages_in found))
    go more None None rises = more n rises
    go more None (Some old) rises = from_less uid_of_file n (old.uid + 1) (messages_in found) (omega (arith, rises.0)) (more (old.uid + 1) rises.1)
    go more (Some file) None rises = (rises.0, from_less uid_of_file n (uid_of_file file + 1) (messages_in found) (omega (arith, rises.0)) (more (uid_of_file file + 1) rises.1))
    go more (Some file) (Some old) rises = (rises.0, from_less uid_of_file n (uid_of_file file + 1) (messages_in found) (omega (arith, rises.0)) (more (uid_of_file file + 1) rises.2))

records_from : (n : ℕ) (found : List Finding) → Rises n found → From (λ (r : IndexRecord). r.uid) n (records_in found)
records_from n [] rises = tt
records_from n (f ∷ found) rises = go (λ m. records_from m found) f.message f.old rises
  where
    uid : IndexRecord → ℕ
    uid r = r.uid

    go : ((m : ℕ) → Rises m found → From uid m (records_in found)) → (message : Option MessageFile) (old : Option IndexRecord) → RisesBy n message old (λ m. Rises m found) → From uid n (cons_option old (records_in found))
    go more None None rises = more n rises
    go more None (Some old) rises = (rises.0, from_less uid n (old.uid + 1) (records_in found) (omega (arith, rises.0)) (more (old.uid + 1) rises.1))
    go more (Some file) None rises = from_less uid n (uid_of_file file + 1) (records_in found) (omega (arith, rises.0)) (more (uid_of_file file + 1) rises.1)
    go more (Some file) (Some old) rises = (omega (arith, rises.0, rises.1), from_less uid n (uid_of_file file + 1) (records_in found) (omega (arith, rises.0)) (more (uid_of_file file + 1) rises.2))

-- ---- looking up

-- what passes of one element
abbrev pub passing : {X : Type 0} → (X → Bool) → Option X → Option X
passing p None = None
passing p (Some x) = if p x then Some x else None

abbrev pub passes : {X : Type 0} → (X → Bool) → Option X → Bool
passes p None = false
passes p (Some x) = p x

module _ {X : Type 0} (p : X → Bool) where
  find_none : (xs : List X) → AllByRecursion (λ x. p x ≡ false) xs → find p xs ≡ None
  find_none [] all = refl
  find_none (x ∷ xs) all = rw (all.0) (find_none xs all.1)

  any_none : (xs : List X) → AllByRecursion (λ x. p x ≡ false) xs → list_any p xs ≡ false
  any_none [] all = refl
  any_none (x ∷ xs) all = rw (all.0) (any_none xs all.1)

  pub find_here : (before : List X) (here : Option X) (behind : List X) → AllByRecursion (λ x. p x ≡ false) before → AllByRecursion (λ x. p x ≡ false) behind → find p (before ++ cons_option here behind) ≡ passing p here
  find_here [] None behind none others = find_none behind others
  find_here [] (Some x) behind none others = go (find_none behind others) (p x)
    where
      go : find p behind ≡ None → (b : Bool) → (if b then Some x else find p behind) ≡ (if b then Some x else None)
      go is true = refl
      go is false = is
  find_here (x ∷ before) here behind none others = rw (none.0) (find_here before here behind none.1 others)

  pub any_here : (before : List X) (here : Option X) (behind : List X) → AllByRecursion (λ x. p x ≡ false) before → AllByRecursion (λ x. p x ≡ false) behind → list_any p (before ++ cons_option here behind) ≡ passes p here
  any_here [] None behind none others = any_none behind others
  any_here [] (Some x) behind none others = go (any_none behind others) (p x)
    where
      go : list_any p behind ≡ false → (b : Bool) → (b || list_any p behind) ≡ b
      go is true = refl
      go is false = is
  any_here (x ∷ before) here behind none others = rw (none.0) (any_here before here behind none.1 others)

-- no element below n or behind it has the uid n
module _ {X : Type 0} (uid : X → ℕ) (q : X → Bool) (n : ℕ) where
  pub none_below : (xs : List X) → Below uid n xs → AllByRecursion (λ x. ((uid x == n) && q x) ≡ false) xs
  none_below [] all = tt
  none_below (x ∷ xs) all = (rw (ne_eqb (uid x) n (λ e. omega (arith, e, all.0))) refl, none_below xs all.1)

  pub none_behind : (xs : List X) → From uid (n + 1) xs → AllByRecursion (λ x. ((uid x == n) && q x) ≡ false) xs
  none_behind [] all = tt
  none_behind (x ∷ xs) all = (rw (ne_eqb (uid x) n (λ e. omega (arith, e, all.0))) refl, none_behind xs all.1)

module _ {X : Type 0} (uid : X → ℕ) (n : ℕ) where
  pub other_below : (xs : List X) → Below uid n xs → AllByRecursion (λ x. (uid x == n) ≡ false) xs
  other_below [] all = tt
  other_below (x ∷ xs) all = (ne_eqb (uid x) n (λ e. omega (arith, e, all.0)), other_below xs all.1)

  pub other_behind : (xs : List X) → From uid (n + 1) xs → AllByRecursion (λ x. (uid x == n) ≡ false) xs
  other_behind [] all = tt
  other_behind (x ∷ xs) all = (ne_eqb (uid x) n (λ e. omega (arith, e, all.0)), other_behind xs all.1)

-- ---- what the look-ups give at a finding

pub record IsLookedUp (messages : List MessageFile) (usable : List IndexRecord) (f : Finding) : Type 0 where
  pub kept : (file : MessageFile) → f.message ≡ Some file → kept usable file ≡ kept_from f
  pub has_record : (file : MessageFile) → f.message ≡ Some file → list_any (λ old. old.uid == uid_of_file file) usable ≡ is_some f.old
  pub named : (uid : ℕ) → uid_from f ≡ Some uid → find (λ file. uid_of_file file == uid) messages ≡ f.message
  pub has_message : (old : IndexRecord) → f.old ≡ Some old → list_any (λ file. uid_of_file file == old.uid) messages ≡ is_some f.message

-- what stands before a finding, and what stands behind it
record Around (n : ℕ) (messages behind : List MessageFile) (records later : List IndexRecord) : Type 0 where
  messages_below : Below uid_of_file n messages
  messages_behind : From uid_of_file (n + 1) behind
  records_below : Below (λ (r : IndexRecord). r.uid) n records
  records_behind : From (λ (r : IndexRecord). r.uid) (n + 1) later

some_is : {X : Type 0} (a b : X) → Some a ≡ Some b → a ≡ b
some_is a b same = cc

looks_up : (message : Option MessageFile) (old : Option IndexRecord) (n : ℕ) (messages behind : List MessageFile) (records later : List IndexRecord)
    → ((file : MessageFile) → message ≡ Some file → uid_of_file file ≡ n) → ((r : IndexRecord) → old ≡ Some r → r.uid ≡ n)
    → Around n messages behind records later
    → IsLookedUp (messages ++ cons_option message behind) (records ++ cons_option old later) (finding message old)
looks_up message old n messages behind records later file_uid old_uid around = record {
  kept = λ file is. kept_here file is (file_uid file is) old message refl refl;
  has_record = λ file is. has_here file (file_uid file is) old refl;
  named = λ uid is. named_here uid message old is refl refl;
  has_message = λ r is. message_here r (old_uid r is) message refl;
}
  where
    uid : IndexRecord → ℕ
    uid r = r.uid

    kept_here : (file : MessageFile) → message ≡ Some file → uid_of_file file ≡ n → (o : Option IndexRecord) (m : Option MessageFile) → old ≡ o → message ≡ m → kept (records ++ cons_option o later) file ≡ kept_from (finding m o)
    kept_here file is at None None old_is message_is = absurd (cc)
    kept_here file is at (Some r) None old_is message_is = absurd (cc)
    kept_here file is at None (Some f) old_is message_is =
        find_here (λ (o : IndexRecord). (o.uid == uid_of_file file) && matches file o) records None later
        (none_below uid (matches file) (uid_of_file file) records (rw at around.records_below)) (none_behind uid (matches file) (uid_of_file file) later (rw at around.records_behind))
    kept_here file is at (Some r) (Some f) old_is message_is =
        let same : f ≡ file = some_is f file (sym message_is ∙ is) in
        let own : uid r ≡ uid_of_file file = old_uid r old_is ∙ sym at in
        find_here (λ (o : IndexRecord). (o.uid == uid_of_file file) && matches file o) records (Some r) later
        (none_below uid (matches file) (uid_of_file file) records (rw at around.records_below)) (none_behind uid (matches file) (uid_of_file file) later (rw at around.records_behind))
        ∙ rw (eq-eqb (uid r) (uid_of_file file) own, same) refl

    has_here : (file : MessageFile) → uid_of_file file ≡ n → (o : Option IndexRecord) → old ≡ o → list_any (λ r. r.uid == uid_of_file file) (records ++ cons_option o later) ≡ is_some o
    has_here file at None old_is =
        any_here (λ (r : IndexRecord). r.uid == uid_of_file file) records None later
        (other_below uid (uid_of_file file) records (rw at around.records_below)) (other_behind uid (uid_of_file file) later (rw at around.records_behind))
    has_here file at (Some r) old_is =
        any_here (λ (r : IndexRecord). r.uid == uid_of_file file) records (Some r) later
        (other_below uid (uid_of_file file) records (rw at around.records_below)) (other_behind uid (uid_of_file file) later (rw at around.records_behind))
        ∙ eq-eqb (uid r) (uid_of_file file) (old_uid r old_is ∙ sym at)

    message_here : (r : IndexRecord) → r.uid ≡ n → (m : Option MessageFile) → message ≡ m → list_any (λ file. uid_of_file file == r.uid) (messages ++ cons_option m behind) ≡ is_some m
    message_here r at None message_is =
        any_here (λ file. uid_of_file file == r.uid) messages None behind
        (other_below uid_of_file r.uid messages (rw at around.messages_below)) (other_behind uid_of_file r.uid behind (rw at around.messages_behind))
    message_here r at (Some file) message_is =
        any_here (λ file. uid_of_file file == r.uid) messages (Some file) behind
        (other_below uid_of_file r.uid messages (rw at around.messages_below)) (other_behind uid_of_file r.uid behind (rw at around.messages_behind))
        ∙ eq-eqb (uid_of_file file) r.uid (file_uid file message_is ∙ sym at)

    named_at : (u : ℕ) → u ≡ n → (m : Option MessageFile) → message ≡ m → find (λ file. uid_of_file file == u) (messages ++ cons_option m behind) ≡ m
    named_at u at None message_is =
        find_here (λ file. uid_of_file file == u) messages None behind
        (other_below uid_of_file u messages (rw at around.messages_below)) (other_behind uid_of_file u behind (rw at around.messages_behind))
    named_at u at (Some file) message_is =
        find_here (λ file. uid_of_file file == u) messages (Some file) behind
        (other_below uid_of_file u messages (rw at around.messages_below)) (other_behind uid_of_file u behind (rw at around.messages_behind))
        ∙ rw (eq-eqb (uid_of_file file) u (file_uid file message_is ∙ sym at)) refl

    named_here : (u : ℕ) (m : Option MessageFile) (o : Option IndexRecord) → uid_from (finding m o) ≡ Some u → message ≡ m → old ≡ o → find (λ file. uid_of_file file == u) (messages ++ cons_option m behind) ≡ m
    named_here u None None is message_is old_is = absurd (cc)
    named_here u None (Some r) is message_is old_is = named_at u (sym (some_is (uid r) u is) ∙ old_uid r old_is) None message_is
    named_here u (Some file) o is message_is old_is = named_at u (sym (some_is (uid_of_file file) u is) ∙ file_uid file message_is) (Some file) message_is

-- ---- at each finding

joined : {X : Type 0} (before : List X) (here : Option X) (behind : List X) → (before ++ option_to_list here) ++ behind ≡ before ++ cons_option here behind
joined [] None behind = refl
joined [] (Some x) behind = refl
joined (x ∷ before) here behind = ap (λ xs. x ∷ xs) (joined before here behind)

pub all_looked_up : (n : ℕ) (messages : List MessageFile) (records : List IndexRecord) (found : List Finding) → Below uid_of_file n messages → Below (λ (r : IndexRecord). r.uid) n records → Rises n found
    → AllByRecursion (IsLookedUp (messages ++ messages_in found) (records ++ records_in found)) found
all_looked_up n messages records [] files_below records_below rises = tt
all_looked_up n messages records (f ∷ found) files_below records_below rises =
    go f.message f.old rises (λ m pm pu. all_looked_up m pm pu found) (λ m. messages_from m found) (λ m. records_from m found)
  where
    uid : IndexRecord → ℕ
    uid r = r.uid

    ms : Option MessageFile → List MessageFile
    ms message = messages ++ cons_option message (messages_in found)

    rs : Option IndexRecord → List IndexRecord
    rs old = records ++ cons_option old (records_in found)

    others : (message : Option MessageFile) (old : Option IndexRecord) → AllByRecursion (IsLookedUp ((messages ++ option_to_list message) ++ messages_in found) ((records ++ option_to_list old) ++ records_in found)) found → AllByRecursion (IsLookedUp (ms message) (rs old)) found
    others message old all = rw (joined messages message (messages_in found), joined records old (records_in found)) at all

    go : (message : Option MessageFile) (old : Option IndexRecord) → RisesBy n message old (λ m. Rises m found)
        → ((m : ℕ) (pm : List MessageFile) (pu : List IndexRecord) → Below uid_of_file m pm → Below uid m pu → Rises m found → AllByRecursion (IsLookedUp (pm ++ messages_in found) (pu ++ records_in found)) found)
        → ((m : ℕ) → Rises m found → From uid_of_file m (messages_in found))
        → ((m : ℕ) → Rises m found → From uid m (records_in found))
        → IsLookedUp (ms message) (rs old) (finding message old) × AllByRecursion (IsLookedUp (ms message) (rs old)) found
    go None None rises more files_up records_up = (
      record { kept = λ file is. absurd (cc); has_record = λ file is. absurd (cc); named = λ u is. absurd (cc); has_message = λ r is. absurd (cc) },
      more n messages records files_below records_below rises,
    )
    go None (Some old) rises more files_up records_up = (
      looks_up None (Some old) old.uid messages (messages_in found) records (records_in found) (λ file is. absurd (cc)) (λ r is. ap uid (sym (some_is old r is)))
          (record {
            messages_below = below_more uid_of_file n old.uid messages rises.0 files_below;
            messages_behind = files_up (old.uid + 1) rises.1;
            records_below = below_more uid n old.uid records rises.0 records_below;
            records_behind = records_up (old.uid + 1) rises.1;
          }),
      others None (Some old) (more (old.uid + 1) (messages ++ []) (records ++ old ∷ [])
          (below_then uid_of_file (old.uid + 1) messages None (below_more uid_of_file n (old.uid + 1) messages (omega (arith, rises.0)) files_below) tt)
          (below_then uid (old.uid + 1) records (Some old) (below_more uid n (old.uid + 1) records (omega (arith, rises.0)) records_below) (omega arith, tt)) rises.1),
    )
    go (Some file) None rises more files_up records_up = (
      looks_up (Some file) None (uid_of_file file) messages (messages_in found) records (records_in found) (λ other is. ap uid_of_file (sym (some_is file other is))) (λ r is. absurd (cc))
          (record {
            messages_below = below_more uid_of_file n (uid_of_file file) messages rises.0 files_below;
            messages_behind = files_up (uid_of_file file + 1) rises.1;
            records_below = below_more uid n (uid_of_file file) records rises.0 records_below;
            records_behind = records_up (uid_of_file file + 1) rises.1;
          }),
      others (Some file) None (more (uid_of_file file + 1) (messages ++ file ∷ []) (records ++ [])
          (below_then uid_of_file (uid_of_file file + 1) messages (Some file) (below_more uid_of_file n (uid_of_file file + 1) messages (omega (arith, rises.0)) files_below) (omega arith, tt))
          (below_then uid (uid_of_file file + 1) records None (below_more uid n (uid_of_file file + 1) records (omega (arith, rises.0)) records_below) tt) rises.1),
    )
    go (Some file) (Some old) rises more files_up records_up = (
      looks_up (Some file) (Some old) (uid_of_file file) messages (messages_in found) records (records_in found) (λ other is. ap uid_of_file (sym (some_is file other is))) (λ r is. ap uid (sym (some_is old r is)) ∙ rises.1)
          (record {
            messages_below = below_more uid_of_file n (uid_of_file file) messages rises.0 files_below;
            messages_behind = files_up (uid_of_file file + 1) rises.2;
            records_below = below_more uid n (uid_of_file file) records rises.0 records_below;
            records_behind = records_up (uid_of_file file + 1) rises.2;
          }),
      others (Some file) (Some old) (more (uid_of_file file + 1) (messages ++ file ∷ []) (records ++ old ∷ [])
          (below_then uid_of_file (uid_of_file file + 1) messages (Some file) (below_more uid_of_file n (uid_of_file file + 1) messages (omega (arith, rises.0)) files_below) (omega arith, tt))
          (below_then uid (uid_of_file file + 1) records (Some old) (below_more uid n (uid_of_file file + 1) records (omega (arith, rises.0)) records_below) (omega (arith, rises.1), tt)) rises.2),
    )
