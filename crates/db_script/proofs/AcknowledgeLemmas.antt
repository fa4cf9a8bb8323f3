-- Which replies acknowledge a transaction, by how much is printed.
use Rattle.std.proofs.Common.{◌≡◌, ◌∙◌, ℕ, ◌+◌, ◌-◌, ◌≤◌, ◌<◌, Bool, true, false, List, [], ◌∷◌, ◌++◌, length, refl, ap, arith, length-append, append_assoc, sym}
use Rattle.std.proofs.lemmas.Bool.{leb-true}
use Rattle.std.specs.Prelude.{if◌then◌else◌, leb}
use Rattle.db_script.specs.Moments.{committing}
use Rattle.db_script.specs.Scripts.{Reply, joined, acknowledged}

-- each reply that commits has a byte
abbrev pub AreSpoken : List Reply → Type 0
AreSpoken [] = Unit {0}
AreSpoken (reply ∷ replies) = (reply.commits ≡ true → 0 < length reply.text) × AreSpoken replies

pub committing_more : (replies : List Reply) (reply : Reply) → committing (replies ++ (reply ∷ [])) ≡ committing replies + (if reply.commits then 1 else 0)
unfolding committing
committing_more [] reply = omega arith
committing_more (first ∷ replies) reply = omega (arith, committing_more replies reply)

pub joined_parts : (first more : List Reply) → joined (first ++ more) ≡ joined first ++ joined more
unfolding joined
joined_parts [] more = refl
joined_parts (reply ∷ first) more = ap (λ (l : List ℕ). reply.text ++ l) (joined_parts first more) ∙ sym (append_assoc reply.text (joined first) (joined more))

-- a reply without a byte commits nothing
is_quiet : (commits : Bool) (size : ℕ) → (commits ≡ true → 0 < size) → size ≤ 0 → (if commits then 1 else 0) ≤ 0
is_quiet true size spoken short = absurd (omega (arith, spoken refl, short))
is_quiet false size spoken short = omega arith

-- where nothing is printed no reply counts
none_yet : (replies : List Reply) → AreSpoken replies → acknowledged replies 0 ≡ 0
unfolding acknowledged
none_yet [] spoken = refl
none_yet (reply ∷ replies) spoken = by (leb (length reply.text) 0) refl (none_yet replies spoken.1)
  where
    none : 0 - length reply.text ≡ 0
    none = omega arith

    by : (b : Bool) → leb (length reply.text) 0 ≡ b → acknowledged replies 0 ≡ 0 → (if b then (if reply.commits then 1 else 0) + acknowledged replies (0 - length reply.text) else 0) ≡ 0
    by false is later = refl
    by true is later = omega (arith, is_quiet reply.commits (length reply.text) spoken.0 (leb-true (length reply.text) 0 is), ap (acknowledged replies) none ∙ later)

-- while no more is printed than the first replies, only they count
pub within_first : (first more : List Reply) (printed : ℕ) → AreSpoken more → printed ≤ length (joined first) → acknowledged (first ++ more) printed ≤ committing first
unfolding acknowledged joined committing
within_first [] more printed spoken within =
    let none : printed ≡ 0 = omega (arith, within) in
    omega (arith, ap (acknowledged more) none ∙ none_yet more spoken)
within_first (reply ∷ first) more printed spoken within = by (leb (length reply.text) printed) refl within (λ k. within_first first more k spoken)
  where
    by : (b : Bool) → leb (length reply.text) printed ≡ b → printed ≤ length (reply.text ++ joined first)
        → ((k : ℕ) → k ≤ length (joined first) → acknowledged (first ++ more) k ≤ committing first)
        → (if b then (if reply.commits then 1 else 0) + acknowledged (first ++ more) (printed - length reply.text) else 0) ≤ (if reply.commits then 1 else 0) + committing first
    by false is few later = omega arith
    by true is few later =
        let shorter : printed - length reply.text ≤ length (joined first) = omega (arith, few, length-append reply.text (joined first)) in
        omega (arith, later (printed - length reply.text) shorter)
