-- The replies of `SHOW`, pair by pair.
use Rattle.std.proofs.Common.{◌≡◌, ◌∙◌, ℕ, true, List, [], ◌∷◌, ◌++◌, sym, ap, refl, append_assoc}
use Rattle.std.proofs.lemmas.List.{append-nil}
use Rattle.std.specs.Prelude.{nat_eq}
use Rattle.std.specs.List.{starts_with}
use Rattle.base_bytes.specs.OrderedMap.{Map, with_prefix}
use Rattle.db_tool.proofs.PrefixLemmas.{Walked, having}
use Rattle.db_script.specs.Replies.{pair_reply, pair_replies}

replies_parts : (m n : Map) → pair_replies (m ++ n) ≡ pair_replies m ++ pair_replies n
replies_parts [] n = refl
replies_parts (p ∷ m) n = ap (λ (l : List ℕ). pair_reply p ++ l) (replies_parts m n) ∙ sym (append_assoc (pair_reply p) (pair_replies m) (pair_replies n))

pub replies_more : (done : Map) (p : List ℕ × List ℕ) → pair_replies (done ++ (p ∷ [])) ≡ pair_replies done ++ pair_reply p
replies_more done p = replies_parts done (p ∷ []) ∙ ap (λ (l : List ℕ). pair_replies done ++ l) (append-nil (pair_reply p))

pub replies_whole : (prefix : List ℕ) (m done : Map) (p : List ℕ × List ℕ) (rest : Map) → Walked prefix m done (p ∷ rest) → starts_with nat_eq p.0 prefix ≡ true
    → (pair_replies done ++ pair_reply p) ++ pair_replies (with_prefix rest prefix) ≡ pair_replies (with_prefix m prefix)
replies_whole prefix m done p rest walked has = sym (
    ap pair_replies walked.all ∙ replies_parts done (with_prefix (p ∷ rest) prefix)
    ∙ ap (λ (l : Map). pair_replies done ++ pair_replies l) (having prefix p rest has)
    ∙ sym (append_assoc (pair_replies done) (pair_reply p) (pair_replies (with_prefix rest prefix))))
