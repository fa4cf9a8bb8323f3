-- A first word that names no tool.
use Rattle.std.proofs.Common.{◌≡◌, ◌∙◌, ℕ, Bool, true, false, List, [], ◌∷◌, Some, None, codes, map, slice_get, ap}
use Rattle.std.specs.Str.{bytes_eq}
use Rattle.std.proofs.lemmas.Slice.Eq.{bytes_eq-Decides}
use Rattle.tool_words.specs.JobOf.{job_of, job_of_tool}
use Rattle.tool_words.proofs.ReadingLemmas.{not_true}

different : (a b : List ℕ) → (a ≡ b → ⊥) → bytes_eq a b ≡ false
different a b other = not_true _ (λ same. other ((bytes_eq-Decides a b).0 same))

no_tool : (tool : List ℕ) (words : List (List ℕ)) → (tool ≡ codes "cyr_dbtool" → ⊥) → (tool ≡ codes "cvt_cyrusdb" → ⊥)
    → (tool ≡ codes "reconstruct" → ⊥) → (tool ≡ codes "unexpunge" → ⊥) → (tool ≡ codes "ipurge" → ⊥) → (tool ≡ codes "chk_cyrus" → ⊥)
    → job_of_tool tool words ≡ None
no_tool tool words a b c d e f =
    rw (
      different tool (codes "cyr_dbtool") a,
      different tool (codes "cvt_cyrusdb") b,
      different tool (codes "reconstruct") c,
      different tool (codes "unexpunge") d,
      different tool (codes "ipurge") e,
      different tool (codes "chk_cyrus") f,
    )

pub first_names_no_tool : {X : Type 0} (text : X → List ℕ) (words : List X) (tool : X) → Some tool ≡ slice_get words 0
    → (text tool ≡ codes "cyr_dbtool" → ⊥) → (text tool ≡ codes "cvt_cyrusdb" → ⊥)
    → (text tool ≡ codes "reconstruct" → ⊥) → (text tool ≡ codes "unexpunge" → ⊥)
    → (text tool ≡ codes "ipurge" → ⊥) → (text tool ≡ codes "chk_cyrus" → ⊥)
    → job_of (map text words) ≡ None
first_names_no_tool text [] tool first a b c d e f = cc
first_names_no_tool text (word ∷ words) tool first a b c d e f =
    let same : text word ≡ text tool = cc in
    ap (λ name. job_of_tool name (map text (word ∷ words))) same ∙ no_tool (text tool) (map text (word ∷ words)) a b c d e f
