use Rattle.std.proofs.Common.{ap, arith, ◌≡◌, ◌∙◌, ℕ, zero, suc, List, [], ◌∷◌, ◌++◌, ◌+◌, ◌-◌, ◌%◌, ◌≤◌, length, take, replicate, refl}
use Rattle.check_word.specs.CheckWord.{check_word}
use Rattle.skip_form.specs.Sizes.{padded}
use Rattle.skip_form.proofs.sizes.tail_check.Goals as goal

zeros : (n : ℕ) → n ≤ 8 → take {A = ℕ} n (0 ∷ 0 ∷ 0 ∷ 0 ∷ 0 ∷ 0 ∷ 0 ∷ 0 ∷ []) ≡ replicate n 0
zeros zero le = refl
zeros (suc zero) le = refl
zeros (suc (suc zero)) le = refl
zeros (suc (suc (suc zero))) le = refl
zeros (suc (suc (suc (suc zero)))) le = refl
zeros (suc (suc (suc (suc (suc zero))))) le = refl
zeros (suc (suc (suc (suc (suc (suc zero)))))) le = refl
zeros (suc (suc (suc (suc (suc (suc (suc zero))))))) le = refl
zeros (suc (suc (suc (suc (suc (suc (suc (suc zero)))))))) le = refl
zeros (suc (suc (suc (suc (suc (suc (suc (suc (suc n))))))))) le = absurd (omega arith)

padding : (k v : ℕ) → (8 - (k % 8 + v % 8) % 8) % 8 ≡ padded (k + v) - (k + v)
padding k v = omega arith

pub returns : goal.returns
returns c =
    let key = c.args.key.now in
    let value = c.args.value.now in
    let pad = (8 - (length key % 8 + length value % 8) % 8) % 8 in
    let z : List ℕ = 0 ∷ 0 ∷ 0 ∷ 0 ∷ 0 ∷ 0 ∷ 0 ∷ 0 ∷ [] in
    c.done.ensures (key ++ value ++ take pad z) (c.add-3.ensures (key ++ value) (c.add-2.ensures key (c.add.ensures [] c.new-word.ensures)))
    ∙ ap (λ (z : List ℕ). check_word (key ++ value ++ z)) (zeros pad (omega arith) ∙ ap (λ (n : ℕ). replicate n 0) (padding (length key) (length value)))
