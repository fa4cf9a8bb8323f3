-- Verification has one answer.
use Rattle.std.proofs.Common.{◌≡◌, ◌≢◌, ℕ, ◌+◌, ◌<◌, ◌≤◌, List, [], ◌∷◌, length, Option, None, refl, sym, ap, subst, ◌∙◌, inl, inr, arith, ◌⊎◌}
use Rattle.std.proofs.lemmas.Bool.{cases_lt}
use Rattle.base_bytes.specs.declared.flaw.Damage.{Damage}
use Rattle.skip_form.specs.Flaws.{head_in}
use Rattle.skip_spec.specs.Chain.{Entry, entry_at}
use Rattle.skip_spec.specs.FirstFlaw.{end_of, row_flaw, next_flaw, successor, latest, RightRows, RightLive, InChain, FromDummy, FromRows, FirstFlaw}

-- ---- rows

-- the rows end here, or the next one has a flaw
abbrev RowsStop : List ℕ → ℕ → Type 0
RowsStop file at = (row_flaw file at ≢ None) ⊎ (at ≡ end_of file)

no_stop : (file : List ℕ) (at from : ℕ) → from ≡ at → RowsStop file at → row_flaw file from ≡ None → from < end_of file → ⊥
no_stop file at from e (inl flaw) none lt = flaw (subst (λ (x : ℕ). row_flaw file x ≡ None) e none)
no_stop file at from e (inr ends) none lt = omega (arith, e, ends, lt)

rows_meet : (file : List ℕ) (from : ℕ) (ss : List ℕ) (at : ℕ) (ts : List ℕ) (bt : ℕ) → RightRows file from ss at → RightRows file from ts bt → RowsStop file at → RowsStop file bt → (ss ≡ ts) × (at ≡ bt)
rows_meet file from [] at [] bt r q a b = (refl, sym r ∙ q)
rows_meet file from [] at (t ∷ ts) bt r q a b = absurd (no_stop file at from r a q.1 q.2)
rows_meet file from (s ∷ ss) at [] bt r q a b = absurd (no_stop file bt from q b r.1 r.2)
rows_meet file from (s ∷ ss) at (t ∷ ts) bt r q a b =
    let rest = rows_meet file (from + (head_in file from).size) ss at ts bt r.3 q.3 a b in
    let first = r.0 ∙ sym q.0 in
    let others = rest.0 in
    (λ i. first i ∷ others i, rest.1)

-- ---- live records

-- the list ends here, or there is a flaw on the way on
abbrev ChainStops : List ℕ → List ℕ → List Entry → Type 0
ChainStops file starts passed = (next_flaw file starts passed ≢ None) ⊎ (successor file (latest passed) ≡ 0)

live_same : (file starts : List ℕ) (p q : List Entry) → RightLive file starts p → RightLive file starts q → length p ≡ length q → p ≡ q
live_same file starts [] [] r s l = refl
live_same file starts [] (e ∷ q) r s l = absurd (omega (arith, l))
live_same file starts (d ∷ p) [] r s l = absurd (omega (arith, l))
live_same file starts (d ∷ p) (e ∷ q) r s l =
    let rest = live_same file starts p q r.3 s.3 (omega (arith, l)) in
    let first = r.2 ∙ ap (λ (x : List Entry). entry_at file (successor file (latest x))) rest ∙ sym s.2 in
    λ i. first i ∷ rest i

live_short : (file starts : List ℕ) (p q : List Entry) → RightLive file starts p → ChainStops file starts p → RightLive file starts q → length q ≤ length p
live_short file starts p [] r stop s = omega arith
live_short file starts p (e ∷ q) r stop s =
    let rest = live_short file starts p q r stop s.3 in
    elim (cases_lt (length q) (length p)) [
      | inl lt ↦ omega arith
      | inr le ↦
          let same = live_same file starts q p s.3 r (omega (arith, rest)) in
          absurd (elim stop [
            | inl flaw ↦ flaw (subst (λ (x : List Entry). next_flaw file starts x ≡ None) same s.0)
            | inr ends ↦ s.1 (ap (λ (x : List Entry). successor file (latest x)) same ∙ ends)
          ])
    ]

stops : (file starts : List ℕ) (answer : Option Damage) (c : InChain file starts answer) → ChainStops file starts c.0
stops file starts answer c = elim c.3 [ inl some ↦ inl (λ e. some (sym c.2 ∙ e)) | inr ends ↦ inr ends ]

chain_one : (file starts : List ℕ) (a b : Option Damage) → InChain file starts a → InChain file starts b → a ≡ b
chain_one file starts a b c d =
    let one = live_short file starts c.0 d.0 c.1 (stops file starts a c) d.1 in
    let two = live_short file starts d.0 c.0 d.1 (stops file starts b d) c.1 in
    let same = live_same file starts c.0 d.0 c.1 d.1 (omega (arith, one, two)) in
    sym c.2 ∙ ap (next_flaw file starts) same ∙ d.2

-- ---- the whole

dummy_one : (file starts : List ℕ) (a b : Option Damage) → FromDummy file starts a → FromDummy file starts b → a ≡ b
dummy_one file starts a b (inl p) (inl q) = sym p.1 ∙ q.1
dummy_one file starts a b (inl p) (inr q) = absurd (p.0 (sym p.1 ∙ q.0))
dummy_one file starts a b (inr p) (inl q) = absurd (q.0 (sym q.1 ∙ p.0))
dummy_one file starts a b (inr p) (inr q) = chain_one file starts a b p.1 q.1

rows_stop : (file : List ℕ) (answer : Option Damage) (c : FromRows file answer) → RowsStop file c.1
rows_stop file answer c = elim c.3 [ inl some ↦ inl (λ e. some.1 (sym some.2 ∙ e)) | inr ends ↦ inr ends.0 ]

rows_one : (file : List ℕ) (a b : Option Damage) → FromRows file a → FromRows file b → a ≡ b
rows_one file a b c d =
    let meet = rows_meet file 336 c.0 c.1 d.0 d.1 c.2 d.2 (rows_stop file a c) (rows_stop file b d) in
    elim c.3 [
      | inl p ↦ elim d.3 [
        | inl q ↦ sym p.2 ∙ ap (row_flaw file) meet.1 ∙ q.2
        | inr q ↦ absurd (omega (arith, p.0, q.0, meet.1))
      ]
      | inr p ↦ elim d.3 [
        | inl q ↦ absurd (omega (arith, q.0, p.0, meet.1))
        | inr q ↦ dummy_one file d.0 a b (subst (λ (ss : List ℕ). FromDummy file ss a) meet.0 p.1) q.1
      ]
    ]

pub first_flaw_one : (file : List ℕ) (a b : Option Damage) → FirstFlaw file a → FirstFlaw file b → a ≡ b
first_flaw_one file a b (inl p) (inl q) = sym p.1 ∙ q.1
first_flaw_one file a b (inl p) (inr q) = absurd (p.0 (sym p.1 ∙ q.0))
first_flaw_one file a b (inr p) (inl q) = absurd (q.0 (sym q.1 ∙ p.0))
first_flaw_one file a b (inr p) (inr q) = rows_one file a b p.1 q.1
