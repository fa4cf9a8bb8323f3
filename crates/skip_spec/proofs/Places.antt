-- Where records lie: each start begins a stretch of its own.
use Rattle.std.proofs.Common.{◌≡◌, ℕ, ◌+◌, ◌%◌, ◌≤◌, List, [], ◌∷◌, map, refl, sym, subst, ◌∙◌, inl, inr, arith, ◌⊎◌}
use Rattle.skip_form.specs.declared.head.Kind.TheVariants.{Dummy, Put}
use Rattle.skip_form.specs.Flaws.{head_in}
use Rattle.skip_form.specs.Spelling.{StandsAt}
use Rattle.skip_spec.specs.Records.{HasKind}
use Rattle.skip_spec.specs.Rows.{IsAmong, Rows}
use Rattle.skip_spec.specs.Chain.{Entry, Chain}
use Rattle.skip_spec.specs.Opens.{Contents, Reads}
use Rattle.skip_spec.specs.Near.{heads}
use Rattle.skip_spec.proofs.KindLemmas.{dummy_level, dummy_lengths}

-- the offsets lie as those of records back to back
abbrev pub Laid : List ℕ → ℕ → List ℕ → ℕ → Type 0
Laid b at [] end = at ≡ end
Laid b at (start ∷ starts) end = (start ≡ at) × Laid b (at + (head_in b at).size) starts end

pub laid-rows : (b : List ℕ) (at : ℕ) (starts : List ℕ) (end : ℕ) → Rows b at starts end → Laid b at starts end
laid-rows b at [] end r = r
laid-rows b at (s ∷ ss) end r = (r.0, laid-rows b (at + (head_in b at).size) ss end r.2)

pub laid_le : (b : List ℕ) (at : ℕ) (starts : List ℕ) (end : ℕ) → Laid b at starts end → at ≤ end
laid_le b at [] end l = omega (arith, l)
laid_le b at (s ∷ ss) end l = omega (arith, laid_le b (at + (head_in b at).size) ss end l.1)

-- the stretch of the record at v
pub record Within (b : List ℕ) (from end v : ℕ) : Type 0 where
  pub low : from ≤ v
  pub high : v + (head_in b v).size ≤ end

pub within : (b : List ℕ) (at : ℕ) (starts : List ℕ) (end v : ℕ) → Laid b at starts end → IsAmong starts v → Within b at end v
within b at [] end v l m = absurd m
within b at (s ∷ ss) end v l (inl e) =
    let here : Within b at end at = record { low = omega arith; high = laid_le b (at + (head_in b at).size) ss end l.1 } in
    subst (λ (w : ℕ). Within b at end w) (sym l.0 ∙ e) here
within b at (s ∷ ss) end v l (inr m) =
    let rest = within b (at + (head_in b at).size) ss end v l.1 m in
    record { low = omega (arith, rest.low); high = rest.high }

-- two records are one, or stand apart
abbrev pub Apart : List ℕ → ℕ → ℕ → Type 0
Apart b v w = (v ≡ w) ⊎ ((v + (head_in b v).size ≤ w) ⊎ (w + (head_in b w).size ≤ v))

pub apart : (b : List ℕ) (at : ℕ) (starts : List ℕ) (end v w : ℕ) → Laid b at starts end → IsAmong starts v → IsAmong starts w → Apart b v w
apart b at [] end v w l m n = absurd m
apart b at (s ∷ ss) end v w l (inl e) (inl f) = inl (sym e ∙ f)
apart b at (s ∷ ss) end v w l (inl e) (inr n) =
    let rest = within b (at + (head_in b at).size) ss end w l.1 n in
    subst (λ (x : ℕ). Apart b x w) (sym l.0 ∙ e) (inr (inl rest.low))
apart b at (s ∷ ss) end v w l (inr m) (inl f) =
    let rest = within b (at + (head_in b at).size) ss end v l.1 m in
    subst (λ (x : ℕ). Apart b v x) (sym l.0 ∙ f) (inr (inr rest.low))
apart b at (s ∷ ss) end v w l (inr m) (inr n) = apart b (at + (head_in b at).size) ss end v w l.1 m n

pub aligned : (b : List ℕ) (at : ℕ) (starts : List ℕ) (end v : ℕ) → Laid b at starts end → at % 8 ≡ 0 → IsAmong starts v → v % 8 ≡ 0
aligned b at [] end v l a m = absurd m
aligned b at (s ∷ ss) end v l a (inl e) = subst (λ (w : ℕ). w % 8 ≡ 0) (sym l.0 ∙ e) a
aligned b at (s ∷ ss) end v l a (inr m) = aligned b (at + (head_in b at).size) ss end v l.1 (omega arith) m

-- ---- of a file

-- the dummy and the starts
abbrev pub places : Contents → List ℕ
places f = 64 ∷ f.starts

pub dummy_stands : (b : List ℕ) → StandsAt b 64 (head_in b 64) → HasKind b 64 Dummy
dummy_stands b dummy = dummy.place.1 refl

pub laid_dummy : (b starts : List ℕ) (end : ℕ) → StandsAt b 64 (head_in b 64) → Rows b 336 starts end → Laid b 64 (64 ∷ starts) end
laid_dummy b starts end dummy rows =
    let kind = dummy_stands b dummy in
    let lengths = dummy_lengths (head_in b 64) dummy.head kind in
    let e : 336 ≡ 64 + (head_in b 64).size = omega (arith, dummy_level (head_in b 64) dummy.head kind, lengths) in
    (refl, subst (λ (at : ℕ). Laid b at starts end) e (laid-rows b 336 starts end rows))

pub is_dummy : (b : List ℕ) (f : Contents) → Reads b f → HasKind b 64 Dummy
is_dummy b f r = dummy_stands b r.dummy

pub laid : (b : List ℕ) (f : Contents) → Reads b f → Laid b 64 (places f) f.header.current_size
laid b f r = laid_dummy b f.starts f.header.current_size r.dummy r.rows

pub in_chain : (b : List ℕ) (bound : ℕ) (starts : List ℕ) (at : ℕ) (k : List ℕ) (es : List Entry) (v : ℕ) → Chain b bound starts at k es → IsAmong (map (λ e. e.at) es) v → IsAmong starts v × HasKind b v Put
in_chain b bound starts at k [] v c m = absurd m
in_chain b bound starts at k (e ∷ es) v c (inl is) = subst (λ (w : ℕ). IsAmong starts w × HasKind b w Put) is (c.1.start, c.1.kind)
in_chain b bound starts at k (e ∷ es) v c (inr m) = in_chain b bound starts e.at e.key es v c.3 m

-- a head is a place, and no delete record
pub head_is : (b : List ℕ) (f : Contents) → Reads b f → (v : ℕ) → IsAmong (heads f) v → IsAmong (places f) v × (HasKind b v Dummy ⊎ HasKind b v Put)
head_is b f r v (inl e) = (inl e, inl (subst (λ (w : ℕ). HasKind b w Dummy) e (is_dummy b f r)))
head_is b f r v (inr m) = let c = in_chain b f.header.current_size f.starts 64 [] f.chain v r.chain m in (inr c.0, inr c.1)
