-- A file says one thing.
use Rattle.std.proofs.Common.{◌≡◌, ℕ, ◌+◌, ◌≤◌, List, [], ◌∷◌, refl, sym, ap, subst, ◌∙◌, inl, inr, arith}
use Rattle.skip_form.specs.declared.header.Header.{Header}
use Rattle.skip_form.specs.Fields.{pointer_in}
use Rattle.skip_form.specs.Flaws.{head_in}
use Rattle.skip_form.proofs.UniqueHeader.{header_bytes-same}
use Rattle.skip_spec.specs.Records.{key_in, value_in}
use Rattle.skip_spec.specs.Rows.{IsAmong, Rows}
use Rattle.skip_spec.specs.Successor.{IsGreatestUnder, LeadsTo, IsSuccessorUnder}
use Rattle.skip_spec.specs.Chain.{Entry, Chain, StandsAsEntry}
use Rattle.skip_spec.specs.Opens.{Contents, Reads}
use Rattle.skip_spec.proofs.KindLemmas.{put_is_not_gone}
use Rattle.skip_spec.proofs.Places.{Laid, within, laid-rows, laid_le}

pub rows_same : (b : List ℕ) (at : ℕ) (ss ts : List ℕ) (end : ℕ) → Rows b at ss end → Rows b at ts end → ss ≡ ts
rows_same b at [] [] end r q = refl
rows_same b at [] (t ∷ ts) end r q = absurd (omega (arith, r, laid_le b (at + (head_in b at).size) ts end (laid-rows b (at + (head_in b at).size) ts end q.2)))
rows_same b at (s ∷ ss) [] end r q = absurd (omega (arith, q, laid_le b (at + (head_in b at).size) ss end (laid-rows b (at + (head_in b at).size) ss end r.2)))
rows_same b at (s ∷ ss) (t ∷ ts) end r q =
    let head : s ≡ t = r.0 ∙ sym q.0 in
    let tail = rows_same b (at + (head_in b at).size) ss ts end r.2 q.2 in
    λ i. head i ∷ tail i

pub pointer_same : (bound x y v w : ℕ) → IsGreatestUnder bound x y v → IsGreatestUnder bound x y w → v ≡ w
pointer_same bound x y v w p q = grind (arith, p.one_of, q.one_of, p.below, q.below, p.first, p.second, q.first, q.second)

module _ (b : List ℕ) (starts : List ℕ) (end : ℕ) (laid : Laid b 336 starts end) where
  positive : (v : ℕ) → IsAmong starts v → 336 ≤ v
  positive v m = (within b 336 starts end v laid m).low

  leads_same : (v x y : ℕ) → LeadsTo b starts v x → LeadsTo b starts v y → x ≡ y
  leads_same v x y l m = elim l [
    | inl z ↦ elim m [
      | inl w ↦ z.1 ∙ sym w.1
      | inr m ↦ elim m [ inl w ↦ absurd (omega (arith, positive v w.0, z.0)) | inr w ↦ absurd (omega (arith, positive v w.start, z.0)) ]
    ]
    | inr l ↦ elim l [
      | inl p ↦ elim m [
        | inl w ↦ absurd (omega (arith, positive v p.0, w.0))
        | inr m ↦ elim m [ inl w ↦ p.2 ∙ sym w.2 | inr w ↦ absurd (put_is_not_gone (head_in b v).kind p.1 w.kind) ]
      ]
      | inr p ↦ elim m [
        | inl w ↦ absurd (omega (arith, positive v p.start, w.0))
        | inr m ↦ elim m [ inl w ↦ absurd (put_is_not_gone (head_in b v).kind w.1 p.kind) | inr w ↦ sym p.pointer ∙ w.pointer ]
      ]
    ]
  ]

  follows_same : (bound at x y : ℕ) → IsSuccessorUnder b bound starts at x → IsSuccessorUnder b bound starts at y → x ≡ y
  follows_same bound at x y l m =
      let e = pointer_same bound (pointer_in b at 0) (pointer_in b at 1) l.0 m.0 l.1 m.1 in
      leads_same m.0 x y (subst (λ (v : ℕ). LeadsTo b starts v x) e l.2) m.2

  entry_same : (d e : Entry) → StandsAsEntry b starts d → StandsAsEntry b starts e → d.at ≡ e.at → d ≡ e
  entry_same d e p q same =
      let level : d.level ≡ e.level = sym p.level ∙ ap (λ (v : ℕ). (head_in b v).level) same ∙ q.level in
      let key : d.key ≡ e.key = sym p.key ∙ ap (λ (v : ℕ). key_in b v) same ∙ q.key in
      let value : d.value ≡ e.value = sym p.value ∙ ap (λ (v : ℕ). value_in b v) same ∙ q.value in
      λ i. record { at = same i; level = level i; key = key i; value = value i }

  chain_same : (bound at : ℕ) (k : List ℕ) (cs ds : List Entry) → Chain b bound starts at k cs → Chain b bound starts at k ds → cs ≡ ds
  chain_same bound at k [] [] c d = refl
  chain_same bound at k [] (e ∷ es) c d = absurd (omega (arith, follows_same bound at 0 e.at c d.0, positive e.at d.1.start))
  chain_same bound at k (e ∷ es) [] c d = absurd (omega (arith, follows_same bound at e.at 0 c.0 d, positive e.at c.1.start))
  chain_same bound at k (e ∷ es) (h ∷ hs) c d =
      let same = follows_same bound at e.at h.at c.0 d.0 in
      let head = entry_same e h c.1 d.1 same in
      let tail = chain_same bound h.at h.key es hs (subst (λ (x : Entry). Chain b bound starts x.at x.key es) head c.3) d.3 in
      λ i. head i ∷ tail i

pub reads_same : (b : List ℕ) (f g : Contents) → Reads b f → Reads b g → f ≡ g
reads_same b f g p q =
    let header = header_bytes-same f.header g.header p.fields q.fields (sym p.header ∙ q.header) in
    let end : f.header.current_size ≡ g.header.current_size = ap (λ (h : Header). h.current_size) header in
    let starts = rows_same b 336 f.starts g.starts f.header.current_size p.rows (subst (λ (n : ℕ). Rows b 336 g.starts n) (sym end) q.rows) in
    let laid_f = laid-rows b 336 f.starts f.header.current_size p.rows in
    let other : Chain b f.header.current_size f.starts 64 [] g.chain = subst (λ (n : ℕ). Chain b n f.starts 64 [] g.chain) (sym end) (subst (λ (ss : List ℕ). Chain b g.header.current_size ss 64 [] g.chain) (sym starts) q.chain) in
    let chain = chain_same b f.starts f.header.current_size laid_f f.header.current_size 64 [] f.chain g.chain p.chain other in
    λ i. record { header = header i; starts = starts i; chain = chain i }
