-- The live record that a head leads to.
use Rattle.std.proofs.Common.{◌≡◌, ◌⊎◌, ℕ, List, [], ◌∷◌, sym, subst, inl, inr}
use Rattle.skip_form.specs.Fields.{pointer_in}
use Rattle.skip_spec.specs.Rows.{IsAmong}
use Rattle.skip_spec.specs.Successor.{LeadsTo, IsSuccessorUnder}
use Rattle.skip_spec.specs.Chain.{Entry, Chain}
use Rattle.skip_spec.specs.Change.{heads_of}
use Rattle.skip_spec.specs.Live.{HasLog}
use Rattle.skip_spec.proofs.Kept.{row_at}
use Rattle.skip_spec.proofs.Lists.{ats}
use Rattle.skip_spec.proofs.Pointers.{greatest_is}
use Rattle.skip_lists.proofs.Frames.{has_slots}
use Rattle.skip_image.specs.Image.{HasRecord, CanStep}

-- each head of a list has a successor
chain_next : (file : List ℕ) (bound : ℕ) (starts : List ℕ) (at : ℕ) (key : List ℕ) (es : List Entry) → Chain file bound starts at key es → (v : ℕ) → IsAmong (at ∷ ats es) v → (next : ℕ) × IsSuccessorUnder file bound starts v next
chain_next file bound starts at key [] c v (inl e) = (0, subst (λ (w : ℕ). IsSuccessorUnder file bound starts w 0) e c)
chain_next file bound starts at key [] c v (inr m) = absurd m
chain_next file bound starts at key (e ∷ es) c v (inl is) = (e.at, subst (λ (w : ℕ). IsSuccessorUnder file bound starts w e.at) is c.0)
chain_next file bound starts at key (e ∷ es) c v (inr m) = chain_next file bound starts e.at e.key es c.3 v m

module _ (file starts : List ℕ) (es : List Entry) (end : ℕ) (l : HasLog file starts es end) where
  leads : (pointer next : ℕ) → LeadsTo file starts pointer next → (pointer ≡ 0) ⊎ HasRecord file pointer
  leads pointer next (inl z) = inl z.0
  leads pointer next (inr (inl p)) = inr (row_at file 336 starts end pointer l.rows p.0)
  leads pointer next (inr (inr p)) = inr (row_at file 336 starts end pointer l.rows p.start)

  pub can_step : (v : ℕ) → IsAmong (heads_of es) v → CanStep file end v
  can_step v m =
      let f = (chain_next file end starts 64 [] es l.chain v m).1 in
      let is = greatest_is end (pointer_in file v 0) (pointer_in file v 1) f.0 f.1 in
      record {
        slots = has_slots file starts es end l v m;
        leads = subst (λ (p : ℕ). (p ≡ 0) ⊎ HasRecord file p) (sym is) (leads f.0 (chain_next file end starts 64 [] es l.chain v m).0 f.2);
      }
