-- What may be read of the live records.
use Rattle.std.proofs.Common.{◌≡◌, ℕ, ◌<◌, ◌≤◌, Bool, true, false, cond, eqb, List, [], ◌∷◌, ◌++◌, length, sym, subst, refl, inl, inr, ◌⊎◌, arith}
use Rattle.std.specs.Prelude.{not, ◌&&◌}
use Rattle.skip_form.specs.declared.head.Kind.TheVariants.{Gone}
use Rattle.skip_form.specs.Fields.{pointer_in}
use Rattle.skip_spec.specs.Rows.{IsAmong}
use Rattle.skip_spec.specs.Successor.{IsSuccessorUnder, pointer_under, is_of}
use Rattle.skip_spec.specs.Chain.{Entry, Chain}
use Rattle.skip_spec.specs.Change.{heads_of, first_at, last_at, last_key}
use Rattle.skip_spec.specs.Live.{Live}
use Rattle.skip_spec.proofs.Kept.{row_at}
use Rattle.skip_spec.proofs.Lists.{among_front, among_back, last_among}
use Rattle.skip_spec.proofs.Lives.{bytes_live}
use Rattle.skip_spec.proofs.Places.{in_chain}
use Rattle.skip_spec.proofs.Pointers.{greatest_is}
use Rattle.skip_lists.proofs.Frames.{has_slots}
use Rattle.skip_image.specs.Image.{HasRecord, CanStep, step_cost}
use Rattle.skip_seek.specs.Searches.{IsLive, live_of}
use Rattle.skip_seek.proofs.Walking.{chain_rest}

-- the live records are those of the function
pub live_there : (b : List ℕ) → IsLive b → (starts : List ℕ) × Live b starts (live_of b)
live_there b l = (l.0, subst (λ (es : List Entry). Live b l.0 es) (sym (bytes_live b l.0 l.1 l.2)) l.2)

pub starts_inside : (b : List ℕ) (v : ℕ) → HasRecord b v → v < length b
starts_inside b v is = omega (arith, is.head.size, is.inside)

successor_at : (b : List ℕ) (starts : List ℕ) (at : ℕ) (k : List ℕ) (back : List Entry) → Chain b (length b) starts at k back → IsSuccessorUnder b (length b) starts at (first_at back)
successor_at b starts at k [] ch = ch
successor_at b starts at k (e ∷ es) ch = ch.0

module _ (b starts : List ℕ) (es : List Entry) (live : Live b starts es) where
  pub start_stands : (v : ℕ) → IsAmong starts v → HasRecord b v
  start_stands v m = row_at b 336 starts (length b) v live.listed.log.rows m

  -- the first of the records that are left
  pub first_stands : (front : List Entry) (e : Entry) (back : List Entry) → es ≡ front ++ e ∷ back → HasRecord b e.at
  first_stands front e back split =
      let chain = subst (λ (l : List Entry). Chain b (length b) starts 64 [] l) split live.listed.log.chain in
      start_stands e.at (in_chain b (length b) starts 64 [] (front ++ e ∷ back) e.at chain (among_back front (e ∷ back) e.at (inl refl))).0

  last_head : (front back : List Entry) → es ≡ front ++ back → IsAmong (heads_of es) (last_at 64 front)
  last_head front back split = subst (λ (x : List Entry). IsAmong (heads_of x) (last_at 64 front)) (sym split) (elim (last_among 64 front) [ inl e ↦ inl e | inr m ↦ inr (among_front front back _ m) ])

  -- from the last of the records that were passed one may step
  pub can_step : (front back : List Entry) → es ≡ front ++ back → CanStep b (length b) (last_at 64 front)
  can_step front back split =
      let chain = subst (λ (l : List Entry). Chain b (length b) starts 64 [] l) split live.listed.log.chain in
      let s = successor_at b starts (last_at 64 front) (last_key [] front) back (chain_rest b (length b) starts 64 [] front back chain) in
      let is : pointer_under b (length b) (last_at 64 front) ≡ s.0 = greatest_is (length b) (pointer_in b (last_at 64 front) 0) (pointer_in b (last_at 64 front) 1) s.0 s.1 in
      record {
        slots = has_slots b starts es (length b) live.listed.log (last_at 64 front) (last_head front back split);
        leads = subst (λ (v : ℕ). (v ≡ 0) ⊎ HasRecord b v) (sym is) (elim s.2 [
          | inl z ↦ inl z.0
          | inr there ↦ inr (elim there [ inl put ↦ start_stands s.0 put.0 | inr gone ↦ start_stands s.0 gone.start ])
        ]);
      }

one_or_two : (t : Bool) → ◌≤◌ (cond t 2 1) 2
one_or_two true = omega arith
one_or_two false = omega arith

-- a step to the next live record looks at two records at most
pub two_looks : (b : List ℕ) (bound at : ℕ) → step_cost b bound at ≤ 2
two_looks b bound at = one_or_two (not (eqb (pointer_under b bound at) 0) && is_of b (pointer_under b bound at) Gone)
