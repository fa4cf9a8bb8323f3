-- An image that is cut.
use Rattle.std.proofs.Common.{◌≡◌, ℕ, ◌+◌, ◌*◌, ◌/◌, ◌≤◌, List, length, take, refl, sym, ap, subst, ◌∙◌, inl, inr, arith}
use Rattle.std.proofs.lemmas.List.{get_or-take, length-take}
use Rattle.skip_form.specs.declared.header.Header.{Header}
use Rattle.base_bytes.specs.Fields.{part, u64_in}
use Rattle.skip_form.specs.Fields.{pointer_in}
use Rattle.skip_form.specs.Spelling.{header_bytes}
use Rattle.skip_form.proofs.UniqueHeader.{header_bytes-same}
use Rattle.skip_spec.specs.Opens.{Contents, Reads, HasDirty, IsDirty, with_dirty}
use Rattle.skip_spec.specs.Near.{Near, IsImageOf, IsPermittedWrite, MayHold}
use Rattle.skip_spec.proofs.Kept.{free_slot_le, reads_kept}
use Rattle.skip_spec.proofs.Parts.{Agree, part-same}
use Rattle.skip_spec.proofs.Places.{within, places, laid, head_is}
use Rattle.skip_spec.proofs.Unique.{reads_same}

pub take_same : (b c : List ℕ) (n : ℕ) → n ≤ length b → n ≤ length c → Agree b c 0 n → take n b ≡ take n c
unfolding part
take_same b c n in_b in_c agree = part-same b c 0 n (omega arith) (omega arith) agree

module _ (base : List ℕ) (f : Contents) (r : Reads base f) where
  cut_image : (old : List ℕ) (count : ℕ) → IsImageOf base f old → f.header.current_size ≤ count → IsImageOf base f (take count old)
  cut_image old count n enough =
      let long = n.long in
      let len = length-take count old in
      record {
        header = take_same (take count old) old 64 (omega (arith, r.least)) (omega (arith, r.least)) (λ i lo hi. get_or-take count old i 0 (omega (arith, r.least))) ∙ n.header;
        long = omega arith;
        slots = λ at is k free.
            let small : k ≤ 1 = omega (arith, free, free_slot_le f.header.current_size (pointer_in base at 0) (pointer_in base at 1)) in
            let span = within base 64 (places f) f.header.current_size at (laid base f r) (head_is base f r at is).0 in
            subst (λ (bs : List ℕ). MayHold f.header.current_size (pointer_in base at k) (u64_in bs)) (sym (part-same (take count old) old (at + 8 + 8 * k) 8 (omega (arith, span.high)) (omega (arith, span.high)) (λ i lo hi. get_or-take count old i 0 (omega (arith, span.high))))) (n.slots at is k free);
        others = λ i low high fixed. get_or-take count old i 0 (omega arith) ∙ n.others i low high fixed;
      }

  -- a dirty base is an image of itself
  base_image : IsDirty f.header → IsImageOf base f base
  base_image dirty =
      let e : f.header.flags ≡ f.header.flags / 2 * 2 + 1 = omega arith in
      record {
        header = r.header ∙ ap (λ (n : ℕ). header_bytes (record f.header { flags = n })) e;
        long = r.inside;
        slots = λ at is k free. inl refl;
        others = λ i low high fixed. refl;
      }

  -- a dirty file near the base is an image of it
  pub dirty_image : (old : List ℕ) → Near base old → HasDirty old → IsImageOf base f old
  dirty_image old (inl e) d =
      let same = header_bytes-same d.0 f.header d.1 r.fields (sym d.2 ∙ ap (take 64) e ∙ r.header) in
      subst (λ (b : List ℕ). IsImageOf base f b) (sym e) (base_image (subst (λ (h : Header). IsDirty h) same d.3))
  dirty_image old (inr n) d = subst (λ (g : Contents). IsImageOf base g old) (reads_same base n.0 f n.1 r) n.2

  pub image_near : (image : List ℕ) → IsImageOf base f image → Near base image × HasDirty image
  image_near image n = (inr (f, r, n), (with_dirty f.header, (reads_kept base image f r n).fields, n.header, omega arith))

pub cut_near : (base image : List ℕ) (f : Contents) (count : ℕ) → Reads base f → Near base image → HasDirty image → f.header.current_size ≤ count → Near base (take count image) × HasDirty (take count image)
cut_near base image f count r n d enough = image_near base f r (take count image) (cut_image base f r image count (dirty_image base f r image n d) enough)

-- a write from the committed end on
pub append_permitted : (base : List ℕ) (f : Contents) (at : ℕ) (bytes : List ℕ) → Reads base f → f.header.current_size ≤ at → IsPermittedWrite base f at bytes
append_permitted base f at bytes r le = record {
  past_header = omega (arith, r.least);
  others = λ i lo hi lt fixed. absurd (omega arith);
  slots = λ h is n free.
      let small : n ≤ 1 = omega (arith, free, free_slot_le f.header.current_size (pointer_in base h 0) (pointer_in base h 1)) in
      let span = within base 64 (places f) f.header.current_size h (laid base f r) (head_is base f r h is).0 in
      inl (omega (arith, span.high));
}
