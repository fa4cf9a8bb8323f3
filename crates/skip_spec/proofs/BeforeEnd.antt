-- The file up to an end has the records that end by then.
use Rattle.std.proofs.Common.{◌≡◌, ◌↔◌, ℕ, ◌+◌, ◌≤◌, List, length, take, sym, ◌∙◌, arith}
use Rattle.std.proofs.lemmas.List.{get_or-take, length-take}
use Rattle.base_bytes.specs.Fields.{AreBytes, part}
use Rattle.base_bytes.proofs.Parts.{AreBytes-part}
use Rattle.skip_form.specs.declared.head.Head.{Head}
use Rattle.skip_form.specs.Flaws.{head_in}
use Rattle.skip_form.specs.Spelling.{StandsAt}
use Rattle.skip_spec.proofs.Parts.{part-same, head_in-same}

pub AreBytes-take : (file : List ℕ) (end : ℕ) → AreBytes file → AreBytes (take end file)
unfolding part
AreBytes-take file end bytes = AreBytes-part file 0 end bytes

module _ (file : List ℕ) (end : ℕ) where
  -- the first eight bytes of a record
  pub same_head : (at : ℕ) → at + 8 ≤ length (take end file) → head_in (take end file) at ≡ head_in file at
  same_head at room =
      let long = length-take end file in
      head_in-same (take end file) file at room (omega arith) (λ i lo hi. get_or-take end file i 0 (omega arith))

  same_opening : (at : ℕ) → at + 8 ≤ length (take end file) → part (take end file) at 8 ≡ part file at 8
  same_opening at room =
      let long = length-take end file in
      part-same (take end file) file at 8 room (omega arith) (λ i lo hi. get_or-take end file i 0 (omega arith))

  pub stands_in : (at : ℕ) (h : Head) → StandsAt (take end file) at h → StandsAt file at h × (at + h.size ≤ end)
  stands_in at h s =
      let long = length-take end file in
      let size = s.head.size in
      let room : at + 8 ≤ length (take end file) = omega (arith, s.inside, size) in
      (record { opening = sym (same_opening at room) ∙ s.opening; head = s.head; place = s.place; inside = omega (arith, s.inside) }, omega (arith, s.inside))

  pub stands_before : (at : ℕ) (h : Head) → end ≤ length file → StandsAt file at h → at + h.size ≤ end → StandsAt (take end file) at h
  stands_before at h inside s fits =
      let long = length-take end file in
      let size = s.head.size in
      let whole : length (take end file) ≡ end = omega arith in
      record { opening = same_opening at (omega (arith, fits, size)) ∙ s.opening; head = s.head; place = s.place; inside = omega (arith, fits) }

pub heads_before : (file : List ℕ) (end at : ℕ) → at + 8 ≤ end → end ≤ length file → head_in (take end file) at ≡ head_in file at
heads_before file end at room inside = same_head file end at (omega (arith, length-take end file))

pub records_before : (file : List ℕ) (end at : ℕ) (h : Head) → end ≤ length file → StandsAt (take end file) at h ↔ (StandsAt file at h × (at + h.size ≤ end))
records_before file end at h inside = (stands_in file end at h, λ both. stands_before file end at h inside both.0 both.1)
