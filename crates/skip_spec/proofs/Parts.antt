-- What a field says depends on its own bytes alone.
use Rattle.std.proofs.Common.{◌≡◌, ℕ, ◌+◌, ◌<◌, ◌≤◌, List, length, get_or, drop, sym, ap, ◌∙◌, arith}
use Rattle.std.proofs.lemmas.List.{get_or-take, get_or-drop, ext_get_or}
use Rattle.base_bytes.specs.Fields.{part, u32_in}
use Rattle.skip_form.specs.Fields.{u16_in}
use Rattle.skip_form.specs.Flaws.{head_in, kind_of}
use Rattle.skip_form.specs.Sizes.{record_size}
use Rattle.base_bytes.proofs.Parts.{length-part}

-- two lists have the same bytes from an offset on
abbrev pub Agree : List ℕ → List ℕ → ℕ → ℕ → Type 0
Agree b c at count = (i : ℕ) → at ≤ i → i < at + count → get_or b i 0 ≡ get_or c i 0

pub get_or-part : (b : List ℕ) (at count i : ℕ) → i < count → get_or (part b at count) i 0 ≡ get_or b (at + i) 0
unfolding part
get_or-part b at count i lt = get_or-take count (drop at b) i 0 lt ∙ get_or-drop at b i 0

pub part-same : (b c : List ℕ) (at count : ℕ) → at + count ≤ length b → at + count ≤ length c → Agree b c at count → part b at count ≡ part c at count
part-same b c at count in_b in_c agree =
    let lb = length-part b at count in_b in
    let lc = length-part c at count in_c in
    ext_get_or 0 (part b at count) (part c at count) (lb ∙ sym lc) (λ i lt.
    let k : i < count = omega (arith, lb) in
    get_or-part b at count i k ∙ agree (at + i) (omega arith) (omega arith) ∙ sym (get_or-part c at count i k))

pub part-moved : (b c : List ℕ) (at from count : ℕ) → at + count ≤ length b → from + count ≤ length c → ((i : ℕ) → i < count → get_or b (at + i) 0 ≡ get_or c (from + i) 0) → part b at count ≡ part c from count
part-moved b c at from count in_b in_c agree =
    let lb = length-part b at count in_b in
    let lc = length-part c from count in_c in
    ext_get_or 0 (part b at count) (part c from count) (lb ∙ sym lc) (λ i lt.
    let k : i < count = omega (arith, lb) in
    get_or-part b at count i k ∙ agree i k ∙ sym (get_or-part c from count i k))

-- a head depends on its first eight bytes
pub head_in-same : (b c : List ℕ) (at : ℕ) → at + 8 ≤ length b → at + 8 ≤ length c → Agree b c at 8 → head_in b at ≡ head_in c at
head_in-same b c at in_b in_c agree =
    let kind = agree at (omega arith) (omega arith) in
    let level = agree (at + 1) (omega arith) (omega arith) in
    let key = ap u16_in (part-same b c (at + 2) 2 (omega arith) (omega arith) (λ i lo hi. agree i (omega arith) (omega arith))) in
    let value = ap u32_in (part-same b c (at + 4) 4 (omega arith) (omega arith) (λ i lo hi. agree i (omega arith) (omega arith))) in
    λ i. record { kind = kind_of (kind i); level = level i; key_len = key i; value_len = value i; size = record_size (level i) (key i) (value i) }
