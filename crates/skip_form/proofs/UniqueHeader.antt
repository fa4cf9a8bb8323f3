-- Two headers with one spelling are equal.
use Rattle.std.proofs.Common.{◌≡◌, ℕ, ◌^◌, ◌<◌, List, take, drop, refl, sym, ap, ◌∙◌}
use Rattle.std.specs.Int.{w16, w32, w64, to_be_bytes, from_be_bytes}
use Rattle.std.proofs.lemmas.Nat.{from_be_bytes-to_be_bytes_2, from_be_bytes-to_be_bytes_4, from_be_bytes-to_be_bytes_8}
use Rattle.check_word.specs.CheckWord.{check_word}
use Rattle.base_bytes.proofs.Parts.{append_parts}
use Rattle.skip_form.specs.declared.header.Header.{Header}
use Rattle.skip_form.specs.Spelling.{IsHeader, header_bytes, header_front}

pub same_2 : (m n : ℕ) → m < 2 ^ 16 → n < 2 ^ 16 → to_be_bytes w16 m ≡ to_be_bytes w16 n → m ≡ n
same_2 m n hm hn e = sym (from_be_bytes-to_be_bytes_2 m hm) ∙ ap (from_be_bytes w16) e ∙ from_be_bytes-to_be_bytes_2 n hn

pub same_4 : (m n : ℕ) → m < 2 ^ 32 → n < 2 ^ 32 → to_be_bytes w32 m ≡ to_be_bytes w32 n → m ≡ n
same_4 m n hm hn e = sym (from_be_bytes-to_be_bytes_4 m hm) ∙ ap (from_be_bytes w32) e ∙ from_be_bytes-to_be_bytes_4 n hn

pub same_8 : (m n : ℕ) → m < 2 ^ 64 → n < 2 ^ 64 → to_be_bytes w64 m ≡ to_be_bytes w64 n → m ≡ n
same_8 m n hm hn e = sym (from_be_bytes-to_be_bytes_8 m hm) ∙ ap (from_be_bytes w64) e ∙ from_be_bytes-to_be_bytes_8 n hn

pub header_bytes-same : (h k : Header) → IsHeader h → IsHeader k → header_bytes h ≡ header_bytes k → h ≡ k
unfolding header_bytes
header_bytes-same h k fh fk e =
    let front = (append_parts (header_front h) (header_front k) (to_be_bytes w32 (check_word (header_front h))) (to_be_bytes w32 (check_word (header_front k))) refl e).0 in
    let part = λ (at count : ℕ). ap (λ (x : List ℕ). take count (drop at x)) front in
    let version : h.version ≡ k.version = fh.version ∙ sym fk.version in
    let generation = same_8 h.generation k.generation fh.generation fk.generation (part 24 8) in
    let num_records = same_8 h.num_records k.num_records fh.num_records fk.num_records (part 32 8) in
    let repack_size = same_8 h.repack_size k.repack_size fh.repack_size fk.repack_size (part 40 8) in
    let current_size = same_8 h.current_size k.current_size fh.current_size fk.current_size (part 48 8) in
    let flags = same_4 h.flags k.flags fh.flags fk.flags (part 56 4) in
    λ i. record { version = version i; generation = generation i; num_records = num_records i; repack_size = repack_size i; current_size = current_size i; flags = flags i }
