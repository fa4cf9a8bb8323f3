-- Bytes in blocks of sixteen.
use Rattle.std.proofs.Common.{◌≡◌, ℕ, zero, suc, ◌+◌, ◌*◌, ◌/◌, ◌%◌, ◌^◌, ◌<◌, List, [], ◌∷◌, ◌++◌, length, map, get_or, take, drop, sym, ap, ◌∙◌, arith, append_assoc, bit_xor}
use Rattle.std.specs.List.{concat, range_with_len}
use Rattle.std.specs.Int.{w128, from_le_bytes, to_le_bytes}
use Rattle.std.specs.Simd.{first_chunks}
use Rattle.std.proofs.lemmas.List.{ext_get_or, drop-drop, take-append-drop, drop_more}
use Rattle.std.proofs.lemmas.List.FromFn.{get_or-map-range_with_len, length-map-range_with_len}
use Rattle.std.proofs.lemmas.Nat.{xor_comm, xor_mod, xor_shr}
use Rattle.check_word.specs.CheckWord.{after_bits, after_bytes}
use Rattle.check_word.proofs.Linear.{after_bytes-append, after_bytes-mixed, after_bytes-taken_apart, taken_apart}

-- sixteen bytes, one by one
listed : (bytes : List ℕ) → length bytes ≡ 16 → bytes ≡ map (λ i. get_or bytes i 0) (range_with_len 0 16)
listed bytes long = ext_get_or 0 bytes (map (λ i. get_or bytes i 0) (range_with_len 0 16)) (long ∙ sym (length-map-range_with_len (λ i. get_or bytes i 0) 0 16))
    (λ i lt. sym (get_or-map-range_with_len (λ i. get_or bytes i 0) 0 16 i i 0 (omega arith) (omega arith)))

-- the bytes of a block, with a register's four bytes in the first four
abbrev pub mixed : ℕ → List ℕ → List ℕ
mixed r bytes = bit_xor (get_or bytes 0 0) (r % 256) ∷ bit_xor (get_or bytes 1 0) (r / 256 % 256) ∷ bit_xor (get_or bytes 2 0) (r / 65536 % 256) ∷ bit_xor (get_or bytes 3 0) (r / 16777216 % 256) ∷ map (λ i. get_or bytes i 0) (range_with_len 4 12)

-- a byte of the mix is a mix of two bytes
mix_byte : (r w k b : ℕ) → w / 2 ^ k % 2 ^ 8 ≡ b → bit_xor r w / 2 ^ k % 2 ^ 8 ≡ bit_xor b (r / 2 ^ k % 2 ^ 8)
mix_byte r w k b e =
    ap (λ (z : ℕ). z % 2 ^ 8) (xor_shr r w k) ∙ xor_mod (r / 2 ^ k) (w / 2 ^ k) 8 ∙ ap (bit_xor (r / 2 ^ k % 2 ^ 8)) e ∙ xor_comm (r / 2 ^ k % 2 ^ 8) b

mix_first : (r w b : ℕ) → w % 2 ^ 8 ≡ b → bit_xor r w % 2 ^ 8 ≡ bit_xor b (r % 2 ^ 8)
mix_first r w b e = xor_mod r w 8 ∙ ap (bit_xor (r % 2 ^ 8)) e ∙ xor_comm (r % 2 ^ 8) b

-- past the register's bytes the mix is the word's byte
mix_rest : (r w k b : ℕ) → r / 2 ^ k ≡ 0 → w / 2 ^ k % 2 ^ 8 ≡ b → bit_xor r w / 2 ^ k % 2 ^ 8 ≡ b
mix_rest r w k b none e = mix_byte r w k b e ∙ ap (λ (z : ℕ). bit_xor b (z % 2 ^ 8)) none ∙ xor_comm b 0

-- the bytes of the mix of a register and the word that a block is
pub mixed-block : (r w : ℕ) (bytes : List ℕ) → r < 2 ^ 32 → ((i : ℕ) → get_or bytes i 0 < 256) → w ≡ from_le_bytes w128 bytes → to_le_bytes w128 (bit_xor r w) ≡ mixed r bytes
mixed-block r w bytes small fits word =
    let f0 : get_or bytes 0 0 < 256 = fits 0 in
    let f1 : get_or bytes 1 0 < 256 = fits 1 in
    let f2 : get_or bytes 2 0 < 256 = fits 2 in
    let f3 : get_or bytes 3 0 < 256 = fits 3 in
    let f4 : get_or bytes 4 0 < 256 = fits 4 in
    let f5 : get_or bytes 5 0 < 256 = fits 5 in
    let f6 : get_or bytes 6 0 < 256 = fits 6 in
    let f7 : get_or bytes 7 0 < 256 = fits 7 in
    let f8 : get_or bytes 8 0 < 256 = fits 8 in
    let f9 : get_or bytes 9 0 < 256 = fits 9 in
    let f10 : get_or bytes 10 0 < 256 = fits 10 in
    let f11 : get_or bytes 11 0 < 256 = fits 11 in
    let f12 : get_or bytes 12 0 < 256 = fits 12 in
    let f13 : get_or bytes 13 0 < 256 = fits 13 in
    let f14 : get_or bytes 14 0 < 256 = fits 14 in
    let f15 : get_or bytes 15 0 < 256 = fits 15 in
    let sum : w ≡ get_or bytes 0 0 + get_or bytes 1 0 * 256 + get_or bytes 2 0 * 65536 + get_or bytes 3 0 * 16777216 + get_or bytes 4 0 * 4294967296 + get_or bytes 5 0 * 1099511627776 + get_or bytes 6 0 * 281474976710656 + get_or bytes 7 0 * 72057594037927936 + get_or bytes 8 0 * 18446744073709551616 + get_or bytes 9 0 * 4722366482869645213696 + get_or bytes 10 0 * 1208925819614629174706176 + get_or bytes 11 0 * 309485009821345068724781056 + get_or bytes 12 0 * 79228162514264337593543950336 + get_or bytes 13 0 * 20282409603651670423947251286016 + get_or bytes 14 0 * 5192296858534827628530496329220096 + get_or bytes 15 0 * 1329227995784915872903807060280344576 = word in
    let e0 = mix_first r w (get_or bytes 0 0) (omega arith) in
    let e1 = mix_byte r w 8 (get_or bytes 1 0) (omega arith) in
    let e2 = mix_byte r w 16 (get_or bytes 2 0) (omega arith) in
    let e3 = mix_byte r w 24 (get_or bytes 3 0) (omega arith) in
    let e4 = mix_rest r w 32 (get_or bytes 4 0) (omega arith) (omega arith) in
    let e5 = mix_rest r w 40 (get_or bytes 5 0) (omega arith) (omega arith) in
    let e6 = mix_rest r w 48 (get_or bytes 6 0) (omega arith) (omega arith) in
    let e7 = mix_rest r w 56 (get_or bytes 7 0) (omega arith) (omega arith) in
    let e8 = mix_rest r w 64 (get_or bytes 8 0) (omega arith) (omega arith) in
    let e9 = mix_rest r w 72 (get_or bytes 9 0) (omega arith) (omega arith) in
    let e10 = mix_rest r w 80 (get_or bytes 10 0) (omega arith) (omega arith) in
    let e11 = mix_rest r w 88 (get_or bytes 11 0) (omega arith) (omega arith) in
    let e12 = mix_rest r w 96 (get_or bytes 12 0) (omega arith) (omega arith) in
    let e13 = mix_rest r w 104 (get_or bytes 13 0) (omega arith) (omega arith) in
    let e14 = mix_rest r w 112 (get_or bytes 14 0) (omega arith) (omega arith) in
    let e15 = mix_rest r w 120 (get_or bytes 15 0) (omega arith) (omega arith) in
    λ i. e0 i ∷ e1 i ∷ e2 i ∷ e3 i ∷ e4 i ∷ e5 i ∷ e6 i ∷ e7 i ∷ e8 i ∷ e9 i ∷ e10 i ∷ e11 i ∷ e12 i ∷ e13 i ∷ e14 i ∷ e15 i ∷ []

-- the other twelve
abbrev pub later : List ℕ → List ℕ
later bytes = map (λ i. get_or bytes i 0) (range_with_len 4 12)

-- what the first four bytes of the mix come to
abbrev pub earlier : ℕ → List ℕ → ℕ
earlier r bytes =
    bit_xor (bit_xor (bit_xor (after_bits 128 (bit_xor (get_or bytes 0 0) (r % 256))) (after_bits 120 (bit_xor (get_or bytes 1 0) (r / 256 % 256)))) (after_bits 112 (bit_xor (get_or bytes 2 0) (r / 65536 % 256)))) (after_bits 104 (bit_xor (get_or bytes 3 0) (r / 16777216 % 256)))

pub after_bytes-block : (r : ℕ) (bytes : List ℕ) → r < 2 ^ 32 → length bytes ≡ 16 → bit_xor (taken_apart 0 (later bytes)) (earlier r bytes) ≡ after_bytes r bytes
after_bytes-block r bytes small long =
    let joined : bit_xor (earlier r bytes) (taken_apart 0 (later bytes)) ≡ taken_apart 0 (mixed r bytes) =
    ap (bit_xor (earlier r bytes)) (sym (after_bytes-taken_apart 0 (later bytes))) ∙ after_bytes-taken_apart (earlier r bytes) (later bytes) in
    xor_comm (taken_apart 0 (later bytes)) (earlier r bytes) ∙ joined
    ∙ sym (after_bytes-taken_apart 0 (mixed r bytes))
    ∙ sym (after_bytes-mixed r (get_or bytes 0 0) (get_or bytes 1 0) (get_or bytes 2 0) (get_or bytes 3 0) (later bytes) small)
    ∙ ap (after_bytes r) (sym (listed bytes long))

-- one block more
pub after_bytes-concat_drop : (r : ℕ) (blocks : List (List ℕ)) (i : ℕ) → i < length blocks → after_bytes (after_bytes r (get_or blocks i [])) (concat (drop (i + 1) blocks)) ≡ after_bytes r (concat (drop i blocks))
after_bytes-concat_drop r blocks i lt =
    sym (after_bytes-append r (get_or blocks i []) (concat (drop (i + 1) blocks)))
    ∙ ap (λ (rest : List (List ℕ)). after_bytes r (concat rest)) (sym (drop_more blocks i [] lt))

-- the blocks and the rest are all the bytes
pub concat-first_chunks : (n count : ℕ) (bytes : List ℕ) → concat (first_chunks n count bytes) ++ drop (count * n) bytes ≡ bytes
concat-first_chunks n zero bytes = ap (λ (k : ℕ). drop k bytes) (let e : zero * n ≡ 0 = omega arith in e)
concat-first_chunks n (suc count) bytes =
    append_assoc (take n bytes) (concat (first_chunks n count (drop n bytes))) (drop (suc count * n) bytes)
    ∙ ap (λ (rest : List ℕ). take n bytes ++ (concat (first_chunks n count (drop n bytes)) ++ rest)) (ap (λ (k : ℕ). drop k bytes) (let e : suc count * n ≡ n + count * n = grind arith in e) ∙ sym (drop-drop (count * n) n bytes))
    ∙ ap (λ (rest : List ℕ). take n bytes ++ rest) (concat-first_chunks n count (drop n bytes))
    ∙ take-append-drop n bytes

pub after_bytes-chunks : (r n count : ℕ) (bytes : List ℕ) → after_bytes (after_bytes r (concat (first_chunks n count bytes))) (drop (count * n) bytes) ≡ after_bytes r bytes
after_bytes-chunks r n count bytes =
    sym (after_bytes-append r (concat (first_chunks n count bytes)) (drop (count * n) bytes)) ∙ ap (after_bytes r) (concat-first_chunks n count bytes)

-- the blocks first, and then the rest
pub after_bytes-parts : (r n count : ℕ) (bytes rest : List ℕ) (blocks : List (List ℕ)) (middle end : ℕ) → blocks ≡ first_chunks n count bytes → rest ≡ drop (count * n) bytes → middle ≡ after_bytes r (concat blocks) → end ≡ after_bytes middle rest → end ≡ after_bytes r bytes
after_bytes-parts r n count bytes rest blocks middle end front back first last =
    last ∙ ap (after_bytes middle) back ∙ ap (λ (z : ℕ). after_bytes z (drop (count * n) bytes)) (first ∙ ap (λ (b : List (List ℕ)). after_bytes r (concat b)) front) ∙ after_bytes-chunks r n count bytes
