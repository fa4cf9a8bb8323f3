-- The register's steps are linear, and what that makes of bytes.
use Rattle.std.proofs.Common.{◌≡◌, ℕ, zero, suc, ◌+◌, ◌*◌, ◌/◌, ◌%◌, ◌^◌, ◌<◌, cond, eqb, List, [], ◌∷◌, ◌++◌, length, refl, sym, ap, ◌∙◌, arith, bit_xor, bit_and}
use lib.Bits.{xor_assoc, xor_zero_r, xor_shifted, xor_self}
use Rattle.std.proofs.Math.Nat.{pow-suc, mul_assoc}
use Rattle.std.proofs.lemmas.Nat.{xor_comm, xor_shr, xor_mod, and_mask}
use Rattle.check_word.specs.CheckWord.{after_bit, after_bits, after_byte, after_bytes}

-- ---- one step

xor_pairs : (x y p : ℕ) → (bit_xor (bit_xor x p) y ≡ bit_xor (bit_xor x y) p) × (bit_xor (bit_xor x p) (bit_xor y p) ≡ bit_xor x y)
xor_pairs x y p =
    let first : bit_xor (bit_xor x p) y ≡ bit_xor (bit_xor x y) p = xor_assoc x p y ∙ ap (bit_xor x) (xor_comm p y) ∙ sym (xor_assoc x y p) in
    (first, sym (xor_assoc (bit_xor x p) y p) ∙ ap (λ z. bit_xor z p) first ∙ xor_assoc (bit_xor x y) p p ∙ ap (bit_xor (bit_xor x y)) (xor_self p) ∙ xor_zero_r (bit_xor x y))

-- the four cases of two lowest bits
bit_parts : (x y p q : ℕ) → p < 2 → q < 2 → cond (eqb (bit_xor p q) 1) (bit_xor (bit_xor x y) 0xEDB88320) (bit_xor x y) ≡ bit_xor (cond (eqb p 1) (bit_xor x 0xEDB88320) x) (cond (eqb q 1) (bit_xor y 0xEDB88320) y)
bit_parts x y zero zero h k = refl
bit_parts x y zero (suc zero) h k = xor_assoc x y 0xEDB88320
bit_parts x y (suc zero) zero h k = sym (xor_pairs x y 0xEDB88320).0
bit_parts x y (suc zero) (suc zero) h k = sym (xor_pairs x y 0xEDB88320).1
bit_parts x y (suc (suc p)) q h k = absurd (omega arith)
bit_parts x y zero (suc (suc q)) h k = absurd (omega arith)
bit_parts x y (suc zero) (suc (suc q)) h k = absurd (omega arith)

after_bit-xor : (a b : ℕ) → after_bit (bit_xor a b) ≡ bit_xor (after_bit a) (after_bit b)
unfolding after_bit
after_bit-xor a b =
    let low : bit_xor a b % 2 ≡ bit_xor (a % 2) (b % 2) = xor_mod a b 1 in
    let high : bit_xor a b / 2 ≡ bit_xor (a / 2) (b / 2) = xor_shr a b 1 in
    rw (low, high) (bit_parts (a / 2) (b / 2) (a % 2) (b % 2) (omega arith) (omega arith))

after_bit-double : (h : ℕ) → after_bit (h * 2) ≡ h
unfolding after_bit
after_bit-double h =
    let low : h * 2 % 2 ≡ 0 = omega arith in
    let high : h * 2 / 2 ≡ h = omega arith in
    rw (low, high) refl

-- ---- several steps

after_bits-xor : (n a b : ℕ) → after_bits n (bit_xor a b) ≡ bit_xor (after_bits n a) (after_bits n b)
unfolding after_bits
after_bits-xor zero a b = refl
after_bits-xor (suc n) a b = ap (after_bits n) (after_bit-xor a b) ∙ after_bits-xor n (after_bit a) (after_bit b)

-- n steps shift out n zeros
after_bits-shifted : (n h : ℕ) → after_bits n (h * 2 ^ n) ≡ h
unfolding after_bits
after_bits-shifted zero h = omega arith
after_bits-shifted (suc n) h =
    let twice : h * 2 ^ suc n ≡ h * 2 ^ n * 2 = rw (pow-suc 2 n) (sym (mul_assoc h (2 ^ n) 2)) in
    ap (after_bits (suc n)) twice ∙ ap (after_bits n) (after_bit-double (h * 2 ^ n)) ∙ after_bits-shifted n h

pub after_bits-add : (m n r : ℕ) → after_bits n (after_bits m r) ≡ after_bits (m + n) r
unfolding after_bits
after_bits-add zero n r = ap (λ k. after_bits k r) (let e : n ≡ zero + n = omega arith in e)
after_bits-add (suc m) n r = after_bits-add m n (after_bit r) ∙ ap (λ k. after_bits k r) (let e : suc (m + n) ≡ suc m + n = omega arith in e)

-- ---- bytes

pub after_bytes-append : (r : ℕ) (xs ys : List ℕ) → after_bytes r (xs ++ ys) ≡ after_bytes (after_bytes r xs) ys
after_bytes-append r [] ys = refl
after_bytes-append r (x ∷ xs) ys = after_bytes-append (after_byte r x) xs ys

-- what the register holds goes in with the next byte by its low eight bits, and the rest moves down
pub after_byte-xor : (r s b : ℕ) → after_byte (bit_xor r s) b ≡ bit_xor (r / 256) (after_byte s (bit_xor b (r % 256)))
unfolding after_byte
after_byte-xor r s b =
    let parts : r ≡ bit_xor (r / 256 * 2 ^ 8) (r % 256) = omega (arith, xor_shifted (r / 256) 8 (r % 256) (omega arith)) in
    let apart = ap (λ (z : ℕ). after_bits 8 (bit_xor (bit_xor z s) b)) parts in
    let inner : bit_xor (bit_xor (r % 256) s) b ≡ bit_xor s (bit_xor b (r % 256)) =
    ap (λ (z : ℕ). bit_xor z b) (xor_comm (r % 256) s) ∙ xor_assoc s (r % 256) b ∙ ap (bit_xor s) (xor_comm (r % 256) b) in
    let join = xor_assoc (bit_xor (r / 256 * 2 ^ 8) (r % 256)) s b ∙ xor_assoc (r / 256 * 2 ^ 8) (r % 256) (bit_xor s b) ∙ ap (bit_xor (r / 256 * 2 ^ 8)) (sym (xor_assoc (r % 256) s b) ∙ inner) in
    apart ∙ ap (after_bits 8) join ∙ after_bits-xor 8 (r / 256 * 2 ^ 8) (bit_xor s (bit_xor b (r % 256)))
    ∙ ap (λ (z : ℕ). bit_xor z (after_bits 8 (bit_xor s (bit_xor b (r % 256))))) (after_bits-shifted 8 (r / 256))

one_byte : (r s b : ℕ) → after_byte (bit_xor r s) b ≡ bit_xor (after_bits 8 r) (after_byte s b)
unfolding after_byte
one_byte r s b = ap (after_bits 8) (xor_assoc r s b) ∙ after_bits-xor 8 r (bit_xor s b)

-- what the register holds moves through n bytes by 8 * n steps
after_bytes-xor : (r s : ℕ) (bytes : List ℕ) → after_bytes (bit_xor r s) bytes ≡ bit_xor (after_bits (8 * length bytes) r) (after_bytes s bytes)
unfolding after_bits
after_bytes-xor r s [] = refl
after_bytes-xor r s (b ∷ bytes) =
    ap (λ (z : ℕ). after_bytes z bytes) (one_byte r s b)
    ∙ after_bytes-xor (after_bits 8 r) (after_byte s b) bytes
    ∙ ap (λ (z : ℕ). bit_xor z (after_bytes (after_byte s b) bytes)) (after_bits-add 8 (8 * length bytes) r ∙ ap (λ (k : ℕ). after_bits k r) (let e : 8 + 8 * length bytes ≡ 8 * length (b ∷ bytes) = omega arith in e))

from_zero : (b : ℕ) → after_byte 0 b ≡ after_bits 8 b
unfolding after_byte
from_zero b = refl

-- each byte moves the register on its own, by its own steps and by those of the bytes after it
abbrev pub taken_apart : ℕ → List ℕ → ℕ
taken_apart sum [] = sum
taken_apart sum (b ∷ bytes) = taken_apart (bit_xor sum (after_bits (8 * (length bytes + 1)) b)) bytes

pub after_bytes-taken_apart : (sum : ℕ) (bytes : List ℕ) → bit_xor sum (after_bytes 0 bytes) ≡ taken_apart sum bytes
after_bytes-taken_apart sum [] = xor_zero_r sum
after_bytes-taken_apart sum (b ∷ bytes) =
    let first : after_bytes 0 (b ∷ bytes) ≡ bit_xor (after_bits (8 * (length bytes + 1)) b) (after_bytes 0 bytes) =
    ap (λ (z : ℕ). after_bytes z bytes) (from_zero b) ∙ ap (λ (z : ℕ). after_bytes z bytes) (sym (xor_zero_r (after_bits 8 b))) ∙ after_bytes-xor (after_bits 8 b) 0 bytes
    ∙ ap (λ (z : ℕ). bit_xor z (after_bytes 0 bytes)) (after_bits-add 8 (8 * length bytes) b ∙ ap (λ (k : ℕ). after_bits k b) (let e : 8 + 8 * length bytes ≡ 8 * (length bytes + 1) = omega arith in e)) in
    ap (bit_xor sum) first ∙ sym (xor_assoc sum (after_bits (8 * (length bytes + 1)) b) (after_bytes 0 bytes))
    ∙ after_bytes-taken_apart (bit_xor sum (after_bits (8 * (length bytes + 1)) b)) bytes

-- a register of 32 bits has gone in after four bytes
pub after_bytes-mixed : (r b0 b1 b2 b3 : ℕ) (bytes : List ℕ) → r < 2 ^ 32 → after_bytes r (b0 ∷ b1 ∷ b2 ∷ b3 ∷ bytes) ≡ after_bytes 0 (bit_xor b0 (r % 256) ∷ bit_xor b1 (r / 256 % 256) ∷ bit_xor b2 (r / 65536 % 256) ∷ bit_xor b3 (r / 16777216 % 256) ∷ bytes)
after_bytes-mixed r b0 b1 b2 b3 bytes lt =
    let s0 = after_byte 0 (bit_xor b0 (r % 256)) in
    let s1 = after_byte s0 (bit_xor b1 (r / 256 % 256)) in
    let s2 = after_byte s1 (bit_xor b2 (r / 65536 % 256)) in
    let s3 = after_byte s2 (bit_xor b3 (r / 16777216 % 256)) in
    let e0 : after_byte r b0 ≡ bit_xor (r / 256) s0 = ap (λ (z : ℕ). after_byte z b0) (sym (xor_zero_r r)) ∙ after_byte-xor r 0 b0 in
    let e1 : after_byte (bit_xor (r / 256) s0) b1 ≡ bit_xor (r / 65536) s1 = after_byte-xor (r / 256) s0 b1 ∙ ap (λ (z : ℕ). bit_xor z s1) (let e : r / 256 / 256 ≡ r / 65536 = omega arith in e) in
    let e2 : after_byte (bit_xor (r / 65536) s1) b2 ≡ bit_xor (r / 16777216) s2 = after_byte-xor (r / 65536) s1 b2 ∙ ap (λ (z : ℕ). bit_xor z s2) (let e : r / 65536 / 256 ≡ r / 16777216 = omega arith in e) in
    let e3 : after_byte (bit_xor (r / 16777216) s2) b3 ≡ s3 = after_byte-xor (r / 16777216) s2 b3 ∙ ap (λ (z : ℕ). bit_xor z s3) (let e : r / 16777216 / 256 ≡ 0 = omega arith in e) in
    ap (λ (z : ℕ). after_bytes z bytes) (ap (λ (z : ℕ). after_byte (after_byte (after_byte z b1) b2) b3) e0 ∙ ap (λ (z : ℕ). after_byte (after_byte z b2) b3) e1 ∙ ap (λ (z : ℕ). after_byte z b3) e2 ∙ e3)

pub after_byte_by_table : (r b : ℕ) → after_byte r b ≡ bit_xor (r / 256) (after_bits 8 (bit_xor (bit_and r 255) b))
after_byte_by_table r b =
    ap (λ (z : ℕ). after_byte z b) (sym (xor_zero_r r)) ∙ after_byte-xor r 0 b
    ∙ ap (bit_xor (r / 256)) (from_zero (bit_xor b (r % 256)) ∙ ap (after_bits 8) (xor_comm b (r % 256) ∙ ap (λ (z : ℕ). bit_xor z b) (sym (and_mask r 8))))
