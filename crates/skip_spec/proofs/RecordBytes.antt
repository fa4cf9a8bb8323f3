-- Spelled headers and records are lists of bytes.
use Rattle.std.specs.Prelude.{codes}
use Rattle.std.specs.List.{list_all}
use Rattle.std.proofs.Common.{◌≡◌, ℕ, zero, suc, true, ltb, ◌+◌, ◌-◌, ◌<◌, ◌≤◌, List, [], ◌∷◌, ◌++◌, length, replicate, refl, arith}
use Rattle.std.proofs.lemmas.Bool.{ltb-true}
use Rattle.skip_spec.proofs.Flawless.{and_parts}
use Rattle.std.specs.List.{flat_map}
use Rattle.std.specs.Int.{w16, w32, w64, to_be_bytes}
use Rattle.check_word.specs.CheckWord.{check_word}
use Rattle.base_bytes.specs.Fields.{AreBytes}
use Rattle.skip_form.specs.declared.header.Header.{Header}
use Rattle.skip_form.specs.declared.head.Kind.{Kind}
use Rattle.skip_form.specs.declared.head.Kind.TheVariants.{Dummy, Put, Gone, Commit}
use Rattle.skip_form.specs.Sizes.{padded}
use Rattle.skip_form.specs.Spelling.{Record, head_of, head_bytes, head_front, record_bytes, header_bytes, header_front, body_bytes, opening_bytes, type_byte, magic}
use Rattle.skip_spec.proofs.ByteLists.{bytes-append, bytes-zeros}

pub bytes-2 : (n : ℕ) → AreBytes (to_be_bytes w16 n)
bytes-2 n zero = omega arith
bytes-2 n (suc zero) = omega arith
bytes-2 n (suc (suc i)) = omega arith

pub bytes-4 : (n : ℕ) → AreBytes (to_be_bytes w32 n)
bytes-4 n zero = omega arith
bytes-4 n (suc zero) = omega arith
bytes-4 n (suc (suc zero)) = omega arith
bytes-4 n (suc (suc (suc zero))) = omega arith
bytes-4 n (suc (suc (suc (suc i)))) = omega arith

pub bytes-8 : (n : ℕ) → AreBytes (to_be_bytes w64 n)
bytes-8 n zero = omega arith
bytes-8 n (suc zero) = omega arith
bytes-8 n (suc (suc zero)) = omega arith
bytes-8 n (suc (suc (suc zero))) = omega arith
bytes-8 n (suc (suc (suc (suc zero)))) = omega arith
bytes-8 n (suc (suc (suc (suc (suc zero))))) = omega arith
bytes-8 n (suc (suc (suc (suc (suc (suc zero)))))) = omega arith
bytes-8 n (suc (suc (suc (suc (suc (suc (suc zero))))))) = omega arith
bytes-8 n (suc (suc (suc (suc (suc (suc (suc (suc i)))))))) = omega arith

bytes-cons : (x : ℕ) (xs : List ℕ) → x < 256 → AreBytes xs → AreBytes (x ∷ xs)
bytes-cons x xs lt all zero = lt
bytes-cons x xs lt all (suc i) = all i

bytes-numbers : (ps : List ℕ) → AreBytes (flat_map (to_be_bytes w64) ps)
bytes-numbers [] i = omega arith
bytes-numbers (p ∷ ps) i = bytes-append (to_be_bytes w64 p) (flat_map (to_be_bytes w64) ps) (bytes-8 p) (bytes-numbers ps) i

type_small : (k : Kind) → type_byte k < 256
type_small Dummy = omega arith
type_small Put = omega arith
type_small Gone = omega arith
type_small Commit = omega arith

pub bytes-record : (r : Record) → r.level ≤ 31 → AreBytes r.key → AreBytes r.value → AreBytes (record_bytes r)
unfolding record_bytes head_bytes
bytes-record r level key value =
    let h = head_of r in
    let lengths = bytes-append (to_be_bytes w16 h.key_len) (to_be_bytes w32 h.value_len) (bytes-2 h.key_len) (bytes-4 h.value_len) in
    let count = to_be_bytes w16 h.key_len ++ to_be_bytes w32 h.value_len in
    let opening = bytes-cons (type_byte h.kind) (h.level ∷ count) (type_small h.kind) (bytes-cons h.level count (omega (arith, level)) lengths) in
    let front = bytes-append (opening_bytes h) (flat_map (to_be_bytes w64) r.pointers) opening (bytes-numbers r.pointers) in
    let body = body_bytes r.key r.value in
    let pairs = bytes-append r.key r.value key value in
    let pad = padded (length r.key + length r.value) - (length r.key + length r.value) in
    let whole = bytes-append (r.key ++ r.value) (replicate pad 0) pairs (bytes-zeros pad) in
    bytes-append (head_bytes h r.pointers (check_word body)) body
    (bytes-append (head_front h r.pointers ++ to_be_bytes w32 (check_word (head_front h r.pointers))) (to_be_bytes w32 (check_word body)) (bytes-append (head_front h r.pointers) (to_be_bytes w32 (check_word (head_front h r.pointers))) front (bytes-4 (check_word (head_front h r.pointers)))) (bytes-4 (check_word body)))
    whole

-- each of these numbers is below 256
pub are_bytes : (xs : List ℕ) → list_all (λ x. ltb x 256) xs ≡ true → AreBytes xs
are_bytes [] e i = omega arith
are_bytes (x ∷ xs) e zero = let b = and_parts (ltb x 256) (list_all (λ y. ltb y 256) xs) e in ltb-true x 256 b.0
are_bytes (x ∷ xs) e (suc i) = let b = and_parts (ltb x 256) (list_all (λ y. ltb y 256) xs) e in are_bytes xs b.1 i

pub bytes-header : (h : Header) → AreBytes (header_bytes h)
unfolding header_bytes
bytes-header h =
    let version = bytes-append magic (to_be_bytes w32 h.version) (bytes-append (0xA1 ∷ 0x02 ∷ 0x8B ∷ 0x0D ∷ codes "twoskip file") (replicate 4 0) name (bytes-zeros 4)) (bytes-4 h.version) in
    let generation = bytes-append (magic ++ to_be_bytes w32 h.version) (to_be_bytes w64 h.generation) version (bytes-8 h.generation) in
    let records = bytes-append (magic ++ to_be_bytes w32 h.version ++ to_be_bytes w64 h.generation) (to_be_bytes w64 h.num_records) generation (bytes-8 h.num_records) in
    let repack = bytes-append (magic ++ to_be_bytes w32 h.version ++ to_be_bytes w64 h.generation ++ to_be_bytes w64 h.num_records) (to_be_bytes w64 h.repack_size) records (bytes-8 h.repack_size) in
    let current = bytes-append (magic ++ to_be_bytes w32 h.version ++ to_be_bytes w64 h.generation ++ to_be_bytes w64 h.num_records ++ to_be_bytes w64 h.repack_size) (to_be_bytes w64 h.current_size) repack (bytes-8 h.current_size) in
    let flags = bytes-append (magic ++ to_be_bytes w32 h.version ++ to_be_bytes w64 h.generation ++ to_be_bytes w64 h.num_records ++ to_be_bytes w64 h.repack_size ++ to_be_bytes w64 h.current_size) (to_be_bytes w32 h.flags) current (bytes-4 h.flags) in
    bytes-append (header_front h) (to_be_bytes w32 (check_word (header_front h))) flags (bytes-4 (check_word (header_front h)))
  where
    name : AreBytes (0xA1 ∷ 0x02 ∷ 0x8B ∷ 0x0D ∷ codes "twoskip file")
    name = are_bytes (0xA1 ∷ 0x02 ∷ 0x8B ∷ 0x0D ∷ codes "twoskip file") refl
