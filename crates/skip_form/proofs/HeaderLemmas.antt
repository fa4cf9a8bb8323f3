-- What is read as a header is spelled so, and what is spelled so is read.
use Rattle.std.proofs.Common.{◌≡◌, ℕ, ◌^◌, ◌<◌, ◌≤◌, Bool, true, false, not, cond, eqb, List, ◌++◌, length, take, drop, Option, Some, None, refl, sym, ap, subst, ◌∙◌, arith}
use Rattle.std.specs.Prelude.{nat_eq, nat_lt}
use Rattle.std.specs.Cmp.Lexicographic.{pointwise, bytes_decides}
use Rattle.std.specs.Int.{w32, to_be_bytes}
use Rattle.std.proofs.lemmas.Bool.{ltb-false, le-ltb, eqb-true, eq-eqb}
use Rattle.std.proofs.lemmas.List.{length-append, take-append-drop}
use Rattle.std.proofs.lemmas.Nat.{from_be_bytes-to_be_bytes_4, from_be_bytes-to_be_bytes_8}
use Rattle.check_word.specs.CheckWord.{check_word}
use Rattle.check_word.proofs.Bound.{check_word-lt}
use Rattle.base_bytes.specs.declared.flaw.Flaw.{Flaw}
use Rattle.base_bytes.specs.declared.flaw.Flaw.TheVariants.{Short, Magic, Version, Check}
use Rattle.skip_form.specs.declared.header.Header.{Header}
use Rattle.base_bytes.specs.Fields.{part, u32_in, u64_in, AreBytes}
use Rattle.skip_form.specs.Flaws.{header_flaw, header_in}
use Rattle.skip_form.specs.Spelling.{IsHeader, header_bytes, header_front, magic}
use Rattle.base_bytes.proofs.Parts.{AreBytes-part, part-add, to_be_bytes-u32_in, to_be_bytes-u64_in, u32_in-lt, u64_in-lt}
use Rattle.skip_form.proofs.TestLemmas.{passed, not_false}

-- ---- the tests, one by one

pub record Passes (b : List ℕ) : Type 0 where
  pub long : 64 ≤ length b
  pub magic : part b 0 20 ≡ magic
  pub version : u32_in (part b 20 4) ≡ 1
  pub check : u32_in (part b 60 4) ≡ check_word (part b 0 60)

Passes-none : (b : List ℕ) → header_flaw b ≡ None → Passes b
Passes-none b e =
    let long = passed (nat_lt (length b) 64) Short _ e in
    let begins = passed (not (pointwise nat_eq (part b 0 20) magic)) Magic _ long.1 in
    let version = passed (not (eqb (u32_in (part b 20 4)) 1)) Version _ begins.1 in
    let check = passed (not (eqb (u32_in (part b 60 4)) (check_word (part b 0 60)))) Check _ version.1 in
    record {
      long = ltb-false _ _ long.0;
      magic = (bytes_decides (part b 0 20) magic).0 (not_false _ begins.0);
      version = eqb-true _ _ (not_false _ version.0);
      check = eqb-true _ _ (not_false _ check.0);
    }

none-Passes : (b : List ℕ) → Passes b → header_flaw b ≡ None
none-Passes b p =
    step (nat_lt (length b) 64) (pointwise nat_eq (part b 0 20) magic) (eqb (u32_in (part b 20 4)) 1) (eqb (u32_in (part b 60 4)) (check_word (part b 0 60)))
    (le-ltb _ _ p.long) ((bytes_decides (part b 0 20) magic).1 p.magic) (eq-eqb _ _ p.version) (eq-eqb _ _ p.check)
  where
    step : (p q r s : Bool) → p ≡ false → q ≡ true → r ≡ true → s ≡ true → (let e : Option Flaw = cond p (Some Short) (cond (not q) (Some Magic) (cond (not r) (Some Version) (cond (not s) (Some Check) None))) in e) ≡ None
    step false true true true _ _ _ _ = refl
    step true q r s e _ _ _ = absurd cc
    step false false r s _ e _ _ = absurd cc
    step false true false s _ _ e _ = absurd cc
    step false true true false _ _ _ e = absurd cc

-- ---- what is read is spelled so

front_spelled : (b : List ℕ) → AreBytes b → Passes b → header_front (header_in b) ≡ part b 0 60
front_spelled b fits p =
    let within : 64 ≤ length b = p.long in
    let front : part b 0 60 ≡ part b 0 20 ++ part b 20 4 ++ part b 24 8 ++ part b 32 8 ++ part b 40 8 ++ part b 48 8 ++ part b 56 4 =
    part-add b 0 56 4 ∙ ap (λ r. r ++ part b 56 4) (part-add b 0 48 8 ∙ ap (λ r. r ++ part b 48 8) (part-add b 0 40 8 ∙ ap (λ r. r ++ part b 40 8) (part-add b 0 32 8 ∙ ap (λ r. r ++ part b 32 8) (part-add b 0 24 8 ∙ ap (λ r. r ++ part b 24 8) (part-add b 0 20 4))))) in
    let version = sym (to_be_bytes-u32_in b 20 fits (omega arith)) in
    let generation = sym (to_be_bytes-u64_in b 24 fits (omega arith)) in
    let num_records = sym (to_be_bytes-u64_in b 32 fits (omega arith)) in
    let repack_size = sym (to_be_bytes-u64_in b 40 fits (omega arith)) in
    let current_size = sym (to_be_bytes-u64_in b 48 fits (omega arith)) in
    let flags = sym (to_be_bytes-u32_in b 56 fits (omega arith)) in
    sym (front ∙ (λ i. p.magic i ++ version i ++ generation i ++ num_records i ++ repack_size i ++ current_size i ++ flags i))

pub header_bytes-header_in : (b : List ℕ) → AreBytes b → header_flaw b ≡ None → IsHeader (header_in b) × (take 64 b ≡ header_bytes (header_in b))
unfolding header_bytes part
header_bytes-header_in b fits e =
    let p = Passes-none b e in
    let front = front_spelled b fits p in
    let word : to_be_bytes w32 (check_word (header_front (header_in b))) ≡ part b 60 4 =
    ap (λ (x : List ℕ). to_be_bytes w32 (check_word x)) front ∙ ap (to_be_bytes w32) (sym p.check) ∙ to_be_bytes-u32_in b 60 fits (omega (arith, p.long)) in (
      record {
        version = p.version;
        generation = u64_in-lt b 24 fits;
        num_records = u64_in-lt b 32 fits;
        repack_size = u64_in-lt b 40 fits;
        current_size = u64_in-lt b 48 fits;
        flags = u32_in-lt b 56 fits;
      },
      part-add b 0 60 4 ∙ ap (λ (x : List ℕ). x ++ part b 60 4) (sym front) ∙ ap (λ (x : List ℕ). header_front (header_in b) ++ x) (sym word),
    )

-- ---- what is spelled so is read

module _ (h : Header) (rest : List ℕ) (is : IsHeader h) where
  front_again : part (header_bytes h ++ rest) 0 60 ≡ header_front h
  unfolding header_bytes part
  front_again = refl

  magic_again : part (header_bytes h ++ rest) 0 20 ≡ magic
  unfolding header_bytes part
  magic_again = refl

  version_again : u32_in (part (header_bytes h ++ rest) 20 4) ≡ h.version
  unfolding header_bytes part u32_in
  version_again = from_be_bytes-to_be_bytes_4 h.version (omega (arith, is.version))

  generation_again : u64_in (part (header_bytes h ++ rest) 24 8) ≡ h.generation
  unfolding header_bytes part u64_in
  generation_again = from_be_bytes-to_be_bytes_8 h.generation is.generation

  num_records_again : u64_in (part (header_bytes h ++ rest) 32 8) ≡ h.num_records
  unfolding header_bytes part u64_in
  num_records_again = from_be_bytes-to_be_bytes_8 h.num_records is.num_records

  repack_size_again : u64_in (part (header_bytes h ++ rest) 40 8) ≡ h.repack_size
  unfolding header_bytes part u64_in
  repack_size_again = from_be_bytes-to_be_bytes_8 h.repack_size is.repack_size

  current_size_again : u64_in (part (header_bytes h ++ rest) 48 8) ≡ h.current_size
  unfolding header_bytes part u64_in
  current_size_again = from_be_bytes-to_be_bytes_8 h.current_size is.current_size

  flags_again : u32_in (part (header_bytes h ++ rest) 56 4) ≡ h.flags
  unfolding header_bytes part u32_in
  flags_again = from_be_bytes-to_be_bytes_4 h.flags is.flags

  check_again : check_word (header_front h) < 2 ^ 32 → u32_in (part (header_bytes h ++ rest) 60 4) ≡ check_word (part (header_bytes h ++ rest) 0 60)
  unfolding header_bytes part u32_in
  check_again lt = from_be_bytes-to_be_bytes_4 (check_word (header_front h)) lt

  long_again : 64 ≤ length (header_bytes h ++ rest)
  unfolding header_bytes
  long_again = omega (arith, length-append (header_front h ++ to_be_bytes w32 (check_word (header_front h))) rest)

  header_again : AreBytes (header_bytes h ++ rest) → (header_flaw (header_bytes h ++ rest) ≡ None) × (header_in (header_bytes h ++ rest) ≡ h)
  header_again fits =
      let b = header_bytes h ++ rest in
      let lt : check_word (header_front h) < 2 ^ 32 = subst (λ (x : List ℕ). check_word x < 2 ^ 32) front_again (check_word-lt (part b 0 60) (AreBytes-part b 0 60 fits)) in (
        none-Passes b (record { long = long_again; magic = magic_again; version = version_again ∙ is.version; check = check_again lt }),
        λ i. record { version = version_again i; generation = generation_again i; num_records = num_records_again i; repack_size = repack_size_again i; current_size = current_size_again i; flags = flags_again i },
      )

pub header_flaw-header_bytes : (b : List ℕ) (h : Header) → AreBytes b → IsHeader h → take 64 b ≡ header_bytes h → (header_flaw b ≡ None) × (header_in b ≡ h)
header_flaw-header_bytes b h fits is spelled =
    let whole : header_bytes h ++ drop 64 b ≡ b = ap (λ (x : List ℕ). x ++ drop 64 b) (sym spelled) ∙ take-append-drop 64 b in
    subst (λ (b : List ℕ). (header_flaw b ≡ None) × (header_in b ≡ h)) whole (header_again h (drop 64 b) is (subst (λ (b : List ℕ). AreBytes b) (sym whole) fits))
