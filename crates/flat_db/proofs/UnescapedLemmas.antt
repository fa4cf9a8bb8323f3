-- A line without an escape says the pair of its fields.
use Rattle.std.proofs.Common.{◌≡◌, inl, ℕ, ◌+◌, ◌-◌, ◌<◌, ◌≤◌, true, Bool, List, [], ◌∷◌, ◌++◌, length, get_or, take, drop, refl, sym, ◌∙◌, ap, subst, append_assoc, arith, length-append}
use Rattle.std.specs.Prelude.{◌==◌}
use Rattle.std.proofs.lemmas.List.{length-drop, length-take-le, get_or-drop, get_or-take}
use Rattle.base_bytes.specs.Escapes.{Spells}
use Rattle.base_bytes.proofs.EscapeLemmas.{spells_itself}
use Rattle.memchr.specs.Find.{Nowhere, Passes, is_byte, is_byte2}
use Rattle.flat_db.specs.FlatText.{IsFree, HasLine, SaysPair}
use Rattle.flat_db.specs.Plain.{IsUnescaped}
use Rattle.flat_db.proofs.FieldLemmas.{free_take, free_then, free_one, byte_is}
use Rattle.flat_db.proofs.PlainLemmas.{split_off}

-- a part in which a search found no such byte
free_part : (test : ℕ → Bool) (end : ℕ) (text : List ℕ) (at size n : ℕ) → ((b : ℕ) → (b == end) ≡ true → test b ≡ true) → n ≤ size → at + n ≤ length text → Nowhere (Passes test (take size (drop at text))) 0 n → IsFree end (take n (drop at text))
free_part test end text at size n has fits within nowhere =
    free_take end n (drop at text) (omega (arith, within, length-drop at text))
    (λ i below is. nowhere i (omega arith) below (subst (λ (b : ℕ). test b ≡ true) (sym (get_or-take size (drop at text) i 0 (omega (arith, below, fits)))) (has (get_or (drop at text) i 0) is)))

-- a part without an escape spells itself
spells_part : (text : List ℕ) (at n to : ℕ) → at + n ≤ to → IsUnescaped text at to → Spells (take n (drop at text)) (take n (drop at text))
spells_part text at n to within unescaped =
    spells_itself n (drop at text) (λ i below is. unescaped (at + i) (omega arith) (omega (arith, below, within)) (subst (λ (b : ℕ). (b == 255) ≡ true) (get_or-drop at text i 0) is))

-- the byte that a search of a part found
pub found_byte : (end : ℕ) (text : List ℕ) (at size n : ℕ) → n < size → (get_or (take size (drop at text)) n 0 == end) ≡ true → get_or text (at + n) 0 ≡ end
found_byte end text at size n within is =
    sym (get_or-take size (drop at text) n 0 within ∙ get_or-drop at text n 0) ∙ byte_is _ end is

either_tab : (b : ℕ) → (b == 9) ≡ true → is_byte2 9 10 b ≡ true
either_tab b is = grind (arith)

either_end : (b : ℕ) → (b == 10) ≡ true → is_byte2 9 10 b ≡ true
either_end b is = grind (arith)

-- The line whose key ends by the first TAB or LF, a TAB, and whose value ends by the next LF.
pub unescaped_says : (text : List ℕ) (at to key_size size m n : ℕ) → m ≡ key_size → n ≡ size → 0 < key_size → at + key_size + 1 + size < to → to ≤ length text → IsUnescaped text at to
    → Nowhere (Passes (is_byte2 9 10) (take (to - at) (drop at text))) 0 key_size → Nowhere (Passes (is_byte 10) (take (to - (at + key_size + 1)) (drop (at + key_size + 1) text))) 0 size
    → get_or text (at + key_size) 0 ≡ 9 → get_or text (at + key_size + 1 + size) 0 ≡ 10
    → (whole : List ℕ) × HasLine (drop at text) whole (drop (at + key_size + 1 + size + 1) text) × SaysPair whole (take m (drop at text), take n (drop (at + key_size + 1) text))
unescaped_says text at to key_size size m n same_key same_value some below within unescaped key_free value_free is_tab is_end =
    let from = at + key_size + 1 in
    let key = take key_size (drop at text) in
    let value = take size (drop from text) in
    let rest = drop (from + size + 1) text in
    let no_tab = free_part (is_byte2 9 10) 9 text at (to - at) key_size either_tab (omega (arith, below)) (omega (arith, below, within)) key_free in
    let no_end = free_part (is_byte2 9 10) 10 text at (to - at) key_size either_end (omega (arith, below)) (omega (arith, below, within)) key_free in
    let value_end = free_part (is_byte 10) 10 text from (to - from) size (λ b is. is) (omega (arith, below)) (omega (arith, below, within)) value_free in
    let line : drop at text ≡ (key ++ (9 ∷ value)) ++ (10 ∷ rest) =
    split_off text at key_size 9 (omega (arith, below, within)) is_tab
    ∙ ap (λ (l : List ℕ). key ++ (9 ∷ l)) (split_off text from size 10 (omega (arith, below, within)) is_end)
    ∙ sym (append_assoc key (9 ∷ value) (10 ∷ rest)) in (
      key ++ (9 ∷ value),
      record {
        some = λ none. omega (arith, ap length (sym line ∙ none), length-append (key ++ (9 ∷ value)) (10 ∷ rest));
        whole = free_then 10 key (9 ∷ value) no_end (free_then 10 (9 ∷ []) value (free_one 10 9 (λ is. omega (arith, is))) value_end);
        ends = inl line;
      },
      subst (λ (i : ℕ). SaysPair (key ++ (9 ∷ value)) (take i (drop at text), take n (drop from text))) (sym same_key)
          (subst (λ (i : ℕ). SaysPair (key ++ (9 ∷ value)) (key, take i (drop from text))) (sym same_value) (record {
            key_field = key;
            value_field = value;
            fields = record { split = refl; first = no_tab };
            key = spells_part text at key_size to (omega (arith, below)) unescaped;
            value = spells_part text from size to (omega (arith, below)) (λ k later less is. unescaped k (omega (arith, later)) less is);
            some = λ none. omega (arith, some, ap length none, length-take-le key_size (drop at text) (omega (arith, below, within, length-drop at text)));
          })),
    )
