-- Fields and lines that are written as they stand.
use Rattle.std.proofs.Common.{◌≡◌, ◌≢◌, ℕ, zero, suc, ◌+◌, ◌-◌, ◌<◌, ◌≤◌, true, Bool, List, [], ◌∷◌, ◌++◌, length, get_or, take, drop, refl, sym, ◌∙◌, ap, subst, append_assoc, arith}
use Rattle.std.specs.Prelude.{flat_map}
use Rattle.std.proofs.lemmas.List.{take_all, take_at, take-append-drop, drop_more, drop-drop, length-drop, length-take-le, get_or-drop, get_or-take, map_push, append-nil}
use Rattle.base_bytes.specs.Escapes.{escaped_byte, escaped}
use Rattle.memchr.specs.Find.{Nowhere, Passes, is_byte2, is_byte3}
use Rattle.flat_db.specs.FlatText.{pair_line, canonical_text, HasLine, SaysPair}
use Rattle.flat_db.specs.Entries.{part_of, pair_of, pairs_of}
use Rattle.flat_db.specs.Plain.{IsPlain, HasWritten, Stands}
use Rattle.flat_db.specs.declared.pairs.Entry.{Entry}
use Rattle.flat_db.proofs.Canonical.{line_then, has_line, says_line}
use Rattle.flat_db.proofs.Sizes.{text_then, line_length}

-- a byte that is none of those that are escaped
byte_stands : (byte : ℕ) → (is_byte3 255 0 13 byte ≡ true → ⊥) → (is_byte2 9 10 byte ≡ true → ⊥) → escaped_byte byte ≡ byte ∷ []
unfolding escaped_byte
byte_stands byte plain field = grind (arith)

pub field_stands : (n : ℕ) (xs : List ℕ) → n ≤ length xs → ((i : ℕ) → i < n → is_byte3 255 0 13 (get_or xs i 0) ≡ true → ⊥) → ((i : ℕ) → i < n → is_byte2 9 10 (get_or xs i 0) ≡ true → ⊥) → escaped (take n xs) ≡ take n xs
unfolding escaped
field_stands zero xs fits plain field = refl
field_stands (suc n) [] fits plain field = refl
field_stands (suc n) (x ∷ xs) fits plain field =
    ap (λ (l : List ℕ). l ++ flat_map escaped_byte (take n xs)) (byte_stands x (plain 0 (omega arith)) (field 0 (omega arith)))
    ∙ ap (λ (l : List ℕ). x ∷ l) (field_stands n xs (omega (arith, fits)) (λ i below. plain (suc i) (omega arith)) (λ i below. field (suc i) (omega arith)))

-- the first bytes of a field of such bytes
pub front_stands : (n : ℕ) (field : List ℕ) → Stands field → escaped (take n field) ≡ take n field
unfolding escaped
front_stands zero field stands = refl
front_stands (suc n) [] stands = refl
front_stands (suc n) (x ∷ field) stands =
    ap (λ (l : List ℕ). l ++ flat_map escaped_byte (take n field)) (stands 0 (omega arith))
    ∙ ap (λ (l : List ℕ). x ∷ l) (front_stands n field (λ i below. stands (suc i) (omega (arith, below))))

-- a byte of a part of a text
byte_of : (text : List ℕ) (at size k : ℕ) → at ≤ k → k < at + size → get_or (take size (drop at text)) (k - at) 0 ≡ get_or text k 0
byte_of text at size k from below =
    get_or-take size (drop at text) (k - at) 0 (omega (arith, from, below)) ∙ get_or-drop at text (k - at) 0 ∙ ap (λ (n : ℕ). get_or text n 0) (omega (arith, from))

-- what a search of a part did not find is not in the text there
pub nowhere_in : (test : ℕ → Bool) (text : List ℕ) (at size n : ℕ) → n ≤ size → Nowhere (Passes test (take size (drop at text))) 0 n → Nowhere (Passes test text) at (at + n)
nowhere_in test text at size n within nowhere k from below is =
    nowhere (k - at) (omega arith) (omega (arith, from, below)) (subst (λ (b : ℕ). test b ≡ true) (sym (byte_of text at size k from (omega (arith, within, below)))) is)

-- a plain part in which a search found neither TAB nor LF
part_stands : (text : List ℕ) (at size n to : ℕ) → n ≤ size → at + n ≤ to → to ≤ length text → IsPlain text at to → Nowhere (Passes (is_byte2 9 10) (take size (drop at text))) 0 n → escaped (take n (drop at text)) ≡ take n (drop at text)
part_stands text at size n to fits within ends plain nowhere =
    field_stands n (drop at text) (omega (arith, within, ends, length-drop at text))
    (λ i below is. plain (at + i) (omega arith) (omega (arith, below, within)) (subst (λ (b : ℕ). is_byte3 255 0 13 b ≡ true) (get_or-drop at text i 0) is))
    (λ i below is. nowhere i (omega arith) below (subst (λ (b : ℕ). is_byte2 9 10 b ≡ true) (sym (get_or-take size (drop at text) i 0 (omega (arith, below, fits)))) is))

-- what follows an offset, up to a byte and behind it
pub split_off : (text : List ℕ) (from size byte : ℕ) → from + size < length text → get_or text (from + size) 0 ≡ byte → drop from text ≡ take size (drop from text) ++ (byte ∷ drop (from + size + 1) text)
split_off text from size byte below is =
    sym (take-append-drop size (drop from text))
    ∙ ap (λ (l : List ℕ). take size (drop from text) ++ l) (drop-drop size from text ∙ drop_more text (from + size) 0 below ∙ ap (λ (b : ℕ). b ∷ drop (from + size + 1) text) is)

-- a line whose fields are written as they stand
line_stands : (text : List ℕ) (at key_size size : ℕ) → at + key_size + 1 + size < length text → get_or text (at + key_size) 0 ≡ 9 → get_or text (at + key_size + 1 + size) 0 ≡ 10
    → escaped (take key_size (drop at text)) ≡ take key_size (drop at text) → escaped (take size (drop (at + key_size + 1) text)) ≡ take size (drop (at + key_size + 1) text)
    → drop at text ≡ pair_line (take key_size (drop at text)) (take size (drop (at + key_size + 1) text)) ++ drop (at + key_size + 1 + size + 1) text
line_stands text at key_size size below is_tab is_end key_stands value_stands =
    let key = take key_size (drop at text) in
    let value = take size (drop (at + key_size + 1) text) in
    let rest = drop (at + key_size + 1 + size + 1) text in
    split_off text at key_size 9 (omega (arith, below)) is_tab
    ∙ ap (λ (l : List ℕ). key ++ (9 ∷ l)) (split_off text (at + key_size + 1) size 10 below is_end)
    ∙ sym (
    line_then key value rest
    ∙ append_assoc (escaped key) (9 ∷ escaped value) (10 ∷ rest)
    ∙ ap (λ (l : List ℕ). l ++ (9 ∷ (escaped value ++ (10 ∷ rest)))) key_stands
    ∙ ap (λ (l : List ℕ). key ++ (9 ∷ (l ++ (10 ∷ rest)))) value_stands
    )

-- a field of such bytes
whole_stands : (field : List ℕ) → Stands field → escaped field ≡ field
whole_stands field stands =
    let all = take_all (length field) field (omega arith) in
    ap escaped (sym all) ∙ front_stands (length field) field stands ∙ all

-- a line that stands as it is written
as_it_stands : (text : List ℕ) (at key_size size n : ℕ) → n ≡ key_size + size + 2 → at + key_size + 1 + size < length text → get_or text (at + key_size) 0 ≡ 9 → get_or text (at + key_size + 1 + size) 0 ≡ 10
    → Stands (take key_size (drop at text)) → Stands (take size (drop (at + key_size + 1) text)) → take n (drop at text) ≡ pair_line (take key_size (drop at text)) (take size (drop (at + key_size + 1) text))
as_it_stands text at key_size size n is below is_tab is_end key_stands value_stands =
    let key = take key_size (drop at text) in
    let value = take size (drop (at + key_size + 1) text) in
    let rest = drop (at + key_size + 1 + size + 1) text in
    let k = whole_stands key key_stands in
    let v = whole_stands value value_stands in
    let key_long = length-take-le key_size (drop at text) (omega (arith, below, length-drop at text)) in
    let value_long = length-take-le size (drop (at + key_size + 1) text) (omega (arith, below, length-drop (at + key_size + 1) text)) in
    ap (take n) (line_stands text at key_size size below is_tab is_end k v)
    ∙ take_at (pair_line key value) rest n (omega (arith, is, line_length key value, ap length k, ap length v, key_long, value_long))

-- the same, by where its value begins
pub line_of_entry : (text : List ℕ) (entry : Entry) (n : ℕ) → entry.value.start ≡ entry.key.start + entry.key.size + 1 → n ≡ entry.key.size + entry.value.size + 2 → entry.value.start + entry.value.size < length text
    → get_or text (entry.key.start + entry.key.size) 0 ≡ 9 → get_or text (entry.value.start + entry.value.size) 0 ≡ 10 → Stands (part_of text entry.key) → Stands (part_of text entry.value)
    → take n (drop entry.key.start text) ≡ pair_line (part_of text entry.key) (part_of text entry.value)
line_of_entry text entry n follows is =
    let at = entry.key.start in
    let key_size = entry.key.size in
    let size = entry.value.size in
    subst (λ (from : ℕ). from + size < length text → get_or text (at + key_size) 0 ≡ 9 → get_or text (from + size) 0 ≡ 10 → Stands (take key_size (drop at text)) → Stands (take size (drop from text)) → take n (drop at text) ≡ pair_line (take key_size (drop at text)) (take size (drop from text)))
    (sym follows) (as_it_stands text at key_size size n is)

-- The line whose key ends by the first TAB or LF of a plain part, a TAB, and whose value ends by the next one, an LF.
pub written_line : (text : List ℕ) (at to key_size size m n : ℕ) → m ≡ key_size → n ≡ size → 0 < key_size → at + key_size + 1 + size < to → to ≤ length text → IsPlain text at to
    → Nowhere (Passes (is_byte2 9 10) (take (to - at) (drop at text))) 0 key_size → Nowhere (Passes (is_byte2 9 10) (take (to - (at + key_size + 1)) (drop (at + key_size + 1) text))) 0 size
    → get_or text (at + key_size) 0 ≡ 9 → get_or text (at + key_size + 1 + size) 0 ≡ 10
    → HasWritten text at (record { entry = record { key = record { start = at; size = m }; value = record { start = at + key_size + 1; size = n } }; next = at + key_size + 1 + size + 1; is_plain = true })
written_line text at to key_size size m n same_key same_value some below within plain key_free value_free is_tab is_end =
    let key = part_stands text at (to - at) key_size to (omega (arith, below)) (omega (arith, below)) within plain key_free in
    let value = part_stands text (at + key_size + 1) (to - (at + key_size + 1)) size to (omega (arith, below)) (omega (arith, below)) within (λ k from less is. plain k (omega (arith, from)) less is) value_free in
    record {
      within = omega (arith, below, within);
      some = λ none. omega (arith, some, same_key, ap length none, length-take-le m (drop at text) (omega (arith, below, within, same_key, length-drop at text)));
      written = subst (λ (i : ℕ). drop at text ≡ pair_line (take i (drop at text)) (take n (drop (at + key_size + 1) text)) ++ drop (at + key_size + 1 + size + 1) text) (sym same_key) (subst (λ (i : ℕ). drop at text ≡ pair_line (take key_size (drop at text)) (take i (drop (at + key_size + 1) text)) ++ drop (at + key_size + 1 + size + 1) text) (sym same_value)
          (line_stands text at key_size size (omega (arith, below, within)) is_tab is_end key value));
      ends = record { key = omega (arith, same_key); value = omega (arith, same_value) };
      key_stands = subst (λ (i : ℕ). escaped (take i (drop at text)) ≡ take i (drop at text)) (sym same_key) key;
      value_stands = subst (λ (i : ℕ). escaped (take i (drop (at + key_size + 1) text)) ≡ take i (drop (at + key_size + 1) text)) (sym same_value) value;
    }

-- such a line says its pair
pub stands_says : (text : List ℕ) (at next : ℕ) (entry : Entry) → part_of text entry.key ≢ [] → drop at text ≡ pair_line (part_of text entry.key) (part_of text entry.value) ++ drop next text
    → (whole : List ℕ) × HasLine (drop at text) whole (drop next text) × SaysPair whole (pair_of text entry)
stands_says text at next entry some is =
    let key = part_of text entry.key in
    let value = part_of text entry.value in (
      escaped key ++ (9 ∷ escaped value),
      subst (λ (l : List ℕ). HasLine l (escaped key ++ (9 ∷ escaped value)) (drop next text)) (sym is) (has_line key value (drop next text)),
      says_line (pair_of text entry) some,
    )

-- what no byte is, none is from a later offset on, where nothing behind it was changed
pub test_later : (test : ℕ → Bool) (old new : List ℕ) (at next to : ℕ) → at ≤ next → drop next new ≡ drop next old → Nowhere (Passes test old) at to → Nowhere (Passes test new) next to
test_later test old new at next to later same nowhere k from below is =
    nowhere k (omega (arith, later, from)) below (subst (λ (b : ℕ). test b ≡ true) byte is)
  where
    byte_in : (xs : List ℕ) → get_or (drop next xs) (k - next) 0 ≡ get_or xs k 0
    byte_in xs = get_or-drop next xs (k - next) 0 ∙ ap (λ (n : ℕ). get_or xs n 0) (omega (arith, from))

    byte : get_or new k 0 ≡ get_or old k 0
    byte = sym (byte_in new) ∙ ap (λ (l : List ℕ). get_or l (k - next) 0) same ∙ byte_in old

-- one line more
pub written_more : (old text : List ℕ) (at next : ℕ) (entries : List Entry) (entry : Entry) → text ≡ old → old ≡ canonical_text (pairs_of old entries) ++ drop at old → drop at text ≡ pair_line (part_of text entry.key) (part_of text entry.value) ++ drop next text
    → text ≡ canonical_text (pairs_of text (entries ++ (entry ∷ []))) ++ drop next text
written_more old text at next entries entry same before is =
    let so_far = canonical_text (pairs_of text entries) in
    let line = pair_line (part_of text entry.key) (part_of text entry.value) in
    let both : canonical_text (pairs_of text (entries ++ (entry ∷ []))) ≡ so_far ++ line = ap canonical_text (map_push (pair_of text) entries entry) ∙ text_then (pairs_of text entries) (pair_of text entry ∷ []) ∙ ap (λ (l : List ℕ). so_far ++ l) (append-nil line) in
    subst (λ (o : List ℕ). o ≡ canonical_text (pairs_of o entries) ++ drop at o) (sym same) before
    ∙ ap (λ (l : List ℕ). so_far ++ l) is
    ∙ sym (append_assoc so_far line (drop next text))
    ∙ ap (λ (l : List ℕ). l ++ drop next text) (sym both)
