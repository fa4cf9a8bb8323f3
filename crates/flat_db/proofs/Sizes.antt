-- Sizes of lines and of texts.
use Rattle.std.proofs.Common.{◌≡◌, ◌≢◌, ◌⊎◌, inl, inr, ℕ, ◌+◌, ◌*◌, ◌<◌, ◌≤◌, List, [], ◌∷◌, ◌++◌, length, get_or, take, drop, refl, sym, ◌∙◌, ap, append_assoc, arith, length-append}
use Rattle.std.proofs.lemmas.List.{take_more, map-append, append-nil, take-append-drop}
use Rattle.std.specs.declared.cmp.Ordering.{Ordering}
use Rattle.std.specs.declared.cmp.Ordering.TheVariants.{Less, Equal, Greater}
use Rattle.std.specs.Ordering.{match_ordering}
use Rattle.std.specs.Prelude.{fold}
use Rattle.std.specs.BTreeMap.{insert_entry}
use Rattle.base_bytes.specs.Escapes.{escaped_byte, escaped, Spells}
use Rattle.base_bytes.specs.OrderedMap.{Map, key_order, put, without}
use Rattle.base_bytes.proofs.EscapeLemmas.{escaped_bound, byte_cases}
use Rattle.base_bytes.proofs.OrderedMaps.{same_key}
use Rattle.flat_db.specs.FlatText.{pair_line, canonical_text, SaysPair, SaysPairs, FlatTextOf}
use Rattle.flat_db.specs.Entries.{part_of, pair_of, pairs_of}
use Rattle.flat_db.specs.declared.pairs.Entry.{Entry}
use Rattle.flat_db.specs.Places.{HasKeyAt, LacksKeyAt}
use Rattle.flat_db.proofs.Canonical.{put_pair}
use Rattle.flat_db.proofs.PlaceLemmas.{put_own, put_between, without_own}

pub line_length : (key value : List ℕ) → length (pair_line key value) ≡ length (escaped key) + length (escaped value) + 2
unfolding pair_line
line_length key value = omega (arith, length-append (escaped key) (9 ∷ (escaped value ++ (10 ∷ []))), length-append (escaped value) (10 ∷ []))

-- the size that is counted is that of the line
pub line_is : (a b key value : List ℕ) (m n : ℕ) → a ≡ key → b ≡ value → m ≡ length (escaped a) → n ≡ length (escaped b) → m + n + 2 ≡ length (pair_line key value)
line_is a b key value m n is_key is_value one two =
    omega (arith, one, two, ap (λ (l : List ℕ). length (escaped l)) is_key, ap (λ (l : List ℕ). length (escaped l)) is_value, line_length key value)

pub text_then : (m n : Map) → canonical_text (m ++ n) ≡ canonical_text m ++ canonical_text n
text_then [] n = refl
text_then (p ∷ m) n = ap (λ (l : List ℕ). pair_line p.0 p.1 ++ l) (text_then m n) ∙ sym (append_assoc (pair_line p.0 p.1) (canonical_text m) (canonical_text n))

-- one entry more
pub text_more : (bytes : List ℕ) (entries : List Entry) (n : ℕ) (d : Entry) → n < length entries
    → canonical_text (pairs_of bytes (take (n + 1) entries)) ≡ canonical_text (pairs_of bytes (take n entries)) ++ pair_line (part_of bytes (get_or entries n d).key) (part_of bytes (get_or entries n d).value)
text_more bytes entries n d below =
    let entry = get_or entries n d in
    ap (λ (l : List Entry). canonical_text (pairs_of bytes l)) (take_more entries n d below)
    ∙ ap canonical_text (map-append (pair_of bytes) (take n entries) (entry ∷ []))
    ∙ text_then (pairs_of bytes (take n entries)) (pair_of bytes entry ∷ [])
    ∙ ap (λ (l : List ℕ). canonical_text (pairs_of bytes (take n entries)) ++ l) (append-nil (pair_line (part_of bytes entry.key) (part_of bytes entry.value)))

-- a part of the entries has no longer text
pub text_part : (bytes : List ℕ) (entries : List Entry) (n : ℕ) → length (canonical_text (pairs_of bytes (take n entries))) ≤ length (canonical_text (pairs_of bytes entries))
text_part bytes entries n =
    omega (
      arith,
      ap length (sym (text_then (pairs_of bytes (take n entries)) (pairs_of bytes (drop n entries))) ∙ ap canonical_text (sym (map-append (pair_of bytes) (take n entries) (drop n entries)) ∙ ap (pairs_of bytes) (take-append-drop n entries))),
      length-append (canonical_text (pairs_of bytes (take n entries))) (canonical_text (pairs_of bytes (drop n entries))),
    )

-- the line of an entry is no longer than the text
pub line_in_text : (bytes : List ℕ) (entries : List Entry) (place : ℕ) (entry d : Entry) → place < length entries → entry ≡ get_or entries place d → length (pair_line (part_of bytes entry.key) (part_of bytes entry.value)) ≤ length (canonical_text (pairs_of bytes entries))
line_in_text bytes entries place entry d below is =
    omega (
      arith,
      ap (λ (e : Entry). length (pair_line (part_of bytes e.key) (part_of bytes e.value))) is,
      ap length (text_more bytes entries place d below),
      length-append (canonical_text (pairs_of bytes (take place entries))) (pair_line (part_of bytes (get_or entries place d).key) (part_of bytes (get_or entries place d).value)),
      text_part bytes entries (place + 1),
    )

-- ---- the text of a map that was read is at most twice as long

spelled_bound : (bytes field : List ℕ) → Spells bytes field → length bytes ≤ length field
spelled_bound [] field spells = omega arith
spelled_bound (byte ∷ bytes) field spells = by (spelled_bound bytes spells.1 spells.4) (byte_cases byte spells.0 spells.3)
  where
    by : length bytes ≤ length spells.1 → ((byte ≢ 255) × (spells.0 ≡ byte ∷ [])) ⊎ ((second : ℕ) × (escaped_byte byte ≡ 255 ∷ second ∷ []) × (spells.0 ≡ 255 ∷ second ∷ [])) → length (byte ∷ bytes) ≤ length field
    by later (inl p) = omega (arith, later, ap length spells.2, length-append spells.0 spells.1, ap length p.1)
    by later (inr q) = omega (arith, later, ap length spells.2, length-append spells.0 spells.1, ap length q.2)

line_bound : (line : List ℕ) (p : List ℕ × List ℕ) → SaysPair line p → length (pair_line p.0 p.1) ≤ 2 * length line
line_bound line p says =
    omega (
      arith,
      line_length p.0 p.1,
      escaped_bound p.0,
      escaped_bound p.1,
      spelled_bound p.0 says.key_field says.key,
      spelled_bound p.1 says.value_field says.value,
      ap length says.fields.split,
      length-append says.key_field (9 ∷ says.value_field),
    )

lines_bound : (pairs : List (List ℕ × List ℕ)) (text rest : List ℕ) → SaysPairs text pairs rest → length (canonical_text pairs) ≤ 2 * length text
lines_bound [] text rest says = omega arith
lines_bound (p ∷ pairs) text rest says = by (lines_bound pairs says.1 rest says.4) (line_bound says.0 p says.3) says.2.ends
  where
    by : length (canonical_text pairs) ≤ 2 * length says.1 → length (pair_line p.0 p.1) ≤ 2 * length says.0 → (text ≡ says.0 ++ (10 ∷ says.1)) ⊎ ((text ≡ says.0) × (says.1 ≡ [])) → length (canonical_text (p ∷ pairs)) ≤ 2 * length text
    by later here (inl is) = omega (arith, later, here, ap length is, length-append says.0 (10 ∷ says.1), length-append (pair_line p.0 p.1) (canonical_text pairs))
    by later here (inr is) = omega (arith, later, here, ap length is.0, ap length is.1, length-append (pair_line p.0 p.1) (canonical_text pairs))

put_bound : (m : Map) (key value : List ℕ) → length (canonical_text (put m key value)) ≤ length (canonical_text m) + length (pair_line key value)
unfolding put
put_bound [] key value = omega (arith, length-append (pair_line key value) [])
put_bound (p ∷ m) key value = by (put_bound m key value) (key_order key p.0) refl
  where
    by : length (canonical_text (insert_entry key_order m key value)) ≤ length (canonical_text m) + length (pair_line key value) → (o : Ordering) → key_order key p.0 ≡ o
        → length (canonical_text (match_ordering o ((key, value) ∷ p ∷ m) ((p.0, value) ∷ m) (p ∷ insert_entry key_order m key value))) ≤ length (canonical_text (p ∷ m)) + length (pair_line key value)
    by later Less is = omega (arith, length-append (pair_line key value) (canonical_text (p ∷ m)))
    by later Equal is = omega (arith, ap (λ (k : List ℕ). length (pair_line k value)) (same_key key p.0 is), length-append (pair_line p.0 value) (canonical_text m), length-append (pair_line p.0 p.1) (canonical_text m))
    by later Greater is = omega (arith, later, length-append (pair_line p.0 p.1) (canonical_text m), length-append (pair_line p.0 p.1) (canonical_text (insert_entry key_order m key value)))

puts_bound : (pairs m : Map) → length (canonical_text (fold put_pair m pairs)) ≤ length (canonical_text m) + length (canonical_text pairs)
puts_bound [] m = omega arith
puts_bound (p ∷ pairs) m = omega (arith, puts_bound pairs (put m p.0 p.1), put_bound m p.0 p.1, length-append (pair_line p.0 p.1) (canonical_text pairs))

pub text_bound : (text : List ℕ) (m : Map) → FlatTextOf text m → length (canonical_text m) ≤ 2 * length text
text_bound text m of =
    omega (arith, ap (λ (n : Map). length (canonical_text n)) of.later_wins, puts_bound of.pairs [], lines_bound of.pairs text [] of.lines)

-- ---- the size with a pair put, and without the key's own

module _ (key : List ℕ) (m : Map) (place : ℕ) where
  size_parts : (front back : Map) → length (canonical_text (front ++ back)) ≡ length (canonical_text front) + length (canonical_text back)
  size_parts front back = ap length (text_then front back) ∙ length-append (canonical_text front) (canonical_text back)

  size_first : (value : List ℕ) (back : Map) → length (canonical_text ((key, value) ∷ back)) ≡ length (pair_line key value) + length (canonical_text back)
  size_first value back = length-append (pair_line key value) (canonical_text back)

  size_whole : length (canonical_text m) ≡ length (canonical_text (take place m)) + length (canonical_text (drop place m))
  size_whole = ap (λ (l : Map). length (canonical_text l)) (sym (take-append-drop place m)) ∙ size_parts (take place m) (drop place m)

  pub size_without_own : (has : HasKeyAt key m place) → length (canonical_text (without m key)) + length (pair_line key has.value) ≡ length (canonical_text m)
  size_without_own has =
      omega (
        arith,
        size_whole,
        ap (λ (l : Map). length (canonical_text l)) has.here,
        size_first has.value (drop (place + 1) m),
        ap (λ (l : Map). length (canonical_text l)) (without_own key m place has),
        size_parts (take place m) (drop (place + 1) m),
      )

  pub size_over_own : (value : List ℕ) (has : HasKeyAt key m place) → length (canonical_text (put m key value)) + length (pair_line key has.value) ≡ length (canonical_text m) + length (pair_line key value)
  size_over_own value has =
      omega (
        arith,
        size_whole,
        ap (λ (l : Map). length (canonical_text l)) has.here,
        size_first has.value (drop (place + 1) m),
        ap (λ (l : Map). length (canonical_text l)) (put_own key m place value has),
        size_parts (take place m) ((key, value) ∷ drop (place + 1) m),
        size_first value (drop (place + 1) m),
      )

  pub size_in_between : (value : List ℕ) → LacksKeyAt key m place → length (canonical_text (put m key value)) ≡ length (canonical_text m) + length (pair_line key value)
  size_in_between value lacks =
      omega (
        arith,
        size_whole,
        ap (λ (l : Map). length (canonical_text l)) (put_between key m place value lacks),
        size_parts (take place m) ((key, value) ∷ drop place m),
        size_first value (drop place m),
      )
