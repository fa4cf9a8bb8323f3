-- What becomes of the pairs of a map that is kept in memory.
use Rattle.std.proofs.Common.{◌≡◌, ◌≢◌, ℕ, suc, ◌+◌, ◌<◌, ◌≤◌, List, [], ◌∷◌, ◌++◌, length, get_or, set, take, drop, sym, ◌∙◌, ap, subst, arith}
use Rattle.std.proofs.lemmas.List.{get_or_default}
use Rattle.std.proofs.lemmas.List.Elements.{All-set, All-cons, All-append, All-take, All-drop}
use Rattle.std.proofs.lemmas.List.Sorted.{All-permutation, IsPermutation-insert}
use Rattle.std.specs.List.{All, insert, remove}
use Rattle.base_bytes.specs.OrderedMap.{Map, IsDbMap, put, without}
use Rattle.base_bytes.specs.declared.limits.TheConstants.{FLAT_LIMIT}
use Rattle.base_bytes.proofs.OrderedMaps.{put_db_map, without_db_map}
use Rattle.flat_db.specs.FlatText.{pair_line, canonical_text}
use Rattle.flat_db.specs.Entries.{EndsBy, part_of, pair_of, pairs_of}
use Rattle.flat_db.specs.Kept.{IsKept, map_among}
use Rattle.flat_db.specs.Places.{HasKeyAt, LacksKeyAt}
use Rattle.flat_db.specs.declared.pairs.Entry.{Entry}
use Rattle.flat_db.specs.declared.pairs.Pairs.{Pairs}
use Rattle.flat_db.proofs.PlaceLemmas.{entry_pair, set_pairs, insert_pairs, remove_pairs, put_own, put_between, without_own}
use Rattle.flat_db.proofs.Sizes.{size_without_own}

-- the entry at the key's own place names its pair
pub own_pair : (bytes key : List ℕ) (entries : List Entry) (place : ℕ) (entry d : Entry) → place < length entries → entry ≡ get_or entries place d → (has : HasKeyAt key (pairs_of bytes entries) place) → pair_of bytes entry ≡ (key, has.value)
own_pair bytes key entries place entry d below is has =
    cc (sym (entry_pair bytes entries place entry below (is ∙ get_or_default entries place d entry below)) ∙ has.here)

-- and its line
pub own_line : (bytes key : List ℕ) (entries : List Entry) (place : ℕ) (entry d : Entry) → place < length entries → entry ≡ get_or entries place d → (has : HasKeyAt key (pairs_of bytes entries) place)
    → length (pair_line (part_of bytes entry.key) (part_of bytes entry.value)) ≡ length (pair_line key has.value)
own_line bytes key entries place entry d below is has = ap (λ (p : List ℕ × List ℕ). length (pair_line p.0 p.1)) (own_pair bytes key entries place entry d below is has)

-- ---- the entries after a pair is put

module _ (bytes key value : List ℕ) (entries : List Entry) (place : ℕ) (entry : Entry) (pair : pair_of bytes entry ≡ (key, value)) where
  pub put_over_own : place < length entries → HasKeyAt key (pairs_of bytes entries) place → pairs_of bytes (set entries place entry) ≡ put (pairs_of bytes entries) key value
  put_over_own below has =
      set_pairs bytes entries place entry below
      ∙ ap (λ (p : List ℕ × List ℕ). take place (pairs_of bytes entries) ++ (p ∷ drop (place + 1) (pairs_of bytes entries))) pair
      ∙ sym (put_own key (pairs_of bytes entries) place value has)

  pub put_in_between : LacksKeyAt key (pairs_of bytes entries) place → pairs_of bytes (insert entries place entry) ≡ put (pairs_of bytes entries) key value
  put_in_between lacks =
      insert_pairs bytes entries place entry
      ∙ ap (λ (p : List ℕ × List ℕ). take place (pairs_of bytes entries) ++ (p ∷ drop place (pairs_of bytes entries))) pair
      ∙ sym (put_between key (pairs_of bytes entries) place value lacks)

pub ends_set : (end : ℕ) (entries : List Entry) (place : ℕ) (entry : Entry) → EndsBy end entry → All (EndsBy end) entries → All (EndsBy end) (set entries place entry)
ends_set end entries place entry here all = All-set (EndsBy end) entries place entry here all

pub ends_insert : (end : ℕ) (entries : List Entry) (place : ℕ) (entry : Entry) → EndsBy end entry → All (EndsBy end) entries → All (EndsBy end) (insert entries place entry)
ends_insert end entries place entry here all =
    All-permutation (EndsBy end) (entry ∷ entries) (insert entries place entry) (IsPermutation-insert entries place entry) (All-cons (EndsBy end) entry entries here all)

pub ends_remove : (end : ℕ) (entries : List Entry) (place : ℕ) → All (EndsBy end) entries → All (EndsBy end) (remove entries place)
ends_remove end entries place all =
    All-append (EndsBy end) (take place entries) (drop (suc place) entries) (All-take (EndsBy end) place entries all) (All-drop (EndsBy end) (suc place) entries all)

-- ---- what holds of a map that is kept goes on to hold

pub put_kept : (bytes key value : List ℕ) (before after : Pairs) → IsKept bytes before → key ≢ [] → All (EndsBy (length bytes)) after.entries.items
    → map_among bytes after ≡ put (map_among bytes before) key value → after.size ≡ length (canonical_text (put (map_among bytes before) key value)) → after.size ≤ FLAT_LIMIT → IsKept bytes after
put_kept bytes key value before after kept some ends is size fits = record {
  sound = subst IsDbMap (sym is) (put_db_map (map_among bytes before) key value some kept.sound);
  ends = ends;
  counted = size ∙ ap (λ (m : Map). length (canonical_text m)) (sym is);
  short = kept.short;
  small = omega (arith, fits);
}

pub without_kept : (bytes key : List ℕ) (before after : Pairs) (place : ℕ) → IsKept bytes before → HasKeyAt key (map_among bytes before) place → after.entries.items ≡ remove before.entries.items place
    → after.size ≡ length (canonical_text (without (map_among bytes before) key)) → IsKept bytes after × (map_among bytes after ≡ without (map_among bytes before) key)
without_kept bytes key before after place kept has removed size = (
  record {
    sound = subst IsDbMap (sym is) (without_db_map (map_among bytes before) key kept.sound);
    ends = subst (All (EndsBy (length bytes))) (sym removed) (ends_remove (length bytes) before.entries.items place kept.ends);
    counted = size ∙ ap (λ (m : Map). length (canonical_text m)) (sym is);
    short = kept.short;
    small = omega (arith, size, kept.small, kept.counted, size_without_own key (map_among bytes before) place has);
  },
  is,
)
  where
    is : map_among bytes after ≡ without (map_among bytes before) key
    is = ap (pairs_of bytes) removed ∙ remove_pairs bytes before.entries.items place ∙ sym (without_own key (map_among bytes before) place has)
