-- A map that is kept in memory, and bytes that are added to its own.
use Rattle.std.proofs.Common.{◌≡◌, ◌≤◌, ℕ, List, [], ◌++◌, Result, Ok, Err, length, take, refl, sym, ◌∙◌, ap, subst, arith, length-append}
use Rattle.std.specs.Prelude.{OnErr}
use Rattle.std.specs.List.{All}
use Rattle.std.proofs.lemmas.List.{take_at, take_all}
use Rattle.base_bytes.specs.OrderedMap.{Map, IsDbMap}
use Rattle.flat_db.specs.FlatText.{canonical_text, SaysPairs, put_all, FlatTextOf}
use Rattle.flat_db.specs.Entries.{pairs_of, EndsBy}
use Rattle.flat_db.specs.Kept.{IsKept, SameEntries, map_among}
use Rattle.flat_db.specs.declared.pairs.Pairs.{Pairs}
use Rattle.flat_db.specs.declared.pairs.Entry.{Entry}
use Rattle.flat_db.proofs.LineLemmas.{pairs_below, ends_later}

pub grown_pairs : (bytes new more : List ℕ) (entries : List Entry) → new ≡ bytes ++ more → All (EndsBy (length bytes)) entries → pairs_of new entries ≡ pairs_of bytes entries
grown_pairs bytes new more entries is ends =
    pairs_below bytes new (length bytes) entries (ap (take (length bytes)) is ∙ take_at bytes more (length bytes) refl ∙ sym (take_all (length bytes) bytes (omega arith))) ends

pub grown_ends : (bytes new more : List ℕ) (entries : List Entry) → new ≡ bytes ++ more → All (EndsBy (length bytes)) entries → All (EndsBy (length new)) entries
grown_ends bytes new more entries is ends = ends_later (length bytes) (length new) entries (omega (arith, ap length is, length-append bytes more)) ends

pub grown_map : (bytes new more : List ℕ) (pairs : Pairs) → new ≡ bytes ++ more → IsKept bytes pairs → map_among new pairs ≡ map_among bytes pairs
grown_map bytes new more pairs is kept = grown_pairs bytes new more pairs.entries.items is kept.ends

pub grown_kept : (bytes new more : List ℕ) (pairs : Pairs) → new ≡ bytes ++ more → length new ≤ 4294967295 → IsKept bytes pairs → IsKept new pairs
grown_kept bytes new more pairs is short kept =
    let same = grown_map bytes new more pairs is kept in
    record {
      sound = subst IsDbMap (sym same) kept.sound;
      ends = grown_ends bytes new more pairs.entries.items is kept.ends;
      counted = kept.counted ∙ ap (λ (m : Map). length (canonical_text m)) (sym same);
      short = short;
      small = kept.small;
    }

pub same_kept : (bytes : List ℕ) (a b : Pairs) → SameEntries a b → IsKept bytes a → IsKept bytes b
same_kept bytes a b same kept = record {
  sound = subst IsDbMap (ap (pairs_of bytes) (sym same.items)) kept.sound;
  ends = subst (All (EndsBy (length bytes))) (sym same.items) kept.ends;
  counted = same.size ∙ kept.counted ∙ ap (λ (l : List Entry). length (canonical_text (pairs_of bytes l))) (sym same.items);
  short = kept.short;
  small = omega (arith, same.size, kept.small);
}

pub on_err : {T E P : Type 0} (r : Result T E) → P → OnErr r P
on_err (Ok x) p = tt
on_err (Err e) p = p

-- what was read and put in order is the map of the text
pub read_map : (text bytes given slice : List ℕ) (entries sorted : List Entry) → given ≡ text → slice ≡ bytes → SaysPairs given (pairs_of bytes entries) [] → pairs_of slice sorted ≡ put_all (pairs_of slice entries) → FlatTextOf text (pairs_of bytes sorted)
read_map text bytes given slice entries sorted is same says ordered = record {
  pairs = pairs_of bytes entries;
  lines = subst (λ (l : List ℕ). SaysPairs l (pairs_of bytes entries) []) is says;
  later_wins = subst (λ (l : List ℕ). pairs_of l sorted ≡ put_all (pairs_of l entries)) same ordered;
}
