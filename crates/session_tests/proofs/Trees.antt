-- The map behind a tree of vectors.
use Rattle.std.proofs.Common.{◌≡◌, ℕ, Bool, true, false, cond, List, [], ◌∷◌, map, Option, Some, None, Vec, vec_len, ◌≢◌, refl, sym, ◌∙◌, ap, subst}
use Rattle.std.specs.declared.alloc.Global.{Global}
use Rattle.std.specs.declared.cmp.Ordering.{Ordering}
use Rattle.std.specs.declared.cmp.Ordering.TheVariants.{Less, Equal, Greater}
use Rattle.std.specs.Prelude.{is_some}
use Rattle.std.specs.Borrow.{Bor}
use Rattle.std.specs.Option.{option_map, option_copied}
use Rattle.std.specs.Ordering.{is_eq, match_ordering}
use Rattle.std.specs.List.{All, AllZip}
use Rattle.std.specs.Map.{remove_entry, lookup}
use Rattle.std.specs.BTreeMap.{insert_entry, is_at}
use Rattle.base_bytes.specs.OrderedMap.{Map, IsDbMap, IsOrderedMap, key_order, put, without, value_at}
use Rattle.base_bytes.proofs.OrderedMaps.{put_db_map, without_db_map}

abbrev V : Type 0
V = Vec ℕ Global

abbrev items_of : V × V → List ℕ × List ℕ
items_of e = (e.0.items, e.1.items)

pub tree_put : (es : List (V × V)) (k v : V) → map items_of (insert_entry (λ a b. key_order a.items b.items) es k v) ≡ put (map items_of es) k.items v.items
unfolding put
tree_put [] k v = refl
tree_put (e ∷ es) k v = by (key_order k.items e.0.items) (tree_put es k v)
  where
    by : (o : Ordering) → map items_of (insert_entry (λ a b. key_order a.items b.items) es k v) ≡ insert_entry key_order (map items_of es) k.items v.items
        → map items_of (match_ordering o ((k, v) ∷ e ∷ es) ((e.0, v) ∷ es) (e ∷ insert_entry (λ a b. key_order a.items b.items) es k v))
        ≡ match_ordering o ((k.items, v.items) ∷ items_of e ∷ map items_of es) ((e.0.items, v.items) ∷ map items_of es) (items_of e ∷ insert_entry key_order (map items_of es) k.items v.items)
    by Less rest = refl
    by Equal rest = refl
    by Greater rest = ap (λ (l : Map). items_of e ∷ l) rest

pub tree_without : (es : List (V × V)) (k : List ℕ) → map items_of (remove_entry (λ (a : V). is_eq (key_order k a.items)) es) ≡ without (map items_of es) k
unfolding without
tree_without [] k = refl
tree_without (e ∷ es) k = by (is_eq (key_order k e.0.items)) (tree_without es k)
  where
    by : (b : Bool) → map items_of (remove_entry (λ (a : V). is_eq (key_order k a.items)) es) ≡ remove_entry (is_at (key_order k)) (map items_of es)
        → map items_of (cond b es (e ∷ remove_entry (λ (a : V). is_eq (key_order k a.items)) es)) ≡ cond b (map items_of es) (items_of e ∷ remove_entry (is_at (key_order k)) (map items_of es))
    by true rest = refl
    by false rest = ap (λ (l : Map). items_of e ∷ l) rest

pub tree_value : (es : List (V × V)) (k : List ℕ) → option_map (λ (v : V). v.items) (lookup (λ (a : V). is_eq (key_order k a.items)) es) ≡ value_at (map items_of es) k
unfolding value_at
tree_value [] k = refl
tree_value (e ∷ es) k = by (is_eq (key_order k e.0.items)) (tree_value es k)
  where
    by : (b : Bool) → option_map (λ (v : V). v.items) (lookup (λ (a : V). is_eq (key_order k a.items)) es) ≡ lookup (is_at (key_order k)) (map items_of es)
        → option_map (λ (v : V). v.items) (cond b (Some e.1) (lookup (λ (a : V). is_eq (key_order k a.items)) es)) ≡ cond b (Some e.1.items) (lookup (is_at (key_order k)) (map items_of es))
    by true rest = refl
    by false rest = rest

-- a clone of a tree has its items
same_items : (xs ys : List ℕ) → AllZip (λ (x y : ℕ). y ≡ x) xs ys → ys ≡ xs
same_items [] [] same = refl
same_items [] (y ∷ ys) same = absurd same
same_items (x ∷ xs) [] same = absurd same
same_items (x ∷ xs) (y ∷ ys) same = cc (same.0, same_items xs ys same.1)

abbrev IsSameVec : V → V → Type 0
IsSameVec a b = AllZip (λ (x y : ℕ). y ≡ x) a.items b.items × (vec_len b ≡ vec_len a)

pub tree_clone : (es fs : List (V × V)) → AllZip (λ (a b : V × V). IsSameVec a.0 b.0 × IsSameVec a.1 b.1) es fs → map items_of fs ≡ map items_of es
tree_clone [] [] same = refl
tree_clone [] (f ∷ fs) same = absurd same
tree_clone (e ∷ es) [] same = absurd same
tree_clone (e ∷ es) (f ∷ fs) same = cc (same_items e.0.items f.0.items same.0.0.0, same_items e.1.items f.1.items same.0.1.0, tree_clone es fs same.1)

-- whether a key has a value, by whether the tree finds one
pub tree_some : (es : List (V × V)) (k : List ℕ) (found : Option (Bor V)) (there : Bool) → option_copied found ≡ lookup (λ (a : V). is_eq (key_order k a.items)) es → is_some found ≡ there → is_some (value_at (map items_of es) k) ≡ there
tree_some es k None there is some = ap is_some (sym (tree_value es k)) ∙ ap (λ (o : Option V). is_some (option_map (λ (v : V). v.items) o)) (sym is) ∙ some
tree_some es k (Some v) there is some = ap is_some (sym (tree_value es k)) ∙ ap (λ (o : Option V). is_some (option_map (λ (w : V). w.items) o)) (sym is) ∙ some

-- ---- the map stays one of a database

pub put_sound : (es fs : List (V × V)) (k v : V) (key : List ℕ) → fs ≡ insert_entry (λ a b. key_order a.items b.items) es k v → k.items ≡ key → key ≢ [] → IsOrderedMap (map items_of es) → All (λ p. p.0 ≢ []) (map items_of es) → IsDbMap (map items_of fs)
put_sound es fs k v key are is some ordered all =
    subst IsDbMap (sym (ap (map items_of) are ∙ tree_put es k v)) (put_db_map (map items_of es) k.items v.items (λ e. some (sym is ∙ e)) (record { ordered = ordered; some = all }))

pub without_sound : (es fs : List (V × V)) (key : List ℕ) → fs ≡ remove_entry (λ (a : V). is_eq (key_order key a.items)) es → IsOrderedMap (map items_of es) → All (λ p. p.0 ≢ []) (map items_of es) → IsDbMap (map items_of fs)
without_sound es fs key are ordered all =
    subst IsDbMap (sym (ap (map items_of) are ∙ tree_without es key)) (without_db_map (map items_of es) key (record { ordered = ordered; some = all }))

pub clone_sound : (es fs : List (V × V)) → AllZip (λ (a b : V × V). IsSameVec a.0 b.0 × IsSameVec a.1 b.1) es fs → IsOrderedMap (map items_of es) → All (λ p. p.0 ≢ []) (map items_of es) → IsDbMap (map items_of fs)
clone_sound es fs same ordered all = subst IsDbMap (sym (tree_clone es fs same)) (record { ordered = ordered; some = all })
