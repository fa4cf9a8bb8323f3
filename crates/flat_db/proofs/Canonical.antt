-- The canonical text of a map reads back.
use Rattle.std.proofs.Common.{◌≡◌, ◌≢◌, inl, inr, ℕ, List, [], ◌∷◌, ◌++◌, length, refl, sym, ◌∙◌, ap, subst, append_assoc, arith, length-append}
use Rattle.std.proofs.lemmas.List.{append-nil}
use Rattle.std.proofs.lemmas.List.Elements.{All-nil, All-cons}
use Rattle.std.specs.Prelude.{fold}
use Rattle.std.specs.List.{All}
use Rattle.base_bytes.specs.Escapes.{escaped}
use Rattle.base_bytes.specs.OrderedMap.{Map, IsBelow, IsOrderedMap, IsDbMap, BeginsAbove, put}
use Rattle.base_bytes.proofs.EscapeLemmas.{spells_escaped}
use Rattle.base_bytes.proofs.OrderedMaps.{EndsBelow, below_then, put_behind, put_ordered, put_db_map, empty_db_map, rest_some}
use Rattle.flat_db.specs.FlatText.{pair_line, canonical_text, HasLine, SaysPair, SaysPairs, put_all}
use Rattle.flat_db.specs.Laws.{TextIsOrdered, CanonicalReadsBack, PutReadsBack}
use Rattle.flat_db.proofs.FieldLemmas.{free_then, free_one, escaped_free}

-- ---- all pairs put

abbrev pub put_pair : Map → List ℕ × List ℕ → Map
put_pair m p = put m p.0 p.1

pub puts_ordered : (pairs : List (List ℕ × List ℕ)) (m : Map) → IsOrderedMap m → IsOrderedMap (fold put_pair m pairs)
puts_ordered [] m ordered = ordered
puts_ordered (p ∷ pairs) m ordered = puts_ordered pairs (put m p.0 p.1) (put_ordered m p.0 p.1 ordered)

puts_db_map : (pairs m : Map) → All (λ p. p.0 ≢ []) pairs → IsDbMap m → IsDbMap (fold put_pair m pairs)
puts_db_map [] m some is = is
puts_db_map (p ∷ pairs) m some is = puts_db_map pairs (put m p.0 p.1) (rest_some p pairs some) (put_db_map m p.0 p.1 (some 0 p (omega arith)) is)

says_some : (pairs : List (List ℕ × List ℕ)) (text rest : List ℕ) → SaysPairs text pairs rest → All (λ p. p.0 ≢ []) pairs
says_some [] text rest says = All-nil (λ p. p.0 ≢ [])
says_some (p ∷ pairs) text rest says = All-cons (λ p. p.0 ≢ []) p pairs says.3.some (says_some pairs says.1 rest says.4)

-- what stands in order is put behind one another
pub ends_push : (before : Map) (p : List ℕ × List ℕ) (key : List ℕ) → EndsBelow before p.0 → IsBelow p.0 key → EndsBelow (before ++ (p ∷ [])) key
ends_push [] p key ends below = (below, tt)
ends_push (q ∷ before) p key ends below = (below_then q.0 p.0 key ends.0 below, ends_push before p key ends.1 below)

puts_in_order : (before m : Map) → ((p : List ℕ × List ℕ) (n : Map) → m ≡ p ∷ n → EndsBelow before p.0) → IsOrderedMap m → fold put_pair before m ≡ before ++ m
unfolding put
puts_in_order before [] ends ordered = sym (append-nil before)
puts_in_order before (p ∷ m) ends ordered =
    let here = ends p m refl in
    let one : put before p.0 p.1 ≡ before ++ (p ∷ []) = ap (λ (l : Map). put l p.0 p.1) (sym (append-nil before)) ∙ put_behind before [] p.0 p.1 here in
    ap (λ (l : Map). fold put_pair l m) one
    ∙ puts_in_order (before ++ (p ∷ [])) m (λ q n is. ends_push before p q.0 here (subst (λ (l : Map). BeginsAbove p.0 l) is ordered.0)) ordered.1
    ∙ append_assoc before (p ∷ []) m

pub put_all_ordered : (m : Map) → IsOrderedMap m → m ≡ put_all m
put_all_ordered m ordered = sym (puts_in_order [] m (λ p n is. tt) ordered)

-- ---- the text

-- the line of a pair, and what follows it
pub line_then : (key value rest : List ℕ) → pair_line key value ++ rest ≡ (escaped key ++ (9 ∷ escaped value)) ++ (10 ∷ rest)
unfolding pair_line
line_then key value rest =
    append_assoc (escaped key) (9 ∷ (escaped value ++ (10 ∷ []))) rest
    ∙ ap (λ (l : List ℕ). escaped key ++ (9 ∷ l)) (append_assoc (escaped value) (10 ∷ []) rest)
    ∙ sym (append_assoc (escaped key) (9 ∷ escaped value) (10 ∷ rest))

pub says_line : (p : List ℕ × List ℕ) → p.0 ≢ [] → SaysPair (escaped p.0 ++ (9 ∷ escaped p.1)) p
says_line p some = record {
  key_field = escaped p.0;
  value_field = escaped p.1;
  fields = record { split = refl; first = escaped_free 9 p.0 (inl refl) };
  key = spells_escaped p.0;
  value = spells_escaped p.1;
  some = some;
}

pub has_line : (key value rest : List ℕ) → HasLine (pair_line key value ++ rest) (escaped key ++ (9 ∷ escaped value)) rest
has_line key value rest = record {
  some = λ is. omega (arith, ap length (sym is ∙ line_then key value rest), length-append (escaped key ++ (9 ∷ escaped value)) (10 ∷ rest));
  whole = free_then 10 (escaped key) (9 ∷ escaped value) (escaped_free 10 key (inr refl)) (free_then 10 (9 ∷ []) (escaped value) (free_one 10 9 (λ is. omega (arith, is))) (escaped_free 10 value (inr refl)));
  ends = inl (line_then key value rest);
}

canonical_says : (m : Map) → All (λ p. p.0 ≢ []) m → SaysPairs (canonical_text m) m []
canonical_says [] some = refl
canonical_says (p ∷ m) some = (escaped p.0 ++ (9 ∷ escaped p.1), canonical_text m, has_line p.0 p.1 (canonical_text m), says_line p (some 0 p (omega arith)), canonical_says m (rest_some p m some))

pub text_is_ordered : TextIsOrdered
text_is_ordered text m of = subst IsDbMap (sym of.later_wins) (puts_db_map of.pairs [] (says_some of.pairs text [] of.lines) empty_db_map)

pub canonical_reads_back : CanonicalReadsBack
canonical_reads_back m is = record { pairs = m; lines = canonical_says m is.some; later_wins = put_all_ordered m is.ordered }

pub put_reads_back : PutReadsBack
put_reads_back text key value m some of = canonical_reads_back (put m key value) (put_db_map m key value some (text_is_ordered text m of))
