-- Lines of a report, one after another.
use Rattle.std.proofs.Common.{◌≡◌, ◌≤◌, ℕ, zero, suc, ◌+◌, ◌-◌, List, [], ◌∷◌, ◌++◌, refl, ap, subst, ◌∙◌, arith}
use Rattle.std.specs.List.{flat_map, range_with_len}
use Rattle.std.proofs.lemmas.Grind.{flat_map-append}
use Rattle.std.proofs.lemmas.List.{append-nil}
use Rattle.std.proofs.lemmas.List.Concat.{flat_map-cons}
use Rattle.std.specs.Prelude.{◌<◌, ◌==◌, Bool, true, false, not, length, if◌then◌else◌}
use Rattle.std.specs.List.{filter, list_any}
use Rattle.std.proofs.Common.{sym, append_assoc}
use Rattle.std.proofs.lemmas.Bool.{eq-eqb, ne_eqb}
use Rattle.index_form.specs.declared.record.IndexRecord.{IndexRecord}
use Rattle.index_form.specs.Reading.{StoredRecord}
use Rattle.index_form.specs.Usable.{is_usable, usable_from, usable_records}
use Rattle.mail_rebuild.specs.Report.{ignored_in, ignored_line}

range_more : (a n : ℕ) → range_with_len a (n + 1) ≡ range_with_len a n ++ (a + n) ∷ []
range_more a zero = let e : a + 0 ≡ a = omega arith in rw e refl
range_more a (suc n) =
    let one : suc n + 1 ≡ suc (n + 1) = omega arith in
    let end : a + suc n ≡ a + 1 + n = omega arith in
    rw (one, end) (ap (λ ns. a ∷ ns) (range_more (a + 1) n))

-- the line of one place more
pub ignored_more : (from place : ℕ) → from ≤ place → flat_map ignored_line (range_with_len from (place + 1 - from)) ≡ flat_map ignored_line (range_with_len from (place - from)) ++ ignored_line place
ignored_more from place within =
    let one : place + 1 - from ≡ (place - from) + 1 = omega (arith, within) in
    let end : from + (place - from) ≡ place = omega (arith, within) in
    ap (λ n. flat_map ignored_line (range_with_len from n)) one
    ∙ ap (flat_map ignored_line) (range_more from (place - from))
    ∙ flat_map-append ignored_line (range_with_len from (place - from)) ((from + (place - from)) ∷ [])
    ∙ ap (λ (t : List ℕ). flat_map ignored_line (range_with_len from (place - from)) ++ t)
    (ap (λ p. flat_map ignored_line (p ∷ [])) end ∙ flat_map-cons ignored_line place [] ∙ append-nil (ignored_line place))

-- ---- the places between those of the usable records

-- the places from one on up to another, without these
abbrev pub gaps : ℕ → ℕ → List (ℕ × IndexRecord) → List ℕ
gaps from end [] = range_with_len from (end - from)
gaps from end (placed ∷ others) = range_with_len from (placed.0 - from) ++ gaps (placed.0 + 1) end others

-- places that rise strictly, from one on and below another
abbrev pub PlacesRise : ℕ → ℕ → List (ℕ × IndexRecord) → Type 0
PlacesRise from end [] = from ≤ end
PlacesRise from end (placed ∷ others) = (from ≤ placed.0) × PlacesRise (placed.0 + 1) end others

places_later : (from end : ℕ) (placed : List (ℕ × IndexRecord)) → PlacesRise from end placed → from ≤ end
places_later from end [] rise = rise
places_later from end (p ∷ placed) rise = omega (arith, rise.0, places_later (p.0 + 1) end placed rise.1)

places_sooner : (from later end : ℕ) (placed : List (ℕ × IndexRecord)) → from ≤ later → PlacesRise later end placed → PlacesRise from end placed
places_sooner from later end [] up rise = omega (arith, up, rise)
places_sooner from later end (p ∷ placed) up rise = (omega (arith, up, rise.0), rise.1)

usable_places : (place last : ℕ) (stored : List StoredRecord) → PlacesRise place (place + length stored) (usable_from place last stored)
usable_places place last [] = omega arith
usable_places place last (item ∷ stored) = go (usable_places (place + 1) item.fields.uid stored) (usable_places (place + 1) last stored) (is_usable last item)
  where
    go : PlacesRise (place + 1) (place + 1 + length stored) (usable_from (place + 1) item.fields.uid stored) → PlacesRise (place + 1) (place + 1 + length stored) (usable_from (place + 1) last stored) → (b : Bool)
        → PlacesRise place (place + suc (length stored)) (if b then (place, item.fields) ∷ usable_from (place + 1) item.fields.uid stored else usable_from (place + 1) last stored)
    go taken passed true =
        let end : place + suc (length stored) ≡ place + 1 + length stored = omega arith in
        rw end (omega arith, taken)
    go taken passed false =
        let end : place + suc (length stored) ≡ place + 1 + length stored = omega arith in
        rw end (places_sooner place (place + 1) (place + 1 + length stored) (usable_from (place + 1) last stored) (omega arith) passed)

-- the first place is none of these
gaps_first : (place end : ℕ) (placed : List (ℕ × IndexRecord)) → place < end → PlacesRise (place + 1) end placed → gaps place end placed ≡ place ∷ gaps (place + 1) end placed
gaps_first place end [] below rise =
    let count : end - place ≡ suc (end - (place + 1)) = omega (arith, below) in
    ap (range_with_len place) count
gaps_first place end (p ∷ placed) below rise =
    let count : p.0 - place ≡ suc (p.0 - (place + 1)) = omega (arith, rise.0) in
    ap (λ n. range_with_len place n ++ gaps (p.0 + 1) end placed) count

not_among : (place from end : ℕ) (placed : List (ℕ × IndexRecord)) → place < from → PlacesRise from end placed → list_any (λ p. p.0 == place) placed ≡ false
not_among place from end [] below rise = refl
not_among place from end (p ∷ placed) below rise =
    let other : (p.0 == place) ≡ false = ne_eqb p.0 place (λ e. omega (arith, e, below, rise.0)) in
    rw other (not_among place (p.0 + 1) end placed (omega (arith, below, rise.0)) rise.1)

-- a place before these does not matter
first_passed : (p : ℕ × IndexRecord) (placed : List (ℕ × IndexRecord)) (from count : ℕ) → p.0 < from
    → filter (λ place. not (list_any (λ q. q.0 == place) (p ∷ placed))) (range_with_len from count) ≡ filter (λ place. not (list_any (λ q. q.0 == place) placed)) (range_with_len from count)
first_passed p placed from zero before = refl
first_passed p placed from (suc count) before =
    let other : (p.0 == from) ≡ false = ne_eqb p.0 from (λ e. omega (arith, e, before)) in
    let rest = first_passed p placed (from + 1) count (omega (arith, before)) in
    rw other (ap (λ places. if not (list_any (λ q. q.0 == from) placed) then from ∷ places else places) rest)

ignored_gaps : (place last : ℕ) (stored : List StoredRecord)
    → filter (λ at. not (list_any (λ p. p.0 == at) (usable_from place last stored))) (range_with_len place (length stored)) ≡ gaps place (place + length stored) (usable_from place last stored)
ignored_gaps place last [] = let none : place + 0 - place ≡ 0 = omega arith in rw none refl
ignored_gaps place last (item ∷ stored) = go (is_usable last item) (ignored_gaps (place + 1) item.fields.uid stored) (ignored_gaps (place + 1) last stored) (usable_places (place + 1) last stored)
  where
    go : (b : Bool)
        → filter (λ at. not (list_any (λ p. p.0 == at) (usable_from (place + 1) item.fields.uid stored))) (range_with_len (place + 1) (length stored)) ≡ gaps (place + 1) (place + 1 + length stored) (usable_from (place + 1) item.fields.uid stored)
        → filter (λ at. not (list_any (λ p. p.0 == at) (usable_from (place + 1) last stored))) (range_with_len (place + 1) (length stored)) ≡ gaps (place + 1) (place + 1 + length stored) (usable_from (place + 1) last stored)
        → PlacesRise (place + 1) (place + 1 + length stored) (usable_from (place + 1) last stored)
        → filter (λ at. not (list_any (λ p. p.0 == at) (if b then (place, item.fields) ∷ usable_from (place + 1) item.fields.uid stored else usable_from (place + 1) last stored))) (place ∷ range_with_len (place + 1) (length stored))
        ≡ gaps place (place + suc (length stored)) (if b then (place, item.fields) ∷ usable_from (place + 1) item.fields.uid stored else usable_from (place + 1) last stored)
    go true taken passed rise =
        let here : (place == place) ≡ true = eq-eqb place place refl in
        let none : place - place ≡ 0 = omega arith in
        let end : place + suc (length stored) ≡ place + 1 + length stored = omega arith in
        let rest = first_passed (place, item.fields) (usable_from (place + 1) item.fields.uid stored) (place + 1) (length stored) (omega arith) in
        rw (here, none, end) (rest ∙ taken)
    go false taken passed rise =
        let other = not_among place (place + 1) (place + 1 + length stored) (usable_from (place + 1) last stored) (omega arith) rise in
        let end : place + suc (length stored) ≡ place + 1 + length stored = omega arith in
        rw (other, end) (ap (λ places. place ∷ places) passed ∙ sym (gaps_first place (place + 1 + length stored) (usable_from (place + 1) last stored) (omega arith) rise))

pub ignored_are_gaps : (stored : List StoredRecord) → ignored_in stored ≡ gaps 0 (length stored) (usable_records stored)
ignored_are_gaps stored =
    let end : 0 + length stored ≡ length stored = omega arith in
    ignored_gaps 0 0 stored ∙ ap (λ n. gaps 0 n (usable_records stored)) end

pub places_rise : (stored : List StoredRecord) → PlacesRise 0 (length stored) (usable_records stored)
places_rise stored =
    let end : 0 + length stored ≡ length stored = omega arith in
    subst (λ n. PlacesRise 0 n (usable_records stored)) end (usable_places 0 0 stored)

pub places_within : (from end : ℕ) (p : ℕ × IndexRecord) (placed : List (ℕ × IndexRecord)) → PlacesRise from end (p ∷ placed) → p.0 < end
places_within from end p placed rise = omega (arith, places_later (p.0 + 1) end placed rise.1)

-- the lines of the gaps, one place of a usable record further
pub gaps_more : (text : List ℕ) (from end : ℕ) (p : ℕ × IndexRecord) (placed : List (ℕ × IndexRecord))
    → (text ++ flat_map ignored_line (range_with_len from (p.0 - from))) ++ flat_map ignored_line (gaps (p.0 + 1) end placed) ≡ text ++ flat_map ignored_line (gaps from end (p ∷ placed))
gaps_more text from end p placed =
    append_assoc text (flat_map ignored_line (range_with_len from (p.0 - from))) (flat_map ignored_line (gaps (p.0 + 1) end placed))
    ∙ ap (λ t. text ++ t) (sym (flat_map-append ignored_line (range_with_len from (p.0 - from)) (gaps (p.0 + 1) end placed)))
