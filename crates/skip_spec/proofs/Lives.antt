-- The live records of the relation are those of the function.
use Rattle.std.proofs.Common.{◌≡◌, ◌≢◌, ℕ, zero, suc, ◌+◌, ◌<◌, ◌≤◌, Bool, true, false, cond, eqb, List, [], ◌∷◌, length, refl, sym, ap, subst, ◌∙◌, arith}
use Rattle.std.proofs.lemmas.Bool.{eq-eqb, ne_eqb}
use Rattle.base_bytes.specs.OrderedMap.{IsBelow}
use Rattle.skip_form.specs.Flaws.{head_in}
use Rattle.skip_spec.specs.Records.{key_in}
use Rattle.skip_spec.specs.Rows.{IsAmong, Rows}
use Rattle.skip_spec.specs.Successor.{successor_under}
use Rattle.skip_spec.specs.Chain.{Entry, Chain, StandsAsEntry, entry_at}
use Rattle.skip_spec.specs.Opens.{Contents, Reads}
use Rattle.skip_spec.specs.Live.{entries_after, live_under, Live}
use Rattle.skip_spec.specs.FirstFlaw.{is_below}
use Rattle.skip_spec.proofs.AnAnswer.{rank, rank_lt}
use Rattle.skip_spec.proofs.Successors.{chosen_first, chosen_second, high_start, successor_of}

-- ---- how many there may be

step_count : (b : Bool) (m n : ℕ) → m ≤ n → cond b (suc m) m ≤ suc n
step_count true m n le = omega arith
step_count false m n le = omega arith

rank_few : (file key : List ℕ) (ss : List ℕ) → rank file key ss ≤ length ss
rank_few file key [] = omega arith
rank_few file key (s ∷ ss) = step_count (is_below key (key_in file s)) (rank file key ss) (length ss) (rank_few file key ss)

pub chain_few : (file : List ℕ) (bound : ℕ) (starts : List ℕ) (at : ℕ) (key : List ℕ) (es : List Entry) → Chain file bound starts at key es → length es ≤ rank file key starts
chain_few file bound starts at key [] c = omega arith
chain_few file bound starts at key (e ∷ es) c =
    let is = c.1 in
    let rest = chain_few file bound starts e.at e.key es c.3 in
    let above = subst (λ (k : List ℕ). IsBelow key k) (sym is.key) c.2 in
    let falls = rank_lt file key starts e.at above is.start in
    let same = ap (λ (k : List ℕ). rank file k starts) is.key in
    omega (arith, rest, falls, same)

pub rows_few : (file : List ℕ) (from : ℕ) (ss : List ℕ) (to : ℕ) → Rows file from ss to → from + length ss ≤ to
rows_few file from [] to r = omega (arith, r)
rows_few file from (s ∷ ss) to r =
    let rest = rows_few file (from + (head_in file from).size) ss to r.2 in
    omega (arith, rest, r.1.head.size)

-- the live records are fewer than the bytes before the end
pub live_few : (file : List ℕ) (bound : ℕ) (starts : List ℕ) (es : List Entry) → Rows file 336 starts bound → Chain file bound starts 64 [] es → length es < bound
live_few file bound starts es rows c = omega (arith, chain_few file bound starts 64 [] es c, rank_few file [] starts, rows_few file 336 starts bound rows)

-- ---- the function

entry_is : (file starts : List ℕ) (e : Entry) → StandsAsEntry file starts e → entry_at file e.at ≡ e
entry_is file starts e is = let level = is.level in let key = is.key in let value = is.value in λ i. record { at = e.at; level = level i; key = key i; value = value i }

module _ (file starts : List ℕ) (some : (v : ℕ) → IsAmong starts v → v ≢ 0) (bound : ℕ) where
  -- a step of the function
  abbrev after : ℕ → ℕ → List Entry
  after most next = cond (eqb next 0) [] (entry_at file next ∷ entries_after most file bound next)

  entries_are : (most at : ℕ) (key : List ℕ) (es : List Entry) → Chain file bound starts at key es → length es ≤ most → entries_after most file bound at ≡ es
  unfolding entries_after
  entries_are zero at key [] c le = refl
  entries_are zero at key (e ∷ es) c le = absurd (omega (arith, le))
  entries_are (suc most) at key [] c le =
      chosen_first (eqb (successor_under file bound at) 0) [] (entry_at file (successor_under file bound at) ∷ entries_after most file bound (successor_under file bound at)) (eq-eqb _ 0 (successor_of file starts some bound at 0 c))
  entries_are (suc most) at key (e ∷ es) c le =
      let next = successor_of file starts some bound at e.at c.0 in
      let here = entry_is file starts e c.1 in
      let rest = entries_are most e.at e.key es c.3 (omega (arith, le)) in
      ap (after most) next
      ∙ chosen_second (eqb e.at 0) [] (entry_at file e.at ∷ entries_after most file bound e.at) (ne_eqb e.at 0 (some e.at c.1.start))
      ∙ (λ i. here i ∷ rest i)

pub live_is : (file starts : List ℕ) (bound : ℕ) (es : List Entry) → Rows file 336 starts bound → bound ≤ length file → Chain file bound starts 64 [] es → live_under file bound ≡ es
live_is file starts bound es rows inside c =
    entries_are file starts (high_start file starts bound rows) bound (length file) 64 [] es c (omega (arith, live_few file bound starts es rows c))

pub file_lives : (file : List ℕ) (says : Contents) → Reads file says → live_under file says.header.current_size ≡ says.chain
file_lives file says r = live_is file says.starts says.header.current_size says.chain r.rows r.inside r.chain

pub bytes_live : (bytes starts : List ℕ) (es : List Entry) → Live bytes starts es → live_under bytes (length bytes) ≡ es
bytes_live bytes starts es l = live_is bytes starts (length bytes) es l.listed.log.rows (omega arith) l.listed.log.chain
