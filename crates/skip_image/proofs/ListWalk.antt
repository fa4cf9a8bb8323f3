-- Along the list of a file, record by record.
use Rattle.std.proofs.Common.{◌≡◌, ◌≢◌, ℕ, suc, ◌+◌, ◌≤◌, ◌<◌, Bool, true, false, cond, eqb, List, [], ◌∷◌, length, slice_index, Option, Some, None, refl, sym, ap, subst, ◌∙◌, inl, inr, arith}
use Rattle.std.proofs.lemmas.Bool.{cases_lt, eq-eqb, ne_eqb, lt-ltb, le-ltb}
use Rattle.base_bytes.specs.declared.flaw.Damage.{Damage}
use Rattle.base_bytes.specs.Fields.{part, AreBytes}
use Rattle.skip_form.specs.declared.head.Kind as kinds
use Rattle.skip_form.specs.Flaws.{head_in}
use Rattle.skip_spec.specs.Records.{key_in, head_size_of}
use Rattle.skip_spec.specs.Chain.{Entry, entry_at}
use Rattle.skip_spec.specs.FirstFlaw.{end_of, way_flaw, live_flaw, end_flaw, next_flaw, successor, latest, latest_key, latest_on, RightRows, RightLive, InChain}
use Rattle.skip_spec.proofs.AnAnswer.{rank, next_falls}
use Rattle.skip_spec.proofs.Flawless.{FrontIsRight, row_stands, rows_stand, successor_is, put_of}
use Rattle.skip_form.specs.Spelling.{IsLevelOf}
use Rattle.skip_spec.proofs.KindLemmas.{dummy_level, dummy_lengths}
use Rattle.skip_lists.specs.Heads.{HasSlots}
use Rattle.skip_image.specs.Image.{HasRecord}
use Rattle.skip_image.specs.Verifying.{AreLatest, HaveUppers, Raises, HasList}
use Rattle.skip_image.proofs.Exits.{step_over, stop_at, last_check}
use Rattle.skip_image.proofs.RowWalk.{row_among, rows_few}

rank_few : (file key : List ℕ) (starts : List ℕ) → rank file key starts ≤ length starts
rank_few file key [] = omega arith
rank_few file key (s ∷ ss) = go _ (rank_few file key ss)
  where
    go : (t : Bool) → rank file key ss ≤ length ss → cond t (suc (rank file key ss)) (rank file key ss) ≤ suc (length ss)
    go true le = omega (arith, le)
    go false le = omega (arith, le)

none_at : (file : List ℕ) (at count : ℕ) → count ≡ 0 → [] ≡ part file at count
unfolding part
none_at file at count e = subst (λ (n : ℕ). [] ≡ part file at n) (sym e) refl

-- a record with level-zero slots stands at the offset
pub record IsHead (file : List ℕ) (at : ℕ) : Type 0 where
  pub there : HasRecord file at
  pub low : 1 ≤ (head_in file at).level
  pub high : (head_in file at).level ≤ 31

pub slots_at : (file : List ℕ) (at : ℕ) → IsHead file at → HasSlots file at
slots_at file at h = record { low = h.low; high = h.high; inside = h.there.inside }

-- so many live records were passed, and the latest begins here
pub record Passed (file starts : List ℕ) (at count : ℕ) (latests : List ℕ) : Type 0 where
  pub passed : List Entry
  pub right : RightLive file starts passed
  pub here : latest passed ≡ at
  pub key : latest_key passed ≡ key_in file at
  pub last : AreLatest latests passed
  pub counted : length passed ≡ count
  pub few : rank file (latest_key passed) starts + count ≤ length starts

module _ (file : List ℕ) (bytes : AreBytes file) (front : FrontIsRight file) where
  pub dummy_head : IsHead file 64
  dummy_head =
      let is = row_stands file 64 bytes front.dummy in
      let high = dummy_level (head_in file 64) is.head (is.place.1 refl) in
      record { there = is; low = omega (arith, high); high = omega (arith, high) }

  dummy_key : [] ≡ key_in file 64
  dummy_key =
      let is = row_stands file 64 bytes front.dummy in
      none_at file (64 + head_size_of (head_in file 64)) (head_in file 64).key_len (dummy_lengths (head_in file 64) is.head (is.place.1 refl)).0

  pub dummy_uppers : (last : List ℕ) → ((level : ℕ) → 1 ≤ level → level ≤ 30 → slice_index last level ≡ 64) → HaveUppers file last
  dummy_uppers last all level low high =
      let is = row_stands file 64 bytes front.dummy in
      let top = dummy_level (head_in file 64) is.head (is.place.1 refl) in
      subst (λ (at : ℕ). HasRecord file at × (level < (head_in file at).level)) (sym (all level low high)) (is, omega (arith, top, high))

  pub passed_none : (starts last : List ℕ) → ((level : ℕ) → 1 ≤ level → level ≤ 30 → slice_index last level ≡ 64) → Passed file starts 64 0 last
  passed_none starts last all = record {
    passed = [];
    right = tt;
    here = refl;
    key = dummy_key;
    last = all;
    counted = refl;
    few = omega (arith, rank_few file [] starts);
  }

  module _ (starts : List ℕ) (rows : RightRows file 336 starts (end_of file)) where
    -- what comes after a right way
    pub next_head : (at : ℕ) → way_flaw file starts at ≡ None → successor file at ≢ 0 → IsHead file (successor file at)
    next_head at way some =
        let stand = rows_stand file 336 starts (end_of file) bytes rows in
        let s = successor_is file starts front.inside stand at way in
        let put = put_of file starts front.inside stand s.0 (successor file at) s.2 some in
        let is = row_stands file (successor file at) bytes (row_among file 336 starts (end_of file) (successor file at) rows put.0).0 in
        let level = subst (λ (k : kinds.Kind). IsLevelOf k (head_in file (successor file at)).level) put.1 is.head.level in
        record { there = is; low = level.0; high = level.1 }

    module _ (at count : ℕ) (last : List ℕ) (p : Passed file starts at count last) where
      way_there : (x : Option Damage) → way_flaw file starts at ≡ x → way_flaw file starts (latest p.passed) ≡ x
      way_there x e = ap (way_flaw file starts) p.here ∙ e

      to_there : successor file (latest p.passed) ≡ successor file at
      to_there = ap (successor file) p.here

      next_is : (x : Option Damage) → way_flaw file starts at ≡ None → cond (eqb (successor file (latest p.passed)) 0) (end_flaw file p.passed) (live_flaw file p.passed (successor file (latest p.passed))) ≡ x → next_flaw file starts p.passed ≡ x
      unfolding next_flaw
      next_is x way e = step_over (way_flaw file starts (latest p.passed)) _ (way_there None way) ∙ last_check _ ∙ e

      pub stops_on_way : (d : Damage) → way_flaw file starts at ≡ Some d → InChain file starts (Some d)
      unfolding next_flaw
      stops_on_way d e = (p.passed, p.right, stop_at (way_flaw file starts (latest p.passed)) d _ (way_there (Some d) e), inl (λ none. absurd cc))

      at_end : (x : Option Damage) → way_flaw file starts at ≡ None → successor file at ≡ 0 → end_flaw file p.passed ≡ x → next_flaw file starts p.passed ≡ x
      at_end x way z e =
          next_is x way (ap (λ (b : Bool). cond b (end_flaw file p.passed) (live_flaw file p.passed (successor file (latest p.passed)))) (eq-eqb (successor file (latest p.passed)) 0 (to_there ∙ z)) ∙ e)

      pub stops_at_end : (d : Damage) → way_flaw file starts at ≡ None → successor file at ≡ 0 → end_flaw file p.passed ≡ Some d → InChain file starts (Some d)
      stops_at_end d way z e = (p.passed, p.right, at_end (Some d) way z e, inl (λ none. absurd cc))

      pub ends_here : way_flaw file starts at ≡ None → successor file at ≡ 0 → end_flaw file p.passed ≡ None → HasList file starts count
      ends_here way z e = (p.passed, p.right, at_end None way z e, to_there ∙ z, p.counted)

      at_live : (x : Option Damage) → way_flaw file starts at ≡ None → successor file at ≢ 0 → live_flaw file p.passed (successor file at) ≡ x → next_flaw file starts p.passed ≡ x
      at_live x way some e =
          let on = ne_eqb (successor file (latest p.passed)) 0 (λ z. some (sym to_there ∙ z)) in
          next_is x way (ap (λ (b : Bool). cond b (end_flaw file p.passed) (live_flaw file p.passed (successor file (latest p.passed)))) on ∙ ap (live_flaw file p.passed) to_there ∙ e)

      pub stops_at_live : (d : Damage) → way_flaw file starts at ≡ None → successor file at ≢ 0 → live_flaw file p.passed (successor file at) ≡ Some d → InChain file starts (Some d)
      stops_at_live d way some e = (p.passed, p.right, at_live (Some d) way some e, inl (λ none. absurd cc))

      -- the latest on a level, with one record more
      raised_latest : (e : Entry) (at height : ℕ) (new : List ℕ) → e.at ≡ at → e.level ≡ height → Raises at height last new → AreLatest new (e ∷ p.passed)
      raised_latest e at height new is_at is_level r level low high = elim (cases_lt level height) [
        | inl lt ↦ (r level low high).0 lt ∙ sym is_at ∙ sym (ap (λ (b : Bool). cond b e.at (latest_on level p.passed)) (lt-ltb level e.level (omega (arith, is_level))))
        | inr le ↦ (r level low high).1 le ∙ p.last level low high ∙ sym (ap (λ (b : Bool). cond b e.at (latest_on level p.passed)) (le-ltb level e.level (omega (arith, is_level))))
      ]

      pub passes_on : (new : List ℕ) → way_flaw file starts at ≡ None → successor file at ≢ 0 → live_flaw file p.passed (successor file at) ≡ None
          → Raises (successor file at) (head_in file (successor file at)).level last new → Passed file starts (successor file at) (count + 1) new
      passes_on new way some e r =
          let next = at_live None way some e in
          let going = λ (z : successor file (latest p.passed) ≡ 0). some (sym to_there ∙ z) in
          let falls = next_falls file starts p.passed next going in
          let entry = entry_at file (successor file (latest p.passed)) in
          record {
            passed = entry ∷ p.passed;
            right = (next, going, refl, p.right);
            here = to_there;
            key = ap (key_in file) to_there;
            last = raised_latest entry (successor file at) _ new to_there (ap (λ (v : ℕ). (head_in file v).level) to_there) r;
            counted = omega (arith, p.counted);
            few = omega (arith, falls, p.few);
          }

      -- so many records are not there
      pub not_so_many : length file ≤ count → ⊥
      not_so_many le = omega (arith, le, p.few, rows_few file 336 starts (end_of file) rows, front.inside)

-- the records of the upper levels, once a record was passed
pub raised_uppers : (file : List ℕ) (at : ℕ) (last new : List ℕ) → HasRecord file at → Raises at (head_in file at).level last new → HaveUppers file last → HaveUppers file new
raised_uppers file at last new is r have level low high = elim (cases_lt level (head_in file at).level) [
  | inl lt ↦ subst (λ (v : ℕ). HasRecord file v × (level < (head_in file v).level)) (sym ((r level low high).0 lt)) (is, lt)
  | inr le ↦ subst (λ (v : ℕ). HasRecord file v × (level < (head_in file v).level)) (sym ((r level low high).1 le)) (have level low high)
]
