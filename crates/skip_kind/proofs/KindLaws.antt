-- Twoskip keeps the laws of a kind of database.
use Rattle.std.proofs.Common.{◌≡◌, ◌≢◌, ℕ, List, [], ◌∷◌, length, Some, None, refl, sym, ◌∙◌, subst, inr, arith}
use Rattle.std.specs.List.{All}
use Rattle.std.proofs.lemmas.List.Elements.{All-nil, All-cons}
use Rattle.base_bytes.specs.OrderedMap.{Map, IsDbMap, IsOrderedMap, BeginsAbove, IsBelow}
use Rattle.base_bytes.proofs.OrderedMaps.{nothing_below, begins_above_then}
use Rattle.db_core.specs.Sessions.{DbLaws}
use Rattle.skip_spec.specs.Chain.{Entry, pairs}
use Rattle.skip_spec.specs.FirstFlaw.{FirstFlaw}
use Rattle.skip_spec.specs.Layout.{FitsLayout, fresh_contents, fresh_layout}
use Rattle.skip_spec.specs.Opens.{Opens}
use Rattle.skip_spec.proofs.LayoutLemmas.{fresh}
use Rattle.skip_spec.proofs.Meanings.{opens_one, chain_rises}
use Rattle.skip_spec.proofs.NoFlaw.{opens_flawless}
use Rattle.skip_spec.proofs.OneAnswer.{first_flaw_one}
use Rattle.skip_kind.specs.Kind.{skip_kind, skip_opens}

-- keys that rise from above the empty one are not empty
pub some_keys : (m : Map) → BeginsAbove [] m → IsOrderedMap m → All (λ p. p.0 ≢ []) m
some_keys [] above rises = All-nil (λ p. p.0 ≢ [])
some_keys (p ∷ m) above rises =
    let some : p.0 ≢ [] = λ none. nothing_below [] (subst (λ (k : List ℕ). IsBelow [] k) none above) in
    All-cons (λ q. q.0 ≢ []) p m some (some_keys m (begins_above_then [] p.0 m above rises.0) rises.1)

pub opens_sound : (file : List ℕ) (m : Map) → Opens file m → IsDbMap m
opens_sound file m o =
    let rises = chain_rises file o.says.header.current_size o.says.starts 64 [] o.says.chain o.reads.chain in
    subst IsDbMap o.map (record { ordered = rises.1; some = some_keys (pairs o.says.chain) rises.0 rises.1 })

empty_fits : FitsLayout 1 0 []
empty_fits = record { each = tt; some_keys = tt; ordered = tt; size = omega arith; generation_fits = omega arith; flags_fit = omega arith; clean = refl }

empty_length : length (fresh_layout 1 0 []) ≡ 336
empty_length = (fresh 1 0 [] empty_fits).size

-- the layout without a pair is the file of the empty map
pub empty_opens : Opens (fresh_layout 1 0 []) []
empty_opens =
    let is = fresh 1 0 [] empty_fits in
    record { says = fresh_contents 1 0 []; reads = is.reads; map = refl; sound = inr is.tidy }

pub skip_laws : DbLaws skip_kind
skip_laws = record {
  within = λ c m opens. (opens.bytes, opens.there, opens.within);
  once = λ c m n one two. opens_one one.bytes m n one.so (subst (λ (b : List ℕ). Opens b n) (cc (sym two.there ∙ one.there)) two.so);
  ordered = λ c m opens. opens_sound opens.bytes m opens.so;
  fresh = record { bytes = fresh_layout 1 0 []; there = refl; within = omega (arith, empty_length); so = empty_opens };
  first = λ bytes x y one two. cc (first_flaw_one bytes (Some x) (Some y) one.first two.first);
  never_both = λ bytes m x opens flaw. absurd (cc (first_flaw_one bytes (Some x) None flaw.first (opens_flawless bytes m flaw.bytes (subst (λ (b : List ℕ). Opens b m) (cc opens.there) opens.so))));
}
