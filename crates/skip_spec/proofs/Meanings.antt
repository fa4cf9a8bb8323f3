-- The laws of files and maps.
use Rattle.std.proofs.Common.{◌≡◌, ℕ, List, [], ◌∷◌, sym, ap, subst, ◌∙◌, inl, inr, arith}
use Rattle.base_bytes.specs.OrderedMap.{Map, IsOrderedMap, BeginsAbove}
use Rattle.skip_spec.specs.Chain.{Entry, Chain, pairs}
use Rattle.skip_spec.specs.Opens.{Contents, Opens, with_dirty}
use Rattle.skip_spec.specs.Near.{Near}
use Rattle.skip_spec.proofs.Kept.{reads_kept}
use Rattle.skip_spec.proofs.Unique.{reads_same}

pub opens_one : (file : List ℕ) (m n : Map) → Opens file m → Opens file n → m ≡ n
opens_one file m n o p = sym o.map ∙ ap (λ (f : Contents). pairs f.chain) (reads_same file o.says p.says o.reads p.reads) ∙ p.map

pub opens_alike : (base image : List ℕ) (m : Map) → Opens base m → Near base image → Opens image m
opens_alike base image m o (inl e) = subst (λ (b : List ℕ). Opens b m) (sym e) o
opens_alike base image m o (inr n) =
    let f = n.0 in
    record {
      says = record f { header = with_dirty f.header };
      reads = reads_kept base image f n.1 n.2;
      map = ap (λ (g : Contents). pairs g.chain) (reads_same base f o.says n.1 o.reads) ∙ o.map;
      sound = inl (omega arith);
    }

pub chain_rises : (file : List ℕ) (bound : ℕ) (starts : List ℕ) (at : ℕ) (key : List ℕ) (es : List Entry) → Chain file bound starts at key es → BeginsAbove key (pairs es) × IsOrderedMap (pairs es)
chain_rises file bound starts at key [] c = (tt, tt)
chain_rises file bound starts at key (e ∷ es) c = (c.2, chain_rises file bound starts e.at e.key es c.3)

pub opens_ordered : (file : List ℕ) (m : Map) → Opens file m → IsOrderedMap m
opens_ordered file m o = subst IsOrderedMap o.map (chain_rises file o.says.header.current_size o.says.starts 64 [] o.says.chain o.reads.chain).1
