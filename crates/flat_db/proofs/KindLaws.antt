-- Flat text keeps the laws of a kind of database.
use Rattle.std.proofs.Common.{ℕ, List, [], Some, refl, sym, ◌∙◌, subst, arith}
use Rattle.base_bytes.proofs.OrderedMaps.{empty_db_map}
use Rattle.db_core.specs.Sessions.{DbLaws}
use Rattle.flat_db.specs.FlatText.{FlatTextOf, SaysPairs}
use Rattle.flat_db.specs.Sessions.{flat_kind}
use Rattle.flat_db.proofs.Canonical.{canonical_reads_back, text_is_ordered}
use Rattle.flat_db.proofs.TextLaws.{text_is_one_map, first_flaw_is_one, flaw_or_map}

pub flat_laws : DbLaws flat_kind
flat_laws = record {
  within = λ c m opens. (opens.bytes, opens.there, opens.within);
  once = λ c m n one two. text_is_one_map one.bytes m n one.so (subst (λ (b : List ℕ). FlatTextOf b n) (cc (sym two.there ∙ one.there)) two.so);
  ordered = λ c m opens. text_is_ordered opens.bytes m opens.so;
  fresh = record { bytes = []; there = refl; within = omega arith; so = canonical_reads_back [] empty_db_map };
  first = λ bytes x y one two. cc (first_flaw_is_one bytes (Some x) (Some y) one two);
  never_both = λ bytes m x opens flaw. flaw_or_map bytes x opens.so.pairs flaw (subst (λ (b : List ℕ). SaysPairs b opens.so.pairs []) (cc opens.there) opens.so.lines);
}
