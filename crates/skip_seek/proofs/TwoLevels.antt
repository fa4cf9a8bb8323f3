-- The file of 472 bytes has live records.
use Rattle.std.proofs.Common.{◌≡◌, refl, ap, arith, inl, inr}
use Rattle.base_bytes.specs.Fields.{part, u32_in}
use Rattle.skip_form.specs.declared.header.Header.{Header}
use Rattle.skip_form.specs.Flaws.{header_in}
use Rattle.skip_spec.specs.Examples.{two_levels_file, two_pairs}
use Rattle.skip_spec.specs.Opens.{Opens}
use Rattle.skip_spec.proofs.SameLog.{tidy_live}
use Rattle.skip_seek.specs.Searches.{IsLive}

is_clean : (header_in two_levels_file).flags ≡ 0
unfolding part u32_in
is_clean = refl

pub two_levels_live : (o : Opens two_levels_file two_pairs) → o.says.header ≡ header_in two_levels_file → IsLive two_levels_file
two_levels_live o is = elim o.sound [
  | inl dirty ↦ absurd (omega (arith, dirty, ap (λ (h : Header). h.flags) is, is_clean))
  | inr tidy ↦ (o.says.starts, o.says.chain, tidy_live two_levels_file o.says o.reads tidy)
]
