use Rattle.std.proofs.Common.{ℕ, Option, Some, ap, sym, ◌∙◌}
use Rattle.base_bytes.specs.declared.flaw.Damage.{Damage}
use Rattle.skip_spec.specs.FirstFlaw.{at_header_place}
use Rattle.skip_image.proofs.front.header_of.Goals as goal

pub returns-in-Err-clause-finds : goal.returns-in-Err-clause-finds
returns-in-Err-clause-finds c =
    ap at_header_place ((c.read_header.ensures.flaw c.in-Err.check).0 c.in-Err.is)
    ∙ ap (λ (at : ℕ). let o : Option Damage = Some (record { at = at; check = c.in-Err.check }) in o) (sym c.header_place.ensures)
