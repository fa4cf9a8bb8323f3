use Rattle.std.proofs.Common.{refl}
use Rattle.twoskip.proofs.opening.verify.Goals as goal

pub returns-in-Err-clause-flaw : goal.returns-in-Err-clause-flaw
returns-in-Err-clause-flaw c = (
  tt,
  record {
    bytes = c.args.image.now.bytes;
    there = refl;
    within = c.requires.within;
    so = record { bytes = c.requires.bytes; first = (c.in-Err.ensures.flaw c.in-Err.field-0).0 refl };
  },
)
