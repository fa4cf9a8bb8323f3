use Rattle.std.proofs.Common.{sym, subst}
use Rattle.skip_image.specs.Image.{ImageView}
use Rattle.skip_seek.specs.Searches.{IsLive}
use Rattle.txn_tests.proofs.Settling.{clean_live}
use Rattle.txn_tests.proofs.tests.searches.image_of.Goals as goal

pub returns-in-Ok : goal.returns-in-Ok
returns-in-Ok c = subst (λ (i : ImageView). IsLive i.bytes) (sym c.in-Ok.ensures.same) (clean_live _ _ _ c.in-Ok.ensures.verified c.if-found.true)
