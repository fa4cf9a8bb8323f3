use Rattle.std.proofs.Common.{◌∙◌, sym}
use Rattle.base_devices.proofs.Lengths.{told_length}
use Rattle.base_devices.proofs.Moments.{stays_then}
use Rattle.twoskip.proofs.OpeningLemmas.{checks_as}
use Rattle.twoskip.proofs.opening.check_db.Goals as goal

pub read_image-requires-clause-size : goal.read_image-requires-clause-size
read_image-requires-clause-size g c = told_length _ c.in_ok-size.size (λ main is. c.in_ok-size.ensures.answered main (sym c.file_size.ensures.stays.main.reads ∙ is))

pub returns-clause-checks : goal.returns-clause-checks
returns-clause-checks g c =
    checks_as (g.D.Disk.state c.args.disk.now) c.in_ok-image.image.bytes c.in_ok-summary.summary.count c.in_ok-summary.summary.clean
    (λ main is. c.in_ok-image.ensures.read main (c.file_size.ensures.stays.main.reads ∙ is)) c.in_ok-image.ensures.size c.in_ok-summary.ensures.found

pub returns-clause-stays : goal.returns-clause-stays
returns-clause-stays g c =
    let on = g.met.D.Disk.rest_goes_on in
    stays_then _ _ _ (on _ _ c.file_size.ensures.rest) (on _ _ c.read_image.ensures.rest) c.file_size.ensures.stays c.read_image.ensures.stays
