use Rattle.std.proofs.Common.{◌∙◌, Err, sym, subst}
use Rattle.std.proofs.lemmas.Result.{err_from_is_err_and}
use Rattle.base_devices.specs.Time.{goes_then}
use Rattle.base_devices.proofs.Lengths.{told_length, told_there}
use Rattle.db_core.specs.Opening.{IsDeviceFault, OpensDisk}
use Rattle.skip_image.specs.Image.{ImageView}
use Rattle.skip_kind.specs.Kind.{skip_kind}
use Rattle.twoskip.specs.Opening.{IsRead}
use Rattle.twoskip.proofs.SettlingLemmas.{fails_less, made_sure, opens_as, opens_in_place, read_is, reads_same, repacked_alike}
use Rattle.twoskip.proofs.opening.open_db.Goals as goal

pub sync-requires : goal.sync-requires
sync-requires g c = told_there _ c.in_ok-size.size (λ main is. c.in_ok-size.ensures.answered main (sym c.file_size.ensures.stays.main.reads ∙ is))

pub read_image-requires-clause-size : goal.read_image-requires-clause-size
read_image-requires-clause-size g c = told_length _ c.in_ok-size.size (λ main is. c.in_ok-size.ensures.answered main (sym c.file_size.ensures.stays.main.reads ∙ sym c.in-Ok.ensures.sync.reads ∙ is))

pub returns-in_err-image-clause-disk : goal.returns-in_err-image-clause-disk
returns-in_err-image-clause-disk g c =
    let on = g.met.D.Disk.rest_goes_on in
    let moment = g.met.D.Disk.is_moment in
    let state = g.D.Disk.state in
    let sure = made_sure c.in-Ok.field-0 (state c.args.disk.now) (state c.file_size.new.disk) (state c.sync.new.self) (state c.read_image.new.disk) (moment _) (moment _)
    (on _ _ c.file_size.ensures.rest) (on _ _ c.sync.ensures.rest) (on _ _ c.read_image.ensures.rest)
    c.file_size.ensures.stays c.file_size.ensures.fresh c.in-Ok.ensures.call c.in-Ok.ensures.sync c.read_image.ensures.stays c.read_image.ensures.fresh in
    let exit = err_from_is_err_and c.from_residual-in_err-image.result c.from_residual-in_err-image.ensures.1 in
    fails_less _ _ c.from_residual-in_err-image.result exit.0 exit.1 sure.less (λ damage. sure.durable)

pub returns-in_err-summary-clause-disk : goal.returns-in_err-summary-clause-disk
returns-in_err-summary-clause-disk g c =
    let on = g.met.D.Disk.rest_goes_on in
    let moment = g.met.D.Disk.is_moment in
    let state = g.D.Disk.state in
    let sure = made_sure c.in-Ok.field-0 (state c.args.disk.now) (state c.file_size.new.disk) (state c.sync.new.self) (state c.read_image.new.disk) (moment _) (moment _)
    (on _ _ c.file_size.ensures.rest) (on _ _ c.sync.ensures.rest) (on _ _ c.read_image.ensures.rest)
    c.file_size.ensures.stays c.file_size.ensures.fresh c.in-Ok.ensures.call c.in-Ok.ensures.sync c.read_image.ensures.stays c.read_image.ensures.fresh in
    let exit = err_from_is_err_and c.from_residual-in_err-summary.result c.from_residual-in_err-summary.ensures.1 in
    fails_less _ _ c.from_residual-in_err-summary.result exit.0 exit.1 sure.less (λ damage. sure.durable)

pub returns-in_err-settle-clause-disk : goal.returns-in_err-settle-clause-disk
returns-in_err-settle-clause-disk g c =
    let on = g.met.D.Disk.rest_goes_on in
    let moment = g.met.D.Disk.is_moment in
    let state = g.D.Disk.state in
    let sure = made_sure c.in-Ok.field-0 (state c.args.disk.now) (state c.file_size.new.disk) (state c.sync.new.self) (state c.read_image.new.disk) (moment _) (moment _)
    (on _ _ c.file_size.ensures.rest) (on _ _ c.sync.ensures.rest) (on _ _ c.read_image.ensures.rest)
    c.file_size.ensures.stays c.file_size.ensures.fresh c.in-Ok.ensures.call c.in-Ok.ensures.sync c.read_image.ensures.stays c.read_image.ensures.fresh in
    let read = subst (λ (i : ImageView). IsRead i.bytes c.in_ok-summary.summary.count c.in_ok-summary.summary.clean (state c.read_image.new.disk)) (sym c.verify.ensures.same)
    (read_is (state c.read_image.new.disk) c.in_ok-image.image.bytes _ _ c.in_ok-image.ensures.bytes c.in_ok-image.ensures.size c.in_ok-summary.ensures.found
    (λ main is. c.in_ok-image.ensures.read main (sym c.read_image.ensures.stays.main.reads ∙ is)) sure.durable) in
    let exit = err_from_is_err_and c.from_residual-in_err-settle.result c.from_residual-in_err-settle.ensures.1 in
    subst (OpensDisk skip_kind (state c.args.disk.now) (state c.settle.new.disk)) (sym exit.1)
    (opens_in_place (state c.args.disk.now) (state c.read_image.new.disk) (state c.settle.new.disk) _ _ _ read sure.less sure.reads c.in_err-settle.ensures.disk (Err exit.0)
    sure.time (on _ _ c.settle.ensures.rest) (moment _) tt (subst IsDeviceFault (sym exit.2) c.in_err-settle.ensures.fault))

pub returns-in_err-settle-clause-rest : goal.returns-in_err-settle-clause-rest
returns-in_err-settle-clause-rest g c =
    let then = g.met.D.Disk.rest_then in
    then _ _ _ (then _ _ _ (then _ _ _ c.file_size.ensures.rest c.sync.ensures.rest) c.read_image.ensures.rest) c.settle.ensures.rest

pub returns-clause-opens : goal.returns-clause-opens
returns-clause-opens g c =
    let on = g.met.D.Disk.rest_goes_on in
    let moment = g.met.D.Disk.is_moment in
    let state = g.D.Disk.state in
    let sure = made_sure c.in-Ok.field-0 (state c.args.disk.now) (state c.file_size.new.disk) (state c.sync.new.self) (state c.read_image.new.disk) (moment _) (moment _)
    (on _ _ c.file_size.ensures.rest) (on _ _ c.sync.ensures.rest) (on _ _ c.read_image.ensures.rest)
    c.file_size.ensures.stays c.file_size.ensures.fresh c.in-Ok.ensures.call c.in-Ok.ensures.sync c.read_image.ensures.stays c.read_image.ensures.fresh in
    let read = subst (λ (i : ImageView). IsRead i.bytes c.in_ok-summary.summary.count c.in_ok-summary.summary.clean (state c.read_image.new.disk)) (sym c.verify.ensures.same)
    (read_is (state c.read_image.new.disk) c.in_ok-image.image.bytes _ _ c.in_ok-image.ensures.bytes c.in_ok-image.ensures.size c.in_ok-summary.ensures.found
    (λ main is. c.in_ok-image.ensures.read main (sym c.read_image.ensures.stays.main.reads ∙ is)) sure.durable) in
    opens_as (state c.args.disk.now) (state c.read_image.new.disk) (state c.settle.new.disk) _ _ _ _ c.over.result read sure.reads c.in_ok-settle.ensures.settled (c.over.ensures ∙ c.new.ensures)

pub returns-clause-disk : goal.returns-clause-disk
returns-clause-disk g c =
    let on = g.met.D.Disk.rest_goes_on in
    let moment = g.met.D.Disk.is_moment in
    let state = g.D.Disk.state in
    let sure = made_sure c.in-Ok.field-0 (state c.args.disk.now) (state c.file_size.new.disk) (state c.sync.new.self) (state c.read_image.new.disk) (moment _) (moment _)
    (on _ _ c.file_size.ensures.rest) (on _ _ c.sync.ensures.rest) (on _ _ c.read_image.ensures.rest)
    c.file_size.ensures.stays c.file_size.ensures.fresh c.in-Ok.ensures.call c.in-Ok.ensures.sync c.read_image.ensures.stays c.read_image.ensures.fresh in
    let read = subst (λ (i : ImageView). IsRead i.bytes c.in_ok-summary.summary.count c.in_ok-summary.summary.clean (state c.read_image.new.disk)) (sym c.verify.ensures.same)
    (read_is (state c.read_image.new.disk) c.in_ok-image.image.bytes _ _ c.in_ok-image.ensures.bytes c.in_ok-image.ensures.size c.in_ok-summary.ensures.found
    (λ main is. c.in_ok-image.ensures.read main (sym c.read_image.ensures.stays.main.reads ∙ is)) sure.durable) in
    opens_in_place (state c.args.disk.now) (state c.read_image.new.disk) (state c.settle.new.disk) _ _ _ read sure.less sure.reads c.in_ok-settle.ensures.disk _
    sure.time (on _ _ c.settle.ensures.rest) (moment _) c.in_ok-settle.ensures.settled.durable tt

pub returns-clause-reads : goal.returns-clause-reads
returns-clause-reads g c =
    let on = g.met.D.Disk.rest_goes_on in
    let moment = g.met.D.Disk.is_moment in
    let state = g.D.Disk.state in
    let sure = made_sure c.in-Ok.field-0 (state c.args.disk.now) (state c.file_size.new.disk) (state c.sync.new.self) (state c.read_image.new.disk) (moment _) (moment _)
    (on _ _ c.file_size.ensures.rest) (on _ _ c.sync.ensures.rest) (on _ _ c.read_image.ensures.rest)
    c.file_size.ensures.stays c.file_size.ensures.fresh c.in-Ok.ensures.call c.in-Ok.ensures.sync c.read_image.ensures.stays c.read_image.ensures.fresh in
    let read = subst (λ (i : ImageView). IsRead i.bytes c.in_ok-summary.summary.count c.in_ok-summary.summary.clean (state c.read_image.new.disk)) (sym c.verify.ensures.same)
    (read_is (state c.read_image.new.disk) c.in_ok-image.image.bytes _ _ c.in_ok-image.ensures.bytes c.in_ok-image.ensures.size c.in_ok-summary.ensures.found
    (λ main is. c.in_ok-image.ensures.read main (sym c.read_image.ensures.stays.main.reads ∙ is)) sure.durable) in
    reads_same (state c.args.disk.now) (state c.read_image.new.disk) (state c.settle.new.disk) _ _ _ read sure.less sure.reads c.in_ok-settle.ensures.disk

pub returns-clause-repacked : goal.returns-clause-repacked
returns-clause-repacked g c =
    let on = g.met.D.Disk.rest_goes_on in
    let moment = g.met.D.Disk.is_moment in
    let state = g.D.Disk.state in
    let sure = made_sure c.in-Ok.field-0 (state c.args.disk.now) (state c.file_size.new.disk) (state c.sync.new.self) (state c.read_image.new.disk) (moment _) (moment _)
    (on _ _ c.file_size.ensures.rest) (on _ _ c.sync.ensures.rest) (on _ _ c.read_image.ensures.rest)
    c.file_size.ensures.stays c.file_size.ensures.fresh c.in-Ok.ensures.call c.in-Ok.ensures.sync c.read_image.ensures.stays c.read_image.ensures.fresh in
    let read = subst (λ (i : ImageView). IsRead i.bytes c.in_ok-summary.summary.count c.in_ok-summary.summary.clean (state c.read_image.new.disk)) (sym c.verify.ensures.same)
    (read_is (state c.read_image.new.disk) c.in_ok-image.image.bytes _ _ c.in_ok-image.ensures.bytes c.in_ok-image.ensures.size c.in_ok-summary.ensures.found
    (λ main is. c.in_ok-image.ensures.read main (sym c.read_image.ensures.stays.main.reads ∙ is)) sure.durable) in
    repacked_alike (state c.args.disk.now) (state c.read_image.new.disk) (state c.settle.new.disk) _ _ _ read sure.less sure.reads c.in_ok-settle.ensures.disk
    _ (goes_then _ _ _ (moment _) sure.time (on _ _ c.settle.ensures.rest)) c.in_ok-settle.ensures.settled c.in_ok-settle.ensures.settled.tied.tied.reads

pub returns-clause-rest : goal.returns-clause-rest
returns-clause-rest g c =
    let then = g.met.D.Disk.rest_then in
    then _ _ _ (then _ _ _ (then _ _ _ c.file_size.ensures.rest c.sync.ensures.rest) c.read_image.ensures.rest) c.settle.ensures.rest
