use Rattle.std.proofs.lemmas.Result.{err_from_is_err_and}
use Rattle.mail_scan.proofs.listing.list.Goals as goal

pub returns-in_err-gather-clause-too_many : goal.returns-in_err-gather-clause-too_many
returns-in_err-gather-clause-too_many g c is folder told =
    let fault = err_from_is_err_and c.from_residual.result c.from_residual.ensures.1 in
    c.gather.ensures.too_many (cc (c.in_err-gather.was, fault.1, fault.2, is)) folder told
