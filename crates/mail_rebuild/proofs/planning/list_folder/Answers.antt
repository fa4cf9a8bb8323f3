use Rattle.std.proofs.Common.{length, ap, arith}
use Rattle.std.proofs.lemmas.List.{length-map}
use Rattle.mail_scan.specs.Names.{name_of}
use Rattle.mail_rebuild.proofs.PlanLemmas.{listed_few}
use Rattle.mail_rebuild.proofs.planning.list_folder.Goals as goal

pub returns-then-uids-gt-FILES_LIMIT-clause-limit : goal.returns-then-uids-gt-FILES_LIMIT-clause-limit
returns-then-uids-gt-FILES_LIMIT-clause-limit g c files _ shown =
    let few = listed_few (g.S.Spool.state c.args.spool.now) files c.in-Ok.listing 1048576 shown c.in-Ok.ensures.names in
    let count = ap length c.uids.ensures in
    absurd (omega (arith, few, count, length-map c.uids.result.now name_of, c.if-uids-gt-FILES_LIMIT.true))
