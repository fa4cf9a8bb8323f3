use Rattle.std.proofs.Common.{length, sym, ◌∙◌}
use Rattle.db_fill.proofs.FillLemmas.{draws_none, pair_no_disk, refused_pair, refuses}
use Rattle.twoskip.specs.Filling.{skip_fill}
use Rattle.twoskip.proofs.filling.fill.Goals as goal

pub returns-in-Some-clause-fills : goal.returns-in-Some-clause-fills
returns-in-Some-clause-fills g c =
    let seen = (g.B.Db.state c.args.from.now).seen in
    let words = g.R.Rng.stream c.args.rng.now in
    let is = sym c.pairs_fault.ensures ∙ c.in-Some.is in
    refuses skip_fill seen (g.D.Disk.state c.args.to.now) words words c.in-Some.fault (g.met.D.Disk.is_moment _) (refused_pair skip_fill seen words c.in-Some.fault is) (pair_no_disk seen c.in-Some.fault is) (draws_none (length seen) words)
