use Rattle.std.proofs.Common.{◌∙◌, sym, ap}
use Rattle.db_core.specs.Sessions.{DbState}
use Rattle.db_core.proofs.DbLemmas.{whole_made, whole_refused, sound_begun}
use Rattle.db_core.proofs.transaction.run_changes.Goals as goal

pub returns-in-Ok-clause-whole : goal.returns-in-Ok-clause-whole
returns-in-Ok-clause-whole g c =
    let on = g.met.D.Disk.rest_goes_on in
    let start = c.in_ok-begin.ensures.answer in
    whole_made g.D.Disk.state g.B.Db.kind c.args.changes.now _ _ _ _ _ _ _ c.commit.result start.ok start.done (on _ _ c.apply_all.ensures.rest) (on _ _ c.commit.ensures.rest)
    c.in-Ok.ensures.some c.commit.ensures.commit c.commit.ensures.has_memory c.commit.ensures.unharmed

pub returns-in-Err-clause-whole : goal.returns-in-Err-clause-whole
returns-in-Err-clause-whole g c =
    let on = g.met.D.Disk.rest_goes_on in
    let start = c.in_ok-begin.ensures.answer in
    let sound = sound_begun (g.B.Db.state c.args.db.now) _ start.ok start.done in
    let whole = ap (λ (s : DbState). s.is_broken) (sym start.done) ∙ sound in
    whole_refused g.B.Db.kind c.args.changes.now _ _ _ _ c.in-Err.fault c.give_up.result _ _ _ start.ok start.done
    (g.met.B.Db.outside _ whole (c.requires.closed whole)) (on _ _ c.apply_all.ensures.rest) (on _ _ c.give_up.ensures.rest)
    c.in-Err.ensures.some (λ broken. ap g.D.Disk.state (c.give_up.ensures.broken broken)) c.give_up.ensures.gives_up
