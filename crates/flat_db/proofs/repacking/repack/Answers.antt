use Rattle.std.proofs.Common.{sym, ◌∙◌, arith}
use Rattle.flat_db.proofs.RepackingLemmas.{full, without_memory, done, failed, tied_done}
use Rattle.flat_db.proofs.repacking.repack.Goals as goal

pub returns-then-size-gt-FLAT_LIMIT-clause-repacks : goal.returns-then-size-gt-FLAT_LIMIT-clause-repacks
returns-then-size-gt-FLAT_LIMIT-clause-repacks g c =
    let sound = sym c.is_broken.ensures ∙ c.if-is_broken.false in
    full c.db.inside.bytes.items c.db.inside.seen c.db.inside.stage c.args.db.now c.db.view_is c.db.invariant (g.D.Disk.state c.args.disk.now) (g.met.D.Disk.is_moment _) sound (c.requires.closed sound) c.requires.tied (omega (arith, c.if-size-gt-FLAT_LIMIT.true))

pub returns-in_default-clause-repacks : goal.returns-in_default-clause-repacks
returns-in_default-clause-repacks g c =
    let sound = sym c.is_broken.ensures ∙ c.if-is_broken.false in
    without_memory c.db.inside.bytes.items c.db.inside.seen c.db.inside.stage c.args.db.now c.db.view_is c.db.invariant (g.D.Disk.state c.args.disk.now) (g.met.D.Disk.is_moment _) sound (c.requires.closed sound) c.requires.tied

pub returns-in-Ok-replace-clause-repacks : goal.returns-in-Ok-replace-clause-repacks
returns-in-Ok-replace-clause-repacks g c =
    let sound = sym c.is_broken.ensures ∙ c.if-is_broken.false in
    done c.db.inside.bytes.items c.db.inside.seen c.db.inside.stage c.args.db.now c.db.view_is c.db.invariant (g.D.Disk.state c.args.disk.now) (g.met.D.Disk.is_moment _) sound (c.requires.closed sound) c.requires.tied
    c.deref.result.now c.deref.ensures.value (omega (arith, c.if-size-gt-FLAT_LIMIT.false)) (g.D.Disk.state c.replace.new.disk) c.in-Ok-replace.field-0 tt c.in-Ok-replace.ensures.replaces c.in-Ok-replace.ensures.any_moment c.in-Ok-replace.ensures.cause

pub returns-in-Ok-replace-clause-tied : goal.returns-in-Ok-replace-clause-tied
returns-in-Ok-replace-clause-tied g c =
    let sound = sym c.is_broken.ensures ∙ c.if-is_broken.false in
    tied_done c.db.inside.bytes.items c.db.inside.seen c.db.inside.stage c.args.db.now c.db.view_is c.db.invariant (g.D.Disk.state c.args.disk.now) (g.met.D.Disk.is_moment _) sound (c.requires.closed sound) c.requires.tied
    c.deref.result.now c.deref.ensures.value (omega (arith, c.if-size-gt-FLAT_LIMIT.false)) (g.D.Disk.state c.replace.new.disk) c.in-Ok-replace.field-0 (g.met.D.Disk.rest_goes_on _ _ c.in-Ok-replace.ensures.rest) (g.met.D.Disk.is_moment _) c.in-Ok-replace.ensures.replaces

pub returns-clause-repacks : goal.returns-clause-repacks
returns-clause-repacks g c =
    let sound = sym c.is_broken.ensures ∙ c.if-is_broken.false in
    failed c.db.inside.bytes.items c.db.inside.seen c.db.inside.stage c.args.db.now c.db.view_is c.db.invariant (g.D.Disk.state c.args.disk.now) (g.met.D.Disk.is_moment _) sound (c.requires.closed sound) c.requires.tied
    c.deref.result.now c.deref.ensures.value (omega (arith, c.if-size-gt-FLAT_LIMIT.false)) (g.D.Disk.state c.replace.new.disk) c.in-Err.field-0 c.in-Err.ensures.any_moment c.in-Err.ensures.cause
