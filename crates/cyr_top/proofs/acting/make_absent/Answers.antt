use Rattle.std.proofs.Common.{ℕ, Option, subst}
use Rattle.base_devices.specs.CrashImages.{WhereRead}
use Rattle.base_devices.specs.DiskCalls.{IsLength}
use Rattle.cyr_top.proofs.MakeLemmas.{made_before, made_now}
use Rattle.cyr_top.proofs.acting.make_absent.Goals as goal

pub returns-in-Ok-Some-clause-made : goal.returns-in-Ok-Some-clause-made
returns-in-Ok-Some-clause-made g c =
    made_before g.B.Db.kind _ _ _ c.in-Ok-Some.field-0-0
    (subst (λ (l : Option ℕ). WhereRead (g.H.Disk.state c.args.host.now) (λ main. IsLength main l)) c.in-Ok-Some.field-0-is c.in-Ok-Some.ensures.length) c.length.ensures.main c.length.ensures.call c.length.ensures.fresh

pub returns-in-Ok-None-clause-made : goal.returns-in-Ok-None-clause-made
returns-in-Ok-None-clause-made g c =
    let on = g.met.H.Disk.rest_goes_on in
    made_now g.B.Db.kind _ _ _ c.create.result
    (subst (λ (l : Option ℕ). WhereRead (g.H.Disk.state c.args.host.now) (λ main. IsLength main l)) c.in-Ok-None.field-0-is c.in-Ok-None.ensures.length)
    c.length.ensures.main c.length.ensures.call (on _ _ c.length.ensures.rest) (on _ _ c.create.ensures.rest) (g.met.H.Disk.is_moment _) c.create.ensures.replaces c.create.ensures.any_moment
