use Rattle.std.proofs.Common.{⊎_elim, inl, inr, ℕ, Option, sym, ap, subst}
use Rattle.base_devices.specs.CrashImages.{WhereRead}
use Rattle.base_devices.specs.DiskCalls.{IsLength}
use Rattle.base_notes.specs.declared.note.Note.{Note}
use Rattle.cyr_top.specs.Asked.{fill_of}
use Rattle.cyr_top.specs.Converting.{DoesConversion, converting, with_both}
use Rattle.cyr_top.proofs.ConvertLemmas.{exists_does, filled_converts, refused_converts, unopened_converts}
use Rattle.cyr_top.proofs.converting.convert_files.Goals as goal

pub returns-in-Ok-Some-clause-does : goal.returns-in-Ok-Some-clause-does
returns-in-Ok-Some-clause-does g c =
    exists_does g.B.Db.kind c.requires (fill_of c.args.to_kind) (g.R.Rng.stream c.args.rng.now) (g.E.Disk.state c.args.from.now) (g.D.Disk.state c.args.to.now) (g.D.Disk.state c.length.new.self) c.in-Ok-Some.field-0-0 (g.met.E.Disk.is_moment _)
    (subst (λ (l : Option ℕ). WhereRead (g.D.Disk.state c.args.to.now) (λ main. IsLength main l)) c.in-Ok-Some.field-0-is c.in-Ok-Some.ensures.length)
    c.length.ensures.main c.length.ensures.fresh c.length.ensures.call c.in-Ok-Some.ensures.cause.kept

pub returns-in-Err-open_db-clause-does : goal.returns-in-Err-open_db-clause-does
returns-in-Err-open_db-clause-does g c =
    subst (λ (n : Note). DoesConversion (converting g.B.Db.kind (fill_of c.args.to_kind)) (with_both (g.E.Disk.state c.args.from.now) (g.D.Disk.state c.args.to.now) (g.R.Rng.stream c.args.rng.now)) (with_both (g.E.Disk.state c.open_db.new.disk) (g.D.Disk.state c.length.new.self) (g.R.Rng.stream c.args.rng.now)) n) (sym c.note_of_opening.ensures)
    (unopened_converts g.B.Db.kind c.requires (fill_of c.args.to_kind) (g.R.Rng.stream c.args.rng.now) (g.E.Disk.state c.args.from.now) (g.E.Disk.state c.open_db.new.disk) (g.D.Disk.state c.args.to.now) (g.D.Disk.state c.length.new.self)
    (subst (λ (l : Option ℕ). WhereRead (g.D.Disk.state c.args.to.now) (λ main. IsLength main l)) c.in-Ok-None.field-0-is c.in-Ok-None.ensures.length)
    c.length.ensures.main c.length.ensures.fresh c.length.ensures.call c.in-Ok-None.ensures.cause.kept c.in-Err-open_db.fault c.in-Err-open_db.ensures.opens.refused c.in-Err-open_db.ensures.disk c.in-Err-open_db.ensures.cause)

pub returns-in-Ok-fill-clause-does : goal.returns-in-Ok-fill-clause-does
returns-in-Ok-fill-clause-does g c =
    filled_converts g.B.Db.kind c.requires (fill_of c.args.to_kind) (g.R.Rng.stream c.args.rng.now) (g.E.Disk.state c.args.from.now) (g.E.Disk.state c.open_db.new.disk) (g.D.Disk.state c.args.to.now) (g.D.Disk.state c.length.new.self)
    (subst (λ (l : Option ℕ). WhereRead (g.D.Disk.state c.args.to.now) (λ main. IsLength main l)) c.in-Ok-None.field-0-is c.in-Ok-None.ensures.length)
    c.length.ensures.main c.length.ensures.fresh c.length.ensures.call c.in-Ok-None.ensures.cause.kept (g.D.Disk.state c.fill.new.to) (g.R.Rng.stream c.fill.new.rng) c.in-Ok.db g.B.Db.state
    (g.met.D.Disk.rest_goes_on _ _ c.length.ensures.rest) (g.met.D.Disk.rest_goes_on _ _ c.fill.ensures.rest) c.in-Ok.ensures.opens c.in-Ok.ensures.disk c.in-Ok.ensures.cause.kept
    c.in-Ok-fill.field-0 c.in-Ok-fill.ensures.fills

pub returns-clause-does : goal.returns-clause-does
returns-clause-does g c =
    subst (λ (n : Note). DoesConversion (converting g.B.Db.kind (fill_of c.args.to_kind)) (with_both (g.E.Disk.state c.args.from.now) (g.D.Disk.state c.args.to.now) (g.R.Rng.stream c.args.rng.now)) (with_both (g.E.Disk.state c.open_db.new.disk) (g.D.Disk.state c.fill.new.to) (g.R.Rng.stream c.fill.new.rng)) n) (sym c.note_of_change.ensures)
    (refused_converts g.B.Db.kind c.requires (fill_of c.args.to_kind) (g.R.Rng.stream c.args.rng.now) (g.E.Disk.state c.args.from.now) (g.E.Disk.state c.open_db.new.disk) (g.D.Disk.state c.args.to.now) (g.D.Disk.state c.length.new.self)
    (subst (λ (l : Option ℕ). WhereRead (g.D.Disk.state c.args.to.now) (λ main. IsLength main l)) c.in-Ok-None.field-0-is c.in-Ok-None.ensures.length)
    c.length.ensures.main c.length.ensures.fresh c.length.ensures.call c.in-Ok-None.ensures.cause.kept (g.D.Disk.state c.fill.new.to) (g.R.Rng.stream c.fill.new.rng) c.in-Ok.db g.B.Db.state
    (g.met.D.Disk.rest_goes_on _ _ c.length.ensures.rest) (g.met.D.Disk.rest_goes_on _ _ c.fill.ensures.rest) c.in-Ok.ensures.opens c.in-Ok.ensures.disk c.in-Ok.ensures.cause.kept
    c.in-Err-fill.fault c.in-Err-fill.ensures.fills (⊎_elim inl (λ same. inr (ap g.D.Disk.state same)) c.in-Err-fill.ensures.unharmed))
