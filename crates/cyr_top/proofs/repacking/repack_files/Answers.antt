use Rattle.std.proofs.Common.{Bool, sym, subst}
use Rattle.base_notes.specs.declared.note.Device.TheVariants.{Host}
use Rattle.base_notes.specs.declared.note.Note.TheVariants.{DeviceFault}
use Rattle.cyr_top.specs.Repacking.{DoesRepack, repacking}
use Rattle.db_repack.specs.Repacking.{repacking_by}
use Rattle.cyr_top.proofs.RepackMade.{made_repacks, not_made}
use Rattle.cyr_top.proofs.repacking.repack_files.Goals as goal

pub returns-in-Ok-clause-does : goal.returns-in-Ok-clause-does
returns-in-Ok-clause-does g c =
    subst (λ (make : Bool). DoesRepack (repacking (repacking_by g.B.Db.kind g.F.Files.repacked) make) (g.H.Disk.state c.args.host.now) (g.H.Disk.state c.open_and_repack-in-Ok.new.host) c.open_and_repack-in-Ok.result) (sym c.if-not-make.false)
    (made_repacks (repacking_by g.B.Db.kind g.F.Files.repacked) c.requires.laws c.requires.once c.in-Ok.field-0 _ _ _ c.open_and_repack-in-Ok.result (g.met.H.Disk.rest_goes_on _ _ c.make_absent.ensures.rest) (g.met.H.Disk.rest_goes_on _ _ c.open_and_repack-in-Ok.ensures.rest)
    (g.met.H.Disk.is_moment _) (g.met.H.Disk.is_moment _) c.in-Ok.ensures.made c.in-Ok.ensures.cause c.open_and_repack-in-Ok.ensures.does)

pub returns-in-Err-clause-does : goal.returns-in-Err-clause-does
returns-in-Err-clause-does g c =
    subst (λ (make : Bool). DoesRepack (repacking (repacking_by g.B.Db.kind g.F.Files.repacked) make) (g.H.Disk.state c.args.host.now) (g.H.Disk.state c.make_absent.new.host) (DeviceFault Host)) (sym c.if-not-make.false)
    (not_made (repacking_by g.B.Db.kind g.F.Files.repacked) c.requires.laws c.requires.once c.in-Err.field-0 _ _ c.in-Err.ensures.made c.in-Err.ensures.cause)
