use Rattle.std.proofs.Common.{⊎_elim, inl, inr, false, sym, ap, subst}
use Rattle.base_notes.specs.declared.note.Note.{Note}
use Rattle.cyr_top.specs.Repacking.{DoesRepack, repacking}
use Rattle.db_repack.specs.Repacking.{repacking_by}
use Rattle.cyr_top.proofs.RepackLemmas.{done_repacks, refused_repacks, unopened_repacks}
use Rattle.cyr_top.proofs.repacking.open_and_repack.Goals as goal

pub returns-in-Err-clause-does : goal.returns-in-Err-clause-does
returns-in-Err-clause-does g c =
    subst (λ (n : Note). DoesRepack (repacking (repacking_by g.B.Db.kind g.F.Files.repacked) false) (g.H.Disk.state c.args.host.now) (g.H.Disk.state c.open_db.new.disk) n) (sym c.note_of_opening.ensures)
    (unopened_repacks (repacking_by g.B.Db.kind g.F.Files.repacked) c.requires.laws c.requires.once (g.H.Disk.state c.args.host.now) (g.H.Disk.state c.open_db.new.disk) c.in-Err.fault c.in-Err.ensures.opens.refused c.in-Err.ensures.disk c.in-Err.ensures.cause)

pub returns-in-Ok-repack-clause-does : goal.returns-in-Ok-repack-clause-does
returns-in-Ok-repack-clause-does g c =
    let repacks = c.in-Ok-repack.ensures.repacks in
    done_repacks (repacking_by g.B.Db.kind g.F.Files.repacked) c.requires.laws c.requires.once c.in-Ok.db g.B.Db.state (g.B.Db.state c.repack.new.db) (g.H.Disk.state c.args.host.now) (g.H.Disk.state c.open_db.new.disk) (g.H.Disk.state c.repack.new.disk) repacks.0 (g.met.H.Disk.rest_goes_on _ _ c.open_db.ensures.rest) (g.met.H.Disk.rest_goes_on _ _ c.repack.ensures.rest) (g.met.H.Disk.is_moment _) (g.met.H.Disk.is_moment _) c.in-Ok.ensures.opens c.in-Ok.ensures.disk c.in-Ok.ensures.cause.kept c.in-Ok.ensures.repacked c.in-Ok-repack.field-0 repacks.1

pub returns-clause-does : goal.returns-clause-does
returns-clause-does g c =
    let repacks = c.in-Err-repack.ensures.repacks in
    subst (λ (n : Note). DoesRepack (repacking (repacking_by g.B.Db.kind g.F.Files.repacked) false) (g.H.Disk.state c.args.host.now) (g.H.Disk.state c.repack.new.disk) n) (sym c.note_of_change.ensures)
    (refused_repacks (repacking_by g.B.Db.kind g.F.Files.repacked) c.requires.laws c.requires.once c.in-Ok.db g.B.Db.state (g.B.Db.state c.repack.new.db) (g.H.Disk.state c.args.host.now) (g.H.Disk.state c.open_db.new.disk) (g.H.Disk.state c.repack.new.disk) repacks.0 (g.met.H.Disk.rest_goes_on _ _ c.open_db.ensures.rest) (g.met.H.Disk.rest_goes_on _ _ c.repack.ensures.rest) (g.met.H.Disk.is_moment _) (g.met.H.Disk.is_moment _) c.in-Ok.ensures.opens c.in-Ok.ensures.disk c.in-Ok.ensures.cause.kept c.in-Ok.ensures.repacked c.in-Err-repack.fault repacks.1 (⊎_elim inl (λ same. inr (ap g.H.Disk.state same)) c.in-Err-repack.ensures.unharmed))
