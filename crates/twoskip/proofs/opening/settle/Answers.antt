use Rattle.twoskip.proofs.SettlingLemmas.{clean_settled, repaired_settled, repaired_disk}
use Rattle.twoskip.proofs.opening.settle.Goals as goal

pub returns-then-clean-clause-settled : goal.returns-then-clean-clause-settled
returns-then-clean-clause-settled g c = clean_settled _ c.requires.0 _ _ c.requires.1 (g.met.D.Disk.is_moment _) c.if-clean.true

pub returns-in-Ok-clause-settled : goal.returns-in-Ok-clause-settled
returns-in-Ok-clause-settled g c =
    repaired_settled _ c.requires.0 _ _ c.requires.1 (g.met.D.Disk.is_moment _) c.recover.new.image.bytes _ (g.met.D.Disk.rest_goes_on _ _ c.in-Ok.ensures.rest) c.in-Ok.ensures.place
    (g.met.D.Disk.is_moment _) c.in-Ok.ensures.recovers c.in-Ok.ensures.reads c.in-Ok.ensures.durable

pub returns-in-Ok-clause-disk : goal.returns-in-Ok-clause-disk
returns-in-Ok-clause-disk g c =
    repaired_disk _ c.requires.0 _ _ c.requires.1 (g.met.D.Disk.is_moment _) c.recover.new.image.bytes _ (g.met.D.Disk.rest_goes_on _ _ c.in-Ok.ensures.rest) c.in-Ok.ensures.place c.if-clean.false c.in-Ok.ensures.moments

pub returns-in-Err-clause-disk : goal.returns-in-Err-clause-disk
returns-in-Err-clause-disk g c =
    repaired_disk _ c.requires.0 _ _ c.requires.1 (g.met.D.Disk.is_moment _) c.recover.new.image.bytes _ (g.met.D.Disk.rest_goes_on _ _ c.in-Err.ensures.rest) c.in-Err.ensures.place c.if-clean.false c.in-Err.ensures.moments
