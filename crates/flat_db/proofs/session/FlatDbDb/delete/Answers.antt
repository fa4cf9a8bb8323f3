use Rattle.std.proofs.Common.{refl}
use Rattle.flat_db.specs.Sessions.{flat_kind, flat_state}
use Rattle.flat_db.proofs.SessionLemmas.{answered_tied, leaves_disk, makes_no_call}
use Rattle.flat_db.proofs.session.FlatDbDb.delete.Goals as goal

pub returns-clause-change : goal.returns-clause-change
returns-clause-change g c = makes_no_call flat_kind _ _ _ (flat_state c.args.self.now) (flat_state c.take_out.new.self) (g.D.Disk.state c.args._disk.now) c.take_out.result c.take_out.ensures.answer c.take_out.ensures.no_fault (g.met.D.Disk.is_moment _) c.requires.tied.leaves

pub returns-clause-unharmed : goal.returns-clause-unharmed
returns-clause-unharmed g c = leaves_disk c.args._disk.now c.take_out.result

pub returns-clause-tied : goal.returns-clause-tied
returns-clause-tied g c = answered_tied _ _ c.args.self.now c.take_out.new.self (g.D.Disk.state c.args._disk.now) c.take_out.result c.take_out.ensures.answer c.take_out.ensures.no_fault refl refl c.requires.tied
