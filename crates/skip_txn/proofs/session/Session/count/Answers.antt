use Rattle.skip_txn.proofs.Views.{seen_sound, committed_sound}
use Rattle.skip_txn.proofs.session.Session.count.Goals as goal

pub returns-clause-seen : goal.returns-clause-seen
returns-clause-seen c = seen_sound c.self.inside.image c.self.inside.state c.self.inside.state.stage c.args.self.now c.self.view_is c.requires c.self.invariant

pub returns-clause-committed : goal.returns-clause-committed
returns-clause-committed c = committed_sound c.self.inside.image c.self.inside.state c.self.inside.state.stage c.args.self.now c.self.view_is c.requires c.self.invariant
