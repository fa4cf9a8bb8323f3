use Rattle.skip_txn.proofs.Views.{cost_of}
use Rattle.skip_txn.proofs.session.Session.walk_from.Goals as goal

pub returns-clause-cost : goal.returns-clause-cost
returns-clause-cost g c = cost_of c.self.inside.image.bytes c.self.inside.state.stage c.args.self.now c.self.view_is c.requires c.args.key.now _ _ _ c.walk_from.ensures.cost
