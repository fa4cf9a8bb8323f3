use Rattle.flat_db.proofs.SessionLemmas.{walk_place}
use Rattle.flat_db.proofs.session.FlatDbDb.walk_from.Goals as goal

pub returns : goal.returns
returns g c = walk_place c.self.inside.bytes.items c.deref.result.now c.args.key.now c.self.inside.seen c.self.inside.stage c.args.self.now c.place_from.result c.self.view_is c.requires c.deref.ensures.value c.place_from.ensures
