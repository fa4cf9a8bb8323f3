use Rattle.std.proofs.Common.{[], ap, ◌∙◌, sym, refl}
use Rattle.db_core.specs.Refusals.{pair_of}
use Rattle.flat_db.proofs.SessionLemmas.{walk_end, walk_on}
use Rattle.flat_db.proofs.session.FlatDbDb.step.Goals as goal

pub returns-in-None : goal.returns-in-None
returns-in-None g c = λ left is.
    walk_end c.self.inside.bytes.items c.deref.result.now [] c.self.inside.seen c.self.inside.stage c.args.self.now c.args.cursor.place c.self.view_is c.requires.sound c.deref.ensures.value left (ap pair_of (sym c.in-None.is) ∙ c.pair_at.ensures) is

pub returns-in-Some : goal.returns-in-Some
returns-in-Some g c = λ left is. (
  _,
  walk_on c.self.inside.bytes.items c.deref.result.now [] c.self.inside.seen c.self.inside.stage c.args.self.now c.args.cursor.place c.self.view_is c.requires.sound c.deref.ensures.value left _ (ap pair_of (sym c.in-Some.is) ∙ c.pair_at.ensures) is,
  refl,
)
