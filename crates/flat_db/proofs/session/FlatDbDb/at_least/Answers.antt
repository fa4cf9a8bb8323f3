use Rattle.std.proofs.Common.{◌∙◌, ℕ, List, sym, ap}
use Rattle.std.specs.Prelude.{slice_get}
use Rattle.flat_db.specs.Kept.{map_among}
use Rattle.flat_db.proofs.SessionLemmas.{first_pair}
use Rattle.flat_db.proofs.session.FlatDbDb.at_least.Goals as goal

pub returns : goal.returns
returns g c =
    c.pair_at.ensures ∙ ap (λ (l : List ℕ). slice_get (map_among l c.self.inside.seen) c.place_from-place.result) (c.deref-2.ensures.value ∙ sym c.deref.ensures.value)
    ∙ first_pair c.self.inside.bytes.items c.deref.result.now c.args.key.now c.self.inside.seen c.self.inside.stage c.args.self.now c.place_from-place.result c.self.view_is c.requires c.deref.ensures.value c.place_from-place.ensures
