use Rattle.std.proofs.Common.{◌∙◌, ◌+◌, ℕ, List, sym, ap}
use Rattle.std.specs.Prelude.{slice_get}
use Rattle.flat_db.specs.Kept.{map_among}
use Rattle.flat_db.proofs.SessionLemmas.{next_pair_own, next_pair_between}
use Rattle.flat_db.proofs.session.FlatDbDb.after.Goals as goal

pub returns-in-Ok : goal.returns-in-Ok
returns-in-Ok g c =
    c.pair_at.ensures ∙ ap (λ (l : List ℕ). slice_get (map_among l c.self.inside.seen) (c.in-Ok.place + 1)) (c.deref-in-Ok.ensures.value ∙ sym c.deref.ensures.value)
    ∙ next_pair_own c.self.inside.bytes.items c.deref.result.now c.args.key.now c.self.inside.seen c.self.inside.stage c.args.self.now c.in-Ok.place c.self.view_is c.requires c.deref.ensures.value c.in-Ok.ensures.own c.self.invariant

pub returns-in-Err : goal.returns-in-Err
returns-in-Err g c =
    c.pair_at-in-Err.ensures ∙ ap (λ (l : List ℕ). slice_get (map_among l c.self.inside.seen) c.in-Err.place) (c.deref-in-Err.ensures.value ∙ sym c.deref.ensures.value)
    ∙ next_pair_between c.self.inside.bytes.items c.deref.result.now c.args.key.now c.self.inside.seen c.self.inside.stage c.args.self.now c.in-Err.place c.self.view_is c.requires c.deref.ensures.value c.in-Err.ensures.between
