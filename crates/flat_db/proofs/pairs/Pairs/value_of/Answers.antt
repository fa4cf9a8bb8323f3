use Rattle.std.proofs.Common.{Some, sym, ◌∙◌, ap}
use Rattle.flat_db.specs.Kept.{map_among}
use Rattle.flat_db.proofs.PlaceLemmas.{value_own, value_lacks}
use Rattle.flat_db.proofs.PairLemmas.{own_pair}
use Rattle.flat_db.proofs.pairs.Pairs.value_of.Goals as goal

pub returns-in-Ok : goal.returns-in-Ok
returns-in-Ok c =
    ap Some (c.part.ensures ∙ ap (λ p. p.1) (own_pair c.args.bytes.now c.args.key.now c.args.self.now.entries.items c.in-Ok.place c.index.result.now _ c.in-Ok.ensures.there c.index.ensures c.in-Ok.ensures.own))
    ∙ sym (value_own c.args.key.now (map_among c.args.bytes.now c.args.self.now) c.in-Ok.place c.in-Ok.ensures.own)

pub returns-in-Err : goal.returns-in-Err
returns-in-Err c = sym (value_lacks c.args.key.now (map_among c.args.bytes.now c.args.self.now) c.in-Err.field-0 c.in-Err.ensures.between c.requires.sound.ordered)
