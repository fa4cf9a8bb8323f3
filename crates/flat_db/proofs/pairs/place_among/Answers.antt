use Rattle.std.proofs.Common.{◌<◌, length, arith}
use Rattle.std.proofs.lemmas.List.{get_or_default}
use Rattle.flat_db.proofs.PlaceLemmas.{own_place, end_place, other_place, same_part, other_part}
use Rattle.flat_db.proofs.pairs.place_among.Goals as goal
use Rattle.flat_db.proofs.pairs.place_among.Goals.{else-place-entries-via-then-place-entries+else-is_eq, else-place-entries-via-else-place-entries}

pub returns-then-is_eq-clause-own : goal.returns-then-is_eq-clause-own
returns-then-is_eq-clause-own c =
    let place = c.lower_keys-place.result in
    let below : place < length c.args.entries.now = omega arith in
    own_place c.args.bytes.now c.args.key.now c.args.entries.now place _ c.lower_keys-place.ensures below (get_or_default c.args.entries.now place _ _ below)
    (same_part c.part.result.now c.args.key.now _ c.compare_keys.result c.is_eq.result c.part.ensures c.compare_keys.ensures c.is_eq.ensures c.if-is_eq.true)

pub returns-else-place-entries-clause-between : goal.returns-else-place-entries-clause-between
returns-else-place-entries-clause-between c =
    let place = c.lower_keys-place.result in
    elim c.else-place-entries.branch [
      | else-place-entries-via-then-place-entries+else-is_eq w ↦
          let below : place < length c.args.entries.now = omega arith in
          other_place c.args.bytes.now c.args.key.now c.args.entries.now place _ c.lower_keys-place.ensures below (get_or_default c.args.entries.now place _ _ below)
          (other_part w.part.result.now c.args.key.now _ w.compare_keys.result w.is_eq.result w.part.ensures w.compare_keys.ensures w.is_eq.ensures w.if-is_eq.false)
      | else-place-entries-via-else-place-entries w ↦ end_place c.args.bytes.now c.args.key.now c.args.entries.now place c.lower_keys-place.ensures (omega arith)
    ]
