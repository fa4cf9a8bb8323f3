use Rattle.std.proofs.Common.{rules}
use Rattle.std.proofs.lemmas.List.Sorted.{IsPartitionPoint-from_clause}
use Rattle.flat_db.proofs.PlaceLemmas.{goes_before, parted, place_of_point}
use Rattle.flat_db.proofs.pairs.lower_keys.Goals as goal

pub returns : goal.returns
returns c =
    let bytes = c.args.bytes.now in
    let entries = c.args.entries.now in
    let key = c.args.key.now in
    place_of_point bytes key entries c.partition_point.result c.partition_point.ensures.bound
    (IsPartitionPoint-from_clause (goes_before bytes key) entries c.partition_point.result c.partition_point.ensures.partitioned (parted bytes key entries c.requires) (λ a r q k. search rules))
