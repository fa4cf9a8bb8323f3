use Rattle.base_bytes.specs.OrderedMap.{with_prefix}
use Rattle.skip_seek.specs.Searches.{map_of}
use Rattle.skip_seek.proofs.Prefixes.{goes_on}
use Rattle.skip_seek.proofs.tests.ask.Goals as goal

pub next-requires-2 : goal.next-requires-2
next-requires-2 g c =
    let left = with_prefix (map_of c.args.image.now.bytes) c.args.key.now in
    goes_on left c.next.result c.next.new.self (c.next.ensures.pair left c.new-walk.ensures.left)
