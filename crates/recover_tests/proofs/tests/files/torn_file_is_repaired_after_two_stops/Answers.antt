use Rattle.skip_spec.specs.Examples.{one_pair}
use Rattle.recover_tests.proofs.Files.{torn}
use Rattle.recover_tests.proofs.tests.files.torn_file_is_repaired_after_two_stops.Goals as goal

pub assert_stopped_twice-requires : goal.assert_stopped_twice-requires
assert_stopped_twice-requires g c = (one_pair, torn)
