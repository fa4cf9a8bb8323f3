use Rattle.recover_tests.proofs.Files.{three_pairs, loose}
use Rattle.recover_tests.proofs.tests.files.levels_are_repaired_after_two_stops.Goals as goal

pub assert_stopped_twice-requires : goal.assert_stopped_twice-requires
assert_stopped_twice-requires g c = (three_pairs, loose)
