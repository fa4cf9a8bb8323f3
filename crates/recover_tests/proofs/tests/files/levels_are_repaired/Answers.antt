use Rattle.recover_tests.proofs.Files.{three_pairs, loose}
use Rattle.recover_tests.proofs.tests.files.levels_are_repaired.Goals as goal

pub assert_stopped-requires : goal.assert_stopped-requires
assert_stopped-requires g c = (three_pairs, loose)
