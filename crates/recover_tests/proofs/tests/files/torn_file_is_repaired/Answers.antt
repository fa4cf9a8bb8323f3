use Rattle.skip_spec.specs.Examples.{one_pair}
use Rattle.recover_tests.proofs.Files.{torn}
use Rattle.recover_tests.proofs.tests.files.torn_file_is_repaired.Goals as goal

pub assert_stopped-requires : goal.assert_stopped-requires
assert_stopped-requires g c = (one_pair, torn)
