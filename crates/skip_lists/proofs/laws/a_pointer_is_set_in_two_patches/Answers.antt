use Rattle.skip_lists.proofs.Setting.{set_is, set_as_written}
use Rattle.skip_lists.proofs.laws.a_pointer_is_set_in_two_patches.Goals as goal

pub returns : goal.returns
returns c = record { sets = set_is; written = set_as_written }
