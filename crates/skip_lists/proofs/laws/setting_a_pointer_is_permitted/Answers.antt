use Rattle.skip_lists.proofs.Permitted.{set_permitted}
use Rattle.skip_lists.proofs.laws.setting_a_pointer_is_permitted.Goals as goal

pub returns : goal.returns
returns c = λ base old new says at slot to r n there may sets long. set_permitted base old new says r n at slot to there may sets long
