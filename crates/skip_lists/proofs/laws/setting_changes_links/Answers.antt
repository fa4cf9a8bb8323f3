use Rattle.skip_lists.proofs.Walks.{setting_changes, changes_then}
use Rattle.skip_lists.proofs.laws.setting_changes_links.Goals as goal

pub returns : goal.returns
returns c = record { one = setting_changes; join = changes_then }
