use Rattle.skip_spec.proofs.Splice.{put_gives, delete_gives}
use Rattle.skip_spec.proofs.laws.changes_give_the_list.Goals as goal

pub returns : goal.returns
returns c = record { put = λ old new bound bound' end starts starts' front dropped rest e changes. put_gives old new bound bound' end starts starts' front dropped rest changes e; delete = delete_gives }
