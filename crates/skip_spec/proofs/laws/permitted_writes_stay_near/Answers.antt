use Rattle.skip_spec.proofs.Cuts.{cut_near}
use Rattle.skip_spec.proofs.Landed.{landing_near}
use Rattle.skip_spec.proofs.laws.permitted_writes_stay_near.Goals as goal

pub returns : goal.returns
returns c = record { landings = landing_near; cuts = cut_near }
