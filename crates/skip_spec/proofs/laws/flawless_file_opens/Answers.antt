use Rattle.skip_spec.proofs.Flawless.{flawless_opens}
use Rattle.skip_spec.proofs.NoFlaw.{opens_flawless}
use Rattle.skip_spec.proofs.laws.flawless_file_opens.Goals as goal

pub returns : goal.returns
returns c = λ file bytes. (flawless_opens file bytes, λ o. opens_flawless file o.0 bytes o.1)
