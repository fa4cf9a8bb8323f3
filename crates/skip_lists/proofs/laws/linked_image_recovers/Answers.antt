use Rattle.std.proofs.Common.{arith}
use Rattle.skip_lists.proofs.Recovered.{linked_recovers}
use Rattle.skip_lists.proofs.laws.linked_image_recovers.Goals as goal

pub returns : goal.returns
returns c = λ base image file says r n l ends same is. linked_recovers base image file says r n (omega (arith, ends)) same l ends is
