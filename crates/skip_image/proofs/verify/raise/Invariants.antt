use Rattle.std.proofs.Common.{◌≡◌, length}
use Rattle.skip_image.specs.Verifying.{Raises}
use Rattle.skip_image.proofs.verify.raise.Given as goal

abbrev pub invariant-loop-level : goal.invariant-loop-level
invariant-loop-level l = record {
  long : length l.last ≡ 31;
  raised : Raises l.at l.level l.initial.last l.last;
}
