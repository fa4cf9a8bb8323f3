use Rattle.std.proofs.Common.{◌≡◌, ℕ, List, length}
use Rattle.skip_image.specs.Verifying.{IsMarked, HaveUppers}
use Rattle.skip_image.proofs.ListWalk.{IsHead, Passed}
use Rattle.skip_image.proofs.verify.check_list.Given as goal

abbrev pub invariant-loop-count : goal.invariant-loop-count
invariant-loop-count l = record {
  here : IsHead l.file l.at;
  long : length l.last ≡ 31;
  uppers : HaveUppers l.file l.last;
  passed : (starts : List ℕ) → IsMarked l.file l.marks starts → Passed l.file starts l.at l.count l.last;
}
