use Rattle.std.proofs.Common.{◌≡◌, ◌-◌, ◌≤◌, ◌++◌, ℕ, List, take, drop, length}
use Rattle.mail_scan.specs.declared.header.HeaderState.TheVariants.{Ended}
use Rattle.mail_scan.specs.HeaderState.{header_rest}
use Rattle.mail_scan.proofs.header.header_part.Given as goal

abbrev pub invariant-loop-count : goal.invariant-loop-count
invariant-loop-count l = record {
  within : l.count ≤ length l.piece;
  part : (rest : List ℕ) → header_rest l.initial.state (l.piece ++ rest) ≡ take l.count l.piece ++ header_rest l.state (drop l.count l.piece ++ rest);
  ended : l.initial.state ≡ Ended → (l.count ≡ 0) × (l.state ≡ Ended);
}

abbrev pub decreases-loop-count : goal.decreases-loop-count
decreases-loop-count l = length l.piece - l.count
