use Rattle.std.proofs.Common.{◌≡◌}
use Rattle.mem_spool.specs.MemSpool.{mem_folder}
use Rattle.rebuild_tests.proofs.tests.rows.folder.Given as goal

abbrev pub invariant-loop-file : goal.invariant-loop-file
invariant-loop-file l = (mem_folder l.spool).given ≡ 0
