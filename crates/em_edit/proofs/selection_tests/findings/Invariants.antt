use Rattle.std.proofs.Common.{◌≡◌, length}
use Rattle.em_edit.proofs.selection_tests.findings.Given as goal

abbrev pub invariant-loop-ranges : goal.invariant-loop-ranges
invariant-loop-ranges l = length l.list ≡ l.ranges-index
