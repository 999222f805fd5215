use Rattle.std.proofs.Common.{◌≡◌, length}
use Rattle.em_edit.proofs.tests.suggestions.Given as goal

abbrev pub invariant-loop-row : goal.invariant-loop-row
invariant-loop-row l = length l.list ≡ l.row-index
