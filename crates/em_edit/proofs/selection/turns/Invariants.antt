use Rattle.std.proofs.Common.{◌≡◌, ◌++◌, drop}
use Rattle.em_edit.specs.Selected.{turns_from}
use Rattle.em_edit.proofs.selection.turns.Given as goal

abbrev pub invariant-loop-index : goal.invariant-loop-index
invariant-loop-index l = l.turns.items ++ turns_from l.index (drop l.index l.findings) ≡ turns_from 0 l.findings
