use Rattle.std.proofs.Common.{◌-◌, length}
use Rattle.em_manifest.specs.Lines.{is_header}
use Rattle.em_manifest.proofs.Walks.{Walked}
use Rattle.em_manifest.proofs.lines.next_header.Given as goal

abbrev pub invariant-loop-at : goal.invariant-loop-at
invariant-loop-at l = Walked (λ ls. ls) is_header l.bytes l.from l.at

abbrev pub decreases-loop-at : goal.decreases-loop-at
decreases-loop-at l = length l.bytes - l.at
