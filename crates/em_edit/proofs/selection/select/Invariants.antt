use Rattle.std.proofs.Common.{List, map, drop}
use Rattle.em_base.specs.declared.edit.Part.{Part}
use Rattle.em_edit.specs.Ends.{Holds}
use Rattle.em_edit.proofs.Walking.{Onward}
use Rattle.em_edit.proofs.selection.select.Given as goal

abbrev pub invariant-loop-turn : goal.invariant-loop-turn
invariant-loop-turn l = (before : List Part) × Holds l.ends before × Onward l.findings before (map (λ t. t.1) (drop l.turn-index l.turn-items)) (map (λ t. t.1) l.turn-items) l.taken
