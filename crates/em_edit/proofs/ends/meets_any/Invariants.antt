use Rattle.std.proofs.Common.{List, take}
use Rattle.std.specs.Prelude.{All}
use Rattle.em_base.specs.declared.edit.Part.{Part}
use Rattle.em_edit.specs.Ends.{AreClear, Holds}
use Rattle.em_edit.proofs.ends.meets_any.Given as goal

-- the parts so far are clear of those of the map
abbrev pub invariant-loop-part : goal.invariant-loop-part
invariant-loop-part l = (before : List Part) → Holds l.ends before → All (λ p. All (AreClear p) before) (take l.part-index l.parts)
