use Rattle.std.proofs.Common.{◌++◌, List, map, take}
use Rattle.std.specs.Prelude.{All, AllPairs}
use Rattle.em_base.specs.declared.edit.Part.{Part}
use Rattle.em_edit.specs.Ends.{AreClear, Holds}
use Rattle.em_edit.specs.Order.{StartsNoLater}
use Rattle.em_edit.proofs.ends.put_in_order.Given as goal

-- the parts so far are in the map
abbrev pub invariant-loop-part : goal.invariant-loop-part
invariant-loop-part l = (before : List Part) → Holds l.fn.ends before → All (λ p. All (AreClear p) before) (map (λ p. p.now) l.parts) → AllPairs StartsNoLater (map (λ p. p.now) l.parts) → Holds l.ends (before ++ take l.part-index (map (λ p. p.now) l.parts))
