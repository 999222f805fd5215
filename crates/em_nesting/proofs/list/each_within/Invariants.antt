use Rattle.std.proofs.Common.{◌≡◌, ℕ, drop, max}
use Rattle.em_tree.specs.Nesting.{greatest}
use Rattle.em_nesting.specs.Depths.{Measures}
use Rattle.em_nesting.proofs.list.each_within.Given as goal

abbrev pub invariant-loop-part : goal.invariant-loop-part
invariant-loop-part g l =
    goal.F-IsAlwaysCallable g l.within
    × ((f : g.row.T.Denot → ℕ) → Measures (goal.F-post g l.within) f l.most → max l.most (greatest f (drop l.part-index l.list)) ≡ max l.most (greatest f l.list))
