use Rattle.std.proofs.Common.{ℕ, ◌<◌, slice_index_or}
use Rattle.em_core.specs.declared.function.Variable.{Variable}
use Rattle.em_core.specs.Typed.{RefersVariable}
use Rattle.em_core.proofs.typed.closures.refers_variables.Given as goal

abbrev pub invariant-loop-i : goal.invariant-loop-i
invariant-loop-i l = (k : ℕ) (d : Variable) → k < l.i → RefersVariable l.core (slice_index_or l.variables k d) → ⊥
