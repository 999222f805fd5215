use Rattle.std.proofs.Common.{ℕ, ◌<◌, slice_index_or}
use Rattle.em_core.specs.declared.function.Variable.{Variable}
use Rattle.em_core.specs.Typed.{DropFreeVariable}
use Rattle.em_core.proofs.typed.closures.drop_free_variables.Given as goal

abbrev pub invariant-loop-i : goal.invariant-loop-i
invariant-loop-i l = (k : ℕ) (d : Variable) → k < l.i → DropFreeVariable l.core (slice_index_or l.variables k d)
