use Rattle.std.proofs.Common.{ℕ, ◌<◌, slice_index_or}
use Rattle.em_core.specs.declared.function.Capture.{Capture}
use Rattle.em_core.specs.Typed.{DropFreeCapture}
use Rattle.em_core.proofs.typed.closures.drop_free_variable.Given as goal

abbrev pub invariant-loop-i : goal.invariant-loop-i
invariant-loop-i l = (k : ℕ) (d : Capture) → k < l.i → DropFreeCapture l.core l.variable.ty (slice_index_or l.captures k d)
