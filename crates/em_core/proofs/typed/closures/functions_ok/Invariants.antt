use Rattle.std.proofs.Common.{ℕ, ◌<◌, slice_index_or}
use Rattle.em_core.specs.declared.function.Function.{Function}
use Rattle.em_core.specs.Typed.{FunctionOk}
use Rattle.em_core.proofs.typed.closures.functions_ok.Given as goal

abbrev pub invariant-loop-i : goal.invariant-loop-i
invariant-loop-i l = (k : ℕ) (d : Function) → k < l.i → FunctionOk l.core (slice_index_or l.functions k d)
