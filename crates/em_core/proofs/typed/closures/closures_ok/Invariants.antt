use Rattle.std.proofs.Common.{ℕ, ◌<◌, slice_index_or}
use Rattle.em_core.specs.declared.function.ClosureEntry.{ClosureEntry}
use Rattle.em_core.specs.Typed.{ClosureOk}
use Rattle.em_core.proofs.typed.closures.closures_ok.Given as goal

abbrev pub invariant-loop-i : goal.invariant-loop-i
invariant-loop-i l = (k : ℕ) (d : ClosureEntry) → k < l.i → ClosureOk l.core (slice_index_or l.entries k d)
