use Rattle.std.proofs.Common.{ℕ, ◌<◌, slice_index_or}
use Rattle.em_core.specs.declared.methods.Method.{Method}
use Rattle.em_core.specs.Typed.{Provides}
use Rattle.em_core.proofs.typed.impls.provides_all.Given as goal

abbrev pub invariant-loop-i : goal.invariant-loop-i
invariant-loop-i l = (k : ℕ) (d : Method) → k < l.i → Provides l.core l.found k (slice_index_or l.methods k d)
