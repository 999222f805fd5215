use Rattle.std.proofs.Common.{ℕ, ◌<◌, slice_index_or}
use Rattle.em_core.specs.declared.methods.Impl.{Impl}
use Rattle.em_core.specs.Typed.{ImplOk}
use Rattle.em_core.proofs.typed.impls.impls_ok.Given as goal

abbrev pub invariant-loop-i : goal.invariant-loop-i
invariant-loop-i l = (k : ℕ) (d : Impl) → k < l.i → ImplOk l.core (slice_index_or l.impls k d)
