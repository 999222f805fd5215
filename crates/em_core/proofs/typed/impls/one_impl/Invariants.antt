use Rattle.std.proofs.Common.{ℕ, ◌<◌, ◌+◌, slice_index_or}
use Rattle.std.specs.Prelude.{All, drop}
use Rattle.em_core.specs.declared.methods.Impl.{Impl}
use Rattle.em_core.specs.Typed.{SameImpl}
use Rattle.em_core.proofs.typed.impls.one_impl.Given as goal

abbrev pub invariant-loop-i : goal.invariant-loop-i
invariant-loop-i l = (k : ℕ) (d : Impl) → k < l.i → All (λ o. SameImpl (slice_index_or l.impls k d) o → ⊥) (drop (k + 1) l.impls)
