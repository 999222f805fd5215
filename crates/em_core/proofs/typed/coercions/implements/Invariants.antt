use Rattle.std.proofs.Common.{ℕ, ◌<◌}
use Rattle.std.specs.Prelude.{slice_index_or}
use Rattle.em_core.specs.declared.methods.Impl.{Impl}
use Rattle.em_core.specs.Naming.{IsImplOf}
use Rattle.em_core.proofs.typed.coercions.implements.Given as goal

abbrev pub invariant-loop-i : goal.invariant-loop-i
invariant-loop-i l = (k : ℕ) (d : Impl) → k < l.i → IsImplOf l.of l.ty (slice_index_or l.core.methods.impls k d) → ⊥
