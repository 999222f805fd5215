-- An impl in the list.
use Rattle.std.proofs.Common.{◌≡◌, ℕ, ◌<◌, length, subst, sym}
use Rattle.std.specs.Prelude.{slice_index_or}
use Rattle.em_core.specs.declared.ty.Ty.{Ty}
use Rattle.em_core.specs.declared.methods.Impl.{Impl}
use Rattle.em_core.specs.declared.program.Core.{Core}
use Rattle.em_core.specs.Naming.{IsImplOf, Implements}

pub there : (core : Core) (n : ℕ) (t : Ty) (k : ℕ) (i : Impl) → k < length core.methods.impls → slice_index_or core.methods.impls k i ≡ i → IsImplOf n t i → Implements core n t
unfolding Implements
there core n t k i lt q h = (k, i, lt, q, h)

pub none_there : (core : Core) (n : ℕ) (t : Ty) → ((k : ℕ) (d : Impl) → k < length core.methods.impls → IsImplOf n t (slice_index_or core.methods.impls k d) → ⊥) → Implements core n t → ⊥
unfolding Implements
none_there core n t h any = h any.0 any.1 any.2 (subst (λ i. IsImplOf n t i) (sym any.3) any.4)
