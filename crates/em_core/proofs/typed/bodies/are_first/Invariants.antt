use Rattle.std.proofs.Common.{◌≡◌, ℕ, ◌<◌, slice_index_or}
use Rattle.em_core.specs.declared.ty.Ty.{Ty}
use Rattle.em_core.proofs.typed.bodies.are_first.Given as goal

abbrev pub invariant-loop-i : goal.invariant-loop-i
invariant-loop-i l = (k : ℕ) (d : Ty) → k < l.i → slice_index_or l.parameters k d ≡ slice_index_or l.slots k d
