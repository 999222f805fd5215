use Rattle.std.proofs.Common.{◌≡◌, ℕ, ◌-◌, ◌<◌, length, Some}
use Rattle.std.specs.Prelude.{slice_get}
use Rattle.em_core.specs.declared.ty.Ty.{Ty, out-Ty, size-Ty}
use Rattle.em_core.specs.Nodes.{type_children}
use Rattle.em_core.specs.Types.{TypeOk}
use Rattle.em_core.proofs.typed.type_ok.+type_ok.Given as goal

abbrev pub decreases-type_ok : goal.decreases-type_ok
decreases-type_ok l = size-Ty l.ty.now

abbrev pub invariant-loop-child : goal.invariant-loop-child
invariant-loop-child l = (k : ℕ) (u : Ty) → k < l.at → slice_get (type_children (out-Ty l.ty)) k ≡ Some u → TypeOk l.core u

abbrev pub decreases-loop-child : goal.decreases-loop-child
decreases-loop-child l = length (type_children (out-Ty l.ty)) - l.at
