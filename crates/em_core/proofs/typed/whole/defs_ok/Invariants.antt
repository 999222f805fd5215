use Rattle.std.proofs.Common.{ℕ, ◌<◌, slice_index_or}
use Rattle.em_core.specs.declared.definition.TypeDef.{TypeDef}
use Rattle.em_core.specs.Typed.{DefOk}
use Rattle.em_core.proofs.typed.whole.defs_ok.Given as goal

abbrev pub invariant-loop-i : goal.invariant-loop-i
invariant-loop-i l = (k : ℕ) (d : TypeDef) → k < l.i → DefOk l.core k (slice_index_or l.types k d)
