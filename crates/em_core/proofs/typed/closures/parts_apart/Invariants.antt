use Rattle.std.proofs.Common.{ℕ, ◌<◌, ◌+◌, slice_index_or}
use Rattle.std.specs.Prelude.{All, IsTrue, drop}
use Rattle.em_core.specs.declared.function.Capture.{Capture}
use Rattle.em_core.specs.Naming.{are_apart}
use Rattle.em_core.proofs.typed.closures.parts_apart.Given as goal

abbrev pub invariant-loop-i : goal.invariant-loop-i
invariant-loop-i l = (k : ℕ) (d : Capture) → k < l.i → All (λ y. IsTrue (are_apart (slice_index_or l.captures k d).path y.path)) (drop (k + 1) l.captures)
