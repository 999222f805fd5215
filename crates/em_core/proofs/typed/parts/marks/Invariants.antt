use Rattle.std.proofs.Common.{◌≡◌, length}
use Rattle.em_core.specs.Deciding.{MarksRight, missing}
use Rattle.em_core.proofs.PartLemmas.{NoMark}
use Rattle.em_core.proofs.typed.parts.marks.Given as goal

abbrev pub invariant-loop : goal.invariant-loop
invariant-loop l = (length l.found.items ≡ l.counter) × NoMark l.found.items

abbrev pub invariant-loop-sought : goal.invariant-loop-sought
invariant-loop-sought l = (length l.found.items ≡ length l.core.types) × MarksRight l.core l.sought l.found.items

abbrev pub decreases-loop-sought : goal.decreases-loop-sought
decreases-loop-sought l = missing l.found.items
