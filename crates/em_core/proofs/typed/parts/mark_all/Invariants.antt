use Rattle.em_core.proofs.PartLemmas.{Marking}
use Rattle.em_core.proofs.typed.parts.mark_all.Given as goal

abbrev pub invariant-loop-at : goal.invariant-loop-at
invariant-loop-at l = Marking l.core l.sought l.fn.found l.found l.changed l.at
