use Rattle.std.proofs.Common.{length}
use Rattle.em_first.proofs.Walk.{Walked}
use Rattle.em_first.proofs.form.is_body.Given as goal

abbrev pub invariant-statements : goal.invariant-statements
invariant-statements l = Walked l.names.keys l.tokens l.rest

abbrev pub decreases-statements : goal.decreases-statements
decreases-statements l = length l.rest
