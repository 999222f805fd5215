use Rattle.em_edit.proofs.Reach.{reach_there, reach_own, reach_alone}
use Rattle.em_edit.proofs.ends.reach_of.Goals as goal

pub returns-then-place-span : goal.returns-then-place-span
returns-then-place-span c = reach_there c.args.ends.now c.args.span c.in-Some.place c.in-Some.last c.last_of-own.result _ c.last_of-own.ensures c.max.ensures c.in-Some.ensures c.if-place-span.true

pub returns-else-place-span : goal.returns-else-place-span
returns-else-place-span c = reach_own c.args.ends.now c.args.span c.in-Some.place c.in-Some.last c.last_of-own.result c.last_of-own.ensures c.in-Some.ensures c.if-place-span.false

pub returns-in-None : goal.returns-in-None
returns-in-None c = reach_alone c.args.ends.now c.args.span c.last_of-own.result c.last_of-own.ensures c.in-None.ensures
