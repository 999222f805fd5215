use Rattle.std.proofs.Common.{rules, arith}
use Rattle.std.proofs.lemmas.Grind.{common_steps}
use Rattle.em_grammar.specs.Reader.{many}
use Rattle.em_grammar.specs.PathReader.{step}
use Rattle.em_read.proofs.Turns.{one_more, no_more}
use Rattle.em_read.proofs.path.steps.Goals as goal

pub returns-in-Err-Absent : goal.returns-in-Err-Absent
unfolding many
returns-in-Err-Absent c =
    let e = one_more (λ n. many step n c.loop-turn.found c.loop-turn.input.rest.now) _ c.loop-turn._turn c.loop-turn-test.true c.loop-turn.invariant in
    first_of (search rules, grind (arith, common_steps))

pub loop-turn-preserved : goal.loop-turn-preserved
unfolding many
loop-turn-preserved c =
    let e = one_more (λ n. many step n c.loop-turn.found c.loop-turn.input.rest.now) _ c.loop-turn._turn c.loop-turn-test.true c.loop-turn.invariant in
    first_of (search rules, grind (arith, common_steps))

pub returns : goal.returns
unfolding many
returns c =
    let e = no_more (λ n. many step n c.loop-turn.found c.loop-turn.input.rest.now) _ c.loop-turn._turn c.loop-turn-test.false c.loop-turn.invariant in
    first_of (search rules, grind (arith, common_steps))
