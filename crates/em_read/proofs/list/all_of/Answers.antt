use Rattle.std.proofs.Common.{rules, arith}
use Rattle.std.proofs.lemmas.Grind.{common_steps}
use Rattle.em_grammar.specs.Reader.{many}
use Rattle.em_read.proofs.Turns.{one_more, no_more}
use Rattle.em_read.proofs.list.all_of.Goals as goal

pub returns-in-Err-Absent : goal.returns-in-Err-Absent
unfolding many
returns-in-Err-Absent g c R m =
    let e = one_more (λ n. many R n c.loop-turn.found c.loop-turn.input.rest.now) _ c.loop-turn._turn c.loop-turn-test.true (c.loop-turn.invariant.1 R m) in
    let k = m _ _ _ c.one.ensures in
    first_of (search rules, grind (arith, common_steps))

pub returns-in-Err : goal.returns-in-Err
unfolding many
returns-in-Err g c R m =
    let e = one_more (λ n. many R n c.loop-turn.found c.loop-turn.input.rest.now) _ c.loop-turn._turn c.loop-turn-test.true (c.loop-turn.invariant.1 R m) in
    let k = m _ _ _ c.one.ensures in
    first_of (search rules, grind (arith, common_steps))

pub loop-turn-preserved : goal.loop-turn-preserved
unfolding many
loop-turn-preserved g c = (
  c.loop-turn.invariant.0,
  λ R m.
      let e = one_more (λ n. many R n c.loop-turn.found c.loop-turn.input.rest.now) _ c.loop-turn._turn c.loop-turn-test.true (c.loop-turn.invariant.1 R m) in
      let k = m _ _ _ c.one.ensures in
      first_of (search rules, grind (arith, common_steps)),
)

pub returns : goal.returns
unfolding many
returns g c R m =
    let e = no_more (λ n. many R n c.loop-turn.found c.loop-turn.input.rest.now) _ c.loop-turn._turn c.loop-turn-test.false (c.loop-turn.invariant.1 R m) in
    first_of (search rules, grind (arith, common_steps))
