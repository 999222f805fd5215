use Rattle.std.proofs.Common.{rules, arith}
use Rattle.std.proofs.lemmas.Grind.{common_steps}
use Rattle.em_grammar.specs.Rows as spec
use Rattle.em_grammar.specs.Rows.{rows}
use Rattle.em_read.proofs.Turns.{one_more, no_more}
use Rattle.em_read.proofs.list.rows.Goals as goal

pub returns-in-Err-Absent : goal.returns-in-Err-Absent
unfolding rows
returns-in-Err-Absent g c test R tests m =
    let e = one_more (λ n. spec.rows test R n c.loop-turn.found c.loop-turn.input.rest.now) _ c.loop-turn._turn c.loop-turn-test.true (c.loop-turn.invariant.2 test R tests m) in
    let k = m _ _ _ c.one.ensures in
    first_of (search rules, grind (arith, common_steps))

pub returns-in-Err : goal.returns-in-Err
unfolding rows
returns-in-Err g c test R tests m =
    let e = one_more (λ n. spec.rows test R n c.loop-turn.found c.loop-turn.input.rest.now) _ c.loop-turn._turn c.loop-turn-test.true (c.loop-turn.invariant.2 test R tests m) in
    let k = m _ _ _ c.one.ensures in
    first_of (search rules, grind (arith, common_steps))

pub returns-then-ends : goal.returns-then-ends
unfolding rows
returns-then-ends g c test R tests m =
    let e = one_more (λ n. spec.rows test R n c.loop-turn.found c.loop-turn.input.rest.now) _ c.loop-turn._turn c.loop-turn-test.true (c.loop-turn.invariant.2 test R tests m) in
    let k = m _ _ _ c.one.ensures in
    let b = tests _ _ c.closed-ends.ensures in
    first_of (search rules, grind (arith, common_steps))

pub loop-turn-preserved : goal.loop-turn-preserved
unfolding rows
loop-turn-preserved g c = (
  c.loop-turn.invariant.0,
  c.loop-turn.invariant.1,
  λ test R tests m.
      let e = one_more (λ n. spec.rows test R n c.loop-turn.found c.loop-turn.input.rest.now) _ c.loop-turn._turn c.loop-turn-test.true (c.loop-turn.invariant.2 test R tests m) in
      let k = m _ _ _ c.one.ensures in
      let b = tests _ _ c.closed-ends.ensures in
      first_of (search rules, grind (arith, common_steps)),
)

pub returns : goal.returns
unfolding rows
returns g c test R tests m =
    let e = no_more (λ n. spec.rows test R n c.loop-turn.found c.loop-turn.input.rest.now) _ c.loop-turn._turn c.loop-turn-test.false (c.loop-turn.invariant.2 test R tests m) in
    first_of (search rules, grind (arith, common_steps))
