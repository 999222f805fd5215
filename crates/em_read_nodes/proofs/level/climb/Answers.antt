use Rattle.std.proofs.Common.{◌≡◌, Err, rules, arith}
use Rattle.std.proofs.lemmas.Grind.{common_steps}
use Rattle.em_read_nodes.proofs.Turns.{turn_fails, turn_ends, turn_goes, too_deep, all_read}
use Rattle.em_read_nodes.proofs.level.climb.Goals as goal

pub returns-in_err-found : goal.returns-in_err-found
returns-in_err-found g c =
    let is : c.from_residual.result ≡ Err c.in_err-found.field-0.0 = first_of (search rules, grind (arith, common_steps)) in
    turn_fails _ _ _ _ _ _ _ _ _ _ c.in_err-found.field-0.0 c.from_residual.result c.loop-turn-test.true c.loop-turn.invariant c.in_err-found.ensures (search rules) is

pub returns-in_default : goal.returns-in_default
returns-in_default g c =
    let e = rw c.in_default.is at c.in_ok-found.ensures in
    turn_ends _ _ _ _ _ _ _ _ _ c.loop-turn-test.true c.loop-turn.invariant e (search rules)

pub loop-turn-preserved : goal.loop-turn-preserved
loop-turn-preserved g c =
    let e = rw c.in-Some.is at c.in_ok-found.ensures in
    turn_goes _ _ _ _ _ _ _ _ _ _ _ c.loop-turn-test.true c.loop-turn.invariant e (search rules) c.in_ok-left.ensures.made

pub returns-then-goes_on : goal.returns-then-goes_on
returns-then-goes_on g c = too_deep _ _ _ _ _ _ _ c.loop-turn-test.false c.loop-turn.invariant (search rules)

pub returns : goal.returns
returns g c = all_read _ _ _ _ _ _ _ c.loop-turn-test.false c.loop-turn.invariant (search rules)
