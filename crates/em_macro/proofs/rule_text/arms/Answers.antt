use Rattle.std.proofs.Common.{◌≡◌, ◌++◌, ◌∙◌, Err, true, false, rules, arith}
use Rattle.std.proofs.lemmas.Grind.{common_steps}
use Rattle.em_macro.specs.Steps.{Done, and_then, arms, another}
use Rattle.em_macro.proofs.Turns.{one_more, no_more}
use Rattle.em_macro.proofs.ReadTurns.{read_by}
use Rattle.em_macro.proofs.RuleTexts.{arms_go, arms_end, arms_stop, arms_stop_behind}
use Rattle.em_macro.proofs.rule_text.arms.Goals as goal

pub returns-in_err-one : goal.returns-in_err-one
returns-in_err-one c =
    let is : c.from_residual.result ≡ Err c.in_err-one.field-0.0 = first_of (search rules, grind (arith, common_steps)) in
    let e = one_more (λ n. and_then (arms n c.loop-turn.input.rest.now) (λ y s. Done (c.loop-turn.found ++ y) s)) _ c.loop-turn._turn c.loop-turn-test.true c.loop-turn.invariant in
    read_by _ _ c.from_residual.result c.in_err-one.field-0.0 c.arm.new.input.rest.now e is
    (arms_stop _ c.loop-turn.input.rest.now c.arm.new.input.rest.now c.loop-turn.found c.in_err-one.field-0.0 c.in_err-one.ensures)

pub returns-in_err-another : goal.returns-in_err-another
returns-in_err-another c =
    let is : c.from_residual-in_err-another.result ≡ Err c.in_err-another.field-0.0 = first_of (search rules, grind (arith, common_steps)) in
    let e = one_more (λ n. and_then (arms n c.loop-turn.input.rest.now) (λ y s. Done (c.loop-turn.found ++ y) s)) _ c.loop-turn._turn c.loop-turn-test.true c.loop-turn.invariant in
    read_by _ _ c.from_residual-in_err-another.result c.in_err-another.field-0.0 c.another.new.input.rest.now e is
    (arms_stop_behind _ c.loop-turn.input.rest.now c.arm.new.input.rest.now c.another.new.input.rest.now c.loop-turn.found c.in_ok-one.one c.in_err-another.field-0.0 c.in_ok-one.ensures c.in_err-another.ensures)

pub returns-then-not-branch : goal.returns-then-not-branch
returns-then-not-branch c =
    let last : another c.arm.new.input.rest.now ≡ Done false c.another.new.input.rest.now = first_of (search rules, grind (arith, common_steps)) in
    let e = one_more (λ n. and_then (arms n c.loop-turn.input.rest.now) (λ y s. Done (c.loop-turn.found ++ y) s)) _ c.loop-turn._turn c.loop-turn-test.true c.loop-turn.invariant in
    e ∙ arms_end _ c.loop-turn.input.rest.now c.arm.new.input.rest.now c.another.new.input.rest.now c.loop-turn.found c.push.new.self c.in_ok-one.one c.in_ok-one.ensures last (search rules)

pub loop-turn-preserved : goal.loop-turn-preserved
loop-turn-preserved c =
    let more : another c.arm.new.input.rest.now ≡ Done true c.another.new.input.rest.now = first_of (search rules, grind (arith, common_steps)) in
    let e = one_more (λ n. and_then (arms n c.loop-turn.input.rest.now) (λ y s. Done (c.loop-turn.found ++ y) s)) _ c.loop-turn._turn c.loop-turn-test.true c.loop-turn.invariant in
    e ∙ arms_go _ c.loop-turn.input.rest.now c.arm.new.input.rest.now c.another.new.input.rest.now c.loop-turn.found c.push.new.self c.in_ok-one.one c.in_ok-one.ensures more (search rules)

pub returns : goal.returns
unfolding arms
returns c = no_more (λ n. and_then (arms n c.loop-turn.input.rest.now) (λ y s. Done (c.loop-turn.found ++ y) s)) _ c.loop-turn._turn c.loop-turn-test.false c.loop-turn.invariant
