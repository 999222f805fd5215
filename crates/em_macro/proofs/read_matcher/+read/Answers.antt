use Rattle.std.proofs.Common.{◌≡◌, ◌<◌, ◌++◌, ◌∙◌, Err, rules, arith, false, true}
use Rattle.std.proofs.lemmas.Grind.{common_steps}
use Rattle.em_macro.specs.Steps.{Done, and_then, parts, matcher, at_close}
use Rattle.em_macro.proofs.Turns.{one_more, no_more, deeper}
use Rattle.em_macro.proofs.ReadTurns.{read_by, read_same, parts_go, parts_stop, parts_end}
use Rattle.em_macro.proofs.read_matcher.+read.Goals as goal

pub parts-returns-in_err-one : goal.parts-returns-in_err-one
parts-returns-in_err-one t c =
    let is : c.from_residual.result ≡ Err c.in_err-one.field-0.0 = first_of (search rules, grind (arith, common_steps)) in
    let opened : at_close c.loop-turn.input.rest.now ≡ false = first_of (search rules, grind (arith, common_steps)) in
    let e = one_more (λ n. and_then (parts (matcher c.args.depth) n c.loop-turn.input.rest.now) (λ y s. Done (c.loop-turn.found ++ y) s)) _ c.loop-turn._turn c.loop-turn-test.true c.loop-turn.invariant in
    read_by _ _ c.from_residual.result c.in_err-one.field-0.0 c.part.new.input.rest.now e is
    (parts_stop (matcher c.args.depth) _ c.loop-turn.input.rest.now c.part.new.input.rest.now c.loop-turn.found c.in_err-one.field-0.0 opened c.in_err-one.ensures)

pub parts-returns-then-at_close : goal.parts-returns-then-at_close
parts-returns-then-at_close t c =
    let close : at_close c.loop-turn.input.rest.now ≡ true = first_of (search rules, grind (arith, common_steps)) in
    let e = one_more (λ n. and_then (parts (matcher c.args.depth) n c.loop-turn.input.rest.now) (λ y s. Done (c.loop-turn.found ++ y) s)) _ c.loop-turn._turn c.loop-turn-test.true c.loop-turn.invariant in
    e ∙ parts_end (matcher c.args.depth) _ c.loop-turn.input.rest.now c.loop-turn.found close

pub parts-loop-turn-preserved : goal.parts-loop-turn-preserved
parts-loop-turn-preserved t c =
    let opened : at_close c.loop-turn.input.rest.now ≡ false = first_of (search rules, grind (arith, common_steps)) in
    let e = one_more (λ n. and_then (parts (matcher c.args.depth) n c.loop-turn.input.rest.now) (λ y s. Done (c.loop-turn.found ++ y) s)) _ c.loop-turn._turn c.loop-turn-test.true c.loop-turn.invariant in
    e ∙ parts_go (matcher c.args.depth) _ c.loop-turn.input.rest.now c.part.new.input.rest.now c.loop-turn.found c.push.new.self c.in_ok-one.one opened (search rules) (search rules)

pub parts-returns : goal.parts-returns
unfolding parts
parts-returns t c = no_more (λ n. and_then (parts (matcher c.args.depth) n c.loop-turn.input.rest.now) (λ y s. Done (c.loop-turn.found ++ y) s)) _ c.loop-turn._turn c.loop-turn-test.false c.loop-turn.invariant

pub read-returns : goal.read-returns
unfolding matcher
read-returns t c =
    let some : 0 < c.args.depth = omega arith in
    read_same _ _ c.parts.result c.parts.new.input.rest.now (deeper (λ n. matcher n c.args.input.now.rest.now) c.args.depth some) c.parts.ensures
