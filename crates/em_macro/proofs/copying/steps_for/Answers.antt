use Rattle.std.proofs.Common.{◌≡◌, drop, [], sym, ap, ◌∙◌, rules, arith}
use Rattle.std.proofs.lemmas.Grind.{common_steps}
use Rattle.std.proofs.lemmas.List.{drop_all}
use Rattle.em_macro.specs.declared.matched.Bound.{out-Bound}
use Rattle.em_macro.specs.Match.{bound_to}
use Rattle.em_macro.specs.Write.{agree, steps, steps_of}
use Rattle.em_macro.proofs.Agreeing.{agree_any, steps_go}
use Rattle.em_macro.proofs.copying.steps_for.Goals as goal

pub loop-name-preserved : goal.loop-name-preserved
loop-name-preserved c =
    let joined : c.agree-found.result ≡ agree c.loop-name.found (steps_of (out-Bound (bound_to c.name-item.result c.args.bindings.now))) = first_of (search rules, grind (arith, common_steps)) in
    c.loop-name.invariant ∙ steps_go c.args.names.now c.args.bindings.now c.loop-name.name-index c.name-item.result c.loop-name.found c.agree-found.result (search rules) (search rules) joined

pub returns : goal.returns
returns c =
    let none : drop c.loop-name.name-index c.args.names.now ≡ [] = drop_all c.loop-name.name-index c.args.names.now (search rules) in
    sym (c.loop-name.invariant ∙ ap (λ l. agree c.loop-name.found (steps l c.args.bindings.now)) none ∙ agree_any c.loop-name.found)
