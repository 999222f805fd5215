use Rattle.std.proofs.Common.{◌≡◌, ◌≤◌, [], sym, ap, ◌∙◌, rules, arith}
use Rattle.std.proofs.lemmas.Grind.{common_steps}
use Rattle.em_tree.specs.Nesting.{body_nesting}
use Rattle.em_grammar.specs.ExprKnot.{body_in}
use Rattle.em_parse.specs.Calls.{most}
use Rattle.em_parse.proofs.WholeBodies.{whole}
use Rattle.em_parse.proofs.calls.body_of.Goals as goal

pub returns-in-empty-clause-ok : goal.returns-in-empty-clause-ok
returns-in-empty-clause-ok g c =
    let none : c.body_in.new.input.rest.now ≡ [] = first_of (search rules, grind (arith, common_steps)) in
    let fits : body_nesting c.in-Ok.body ≤ most = first_of (search rules, grind (arith, common_steps)) in
    whole c.bodies.ensures.found c.exprs_nest.ensures.bodies c.args.pieces.now c.in-Ok.body c.body_in.new.input.rest.now (ap (λ i. body_in most most i) (sym c.as_slice.ensures) ∙ c.in-Ok.ensures) fits none
