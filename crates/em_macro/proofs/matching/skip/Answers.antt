use Rattle.std.proofs.Common.{◌≡◌, drop, Some, ap, sym, ◌∙◌, rules, arith}
use Rattle.std.proofs.lemmas.Grind.{common_steps}
use Rattle.em_macro.specs.Run.{behind}
use Rattle.em_macro.proofs.Fronts.{passes}
use Rattle.em_macro.proofs.matching.skip.Goals as goal

pub returns-then-at-pieces : goal.returns-then-at-pieces
returns-then-at-pieces c =
    let is : c.args.separator.now ≡ Some c.in-Some.field-0 = first_of (search rules, grind (arith, common_steps)) in
    passes c.args.pieces.now c.args.at.now c.in-Some.field-0 (search rules) ∙ ap (λ s. behind s (drop c.args.at.now c.args.pieces.now)) (sym is)
