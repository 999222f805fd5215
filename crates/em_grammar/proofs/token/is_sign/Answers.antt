use Rattle.std.proofs.Common.{rules, ◌≡◌, Some, arith}
use Rattle.std.proofs.lemmas.Grind.{common_steps}
use Rattle.em_tree.specs.Starts.{spelling}
use Rattle.em_grammar.proofs.SameSign.{spelled_sign}
use Rattle.em_grammar.proofs.token.is_sign.Goals as goal

pub returns-in-Some : goal.returns-in-Some
returns-in-Some c =
    let h : spelling c.args.token.now ≡ Some c.in-Some.text.now = first_of (search rules, grind (arith, common_steps)) in
    let e = spelled_sign c.args.sign c.args.token.now c.in-Some.text.now h in
    first_of (search rules, grind (arith, common_steps))
