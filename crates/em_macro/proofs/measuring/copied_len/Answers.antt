use Rattle.std.proofs.Common.{◌≡◌, [], get_or, subst, rules, arith}
use Rattle.std.proofs.lemmas.Grind.{common_steps}
use Rattle.em_macro.specs.Match.{levels}
use Rattle.em_macro.specs.Write.{written, Measured}
use Rattle.em_macro.specs.Measure.{Counts, counted}
use Rattle.em_macro.proofs.Lengths.{measured}
use Rattle.em_macro.proofs.measuring.copied_len.Goals as goal

pub returns : goal.returns
returns c = λ d mark.
    let is : c.index-as_slice-matched.result ≡ get_or c.args.rules.now.arms c.args.matched.now.arm d = first_of (search rules, grind (arith, common_steps)) in
    let counts : Counts (counted levels c.index-as_slice-matched.result.transcriber c.args.matched.now.bindings 0) c.count.result = first_of (search rules, grind (arith, common_steps)) in
    subst (λ a. Measured (written mark levels a.transcriber c.args.matched.now.bindings []) c.count.result) is
    (measured mark levels c.index-as_slice-matched.result.transcriber c.args.matched.now.bindings c.count.result counts)
