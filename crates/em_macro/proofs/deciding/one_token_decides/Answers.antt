use Rattle.std.proofs.Common.{◌≡◌, [], ◌∷◌, rules, arith}
use Rattle.std.proofs.lemmas.Grind.{common_steps}
use Rattle.em_macro.specs.declared.starters.Starter.TheVariants as s
use Rattle.em_macro.specs.Match.{Decidable, at_end, levels}
use Rattle.em_macro.specs.Starters as spec
use Rattle.em_macro.proofs.Telling.{decides_end, told_by}
use Rattle.em_macro.proofs.deciding.one_token_decides.Goals as goal

pub returns : goal.returns
returns c =
    let end : c.as_slice.result.now ≡ s.End ∷ [] = first_of (search rules, grind (arith, common_steps)) in
    told_by c.decides.result (spec.decides levels c.args.matchers.now c.as_slice.result.now) (Decidable levels c.args.matchers.now at_end)
    c.decides.ensures (decides_end levels c.args.matchers.now c.as_slice.result.now end)
