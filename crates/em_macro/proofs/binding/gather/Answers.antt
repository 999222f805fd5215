use Rattle.std.proofs.Common.{◌≡◌, ◌++◌, ◌∷◌, [], map, ◌∙◌, rules, arith}
use Rattle.std.proofs.lemmas.Grind.{common_steps}
use Rattle.em_macro.specs.declared.matched.Bound.TheVariants as b
use Rattle.em_macro.specs.Match.{binding, bound_to}
use Rattle.em_macro.proofs.Gathering.{gather_goes}
use Rattle.em_macro.proofs.binding.gather.Goals as goal

pub loop-name-preserved : goal.loop-name-preserved
loop-name-preserved c =
    let joined : c.push.new.self ≡ c.loop-name.found ++ binding c.name-item.result (b.Many (map (bound_to c.name-item.result) c.args.copies.now)) ∷ [] = first_of (search rules, grind (arith, common_steps)) in
    c.loop-name.invariant ∙ gather_goes c.args.names.now c.args.copies.now c.loop-name.name-index c.name-item.result c.loop-name.found c.push.new.self (search rules) (search rules) joined
