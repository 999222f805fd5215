use Rattle.std.proofs.Common.{rules, refl}
use Rattle.em_core.proofs.TypeLemmas.{type_of, before_none}
use Rattle.em_core.proofs.typed.type_ok.+type_ok.Goals as goal

pub returns : goal.returns
returns t c = (λ _. type_of _ _ (c.form_ok.ensures.0 (search rules)) (λ k u q. c.loop-child.invariant k u (before_none _ _ _ _ (search rules) q) q), λ _. refl)
