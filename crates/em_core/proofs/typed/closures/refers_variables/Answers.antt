use Rattle.std.proofs.Common.{rules, refl}
use Rattle.em_core.specs.Typed.{RefersVariable}
use Rattle.em_core.proofs.ListLemmas.{any_at}
use Rattle.em_core.proofs.typed.closures.refers_variables.Goals as goal

pub returns-then-refers_variable : goal.returns-then-refers_variable
returns-then-refers_variable c = (λ _. any_at (λ x. RefersVariable c.args.core.now x) c.args.variables.now c.loop-i.i c.index-variables-i.result (search rules) (search rules) (search rules), λ _. refl)
