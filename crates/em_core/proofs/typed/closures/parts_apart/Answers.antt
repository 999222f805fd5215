use Rattle.std.proofs.Common.{rules, refl}
use Rattle.em_core.proofs.ListLemmas.{parts_apart_all, parts_meet}
use Rattle.em_core.proofs.typed.closures.parts_apart.Goals as goal

pub returns-then-not-is_apart : goal.returns-then-not-is_apart
returns-then-not-is_apart c = parts_meet c.args.captures.now c.rest_from.result.now c.loop-i.i _ c.index-captures-i.result c.is_apart.result (search rules) (search rules) c.rest_from.ensures refl c.is_apart.ensures (search rules)

pub returns : goal.returns
returns c = (λ _. parts_apart_all c.args.captures.now (λ i d lt. c.loop-i.invariant i d (search rules)), λ _. refl)
