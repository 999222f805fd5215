use Rattle.std.proofs.Common.{rules, refl}
use Rattle.em_core.proofs.ListLemmas.{one_impl_all, same_impls}
use Rattle.em_core.proofs.typed.impls.one_impl.Goals as goal

pub returns-then-not-is_only : goal.returns-then-not-is_only
returns-then-not-is_only c = same_impls c.args.impls.now c.rest_from.result.now c.loop-i.i _ c.index-impls-i.result c.is_only.result (search rules) (search rules) c.rest_from.ensures refl c.is_only.ensures (search rules)

pub returns : goal.returns
returns c = (λ _. one_impl_all c.args.impls.now (λ i d lt. c.loop-i.invariant i d (search rules)), λ _. refl)
