use Rattle.std.proofs.Common.{◌++◌, List, map, take, refl, subst}
use Rattle.em_base.specs.declared.edit.Part.{Part}
use Rattle.em_edit.specs.Ends.{Holds}
use Rattle.em_edit.proofs.Reach.{next_early, next_put, all_put}
use Rattle.em_edit.proofs.ends.put_in_order.Goals as goal

pub loop-part-preserved : goal.loop-part-preserved
loop-part-preserved c = λ before holds clear order.
    let so_far : List Part = before ++ take c.loop-part.part-index (map (λ r. r.now) c.args.parts.now) in
    let p = c.part-item.result.now in
    let early = next_early before c.args.parts.now c.loop-part.part-index c.part-item.result c.loop-part-test.true c.part-item.is clear order in
    subst (λ (ps : List Part). Holds c.put.new.ends ps) (next_put before c.args.parts.now c.loop-part.part-index c.part-item.result c.loop-part-test.true c.part-item.is)
    (c.in_ok-put.ensures p so_far refl (c.loop-part.invariant before holds clear order) early)

pub returns : goal.returns
returns c = λ before holds clear order. subst (λ (ps : List Part). Holds c.loop-part.ends ps) (all_put before c.args.parts.now c.loop-part.part-index c.loop-part-test.false) (c.loop-part.invariant before holds clear order)
