use Rattle.std.proofs.Common.{◌++◌, List, refl, subst, take}
use Rattle.em_base.specs.declared.edit.Part.{Part}
use Rattle.em_edit.specs.Ends.{HoldsClear}
use Rattle.em_edit.proofs.Clearance.{more_parts, all_parts_put, meets_earlier}
use Rattle.em_edit.proofs.Reach.{clear_put, all_clear}
use Rattle.em_edit.proofs.ends.put_all.Goals as goal

pub returns-then-meets : goal.returns-then-meets
returns-then-meets c = λ before held.
    let met = c.if-meets.ensures c.part-item.result (before ++ take c.loop-part.part-index c.args.parts.now) refl (c.loop-part.invariant before held).holds in
    meets_earlier before c.args.parts.now c.loop-part.part-index c.part-item.result c.loop-part-test.true c.part-item.is met

pub loop-part-preserved : goal.loop-part-preserved
loop-part-preserved c = λ before held.
    let so_far : List Part = before ++ take c.loop-part.part-index c.args.parts.now in
    let p = c.part-item.result in
    let now = c.loop-part.invariant before held in
    let clear = c.if-meets.ensures p so_far refl now.holds in
    subst (λ (ps : List Part). HoldsClear c.put.new.ends ps) (more_parts before c.args.parts.now c.loop-part.part-index p c.loop-part-test.true c.part-item.is)
    (clear_put c.loop-part.ends c.put.new.ends p so_far now.clear clear (c.in_ok-put.ensures p so_far refl now.holds (all_clear p so_far clear)))

pub returns : goal.returns
returns c = λ before held. subst (λ (ps : List Part). HoldsClear c.loop-part.ends ps) (all_parts_put before c.args.parts.now c.loop-part.part-index c.loop-part-test.false) (c.loop-part.invariant before held)
