use Rattle.std.proofs.Common.{arith}
use Rattle.em_edit.specs.Shift.{removed_by}
use Rattle.em_edit.proofs.Sums.{sum_next, sum_end}
use Rattle.em_edit.proofs.moving.removed_by_all.Goals as goal

pub overflow_add-removed : goal.overflow_add-removed
overflow_add-removed c =
    let next = sum_next (removed_by c.args.spot.file c.args.spot.offset) c.args.parts.now c.loop-part.part-index c.part-item.result c.loop-part-test.true c.part-item.is in
    omega (arith, next, c.removed_by-removed.ensures)

pub loop-part-preserved : goal.loop-part-preserved
loop-part-preserved c =
    let next = sum_next (removed_by c.args.spot.file c.args.spot.offset) c.args.parts.now c.loop-part.part-index c.part-item.result c.loop-part-test.true c.part-item.is in
    omega (arith, next, c.removed_by-removed.ensures)

pub returns : goal.returns
returns c =
    let none = sum_end (removed_by c.args.spot.file c.args.spot.offset) c.args.parts.now c.loop-part.part-index c.loop-part-test.false in
    omega arith
