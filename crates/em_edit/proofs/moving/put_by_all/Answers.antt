use Rattle.std.proofs.Common.{arith}
use Rattle.em_edit.specs.Shift.{put_by}
use Rattle.em_edit.proofs.Sums.{sum_next, sum_end}
use Rattle.em_edit.proofs.moving.put_by_all.Goals as goal

pub overflow_add-put : goal.overflow_add-put
overflow_add-put c =
    let next = sum_next (put_by c.args.spot.passes c.args.spot.file c.args.spot.offset) c.args.parts.now c.loop-part.part-index c.part-item.result c.loop-part-test.true c.part-item.is in
    omega (arith, next, c.put_by-put.ensures)

pub loop-part-preserved : goal.loop-part-preserved
loop-part-preserved c =
    let next = sum_next (put_by c.args.spot.passes c.args.spot.file c.args.spot.offset) c.args.parts.now c.loop-part.part-index c.part-item.result c.loop-part-test.true c.part-item.is in
    omega (arith, next, c.put_by-put.ensures)

pub returns : goal.returns
returns c =
    let none = sum_end (put_by c.args.spot.passes c.args.spot.file c.args.spot.offset) c.args.parts.now c.loop-part.part-index c.loop-part-test.false in
    omega arith
