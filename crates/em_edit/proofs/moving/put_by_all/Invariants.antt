use Rattle.std.proofs.Common.{◌≡◌, ◌+◌, drop}
use Rattle.std.specs.Prelude.{sum_by}
use Rattle.em_edit.specs.Shift.{put_by}
use Rattle.em_edit.proofs.moving.put_by_all.Given as goal

abbrev pub invariant-loop-part : goal.invariant-loop-part
invariant-loop-part l = l.put + sum_by (put_by l.spot.passes l.spot.file l.spot.offset) (drop l.part-index l.parts) ≡ sum_by (put_by l.spot.passes l.spot.file l.spot.offset) l.parts
