use Rattle.std.proofs.Common.{◌≡◌, ◌+◌, drop}
use Rattle.std.specs.Prelude.{sum_by}
use Rattle.em_edit.specs.Shift.{removed_by}
use Rattle.em_edit.proofs.moving.removed_by_all.Given as goal

abbrev pub invariant-loop-part : goal.invariant-loop-part
invariant-loop-part l = l.removed + sum_by (removed_by l.spot.file l.spot.offset) (drop l.part-index l.parts) ≡ sum_by (removed_by l.spot.file l.spot.offset) l.parts
