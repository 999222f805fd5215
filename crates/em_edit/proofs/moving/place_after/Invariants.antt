use Rattle.std.proofs.Common.{◌≡◌, ◌+◌, drop}
use Rattle.std.specs.Prelude.{sum_by}
use Rattle.em_edit.specs.Edited.{all_parts}
use Rattle.em_edit.specs.Shift.{put_by, removed_by}
use Rattle.em_edit.proofs.moving.place_after.Given as goal

abbrev pub invariant-loop-suggestion : goal.invariant-loop-suggestion
invariant-loop-suggestion l = record {
  put : l.put + sum_by (put_by l.spot.passes l.spot.file l.spot.offset) (all_parts (drop l.suggestion-index l.taken)) ≡ sum_by (put_by l.spot.passes l.spot.file l.spot.offset) (all_parts l.taken);
  removed : l.removed + sum_by (removed_by l.spot.file l.spot.offset) (all_parts (drop l.suggestion-index l.taken)) ≡ sum_by (removed_by l.spot.file l.spot.offset) (all_parts l.taken);
}
