use Rattle.std.proofs.Common.{arith}
use Rattle.em_edit.proofs.Places.{is_place}
use Rattle.em_edit.proofs.moving.moved_offset.Goals as goal

pub place_after-requires-clause-put : goal.place_after-requires-clause-put
place_after-requires-clause-put c = (is_place c.args.spot.passes c.args.taken.now c.args.spot.file c.args.spot.offset c.requires).put

pub place_after-requires-clause-removed : goal.place_after-requires-clause-removed
place_after-requires-clause-removed c = (is_place c.args.spot.passes c.args.taken.now c.args.spot.file c.args.spot.offset c.requires).removed

pub overflow_cast-result : goal.overflow_cast-result
overflow_cast-result c = let place = is_place c.args.spot.passes c.args.taken.now c.args.spot.file c.args.spot.offset c.requires in omega (arith, place.small, place.is, c.place_after.ensures)

pub returns : goal.returns
returns c = let place = is_place c.args.spot.passes c.args.taken.now c.args.spot.file c.args.spot.offset c.requires in omega (arith, place.is, c.place_after.ensures)
