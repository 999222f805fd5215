use Rattle.em_edit.proofs.MovedLaws.{none_moves}
use Rattle.em_edit.proofs.laws.none_moves.Goals as goal

pub returns : goal.returns
returns c = none_moves
