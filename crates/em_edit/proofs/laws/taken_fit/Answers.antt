use Rattle.em_edit.proofs.MovedLaws.{taken_fit}
use Rattle.em_edit.proofs.laws.taken_fit.Goals as goal

pub returns : goal.returns
returns c = taken_fit
