use Rattle.em_edit.proofs.MovedLaws.{outside_stays}
use Rattle.em_edit.proofs.laws.outside_stays.Goals as goal

pub returns : goal.returns
returns c = outside_stays
