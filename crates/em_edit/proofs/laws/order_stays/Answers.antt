use Rattle.em_edit.proofs.MovedLaws.{order_stays}
use Rattle.em_edit.proofs.laws.order_stays.Goals as goal

pub returns : goal.returns
returns c = order_stays
