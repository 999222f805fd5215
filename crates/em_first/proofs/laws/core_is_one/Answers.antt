use Rattle.em_first.proofs.One.{one_core}
use Rattle.em_first.proofs.laws.core_is_one.Goals as goal

pub returns : goal.returns
returns c = one_core
