use Rattle.em_lex.proofs.LexingLemmas.{one_fault}
use Rattle.em_lex.proofs.laws.fault_is_one.Goals as goal

pub returns : goal.returns
returns c = one_fault
