use Rattle.em_lex.proofs.TotalLemmas.{list_or_fault}
use Rattle.em_lex.proofs.laws.list_or_fault.Goals as goal

pub returns : goal.returns
returns c = list_or_fault
