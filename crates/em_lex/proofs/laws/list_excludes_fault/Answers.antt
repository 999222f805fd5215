use Rattle.em_lex.proofs.LexingLemmas.{list_no_fault}
use Rattle.em_lex.proofs.laws.list_excludes_fault.Goals as goal

pub returns : goal.returns
returns c = list_no_fault
