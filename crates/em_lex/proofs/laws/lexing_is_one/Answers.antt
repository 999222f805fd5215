use Rattle.em_lex.proofs.LexingLemmas.{one_lexing}
use Rattle.em_lex.proofs.laws.lexing_is_one.Goals as goal

pub returns : goal.returns
returns c = one_lexing
