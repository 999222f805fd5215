use Rattle.em_grammar.proofs.LiteralPairs.{int_reads}
use Rattle.em_grammar.proofs.GrammarLaws.{ints_steady, ints_exact}
use Rattle.em_grammar.proofs.laws.ints.Goals as goal

pub returns : goal.returns
returns c = record { read = int_reads; steady = ints_steady; exact = ints_exact }
