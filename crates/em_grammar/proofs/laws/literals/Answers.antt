use Rattle.em_grammar.proofs.LiteralPairs.{literal_reads}
use Rattle.em_grammar.proofs.FirmTypes.{literal_firm}
use Rattle.em_grammar.proofs.GrammarLaws.{literals_exact, one_literal}
use Rattle.em_grammar.proofs.laws.literals.Goals as goal

pub returns : goal.returns
returns c = record { read = literal_reads; steady = literal_firm; exact = literals_exact; one = one_literal }
