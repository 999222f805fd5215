use Rattle.em_grammar.proofs.PathPairs.{plain_reads}
use Rattle.em_grammar.proofs.FirmTypes.{plain_firm}
use Rattle.em_grammar.proofs.GrammarLaws.{plain_exact}
use Rattle.em_grammar.proofs.laws.plain_paths.Goals as goal

pub returns : goal.returns
returns c = record { read = plain_reads; steady = plain_firm; exact = plain_exact }
