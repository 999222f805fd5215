use Rattle.em_grammar.proofs.TypePairs.{paths_read}
use Rattle.em_grammar.proofs.GrammarLaws.{paths_steady, paths_exact}
use Rattle.em_grammar.proofs.laws.paths.Goals as goal

pub returns : goal.returns
returns c = record { read = paths_read; steady = paths_steady; exact = paths_exact; one = paths_exact.one }
