use Rattle.em_grammar.proofs.TypePairs.{types_read}
use Rattle.em_grammar.proofs.GrammarLaws.{types_steady, types_exact}
use Rattle.em_grammar.proofs.laws.types.Goals as goal

pub returns : goal.returns
returns c = record { read = types_read; steady = types_steady; exact = types_exact; one = types_exact.one }
