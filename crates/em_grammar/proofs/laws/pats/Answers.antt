use Rattle.em_grammar.proofs.PatPairs.{pats_read}
use Rattle.em_grammar.proofs.GrammarLaws.{pats_steady, pats_exact}
use Rattle.em_grammar.proofs.laws.pats.Goals as goal

pub returns : goal.returns
returns c = record { read = pats_read; steady = pats_steady; exact = pats_exact; one = pats_exact.one }
