use Rattle.em_grammar.proofs.PatPairs.{tops_read}
use Rattle.em_grammar.proofs.GrammarLaws.{tops_steady, tops_exact}
use Rattle.em_grammar.proofs.laws.top_pats.Goals as goal

pub returns : goal.returns
returns c = record { read = tops_read; steady = tops_steady; exact = tops_exact; one = tops_exact.one }
