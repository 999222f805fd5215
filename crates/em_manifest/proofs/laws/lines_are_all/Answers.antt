use Rattle.em_manifest.proofs.LawLemmas.{written-lines, lines_cut}
use Rattle.em_manifest.proofs.laws.lines_are_all.Goals as goal

pub returns-clause-all : goal.returns-clause-all
returns-clause-all c = written-lines

pub returns-clause-cut : goal.returns-clause-cut
returns-clause-cut c = lines_cut
