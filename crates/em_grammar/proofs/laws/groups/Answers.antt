use Rattle.em_grammar.proofs.Nesting.{nesting}
use Rattle.em_grammar.proofs.laws.groups.Goals as goal

pub returns : goal.returns
returns c = record { nest = nesting }
