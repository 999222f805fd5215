use Rattle.em_grammar.proofs.FragmentNests.{fragments_nest}
use Rattle.em_grammar.proofs.nest_laws.fragments_nest.Goals as goal

pub returns : goal.returns
returns c = record { fragments = fragments_nest }
