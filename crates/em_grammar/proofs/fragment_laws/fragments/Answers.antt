use Rattle.em_grammar.proofs.FragmentPairs.{fragments_read}
use Rattle.em_grammar.proofs.fragment_laws.fragments.Goals as goal

pub returns : goal.returns
returns c = record { read = fragments_read }
