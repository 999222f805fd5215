use Rattle.em_tree.proofs.GrammarLaws.{word_is_fragment}
use Rattle.em_tree.proofs.laws.word_is_fragment.Goals as goal

pub returns : goal.returns
returns c = word_is_fragment
