use Rattle.em_tree.proofs.OpenedItems.{node_is}
use Rattle.em_tree.proofs.laws.tokens_are_opened_pieces.Goals as goal

pub returns : goal.returns
returns c = node_is
