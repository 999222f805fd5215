use Rattle.em_tree.proofs.ExampleLaws.{empty_function_is_item}
use Rattle.em_tree.proofs.laws.empty_function_is_item.Goals as goal

pub returns : goal.returns
returns c = empty_function_is_item
