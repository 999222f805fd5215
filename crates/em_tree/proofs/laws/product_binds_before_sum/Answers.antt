use Rattle.em_tree.proofs.ExampleLaws.{sum_of_product_is_one, no_product_of_sum}
use Rattle.em_tree.proofs.laws.product_binds_before_sum.Goals as goal

pub returns-clause-product : goal.returns-clause-product
returns-clause-product c = sum_of_product_is_one

pub returns-clause-sum : goal.returns-clause-sum
returns-clause-sum c = no_product_of_sum
