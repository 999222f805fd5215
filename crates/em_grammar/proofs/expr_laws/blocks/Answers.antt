use Rattle.em_grammar.proofs.ExprLaws.{the_blocks, blocks_exact, one_block}
use Rattle.em_grammar.proofs.FirmKnot.{blocks_steady}
use Rattle.em_grammar.proofs.expr_laws.blocks.Goals as goal

pub returns : goal.returns
returns c = record { read = the_blocks; steady = blocks_steady; exact = blocks_exact; one = one_block }
