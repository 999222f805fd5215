use Rattle.std.proofs.Common.{◌+◌}
use Rattle.em_read_trees.proofs.expr_knot.+exprs.Given as goal

abbrev pub decreases-expr_in : goal.decreases-expr_in
decreases-expr_in l = l.groups + l.depth + (l.groups + l.depth)

abbrev pub decreases-stmt_in : goal.decreases-stmt_in
decreases-stmt_in l = l.groups + l.depth + (l.groups + l.depth) + 1

abbrev pub decreases-tail_in : goal.decreases-tail_in
decreases-tail_in l = l.groups + l.depth + (l.groups + l.depth) + 1

abbrev pub decreases-block_in : goal.decreases-block_in
decreases-block_in l = l.groups + l.depth + (l.groups + l.depth) + 1
