use Rattle.std.proofs.Common.{◌+◌}
use Rattle.em_read_trees.proofs.item_knot.+item_in.Given as goal

abbrev pub decreases-item_in : goal.decreases-item_in
decreases-item_in l = l.groups + l.depth
