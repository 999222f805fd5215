use Rattle.std.proofs.Common.{◌+◌}
use Rattle.em_read_types.proofs.type_knot.+type_tree.Given as goal

abbrev pub decreases-type_tree : goal.decreases-type_tree
decreases-type_tree l = l.groups + l.depth
