use Rattle.std.proofs.Common.{◌+◌}
use Rattle.em_read_types.proofs.type_knot.+paths.Given as goal

abbrev pub decreases-path_over : goal.decreases-path_over
decreases-path_over g l = l.groups + l.groups + l.groups + 2

abbrev pub decreases-path_group : goal.decreases-path_group
decreases-path_group g l = l.groups + l.groups + l.groups + 1

abbrev pub decreases-path_inside : goal.decreases-path_inside
decreases-path_inside g l = l.groups + l.groups + l.groups
