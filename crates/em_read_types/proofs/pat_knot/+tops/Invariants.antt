use Rattle.std.proofs.Common.{◌+◌}
use Rattle.em_read_types.proofs.pat_knot.+tops.Given as goal

abbrev pub decreases-top_pat_in : goal.decreases-top_pat_in
decreases-top_pat_in l = l.groups + l.groups + l.groups + 2

abbrev pub decreases-top_group : goal.decreases-top_group
decreases-top_group l = l.groups + l.groups + l.groups + 1

abbrev pub decreases-top_pat_inside : goal.decreases-top_pat_inside
decreases-top_pat_inside l = l.groups + l.groups + l.groups
