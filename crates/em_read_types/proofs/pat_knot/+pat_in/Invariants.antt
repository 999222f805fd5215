use Rattle.std.proofs.Common.{◌+◌}
use Rattle.em_read_types.proofs.pat_knot.+pat_in.Given as goal

abbrev pub decreases-pat_in : goal.decreases-pat_in
decreases-pat_in l = l.groups + l.depth
