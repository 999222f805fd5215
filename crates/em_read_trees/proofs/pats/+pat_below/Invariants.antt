use Rattle.std.proofs.Common.{◌+◌}
use Rattle.em_read_trees.proofs.pats.+pat_below.Given as goal

abbrev pub decreases-pat_below : goal.decreases-pat_below
decreases-pat_below l = l.groups + l.depth
