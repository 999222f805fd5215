use Rattle.std.proofs.Common.{◌+◌}
use Rattle.em_read.proofs.path.+plain.Given as goal

abbrev pub decreases-plain_path : goal.decreases-plain_path
decreases-plain_path l = l.groups + l.groups + 1

abbrev pub decreases-plain_path_inside : goal.decreases-plain_path_inside
decreases-plain_path_inside l = l.groups + l.groups
