use Rattle.std.proofs.Common.{◌+◌}
use Rattle.em_read.proofs.literal.+literals.Given as goal

abbrev pub decreases-unsigned : goal.decreases-unsigned
decreases-unsigned l = l.groups + l.groups + 1

abbrev pub decreases-unsigned_inside : goal.decreases-unsigned_inside
decreases-unsigned_inside l = l.groups + l.groups
