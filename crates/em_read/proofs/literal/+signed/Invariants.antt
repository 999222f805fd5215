use Rattle.std.proofs.Common.{◌+◌}
use Rattle.em_read.proofs.literal.+signed.Given as goal

abbrev pub decreases-signed : goal.decreases-signed
decreases-signed l = l.groups + l.groups + 1

abbrev pub decreases-signed_inside : goal.decreases-signed_inside
decreases-signed_inside l = l.groups + l.groups
