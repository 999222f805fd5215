use Rattle.std.proofs.Common.{length}
use Rattle.em_core.proofs.typed.places.+steps_type.Given as goal

abbrev pub decreases-steps_type : goal.decreases-steps_type
decreases-steps_type l = length l.steps.now
