use Rattle.std.proofs.Common.{length}
use Rattle.em_core.proofs.typed.patterns.+path_type.Given as goal

abbrev pub decreases-path_type : goal.decreases-path_type
decreases-path_type l = length l.path.now
