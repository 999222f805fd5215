use Rattle.std.proofs.Common.{◌≡◌, take, map}
use Rattle.em_macro.specs.Match.{bound_to}
use Rattle.em_macro.proofs.binding.column.Given as goal

abbrev pub invariant-loop-copy : goal.invariant-loop-copy
invariant-loop-copy l = l.found ≡ map (bound_to l.name) (take l.copy-index l.copies)
