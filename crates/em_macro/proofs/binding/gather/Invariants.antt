use Rattle.std.proofs.Common.{◌≡◌, ◌++◌, drop}
use Rattle.em_macro.specs.Match.{gather}
use Rattle.em_macro.proofs.binding.gather.Given as goal

abbrev pub invariant-loop-name : goal.invariant-loop-name
invariant-loop-name l = gather l.names l.copies ≡ l.found ++ gather (drop l.name-index l.names) l.copies
