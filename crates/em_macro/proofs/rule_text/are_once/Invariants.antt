use Rattle.std.proofs.Common.{◌≡◌, drop}
use Rattle.em_macro.specs.Sound.{are_once}
use Rattle.em_macro.proofs.rule_text.are_once.Given as goal

abbrev pub invariant-loop-index : goal.invariant-loop-index
invariant-loop-index l = are_once l.names ≡ are_once (drop l.index l.names)
