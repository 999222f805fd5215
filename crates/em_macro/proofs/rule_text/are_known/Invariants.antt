use Rattle.std.proofs.Common.{◌≡◌, drop}
use Rattle.em_macro.specs.Sound.{are_known}
use Rattle.em_macro.proofs.rule_text.are_known.Given as goal

abbrev pub invariant-loop-name : goal.invariant-loop-name
invariant-loop-name l = are_known l.used l.bound ≡ are_known (drop l.name-index l.used) l.bound
