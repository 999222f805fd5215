use Rattle.std.proofs.Common.{ℕ, ◌<◌, get_or}
use Rattle.em_macro.specs.declared.rules.Arm.{Arm}
use Rattle.em_macro.specs.Sound.{IsSound}
use Rattle.em_macro.proofs.rule_text.are_sound.Given as goal

abbrev pub invariant-loop-arm : goal.invariant-loop-arm
invariant-loop-arm l = (k : ℕ) (d : Arm) → k < l.arm-index → IsSound (get_or l.arms k d)
