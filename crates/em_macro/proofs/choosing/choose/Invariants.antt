use Rattle.std.proofs.Common.{ℕ, ◌<◌, get_or}
use Rattle.em_macro.specs.declared.rules.Arm.{Arm}
use Rattle.em_macro.specs.Choose.{Misses}
use Rattle.em_macro.specs.Reads.{ReadBefore}
use Rattle.em_macro.proofs.choosing.choose.Given as goal

abbrev pub invariant-loop-index : goal.invariant-loop-index
invariant-loop-index g l = ((k : ℕ) (d : Arm) → k < l.index → Misses g.F.Fragments.reads (get_or l.arms k d) l.pieces) × ReadBefore g.F.Fragments.reads l.index l.arms l.pieces l.tried
