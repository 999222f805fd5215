use Rattle.std.proofs.Common.{◌≡◌, length, take}
use Rattle.em_manifest.proofs.set.are_same_dependencies.Given as goal

abbrev pub invariant-loop-i : goal.invariant-loop-i
invariant-loop-i l = record { lengths : length l.some ≡ length l.others; same : take l.i l.some ≡ take l.i l.others }
