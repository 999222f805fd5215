use Rattle.std.proofs.Common.{◌≡◌, drop}
use Rattle.em_macro.specs.Starters as spec
use Rattle.em_macro.proofs.deciding.apart_from.Given as goal

abbrev pub invariant-loop-other : goal.invariant-loop-other
invariant-loop-other l = spec.apart_from l.one l.others ≡ spec.apart_from l.one (drop l.other-index l.others)
