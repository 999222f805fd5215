use Rattle.std.proofs.Common.{◌≡◌, drop}
use Rattle.em_macro.specs.Starters as spec
use Rattle.em_macro.proofs.deciding.apart.Given as goal

abbrev pub invariant-loop-one : goal.invariant-loop-one
invariant-loop-one l = spec.apart l.some l.others ≡ spec.apart (drop l.one-index l.some) l.others
