use Rattle.std.proofs.Common.{◌≡◌, drop}
use Rattle.em_macro.specs.Starters as spec
use Rattle.em_macro.proofs.deciding.all_follow.Given as goal

abbrev pub invariant-loop-starter : goal.invariant-loop-starter
invariant-loop-starter l = spec.all_follow l.specifier l.starters ≡ spec.all_follow l.specifier (drop l.starter-index l.starters)
