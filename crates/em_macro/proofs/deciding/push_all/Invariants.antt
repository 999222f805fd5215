use Rattle.std.proofs.Common.{◌≡◌, ◌++◌, drop}
use Rattle.em_macro.proofs.deciding.push_all.Given as goal

abbrev pub invariant-loop-one : goal.invariant-loop-one
invariant-loop-one l = l.fn.found ++ l.more ≡ l.found ++ drop l.one-index l.more
