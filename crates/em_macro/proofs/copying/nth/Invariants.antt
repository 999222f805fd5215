use Rattle.std.proofs.Common.{◌≡◌, take, map}
use Rattle.em_macro.specs.Write.{nth}
use Rattle.em_macro.proofs.copying.nth.Given as goal

abbrev pub invariant-loop-binding : goal.invariant-loop-binding
invariant-loop-binding l = l.found ≡ map (nth l.k) (take l.binding-index l.bindings)
