use Rattle.std.proofs.Common.{◌≡◌, drop}
use Rattle.em_macro.specs.Match.{bound_to}
use Rattle.em_macro.proofs.binding.bound_to.Given as goal

abbrev pub invariant-loop-binding : goal.invariant-loop-binding
invariant-loop-binding l = bound_to l.name l.bindings ≡ bound_to l.name (drop l.binding-index l.bindings)
