use Rattle.std.proofs.Common.{◌≡◌, drop}
use Rattle.em_macro.specs.Write.{agree, steps}
use Rattle.em_macro.proofs.copying.steps_for.Given as goal

abbrev pub invariant-loop-name : goal.invariant-loop-name
invariant-loop-name l = steps l.names l.bindings ≡ agree l.found (steps (drop l.name-index l.names) l.bindings)
