use Rattle.std.proofs.Common.{◌≡◌, map, take}
use Rattle.std.specs.Prelude.{flat_map}
use Rattle.em_core.proofs.typed.whole.closure_numbers.Given as goal

abbrev pub invariant-loop-function : goal.invariant-loop-function
invariant-loop-function l = l.numbers.items ≡ map (λ e. e.id) (flat_map (λ f. f.closures) (take l.function-index l.core.functions))
