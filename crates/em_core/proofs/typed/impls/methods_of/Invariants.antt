use Rattle.std.proofs.Common.{◌≡◌, take, map}
use Rattle.em_core.proofs.typed.impls.methods_of.Given as goal

abbrev pub invariant-loop-function : goal.invariant-loop-function
invariant-loop-function l = l.numbers.items ≡ map (λ f. f.method) (take l.function-index l.functions)
