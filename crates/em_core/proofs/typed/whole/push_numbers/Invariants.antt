use Rattle.std.proofs.Common.{◌≡◌, ◌++◌, map, take}
use Rattle.em_core.proofs.typed.whole.push_numbers.Given as goal

abbrev pub invariant-loop-entry : goal.invariant-loop-entry
invariant-loop-entry l = l.numbers.items ≡ l.fn.numbers.items ++ map (λ e. e.id) (take l.entry-index l.entries)
