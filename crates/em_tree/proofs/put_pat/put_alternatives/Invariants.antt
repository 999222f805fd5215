use Rattle.std.proofs.Common.{◌≡◌, ◌++◌, drop}
use Rattle.em_tree.specs.Parts.{alternative_parts, each}
use Rattle.em_tree.specs.Yields.{one, inside, opened}
use Rattle.em_tree.proofs.put_pat.put_alternatives.Given as goal

abbrev pub invariant-loop-part : goal.invariant-loop-part
invariant-loop-part l = l.out ++ each (alternative_parts one inside opened) (drop l.part-index l.list) ≡ l.fn.out ++ each (alternative_parts one inside opened) l.list
