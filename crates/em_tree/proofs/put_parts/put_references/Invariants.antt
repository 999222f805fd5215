use Rattle.std.proofs.Common.{◌≡◌, ◌++◌, drop}
use Rattle.em_tree.specs.Parts.{each, listed_parts, reference_parts}
use Rattle.em_tree.specs.Yields.{one, inside, opened}
use Rattle.em_tree.proofs.put_parts.put_references.Given as goal

abbrev pub invariant-loop-part : goal.invariant-loop-part
invariant-loop-part l = l.out ++ each (listed_parts one inside opened (reference_parts one inside opened)) (drop l.part-index l.list) ≡ l.fn.out ++ each (listed_parts one inside opened (reference_parts one inside opened)) l.list
