use Rattle.std.proofs.Common.{◌≡◌, ◌++◌, drop}
use Rattle.em_tree.specs.Parts.{each, listed_parts, type_tree_parts}
use Rattle.em_tree.specs.Yields.{one, inside, opened}
use Rattle.em_tree.proofs.put_type.+types.Given as goal

abbrev pub invariant-put_types-loop-part : goal.invariant-put_types-loop-part
invariant-put_types-loop-part l = l.out ++ each (listed_parts one inside opened (type_tree_parts one inside opened)) (drop l.part-index l.list) ≡ l.fn.out ++ each (listed_parts one inside opened (type_tree_parts one inside opened)) l.list
