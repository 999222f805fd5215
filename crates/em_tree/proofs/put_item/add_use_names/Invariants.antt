use Rattle.std.proofs.Common.{drop}
use Rattle.em_tree.specs.Parts.{listed_parts, use_name_parts, each}
use Rattle.em_tree.specs.Yields.{one, inside, opened}
use Rattle.em_tree.specs.Adding.{Goes}
use Rattle.em_tree.proofs.put_item.add_use_names.Given as goal

abbrev pub invariant-loop-part : goal.invariant-loop-part
invariant-loop-part l = Goes l.fn.out l.out (each (listed_parts one inside opened (use_name_parts one inside opened)) (drop l.part-index l.list)) (each (listed_parts one inside opened (use_name_parts one inside opened)) l.list)
