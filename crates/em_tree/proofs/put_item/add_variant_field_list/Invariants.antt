use Rattle.std.proofs.Common.{drop}
use Rattle.em_tree.specs.Parts.{listed_parts, variant_field_parts, each}
use Rattle.em_tree.specs.Yields.{one, inside, opened}
use Rattle.em_tree.specs.Adding.{Goes}
use Rattle.em_tree.proofs.put_item.add_variant_field_list.Given as goal

abbrev pub invariant-loop-part : goal.invariant-loop-part
invariant-loop-part l = Goes l.fn.out l.out (each (listed_parts one inside opened (variant_field_parts one inside opened)) (drop l.part-index l.list)) (each (listed_parts one inside opened (variant_field_parts one inside opened)) l.list)
