use Rattle.std.proofs.Common.{◌+◌, ◌*◌, drop}
use Rattle.em_tree.specs.declared.item.Item.{Item, size-Item}
use Rattle.em_tree.specs.declared.item.Item.TheShapes.{weighed-Item-Plain-2}
use denote.Param.Weighed.{most}
use Rattle.em_tree.specs.Parts.{item_parts, each}
use Rattle.em_tree.specs.Yields.{one, inside, opened}
use Rattle.em_tree.specs.Adding.{Goes}
use Rattle.em_tree.proofs.put_item.+items.Given as goal

abbrev pub invariant-add_items-loop-part : goal.invariant-add_items-loop-part
invariant-add_items-loop-part l = Goes l.fn.out l.out (each (item_parts one inside opened) (drop l.part-index l.list)) (each (item_parts one inside opened) l.list)

abbrev pub decreases-add_item : goal.decreases-add_item
decreases-add_item l = 3 * size-Item l.part.now

abbrev pub decreases-add_item_body : goal.decreases-add_item_body
decreases-add_item_body l = 3 * weighed-Item-Plain-2.weight Item size-Item l.part.now + 2

abbrev pub decreases-add_items : goal.decreases-add_items
decreases-add_items l = 3 * most size-Item l.list.now + 1
