use Rattle.std.proofs.Common.{◌≡◌, ◌+◌, ◌*◌, drop, max}
use Rattle.em_tree.specs.declared.item.Item.{Item, size-Item}
use Rattle.em_tree.specs.declared.item.Item.TheShapes.{weighed-Item-Plain-2}
use denote.Param.Weighed.{most}
use Rattle.em_tree.specs.Nesting.{greatest, item_nesting}
use Rattle.em_nesting.proofs.items.+items.Given as goal

abbrev pub invariant-items_within-loop-part : goal.invariant-items_within-loop-part
invariant-items_within-loop-part l = max l.most (greatest item_nesting (drop l.part-index l.list)) ≡ max l.most (greatest item_nesting l.list)

abbrev pub decreases-item_within : goal.decreases-item_within
decreases-item_within l = 3 * size-Item l.tree.now

abbrev pub decreases-item_body_within : goal.decreases-item_body_within
decreases-item_body_within l = 3 * weighed-Item-Plain-2.weight Item size-Item l.tree.now + 2

abbrev pub decreases-items_within : goal.decreases-items_within
decreases-items_within l = 3 * most size-Item l.list.now + 1
