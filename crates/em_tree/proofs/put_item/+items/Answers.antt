use Rattle.std.proofs.Common.{rules}
use Rattle.em_tree.proofs.ItemAdds.{adds_item_plain, adds_item_group}
use Rattle.em_tree.proofs.put_item.+items.Goals as goal

pub add_item-returns-in-Plain : goal.add_item-returns-in-Plain
add_item-returns-in-Plain t c =
    adds_item_plain c.args.out.now c.add_attributes.new.out c.add_vis_if.new.out c.add_item_body.new.out c.args.part.now c.in-Plain.attributes c.in-Plain.vis c.in-Plain.body c.in-Plain.is
    (search rules) (search rules) (search rules)

pub add_item-returns-in-Group : goal.add_item-returns-in-Group
add_item-returns-in-Group t c =
    adds_item_group c.args.out.now c.add_item.new.out c.args.part.now _ c.in-Group.inner c.in-Group.is (search rules)
