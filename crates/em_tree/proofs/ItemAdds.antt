-- The tokens that are added for an item.
use Rattle.std.proofs.Common.{◌≡◌, List, Option}
use Rattle.em_tree.specs.declared.item.Attribute.{Attribute}
use Rattle.em_tree.specs.declared.item.Vis.{Vis}
use Rattle.em_tree.specs.declared.item.ItemBody.{ItemBody}
use Rattle.em_tree.specs.declared.item.Item.{Item}
use Rattle.em_tree.specs.declared.item.Item.TheVariants as item
use Rattle.em_tree.specs.declared.piece.Group.{Group}
use Rattle.em_tree.specs.declared.writer.Writer.{Writer}
use Rattle.em_tree.specs.Parts.{maybe, each, attribute_parts, vis_parts, item_body_parts, item_parts}
use Rattle.em_tree.specs.Yields.{one, inside, opened}
use Rattle.em_tree.specs.Adding.{Adds}
use Rattle.em_tree.proofs.Adds.{adds_as, adds3}
use Rattle.em_tree.proofs.Layers.{at-Item-Plain, at-Item-Group}

pub adds_item_plain : (w0 w1 w2 w3 : Writer) (x : Item) (attributes : List Attribute) (vis : Option Vis) (body : ItemBody Item) → x ≡ item.Plain attributes vis body
    → Adds w0 (each (attribute_parts one inside opened) attributes) w1 → Adds w1 (maybe (vis_parts one inside opened) vis) w2
    → Adds w2 (item_body_parts one inside opened (item_parts one inside opened) body) w3 → Adds w0 (item_parts one inside opened x) w3
adds_item_plain w0 w1 w2 w3 x attributes vis body is h0 h1 h2 =
    adds_as w0 w3 _ _ (at-Item-Plain one inside opened x attributes vis body is)
    (adds3 w0 w1 w2 w3 (each (attribute_parts one inside opened) attributes) (maybe (vis_parts one inside opened) vis) (item_body_parts one inside opened (item_parts one inside opened) body) h0 h1 h2)

pub adds_item_group : (w0 w1 : Writer) (x : Item) (group : Group) (inner : Item) → x ≡ item.Group group inner → Adds w0 (item_parts one inside opened inner) w1 → Adds w0 (item_parts one inside opened x) w1
adds_item_group w0 w1 x group inner is h = adds_as w0 w1 _ _ (at-Item-Group one inside opened x group inner is) h
