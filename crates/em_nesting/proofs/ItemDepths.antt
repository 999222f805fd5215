-- How deep items nest, one layer.
use Rattle.std.proofs.Common.{◌≡◌, ℕ, suc, List, Option, refl, ◌∙◌, ap}
use Rattle.em_tree.specs.declared.piece.Group.{Group}
use Rattle.em_tree.specs.declared.item.Attribute.{Attribute}
use Rattle.em_tree.specs.declared.item.Vis.{Vis}
use Rattle.em_tree.specs.declared.item.ItemBody.{ItemBody}
use Rattle.em_tree.specs.declared.item.ItemBody.TheVariants as body
use Rattle.em_tree.specs.declared.item.Item.{Item, out-Item, fold_out-Item, map-Item}
use Rattle.em_tree.specs.declared.item.Item.TheVariants as item
use Rattle.em_tree.specs.declared.item.Item.TheOpen.{Item-F}
use Rattle.em_tree.specs.declared.item.Item.TheShapes.{former-Item-Plain-2}
use Rattle.em_tree.specs.Nesting.{itself, item_body_depth, item_depth, item_nesting}
use Rattle.em_nesting.proofs.TypeDepths.{greatest_map}

at_item : (x : Item) (l : Item-F Item) → out-Item x ≡ l → item_nesting x ≡ item_depth (map-Item Item ℕ item_nesting l)
unfolding item_nesting
at_item x l is = fold_out-Item ℕ item_depth x ∙ ap (λ k. item_depth (map-Item Item ℕ item_nesting k)) is

body_alike : (b : ItemBody Item) → item_body_depth itself (former-Item-Plain-2.map Item ℕ item_nesting b) ≡ item_body_depth item_nesting b
body_alike (body.ExternCrate word word_crate name rename semi) = refl
body_alike (body.Use word path rename semi) = refl
body_alike (body.UseList word path separator opening names closing semi) = refl
body_alike (body.ModFile word name semi) = refl
body_alike (body.ModBlock word name opening items closing) = greatest_map itself item_nesting items
body_alike (body.Fn sig b) = refl
body_alike (body.Struct word name fields) = refl
body_alike (body.Enum word name opening variants closing) = refl
body_alike (body.Trait word name opening functions closing) = refl
body_alike (body.Impl word of_trait self_type opening functions closing) = refl
body_alike (body.Const word name colon ty equals value semi) = refl
body_alike (body.Rules word bang name macro_text semi) = refl
body_alike (body.Macro call semi) = refl

pub plain_item : (attributes : List Attribute) (vis : Option Vis) (b : ItemBody Item) → item_nesting (item.Plain attributes vis b) ≡ suc (item_body_depth item_nesting b)
plain_item attributes vis b = at_item (item.Plain attributes vis b) (Item-F.Plain attributes vis b) (item.outs-Plain attributes vis b) ∙ ap (λ r. suc r) (body_alike b)

pub item_group : (g : Group) (y : Item) → item_nesting (item.Group g y) ≡ item_nesting y
item_group g y = at_item (item.Group g y) (Item-F.Group g y) (item.outs-Group g y)
