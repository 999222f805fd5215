-- The types of an impl.
use Rattle.std.proofs.Common.{◌≡◌, List, Option, Some, None, refl, sym, ap, ◌∙◌}
use Rattle.em_base.specs.declared.token.Token.{Token}
use Rattle.em_tree.specs.declared.types.Path.{Path}
use Rattle.em_tree.specs.declared.types.TypeTree.{TypeTree}
use Rattle.em_tree.specs.declared.item.ImplFn.{ImplFn}
use Rattle.em_tree.specs.declared.item.ImplTrait.{ImplTrait}
use Rattle.em_tree.specs.declared.item.ItemBody.{ItemBody}
use Rattle.em_tree.specs.declared.item.ItemBody.TheVariants as body
use Rattle.em_tree.specs.declared.item.Item.{Item}
use Rattle.em_grammar.specs.ItemReader.{ImplHead, impl_for, impl_with, impl_of}
use Rattle.em_read_items.specs.Items.{of_trait, impl_types}

for_by : (w t : Token) (y : TypeTree) (o : Token) (fs : List ImplFn) (c : Token) (p : Option Path) → body.Impl w (of_trait p t) y o fs c ≡ impl_for w p (t, y) o fs c
for_by w t y o fs c None = refl
for_by w t y o fs c (Some x) = refl

pub of_types : (w : Token) (h : ImplHead) (o : Token) (fs : List ImplFn) (c : Token) → body.Impl w (impl_types h).0 (impl_types h).1 o fs c ≡ impl_of (w, (h, (o, (fs, c))))
of_types w (t, None) o fs c = refl
of_types w (t, Some u) o fs c = for_by w u.0 u.1 o fs c _
