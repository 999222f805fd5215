-- The depth of an item or a file is how deep it nests.
use Rattle.std.proofs.Common.{◌≡◌, ℕ, zero, suc, ◌≤◌, Bool, true, false, List, [], ◌∷◌, Option, Some, None, refl, sym, ◌∙◌, ap, subst, map, arith, max}
use Rattle.em_base.specs.declared.token.Token.{Token}
use Rattle.em_tree.specs.declared.parts.Listed.{Listed}
use Rattle.em_tree.specs.declared.types.Output.{Output}
use Rattle.em_tree.specs.declared.types.TypeTree.{TypeTree}
use Rattle.em_tree.specs.declared.item.Attribute.{Attribute}
use Rattle.em_tree.specs.declared.item.Vis.{Vis}
use Rattle.em_tree.specs.declared.item.Param.{Param}
use Rattle.em_tree.specs.declared.item.Param.TheVariants as param
use Rattle.em_tree.specs.declared.item.Sig.{Sig}
use Rattle.em_tree.specs.declared.item.TraitBody.{TraitBody}
use Rattle.em_tree.specs.declared.item.TraitBody.TheVariants as trait_body
use Rattle.em_tree.specs.declared.item.TraitFn.{TraitFn}
use Rattle.em_tree.specs.declared.item.ImplFn.{ImplFn}
use Rattle.em_tree.specs.declared.item.ImplTrait.{ImplTrait}
use Rattle.em_tree.specs.declared.item.FieldDecl.{FieldDecl}
use Rattle.em_tree.specs.declared.item.TupleDecl.{TupleDecl}
use Rattle.em_tree.specs.declared.item.StructFields.{StructFields}
use Rattle.em_tree.specs.declared.item.StructFields.TheVariants as struct_fields
use Rattle.em_tree.specs.declared.item.VariantField.{VariantField}
use Rattle.em_tree.specs.declared.item.VariantFields.{VariantFields}
use Rattle.em_tree.specs.declared.item.VariantFields.TheVariants as variant_fields
use Rattle.em_tree.specs.declared.item.VariantDecl.{VariantDecl}
use Rattle.em_tree.specs.declared.item.ItemBody.{ItemBody}
use Rattle.em_tree.specs.declared.item.ItemBody.TheVariants as body
use Rattle.em_tree.specs.declared.item.Item.{Item, out-Item, fold-Item, fold_out-Item, map-Item}
use Rattle.em_tree.specs.declared.item.Item.TheOpen.{Item-F}
use Rattle.em_tree.specs.declared.item.Item.TheShapes.{former-Item-Plain-2}
use Rattle.em_tree.specs.declared.item.FileTree.{FileTree}
use Rattle.em_tree.specs.Tokens.{Is, Maybe, Each, Commas}
use Rattle.em_tree.specs.PathGrammar.{IsOutput, IsType, TypeWithin}
use Rattle.em_tree.specs.ItemGrammar as g
use Rattle.em_tree.specs.ItemGrammar.{OutputWithin, IsParam, IsSig, IsTraitBody, IsTraitFn, IsImplFn, IsImplTrait, IsFieldDecl, IsTupleDecl, AreStructFields, IsVariantField, AreVariantFields, IsVariant, IsItemBody, ItemNode, IsItem, IsFile}
use Rattle.em_tree.specs.Nesting.{greatest, of_some, itself, path_nesting, output_nesting, type_nesting, pat_nesting, block_nesting, param_nesting, sig_nesting, trait_body_nesting, struct_nesting, variant_nesting, item_body_depth, item_depth, item_nesting, file_nesting}
use Rattle.em_grammar.proofs.TypeNodes.{DeeperIs}
use Rattle.em_grammar.proofs.NestTypes.{greatest_map, commas_low, commas_within, each_low, each_within, types_low, types_within, type_low, type_within, output_low, output_within, path_low_at, path_within_at, pat_low, pat_within}
use Rattle.em_grammar.proofs.NestExprs.{block_low_at, block_within_at}

-- ---- one layer

at_item : (x : Item) (l : Item-F Item) → out-Item x ≡ l → item_nesting x ≡ item_depth (map-Item Item ℕ item_nesting l)
unfolding item_nesting
at_item x l is = fold_out-Item ℕ item_depth x ∙ ap (λ k. item_depth (map-Item Item ℕ item_nesting k)) is

body_alike : (b : ItemBody Item) → item_body_depth itself (former-Item-Plain-2.map Item ℕ item_nesting b) ≡ item_body_depth item_nesting b
body_alike (body.ExternCrate word word_crate name rename semi) = refl
body_alike (body.Use word path rename semi) = refl
body_alike (body.UseList word path separator opening names closing semi) = refl
body_alike (body.ModFile word name semi) = refl
body_alike (body.ModBlock word name opening items closing) = greatest_map itself item_nesting items
body_alike (body.Fn sig b) = refl
body_alike (body.Struct word name fields) = refl
body_alike (body.Enum word name opening variants closing) = refl
body_alike (body.Trait word name opening functions closing) = refl
body_alike (body.Impl word of_trait self_type opening functions closing) = refl
body_alike (body.Const word name colon ty equals value semi) = refl
body_alike (body.Rules word bang name macro_text semi) = refl
body_alike (body.Macro call semi) = refl

plain_at : (x : Item) (attrs : List Attribute) (vis : Option Vis) (b : ItemBody Item) → out-Item x ≡ Item-F.Plain attrs vis b → item_nesting x ≡ suc (item_body_depth item_nesting b)
plain_at x attrs vis b is = at_item x (Item-F.Plain attrs vis b) is ∙ ap (λ r. suc r) (body_alike b)

-- ---- functions

output_in : (d : ℕ) (o : Output) → OutputWithin d o → IsOutput (IsType d) (DeeperIs d) false o
unfolding OutputWithin IsType
output_in zero o m = m
output_in (suc d) o m = m

in_output : (d : ℕ) (o : Output) → IsOutput (IsType d) (DeeperIs d) false o → OutputWithin d o
unfolding OutputWithin IsType
in_output zero o m = m
in_output (suc d) o m = m

output_low_at : (d : ℕ) (o : Output) → OutputWithin d o → output_nesting o ≤ d
output_low_at d o m = output_low (IsType d) (DeeperIs d) d (types_low d).0 (types_low d).1 false o (output_in d o m)

output_within_at : (e d : ℕ) (o : Output) → OutputWithin e o → output_nesting o ≤ d → OutputWithin d o
output_within_at e d o m low = in_output d o (output_within (IsType e) (IsType d) (DeeperIs e) (DeeperIs d) d (types_within e d).0 (types_within e d).1 false o (output_in e o m) low)

param_low : (d : ℕ) (t : Bool) (x : Param) → IsParam d t x → param_nesting x ≤ d
param_low d t (param.Typed pat colon ty) m = omega (arith, pat_low d pat m.0, type_low d false ty m.2)
param_low d t (param.Anonymous ty) m = type_low d false ty m.0

param_within : (e d : ℕ) (t : Bool) (x : Param) → IsParam e t x → param_nesting x ≤ d → IsParam d t x
param_within e d t (param.Typed pat colon ty) m low = (pat_within e d pat m.0 (omega (arith, low)), m.1, type_within e d false ty m.2 (omega (arith, low)), m.3)
param_within e d t (param.Anonymous ty) m low = (type_within e d false ty m.0 low, m.1)

sig_low : (d : ℕ) (t : Bool) (s : Sig) → IsSig d t s → sig_nesting s ≤ d
sig_low d t s m = omega (arith, commas_low (IsParam d t) param_nesting d (param_low d t) s.params m.params, output_low_at d s.output m.output)

sig_within : (e d : ℕ) (t : Bool) (s : Sig) → IsSig e t s → sig_nesting s ≤ d → IsSig d t s
sig_within e d t s m low = record {
  word = m.word;
  name = m.name;
  opens = m.opens;
  begins = m.begins;
  params = commas_within (IsParam e t) (IsParam d t) param_nesting d (param_within e d t) s.params m.params (omega (arith, low));
  closes = m.closes;
  output = output_within_at e d s.output m.output (omega (arith, low));
}

trait_body_low : (d : ℕ) (b : TraitBody) → IsTraitBody d b → trait_body_nesting b ≤ d
trait_body_low d (trait_body.Semi semi) m = omega arith
trait_body_low d (trait_body.Block b) m = block_low_at d b m

trait_body_within : (e d : ℕ) (b : TraitBody) → IsTraitBody e b → trait_body_nesting b ≤ d → IsTraitBody d b
trait_body_within e d (trait_body.Semi semi) m low = m
trait_body_within e d (trait_body.Block b) m low = block_within_at e d b m low

abbrev of_trait_fn : TraitFn → ℕ
of_trait_fn x = max (sig_nesting x.sig) (trait_body_nesting x.body)

trait_fn_low : (d : ℕ) (x : TraitFn) → IsTraitFn d x → of_trait_fn x ≤ d
trait_fn_low d x m = omega (arith, sig_low d true x.sig m.0, trait_body_low d x.body m.1)

trait_fn_within : (e d : ℕ) (x : TraitFn) → IsTraitFn e x → of_trait_fn x ≤ d → IsTraitFn d x
trait_fn_within e d x m low = (sig_within e d true x.sig m.0 (omega (arith, low)), trait_body_within e d x.body m.1 (omega (arith, low)))

abbrev of_impl_fn : ImplFn → ℕ
of_impl_fn x = max (sig_nesting x.sig) (block_nesting x.body)

impl_fn_low : (d : ℕ) (x : ImplFn) → IsImplFn d x → of_impl_fn x ≤ d
impl_fn_low d x m = omega (arith, sig_low d false x.sig m.1, block_low_at d x.body m.2)

impl_fn_within : (e d : ℕ) (x : ImplFn) → IsImplFn e x → of_impl_fn x ≤ d → IsImplFn d x
impl_fn_within e d x m low = (m.0, sig_within e d false x.sig m.1 (omega (arith, low)), block_within_at e d x.body m.2 (omega (arith, low)))

abbrev of_impl_trait : Option ImplTrait → ℕ
of_impl_trait o = of_some (λ x. path_nesting x.path) o

impl_trait_low : (d : ℕ) (o : Option ImplTrait) → Maybe (IsImplTrait d) o → of_impl_trait o ≤ d
impl_trait_low d None m = omega arith
impl_trait_low d (Some x) m = path_low_at d x.path m.0

impl_trait_within : (e d : ℕ) (o : Option ImplTrait) → Maybe (IsImplTrait e) o → of_impl_trait o ≤ d → Maybe (IsImplTrait d) o
impl_trait_within e d None m low = tt
impl_trait_within e d (Some x) m low = (path_within_at e d x.path m.0 low, m.1, m.2)

-- ---- structs and enums

struct_low : (d : ℕ) (x : StructFields) → AreStructFields d x → struct_nesting x ≤ d
struct_low d (struct_fields.Unit semi) m = omega arith
struct_low d (struct_fields.Named o fields c) m = commas_low (IsFieldDecl d) (λ f. type_nesting f.ty) d (λ f m. type_low d false f.ty m.3) fields m.1
struct_low d (struct_fields.Tuple o fields c semi) m = commas_low (IsTupleDecl d) (λ f. type_nesting f.ty) d (λ f m. type_low d false f.ty m.1) fields m.1

struct_within : (e d : ℕ) (x : StructFields) → AreStructFields e x → struct_nesting x ≤ d → AreStructFields d x
struct_within e d (struct_fields.Unit semi) m low = m
struct_within e d (struct_fields.Named o fields c) m low =
    (m.0, commas_within (IsFieldDecl e) (IsFieldDecl d) (λ f. type_nesting f.ty) d (λ f m low. (m.0, m.1, m.2, type_within e d false f.ty m.3 low)) fields m.1 low, m.2)
struct_within e d (struct_fields.Tuple o fields c semi) m low =
    (m.0, commas_within (IsTupleDecl e) (IsTupleDecl d) (λ f. type_nesting f.ty) d (λ f m low. (m.0, type_within e d false f.ty m.1 low)) fields m.1 low, m.2, m.3)

variant_low : (d : ℕ) (x : VariantFields) → AreVariantFields d x → variant_nesting x ≤ d
variant_low d variant_fields.Unit m = omega arith
variant_low d (variant_fields.Tuple o fields c) m = commas_low (TypeWithin d) type_nesting d (type_low d false) fields m.1
variant_low d (variant_fields.Named o fields c) m = commas_low (IsVariantField d) (λ f. type_nesting f.ty) d (λ f m. type_low d false f.ty m.2) fields m.1

variant_within : (e d : ℕ) (x : VariantFields) → AreVariantFields e x → variant_nesting x ≤ d → AreVariantFields d x
variant_within e d variant_fields.Unit m low = m
variant_within e d (variant_fields.Tuple o fields c) m low = (m.0, commas_within (TypeWithin e) (TypeWithin d) type_nesting d (type_within e d false) fields m.1 low, m.2)
variant_within e d (variant_fields.Named o fields c) m low =
    (m.0, commas_within (IsVariantField e) (IsVariantField d) (λ f. type_nesting f.ty) d (λ f m low. (m.0, m.1, type_within e d false f.ty m.2 low)) fields m.1 low, m.2)

-- ---- items

module _ (d : ℕ) (I : Item → Type 0) (h : (x : Item) → I x → item_nesting x ≤ d) where
  body_low : (b : ItemBody Item) → IsItemBody d I b → item_body_depth item_nesting b ≤ d
  body_low (body.ExternCrate word word_crate name rename semi) m = omega arith
  body_low (body.Use word path rename semi) m = omega arith
  body_low (body.UseList word path separator o names c semi) m = omega arith
  body_low (body.ModFile word name semi) m = omega arith
  body_low (body.ModBlock word name o items c) m = each_low I item_nesting d h items m.3
  body_low (body.Fn sig b) m = omega (arith, sig_low d false sig m.0, block_low_at d b m.1)
  body_low (body.Struct word name fields) m = struct_low d fields m.2
  body_low (body.Enum word name o variants c) m = commas_low (IsVariant d) (λ v. variant_nesting v.fields) d (λ v m. variant_low d v.fields m.1) variants m.3
  body_low (body.Trait word name o functions c) m = each_low (IsTraitFn d) of_trait_fn d (trait_fn_low d) functions m.3
  body_low (body.Impl word of_trait self_type o functions c) m =
      omega (arith, impl_trait_low d of_trait m.1, type_low d false self_type m.2, each_low (IsImplFn d) of_impl_fn d (impl_fn_low d) functions m.4)
  body_low (body.Const word name colon ty equals value semi) m = type_low d false ty m.3
  body_low (body.Rules word bang name macro_text semi) m = omega arith
  body_low (body.Macro call semi) m = omega arith

  node_low : (x : Item) → ItemNode d I x → item_nesting x ≤ suc d
  node_low x (g.ItemNode.plain {attrs} {vis} {b} is a v m) = omega (arith, plain_at x attrs vis b is, body_low b m)
  node_low x (g.ItemNode.group {y} {g = gr} is k ps m) = let n : item_nesting x ≡ item_nesting y = at_item x (Item-F.Group gr y) is in omega (arith, n, node_low y m)

module _ (e d : ℕ) (I J : Item → Type 0) (h : (x : Item) → I x → item_nesting x ≤ d → J x) where
  body_within : (b : ItemBody Item) → IsItemBody e I b → item_body_depth item_nesting b ≤ d → IsItemBody d J b
  body_within (body.ExternCrate word word_crate name rename semi) m low = m
  body_within (body.Use word path rename semi) m low = m
  body_within (body.UseList word path separator o names c semi) m low = m
  body_within (body.ModFile word name semi) m low = m
  body_within (body.ModBlock word name o items c) m low = (m.0, m.1, m.2, each_within I J item_nesting d h items m.3 low, m.4)
  body_within (body.Fn sig b) m low = (sig_within e d false sig m.0 (omega (arith, low)), block_within_at e d b m.1 (omega (arith, low)))
  body_within (body.Struct word name fields) m low = (m.0, m.1, struct_within e d fields m.2 low)
  body_within (body.Enum word name o variants c) m low =
      (m.0, m.1, m.2, commas_within (IsVariant e) (IsVariant d) (λ v. variant_nesting v.fields) d (λ v m low. (m.0, variant_within e d v.fields m.1 low)) variants m.3 low, m.4)
  body_within (body.Trait word name o functions c) m low = (m.0, m.1, m.2, each_within (IsTraitFn e) (IsTraitFn d) of_trait_fn d (trait_fn_within e d) functions m.3 low, m.4)
  body_within (body.Impl word of_trait self_type o functions c) m low = (
    m.0,
    impl_trait_within e d of_trait m.1 (omega (arith, low)),
    type_within e d false self_type m.2 (omega (arith, low)),
    m.3,
    each_within (IsImplFn e) (IsImplFn d) of_impl_fn d (impl_fn_within e d) functions m.4 (omega (arith, low)),
    m.5,
  )
  body_within (body.Const word name colon ty equals value semi) m low = (m.0, m.1, m.2, type_within e d false ty m.3 low, m.4, m.5, m.6)
  body_within (body.Rules word bang name macro_text semi) m low = m
  body_within (body.Macro call semi) m low = m

  node_within : (x : Item) → ItemNode e I x → item_nesting x ≤ suc d → ItemNode d J x
  node_within x (g.ItemNode.plain {attrs} {vis} {b} is a v m) low =
      let n : item_nesting x ≡ suc (item_body_depth item_nesting b) = plain_at x attrs vis b is in g.ItemNode.plain is a v (body_within b m (omega (arith, low, n)))
  node_within x (g.ItemNode.group {y} {g = gr} is k ps m) low =
      let n : item_nesting x ≡ item_nesting y = at_item x (Item-F.Group gr y) is in g.ItemNode.group is k ps (node_within y m (omega (arith, low, n)))

some_node : (d : ℕ) (I : Item → Type 0) (x : Item) → ItemNode d I x → 1 ≤ item_nesting x
some_node d I x (g.ItemNode.plain {attrs} {vis} {b} is a v m) = omega (arith, plain_at x attrs vis b is)
some_node d I x (g.ItemNode.group {y} {g = gr} is k ps m) = let n : item_nesting x ≡ item_nesting y = at_item x (Item-F.Group gr y) is in omega (arith, n, some_node d I y m)

pub item_low : (d : ℕ) (x : Item) → IsItem d x → item_nesting x ≤ d
unfolding IsItem
item_low zero x m = absurd m
item_low (suc d) x m = node_low d (IsItem d) (item_low d) x m

pub item_within : (e d : ℕ) (x : Item) → IsItem e x → item_nesting x ≤ d → IsItem d x
unfolding IsItem
item_within zero d x m low = absurd m
item_within (suc e) zero x m low = absurd (omega (arith, low, some_node e (IsItem e) x m))
item_within (suc e) (suc d) x m low = node_within e d (IsItem e) (IsItem d) (item_within e d) x m low

pub file_low : (d : ℕ) (x : FileTree) → IsFile d x → file_nesting x ≤ d
file_low d x m = each_low (IsItem d) item_nesting d (item_low d) x.items m.1

pub file_within : (e d : ℕ) (x : FileTree) → IsFile e x → file_nesting x ≤ d → IsFile d x
file_within e d x m low = (m.0, each_within (IsItem e) (IsItem d) item_nesting d (item_within e d) x.items m.1 low)
