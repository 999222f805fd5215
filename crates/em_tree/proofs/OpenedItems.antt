-- The tokens of an item of the grammar are its pieces opened.
use Rattle.std.proofs.Common.{◌++◌, ℕ, zero, suc, Bool, true, false, List, Option, Some, None, refl, inl, inr}
use Rattle.em_tree.specs.declared.parts.Listed.{Listed}
use Rattle.em_tree.specs.declared.types.Path.{Path}
use Rattle.em_tree.specs.declared.pat.Pat.{Pat}
use Rattle.em_tree.specs.declared.expr.Block.{Block}
use Rattle.em_tree.specs.declared.expr.Expr.{Expr}
use Rattle.em_tree.specs.declared.expr.Stmt.{Stmt}
use Rattle.em_tree.specs.declared.item.MetaInput.{MetaInput}
use Rattle.em_tree.specs.declared.item.Meta.{Meta}
use Rattle.em_tree.specs.declared.item.Attribute.{Attribute}
use Rattle.em_tree.specs.declared.item.VisScope.{VisScope}
use Rattle.em_tree.specs.declared.item.Vis.{Vis}
use Rattle.em_tree.specs.declared.item.SelfParam.{SelfParam}
use Rattle.em_tree.specs.declared.item.Param.{Param}
use Rattle.em_tree.specs.declared.item.Sig.{Sig}
use Rattle.em_tree.specs.declared.item.TraitBody.{TraitBody}
use Rattle.em_tree.specs.declared.item.TraitFn.{TraitFn}
use Rattle.em_tree.specs.declared.item.ImplFn.{ImplFn}
use Rattle.em_tree.specs.declared.item.ImplTrait.{ImplTrait}
use Rattle.em_tree.specs.declared.item.FieldDecl.{FieldDecl}
use Rattle.em_tree.specs.declared.item.TupleDecl.{TupleDecl}
use Rattle.em_tree.specs.declared.item.StructFields.{StructFields}
use Rattle.em_tree.specs.declared.item.VariantField.{VariantField}
use Rattle.em_tree.specs.declared.item.VariantFields.{VariantFields}
use Rattle.em_tree.specs.declared.item.VariantDecl.{VariantDecl}
use Rattle.em_tree.specs.declared.item.Rename.{Rename}
use Rattle.em_tree.specs.declared.item.UseName.{UseName}
use Rattle.em_tree.specs.declared.item.ItemBody.{ItemBody}
use Rattle.em_tree.specs.declared.item.Item.{Item}
use Rattle.em_tree.specs.declared.item.MetaInput.TheVariants as input
use Rattle.em_tree.specs.declared.item.Param.TheVariants as param
use Rattle.em_tree.specs.declared.item.TraitBody.TheVariants as trait_body
use Rattle.em_tree.specs.declared.item.StructFields.TheVariants as struct_fields
use Rattle.em_tree.specs.declared.item.VariantFields.TheVariants as variant_fields
use Rattle.em_tree.specs.declared.item.ItemBody.TheVariants as body
use Rattle.em_tree.specs.declared.node.Node.TheVariants as n
use Rattle.em_tree.specs.Parts.{maybe, each, attribute_parts, block_parts, body_parts, delimited_parts, field_decl_parts, impl_fn_parts, impl_trait_parts, item_body_parts, item_parts, listed_parts, literal_parts, macro_call_parts, meta_input_parts, meta_parts, output_parts, param_parts, pat_parts, path_parts, rename_parts, segments_parts, self_param_parts, sig_parts, struct_fields_parts, trait_body_parts, trait_fn_parts, tuple_decl_parts, type_tree_parts, use_name_parts, variant_decl_parts, variant_field_parts, variant_fields_parts, vis_parts, vis_scope_parts}
use Rattle.em_tree.specs.Yields.{one, inside, opened, piece, whole, as_it_is, tokens, pieces}
use Rattle.em_tree.specs.Tokens.{Maybe}
use Rattle.em_tree.specs.PathGrammar.{TypeWithin}
use Rattle.em_tree.specs.ItemGrammar
use Rattle.em_tree.specs.ItemGrammar.{IsInput, IsMeta, IsAttribute, IsParam, IsSig, IsTraitBody, IsTraitFn, IsImplFn, IsImplTrait, IsFieldDecl, IsTupleDecl, AreStructFields, IsVariantField, AreVariantFields, IsVariant, IsItemBody, ItemNode, IsItem}
use Rattle.em_tree.specs.Laws.{NodeIsOpened}
use Rattle.em_tree.proofs.OpenedLayers.{Op, op2, op_tok, op_maybe_tok, snd, op_all, op_each, op_listed, op_commas, op_segments, op_delimited, op_macro_call, op-Item-Plain, op-Item-Group}
use Rattle.em_tree.proofs.OpenedTrees.{literal_op, type_is, path_is, output_is, pat_is}
use Rattle.em_tree.proofs.OpenedExprs.{expr_is, stmt_is, fragment_stmt_is, block_is}

input_op : (x : MetaInput) → IsInput x → Op (meta_input_parts one inside opened x) (meta_input_parts piece whole as_it_is x)
input_op input.Nothing h = refl
input_op (input.List d) h = op_delimited d
input_op (input.Value equals l) h = op2 (one equals) (literal_parts one inside opened l) (piece equals) (literal_parts piece whole as_it_is l) (op_tok equals) (literal_op false l h.1)

meta_op : (x : Meta) → IsMeta x → Op (meta_parts one inside opened x) (meta_parts piece whole as_it_is x)
meta_op x h = op2 (one x.name) (meta_input_parts one inside opened x.input) (piece x.name) (meta_input_parts piece whole as_it_is x.input) (op_tok x.name) (input_op x.input h.1)

attribute_op : (x : Attribute) → IsAttribute x → Op (attribute_parts one inside opened x) (attribute_parts piece whole as_it_is x)
attribute_op x h = op2 (one x.hash) (one x.open ++ (meta_parts one inside opened x.meta ++ one x.close)) (piece x.hash) (piece x.open ++ (meta_parts piece whole as_it_is x.meta ++ piece x.close)) (op_tok x.hash) (op2 (one x.open) (meta_parts one inside opened x.meta ++ one x.close) (piece x.open) (meta_parts piece whole as_it_is x.meta ++ piece x.close) (op_tok x.open) (op2 (meta_parts one inside opened x.meta) (one x.close) (meta_parts piece whole as_it_is x.meta) (piece x.close) (meta_op x.meta h.2) (op_tok x.close)))

scope_op : (x : VisScope) → Op (vis_scope_parts one inside opened x) (vis_scope_parts piece whole as_it_is x)
scope_op x = op2 (one x.open) (one x.module ++ one x.close) (piece x.open) (piece x.module ++ piece x.close) (op_tok x.open) (op2 (one x.module) (one x.close) (piece x.module) (piece x.close) (op_tok x.module) (op_tok x.close))

scope_if_op : (o : Option VisScope) → Op (maybe (vis_scope_parts one inside opened) o) (maybe (vis_scope_parts piece whole as_it_is) o)
scope_if_op None = refl
scope_if_op (Some x) = scope_op x

vis_op : (x : Vis) → Op (vis_parts one inside opened x) (vis_parts piece whole as_it_is x)
vis_op x = op2 (one x.word) (maybe (vis_scope_parts one inside opened) x.scope) (piece x.word) (maybe (vis_scope_parts piece whole as_it_is) x.scope) (op_tok x.word) (scope_if_op x.scope)

vis_if_op : (o : Option Vis) → Op (maybe (vis_parts one inside opened) o) (maybe (vis_parts piece whole as_it_is) o)
vis_if_op None = refl
vis_if_op (Some x) = vis_op x

self_op : (x : SelfParam) → Op (self_param_parts one inside opened x) (self_param_parts piece whole as_it_is x)
self_op x = op2 (maybe one x.amp) (maybe one x.word_mut ++ one x.word) (maybe piece x.amp) (maybe piece x.word_mut ++ piece x.word) (op_maybe_tok x.amp) (op2 (maybe one x.word_mut) (one x.word) (maybe piece x.word_mut) (piece x.word) (op_maybe_tok x.word_mut) (op_tok x.word))

receiver_op : (o : Option (Listed SelfParam)) → Op (maybe (listed_parts one inside opened (self_param_parts one inside opened)) o) (maybe (listed_parts piece whole as_it_is (self_param_parts piece whole as_it_is)) o)
receiver_op None = refl
receiver_op (Some x) = op_listed (self_param_parts one inside opened) (self_param_parts piece whole as_it_is) x (self_op x.item)

param_op : (depth : ℕ) (in_trait : Bool) (x : Param) → IsParam depth in_trait x → Op (param_parts one inside opened x) (param_parts piece whole as_it_is x)
param_op depth in_trait (param.Typed pat colon ty) h = op2 (pat_parts one inside opened pat) (one colon ++ type_tree_parts one inside opened ty) (pat_parts piece whole as_it_is pat) (piece colon ++ type_tree_parts piece whole as_it_is ty) (pat_is depth pat h.0) (op2 (one colon) (type_tree_parts one inside opened ty) (piece colon) (type_tree_parts piece whole as_it_is ty) (op_tok colon) (type_is depth false ty h.2))
param_op depth in_trait (param.Anonymous ty) h = type_is depth false ty h.0

sig_op : (depth : ℕ) (in_trait : Bool) (x : Sig) → IsSig depth in_trait x → Op (sig_parts one inside opened x) (sig_parts piece whole as_it_is x)
sig_op depth in_trait x h = op2 (one x.word) (one x.name ++ (one x.open ++ (maybe (listed_parts one inside opened (self_param_parts one inside opened)) x.receiver ++ (each (listed_parts one inside opened (param_parts one inside opened)) x.params ++ (one x.close ++ output_parts one inside opened x.output))))) (piece x.word) (piece x.name ++ (piece x.open ++ (maybe (listed_parts piece whole as_it_is (self_param_parts piece whole as_it_is)) x.receiver ++ (each (listed_parts piece whole as_it_is (param_parts piece whole as_it_is)) x.params ++ (piece x.close ++ output_parts piece whole as_it_is x.output))))) (op_tok x.word) (op2 (one x.name) (one x.open ++ (maybe (listed_parts one inside opened (self_param_parts one inside opened)) x.receiver ++ (each (listed_parts one inside opened (param_parts one inside opened)) x.params ++ (one x.close ++ output_parts one inside opened x.output)))) (piece x.name) (piece x.open ++ (maybe (listed_parts piece whole as_it_is (self_param_parts piece whole as_it_is)) x.receiver ++ (each (listed_parts piece whole as_it_is (param_parts piece whole as_it_is)) x.params ++ (piece x.close ++ output_parts piece whole as_it_is x.output)))) (op_tok x.name) (op2 (one x.open) (maybe (listed_parts one inside opened (self_param_parts one inside opened)) x.receiver ++ (each (listed_parts one inside opened (param_parts one inside opened)) x.params ++ (one x.close ++ output_parts one inside opened x.output))) (piece x.open) (maybe (listed_parts piece whole as_it_is (self_param_parts piece whole as_it_is)) x.receiver ++ (each (listed_parts piece whole as_it_is (param_parts piece whole as_it_is)) x.params ++ (piece x.close ++ output_parts piece whole as_it_is x.output))) (op_tok x.open) (op2 (maybe (listed_parts one inside opened (self_param_parts one inside opened)) x.receiver) (each (listed_parts one inside opened (param_parts one inside opened)) x.params ++ (one x.close ++ output_parts one inside opened x.output)) (maybe (listed_parts piece whole as_it_is (self_param_parts piece whole as_it_is)) x.receiver) (each (listed_parts piece whole as_it_is (param_parts piece whole as_it_is)) x.params ++ (piece x.close ++ output_parts piece whole as_it_is x.output)) (receiver_op x.receiver) (op2 (each (listed_parts one inside opened (param_parts one inside opened)) x.params) (one x.close ++ output_parts one inside opened x.output) (each (listed_parts piece whole as_it_is (param_parts piece whole as_it_is)) x.params) (piece x.close ++ output_parts piece whole as_it_is x.output) (op_commas (IsParam depth in_trait) (param_parts one inside opened) (param_parts piece whole as_it_is) (param_op depth in_trait) x.params h.params) (op2 (one x.close) (output_parts one inside opened x.output) (piece x.close) (output_parts piece whole as_it_is x.output) (op_tok x.close) (output_is depth x.output h.output))))))

trait_body_op : (depth : ℕ) (x : TraitBody) → IsTraitBody depth x → Op (trait_body_parts one inside opened x) (trait_body_parts piece whole as_it_is x)
trait_body_op depth (trait_body.Semi semi) h = op_tok semi
trait_body_op depth (trait_body.Block b) h = block_is depth b h

trait_fn_op : (depth : ℕ) (x : TraitFn) → IsTraitFn depth x → Op (trait_fn_parts one inside opened x) (trait_fn_parts piece whole as_it_is x)
trait_fn_op depth x h = op2 (sig_parts one inside opened x.sig) (trait_body_parts one inside opened x.body) (sig_parts piece whole as_it_is x.sig) (trait_body_parts piece whole as_it_is x.body) (sig_op depth true x.sig h.0) (trait_body_op depth x.body (snd h))

impl_fn_op : (depth : ℕ) (x : ImplFn) → IsImplFn depth x → Op (impl_fn_parts one inside opened x) (impl_fn_parts piece whole as_it_is x)
impl_fn_op depth x h = op2 (maybe (vis_parts one inside opened) x.vis) (sig_parts one inside opened x.sig ++ block_parts one inside opened (body_parts one inside opened) x.body) (maybe (vis_parts piece whole as_it_is) x.vis) (sig_parts piece whole as_it_is x.sig ++ block_parts piece whole as_it_is (body_parts piece whole as_it_is) x.body) (vis_if_op x.vis) (op2 (sig_parts one inside opened x.sig) (block_parts one inside opened (body_parts one inside opened) x.body) (sig_parts piece whole as_it_is x.sig) (block_parts piece whole as_it_is (body_parts piece whole as_it_is) x.body) (sig_op depth false x.sig h.1) (block_is depth x.body h.2))

impl_trait_op : (depth : ℕ) (x : ImplTrait) → IsImplTrait depth x → Op (impl_trait_parts one inside opened x) (impl_trait_parts piece whole as_it_is x)
impl_trait_op depth x h = op2 (path_parts one inside opened x.path) (one x.word_for) (path_parts piece whole as_it_is x.path) (piece x.word_for) (path_is depth x.path h.0) (op_tok x.word_for)

field_decl_op : (depth : ℕ) (x : FieldDecl) → IsFieldDecl depth x → Op (field_decl_parts one inside opened x) (field_decl_parts piece whole as_it_is x)
field_decl_op depth x h = op2 (maybe (vis_parts one inside opened) x.vis) (one x.name ++ (one x.colon ++ type_tree_parts one inside opened x.ty)) (maybe (vis_parts piece whole as_it_is) x.vis) (piece x.name ++ (piece x.colon ++ type_tree_parts piece whole as_it_is x.ty)) (vis_if_op x.vis) (op2 (one x.name) (one x.colon ++ type_tree_parts one inside opened x.ty) (piece x.name) (piece x.colon ++ type_tree_parts piece whole as_it_is x.ty) (op_tok x.name) (op2 (one x.colon) (type_tree_parts one inside opened x.ty) (piece x.colon) (type_tree_parts piece whole as_it_is x.ty) (op_tok x.colon) (type_is depth false x.ty h.3)))

tuple_decl_op : (depth : ℕ) (x : TupleDecl) → IsTupleDecl depth x → Op (tuple_decl_parts one inside opened x) (tuple_decl_parts piece whole as_it_is x)
tuple_decl_op depth x h = op2 (maybe (vis_parts one inside opened) x.vis) (type_tree_parts one inside opened x.ty) (maybe (vis_parts piece whole as_it_is) x.vis) (type_tree_parts piece whole as_it_is x.ty) (vis_if_op x.vis) (type_is depth false x.ty (snd h))

struct_op : (depth : ℕ) (x : StructFields) → AreStructFields depth x → Op (struct_fields_parts one inside opened x) (struct_fields_parts piece whole as_it_is x)
struct_op depth (struct_fields.Unit semi) h = op_tok semi
struct_op depth (struct_fields.Named opening fields closing) h = op2 (one opening) (each (listed_parts one inside opened (field_decl_parts one inside opened)) fields ++ one closing) (piece opening) (each (listed_parts piece whole as_it_is (field_decl_parts piece whole as_it_is)) fields ++ piece closing) (op_tok opening) (op2 (each (listed_parts one inside opened (field_decl_parts one inside opened)) fields) (one closing) (each (listed_parts piece whole as_it_is (field_decl_parts piece whole as_it_is)) fields) (piece closing) (op_commas (IsFieldDecl depth) (field_decl_parts one inside opened) (field_decl_parts piece whole as_it_is) (field_decl_op depth) fields h.1) (op_tok closing))
struct_op depth (struct_fields.Tuple opening fields closing semi) h = op2 (one opening) (each (listed_parts one inside opened (tuple_decl_parts one inside opened)) fields ++ (one closing ++ one semi)) (piece opening) (each (listed_parts piece whole as_it_is (tuple_decl_parts piece whole as_it_is)) fields ++ (piece closing ++ piece semi)) (op_tok opening) (op2 (each (listed_parts one inside opened (tuple_decl_parts one inside opened)) fields) (one closing ++ one semi) (each (listed_parts piece whole as_it_is (tuple_decl_parts piece whole as_it_is)) fields) (piece closing ++ piece semi) (op_commas (IsTupleDecl depth) (tuple_decl_parts one inside opened) (tuple_decl_parts piece whole as_it_is) (tuple_decl_op depth) fields h.1) (op2 (one closing) (one semi) (piece closing) (piece semi) (op_tok closing) (op_tok semi)))

variant_field_op : (depth : ℕ) (x : VariantField) → IsVariantField depth x → Op (variant_field_parts one inside opened x) (variant_field_parts piece whole as_it_is x)
variant_field_op depth x h = op2 (one x.name) (one x.colon ++ type_tree_parts one inside opened x.ty) (piece x.name) (piece x.colon ++ type_tree_parts piece whole as_it_is x.ty) (op_tok x.name) (op2 (one x.colon) (type_tree_parts one inside opened x.ty) (piece x.colon) (type_tree_parts piece whole as_it_is x.ty) (op_tok x.colon) (type_is depth false x.ty h.2))

variant_fields_op : (depth : ℕ) (x : VariantFields) → AreVariantFields depth x → Op (variant_fields_parts one inside opened x) (variant_fields_parts piece whole as_it_is x)
variant_fields_op depth variant_fields.Unit h = refl
variant_fields_op depth (variant_fields.Tuple opening fields closing) h = op2 (one opening) (each (listed_parts one inside opened (type_tree_parts one inside opened)) fields ++ one closing) (piece opening) (each (listed_parts piece whole as_it_is (type_tree_parts piece whole as_it_is)) fields ++ piece closing) (op_tok opening) (op2 (each (listed_parts one inside opened (type_tree_parts one inside opened)) fields) (one closing) (each (listed_parts piece whole as_it_is (type_tree_parts piece whole as_it_is)) fields) (piece closing) (op_commas (TypeWithin depth) (type_tree_parts one inside opened) (type_tree_parts piece whole as_it_is) (type_is depth false) fields h.1) (op_tok closing))
variant_fields_op depth (variant_fields.Named opening fields closing) h = op2 (one opening) (each (listed_parts one inside opened (variant_field_parts one inside opened)) fields ++ one closing) (piece opening) (each (listed_parts piece whole as_it_is (variant_field_parts piece whole as_it_is)) fields ++ piece closing) (op_tok opening) (op2 (each (listed_parts one inside opened (variant_field_parts one inside opened)) fields) (one closing) (each (listed_parts piece whole as_it_is (variant_field_parts piece whole as_it_is)) fields) (piece closing) (op_commas (IsVariantField depth) (variant_field_parts one inside opened) (variant_field_parts piece whole as_it_is) (variant_field_op depth) fields h.1) (op_tok closing))

variant_op : (depth : ℕ) (x : VariantDecl) → IsVariant depth x → Op (variant_decl_parts one inside opened x) (variant_decl_parts piece whole as_it_is x)
variant_op depth x h = op2 (one x.name) (variant_fields_parts one inside opened x.fields) (piece x.name) (variant_fields_parts piece whole as_it_is x.fields) (op_tok x.name) (variant_fields_op depth x.fields (snd h))

rename_op : (x : Rename) → Op (rename_parts one inside opened x) (rename_parts piece whole as_it_is x)
rename_op x = op2 (one x.word) (one x.name) (piece x.word) (piece x.name) (op_tok x.word) (op_tok x.name)

rename_if_op : (o : Option Rename) → Op (maybe (rename_parts one inside opened) o) (maybe (rename_parts piece whole as_it_is) o)
rename_if_op None = refl
rename_if_op (Some x) = rename_op x

use_name_op : (x : UseName) → Op (use_name_parts one inside opened x) (use_name_parts piece whole as_it_is x)
use_name_op x = op2 (one x.name) (maybe (rename_parts one inside opened) x.rename) (piece x.name) (maybe (rename_parts piece whole as_it_is) x.rename) (op_tok x.name) (rename_if_op x.rename)

use_names_op : (xs : List (Listed UseName)) → Op (each (listed_parts one inside opened (use_name_parts one inside opened)) xs) (each (listed_parts piece whole as_it_is (use_name_parts piece whole as_it_is)) xs)
use_names_op xs = op_all (listed_parts one inside opened (use_name_parts one inside opened)) (listed_parts piece whole as_it_is (use_name_parts piece whole as_it_is)) (λ x. op_listed (use_name_parts one inside opened) (use_name_parts piece whole as_it_is) x (use_name_op x.item)) xs

impl_trait_if_op : (depth : ℕ) (o : Option ImplTrait) → Maybe (IsImplTrait depth) o → Op (maybe (impl_trait_parts one inside opened) o) (maybe (impl_trait_parts piece whole as_it_is) o)
impl_trait_if_op depth None h = refl
impl_trait_if_op depth (Some x) h = impl_trait_op depth x h

item_body_op : (depth : ℕ) (I : Item → Type 0) → ((x : Item) → I x → Op (item_parts one inside opened x) (item_parts piece whole as_it_is x)) → (x : ItemBody Item) → IsItemBody depth I x → Op (item_body_parts one inside opened (item_parts one inside opened) x) (item_body_parts piece whole as_it_is (item_parts piece whole as_it_is) x)
item_body_op depth I hi (body.ExternCrate word word_crate name rename semi) h = op2 (one word) (one word_crate ++ (one name ++ (maybe (rename_parts one inside opened) rename ++ one semi))) (piece word) (piece word_crate ++ (piece name ++ (maybe (rename_parts piece whole as_it_is) rename ++ piece semi))) (op_tok word) (op2 (one word_crate) (one name ++ (maybe (rename_parts one inside opened) rename ++ one semi)) (piece word_crate) (piece name ++ (maybe (rename_parts piece whole as_it_is) rename ++ piece semi)) (op_tok word_crate) (op2 (one name) (maybe (rename_parts one inside opened) rename ++ one semi) (piece name) (maybe (rename_parts piece whole as_it_is) rename ++ piece semi) (op_tok name) (op2 (maybe (rename_parts one inside opened) rename) (one semi) (maybe (rename_parts piece whole as_it_is) rename) (piece semi) (rename_if_op rename) (op_tok semi))))
item_body_op depth I hi (body.Use word path rename semi) h = op2 (one word) (segments_parts one inside opened path ++ (maybe (rename_parts one inside opened) rename ++ one semi)) (piece word) (segments_parts piece whole as_it_is path ++ (maybe (rename_parts piece whole as_it_is) rename ++ piece semi)) (op_tok word) (op2 (segments_parts one inside opened path) (maybe (rename_parts one inside opened) rename ++ one semi) (segments_parts piece whole as_it_is path) (maybe (rename_parts piece whole as_it_is) rename ++ piece semi) (op_segments path) (op2 (maybe (rename_parts one inside opened) rename) (one semi) (maybe (rename_parts piece whole as_it_is) rename) (piece semi) (rename_if_op rename) (op_tok semi)))
item_body_op depth I hi (body.UseList word path separator opening names closing semi) h = op2 (one word) (segments_parts one inside opened path ++ (one separator ++ (one opening ++ (each (listed_parts one inside opened (use_name_parts one inside opened)) names ++ (one closing ++ one semi))))) (piece word) (segments_parts piece whole as_it_is path ++ (piece separator ++ (piece opening ++ (each (listed_parts piece whole as_it_is (use_name_parts piece whole as_it_is)) names ++ (piece closing ++ piece semi))))) (op_tok word) (op2 (segments_parts one inside opened path) (one separator ++ (one opening ++ (each (listed_parts one inside opened (use_name_parts one inside opened)) names ++ (one closing ++ one semi)))) (segments_parts piece whole as_it_is path) (piece separator ++ (piece opening ++ (each (listed_parts piece whole as_it_is (use_name_parts piece whole as_it_is)) names ++ (piece closing ++ piece semi)))) (op_segments path) (op2 (one separator) (one opening ++ (each (listed_parts one inside opened (use_name_parts one inside opened)) names ++ (one closing ++ one semi))) (piece separator) (piece opening ++ (each (listed_parts piece whole as_it_is (use_name_parts piece whole as_it_is)) names ++ (piece closing ++ piece semi))) (op_tok separator) (op2 (one opening) (each (listed_parts one inside opened (use_name_parts one inside opened)) names ++ (one closing ++ one semi)) (piece opening) (each (listed_parts piece whole as_it_is (use_name_parts piece whole as_it_is)) names ++ (piece closing ++ piece semi)) (op_tok opening) (op2 (each (listed_parts one inside opened (use_name_parts one inside opened)) names) (one closing ++ one semi) (each (listed_parts piece whole as_it_is (use_name_parts piece whole as_it_is)) names) (piece closing ++ piece semi) (use_names_op names) (op2 (one closing) (one semi) (piece closing) (piece semi) (op_tok closing) (op_tok semi))))))
item_body_op depth I hi (body.ModFile word name semi) h = op2 (one word) (one name ++ one semi) (piece word) (piece name ++ piece semi) (op_tok word) (op2 (one name) (one semi) (piece name) (piece semi) (op_tok name) (op_tok semi))
item_body_op depth I hi (body.ModBlock word name opening items closing) h = op2 (one word) (one name ++ (one opening ++ (each (item_parts one inside opened) items ++ one closing))) (piece word) (piece name ++ (piece opening ++ (each (item_parts piece whole as_it_is) items ++ piece closing))) (op_tok word) (op2 (one name) (one opening ++ (each (item_parts one inside opened) items ++ one closing)) (piece name) (piece opening ++ (each (item_parts piece whole as_it_is) items ++ piece closing)) (op_tok name) (op2 (one opening) (each (item_parts one inside opened) items ++ one closing) (piece opening) (each (item_parts piece whole as_it_is) items ++ piece closing) (op_tok opening) (op2 (each (item_parts one inside opened) items) (one closing) (each (item_parts piece whole as_it_is) items) (piece closing) (op_each (I) (item_parts one inside opened) (item_parts piece whole as_it_is) (hi) items h.3) (op_tok closing))))
item_body_op depth I hi (body.Fn sig b) h = op2 (sig_parts one inside opened sig) (block_parts one inside opened (body_parts one inside opened) b) (sig_parts piece whole as_it_is sig) (block_parts piece whole as_it_is (body_parts piece whole as_it_is) b) (sig_op depth false sig h.0) (block_is depth b h.1)
item_body_op depth I hi (body.Struct word name fields) h = op2 (one word) (one name ++ struct_fields_parts one inside opened fields) (piece word) (piece name ++ struct_fields_parts piece whole as_it_is fields) (op_tok word) (op2 (one name) (struct_fields_parts one inside opened fields) (piece name) (struct_fields_parts piece whole as_it_is fields) (op_tok name) (struct_op depth fields h.2))
item_body_op depth I hi (body.Enum word name opening variants closing) h = op2 (one word) (one name ++ (one opening ++ (each (listed_parts one inside opened (variant_decl_parts one inside opened)) variants ++ one closing))) (piece word) (piece name ++ (piece opening ++ (each (listed_parts piece whole as_it_is (variant_decl_parts piece whole as_it_is)) variants ++ piece closing))) (op_tok word) (op2 (one name) (one opening ++ (each (listed_parts one inside opened (variant_decl_parts one inside opened)) variants ++ one closing)) (piece name) (piece opening ++ (each (listed_parts piece whole as_it_is (variant_decl_parts piece whole as_it_is)) variants ++ piece closing)) (op_tok name) (op2 (one opening) (each (listed_parts one inside opened (variant_decl_parts one inside opened)) variants ++ one closing) (piece opening) (each (listed_parts piece whole as_it_is (variant_decl_parts piece whole as_it_is)) variants ++ piece closing) (op_tok opening) (op2 (each (listed_parts one inside opened (variant_decl_parts one inside opened)) variants) (one closing) (each (listed_parts piece whole as_it_is (variant_decl_parts piece whole as_it_is)) variants) (piece closing) (op_commas (IsVariant depth) (variant_decl_parts one inside opened) (variant_decl_parts piece whole as_it_is) (variant_op depth) variants h.3) (op_tok closing))))
item_body_op depth I hi (body.Trait word name opening functions closing) h = op2 (one word) (one name ++ (one opening ++ (each (trait_fn_parts one inside opened) functions ++ one closing))) (piece word) (piece name ++ (piece opening ++ (each (trait_fn_parts piece whole as_it_is) functions ++ piece closing))) (op_tok word) (op2 (one name) (one opening ++ (each (trait_fn_parts one inside opened) functions ++ one closing)) (piece name) (piece opening ++ (each (trait_fn_parts piece whole as_it_is) functions ++ piece closing)) (op_tok name) (op2 (one opening) (each (trait_fn_parts one inside opened) functions ++ one closing) (piece opening) (each (trait_fn_parts piece whole as_it_is) functions ++ piece closing) (op_tok opening) (op2 (each (trait_fn_parts one inside opened) functions) (one closing) (each (trait_fn_parts piece whole as_it_is) functions) (piece closing) (op_each (IsTraitFn depth) (trait_fn_parts one inside opened) (trait_fn_parts piece whole as_it_is) (trait_fn_op depth) functions h.3) (op_tok closing))))
item_body_op depth I hi (body.Impl word of_trait self_type opening functions closing) h = op2 (one word) (maybe (impl_trait_parts one inside opened) of_trait ++ (type_tree_parts one inside opened self_type ++ (one opening ++ (each (impl_fn_parts one inside opened) functions ++ one closing)))) (piece word) (maybe (impl_trait_parts piece whole as_it_is) of_trait ++ (type_tree_parts piece whole as_it_is self_type ++ (piece opening ++ (each (impl_fn_parts piece whole as_it_is) functions ++ piece closing)))) (op_tok word) (op2 (maybe (impl_trait_parts one inside opened) of_trait) (type_tree_parts one inside opened self_type ++ (one opening ++ (each (impl_fn_parts one inside opened) functions ++ one closing))) (maybe (impl_trait_parts piece whole as_it_is) of_trait) (type_tree_parts piece whole as_it_is self_type ++ (piece opening ++ (each (impl_fn_parts piece whole as_it_is) functions ++ piece closing))) (impl_trait_if_op depth of_trait h.1) (op2 (type_tree_parts one inside opened self_type) (one opening ++ (each (impl_fn_parts one inside opened) functions ++ one closing)) (type_tree_parts piece whole as_it_is self_type) (piece opening ++ (each (impl_fn_parts piece whole as_it_is) functions ++ piece closing)) (type_is depth false self_type h.2) (op2 (one opening) (each (impl_fn_parts one inside opened) functions ++ one closing) (piece opening) (each (impl_fn_parts piece whole as_it_is) functions ++ piece closing) (op_tok opening) (op2 (each (impl_fn_parts one inside opened) functions) (one closing) (each (impl_fn_parts piece whole as_it_is) functions) (piece closing) (op_each (IsImplFn depth) (impl_fn_parts one inside opened) (impl_fn_parts piece whole as_it_is) (impl_fn_op depth) functions h.4) (op_tok closing)))))
item_body_op depth I hi (body.Const word name colon ty equals value semi) h = op2 (one word) (one name ++ (one colon ++ (type_tree_parts one inside opened ty ++ (one equals ++ (literal_parts one inside opened value ++ one semi))))) (piece word) (piece name ++ (piece colon ++ (type_tree_parts piece whole as_it_is ty ++ (piece equals ++ (literal_parts piece whole as_it_is value ++ piece semi))))) (op_tok word) (op2 (one name) (one colon ++ (type_tree_parts one inside opened ty ++ (one equals ++ (literal_parts one inside opened value ++ one semi)))) (piece name) (piece colon ++ (type_tree_parts piece whole as_it_is ty ++ (piece equals ++ (literal_parts piece whole as_it_is value ++ piece semi)))) (op_tok name) (op2 (one colon) (type_tree_parts one inside opened ty ++ (one equals ++ (literal_parts one inside opened value ++ one semi))) (piece colon) (type_tree_parts piece whole as_it_is ty ++ (piece equals ++ (literal_parts piece whole as_it_is value ++ piece semi))) (op_tok colon) (op2 (type_tree_parts one inside opened ty) (one equals ++ (literal_parts one inside opened value ++ one semi)) (type_tree_parts piece whole as_it_is ty) (piece equals ++ (literal_parts piece whole as_it_is value ++ piece semi)) (type_is depth false ty h.3) (op2 (one equals) (literal_parts one inside opened value ++ one semi) (piece equals) (literal_parts piece whole as_it_is value ++ piece semi) (op_tok equals) (op2 (literal_parts one inside opened value) (one semi) (literal_parts piece whole as_it_is value) (piece semi) (literal_op true value h.5) (op_tok semi))))))
item_body_op depth I hi (body.Rules word bang name macro_text semi) h = op2 (one word) (one bang ++ (one name ++ (delimited_parts one inside opened macro_text ++ maybe one semi))) (piece word) (piece bang ++ (piece name ++ (delimited_parts piece whole as_it_is macro_text ++ maybe piece semi))) (op_tok word) (op2 (one bang) (one name ++ (delimited_parts one inside opened macro_text ++ maybe one semi)) (piece bang) (piece name ++ (delimited_parts piece whole as_it_is macro_text ++ maybe piece semi)) (op_tok bang) (op2 (one name) (delimited_parts one inside opened macro_text ++ maybe one semi) (piece name) (delimited_parts piece whole as_it_is macro_text ++ maybe piece semi) (op_tok name) (op2 (delimited_parts one inside opened macro_text) (maybe one semi) (delimited_parts piece whole as_it_is macro_text) (maybe piece semi) (op_delimited macro_text) (op_maybe_tok semi))))
item_body_op depth I hi (body.Macro call semi) h = op2 (macro_call_parts one inside opened call) (maybe one semi) (macro_call_parts piece whole as_it_is call) (maybe piece semi) (op_macro_call call) (op_maybe_tok semi)

item_op : (depth : ℕ) (I : Item → Type 0) → ((x : Item) → I x → Op (item_parts one inside opened x) (item_parts piece whole as_it_is x)) → (x : Item) → ItemNode depth I x → Op (item_parts one inside opened x) (item_parts piece whole as_it_is x)
item_op depth I hi x (ItemGrammar.ItemNode.plain {attrs = attributes} {vis = vis} {b = b} e h1 h2 h3) =
    op-Item-Plain x attributes vis b e (op_each (IsAttribute) (attribute_parts one inside opened) (attribute_parts piece whole as_it_is) (attribute_op) attributes h1) (vis_if_op vis) (item_body_op depth I hi b h3)
item_op depth I hi x (ItemGrammar.ItemNode.group {y = y} e h1 h2 h3) = op-Item-Group x _ y e h2 (item_op depth I hi y h3)

pub item_is : (depth : ℕ) (x : Item) → IsItem depth x → Op (item_parts one inside opened x) (item_parts piece whole as_it_is x)
unfolding IsItem
item_is zero x h = elim h [ ]
item_is (suc depth) x h = item_op depth (IsItem depth) (item_is depth) x h

pub node_is : NodeIsOpened
unfolding tokens pieces
node_is depth (n.Item x) h = item_is depth x.now h
node_is depth (n.Expr x) h = expr_is depth false x.now h
node_is depth (n.Pat x) h = pat_is depth x.now h
node_is depth (n.Ty x) h = type_is depth false x.now h
node_is depth (n.Path x) h = path_is depth x.now h
node_is depth (n.Stmt x) (inl h) = stmt_is depth x.now h
node_is depth (n.Stmt x) (inr h) = fragment_stmt_is depth x.now h
