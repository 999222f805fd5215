-- How items and files are read.
use Rattle.std.specs.Prelude.{ℕ, zero, suc, Bool, true, false, not, ◌&&◌, ◌||◌, if◌then◌else◌, List, [], ◌∷◌, Option, Some, None}
use Rattle.em_base.specs.declared.token.Token.{Token}
use Rattle.em_tree.specs.declared.parts.Listed.{Listed}
use Rattle.em_tree.specs.declared.piece.Delimited.{Delimited}
use Rattle.em_tree.specs.declared.piece.FragmentKind.{FragmentKind}
use Rattle.em_tree.specs.declared.piece.FragmentKind.TheVariants as fk
use Rattle.em_tree.specs.declared.piece.Group.{Group}
use Rattle.em_tree.specs.declared.piece.Piece.TheVariants as p
use Rattle.em_tree.specs.declared.literal.Literal.{Literal}
use Rattle.em_tree.specs.declared.types.Path.{Path}
use Rattle.em_tree.specs.declared.types.Output.{Output}
use Rattle.em_tree.specs.declared.types.Output.TheVariants as result
use Rattle.em_tree.specs.declared.types.Segments.{Segments}
use Rattle.em_tree.specs.declared.types.TypeTree.{TypeTree, out-TypeTree}
use Rattle.em_tree.specs.declared.types.Bound.{Bound}
use Rattle.em_tree.specs.declared.types.Qualified.{Qualified}
use Rattle.em_tree.specs.declared.types.Bound.TheOpen.{TypeTree-F}
use Rattle.em_tree.specs.declared.pat.Pat.{Pat}
use Rattle.em_tree.specs.declared.expr.Block.{Block}
use Rattle.em_tree.specs.declared.expr.Body.{Body}
use Rattle.em_tree.specs.declared.item.MetaInput.{MetaInput}
use Rattle.em_tree.specs.declared.item.MetaInput.TheVariants as input
use Rattle.em_tree.specs.declared.item.Meta.{Meta}
use Rattle.em_tree.specs.declared.item.Attribute.{Attribute}
use Rattle.em_tree.specs.declared.item.FileAttribute.{FileAttribute}
use Rattle.em_tree.specs.declared.item.VisScope.{VisScope}
use Rattle.em_tree.specs.declared.item.Vis.{Vis}
use Rattle.em_tree.specs.declared.item.SelfParam.{SelfParam}
use Rattle.em_tree.specs.declared.item.Param.{Param}
use Rattle.em_tree.specs.declared.item.Param.TheVariants as param
use Rattle.em_tree.specs.declared.item.Sig.{Sig}
use Rattle.em_tree.specs.declared.item.TraitBody.{TraitBody}
use Rattle.em_tree.specs.declared.item.TraitBody.TheVariants as trait_body
use Rattle.em_tree.specs.declared.item.TraitFn.{TraitFn}
use Rattle.em_tree.specs.declared.item.ImplFn.{ImplFn}
use Rattle.em_tree.specs.declared.item.FieldDecl.{FieldDecl}
use Rattle.em_tree.specs.declared.item.TupleDecl.{TupleDecl}
use Rattle.em_tree.specs.declared.item.StructFields.{StructFields}
use Rattle.em_tree.specs.declared.item.StructFields.TheVariants as struct_fields
use Rattle.em_tree.specs.declared.item.VariantField.{VariantField}
use Rattle.em_tree.specs.declared.item.VariantFields.{VariantFields}
use Rattle.em_tree.specs.declared.item.VariantFields.TheVariants as variant_fields
use Rattle.em_tree.specs.declared.item.VariantDecl.{VariantDecl}
use Rattle.em_tree.specs.declared.item.Rename.{Rename}
use Rattle.em_tree.specs.declared.item.UseName.{UseName}
use Rattle.em_tree.specs.declared.item.ItemBody.{ItemBody}
use Rattle.em_tree.specs.declared.item.ItemBody.TheVariants as body
use Rattle.em_tree.specs.declared.item.Item.{Item}
use Rattle.em_tree.specs.declared.item.Item.TheVariants as made
use Rattle.em_tree.specs.declared.item.FileTree.{FileTree}
use Rattle.em_tree.specs.Starts.{Pieces, kind_of, is_spelled}
use Rattle.em_tree.specs.Yields.{opened}
use Rattle.em_tree.specs.ItemGrammar.{attributes, starts_before_2018, can_be_named}
use Rattle.em_grammar.specs.declared.sort.Written.{Written}
use Rattle.em_grammar.specs.declared.sort.Written.TheVariants as word
use Rattle.em_grammar.specs.declared.sort.Weak.TheVariants as weak
use Rattle.em_grammar.specs.declared.sort.Sort.{Sort}
use Rattle.em_grammar.specs.Sorts.{sort_of}
use Rattle.em_grammar.specs.Sets.{Set, next, either, tokens, groups, only, is_sign, any_of, name_sort, weak_is}
use Rattle.em_grammar.specs.Lang.{Sum, one, two, listed}
use Rattle.em_grammar.specs.Reader.{Read, Found, Absent, Deep, token, seq, chain, mapped, choice, opt, when, all_of, list_of, group}
use Rattle.em_grammar.specs.LiteralReader.{literal_in}
use Rattle.em_grammar.specs.PathReader.{segments}
use Rattle.em_grammar.specs.TypeReader.{plain_type_in, alone, is_lone}
use Rattle.em_grammar.specs.PatReader.{pat_in}
use Rattle.em_grammar.specs.ExprKnot.{block_in}
use Rattle.em_grammar.specs.TextReader.{opens_sort, delimited}

-- ---- words

-- the word or sign
abbrev pub mark : Written → Pieces → Read Token
mark x = token (is_sign x)

abbrev pub at : Written → Set
at x = tokens (only x)

abbrev pub name : Pieces → Read Token
name = token (λ t. name_sort (sort_of t))

-- only where one of these stands next
abbrev pub starting : {A : Type 0} → Set → (Pieces → Read A) → Pieces → Read A
starting s P = choice s P (λ i. Absent)

-- by a test of what is ahead
abbrev pub ahead : {A : Type 0} → (Pieces → Bool) → (Pieces → Read A) → (Pieces → Read A) → Pieces → Read A
ahead test P Q i = if test i then P i else Q i

-- ---- attributes and visibility

abbrev pub parens_of : Delimited → MetaInput
parens_of d = input.List d

abbrev pub value_of : Token × Literal → MetaInput
value_of t = input.Value t.0 t.1

abbrev pub input_of : Option MetaInput → MetaInput
input_of None = input.Nothing
input_of (Some x) = x

-- `n`: groups in one another
abbrev pub meta_input : ℕ → Pieces → Read MetaInput
meta_input n =
    mapped input_of (opt (choice (at word.OpenParen) (mapped parens_of (starting (at word.OpenParen) delimited)) (mapped value_of (seq (mark word.Eq) (literal_in false n)))))

abbrev pub is_attribute : Token → Bool
is_attribute t = is_spelled attributes t

abbrev pub meta_of : Token × MetaInput → Meta
meta_of t = record { name = t.0; input = t.1 }

abbrev pub meta : ℕ → Pieces → Read Meta
meta n = mapped meta_of (seq (token is_attribute) (meta_input n))

abbrev pub attribute_of : Token × (Token × (Meta × Token)) → Attribute
attribute_of t = record { hash = t.0; «open» = t.1.0; meta = t.1.1.0; close = t.1.1.1 }

abbrev pub attribute : ℕ → Pieces → Read Attribute
attribute n = mapped attribute_of (seq (mark word.Pound) (seq (mark word.OpenBracket) (seq (meta n) (mark word.CloseBracket))))

abbrev pub file_attribute_of : Token × (Token × (Token × (Meta × Token))) → FileAttribute
file_attribute_of t = record { hash = t.0; bang = t.1.0; «open» = t.1.1.0; meta = t.1.1.1.0; close = t.1.1.1.1 }

abbrev pub file_attribute : ℕ → Pieces → Read FileAttribute
file_attribute n = mapped file_attribute_of (seq (mark word.Pound) (seq (mark word.Not) (seq (mark word.OpenBracket) (seq (meta n) (mark word.CloseBracket)))))

abbrev pub scopes : List Written
scopes = word.Crate ∷ word.SelfValue ∷ word.Super ∷ []

abbrev pub scope_of : Token × (Token × Token) → VisScope
scope_of t = record { «open» = t.0; «module» = t.1.0; close = t.1.1 }

abbrev pub scope : Pieces → Read VisScope
scope = mapped scope_of (seq (mark word.OpenParen) (seq (token (λ t. any_of scopes (sort_of t))) (mark word.CloseParen)))

abbrev pub vis_of : Token × Option VisScope → Vis
vis_of t = record { word = t.0; scope = t.1 }

abbrev pub vis : Pieces → Read Vis
vis = mapped vis_of (seq (mark word.Pub) (opt scope))

-- ---- imports and modules

abbrev pub rename_of : Token × Token → Rename
rename_of t = record { word = t.0; name = t.1 }

abbrev pub rename : Pieces → Read Rename
rename = mapped rename_of (seq (mark word.As) name)

abbrev pub use_sort : Sort → Bool
use_sort s = name_sort s || only word.SelfValue s

abbrev pub use_name_of : Token × Option Rename → UseName
use_name_of t = record { name = t.0; rename = t.1 }

abbrev pub use_name : Pieces → Read UseName
use_name = mapped use_name_of (seq (token (λ t. use_sort (sort_of t))) (opt rename))

abbrev pub extern_of : Token × (Token × (Token × (Option Rename × Token))) → ItemBody Item
extern_of t = body.ExternCrate t.0 t.1.0 t.1.1.0 t.1.1.1.0 t.1.1.1.1

abbrev pub extern_crate : Pieces → Read (ItemBody Item)
extern_crate = mapped extern_of (seq (mark word.Extern) (seq (mark word.Crate) (seq name (seq (opt rename) (mark word.Semi)))))

-- behind the path of an import
abbrev pub UseTail : Type 0
UseTail = Sum (Option Rename × Token) (Token × (Token × (List (Listed UseName) × (Token × Token))))

abbrev pub use_tail : Pieces → Read UseTail
use_tail =
    choice (either (at word.As) (at word.Semi)) (mapped one (seq (opt rename) (mark word.Semi)))
    (mapped two (seq (mark word.PathSep) (seq (mark word.OpenBrace) (seq (list_of use_name) (seq (mark word.CloseBrace) (mark word.Semi))))))

abbrev pub use_with : Token → Segments → UseTail → ItemBody Item
use_with w s (one t) = body.Use w s t.0 t.1
use_with w s (two t) = body.UseList w s t.0 t.1.0 t.1.1.0 t.1.1.1.0 t.1.1.1.1

abbrev pub use_of : Token × (Segments × UseTail) → ItemBody Item
use_of t = use_with t.0 t.1.0 t.1.1

abbrev pub use_item : Pieces → Read (ItemBody Item)
use_item = mapped use_of (seq (mark word.Use) (seq segments use_tail))

-- behind the name of a module
abbrev pub ModTail : Type 0
ModTail = Sum Token (Token × (List Item × Token))

abbrev pub mod_tail : (Pieces → Read Item) → Pieces → Read ModTail
mod_tail items = choice (at word.Semi) (mapped one (mark word.Semi)) (mapped two (seq (mark word.OpenBrace) (seq (all_of items) (mark word.CloseBrace))))

abbrev pub mod_with : Token → Token → ModTail → ItemBody Item
mod_with w n (one t) = body.ModFile w n t
mod_with w n (two t) = body.ModBlock w n t.0 t.1.0 t.1.1

abbrev pub mod_of : Token × (Token × ModTail) → ItemBody Item
mod_of t = mod_with t.0 t.1.0 t.1.1

abbrev pub mod_item : (Pieces → Read Item) → Pieces → Read (ItemBody Item)
mod_item items = mapped mod_of (seq (mark word.Mod) (seq name (mod_tail items)))

-- ---- calls of macros, and rules

abbrev pub Finished : Type 0
Finished = Delimited × Option Token

abbrev pub unended_of : Delimited → Finished
unended_of d = (d, None)

abbrev pub ended_of : Delimited × Token → Finished
ended_of t = (t.0, Some t.1)

abbrev pub round_or_square : Set
round_or_square = tokens (any_of (word.OpenParen ∷ word.OpenBracket ∷ []))

-- a text, with a `;` behind parentheses and brackets
abbrev pub finished : Pieces → Read Finished
finished =
    choice (at word.OpenBrace) (mapped unended_of (starting (at word.OpenBrace) delimited)) (mapped ended_of (seq (starting round_or_square delimited) (mark word.Semi)))

abbrev pub rules_sort : Sort → Bool
rules_sort s = weak_is weak.MacroRules s

abbrev pub macro_sort : Sort → Bool
macro_sort s = name_sort s || rules_sort s

-- behind the `!`: the text, or the name of the rules and their text
abbrev pub MacroTail : Type 0
MacroTail = Sum Finished (Token × Finished)

abbrev pub macro_tail : Token → Pieces → Read MacroTail
macro_tail w =
    choice (tokens opens_sort) (mapped one (when (name_sort (sort_of w)) finished)) (mapped two (when (rules_sort (sort_of w)) (seq name finished)))

abbrev pub macro_with : Token → Token → MacroTail → ItemBody Item
macro_with w b (one t) = body.Macro (record { name = w; bang = b; text = t.0 }) t.1
macro_with w b (two t) = body.Rules w b t.0 t.1.0 t.1.1

abbrev pub macro_of : Token × (Token × MacroTail) → ItemBody Item
macro_of t = macro_with t.0 t.1.0 t.1.1

abbrev pub macro_item : Pieces → Read (ItemBody Item)
macro_item = mapped macro_of (chain (token (λ t. macro_sort (sort_of t))) (λ w. seq (mark word.Not) (macro_tail w)))

-- ---- constants, structs and enums

abbrev pub const_of : Token × (Token × (Token × (TypeTree × (Token × (Literal × Token))))) → ItemBody Item
const_of t = body.Const t.0 t.1.0 t.1.1.0 t.1.1.1.0 t.1.1.1.1.0 t.1.1.1.1.1.0 t.1.1.1.1.1.1

abbrev pub field_of : Option Vis × (Token × (Token × TypeTree)) → FieldDecl
field_of t = record { vis = t.0; name = t.1.0; colon = t.1.1.0; ty = t.1.1.1 }

abbrev pub tuple_field_of : Option Vis × TypeTree → TupleDecl
tuple_field_of t = record { vis = t.0; ty = t.1 }

abbrev pub unit_of : Token → StructFields
unit_of t = struct_fields.Unit t

abbrev pub named_of : Token × (List (Listed FieldDecl) × Token) → StructFields
named_of t = struct_fields.Named t.0 t.1.0 t.1.1

abbrev pub tuple_of : Token × (List (Listed TupleDecl) × (Token × Token)) → StructFields
tuple_of t = struct_fields.Tuple t.0 t.1.0 t.1.1.0 t.1.1.1

abbrev pub struct_of : Token × (Token × StructFields) → ItemBody Item
struct_of t = body.Struct t.0 t.1.0 t.1.1

abbrev pub variant_field_of : Token × (Token × TypeTree) → VariantField
variant_field_of t = record { name = t.0; colon = t.1.0; ty = t.1.1 }

abbrev pub tuple_variant_of : Token × (List (Listed TypeTree) × Token) → VariantFields
tuple_variant_of t = variant_fields.Tuple t.0 t.1.0 t.1.1

abbrev pub named_variant_of : Token × (List (Listed VariantField) × Token) → VariantFields
named_variant_of t = variant_fields.Named t.0 t.1.0 t.1.1

abbrev pub variant_fields_of : Option VariantFields → VariantFields
variant_fields_of None = variant_fields.Unit
variant_fields_of (Some x) = x

abbrev pub variant_of : Token × VariantFields → VariantDecl
variant_of t = record { name = t.0; fields = t.1 }

abbrev pub enum_of : Token × (Token × (Token × (List (Listed VariantDecl) × Token))) → ItemBody Item
enum_of t = body.Enum t.0 t.1.0 t.1.1.0 t.1.1.1.0 t.1.1.1.1

-- whose types are read by `ty`
module _ (ty : Pieces → Read TypeTree) where
  abbrev pub const_item : ℕ → Pieces → Read (ItemBody Item)
  const_item n = mapped const_of (seq (mark word.Const) (seq name (seq (mark word.Colon) (seq ty (seq (mark word.Eq) (seq (literal_in true n) (mark word.Semi)))))))

  abbrev pub field : Pieces → Read FieldDecl
  field = mapped field_of (seq (opt vis) (seq name (seq (mark word.Colon) ty)))

  abbrev pub tuple_field : Pieces → Read TupleDecl
  tuple_field = mapped tuple_field_of (seq (opt vis) ty)

  abbrev pub fields : Pieces → Read StructFields
  fields =
      choice (at word.Semi) (mapped unit_of (mark word.Semi)) (choice (at word.OpenBrace) (mapped named_of (seq (mark word.OpenBrace) (seq (list_of field) (mark word.CloseBrace))))
      (mapped tuple_of (seq (mark word.OpenParen) (seq (list_of tuple_field) (seq (mark word.CloseParen) (mark word.Semi))))))

  abbrev pub struct_item : Pieces → Read (ItemBody Item)
  struct_item = mapped struct_of (seq (mark word.Struct) (seq name fields))

  abbrev pub variant_field : Pieces → Read VariantField
  variant_field = mapped variant_field_of (seq name (seq (mark word.Colon) ty))

  abbrev pub variant_body : Pieces → Read VariantFields
  variant_body =
      mapped variant_fields_of (opt (choice (at word.OpenParen) (mapped tuple_variant_of (seq (mark word.OpenParen) (seq (list_of ty) (mark word.CloseParen))))
      (mapped named_variant_of (seq (mark word.OpenBrace) (seq (list_of variant_field) (mark word.CloseBrace))))))

  abbrev pub variant : Pieces → Read VariantDecl
  variant = mapped variant_of (seq name variant_body)

  abbrev pub enum_item : Pieces → Read (ItemBody Item)
  enum_item = mapped enum_of (seq (mark word.Enum) (seq name (seq (mark word.OpenBrace) (seq (list_of variant) (mark word.CloseBrace)))))

-- ---- functions

abbrev pub self_of : Option Token × (Option Token × Token) → SelfParam
self_of t = record { amp = t.0; word_mut = t.1.0; word = t.1.1 }

abbrev pub self_param : Pieces → Read SelfParam
self_param = mapped self_of (seq (opt (mark word.And)) (seq (opt (mark word.Mut)) (mark word.SelfValue)))

abbrev pub self_end : Set
self_end = either (at word.Comma) (at word.CloseParen)

abbrev pub stands_before : {A : Type 0} → Set → Read A → Bool
stands_before s (Found a r) = next s r
stands_before s Absent = false
stands_before s Deep = false

-- a receiver, and a `,` or `)`
abbrev pub self_ahead : Pieces → Bool
self_ahead i = stands_before self_end (self_param i)

-- one token or fragment of a pattern, and a `:`
abbrev pub one_ahead : Pieces → Bool
one_ahead (x ∷ p.Token c ∷ r) = can_be_named x && is_sign word.Colon c
one_ahead _ = false

-- `mut`, a token and a `:`
abbrev pub mut_ahead : Pieces → Bool
mut_ahead (p.Token a ∷ p.Token b ∷ p.Token c ∷ r) = is_sign word.Mut a && is_sign word.Colon c
mut_ahead _ = false

-- a parameter with a pattern
abbrev pub pattern_ahead : Bool → Pieces → Bool
pattern_ahead in_trait i = not (in_trait && starts_before_2018 (opened i)) || (one_ahead i || mut_ahead i)

abbrev pub typed_of : Pat × (Token × TypeTree) → Param
typed_of t = param.Typed t.0 t.1.0 t.1.1

abbrev pub anonymous_of : TypeTree → Param
anonymous_of x = param.Anonymous x

abbrev pub Inputs : Type 0
Inputs = Option (Listed SelfParam) × (List (Listed Param) × Token)

abbrev pub last_self : Token → Option Token × (List (Listed Param) × Token)
last_self c = (None, ([], c))

abbrev pub more_self : Token × (List (Listed Param) × Token) → Option Token × (List (Listed Param) × Token)
more_self t = (Some t.0, t.1)

abbrev pub with_self_of : SelfParam × (Option Token × (List (Listed Param) × Token)) → Inputs
with_self_of t = (Some (listed t.0 t.1.0), t.1.1)

abbrev pub without_self_of : List (Listed Param) × Token → Inputs
without_self_of t = (None, t)

abbrev pub output_of : Option (Token × TypeTree) → Output
output_of None = result.Unit
output_of (Some t) = result.Type t.0 t.1

abbrev pub sig_of : Token × (Token × (Token × (Inputs × Output))) → Sig
sig_of t = record { word = t.0; name = t.1.0; «open» = t.1.1.0; receiver = t.1.1.1.0.0; params = t.1.1.1.0.1.0; close = t.1.1.1.0.1.1; output = t.1.1.1.1 }

module _ (ty : Pieces → Read TypeTree) (pat : Pieces → Read Pat) where
  abbrev pub param_by : Bool → Pieces → Read Param
  param_by in_trait = ahead (pattern_ahead in_trait) (mapped typed_of (seq pat (seq (mark word.Colon) ty))) (mapped anonymous_of ty)

  abbrev pub params_close : Bool → Pieces → Read (List (Listed Param) × Token)
  params_close in_trait = seq (list_of (param_by in_trait)) (mark word.CloseParen)

  abbrev pub after_self : Bool → Pieces → Read (Option Token × (List (Listed Param) × Token))
  after_self in_trait = choice (at word.CloseParen) (mapped last_self (mark word.CloseParen)) (mapped more_self (seq (mark word.Comma) (params_close in_trait)))

  abbrev pub inputs : Bool → Pieces → Read Inputs
  inputs in_trait = ahead self_ahead (mapped with_self_of (seq self_param (after_self in_trait))) (mapped without_self_of (params_close in_trait))

  abbrev pub output : Pieces → Read Output
  output = mapped output_of (opt (seq (mark word.RArrow) ty))

  unfoldable pub sig : Bool → Pieces → Read Sig
  sig in_trait i = mapped sig_of (seq (mark word.Fn) (seq name (seq (mark word.OpenParen) (seq (inputs in_trait) output)))) i

-- ---- functions with their bodies, traits and impls

abbrev pub semi_of : Token → TraitBody
semi_of t = trait_body.Semi t

abbrev pub block_of : Block Body → TraitBody
block_of b = trait_body.Block b

abbrev pub trait_fn_of : Sig × TraitBody → TraitFn
trait_fn_of t = record { sig = t.0; body = t.1 }

abbrev pub impl_fn_of : Option Vis × (Sig × Block Body) → ImplFn
impl_fn_of t = record { vis = t.0; sig = t.1.0; body = t.1.1 }

abbrev pub fn_of : Sig × Block Body → ItemBody Item
fn_of t = body.Fn t.0 t.1

abbrev pub trait_of : Token × (Token × (Token × (List TraitFn × Token))) → ItemBody Item
trait_of t = body.Trait t.0 t.1.0 t.1.1.0 t.1.1.1.0 t.1.1.1.1

abbrev pub path_unless : Bool → Path → Option Path
path_unless true x = None
path_unless false x = Some x

abbrev pub trait_layer : TypeTree-F Bound Output Path TypeTree Qualified → Option Path
trait_layer (TypeTree-F.TypeTree::Path x) = path_unless (is_lone weak.Dyn (alone x)) x
trait_layer _ = None

-- the path of a type that may stand before `for`: not the word `dyn` alone
unfoldable pub trait_path : TypeTree → Option Path
trait_path x = trait_layer (out-TypeTree x)

abbrev pub has_path : Option Path → Bool
has_path None = false
has_path (Some x) = true

-- a type, and maybe `for` and another one
abbrev pub ImplHead : Type 0
ImplHead = TypeTree × Option (Token × TypeTree)

abbrev pub impl_for : Token → Option Path → Token × TypeTree → Token → List ImplFn → Token → ItemBody Item
impl_for w (Some x) u o fs c = body.Impl w (Some (record { path = x; word_for = u.0 })) u.1 o fs c
impl_for w None u o fs c = body.Impl w None u.1 o fs c

abbrev pub impl_with : Token → TypeTree → Option (Token × TypeTree) → Token → List ImplFn → Token → ItemBody Item
impl_with w t None o fs c = body.Impl w None t o fs c
impl_with w t (Some u) o fs c = impl_for w (trait_path t) u o fs c

abbrev pub impl_of : Token × (ImplHead × (Token × (List ImplFn × Token))) → ItemBody Item
impl_of t = impl_with t.0 t.1.0.0 t.1.0.1 t.1.1.0 t.1.1.1.0 t.1.1.1.1

-- what an item is made of: groups in one another in its literals, types, types one node deeper, patterns, blocks and further items
pub record Inner : Type 0 where
  pub nested : ℕ
  pub types : Pieces → Read TypeTree
  pub heads : Pieces → Read TypeTree
  pub pats : Pieces → Read Pat
  pub blocks : Pieces → Read (Block Body)
  pub items : Pieces → Read Item

module _ (inner : Inner) where
  abbrev pub trait_end : Pieces → Read TraitBody
  trait_end = choice (at word.Semi) (mapped semi_of (mark word.Semi)) (mapped block_of inner.blocks)

  abbrev pub trait_fn : Pieces → Read TraitFn
  trait_fn = mapped trait_fn_of (seq (sig inner.types inner.pats true) trait_end)

  abbrev pub impl_fn : Pieces → Read ImplFn
  impl_fn = mapped impl_fn_of (seq (opt vis) (seq (sig inner.types inner.pats false) inner.blocks))

  abbrev pub fn_item : Pieces → Read (ItemBody Item)
  fn_item = mapped fn_of (seq (sig inner.types inner.pats false) inner.blocks)

  abbrev pub trait_item : Pieces → Read (ItemBody Item)
  trait_item = mapped trait_of (seq (mark word.Trait) (seq name (seq (mark word.OpenBrace) (seq (all_of trait_fn) (mark word.CloseBrace)))))

  abbrev pub impl_head : Pieces → Read ImplHead
  impl_head = chain inner.heads (λ t. opt (when (has_path (trait_path t)) (seq (mark word.For) inner.types)))

  abbrev pub impl_item : Pieces → Read (ItemBody Item)
  impl_item = mapped impl_of (seq (mark word.Impl) (seq impl_head (seq (mark word.OpenBrace) (seq (all_of impl_fn) (mark word.CloseBrace)))))

  -- by the first piece
  unfoldable pub item_body : Pieces → Read (ItemBody Item)
  item_body i =
      choice (at word.Extern) extern_crate (choice (at word.Use) use_item (choice (at word.Mod) (mod_item inner.items) (choice (at word.Fn) fn_item
      (choice (at word.Struct) (struct_item inner.types) (choice (at word.Enum) (enum_item inner.types) (choice (at word.Trait) trait_item
      (choice (at word.Impl) impl_item (choice (at word.Const) (const_item inner.types inner.nested) macro_item)))))))) i

-- ---- items

abbrev pub item_kind : FragmentKind → Bool
item_kind fk.Item = true
item_kind _ = false

abbrev pub is_item_group : Group → Bool
is_item_group g = item_kind (kind_of g)

abbrev pub body_start : Set
body_start =
    either (at word.Extern) (either (at word.Use) (either (at word.Mod) (either (at word.Fn) (either (at word.Struct) (either (at word.Enum) (either (at word.Trait) (either (at word.Impl)
    (either (at word.Const) (tokens macro_sort)))))))))

abbrev pub plain_start : Set
plain_start = either (at word.Pound) (either (at word.Pub) body_start)

abbrev pub item_start : Set
item_start = either plain_start (groups item_kind)

abbrev pub plain_item_of : List Attribute × (Option Vis × ItemBody Item) → Item
plain_item_of t = made.Plain t.0 t.1.0 t.1.1

abbrev pub item_group_of : Group × Item → Item
item_group_of t = made.Group t.0 t.1

-- where the pieces of a group are read by `opened`
unfoldable pub item_node : Inner → (Pieces → Read Item) → Pieces → Read Item
item_node inner opened i =
    choice plain_start (mapped plain_item_of (seq (all_of (attribute inner.nested)) (seq (opt vis) (item_body inner)))) (mapped item_group_of (group is_item_group opened)) i

-- items that nest no deeper than the number, where the pieces of groups are read by `opened`, and the parts of an item by `within`
unfoldable pub item_by : (ℕ → (Pieces → Read Item) → Inner) → (ℕ → Pieces → Read Item) → ℕ → Pieces → Read Item
item_by within opened zero i = if next item_start i then Deep else Absent
item_by within opened (suc depth) i = item_node (within depth (item_by within opened depth)) (opened (suc depth)) i

-- where blocks are read by `blocks`, by the groups and the nodes in one another
abbrev pub inner_of : (ℕ → ℕ → Pieces → Read (Block Body)) → ℕ → ℕ → (Pieces → Read Item) → Inner
inner_of blocks n depth items =
    record { nested = n; types = plain_type_in n depth; heads = plain_type_in n (suc depth); pats = pat_in n depth; blocks = blocks n depth; items = items }

-- groups in one another up to the number
unfoldable pub item_over : (ℕ → ℕ → Pieces → Read (Block Body)) → ℕ → ℕ → Pieces → Read Item
item_over blocks zero depth i = item_by (inner_of blocks 0) (λ depth i. Deep) depth i
item_over blocks (suc n) depth i = item_by (inner_of blocks (suc n)) (item_over blocks n) depth i

-- ---- files

abbrev pub file_of : List FileAttribute × List Item → FileTree
file_of t = record { attributes = t.0; items = t.1 }

-- as many attributes and items as there are
abbrev pub file_over : (ℕ → ℕ → Pieces → Read (Block Body)) → ℕ → ℕ → Pieces → Read FileTree
file_over blocks n depth = mapped file_of (seq (all_of (file_attribute n)) (all_of (item_over blocks n depth)))

-- an item and a file, with groups in one another and nodes in one another up to these numbers
abbrev pub item_in : ℕ → ℕ → Pieces → Read Item
item_in = item_over block_in

abbrev pub file_in : ℕ → ℕ → Pieces → Read FileTree
file_in = file_over block_in
