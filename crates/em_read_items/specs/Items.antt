-- Parts of what the readers of items are made of, with names of their own.
use Rattle.std.specs.Prelude.{ℕ, Bool, true, false, ◌&&◌, if◌then◌else◌, List, [], ◌∷◌, Option, Some, None}
use Rattle.em_base.specs.declared.edition.Edition.{Edition}
use Rattle.em_base.specs.declared.token.Token.{Token}
use Rattle.em_tree.specs.declared.piece.Piece.TheVariants as p
use Rattle.em_tree.specs.declared.parts.Listed.{Listed}
use Rattle.em_tree.specs.declared.literal.Literal.{Literal}
use Rattle.em_tree.specs.declared.types.Output.{Output}
use Rattle.em_tree.specs.declared.types.Output.TheVariants as result
use Rattle.em_tree.specs.declared.types.Path.{Path}
use Rattle.em_tree.specs.declared.types.TypeTree.{TypeTree}
use Rattle.em_tree.specs.declared.pat.Pat.{Pat}
use Rattle.em_tree.specs.declared.item.ImplFn.{ImplFn}
use Rattle.em_tree.specs.declared.item.ImplTrait.{ImplTrait}
use Rattle.em_tree.specs.declared.item.MetaInput.{MetaInput}
use Rattle.em_tree.specs.declared.item.StructFields.{StructFields}
use Rattle.em_tree.specs.declared.item.VariantFields.{VariantFields}
use Rattle.em_tree.specs.declared.item.UseName.{UseName}
use Rattle.em_tree.specs.declared.item.Item.{Item}
use Rattle.em_tree.specs.Starts.{Pieces}
use Rattle.em_grammar.specs.declared.sort.Written.{Written}
use Rattle.em_grammar.specs.declared.sort.Written.TheVariants as word
use Rattle.em_grammar.specs.Sets.{next, is_sign}
use Rattle.em_grammar.specs.Reader.{Read, seq, mapped, choice, opt, when, all_of, list_of, group}
use Rattle.em_grammar.specs.LiteralReader.{literal_in}
use Rattle.em_grammar.specs.TextReader.{delimited}
use Rattle.em_grammar.specs.ItemReader as item
use Rattle.em_grammar.specs.ItemReader.{mark, at, starting}

-- ---- attributes

abbrev pub value : ℕ → Pieces → Read MetaInput
value n = mapped item.value_of (seq (mark word.Eq) (literal_in false n))

abbrev pub written_input : ℕ → Pieces → Read MetaInput
written_input n = choice (at word.OpenParen) (mapped item.parens_of (starting (at word.OpenParen) delimited)) (value n)

-- ---- macros

abbrev pub ended : Pieces → Read item.Finished
ended = mapped item.ended_of (seq (starting item.round_or_square delimited) (mark word.Semi))

-- ---- fields

module _ (ty : Pieces → Read TypeTree) where
  abbrev pub named_fields : Pieces → Read StructFields
  named_fields = mapped item.named_of (seq (mark word.OpenBrace) (seq (list_of (item.field ty)) (mark word.CloseBrace)))

  abbrev pub tuple_fields : Pieces → Read StructFields
  tuple_fields = mapped item.tuple_of (seq (mark word.OpenParen) (seq (list_of (item.tuple_field ty)) (seq (mark word.CloseParen) (mark word.Semi))))

  abbrev pub tuple_variant : Pieces → Read VariantFields
  tuple_variant = mapped item.tuple_variant_of (seq (mark word.OpenParen) (seq (list_of ty) (mark word.CloseParen)))

  abbrev pub named_variant : Pieces → Read VariantFields
  named_variant = mapped item.named_variant_of (seq (mark word.OpenBrace) (seq (list_of (item.variant_field ty)) (mark word.CloseBrace)))

  abbrev pub written_fields : Pieces → Read VariantFields
  written_fields = choice (at word.OpenParen) tuple_variant named_variant

-- ---- functions

-- what is behind the sign, if it is next
abbrev pub past : Written → Pieces → Pieces
past x [] = []
past x (p.Group g ∷ r) = p.Group g ∷ r
past x (p.Token t ∷ r) = if is_sign x t then r else (p.Token t ∷ r)

-- `self`, and a `,` or `)` behind it
abbrev pub is_self : Pieces → Bool
is_self [] = false
is_self (p.Group g ∷ r) = false
is_self (p.Token t ∷ r) = is_sign word.SelfValue t && next item.self_end r

module _ (ty : Pieces → Read TypeTree) (pat : Pieces → Read Pat) where
  abbrev pub with_self : Bool → Pieces → Read item.Inputs
  with_self in_trait = mapped item.with_self_of (seq item.self_param (item.after_self ty pat in_trait))

abbrev pub arrow_type : (Pieces → Read TypeTree) → Pieces → Read Output
arrow_type ty = mapped (λ t. result.Type t.0 t.1) (seq (mark word.RArrow) ty)

-- ---- imports and constants, the ends of them

abbrev pub names : Pieces → Read (Token × (List (Listed UseName) × (Token × Token)))
names = seq (mark word.OpenBrace) (seq (list_of item.use_name) (seq (mark word.CloseBrace) (mark word.Semi)))

abbrev pub const_value : ℕ → Pieces → Read (Token × (Literal × Token))
const_value n = seq (mark word.Eq) (seq (literal_in true n) (mark word.Semi))

abbrev pub typed_value : (Pieces → Read TypeTree) → ℕ → Pieces → Read (TypeTree × (Token × (Literal × Token)))
typed_value ty n = seq ty (const_value n)

-- ---- modules

-- items in their braces
abbrev pub mod_block : (Pieces → Read Item) → Pieces → Read (Token × (List Item × Token))
mod_block items = seq (mark word.OpenBrace) (seq (all_of items) (mark word.CloseBrace))

-- ---- impls

-- `for` and the type behind it, where this type may stand before it
abbrev pub for_type : item.Inner → TypeTree → Pieces → Read (Token × TypeTree)
for_type inner t = when (item.has_path (item.trait_path t)) (seq (mark word.For) inner.types)

abbrev pub impl_functions : item.Inner → Pieces → Read (Token × (List ImplFn × Token))
impl_functions inner = seq (mark word.OpenBrace) (seq (all_of (item.impl_fn inner)) (mark word.CloseBrace))

abbrev pub of_trait : Option Path → Token → Option ImplTrait
of_trait None t = None
of_trait (Some x) t = Some (record { path = x; word_for = t })

abbrev types_by : TypeTree → Option (Token × TypeTree) → Option ImplTrait × TypeTree
types_by t None = (None, t)
types_by t (Some u) = (of_trait (item.trait_path t) u.0, u.1)

-- the trait of an impl and its type
abbrev pub impl_types : item.ImplHead → Option ImplTrait × TypeTree
impl_types h = types_by h.0 h.1

-- ---- items

abbrev pub plain_item : item.Inner → Pieces → Read Item
plain_item inner = mapped item.plain_item_of (seq (all_of (item.attribute inner.nested)) (seq (opt item.vis) (item.item_body inner)))

abbrev pub item_group : (Pieces → Read Item) → Pieces → Read Item
item_group opened = mapped item.item_group_of (group item.is_item_group opened)
