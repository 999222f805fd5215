-- Items and files (Reference, "Items"), as far as the profile has them.
use Rattle.std.specs.Prelude.{◌≡◌, ◌⊎◌, ℕ, zero, suc, Bool, true, false, ◌&&◌, List, [], ◌∷◌, ◌++◌, codes, Option, Some, None}
use Rattle.em_base.specs.declared.token.Token.{Token}
use Rattle.em_tree.specs.declared.parts.Listed.{Listed}
use Rattle.em_tree.specs.declared.piece.Delimited.{Delimited}
use Rattle.em_tree.specs.declared.piece.FragmentKind.{FragmentKind}
use Rattle.em_tree.specs.declared.piece.FragmentKind.TheVariants as f
use Rattle.em_tree.specs.declared.piece.Group.{Group}
use Rattle.em_tree.specs.declared.piece.Piece.{Piece}
use Rattle.em_tree.specs.declared.piece.Piece.TheVariants as p
use Rattle.em_tree.specs.declared.literal.Literal.{Literal}
use Rattle.em_tree.specs.declared.types.Path.{Path}
use Rattle.em_tree.specs.declared.types.Output.{Output}
use Rattle.em_tree.specs.declared.types.Segments.{Segments}
use Rattle.em_tree.specs.declared.types.TypeTree.{TypeTree}
use Rattle.em_tree.specs.declared.expr.Block.{Block}
use Rattle.em_tree.specs.declared.expr.Body.{Body}
use Rattle.em_tree.specs.declared.expr.MacroCall.{MacroCall}
use Rattle.em_tree.specs.declared.item.MetaInput.{MetaInput}
use Rattle.em_tree.specs.declared.item.MetaInput.TheVariants as input
use Rattle.em_tree.specs.declared.item.Meta.{Meta}
use Rattle.em_tree.specs.declared.item.Attribute.{Attribute}
use Rattle.em_tree.specs.declared.item.FileAttribute.{FileAttribute}
use Rattle.em_tree.specs.declared.item.VisScope.{VisScope}
use Rattle.em_tree.specs.declared.item.Vis.{Vis}
use Rattle.em_tree.specs.declared.item.SelfParam.{SelfParam}
use Rattle.em_tree.specs.declared.item.Param.{Param}
use Rattle.em_tree.specs.declared.item.Param.TheVariants as param
use Rattle.em_tree.specs.declared.item.Sig.{Sig}
use Rattle.em_tree.specs.declared.item.TraitBody.{TraitBody}
use Rattle.em_tree.specs.declared.item.TraitBody.TheVariants as trait_body
use Rattle.em_tree.specs.declared.item.TraitFn.{TraitFn}
use Rattle.em_tree.specs.declared.item.ImplFn.{ImplFn}
use Rattle.em_tree.specs.declared.item.ImplTrait.{ImplTrait}
use Rattle.em_tree.specs.declared.item.FieldDecl.{FieldDecl}
use Rattle.em_tree.specs.declared.item.TupleDecl.{TupleDecl}
use Rattle.em_tree.specs.declared.item.StructFields.{StructFields}
use Rattle.em_tree.specs.declared.item.StructFields.TheVariants as struct_fields
use Rattle.em_tree.specs.declared.item.VariantField.{VariantField}
use Rattle.em_tree.specs.declared.item.VariantFields.{VariantFields}
use Rattle.em_tree.specs.declared.item.VariantFields.TheVariants as variant_fields
use Rattle.em_tree.specs.declared.item.VariantDecl.{VariantDecl}
use Rattle.em_tree.specs.declared.item.Rename.{Rename}
use Rattle.em_tree.specs.declared.item.UseName.{UseName}
use Rattle.em_tree.specs.declared.item.ItemBody.{ItemBody}
use Rattle.em_tree.specs.declared.item.ItemBody.TheVariants as body
use Rattle.em_tree.specs.declared.item.Item.{Item, out-Item}
use Rattle.em_tree.specs.declared.item.Item.TheOpen.{Item-F}
use Rattle.em_tree.specs.declared.item.FileTree.{FileTree}
use Rattle.em_tree.specs.Parts.{each, meta_parts, param_parts, item_parts}
use Rattle.em_tree.specs.Starts.{kind_of, pieces_of, is_spelled}
use Rattle.em_tree.specs.Tokens.{Is, IsOneOf, Maybe, Each, Commas, Name, IsDelimited, Ends, before_2018}
use Rattle.em_tree.specs.Yields.{piece, whole, as_it_is, opened}
use Rattle.em_tree.specs.PathGrammar.{IsLiteral, AreSegments, TypeWithin, PathWithin, IsType, IsOutput, path_pieces, type_pieces}
use Rattle.em_tree.specs.PatGrammar.{IsPat, pat_pieces}
use Rattle.em_tree.specs.ExprGrammar.{BlockWithin, IsMacro}

abbrev pub item_pieces : Item → List Piece
item_pieces x = item_parts piece whole as_it_is x

abbrev pub file_attribute_pieces : FileAttribute → List Piece
file_attribute_pieces a = piece a.hash ++ (piece a.bang ++ (piece a.open ++ (meta_parts piece whole as_it_is a.meta ++ piece a.close)))

abbrev pub file_pieces : FileTree → List Piece
file_pieces x = each file_attribute_pieces x.attributes ++ each item_pieces x.items

-- ---- attributes and visibility

-- the attributes of the profile
abbrev pub attributes : List (List ℕ)
attributes =
    codes "allow" ∷ codes "warn" ∷ codes "deny" ∷ codes "forbid" ∷ codes "doc" ∷ codes "inline" ∷ codes "must_use" ∷ codes "derive" ∷ codes "macro_use"
    ∷ codes "macro_export" ∷ []

abbrev pub IsInput : MetaInput → Type 0
IsInput input.Nothing = Unit {0}
IsInput (input.List d) = Is (codes "(") d.open × IsDelimited d
IsInput (input.Value equals l) = Is (codes "=") equals × IsLiteral false l

-- (Reference, "Attributes")
abbrev pub IsMeta : Meta → Type 0
IsMeta m = IsOneOf attributes m.name × IsInput m.input

abbrev pub IsAttribute : Attribute → Type 0
IsAttribute a = Is (codes "#") a.hash × Is (codes "[") a.open × IsMeta a.meta × Is (codes "]") a.close

abbrev pub IsFileAttribute : FileAttribute → Type 0
IsFileAttribute a = Is (codes "#") a.hash × Is (codes "!") a.bang × Is (codes "[") a.open × IsMeta a.meta × Is (codes "]") a.close

abbrev pub IsScope : VisScope → Type 0
IsScope s = Is (codes "(") s.open × IsOneOf (codes "crate" ∷ codes "self" ∷ codes "super" ∷ []) s.module × Is (codes ")") s.close

-- (Reference, "Visibility and privacy")
abbrev pub IsVis : Vis → Type 0
IsVis v = Is (codes "pub") v.word × Maybe IsScope v.scope

-- ---- imports

abbrev pub IsRename : Rename → Type 0
IsRename r = Is (codes "as") r.word × Name r.name

-- (Reference, "Use declarations")
abbrev pub IsUseName : UseName → Type 0
IsUseName u = (Name u.name ⊎ Is (codes "self") u.name) × Maybe IsRename u.rename

-- ---- functions

-- a result type, within a depth
unfoldable pub OutputWithin : ℕ → Output → Type 0
OutputWithin zero o = IsOutput (λ owes x. ⊥) (λ owes x. ⊥) false o
OutputWithin (suc depth) o = IsOutput (IsType (suc depth)) (IsType depth) false o

-- `self`, `mut self`, `&self` or `&mut self` (Reference, "Associated items")
abbrev pub IsReceiver : SelfParam → Type 0
IsReceiver r = Maybe (Is (codes "&")) r.amp × Maybe (Is (codes "mut")) r.word_mut × Is (codes "self") r.word

-- the pieces of a receiver that are those of a type too. A fragment is no receiver
abbrev pub is_receiver : List Piece → Bool
is_receiver (p.Token a ∷ []) = is_spelled (codes "self" ∷ []) a
is_receiver (p.Token a ∷ p.Token b ∷ []) = is_spelled (codes "&" ∷ []) a && is_spelled (codes "self" ∷ []) b
is_receiver (p.Token a ∷ p.Token b ∷ p.Token c ∷ []) = is_spelled (codes "&" ∷ []) a && (is_spelled (codes "mut" ∷ []) b && is_spelled (codes "self" ∷ []) c)
is_receiver _ = false

abbrev pub starts_before_2018 : List Token → Bool
starts_before_2018 [] = false
starts_before_2018 (t ∷ ts) = before_2018 t.edition

abbrev pub param_pieces : Param → List Piece
param_pieces x = param_parts piece whole as_it_is x

abbrev pub is_pattern_kind : FragmentKind → Bool
is_pattern_kind f.Pat = true
is_pattern_kind f.PatParam = true
is_pattern_kind _ = false

-- a token, or a fragment of a pattern
abbrev pub can_be_named : Piece → Bool
can_be_named (p.Token t) = true
can_be_named (p.Group g) = is_pattern_kind (kind_of g)

-- pieces of a pattern that is one of these, or `mut` and a token
abbrev pub is_short : List Piece → Bool
is_short (x ∷ []) = can_be_named x
is_short (p.Token a ∷ p.Token b ∷ []) = is_spelled (codes "mut" ∷ []) a
is_short _ = false

-- a parameter. In a trait, where its first token is of 2015, its pattern may lack, and is a short one if it is there (Edition
-- Guide, "Anonymous trait function parameters deprecated"; Reference, "Traits", "Parameter patterns")
abbrev pub IsParam : ℕ → (in_trait : Bool) → Param → Type 0
IsParam depth in_trait (param.Typed pat colon ty) =
    IsPat depth pat × Is (codes ":") colon × TypeWithin depth ty
    × ((in_trait && starts_before_2018 (opened (param_pieces (param.Typed pat colon ty)))) ≡ true → is_short (pat_pieces pat) ≡ true)
IsParam depth in_trait (param.Anonymous ty) = TypeWithin depth ty × ((in_trait && starts_before_2018 (opened (param_pieces (param.Anonymous ty)))) ≡ true)

-- behind a receiver stands a comma, which may lack where no parameter follows
abbrev pub EndsReceiver : Option Token → List (Listed Param) → Type 0
EndsReceiver comma [] = Maybe (Is (codes ",")) comma
EndsReceiver comma (x ∷ params) = (t : Token) × (comma ≡ Some t) × Is (codes ",") t

-- a first parameter that has the form of a receiver is one
abbrev pub IsNoReceiver : List (Listed Param) → Type 0
IsNoReceiver [] = Unit {0}
IsNoReceiver (x ∷ params) = (ty : TypeTree) → x.item ≡ param.Anonymous ty → is_receiver (type_pieces ty) ≡ false

abbrev pub BeginsParams : Option (Listed SelfParam) → List (Listed Param) → Type 0
BeginsParams None params = IsNoReceiver params
BeginsParams (Some r) params = IsReceiver r.item × EndsReceiver r.comma params

-- the head of a function (Reference, "Functions")
pub record IsSig (depth : ℕ) (in_trait : Bool) (s : Sig) : Type 0 where
  pub word : Is (codes "fn") s.word
  pub name : Name s.name
  pub opens : Is (codes "(") s.open
  pub begins : BeginsParams s.receiver s.params
  pub params : Commas (IsParam depth in_trait) s.params
  pub closes : Is (codes ")") s.close
  pub output : OutputWithin depth s.output

abbrev pub IsTraitBody : ℕ → TraitBody → Type 0
IsTraitBody depth (trait_body.Semi semi) = Is (codes ";") semi
IsTraitBody depth (trait_body.Block b) = BlockWithin depth b

abbrev pub IsTraitFn : ℕ → TraitFn → Type 0
IsTraitFn depth x = IsSig depth true x.sig × IsTraitBody depth x.body

abbrev pub IsImplFn : ℕ → ImplFn → Type 0
IsImplFn depth x = Maybe IsVis x.vis × IsSig depth false x.sig × BlockWithin depth x.body

-- the trait of an impl: not the word `dyn` alone, which before `for` is the keyword (Reference, "Weak keywords")
abbrev pub IsImplTrait : ℕ → ImplTrait → Type 0
IsImplTrait depth x = PathWithin depth x.path × Is (codes "for") x.word_for × ((t : Token) → path_pieces x.path ≡ p.Token t ∷ [] → Is (codes "dyn") t → ⊥)

-- ---- structs and enums

abbrev pub IsFieldDecl : ℕ → FieldDecl → Type 0
IsFieldDecl depth x = Maybe IsVis x.vis × Name x.name × Is (codes ":") x.colon × TypeWithin depth x.ty

abbrev pub IsTupleDecl : ℕ → TupleDecl → Type 0
IsTupleDecl depth x = Maybe IsVis x.vis × TypeWithin depth x.ty

abbrev pub AreStructFields : ℕ → StructFields → Type 0
AreStructFields depth (struct_fields.Unit semi) = Is (codes ";") semi
AreStructFields depth (struct_fields.Named open' fields close) = Is (codes "{") open' × Commas (IsFieldDecl depth) fields × Is (codes "}") close
AreStructFields depth (struct_fields.Tuple open' fields close semi) = Is (codes "(") open' × Commas (IsTupleDecl depth) fields × Is (codes ")") close × Is (codes ";") semi

abbrev pub IsVariantField : ℕ → VariantField → Type 0
IsVariantField depth x = Name x.name × Is (codes ":") x.colon × TypeWithin depth x.ty

abbrev pub AreVariantFields : ℕ → VariantFields → Type 0
AreVariantFields depth variant_fields.Unit = Unit {0}
AreVariantFields depth (variant_fields.Tuple open' fields close) = Is (codes "(") open' × Commas (TypeWithin depth) fields × Is (codes ")") close
AreVariantFields depth (variant_fields.Named open' fields close) = Is (codes "{") open' × Commas (IsVariantField depth) fields × Is (codes "}") close

abbrev pub IsVariant : ℕ → VariantDecl → Type 0
IsVariant depth x = Name x.name × AreVariantFields depth x.fields

-- ---- items

-- what an item is without its attributes and its visibility, over the items inside
abbrev pub IsItemBody : ℕ → (Item → Type 0) → ItemBody Item → Type 0
IsItemBody depth Inner (body.ExternCrate word word_crate name rename semi) =
    Is (codes "extern") word × Is (codes "crate") word_crate × Name name × Maybe IsRename rename × Is (codes ";") semi
IsItemBody depth Inner (body.Use word path rename semi) = Is (codes "use") word × AreSegments path × Maybe IsRename rename × Is (codes ";") semi
IsItemBody depth Inner (body.UseList word path separator open' names close semi) =
    Is (codes "use") word × AreSegments path × Is (codes "::") separator × Is (codes "{") open' × Commas IsUseName names × Is (codes "}") close × Is (codes ";") semi
IsItemBody depth Inner (body.ModFile word name semi) = Is (codes "mod") word × Name name × Is (codes ";") semi
IsItemBody depth Inner (body.ModBlock word name open' items close) = Is (codes "mod") word × Name name × Is (codes "{") open' × Each Inner items × Is (codes "}") close
IsItemBody depth Inner (body.Fn sig b) = IsSig depth false sig × BlockWithin depth b
IsItemBody depth Inner (body.Struct word name fields) = Is (codes "struct") word × Name name × AreStructFields depth fields
IsItemBody depth Inner (body.Enum word name open' variants close) = Is (codes "enum") word × Name name × Is (codes "{") open' × Commas (IsVariant depth) variants × Is (codes "}") close
IsItemBody depth Inner (body.Trait word name open' functions close) = Is (codes "trait") word × Name name × Is (codes "{") open' × Each (IsTraitFn depth) functions × Is (codes "}") close
IsItemBody depth Inner (body.Impl word of_trait self_type open' functions close) =
    Is (codes "impl") word × Maybe (IsImplTrait depth) of_trait × TypeWithin depth self_type × Is (codes "{") open' × Each (IsImplFn depth) functions × Is (codes "}") close
IsItemBody depth Inner (body.Const word name colon ty equals value semi) =
    Is (codes "const") word × Name name × Is (codes ":") colon × TypeWithin depth ty × Is (codes "=") equals × IsLiteral true value × Is (codes ";") semi
IsItemBody depth Inner (body.Rules word bang name text semi) = Is (codes "macro_rules") word × Is (codes "!") bang × Name name × IsDelimited text × Ends text semi
IsItemBody depth Inner (body.Macro call semi) = IsMacro call × Ends call.text semi

-- one node
pub data ItemNode (depth : ℕ) (Inner : Item → Type 0) : Item → Type 0 where
  plain : {x : Item} {attrs : List Attribute} {vis : Option Vis} {b : ItemBody Item} → out-Item x ≡ Item-F.Plain attrs vis b
      → Each IsAttribute attrs → Maybe IsVis vis → IsItemBody depth Inner b → ItemNode depth Inner x
  group : {x y : Item} {g : Group} → out-Item x ≡ Item-F.Group g y → kind_of g ≡ f.Item → pieces_of g ≡ item_pieces y → ItemNode depth Inner y → ItemNode depth Inner x

-- the items that nest no deeper than the number
unfoldable pub IsItem : ℕ → Item → Type 0
IsItem zero x = ⊥
IsItem (suc depth) x = ItemNode depth (IsItem depth) x

-- the files whose items nest no deeper than the number
abbrev pub IsFile : ℕ → FileTree → Type 0
IsFile depth x = Each IsFileAttribute x.attributes × Each (IsItem depth) x.items
