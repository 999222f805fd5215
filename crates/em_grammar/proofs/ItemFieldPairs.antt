-- Constants, structs and enums are read.
use Rattle.std.proofs.Common.{◌≡◌, ℕ, ◌≤◌, true, ◌++◌, Option, Some, None, refl, sym, ◌∙◌, ap, subst, arith, inl, inr}
use Rattle.std.specs.Prelude.{codes}
use Rattle.em_base.specs.declared.token.Token.{Token}
use Rattle.em_tree.specs.declared.types.TypeTree.{TypeTree}
use Rattle.em_tree.specs.declared.item.VisScope.{VisScope}
use Rattle.em_tree.specs.declared.item.Vis.{Vis}
use Rattle.em_tree.specs.declared.item.FieldDecl.{FieldDecl}
use Rattle.em_tree.specs.declared.item.TupleDecl.{TupleDecl}
use Rattle.em_tree.specs.declared.item.StructFields.{StructFields}
use Rattle.em_tree.specs.declared.item.StructFields.TheVariants as struct_fields
use Rattle.em_tree.specs.declared.item.VariantField.{VariantField}
use Rattle.em_tree.specs.declared.item.VariantFields.{VariantFields}
use Rattle.em_tree.specs.declared.item.VariantFields.TheVariants as variant_fields
use Rattle.em_tree.specs.declared.item.VariantDecl.{VariantDecl}
use Rattle.em_tree.specs.Parts.{maybe, field_decl_parts, tuple_decl_parts, struct_fields_parts, variant_field_parts, variant_fields_parts, variant_decl_parts}
use Rattle.em_tree.specs.Starts.{Pieces}
use Rattle.em_tree.specs.Tokens.{Is, Name, Maybe}
use Rattle.em_tree.specs.Yields.{piece, whole, as_it_is}
use Rattle.em_tree.specs.PathGrammar.{IsLiteral, TypeWithin, type_pieces}
use Rattle.em_tree.specs.ItemGrammar.{IsScope, IsVis, IsFieldDecl, IsTupleDecl, AreStructFields, IsVariantField, AreVariantFields, IsVariant}
use Rattle.em_grammar.specs.declared.sort.Written.TheVariants as word
use Rattle.em_grammar.specs.Sets.{Set, next, subset, tokens, others, either, only, name_sort, is_sign, Inside, Nested}
use Rattle.em_grammar.specs.Lang.{Seq, Opt, Lists, Image, Or}
use Rattle.em_grammar.specs.Reader.{Read, Found, Absent, and_then, or_stay, opt}
use Rattle.em_grammar.specs.TypeReader.{type_first, type_clear}
use Rattle.em_grammar.specs.ItemReader as read
use Rattle.em_grammar.specs.ItemReader.{at, mark, vis_of, vis, scope, const_of, field_of, tuple_field_of, unit_of, named_of, tuple_of, struct_of, variant_field_of, tuple_variant_of, named_variant_of, variant_fields_of, variant_of, enum_of}
use Rattle.em_grammar.specs.Pairs.{Pair, Part}
use Rattle.em_grammar.proofs.Pairs.{tok, seq_of, seq_part, part_seq, opt_of, may_opt, opt_clear, in_subset, begins_next, always, inside_right, whole_token}
use Rattle.em_grammar.proofs.Lists.{commas_of}
use Rattle.em_grammar.proofs.Forms.{image_of, image_part, or_of, same_of}
use Rattle.em_grammar.proofs.Tests as test
use Rattle.em_grammar.proofs.Tests.{sign}
use Rattle.em_grammar.proofs.LiteralPairs.{literal_reads}
use Rattle.em_grammar.proofs.ItemTools.{Ahead, ahead_seq, part_same, flat3, flat4, nest3, nest4}
use Rattle.em_grammar.proofs.ItemPartPairs.{scope_pieces, vis_pieces, scope_pair, vis_pair, vis_clear}
use Rattle.em_grammar.proofs.ItemUsePairs.{body_pieces, free}

abbrev field_pieces : FieldDecl → Pieces
field_pieces x = field_decl_parts piece whole as_it_is x

abbrev tuple_field_pieces : TupleDecl → Pieces
tuple_field_pieces x = tuple_decl_parts piece whole as_it_is x

abbrev fields_pieces : StructFields → Pieces
fields_pieces x = struct_fields_parts piece whole as_it_is x

abbrev variant_field_pieces : VariantField → Pieces
variant_field_pieces x = variant_field_parts piece whole as_it_is x

abbrev variant_body_pieces : VariantFields → Pieces
variant_body_pieces x = variant_fields_parts piece whole as_it_is x

abbrev variant_pieces : VariantDecl → Pieces
variant_pieces x = variant_decl_parts piece whole as_it_is x

-- ---- a visibility before a type

-- a `(` behind `pub` is the type's, where no module stands in it
abbrev VisEnds : Option Vis → Pieces → Type 0
VisEnds None r = next (others (at word.Pub)) r ≡ true
VisEnds (Some v) r = v.scope ≡ None → scope r ≡ Absent

module _ (H : Pieces → Type 0) (depth : ℕ) where
  vis_part : Part H depth (Opt (λ d. IsVis)) (maybe vis_pieces) (opt vis) (at word.Pub) (opt_clear (at word.Pub) (λ _. vis_clear))
  vis_part = opt_of (vis_pair H depth)

  vis_ahead : Ahead H depth (Opt (λ d. IsVis)) (maybe vis_pieces) (opt vis) (at word.Pub) VisEnds
  vis_ahead = record {
    grows = vis_part.grows;
    sound = vis_part.sound;
    begins = vis_part.begins;
    whole = whole_vis;
    idle = λ i h. inr (vis_part.idle i h);
  }
    where
      scoped : (w : Token) (s : Option VisScope) (r : Pieces) → Inside H (maybe scope_pieces s) → Is (codes "pub") w → Maybe IsScope s → (s ≡ None → scope r ≡ Absent)
          → vis ((piece w ++ maybe scope_pieces s) ++ r) ≡ Found (vis_of (w, s)) r
      scoped w None r i is m k =
          ap (λ q. and_then (and_then q (λ x j. and_then (opt scope j) (λ u s. Found (x, u) s))) (λ t s. Found (vis_of t) s)) (whole_token (Is (codes "pub")) (is_sign word.Pub) (only word.Pub) (sign word.Pub) w r is)
          ∙ ap (λ q. and_then (and_then (or_stay q (λ a r. Found (Some a) r) (Found None r)) (λ u s. Found (w, u) s)) (λ t s. Found (vis_of t) s)) (k refl)
      scoped w (Some s) r i is m k =
          ap (λ q. and_then (and_then q (λ x j. and_then (opt scope j) (λ u s. Found (x, u) s))) (λ t s. Found (vis_of t) s))
          (whole_token (Is (codes "pub")) (is_sign word.Pub) (only word.Pub) (sign word.Pub) w (scope_pieces s ++ r) is)
          ∙ ap (λ q. and_then (and_then (or_stay q (λ a r. Found (Some a) r) (Found None (scope_pieces s ++ r))) (λ u s. Found (w, u) s)) (λ t s. Found (vis_of t) s))
          ((scope_pair H 0).whole 0 s r (omega arith) i m (always r))

      whole_vis : (d : ℕ) (v : Option Vis) (r : Pieces) → d ≤ depth → Inside H (maybe vis_pieces v) → Opt (λ d. IsVis) d v → VisEnds v r → opt vis (maybe vis_pieces v ++ r) ≡ Found v r
      whole_vis d None r h w m e = vis_part.whole d None r h w m e
      whole_vis d (Some v) r h w m e =
          ap (λ q. or_stay q (λ a r. Found (Some a) r) (Found None (vis_pieces v ++ r)))
          (scoped v.word v.scope r (inside_right H (piece v.word) (maybe scope_pieces v.scope) w) m.0 m.1 e)

module _ (n depth : ℕ) (ty : Pieces → Read TypeTree) (types : Pair (Nested n) depth TypeWithin type_pieces ty type_first (λ _. type_clear))
    (no_scope : (d : ℕ) (x : TypeTree) (r : Pieces) → d ≤ depth → TypeWithin d x → scope (type_pieces x ++ r) ≡ Absent) where
  pub const_pair : Pair (Nested n) depth
      (Image const_of (Seq (λ d. Is (codes "const")) (Seq (λ d. Name) (Seq (λ d. Is (codes ":")) (Seq TypeWithin (Seq (λ d. Is (codes "=")) (Seq (λ d. IsLiteral true) (λ d. Is (codes ";")))))))))
      body_pieces (read.const_item ty n) (at word.Const) free
  const_pair =
      image_of const_of body_pieces (λ d t m. refl) (λ _. refl)
      (seq_of (tok (sign word.Const)) (seq_of (tok test.name) (seq_of (tok (sign word.Colon)) (seq_of types (seq_of (tok (sign word.Eq))
      (seq_of (literal_reads true n depth) (tok (sign word.Semi)) (λ _. refl)) (λ _. refl)) (λ _. refl)) (λ _. refl)) (λ _. refl)) (λ _. refl))

  -- ---- structs

  to_field : (d : ℕ) (x : FieldDecl) → Image field_of (Seq (Opt (λ d. IsVis)) (Seq (λ d. Name) (Seq (λ d. Is (codes ":")) TypeWithin))) d x → IsFieldDecl d x
  to_field d x m = subst (λ x. IsFieldDecl d x) (sym m.2) (flat4 m.1)

  to_tuple_field : (d : ℕ) (x : TupleDecl) → Image tuple_field_of (Seq (Opt (λ d. IsVis)) TypeWithin) d x → IsTupleDecl d x
  to_tuple_field d x m = subst (λ x. IsTupleDecl d x) (sym m.2) m.1

  field_pair : Pair (Nested n) depth IsFieldDecl field_pieces (read.field ty) (either (at word.Pub) (tokens name_sort)) (λ _. type_clear)
  field_pair =
      same_of to_field (λ d x m. ((x.vis, (x.name, (x.colon, x.ty))), nest4 m, refl))
      (image_of field_of field_pieces (λ d t m. refl) (λ _. refl)
      (part_seq (vis_part (Nested n) depth) (seq_of (tok test.name) (seq_of (tok (sign word.Colon)) types (λ _. refl)) (λ _. refl))
      (may_opt (tokens name_sort) (at word.Pub) (λ _. vis_clear) refl (λ _. refl))))

  tuple_field_pair : Pair (Nested n) depth IsTupleDecl tuple_field_pieces (read.tuple_field ty) (either (at word.Pub) type_first) (λ _. type_clear)
  tuple_field_pair =
      same_of to_tuple_field (λ d x m. ((x.vis, x.ty), m, refl))
      (image_of tuple_field_of tuple_field_pieces (λ d t m. refl) (λ _. refl) (ahead_seq (vis_ahead (Nested n) depth) types ends))
    where
      ends : (d : ℕ) (v : Option Vis) (x : TypeTree) (r : Pieces) → d ≤ depth → Opt (λ d. IsVis) d v → TypeWithin d x → VisEnds v (type_pieces x ++ r)
      ends d None x r h m k = in_subset type_first (others (at word.Pub)) refl (type_pieces x ++ r) (begins_next type_first (type_pieces x) r (types.begins d x h k))
      ends d (Some v) x r h m k = λ e. no_scope d x r h k

  abbrev UnitSide : ℕ → StructFields → Type 0
  UnitSide = Image unit_of (λ d. Is (codes ";"))

  abbrev NamedSide : ℕ → StructFields → Type 0
  NamedSide = Image named_of (Seq (λ d. Is (codes "{")) (Seq (Lists IsFieldDecl) (λ d. Is (codes "}"))))

  abbrev TupleSide : ℕ → StructFields → Type 0
  TupleSide = Image tuple_of (Seq (λ d. Is (codes "(")) (Seq (Lists IsTupleDecl) (Seq (λ d. Is (codes ")")) (λ d. Is (codes ";")))))

  to_fields : (d : ℕ) (x : StructFields) → Or UnitSide (Or NamedSide TupleSide) d x → AreStructFields d x
  to_fields d x (inl m) = subst (λ x. AreStructFields d x) (sym m.2) m.1
  to_fields d x (inr (inl m)) = subst (λ x. AreStructFields d x) (sym m.2) (flat3 m.1)
  to_fields d x (inr (inr m)) = subst (λ x. AreStructFields d x) (sym m.2) (flat4 m.1)

  of_fields : (d : ℕ) (x : StructFields) → AreStructFields d x → Or UnitSide (Or NamedSide TupleSide) d x
  of_fields d (struct_fields.Unit semi) m = inl (semi, m, refl)
  of_fields d (struct_fields.Named o fs c) m = inr (inl ((o, (fs, c)), nest3 m, refl))
  of_fields d (struct_fields.Tuple o fs c semi) m = inr (inr ((o, (fs, (c, semi))), nest4 m, refl))

  fields_pair : Pair (Nested n) depth AreStructFields fields_pieces (read.fields ty) (either (at word.Semi) (either (at word.OpenBrace) (at word.OpenParen))) free
  fields_pair =
      same_of to_fields of_fields
      (or_of (image_of unit_of fields_pieces (λ d t m. refl) (λ _. refl) (tok (sign word.Semi)))
      (or_of (image_of named_of fields_pieces (λ d t m. refl) (λ _. refl)
      (seq_of (tok (sign word.OpenBrace)) (part_seq (commas_of (sign word.Comma) field_pair refl refl) (tok (sign word.CloseBrace)) (λ _. refl)) (λ _. refl)))
      (image_of tuple_of fields_pieces (λ d t m. refl) (λ _. refl)
      (seq_of (tok (sign word.OpenParen)) (part_seq (commas_of (sign word.Comma) tuple_field_pair refl refl)
      (seq_of (tok (sign word.CloseParen)) (tok (sign word.Semi)) (λ _. refl)) (λ _. refl)) (λ _. refl))) refl) refl)

  pub struct_pair : Pair (Nested n) depth (Image struct_of (Seq (λ d. Is (codes "struct")) (Seq (λ d. Name) AreStructFields))) body_pieces (read.struct_item ty) (at word.Struct) free
  struct_pair = image_of struct_of body_pieces (λ d t m. refl) (λ _. refl) (seq_of (tok (sign word.Struct)) (seq_of (tok test.name) fields_pair (λ _. refl)) (λ _. refl))

  -- ---- enums

  to_variant_field : (d : ℕ) (x : VariantField) → Image variant_field_of (Seq (λ d. Name) (Seq (λ d. Is (codes ":")) TypeWithin)) d x → IsVariantField d x
  to_variant_field d x m = subst (λ x. IsVariantField d x) (sym m.2) (flat3 m.1)

  variant_field_pair : Pair (Nested n) depth IsVariantField variant_field_pieces (read.variant_field ty) (tokens name_sort) (λ _. type_clear)
  variant_field_pair =
      same_of to_variant_field (λ d x m. ((x.name, (x.colon, x.ty)), nest3 m, refl))
      (image_of variant_field_of variant_field_pieces (λ d t m. refl) (λ _. refl) (seq_of (tok test.name) (seq_of (tok (sign word.Colon)) types (λ _. refl)) (λ _. refl)))

  abbrev TupleVariant : ℕ → VariantFields → Type 0
  TupleVariant = Image tuple_variant_of (Seq (λ d. Is (codes "(")) (Seq (Lists TypeWithin) (λ d. Is (codes ")"))))

  abbrev NamedVariant : ℕ → VariantFields → Type 0
  NamedVariant = Image named_variant_of (Seq (λ d. Is (codes "{")) (Seq (Lists IsVariantField) (λ d. Is (codes "}"))))

  to_variant_body : (d : ℕ) (x : VariantFields) → Image variant_fields_of (Opt (Or TupleVariant NamedVariant)) d x → AreVariantFields d x
  to_variant_body d x (None, m, eq) = subst (λ x. AreVariantFields d x) (sym eq) tt
  to_variant_body d x (Some y, inl m, eq) = subst (λ x. AreVariantFields d x) (sym (eq ∙ m.2)) (flat3 m.1)
  to_variant_body d x (Some y, inr m, eq) = subst (λ x. AreVariantFields d x) (sym (eq ∙ m.2)) (flat3 m.1)

  of_variant_body : (d : ℕ) (x : VariantFields) → AreVariantFields d x → Image variant_fields_of (Opt (Or TupleVariant NamedVariant)) d x
  of_variant_body d variant_fields.Unit m = (None, tt, refl)
  of_variant_body d (variant_fields.Tuple o fs c) m = (Some (variant_fields.Tuple o fs c), inl ((o, (fs, c)), nest3 m, refl), refl)
  of_variant_body d (variant_fields.Named o fs c) m = (Some (variant_fields.Named o fs c), inr ((o, (fs, c)), nest3 m, refl), refl)

  abbrev variant_first : Set
  variant_first = either (at word.OpenParen) (at word.OpenBrace)

  variant_body_part : Part (Nested n) depth AreVariantFields variant_body_pieces (read.variant_body ty) variant_first (λ _. others variant_first)
  variant_body_part =
      part_same to_variant_body of_variant_body
      (image_part variant_fields_of variant_body_pieces same inc
      (opt_of (or_of (image_of tuple_variant_of variant_body_pieces (λ d t m. refl) (λ _. refl)
      (seq_of (tok (sign word.OpenParen)) (part_seq (commas_of (sign word.Comma) types refl refl) (tok (sign word.CloseParen)) (λ _. refl)) (λ _. refl)))
      (image_of named_variant_of variant_body_pieces (λ d t m. refl) (λ _. refl)
      (seq_of (tok (sign word.OpenBrace)) (part_seq (commas_of (sign word.Comma) variant_field_pair refl refl) (tok (sign word.CloseBrace)) (λ _. refl)) (λ _. refl))) refl)))
    where
      same : (d : ℕ) (t : Option VariantFields) → Opt (Or TupleVariant NamedVariant) d t → variant_body_pieces (variant_fields_of t) ≡ maybe variant_body_pieces t
      same d None m = refl
      same d (Some x) m = refl

      inc : (t : Option VariantFields) → subset (others variant_first) (opt_clear variant_first free t) ≡ true
      inc None = refl
      inc (Some x) = refl

  to_variant : (d : ℕ) (x : VariantDecl) → Image variant_of (Seq (λ d. Name) AreVariantFields) d x → IsVariant d x
  to_variant d x m = subst (λ x. IsVariant d x) (sym m.2) m.1

  variant_pair : Pair (Nested n) depth IsVariant variant_pieces (read.variant ty) (tokens name_sort) (λ _. others variant_first)
  variant_pair =
      same_of to_variant (λ d x m. ((x.name, x.fields), m, refl))
      (image_of variant_of variant_pieces (λ d t m. refl) (λ _. refl) (seq_part (tok test.name) variant_body_part (λ _. refl)))

  pub enum_pair : Pair (Nested n) depth (Image enum_of (Seq (λ d. Is (codes "enum")) (Seq (λ d. Name) (Seq (λ d. Is (codes "{")) (Seq (Lists IsVariant) (λ d. Is (codes "}")))))))
      body_pieces (read.enum_item ty) (at word.Enum) free
  enum_pair =
      image_of enum_of body_pieces (λ d t m. refl) (λ _. refl)
      (seq_of (tok (sign word.Enum)) (seq_of (tok test.name) (seq_of (tok (sign word.OpenBrace)) (part_seq (commas_of (sign word.Comma) variant_pair refl refl) (tok (sign word.CloseBrace)) (λ _. refl)) (λ _. refl)) (λ _. refl)) (λ _. refl))
