-- Attributes, visibilities, imports and macros as items are read.
use Rattle.std.proofs.Common.{◌≡◌, ℕ, true, false, [], ◌∷◌, Option, Some, None, refl, sym, ◌∙◌, subst, inl, inr}
use Rattle.std.specs.Prelude.{codes}
use Rattle.em_base.specs.declared.token.Token.{Token}
use Rattle.em_tree.specs.declared.item.MetaInput.{MetaInput}
use Rattle.em_tree.specs.declared.item.MetaInput.TheVariants as input
use Rattle.em_tree.specs.declared.item.Meta.{Meta}
use Rattle.em_tree.specs.declared.item.Attribute.{Attribute}
use Rattle.em_tree.specs.declared.item.FileAttribute.{FileAttribute}
use Rattle.em_tree.specs.declared.item.VisScope.{VisScope}
use Rattle.em_tree.specs.declared.item.Vis.{Vis}
use Rattle.em_tree.specs.declared.item.Rename.{Rename}
use Rattle.em_tree.specs.declared.item.UseName.{UseName}
use Rattle.em_tree.specs.Parts.{maybe, meta_input_parts, meta_parts, attribute_parts, vis_scope_parts, vis_parts, rename_parts, use_name_parts}
use Rattle.em_tree.specs.Starts.{Pieces}
use Rattle.em_tree.specs.Tokens.{Is, IsOneOf, IsDelimited}
use Rattle.em_tree.specs.Yields.{piece, whole, as_it_is}
use Rattle.em_tree.specs.PathGrammar.{IsLiteral}
use Rattle.em_tree.specs.ItemGrammar.{attributes, IsInput, IsMeta, IsAttribute, IsFileAttribute, file_attribute_pieces, IsScope, IsVis}
use Rattle.em_grammar.specs.declared.sort.Written.TheVariants as word
use Rattle.em_grammar.specs.Sets.{Set, subset, tokens, anything, others, either, both, Nested}
use Rattle.em_grammar.specs.Lang.{Seq, Opt, Image, Or}
use Rattle.em_grammar.specs.TextReader.{delimited, delimited_pieces}
use Rattle.em_grammar.specs.ItemReader.{at, starting, parens_of, value_of, input_of, meta_input, is_attribute, meta_of, meta, attribute_of, attribute, file_attribute_of, file_attribute, scopes, scope_of, scope, vis_of, vis}
use Rattle.em_grammar.specs.Pairs.{Pair, Part, Test, Begins}
use Rattle.em_grammar.proofs.Pairs.{tok, seq_of, seq_part, opt_of, opt_clear}
use Rattle.em_grammar.proofs.Forms.{image_of, image_part, or_of, same_of}
use Rattle.em_grammar.proofs.Tests.{sign, several}
use Rattle.em_grammar.proofs.LiteralPairs.{literal_reads}
use Rattle.em_grammar.proofs.TextPairs.{delimited_pair}
use Rattle.em_grammar.proofs.ItemTools.{starting_of, part_same, flat3, flat4, flat5, nest3, nest4, nest5}

abbrev pub input_pieces : MetaInput → Pieces
input_pieces x = meta_input_parts piece whole as_it_is x

abbrev pub meta_pieces : Meta → Pieces
meta_pieces x = meta_parts piece whole as_it_is x

abbrev pub attribute_pieces : Attribute → Pieces
attribute_pieces x = attribute_parts piece whole as_it_is x

abbrev pub scope_pieces : VisScope → Pieces
scope_pieces x = vis_scope_parts piece whole as_it_is x

abbrev pub vis_pieces : Vis → Pieces
vis_pieces x = vis_parts piece whole as_it_is x

abbrev pub rename_pieces : Rename → Pieces
rename_pieces x = rename_parts piece whole as_it_is x

abbrev pub use_name_pieces : UseName → Pieces
use_name_pieces x = use_name_parts piece whole as_it_is x

-- ---- attributes

-- the name of an attribute may have any sort
attribute_test : Test (IsOneOf attributes) is_attribute (λ s. true)
attribute_test = record { holds = λ t h. h; told = λ t h. h; sorted = λ t h. refl }

abbrev ParensSide : ℕ → MetaInput → Type 0
ParensSide = Image parens_of (λ d x. IsDelimited x × Begins (at word.OpenParen) (delimited_pieces x))

abbrev ValueSide : ℕ → MetaInput → Type 0
ValueSide = Image value_of (Seq (λ d. Is (codes "=")) (λ d. IsLiteral false))

to_input : (d : ℕ) (x : MetaInput) → Image input_of (Opt (Or ParensSide ValueSide)) d x → IsInput x
to_input d x (None, m, eq) = subst (λ x. IsInput x) (sym eq) tt
to_input d x (Some y, inl m, eq) = subst (λ x. IsInput x) (sym (eq ∙ m.2)) ((sign word.OpenParen).holds m.0.open m.1.1, m.1.0)
to_input d x (Some y, inr m, eq) = subst (λ x. IsInput x) (sym (eq ∙ m.2)) m.1

of_input : (d : ℕ) (x : MetaInput) → IsInput x → Image input_of (Opt (Or ParensSide ValueSide)) d x
of_input d input.Nothing m = (None, tt, refl)
of_input d (input.List x) m = (Some (input.List x), inl (x, (m.1, (sign word.OpenParen).sorted x.open m.0), refl), refl)
of_input d (input.Value equals l) m = (Some (input.Value equals l), inr ((equals, l), m, refl), refl)

to_meta : (d : ℕ) (x : Meta) → Image meta_of (Seq (λ d. IsOneOf attributes) (λ d. IsInput)) d x → IsMeta x
to_meta d x m = subst (λ x. IsMeta x) (sym m.2) m.1

to_attribute : (d : ℕ) (x : Attribute) → Image attribute_of (Seq (λ d. Is (codes "#")) (Seq (λ d. Is (codes "[")) (Seq (λ d. IsMeta) (λ d. Is (codes "]"))))) d x → IsAttribute x
to_attribute d x m = subst (λ x. IsAttribute x) (sym m.2) (flat4 m.1)

to_file_attribute : (d : ℕ) (x : FileAttribute)
    → Image file_attribute_of (Seq (λ d. Is (codes "#")) (Seq (λ d. Is (codes "!")) (Seq (λ d. Is (codes "[")) (Seq (λ d. IsMeta) (λ d. Is (codes "]")))))) d x → IsFileAttribute x
to_file_attribute d x m = subst (λ x. IsFileAttribute x) (sym m.2) (flat5 m.1)

abbrev input_first : Set
input_first = either (at word.OpenParen) (at word.Eq)

module _ (n depth : ℕ) where
  parens_pair : Pair (Nested n) depth (λ d x. IsDelimited x × Begins (at word.OpenParen) (delimited_pieces x)) delimited_pieces (starting (at word.OpenParen) delimited) (at word.OpenParen) (λ _. anything)
  parens_pair = starting_of (at word.OpenParen) (λ d t m is. cc) (delimited_pair (Nested n) depth)

  input_part : Part (Nested n) depth (λ d. IsInput) input_pieces (meta_input n) input_first (λ _. others input_first)
  input_part =
      part_same to_input of_input
      (image_part input_of input_pieces same inc
      (opt_of (or_of (image_of parens_of input_pieces (λ d t m. refl) (λ _. refl) parens_pair)
      (image_of value_of input_pieces (λ d t m. refl) (λ _. refl) (seq_of (tok (sign word.Eq)) (literal_reads false n depth) (λ _. refl))) refl)))
    where
      same : (d : ℕ) (t : Option MetaInput) → Opt (Or ParensSide ValueSide) d t → input_pieces (input_of t) ≡ maybe input_pieces t
      same d None m = refl
      same d (Some x) m = refl

      inc : (t : Option MetaInput) → subset (others input_first) (opt_clear input_first (λ _. anything) t) ≡ true
      inc None = refl
      inc (Some x) = refl

  meta_pair : Pair (Nested n) depth (λ d. IsMeta) meta_pieces (meta n) (tokens (λ s. true)) (λ _. others input_first)
  meta_pair =
      same_of to_meta (λ d x m. ((x.name, x.input), m, refl))
      (image_of meta_of meta_pieces (λ d t m. refl) (λ _. refl) (seq_part (tok attribute_test) input_part (λ _. refl)))

  pub attribute_pair : Pair (Nested n) depth (λ d. IsAttribute) attribute_pieces (attribute n) (at word.Pound) (λ _. anything)
  attribute_pair =
      same_of to_attribute (λ d x m. ((x.hash, (x.open, (x.meta, x.close))), nest4 m, refl))
      (image_of attribute_of attribute_pieces (λ d t m. refl) (λ _. refl)
      (seq_of (tok (sign word.Pound)) (seq_of (tok (sign word.OpenBracket)) (seq_of meta_pair (tok (sign word.CloseBracket)) (λ _. refl)) (λ _. refl)) (λ _. refl)))

  pub file_attribute_pair : Pair (Nested n) depth (λ d. IsFileAttribute) file_attribute_pieces (file_attribute n) (at word.Pound) (λ _. anything)
  file_attribute_pair =
      same_of to_file_attribute (λ d x m. ((x.hash, (x.bang, (x.open, (x.meta, x.close)))), nest5 m, refl))
      (image_of file_attribute_of file_attribute_pieces (λ d t m. refl) (λ _. refl)
      (seq_of (tok (sign word.Pound)) (seq_of (tok (sign word.Not)) (seq_of (tok (sign word.OpenBracket)) (seq_of meta_pair (tok (sign word.CloseBracket)) (λ _. refl)) (λ _. refl)) (λ _. refl)) (λ _. refl)))

-- ---- visibility

to_scope : (d : ℕ) (x : VisScope) → Image scope_of (Seq (λ d. Is (codes "(")) (Seq (λ d. IsOneOf (codes "crate" ∷ codes "self" ∷ codes "super" ∷ [])) (λ d. Is (codes ")")))) d x → IsScope x
to_scope d x m = subst (λ x. IsScope x) (sym m.2) (flat3 m.1)

to_vis : (d : ℕ) (x : Vis) → Image vis_of (Seq (λ d. Is (codes "pub")) (Opt (λ d. IsScope))) d x → IsVis x
to_vis d x m = subst (λ x. IsVis x) (sym m.2) m.1

-- a `(` behind `pub` belongs to it
abbrev pub vis_clear : Set
vis_clear = others (at word.OpenParen)

module _ (H : Pieces → Type 0) (depth : ℕ) where
  pub scope_pair : Pair H depth (λ d. IsScope) scope_pieces scope (at word.OpenParen) (λ _. anything)
  scope_pair =
      same_of to_scope (λ d x m. ((x.open, (x.«module», x.close)), nest3 m, refl))
      (image_of scope_of scope_pieces (λ d t m. refl) (λ _. refl)
      (seq_of (tok (sign word.OpenParen)) (seq_of (tok (several scopes)) (tok (sign word.CloseParen)) (λ _. refl)) (λ _. refl)))

  pub vis_pair : Pair H depth (λ d. IsVis) vis_pieces vis (at word.Pub) (λ _. vis_clear)
  vis_pair =
      same_of to_vis (λ d x m. ((x.word, x.scope), m, refl))
      (image_of vis_of vis_pieces (λ d t m. refl) inc (seq_part (tok (sign word.Pub)) (opt_of scope_pair) (λ _. refl)))
    where
      inc : (t : Token × Option VisScope) → subset vis_clear (both anything (opt_clear (at word.OpenParen) (λ _. anything) t.1)) ≡ true
      inc (w, None) = refl
      inc (w, Some s) = refl
