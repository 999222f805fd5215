-- The forms that an expression may begin with are read, but for `if`, `match` and loops.
use Rattle.std.proofs.lemmas.List.{append-nil}
use Rattle.std.proofs.Common.{◌≡◌, ℕ, Bool, true, false, not, ◌&&◌, ◌||◌, List, [], ◌∷◌, ◌++◌, Option, Some, None, refl, sym, ◌∙◌, ap, subst, arith, inl, inr}
use Rattle.std.specs.Prelude.{codes}
use Rattle.em_base.specs.declared.token.Token.{Token}
use Rattle.em_tree.specs.declared.parts.Listed.{Listed}
use Rattle.em_tree.specs.declared.literal.Literal.{Literal}
use Rattle.em_tree.specs.declared.types.Path.{Path}
use Rattle.em_tree.specs.declared.types.TypeTree.{TypeTree}
use Rattle.em_tree.specs.declared.pat.Pat.{Pat}
use Rattle.em_tree.specs.declared.expr.ClosureParam.{ClosureParam}
use Rattle.em_tree.specs.declared.expr.ClosureHead.{ClosureHead}
use Rattle.em_tree.specs.declared.expr.ClosureHead.TheVariants as head
use Rattle.em_tree.specs.declared.expr.Expr.{Expr}
use Rattle.em_tree.specs.declared.expr.Expr.TheVariants as made
use Rattle.em_tree.specs.declared.expr.Expr.TheOpen.{Expr-F}
use Rattle.em_tree.specs.Starts.{Pieces}
use Rattle.em_tree.specs.Parts.{each, maybe, closure_head_parts, closure_param_parts}
use Rattle.em_tree.specs.Tokens.{Is, IsLiteralToken}
use Rattle.em_tree.specs.Yields.{piece, whole, as_it_is}
use Rattle.em_tree.specs.PathGrammar.{IsLiteral, TypeWithin, literal_pieces, path_pieces, type_pieces}
use Rattle.em_tree.specs.PatGrammar.{IsPat, pat_pieces}
use Rattle.em_tree.specs.ExprGrammar.{IsExpr, IsBlock, expr_pieces, block_pieces}
use Rattle.em_tree.specs.ExprShape.{ends_open, ends_bare}
use Rattle.em_grammar.specs.declared.sort.Written.TheVariants as word
use Rattle.em_grammar.specs.Sorts.{sort_of}
use Rattle.em_grammar.specs.Sets.{Set, next, subset, tokens, groups, either, both, others, anything, only, is_sign, any_of, name_sort, literal_sort}
use Rattle.em_grammar.specs.Lang.{Chain, Seq, Opt, Image, joined, with_comma}
use Rattle.em_grammar.specs.Reader.{Read, Found, Absent, Deep, and_then, entire, token, chain, seq, opt, mapped, when, list_of}
use Rattle.em_grammar.specs.Rows.{rows_clear, row_clear}
use Rattle.em_grammar.specs.Pairs.{Pair, Sound}
use Rattle.em_grammar.specs.TextReader.{delimited_pieces}
use Rattle.em_grammar.specs.LiteralReader.{literal_kind, is_literal_group}
use Rattle.em_grammar.specs.PathReader.{path_first, path_clear}
use Rattle.em_grammar.specs.TypeReader.{alone, type_clear}
use Rattle.em_grammar.specs.ExprSets.{Anywhere, expr_first, base, bare, end_clear, level_clear, prefix_clear, block_first, pat_start, pat_follow}
use Rattle.em_grammar.specs.ExprReader.{Readers}
use Rattle.em_grammar.specs.PrefixReader.{Behind, Call, Fields, named_test, is_named, name_or, behind_of, field_of, Ends, Closes, Times, is_none, is_single, bracket_of, paren_of, return_of, unary_of, ref_of, ref_ref_of, annotation_of, param_of, has_comma, bars_of, ClosureEnd, To, Gives, closure_of, unaries, is_unary, expr_kind, is_expr_group, field_expr, behind, path_form, paren, ends, bracket, param, closure_head, closure_end, closure, return, unary, ref, ref_ref, literal_then, operand_group}
use Rattle.em_grammar.specs.PrefixReader as r
use Rattle.em_grammar.specs.ExprLang.{Node, deeper}
use Rattle.em_grammar.specs.ExprParts.{Item, ParenParts, ReturnParts, UnaryParts, RefParts, RefRefParts, EndsParts, BracketParts, FieldParts, FieldsParts, BehindParts, PathParts, ParamParts, HeadParts, EndParts, ClosureParts, LiteralNode, GroupParts}
use Rattle.em_grammar.proofs.Pairs.{tok, seq_of, seq_part, part_seq, opt_of, opt_clear, may_opt, always, next_both, in_subset}
use Rattle.em_grammar.proofs.Lists.{commas_of}
use Rattle.em_grammar.proofs.Forms.{or_of, same_of, with_clear, when_of, shift_of, Opened, opened_of}
use Rattle.em_grammar.proofs.Forms as forms
use Rattle.em_grammar.proofs.Chains.{chain_more, more_clear, image_in, lower_of, part_chain}
use Rattle.em_grammar.proofs.Rows.{rows_pair}
use Rattle.em_grammar.proofs.Tests.{sign, name, literal, several}
use Rattle.em_grammar.proofs.TextPairs.{delimited_pair}
use Rattle.em_grammar.proofs.PathFacts.{alone_is, lone_pieces}
use Rattle.em_grammar.proofs.ExprLayers.{pieces_literal, pieces_path, pieces_struct, pieces_macro, pieces_paren, pieces_array, pieces_repeat, pieces_block, pieces_return, pieces_break, pieces_continue, pieces_unary, pieces_ref, pieces_ref_ref, pieces_group, pieces_closure, pieces_closure_to, field_pieces}
use Rattle.em_grammar.proofs.ExprFacts.{clear_at}
use Rattle.em_grammar.proofs.Ground.{Ground}
use Rattle.em_grammar.proofs.SuffixPairs.{item}

-- where nothing is read
pub never_of : {H : Pieces → Type 0} {depth : ℕ} {A : Type 0} (M : ℕ → A → Type 0) (z : A → Pieces) (f : Set) (c : A → Set) → ((d : ℕ) (t : A) → M d t → ⊥) → Pair H depth M z (λ i. Absent) f c
never_of {H} {depth} {A} M z f c empty = record {
  grows = λ d t m. absurd (empty d t m);
  sound = λ i. tt;
  begins = λ d t h m. absurd (empty d t m);
  whole = λ d t r h w m cl. absurd (empty d t m);
  longest = λ d t r h w m en. absurd (empty d t m);
  absent = λ i h. refl;
}

pub single_is : (xs : List (Listed Expr)) → is_single xs ≡ true → (x : Expr) × (xs ≡ record { item = x; comma = None } ∷ [])
single_is [] h = cc
single_is (x ∷ []) h = (x.item, ap (λ k. record { item = x.item; comma = k } ∷ []) (none_is x.comma h))
  where
    none_is : (k : Option Token) → is_none k ≡ true → k ≡ None
    none_is None h = refl
    none_is (Some t) h = cc
single_is (x ∷ y ∷ rest) h = cc

module _ (H : Pieces → Type 0) (depth : ℕ) (s : Readers) (a : Ground H depth s) where
  it : Pair H depth Item expr_pieces (s.inner Anywhere 0 false) expr_first (λ _. bare false)
  it = item H depth s a

  -- ---- literals, parentheses, jumps, blocks

  pub literal_pair : (h : Bool) → Pair H depth (Image made.Literal (λ d. IsLiteralToken)) expr_pieces (mapped made.Literal (token (λ t. literal_sort (sort_of t)))) (tokens literal_sort) (prefix_clear h)
  literal_pair h = image_in made.Literal expr_pieces (λ d t m. pieces_literal t) (λ d t m i n. always i) (tok literal)

  pub paren_pair : (h : Bool) → Pair H depth (Image paren_of ParenParts) expr_pieces (paren s) (tokens (only word.OpenParen)) (prefix_clear h)
  paren_pair h =
      image_in paren_of expr_pieces (λ d t m. pieces_paren t.0 t.1.0 t.1.1) (λ d t m i n. always i)
      (seq_of (tok (sign word.OpenParen)) (seq_of it (tok (sign word.CloseParen)) (λ _. refl)) (λ _. refl))

  pub block_pair : (h : Bool) → Pair H depth (Image made.Block (λ d b. IsBlock d (IsExpr d) (deeper d) b)) expr_pieces (mapped made.Block s.block) block_first (prefix_clear h)
  block_pair h = image_in made.Block expr_pieces (λ d t m. pieces_block t) (λ d t m i n. always i) a.block

  pub break_pair : (h : Bool) → Pair H depth (Image made.Break (λ d. Is (codes "break"))) expr_pieces (mapped made.Break (token (is_sign word.Break))) (tokens (only word.Break)) (prefix_clear h)
  break_pair h = image_in made.Break expr_pieces (λ d t m. pieces_break t) (λ d t m i n. always i) (tok (sign word.Break))

  pub continue_pair : (h : Bool) → Pair H depth (Image made.Continue (λ d. Is (codes "continue"))) expr_pieces (mapped made.Continue (token (is_sign word.Continue))) (tokens (only word.Continue)) (prefix_clear h)
  continue_pair h = image_in made.Continue expr_pieces (λ d t m. pieces_continue t) (λ d t m i n. always i) (tok (sign word.Continue))

  -- ---- `return`

  end_base : (a b h : Bool) (i : Pieces) → next (end_clear true b 0 h) i ≡ true → next (end_clear a b 0 h) i ≡ true
  end_base true b h i n = n
  end_base false true h i n = (next_both (others expr_first) (base 0 h) i n).1
  end_base false false h i n = n

  return_clear : (h : Bool) (t : Token × Option Expr) (i : Pieces) → next (prefix_clear h (return_of t)) i ≡ true → next (both anything (opt_clear expr_first (level_clear Anywhere 0 h) t.1)) i ≡ true
  return_clear h (w, None) i n = (next_both (others expr_first) (base 0 h) i (clear_at h (made.Return w None) (Expr-F.Return w None) (made.outs-Return w None) i n)).0
  return_clear h (w, Some v) i n =
      end_base (ends_open v) (ends_bare v) h i (end_any (ends_bare v) i (clear_at h (made.Return w (Some v)) (Expr-F.Return w (Some v)) (made.outs-Return w (Some v)) i n))
    where
      end_any : (b : Bool) (i : Pieces) → next (end_clear true b 15 h) i ≡ true → next (end_clear true b 0 h) i ≡ true
      end_any true i n = n
      end_any false i n = n

  pub return_pair : (h : Bool) → Pair H depth (Image return_of (ReturnParts h)) expr_pieces (return s h) (tokens (only word.Return)) (prefix_clear h)
  return_pair h =
      image_in return_of expr_pieces (λ d t m. pieces_return t.0 t.1) (λ d t m i n. return_clear h t i n)
      (seq_part (tok (sign word.Return)) (opt_of (a.inner Anywhere 0 h (omega arith))) (λ _. refl))

  -- ---- unary operators

  pub unary_pair : (h : Bool) → Pair H depth (Image unary_of (UnaryParts h)) expr_pieces (unary s h) (tokens (λ k. any_of unaries k)) (prefix_clear h)
  unary_pair h =
      image_in unary_of expr_pieces (λ d t m. pieces_unary t.0 t.1) (λ d t m i n. clear_at h (unary_of t) (Expr-F.Unary t.0 t.1) (made.outs-Unary t.0 t.1) i n)
      (seq_of (tok (several unaries)) (a.inner Anywhere 13 h (omega arith)) (λ _. refl))

  pub ref_pair : (h : Bool) → Pair H depth (Image ref_of (RefParts h)) expr_pieces (ref s h) (tokens (only word.And)) (prefix_clear h)
  ref_pair h =
      image_in ref_of expr_pieces (λ d t m. pieces_ref t.0 t.1.0 t.1.1) (λ d t m i n. clear_at h (ref_of t) (Expr-F.Ref t.0 t.1.0 t.1.1) (made.outs-Ref t.0 t.1.0 t.1.1) i n)
      (seq_of (tok (sign word.And)) (part_seq (opt_of (tok (sign word.Mut))) (a.inner Anywhere 13 h (omega arith)) (may_opt expr_first (tokens (only word.Mut)) (λ _. anything) refl (λ _. refl))) (λ _. refl))

  pub ref_ref_pair : (h : Bool) → Pair H depth (Image ref_ref_of (RefRefParts h)) expr_pieces (ref_ref s h) (tokens (only word.AndAnd)) (prefix_clear h)
  ref_ref_pair h =
      image_in ref_ref_of expr_pieces (λ d t m. pieces_ref_ref t.0 t.1.0 t.1.1) (λ d t m i n. clear_at h (ref_ref_of t) (Expr-F.RefRef t.0 t.1.0 t.1.1) (made.outs-RefRef t.0 t.1.0 t.1.1) i n)
      (seq_of (tok (sign word.AndAnd))
      (part_seq (opt_of (tok (sign word.Mut))) (lower_of (shift_of (a.inner Anywhere 13 h (omega arith)))) (may_opt expr_first (tokens (only word.Mut)) (λ _. anything) refl (λ _. refl))) (λ _. refl))

  -- ---- arrays

  abbrev ends_pieces : Ends → Pieces
  ends_pieces (Closes c) = piece c
  ends_pieces (Times t) = joined piece (joined literal_pieces piece) t

  ends_pair : (xs : List (Listed Expr)) → Pair H depth (EndsParts xs) ends_pieces (ends s xs) (either (tokens (only word.Semi)) (tokens (only word.CloseBracket))) (λ _. anything)
  ends_pair xs =
      or_of (when_of (is_single xs) (image_in Times ends_pieces (λ d t m. refl) (λ d t m i n. always i) (seq_of (tok (sign word.Semi)) (seq_of a.int (tok (sign word.CloseBracket)) (λ _. refl)) (λ _. refl))))
      (image_in Closes ends_pieces (λ d t m. refl) (λ d t m i n. always i) (tok (sign word.CloseBracket))) refl

  bracket_yield : (d : ℕ) (t : Token × (List (Listed Expr) × Ends)) → BracketParts d t → expr_pieces (bracket_of t) ≡ joined piece (joined (each (with_comma expr_pieces)) ends_pieces) t
  bracket_yield d (o, (xs, e)) m = go e m.1.1
    where
      times : (q : Token × (Literal × Token)) (ys : List (Listed Expr)) → (x : Expr) × (ys ≡ record { item = x; comma = None } ∷ [])
          → expr_pieces (bracket_of (o, (ys, Times q))) ≡ piece o ++ (each (with_comma expr_pieces) ys ++ (piece q.0 ++ (literal_pieces q.1.0 ++ piece q.1.1)))
      times q ys (x, is) =
          subst (λ ys. expr_pieces (bracket_of (o, (ys, Times q))) ≡ piece o ++ (each (with_comma expr_pieces) ys ++ (piece q.0 ++ (literal_pieces q.1.0 ++ piece q.1.1)))) (sym is)
          (pieces_repeat o x q.0 q.1.0 q.1.1
          ∙ ap (λ k. piece o ++ (k ++ (piece q.0 ++ (literal_pieces q.1.0 ++ piece q.1.1)))) (sym (append-nil (expr_pieces x)) ∙ sym (append-nil (expr_pieces x ++ []))))

      go : (e : Ends) → EndsParts xs d e → expr_pieces (bracket_of (o, (xs, e))) ≡ piece o ++ (each (with_comma expr_pieces) xs ++ ends_pieces e)
      go e (inl n) = subst (λ e. expr_pieces (bracket_of (o, (xs, e))) ≡ piece o ++ (each (with_comma expr_pieces) xs ++ ends_pieces e)) (sym n.1.2) (times n.1.0 xs (single_is xs n.0))
      go e (inr n) = subst (λ e. expr_pieces (bracket_of (o, (xs, e))) ≡ piece o ++ (each (with_comma expr_pieces) xs ++ ends_pieces e)) (sym n.2) (pieces_array o xs n.0)

  pub bracket_pair : (h : Bool) → Pair H depth (Image bracket_of BracketParts) expr_pieces (bracket s) (tokens (only word.OpenBracket)) (prefix_clear h)
  bracket_pair h =
      image_in bracket_of expr_pieces bracket_yield (λ d t m i n. always i)
      (seq_of (tok (sign word.OpenBracket)) (part_chain (commas_of (sign word.Comma) it refl refl) ends_pair (λ _. refl)) (λ _. refl))

  -- ---- paths, struct expressions and macro calls

  field_yield : (t : Token × Option (Token × Expr)) → field_pieces (field_of t) ≡ joined piece (maybe (joined piece expr_pieces)) t
  field_yield (n, None) = refl
  field_yield (n, Some t) = refl

  abbrev field_clear : Set
  field_clear = both (bare false) (others (tokens (only word.Colon)))

  field_follows : (t : Token × Option (Token × Expr)) (i : Pieces) → next field_clear i ≡ true
      → next (more_clear (λ _. anything) (λ _. tokens (only word.Colon)) (λ _ _. bare false) t) i ≡ true
  field_follows (n, None) i is = (next_both (bare false) (others (tokens (only word.Colon))) i is).1
  field_follows (n, Some t) i is = (next_both (bare false) (others (tokens (only word.Colon))) i is).0

  field_pair : Pair H depth (Image field_of FieldParts) field_pieces (field_expr s) (tokens name_sort) (λ _. field_clear)
  field_pair =
      image_in field_of field_pieces (λ d t m. field_yield t) (λ d t m i n. field_follows t i n)
      (chain_more {c = λ _. anything} {g = λ _. tokens (only word.Colon)} {e = λ _ _. bare false} (tok name) (λ _. seq_of (tok (sign word.Colon)) it (λ _. refl)) (λ _. refl))

  abbrev behind_pieces : Behind → Pieces
  behind_pieces (Call t) = joined piece delimited_pieces t
  behind_pieces (Fields t) = joined piece (joined (each (with_comma field_pieces)) piece) t

  abbrev struct_first : Bool → Set
  struct_first h = tokens (λ k. not h && only word.OpenBrace k)

  abbrev behind_first : Bool → Set
  behind_first h = either (tokens (only word.Not)) (struct_first h)

  fields_pair : (h : Bool) → Pair H depth (λ d t. (not h ≡ true) × Image Fields FieldsParts d t) behind_pieces
      (when (not h) (mapped Fields (seq (token (is_sign word.OpenBrace)) (seq (list_of (field_expr s)) (token (is_sign word.CloseBrace)))))) (struct_first h) (λ _. anything)
  fields_pair true = never_of (λ d t. (false ≡ true) × Image Fields FieldsParts d t) behind_pieces (struct_first true) (λ _. anything) (λ d t m. let no : false ≡ true = m.0 in cc)
  fields_pair false =
      when_of true
      (image_in Fields behind_pieces (λ d t m. refl) (λ d t m i n. always i)
      (seq_of (tok (sign word.OpenBrace)) (part_seq (commas_of (sign word.Comma) field_pair refl refl) (tok (sign word.CloseBrace)) (λ _. refl)) (λ _. refl)))

  apart : (h : Bool) → subset (struct_first h) (others (tokens (only word.Not))) ≡ true
  apart true = refl
  apart false = refl

  behind_pair : (h : Bool) (y : Path) → Pair H depth (BehindParts h y) behind_pieces (behind s h y) (behind_first h) (λ _. anything)
  behind_pair h y =
      or_of (when_of (is_named y) (image_in Call behind_pieces (λ d t m. refl) (λ d t m i n. always i) (seq_of (tok (sign word.Not)) (delimited_pair H depth) (λ _. refl))))
      (fields_pair h) (apart h)

  behind_follows : (h : Bool) → subset (behind_first h) path_clear ≡ true
  behind_follows true = refl
  behind_follows false = refl

  named_pieces : (y : Path) (t : Token) → is_named y ≡ true → (path_pieces y ≡ piece (name_or t (alone y))) × (alone y ≡ Some (name_or t (alone y)))
  named_pieces y t h = go (alone y) refl h
    where
      go : (o : Option Token) → alone y ≡ o → named_test o ≡ true → (path_pieces y ≡ piece (name_or t o)) × (o ≡ Some (name_or t o))
      go None at h = cc
      go (Some w) at h = (ap (λ k. path_pieces k) (alone_is y w at) ∙ lone_pieces w, refl)

  behind_yield : (h : Bool) (d : ℕ) (t : Path × Option Behind) → PathParts h d t → expr_pieces (behind_of t) ≡ joined path_pieces (maybe behind_pieces) t
  behind_yield h d (y, None) m = pieces_path y ∙ sym (append-nil (path_pieces y))
  behind_yield h d (y, Some b) m = go b m.1
    where
      go : (b : Behind) → BehindParts h y d b → expr_pieces (behind_of (y, Some b)) ≡ path_pieces y ++ behind_pieces b
      go b (inl n) =
          subst (λ b. expr_pieces (behind_of (y, Some b)) ≡ path_pieces y ++ behind_pieces b) (sym n.1.2)
          (pieces_macro (record { name = name_or n.1.0.0 (alone y); bang = n.1.0.0; text = n.1.0.1 })
          ∙ ap (λ k. k ++ (piece n.1.0.0 ++ delimited_pieces n.1.0.1)) (sym (named_pieces y n.1.0.0 n.0).0))
      go b (inr n) = subst (λ b. expr_pieces (behind_of (y, Some b)) ≡ path_pieces y ++ behind_pieces b) (sym n.1.2) (pieces_struct y n.1.0.0 n.1.0.1.0 n.1.0.1.1)

  path_follows : (h : Bool) → subset (base 15 h) (both path_clear (others (behind_first h))) ≡ true
  path_follows true = refl
  path_follows false = refl

  behind_clear : (h : Bool) (t : Path × Option Behind) (i : Pieces) → next (prefix_clear h (behind_of t)) i ≡ true
      → next (more_clear (λ _. path_clear) (λ _. behind_first h) (λ _ _. anything) t) i ≡ true
  behind_clear h (y, None) i n =
      in_subset (base 15 h) (both path_clear (others (behind_first h))) (path_follows h) i (clear_at h (made.Path y) (Expr-F.Path y) (made.outs-Path y) i n)
  behind_clear h (y, Some b) i n = always i

  pub path_pair : (h : Bool) → Pair H depth (Image behind_of (PathParts h)) expr_pieces (path_form s h) path_first (prefix_clear h)
  path_pair h =
      image_in behind_of expr_pieces (behind_yield h) (λ d t m i n. behind_clear h t i n)
      (chain_more {c = λ _. path_clear} {g = λ _. behind_first h} {e = λ _ _. anything} a.path (behind_pair h) (λ _. behind_follows h))

  -- ---- closures

  abbrev param_pieces : ClosureParam → Pieces
  param_pieces x = closure_param_parts piece whole as_it_is x

  param_yield : (t : (Pat × Option (Token × TypeTree)) × Option Token) → param_pieces (param_of t) ≡ joined (joined pat_pieces (maybe (joined piece type_pieces))) (maybe piece) t
  param_yield ((q, None), k) = ap (λ u. u ++ maybe piece k) (sym (append-nil (pat_pieces q)))
  param_yield ((q, Some t), k) = append_3 (pat_pieces q) (piece t.0 ++ type_pieces t.1) (maybe piece k)
    where
      append_3 : (x y w : Pieces) → x ++ (y ++ w) ≡ (x ++ y) ++ w
      append_3 [] y w = refl
      append_3 (v ∷ x) y w = ap (λ k. v ∷ k) (append_3 x y w)

  abbrev param_clear : ClosureParam → Set
  param_clear x = record { end = false; token = λ k. has_comma x || only word.Or k; group = λ f. has_comma x }

  annotated_pair : Pair H depth (Chain IsPat (λ _. Opt (Seq (λ d. Is (codes ":")) TypeWithin))) (joined pat_pieces (maybe (joined piece type_pieces)))
      (chain s.pat (λ _. opt (seq (token (is_sign word.Colon)) s.ty))) pat_start (more_clear (λ _. pat_follow) (λ _. tokens (only word.Colon)) (λ _ _. type_clear))
  annotated_pair =
      chain_more {c = λ _. pat_follow} {g = λ _. tokens (only word.Colon)} {e = λ _ _. type_clear} a.pat (λ _. seq_of (tok (sign word.Colon)) a.ty (λ _. refl)) (λ _. refl)

  comma_follows : (t : Pat × Option (Token × TypeTree)) → subset (tokens (only word.Comma)) (more_clear (λ _. pat_follow) (λ _. tokens (only word.Colon)) (λ _ _. type_clear) t) ≡ true
  comma_follows (q, None) = refl
  comma_follows (q, Some t) = refl

  param_follows : (t : (Pat × Option (Token × TypeTree)) × Option Token) (i : Pieces) → next (param_clear (param_of t)) i ≡ true
      → next (more_clear (more_clear (λ _. pat_follow) (λ _. tokens (only word.Colon)) (λ _ _. type_clear)) (λ _. tokens (only word.Comma)) (λ _ _. anything) t) i ≡ true
  param_follows ((q, None), None) i n = in_subset (tokens (only word.Or)) (both (both pat_follow (others (tokens (only word.Colon)))) (others (tokens (only word.Comma)))) refl i n
  param_follows ((q, Some t), None) i n = in_subset (tokens (only word.Or)) (both type_clear (others (tokens (only word.Comma)))) refl i n
  param_follows (q, Some k) i n = always i

  param_pair : Pair H depth (Image param_of ParamParts) param_pieces (param s) pat_start param_clear
  param_pair =
      image_in param_of param_pieces (λ d t m. param_yield t) (λ d t m i n. param_follows t i n)
      (chain_more {c = more_clear (λ _. pat_follow) (λ _. tokens (only word.Colon)) (λ _ _. type_clear)} {g = λ _. tokens (only word.Comma)} {e = λ _ _. anything}
      annotated_pair (λ _. tok (sign word.Comma)) comma_follows)

  param_closed : (x : ClosureParam) → has_comma x ≡ true → subset pat_start (param_clear x) ≡ true
  param_closed x h = subst (λ b. subset pat_start (record { end = false; token = λ k. b || only word.Or k; group = λ f. b }) ≡ true) (sym h) refl

  params_end : (xs : List ClosureParam) → subset (tokens (only word.Or)) (rows_clear has_comma pat_start param_clear xs) ≡ true
  params_end [] = refl
  params_end (x ∷ []) = go (has_comma x)
    where
      go : (b : Bool) → subset (tokens (only word.Or)) (row_clear pat_start b (record { end = false; token = λ k. b || only word.Or k; group = λ f. b })) ≡ true
      go true = refl
      go false = refl
  params_end (x ∷ y ∷ rest) = params_end (y ∷ rest)

  abbrev head_pieces : ClosureHead → Pieces
  head_pieces x = closure_head_parts piece whole as_it_is x

  head_pair : Pair H depth HeadParts head_pieces (closure_head s) (either (tokens (only word.OrOr)) (tokens (only word.Or))) (λ _. anything)
  head_pair =
      or_of (image_in head.Empty head_pieces (λ d t m. refl) (λ d t m i n. always i) (tok (sign word.OrOr)))
      (image_in bars_of head_pieces (λ d t m. refl) (λ d t m i n. always i)
      (seq_of (tok (sign word.Or)) (part_seq (rows_pair has_comma param_pair param_closed) (tok (sign word.Or)) params_end) (λ _. refl))) refl

  abbrev end_pieces : ClosureEnd → Pieces
  end_pieces (To t) = joined piece (joined type_pieces block_pieces) t
  end_pieces (Gives y) = expr_pieces y

  abbrev end_follow : Bool → ClosureEnd → Set
  end_follow h (To t) = anything
  end_follow h (Gives y) = level_clear Anywhere 0 h y

  end_pair : (h : Bool) → Pair H depth (EndParts h) end_pieces (closure_end s h) (either (tokens (only word.RArrow)) expr_first) (end_follow h)
  end_pair h =
      or_of (image_in To end_pieces (λ d t m. refl) (λ d t m i n. n) (seq_of (tok (sign word.RArrow)) (seq_of a.ty a.block (λ _. refl)) (λ _. refl)))
      (image_in Gives end_pieces (λ d t m. refl) (λ d t m i n. n) (a.inner Anywhere 0 h (omega arith))) refl

  closure_yield : (t : Option Token × (ClosureHead × ClosureEnd)) → expr_pieces (closure_of t) ≡ joined (maybe piece) (joined head_pieces end_pieces) t
  closure_yield (m, (q, To t)) = pieces_closure_to m q t.0 t.1.0 t.1.1
  closure_yield (m, (q, Gives y)) = pieces_closure m q y

  closure_clear : (h : Bool) (t : Option Token × (ClosureHead × ClosureEnd)) (i : Pieces) → next (prefix_clear h (closure_of t)) i ≡ true → next (end_follow h t.1.1) i ≡ true
  closure_clear h (m, (q, To t)) i n = always i
  closure_clear h (m, (q, Gives y)) i n =
      end_base (ends_open y) (ends_bare y) h i (end_any (ends_bare y) i (clear_at h (made.Closure m q y) (Expr-F.Closure m q y) (made.outs-Closure m q y) i n))
    where
      end_any : (b : Bool) (i : Pieces) → next (end_clear true b 15 h) i ≡ true → next (end_clear true b 0 h) i ≡ true
      end_any true i n = n
      end_any false i n = n

  abbrev pub closure_first : Set
  closure_first = either (tokens (only word.Move)) (either (tokens (only word.OrOr)) (tokens (only word.Or)))

  pub closure_pair : (h : Bool) → Pair H depth (Image closure_of (ClosureParts h)) expr_pieces (closure s h) closure_first (prefix_clear h)
  closure_pair h =
      image_in closure_of expr_pieces (λ d t m. closure_yield t) (λ d t m i n. closure_clear h t i n)
      (part_seq (opt_of (tok (sign word.Move))) (seq_of head_pair (end_pair h) (λ _. refl))
      (may_opt (either (tokens (only word.OrOr)) (tokens (only word.Or))) (tokens (only word.Move)) (λ _. anything) refl (λ _. refl)))

  -- ---- groups

  literal_opened : Opened H depth LiteralNode expr_pieces (literal_then s)
  literal_opened = record {
    grows = λ d t m. (a.opened.grows d t m.0, m.1);
    sound = λ i. first i (s.signed i) (a.signed.sound i);
    whole = λ d t h w m.
        ap (λ k. and_then (entire (s.signed k)) (λ l e. entire (s.opened k))) m.1.1
        ∙ ap (λ q. and_then (entire q) (λ l e. entire (s.opened (literal_pieces m.1.0)))) (a.signed.whole 0 m.1.0 (omega arith) (subst (λ k. H k) m.1.1 w) m.1.2)
        ∙ ap (λ k. entire (s.opened k)) (sym m.1.1) ∙ ap (λ q. entire q) (a.opened.whole d t h w m.0);
  }
    where
      second : (i : Pieces) (l : Literal) → IsLiteral true l → i ≡ literal_pieces l → (m : Read Expr) → Sound (λ d x. Node d false x) expr_pieces m i → Sound LiteralNode expr_pieces (entire m) i
      second i l is eq (Found x []) u = ((u.0.0, (u.0.1, (l, sym (append-nil (expr_pieces x)) ∙ sym u.1 ∙ eq, is))), u.1)
      second i l is eq (Found x (y ∷ r)) u = tt
      second i l is eq Absent u = tt
      second i l is eq Deep u = tt

      first : (i : Pieces) (m : Read Literal) → Sound (λ d. IsLiteral true) literal_pieces m i → Sound LiteralNode expr_pieces (and_then (entire m) (λ l e. entire (s.opened i))) i
      first i (Found l []) u = second i l u.0.1 (u.1 ∙ append-nil (literal_pieces l)) (s.opened i) (a.opened.sound i)
      first i (Found l (y ∷ r)) u = tt
      first i Absent u = tt
      first i Deep u = tt

  pub group_pair : (h : Bool) → Pair H depth GroupParts expr_pieces (operand_group s) (either (groups expr_kind) (groups literal_kind)) (prefix_clear h)
  group_pair h =
      or_of (image_in r.group_of expr_pieces (λ d t m. pieces_group t.0 t.1) (λ d t m i n. always i) (forms.group_of is_expr_group expr_kind (λ g is. is) a.opened))
      (image_in r.group_of expr_pieces (λ d t m. pieces_group t.0 t.1) (λ d t m i n. always i) (forms.group_of is_literal_group literal_kind (λ g is. is) literal_opened)) refl
