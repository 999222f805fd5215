-- How the forms are read that an expression may begin with.
use Rattle.std.specs.Prelude.{Bool, true, false, not, List, [], ◌∷◌, Option, Some, None}
use Rattle.em_base.specs.declared.token.Token.{Token}
use Rattle.em_tree.specs.declared.parts.Listed.{Listed}
use Rattle.em_tree.specs.declared.piece.Delimited.{Delimited}
use Rattle.em_tree.specs.declared.piece.FragmentKind.{FragmentKind}
use Rattle.em_tree.specs.declared.piece.FragmentKind.TheVariants as fk
use Rattle.em_tree.specs.declared.piece.Group.{Group}
use Rattle.em_tree.specs.declared.literal.Literal.{Literal}
use Rattle.em_tree.specs.declared.types.Path.{Path}
use Rattle.em_tree.specs.declared.types.TypeTree.{TypeTree}
use Rattle.em_tree.specs.declared.pat.Pat.{Pat}
use Rattle.em_tree.specs.declared.expr.Annotation.{Annotation}
use Rattle.em_tree.specs.declared.expr.Annotation.TheVariants as annotation
use Rattle.em_tree.specs.declared.expr.FieldExpr.{FieldExpr}
use Rattle.em_tree.specs.declared.expr.ClosureParam.{ClosureParam}
use Rattle.em_tree.specs.declared.expr.ClosureHead.{ClosureHead}
use Rattle.em_tree.specs.declared.expr.ClosureHead.TheVariants as head
use Rattle.em_tree.specs.declared.expr.Block.{Block}
use Rattle.em_tree.specs.declared.expr.Expr.{Expr}
use Rattle.em_tree.specs.declared.expr.Expr.TheVariants as made
use Rattle.em_tree.specs.declared.expr.Body.{Body}
use Rattle.em_tree.specs.Starts.{Pieces, kind_of}
use Rattle.em_grammar.specs.declared.sort.Written.{Written}
use Rattle.em_grammar.specs.declared.sort.Written.TheVariants as word
use Rattle.em_grammar.specs.Sorts.{sort_of}
use Rattle.em_grammar.specs.Sets.{tokens, groups, only, is_sign, any_of, name_sort}
use Rattle.em_grammar.specs.Reader.{Read, and_then, token, entire, group, chain, seq, mapped, opt, choice, when, list_of}
use Rattle.em_grammar.specs.Rows.{rows_of}
use Rattle.em_grammar.specs.TextReader.{delimited}
use Rattle.em_grammar.specs.LiteralReader.{is_literal_group}
use Rattle.em_grammar.specs.TypeReader.{alone}
use Rattle.em_grammar.specs.ExprSets.{Anywhere}
use Rattle.em_grammar.specs.ExprReader.{Readers, is_a_name}

-- ---- paths, struct expressions and macro calls

pub data Behind : Type 0 where
  Call : Token × Delimited → Behind
  Fields : Token × (List (Listed (FieldExpr Expr)) × Token) → Behind

abbrev pub named_test : Option Token → Bool
named_test None = false
named_test (Some t) = name_sort (sort_of t)

-- the path is a name
abbrev pub is_named : Path → Bool
is_named y = named_test (alone y)

abbrev pub name_or : Token → Option Token → Token
name_or t None = t
name_or t (Some name) = name

abbrev pub behind_of : Path × Option Behind → Expr
behind_of (y, None) = made.Path y
behind_of (y, Some (Call t)) = made.Macro (record { name = name_or t.0 (alone y); bang = t.0; text = t.1 })
behind_of (y, Some (Fields t)) = made.Struct y t.0 t.1.0 t.1.1

abbrev pub field_of : Token × Option (Token × Expr) → FieldExpr Expr
field_of (name, None) = record { name = name; colon = None; value = None }
field_of (name, Some t) = record { name = name; colon = Some t.0; value = Some t.1 }

-- ---- between brackets

pub data Ends : Type 0 where
  Closes : Token → Ends
  Times : Token × (Literal × Token) → Ends

abbrev pub is_none : Option Token → Bool
is_none None = true
is_none (Some t) = false

abbrev pub is_single : List (Listed Expr) → Bool
is_single [] = false
is_single (x ∷ []) = is_none x.comma
is_single (x ∷ y ∷ rest) = false

abbrev pub bracket_of : Token × (List (Listed Expr) × Ends) → Expr
bracket_of (o, (xs, Closes c)) = made.Array o xs c
bracket_of (o, ([], Times t)) = made.Array o [] t.1.1
bracket_of (o, (x ∷ rest, Times t)) = made.Repeat o x.item t.0 t.1.0 t.1.1

-- ---- the others

abbrev pub paren_of : Token × (Expr × Token) → Expr
paren_of t = made.Paren t.0 t.1.0 t.1.1

abbrev pub return_of : Token × Option Expr → Expr
return_of t = made.Return t.0 t.1

abbrev pub unary_of : Token × Expr → Expr
unary_of t = made.Unary t.0 t.1

abbrev pub ref_of : Token × (Option Token × Expr) → Expr
ref_of t = made.Ref t.0 t.1.0 t.1.1

abbrev pub ref_ref_of : Token × (Option Token × Expr) → Expr
ref_ref_of t = made.RefRef t.0 t.1.0 t.1.1

abbrev pub group_of : Group × Expr → Expr
group_of t = made.Group t.0 t.1

abbrev pub annotation_of : Option (Token × TypeTree) → Annotation
annotation_of None = annotation.Nothing
annotation_of (Some t) = annotation.Type t.0 t.1

abbrev pub param_of : (Pat × Option (Token × TypeTree)) × Option Token → ClosureParam
param_of t = record { pat = t.0.0; annotation = annotation_of t.0.1; comma = t.1 }

abbrev pub has_comma : ClosureParam → Bool
has_comma x = not (is_none x.comma)

abbrev pub bars_of : Token × (List ClosureParam × Token) → ClosureHead
bars_of t = head.Bars t.0 t.1.0 t.1.1

pub data ClosureEnd : Type 0 where
  To : Token × (TypeTree × Block Body) → ClosureEnd
  Gives : Expr → ClosureEnd

abbrev pub closure_of : Option Token × (ClosureHead × ClosureEnd) → Expr
closure_of (m, (q, To t)) = made.ClosureTo m q t.0 t.1.0 t.1.1
closure_of (m, (q, Gives y)) = made.Closure m q y

abbrev pub unaries : List Written
unaries = word.Minus ∷ word.Not ∷ word.Star ∷ []

abbrev pub is_unary : Token → Bool
is_unary t = any_of unaries (sort_of t)

abbrev pub expr_kind : FragmentKind → Bool
expr_kind fk.Expr = true
expr_kind _ = false

abbrev pub is_expr_group : Group → Bool
is_expr_group g = expr_kind (kind_of g)

module _ (s : Readers) where
  abbrev pub field_expr : Pieces → Read (FieldExpr Expr)
  field_expr = mapped field_of (chain (token is_a_name) (λ _. opt (seq (token (is_sign word.Colon)) (s.inner Anywhere 0 false))))

  abbrev pub behind : Bool → Path → Pieces → Read Behind
  behind h y =
      choice (tokens (only word.Not)) (when (is_named y) (mapped Call (seq (token (is_sign word.Not)) delimited)))
      (when (not h) (mapped Fields (seq (token (is_sign word.OpenBrace)) (seq (list_of field_expr) (token (is_sign word.CloseBrace))))))

  abbrev pub path_form : Bool → Pieces → Read Expr
  path_form h = mapped behind_of (chain s.path (λ y. opt (behind h y)))

  abbrev pub paren : Pieces → Read Expr
  paren = mapped paren_of (seq (token (is_sign word.OpenParen)) (seq (s.inner Anywhere 0 false) (token (is_sign word.CloseParen))))

  abbrev pub ends : List (Listed Expr) → Pieces → Read Ends
  ends xs =
      choice (tokens (only word.Semi)) (when (is_single xs) (mapped Times (seq (token (is_sign word.Semi)) (seq s.int (token (is_sign word.CloseBracket))))))
      (mapped Closes (token (is_sign word.CloseBracket)))

  abbrev pub bracket : Pieces → Read Expr
  bracket = mapped bracket_of (seq (token (is_sign word.OpenBracket)) (chain (list_of (s.inner Anywhere 0 false)) ends))

  abbrev pub param : Pieces → Read ClosureParam
  param = mapped param_of (chain (chain s.pat (λ _. opt (seq (token (is_sign word.Colon)) s.ty))) (λ _. opt (token (is_sign word.Comma))))

  abbrev pub closure_head : Pieces → Read ClosureHead
  closure_head =
      choice (tokens (only word.OrOr)) (mapped head.Empty (token (is_sign word.OrOr)))
      (mapped bars_of (seq (token (is_sign word.Or)) (seq (rows_of has_comma param) (token (is_sign word.Or)))))

  abbrev pub closure_end : Bool → Pieces → Read ClosureEnd
  closure_end h = choice (tokens (only word.RArrow)) (mapped To (seq (token (is_sign word.RArrow)) (seq s.ty s.block))) (mapped Gives (s.inner Anywhere 0 h))

  abbrev pub closure : Bool → Pieces → Read Expr
  closure h = mapped closure_of (seq (opt (token (is_sign word.Move))) (seq closure_head (closure_end h)))

  abbrev pub return : Bool → Pieces → Read Expr
  return h = mapped return_of (seq (token (is_sign word.Return)) (opt (s.inner Anywhere 0 h)))

  abbrev pub unary : Bool → Pieces → Read Expr
  unary h = mapped unary_of (seq (token is_unary) (s.inner Anywhere 13 h))

  abbrev pub ref : Bool → Pieces → Read Expr
  ref h = mapped ref_of (seq (token (is_sign word.And)) (seq (opt (token (is_sign word.Mut))) (s.inner Anywhere 13 h)))

  abbrev pub ref_ref : Bool → Pieces → Read Expr
  ref_ref h = mapped ref_ref_of (seq (token (is_sign word.AndAnd)) (seq (opt (token (is_sign word.Mut))) (s.inner Anywhere 13 h)))

  -- the pieces of a group of the kind `literal`, which are a literal
  abbrev pub literal_then : Pieces → Read Expr
  literal_then i = and_then (entire (s.signed i)) (λ l e. entire (s.opened i))

  abbrev pub operand_group : Pieces → Read Expr
  operand_group = choice (groups expr_kind) (mapped group_of (group is_expr_group s.opened)) (mapped group_of (group is_literal_group literal_then))
