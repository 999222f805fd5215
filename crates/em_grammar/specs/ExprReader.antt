-- How the parts of expressions are read.
use Rattle.std.specs.Prelude.{ℕ, suc, Bool, false, List, ◌++◌, Option, Some, None}
use Rattle.em_base.specs.declared.token.Token.{Token}
use Rattle.em_tree.specs.declared.parts.Listed.{Listed}
use Rattle.em_tree.specs.declared.literal.Literal.{Literal}
use Rattle.em_tree.specs.declared.types.Path.{Path}
use Rattle.em_tree.specs.declared.types.TypeTree.{TypeTree}
use Rattle.em_tree.specs.declared.pat.Pat.{Pat}
use Rattle.em_tree.specs.declared.pat.TopPat.{TopPat}
use Rattle.em_tree.specs.declared.expr.Block.{Block}
use Rattle.em_tree.specs.declared.expr.Expr.{Expr}
use Rattle.em_tree.specs.declared.expr.Expr.TheVariants as made
use Rattle.em_tree.specs.declared.expr.Body.{Body}
use Rattle.em_tree.specs.Starts.{Pieces}
use Rattle.em_tree.specs.Parts.{each}
use Rattle.em_tree.specs.Yields.{piece}
use Rattle.em_tree.specs.ExprGrammar.{expr_pieces}
use Rattle.em_tree.specs.PathGrammar.{literal_pieces}
use Rattle.em_grammar.specs.declared.sort.Written.TheVariants as word
use Rattle.em_grammar.specs.Sorts.{sort_of}
use Rattle.em_grammar.specs.Sets.{Set, tokens, either, others, anything, only, is_sign, name_sort}
use Rattle.em_grammar.specs.Lang.{with_comma}
use Rattle.em_grammar.specs.Reader.{Read, token, chain, seq, mapped, opt, choice, list_of}
use Rattle.em_grammar.specs.ExprSets.{Start, Anywhere, op_binds, op_sort, assign_sort, after}

-- the readers of what stands in an expression. `inner start least no_struct`: operands of an operator that binds so tightly; `opened`:
-- the expression that a group's pieces are
pub record Readers : Type 0 where
  pub ty : Pieces → Read TypeTree
  pub path : Pieces → Read Path
  pub pat : Pieces → Read Pat
  pub top : Pieces → Read TopPat
  pub int : Pieces → Read Literal
  pub signed : Pieces → Read Literal
  pub block : Pieces → Read (Block Body)
  pub inner : Start → ℕ → Bool → Pieces → Read Expr
  pub opened : Pieces → Read Expr

-- a list with commas between delimiters
abbrev pub Inside : Type 0
Inside = Token × (List (Listed Expr) × Token)

-- ---- what goes on with an expression

pub data Suffix : Type 0 where
  Right : Token → Expr → Suffix
  Becomes : Token → Expr → Suffix
  Method : Token → Token → Token → List (Listed Expr) → Token → Suffix
  Args : Token → List (Listed Expr) → Token → Suffix
  Member : Token → Token → Suffix
  Number : Token → Literal → Suffix
  At : Token → Expr → Token → Suffix

abbrev pub apply : Expr → Suffix → Expr
apply x (Right op y) = made.Binary x op y
apply x (Becomes op y) = made.Assign x op y
apply x (Method dot name o xs c) = made.MethodCall x dot name o xs c
apply x (Args o xs c) = made.Call x o xs c
apply x (Member dot name) = made.Field x dot name
apply x (Number dot number) = made.Place x dot number
apply x (At o y c) = made.Index x o y c

abbrev pub suffix_pieces : Suffix → Pieces
suffix_pieces (Right op y) = piece op ++ expr_pieces y
suffix_pieces (Becomes op y) = piece op ++ expr_pieces y
suffix_pieces (Method dot name o xs c) = piece dot ++ (piece name ++ (piece o ++ (each (with_comma expr_pieces) xs ++ piece c)))
suffix_pieces (Args o xs c) = piece o ++ (each (with_comma expr_pieces) xs ++ piece c)
suffix_pieces (Member dot name) = piece dot ++ piece name
suffix_pieces (Number dot number) = piece dot ++ literal_pieces number
suffix_pieces (At o y c) = piece o ++ (expr_pieces y ++ piece c)

-- what may follow
abbrev pub suffix_clear : Bool → Suffix → Set
suffix_clear h (Right op y) = after (suc (op_binds (sort_of op))) h y
suffix_clear h (Becomes op y) = after 3 h y
suffix_clear h (Member dot name) = others (tokens (only word.OpenParen))
suffix_clear h _ = anything

abbrev pub is_op : Token → Bool
is_op t = op_sort (sort_of t)

abbrev pub is_assign : Token → Bool
is_assign t = assign_sort (sort_of t)

abbrev pub is_a_name : Token → Bool
is_a_name t = name_sort (sort_of t)

abbrev pub right_of : Token × Expr → Suffix
right_of t = Right t.0 t.1

abbrev pub becomes_of : Token × Expr → Suffix
becomes_of t = Becomes t.0 t.1

abbrev pub args_of : Inside → Suffix
args_of t = Args t.0 t.1.0 t.1.1

abbrev pub at_of : Token × (Expr × Token) → Suffix
at_of t = At t.0 t.1.0 t.1.1

abbrev pub named_of : Token × (Token × Option Inside) → Suffix
named_of (dot, (name, None)) = Member dot name
named_of (dot, (name, Some t)) = Method dot name t.0 t.1.0 t.1.1

pub data DotForm : Type 0 where
  Named : Token × Option Inside → DotForm
  Numbered : Literal → DotForm

abbrev pub dotted_of : Token × DotForm → Suffix
dotted_of (dot, Named t) = named_of (dot, t)
dotted_of (dot, Numbered x) = Number dot x

-- what goes on begins so
abbrev pub suffix_first : Set
suffix_first = either (tokens op_sort) (either (tokens assign_sort) (either (tokens (only word.Dot)) (either (tokens (only word.OpenParen)) (tokens (only word.OpenBracket)))))

module _ (s : Readers) where
  abbrev pub arguments : Pieces → Read Inside
  arguments = seq (token (is_sign word.OpenParen)) (seq (list_of (s.inner Anywhere 0 false)) (token (is_sign word.CloseParen)))

  abbrev pub dot_form : Pieces → Read DotForm
  dot_form = choice (tokens name_sort) (mapped Named (chain (token is_a_name) (λ _. opt arguments))) (mapped Numbered s.int)

  abbrev pub right : Bool → Pieces → Read Suffix
  right h = mapped right_of (chain (token is_op) (λ op. s.inner Anywhere (suc (op_binds (sort_of op))) h))

  abbrev pub becomes : Bool → Pieces → Read Suffix
  becomes h = mapped becomes_of (seq (token is_assign) (s.inner Anywhere 3 h))

  abbrev pub dotted : Pieces → Read Suffix
  dotted = mapped dotted_of (seq (token (is_sign word.Dot)) dot_form)

  abbrev pub called : Pieces → Read Suffix
  called = mapped args_of arguments

  abbrev pub indexed : Pieces → Read Suffix
  indexed = mapped at_of (seq (token (is_sign word.OpenBracket)) (seq (s.inner Anywhere 0 false) (token (is_sign word.CloseBracket))))

  unfoldable pub suffix : Bool → Pieces → Read Suffix
  suffix h i =
      choice (tokens op_sort) (right h) (choice (tokens assign_sort) (becomes h) (choice (tokens (only word.Dot)) dotted
      (choice (tokens (only word.OpenParen)) called indexed))) i
