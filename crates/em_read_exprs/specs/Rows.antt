-- The rows of a block in Rust: each is a statement, with its `;` if it has one.
use Rattle.std.specs.Prelude.{Bool, false, not, ◌||◌, if◌then◌else◌, List, [], ◌∷◌, Option, Some, None}
use Rattle.em_base.specs.declared.token.Token.{Token}
use Rattle.em_tree.specs.declared.piece.Group.{Group}
use Rattle.em_tree.specs.declared.expr.Block.{Block}
use Rattle.em_tree.specs.declared.expr.Body.{Body}
use Rattle.em_tree.specs.declared.expr.Expr.{Expr}
use Rattle.em_tree.specs.declared.expr.Expr.TheOpen.{Stmt-F}
use Rattle.em_tree.specs.declared.expr.Expr.TheViews.{roll-Body}
use Rattle.em_tree.specs.declared.expr.Stmt.{Stmt, out-Stmt}
use Rattle.em_tree.specs.declared.expr.Stmt.TheVariants as stmt
use Rattle.em_tree.specs.Starts.{Pieces}
use Rattle.em_grammar.specs.declared.sort.Written.TheVariants as word
use Rattle.em_grammar.specs.Sets.{tokens, only, is_sign}
use Rattle.em_grammar.specs.Reader.{Read, token, group, chain, seq, mapped, opt, choice}
use Rattle.em_grammar.specs.Rows.{rows_of}
use Rattle.em_grammar.specs.ExprSets.{InBlock, expr_first}
use Rattle.em_grammar.specs.ExprReader.{Readers}
use Rattle.em_grammar.specs.PrefixReader.{is_none}
use Rattle.em_grammar.specs.StmtReader.{StmtLayer, closing, let', statement_of, is_stmt_group, tail_group_of, with_semi, tail_of, peek}

abbrev pub semi_of : StmtLayer → Option Token
semi_of (Stmt-F.Mention w u e r semi) = semi
semi_of (Stmt-F.Let w q a e v semi) = semi
semi_of (Stmt-F.Stmt::Macro call semi) = semi
semi_of (Stmt-F.Expr v semi) = semi
semi_of (Stmt-F.BlockLike v semi) = semi
semi_of (Stmt-F.Stmt::Group g y semi) = semi

-- without a `;`
abbrev pub is_bare : Stmt → Bool
is_bare y = is_none (semi_of (out-Stmt y))

-- another row may follow
abbrev pub closed : Stmt → Bool
closed y = not (is_bare y) || closing (out-Stmt y)

abbrev pub ended : Stmt → Option Token → Stmt
ended y (Some t) = with_semi (out-Stmt y) (Some t)
ended y None = y

abbrev pub semi_row : Stmt × Token → Stmt
semi_row t = with_semi (out-Stmt t.0) (Some t.1)

abbrev pub ended_row : Stmt × Option Token → Stmt
ended_row t = ended t.0 t.1

abbrev pub sent_row : (Group × Stmt) × Token → Stmt
sent_row t = stmt.Group t.0.0 t.0.1 (Some t.1)

abbrev pub tail_row : Expr → Stmt
tail_row x = stmt.Expr x None

abbrev pub kept : List Stmt → List Stmt
kept [] = []
kept (y ∷ []) = if is_bare y then [] else y ∷ []
kept (y ∷ z ∷ rest) = y ∷ kept (z ∷ rest)

abbrev pub tail_at : List Stmt → Option Expr
tail_at [] = None
tail_at (y ∷ []) = if is_bare y then tail_of (out-Stmt y) else None
tail_at (y ∷ z ∷ rest) = tail_at (z ∷ rest)

-- the last row is the tail, unless it has a `;`
abbrev pub body_of : List Stmt → Body
body_of ys = roll-Body (record { stmts = kept ys; tail = tail_at ys })

abbrev pub braces_of : Token × (Body × Token) → Block Body
braces_of t = record { groups = []; «open» = t.0; body = t.1.0; close = t.1.1 }

-- a fragment of the kind `stmt`, and its `;`
abbrev pub sent : (Pieces → Read Stmt) → Pieces → Read Stmt
sent opened = mapped sent_row (seq (group is_stmt_group opened) (token (is_sign word.Semi)))

-- a fragment of the kind `stmt` at the end
abbrev pub last : (Pieces → Read Expr) → Pieces → Read Stmt
last opened_tail = mapped tail_row (mapped tail_group_of (group is_stmt_group opened_tail))

abbrev pub stmt_group : (Pieces → Read Stmt) → (Pieces → Read Expr) → Pieces → Read Stmt
stmt_group opened opened_tail = peek (tokens (only word.Semi)) (sent opened) (last opened_tail)

abbrev pub let_row : Readers → Pieces → Read Stmt
let_row s = mapped semi_row (seq (let' s) (token (is_sign word.Semi)))

abbrev pub expr_row : Readers → Pieces → Read Stmt
expr_row s = mapped ended_row (chain (mapped statement_of (s.inner InBlock 0 false)) (λ _. opt (token (is_sign word.Semi))))

module _ (s : Readers) (opened : Pieces → Read Stmt) (opened_tail : Pieces → Read Expr) where
  abbrev pub row : Pieces → Read Stmt
  row = choice (tokens (only word.Let)) (let_row s) (choice expr_first (expr_row s) (stmt_group opened opened_tail))

  abbrev pub rows : Pieces → Read (List Stmt)
  rows = rows_of closed row
