-- Expressions, statements and blocks, by how deep they nest and how often groups stand in one another.
use Rattle.std.specs.Prelude.{ℕ, zero, suc, Bool, true, false}
use Rattle.em_tree.specs.declared.literal.Literal.{Literal}
use Rattle.em_tree.specs.declared.expr.Block.{Block}
use Rattle.em_tree.specs.declared.expr.Body.{Body}
use Rattle.em_tree.specs.declared.expr.Expr.{Expr}
use Rattle.em_tree.specs.declared.expr.Stmt.{Stmt}
use Rattle.em_tree.specs.Starts.{Pieces}
use Rattle.em_grammar.specs.Reader.{Read, Absent, Deep}
use Rattle.em_grammar.specs.LiteralReader.{literal_in, int_in}
use Rattle.em_grammar.specs.TypeReader.{plain_type_in, path_in}
use Rattle.em_grammar.specs.PatReader.{pat_in, top_pat_in}
use Rattle.em_grammar.specs.ExprSets.{Start, Anywhere}
use Rattle.em_grammar.specs.ExprReader.{Readers}
use Rattle.em_grammar.specs.StmtReader.{expr_none, bare_stmt, tail_stmt, block_node, body}
use Rattle.em_grammar.specs.NodeReader.{expr_node}

-- what reads the pieces of groups, at a depth
pub record Opens : Type 0 where
  pub expr : ℕ → Pieces → Read Expr
  pub stmt : ℕ → Pieces → Read Stmt
  pub tail : ℕ → Pieces → Read Expr
  pub block : ℕ → Pieces → Read (Block Body)
  pub signed : Pieces → Read Literal

-- where no group may stand in a group
abbrev pub shut : Opens
shut = record { expr = λ d i. Deep; stmt = λ d i. Deep; tail = λ d i. Deep; block = λ d i. Deep; signed = λ i. Deep }

module _ (n : ℕ) (o : Opens) where
  -- the readers inside of a node, at a depth, where expressions are read by `inner`
  abbrev pub without_blocks : ℕ → (Start → ℕ → Bool → Pieces → Read Expr) → Readers
  without_blocks depth inner = record {
    ty = plain_type_in n depth;
    path = path_in n depth;
    pat = pat_in n (suc depth);
    top = top_pat_in n depth;
    int = int_in n;
    signed = o.signed;
    block = λ i. Absent;
    inner = inner;
    opened = o.expr depth;
  }

  abbrev pub block_at : ℕ → (Start → ℕ → Bool → Pieces → Read Expr) → Pieces → Read (Block Body)
  block_at depth inner = block_node (without_blocks depth inner) (o.stmt depth) (o.tail depth) (o.block depth)

  abbrev pub readers_at : ℕ → (Start → ℕ → Bool → Pieces → Read Expr) → Readers
  readers_at depth inner = record {
    ty = plain_type_in n depth;
    path = path_in n depth;
    pat = pat_in n (suc depth);
    top = top_pat_in n depth;
    int = int_in n;
    signed = o.signed;
    block = block_at depth inner;
    inner = inner;
    opened = o.expr depth;
  }

  -- expressions that nest no deeper than the number
  unfoldable pub expr_by : ℕ → Start → ℕ → Bool → Pieces → Read Expr
  expr_by zero start least h i = expr_none start least i
  expr_by (suc depth) start least h i = expr_node (readers_at depth (expr_by depth)) depth start least h i

  abbrev pub stmt_by : ℕ → Pieces → Read Stmt
  stmt_by depth = bare_stmt (without_blocks depth (expr_by depth)) (o.stmt depth)

  abbrev pub tail_by : ℕ → Pieces → Read Expr
  tail_by depth = tail_stmt (without_blocks depth (expr_by depth)) (o.tail depth)

  abbrev pub block_by : ℕ → Pieces → Read (Block Body)
  block_by depth = block_at depth (expr_by depth)

  abbrev pub body_by : ℕ → Pieces → Read Body
  body_by depth = body (without_blocks depth (expr_by depth)) (o.stmt depth) (o.tail depth)

-- groups in one another up to the number
unfoldable pub opens_in : ℕ → Opens
opens_in zero = shut
opens_in (suc n) = record {
  expr = λ depth. expr_by n (opens_in n) (suc depth) Anywhere 0 false;
  stmt = stmt_by n (opens_in n);
  tail = tail_by n (opens_in n);
  block = block_by n (opens_in n);
  signed = literal_in true n;
}

abbrev pub expr_in : ℕ → ℕ → Start → ℕ → Bool → Pieces → Read Expr
expr_in n = expr_by n (opens_in n)

abbrev pub stmt_in : ℕ → ℕ → Pieces → Read Stmt
stmt_in n = stmt_by n (opens_in n)

abbrev pub block_in : ℕ → ℕ → Pieces → Read (Block Body)
block_in n = block_by n (opens_in n)

abbrev pub body_in : ℕ → ℕ → Pieces → Read Body
body_in n = body_by n (opens_in n)
