-- What function values promise that read expressions, statements and blocks, and what they read inside of one another.
use denote.Ref.{MutBor}
use Rattle.std.specs.Prelude.{ℕ, suc, ◌+◌, ◌<◌, Bool, false, Result}
use Rattle.std.specs.declared.alloc.Global.{Global}
use Rattle.em_read.specs.declared.cursor.Cursor.{Cursor}
use Rattle.em_read.specs.declared.stop.Stop.{Stop}
use Rattle.em_read.specs.Parse.{Reads, opened_by}
use Rattle.em_read_exprs.specs.declared.inside.Start.{Start}
use Rattle.em_read_exprs.specs.Exprs.{start_of}
use Rattle.em_tree.specs.declared.expr.Block.{Block}
use Rattle.em_tree.specs.declared.expr.Body.{Body}
use Rattle.em_tree.specs.declared.expr.Expr.{Expr}
use Rattle.em_tree.specs.declared.expr.Stmt.{Stmt}
use Rattle.em_tree.specs.declared.pat.Pat.{Pat}
use Rattle.em_tree.specs.Starts.{Pieces}
use Rattle.em_grammar.specs.Reader.{Read, Absent}
use Rattle.em_grammar.specs.LiteralReader.{int_in, signed_in}
use Rattle.em_grammar.specs.TypeReader.{plain_type_in, path_in}
use Rattle.em_grammar.specs.PatReader.{pat_in, top_pat_in}
use Rattle.em_grammar.specs.ExprSets.{Anywhere}
use Rattle.em_grammar.specs.ExprReader.{Readers}
use Rattle.em_grammar.specs.ExprKnot.{opens_in, tail_by, expr_in, stmt_in, block_in}

-- where groups and depth are less than the limit together, it may be called and reads as the definition does
pub record Knot {T : Type 0} (R : ℕ → ℕ → Pieces → Read T) (limit : ℕ) (pre : Global → MutBor Cursor → ℕ → ℕ → Type 0) (post : Global → MutBor Cursor → ℕ → ℕ → Result T Stop → MutBor Cursor → Type 0) : Type 0 where
  pub callable : (alloc : Global) (old : MutBor Cursor) (groups depth : ℕ) → groups + depth < limit → pre alloc old groups depth
  pub reads : (alloc : Global) (old new : MutBor Cursor) (groups depth : ℕ) (r : Result T Stop) → groups + depth < limit
      → post alloc old groups depth r new → Reads (R groups depth old.now.rest.now) r new.now.rest.now

-- the same of a function value that reads expressions
pub record ExprKnot (limit : ℕ) (pre : Global → MutBor Cursor → ℕ → ℕ → Start → ℕ → Bool → Type 0) (post : Global → MutBor Cursor → ℕ → ℕ → Start → ℕ → Bool → Result Expr Stop → MutBor Cursor → Type 0) : Type 0 where
  pub callable : (alloc : Global) (old : MutBor Cursor) (groups depth : ℕ) (start : Start) (least : ℕ) (h : Bool) → groups + depth < limit → pre alloc old groups depth start least h
  pub reads : (alloc : Global) (old new : MutBor Cursor) (groups depth : ℕ) (start : Start) (least : ℕ) (h : Bool) (r : Result Expr Stop) → groups + depth < limit
      → post alloc old groups depth start least h r new → Reads (expr_in groups depth (start_of start) least h old.now.rest.now) r new.now.rest.now

-- a pattern one node deeper than the number
abbrev pub pat_below : ℕ → ℕ → Pieces → Read Pat
pat_below n depth = pat_in n (suc depth)

-- a tail that is a fragment of the kind `stmt`
abbrev pub tail_in : ℕ → ℕ → Pieces → Read Expr
tail_in n = tail_by n (opens_in n)

-- what the pieces of groups are
abbrev pub opened_stmts : ℕ → ℕ → Pieces → Read Stmt
opened_stmts n depth = opened_by (λ k. stmt_in k depth) n

abbrev pub opened_tails : ℕ → ℕ → Pieces → Read Expr
opened_tails n depth = opened_by (λ k. tail_in k depth) n

abbrev pub opened_blocks : ℕ → ℕ → Pieces → Read (Block Body)
opened_blocks n depth = opened_by (λ k. block_in k depth) n

abbrev pub opened_exprs : ℕ → ℕ → Pieces → Read Expr
opened_exprs n depth = opened_by (λ k. expr_in k depth Anywhere 0 false) n

-- what stands inside of an expression that is a node at the first depth, one node deeper
abbrev pub in_expr : ℕ → ℕ → ℕ → Readers
in_expr n depth deeper = record {
  ty = plain_type_in n deeper;
  path = path_in n deeper;
  pat = pat_in n depth;
  top = top_pat_in n deeper;
  int = int_in n;
  signed = opened_by signed_in n;
  block = block_in n deeper;
  inner = expr_in n deeper;
  opened = opened_exprs n depth;
}

-- what stands inside of a statement. It asks for no block and no literal, and for no group but by statements
abbrev pub in_stmt : ℕ → ℕ → Readers
in_stmt n depth = record {
  ty = plain_type_in n depth;
  path = path_in n depth;
  pat = pat_below n depth;
  top = top_pat_in n depth;
  int = int_in n;
  signed = λ i. Absent;
  block = λ i. Absent;
  inner = expr_in n depth;
  opened = λ i. Absent;
}
