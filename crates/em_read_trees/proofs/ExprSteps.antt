-- Expressions, statements and blocks, one step of groups and of nodes.
use Rattle.std.proofs.Common.{◌≡◌, ℕ, zero, suc, ◌-◌, ◌<◌, Bool, refl, sym, ap, ◌∙◌, arith}
use Rattle.em_tree.specs.Starts.{Pieces}
use Rattle.em_grammar.specs.ExprSets.{Start}
use Rattle.em_grammar.specs.PatReader.{pat_node, pat_by, pat_in}
use Rattle.em_grammar.specs.TypeReader.{path_in}
use Rattle.em_grammar.specs.NodeReader.{expr_node}
use Rattle.em_grammar.specs.StmtReader.{expr_none, plain_stmt, bare_stmt, tail_stmt, row, block_node, body}
use Rattle.em_grammar.specs.ExprKnot.{expr_by, opens_in, expr_in, stmt_in, block_in, body_in}
use Rattle.em_read.specs.Parse.{opened_by}
use Rattle.em_read_trees.specs.ExprKnots.{pat_below, tail_in, opened_stmts, opened_tails, opened_blocks, in_expr, in_stmt}

pub expr_zero : (n depth : ℕ) (start : Start) (least : ℕ) (h : Bool) (i : Pieces) → depth ≡ 0 → expr_in n depth start least h i ≡ expr_none start least i
unfolding expr_by
expr_zero n zero start least h i e = refl
expr_zero n (suc depth) start least h i e = absurd (omega (arith, e))

step : (n depth : ℕ) (start : Start) (least : ℕ) (h : Bool) (i : Pieces) → expr_in n (suc depth) start least h i ≡ expr_node (in_expr n (suc depth) depth) depth start least h i
unfolding expr_by opens_in
step zero depth start least h i = refl
step (suc n) depth start least h i = refl

pub expr_at : (n depth : ℕ) (start : Start) (least : ℕ) (h : Bool) (i : Pieces) → 0 < depth
    → expr_in n depth start least h i ≡ expr_node (in_expr n depth (depth - 1)) (depth - 1) start least h i
expr_at n zero start least h i e = absurd (omega (arith, e))
expr_at n (suc depth) start least h i e =
    let back : suc depth - 1 ≡ depth = omega arith in
    step n depth start least h i ∙ ap (λ k. expr_node (in_expr n (suc depth) k) k start least h i) (sym back)

pub stmt_at : (n depth : ℕ) (i : Pieces) → stmt_in n depth i ≡ bare_stmt (in_stmt n depth) (opened_stmts n depth) i
unfolding plain_stmt bare_stmt opens_in
stmt_at zero depth i = refl
stmt_at (suc n) depth i = refl

pub tail_at : (n depth : ℕ) (i : Pieces) → tail_in n depth i ≡ tail_stmt (in_stmt n depth) (opened_tails n depth) i
unfolding tail_stmt opens_in
tail_at zero depth i = refl
tail_at (suc n) depth i = refl

pub block_at : (n depth : ℕ) (i : Pieces) → block_in n depth i ≡ block_node (in_stmt n depth) (opened_stmts n depth) (opened_tails n depth) (opened_blocks n depth) i
unfolding row block_node opens_in
block_at zero depth i = refl
block_at (suc n) depth i = refl

pub body_at : (n depth : ℕ) (i : Pieces) → body_in n depth i ≡ body (in_stmt n depth) (opened_stmts n depth) (opened_tails n depth) i
unfolding row body opens_in
body_at zero depth i = refl
body_at (suc n) depth i = refl

pub pat_at : (n depth : ℕ) (i : Pieces) → pat_below n depth i ≡ pat_node n (path_in n depth) (pat_in n depth) (opened_by (λ k. pat_below k depth) n) i
unfolding pat_in pat_by
pat_at zero depth i = refl
pat_at (suc n) depth i = refl
