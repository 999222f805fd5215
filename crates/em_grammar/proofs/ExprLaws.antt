-- Laws of expressions, statements and blocks.
use Rattle.std.proofs.lemmas.List.{append-nil}
use Rattle.std.proofs.Common.{◌≡◌, ℕ, zero, suc, Bool, true, false, List, [], ◌++◌, refl, sym, ◌∙◌, ap, subst, arith, max, inl}
use Rattle.em_tree.specs.declared.expr.Block.{Block}
use Rattle.em_tree.specs.declared.expr.Body.{Body}
use Rattle.em_tree.specs.declared.expr.Expr.{Expr}
use Rattle.em_tree.specs.declared.expr.Stmt.{Stmt, out-Stmt}
use Rattle.em_tree.specs.Starts.{Pieces}
use Rattle.em_tree.specs.Parts.{each}
use Rattle.em_tree.specs.ExprShape.{ends_open, ends_bare}
use Rattle.em_tree.specs.ExprGrammar.{IsExpr, IsStmt, IsBlock, IsBody, BlockWithin, BodyWithin, IsFragmentStmt, expr_pieces, stmt_pieces, body_pieces, block_pieces}
use Rattle.em_grammar.specs.Sets.{Inside, Nested, anything}
use Rattle.em_grammar.specs.Reader.{Read, Found, Absent, Deep, and_then}
use Rattle.em_grammar.specs.Rows.{Rows, rows_of}
use Rattle.em_grammar.specs.Pairs.{Pair, Sound}
use Rattle.em_grammar.specs.ExprSets.{Anywhere, end_clear, expr_first, level_clear, block_first}
use Rattle.em_grammar.specs.StmtReader.{Row, row_closed, row, body, body_of, stmt_first, stmt_clear}
use Rattle.em_grammar.specs.ExprLang.{deeper}
use Rattle.em_grammar.specs.ExprKnot.{without_blocks, expr_by, opens_in, expr_in, stmt_in, block_in, body_in}
use Rattle.em_grammar.specs.TextReader.{TextsRead}
use Rattle.em_grammar.specs.ExprLaws.{ExprsExact, OneExpr, StmtsRead, StmtsExact, OneStmt, BlocksRead, BlocksExact, OneBlock, BodiesFound, BodiesRead, OneBody}
use Rattle.em_grammar.proofs.Forms.{same_of}
use Rattle.em_grammar.proofs.Nesting.{nesting, only_one, exact_of}
use Rattle.em_grammar.proofs.TextPairs.{texts_read}
use Rattle.em_grammar.proofs.RowPairs.{RowIs, row_pieces, core_last, rows_end_so}
use Rattle.em_grammar.proofs.BodyForms.{to_body, of_body, body_yield}
use Rattle.em_grammar.proofs.FirmKnot.{exprs_firm, stmts_firm, blocks_steady}
use Rattle.em_grammar.proofs.ExprKnot.{known, exprs_read, blocks_read, stmts_read, rows_at}

pub texts : TextsRead
texts = texts_read

-- ---- the grammar's names of what is within a depth

block_in_depth : (d : ℕ) (b : Block Body) → IsBlock d (IsExpr d) (deeper d) b → BlockWithin d b
unfolding BlockWithin IsExpr
block_in_depth zero b m = m
block_in_depth (suc d) b m = m

block_of_depth : (d : ℕ) (b : Block Body) → BlockWithin d b → IsBlock d (IsExpr d) (deeper d) b
unfolding BlockWithin IsExpr
block_of_depth zero b m = m
block_of_depth (suc d) b m = m

body_in_depth : (d : ℕ) (b : Body) → IsBody d (IsExpr d) (deeper d) b → BodyWithin d b
unfolding BodyWithin IsExpr
body_in_depth zero b m = m
body_in_depth (suc d) b m = m

body_of_depth : (d : ℕ) (b : Body) → BodyWithin d b → IsBody d (IsExpr d) (deeper d) b
unfolding BodyWithin IsExpr
body_of_depth zero b m = m
body_of_depth (suc d) b m = m

stmt_in_depth : (d : ℕ) (y : Stmt) → IsStmt d (IsExpr d) (deeper d) false y → IsFragmentStmt d y
unfolding IsFragmentStmt IsExpr
stmt_in_depth zero y m = m
stmt_in_depth (suc d) y m = m

stmt_of_depth : (d : ℕ) (y : Stmt) → IsFragmentStmt d y → IsStmt d (IsExpr d) (deeper d) false y
unfolding IsFragmentStmt IsExpr
stmt_of_depth zero y m = m
stmt_of_depth (suc d) y m = m

-- ---- reading

pub the_stmts : StmtsRead
the_stmts n depth = same_of stmt_in_depth stmt_of_depth (stmts_read n depth)

pub the_blocks : BlocksRead
the_blocks n depth = same_of block_in_depth block_of_depth (blocks_read n depth)

pub bodies_found : BodiesFound
unfolding body
bodies_found n depth i x r is =
    go (rows_of row_closed (row (without_blocks n (opens_in n) depth (expr_by n (opens_in n) depth)) ((opens_in n).stmt depth) ((opens_in n).tail depth)) i) ((rows_at n depth).sound i) is
  where
    same_body : (rows : List Row) (q : Pieces) → Found (body_of rows) q ≡ Found x r → x ≡ body_of rows
    same_body rows q e = cc

    same_rest : (rows : List Row) (q : Pieces) → Found (body_of rows) q ≡ Found x r → r ≡ q
    same_rest rows q e = cc

    go : (m : Read (List Row)) → Sound (Rows row_closed RowIs) (each row_pieces) m i → and_then m (λ rows q. Found (body_of rows) q) ≡ Found x r → ((d : ℕ) × BodyWithin d x) × (i ≡ body_pieces x ++ r)
    go (Found rows q) u e =
        let at : x ≡ body_of rows = same_body rows q e in
        let within : IsBody (suc u.0.0) (IsExpr (suc u.0.0)) (deeper (suc u.0.0)) (body_of rows) = to_body known u.0.0 rows u.0.1 in (
          (suc u.0.0, subst (λ b. BodyWithin (suc u.0.0) b) (sym at) (body_in_depth (suc u.0.0) (body_of rows) within)),
          u.1 ∙ ap (λ k. k ++ q) (sym (body_yield known u.0.0 rows u.0.1)) ∙ ap (λ b. body_pieces b ++ q) (sym at) ∙ ap (λ q. body_pieces x ++ q) (sym (same_rest rows q e)),
        )
    go Absent u e = cc
    go Deep u e = cc

pub bodies_read : BodiesRead
unfolding body
bodies_read n depth d x h w m =
    let q = of_body known d x (body_of_depth d x m) in
    let yield : body_pieces x ≡ each row_pieces q.0 = ap (λ b. body_pieces b) q.2 ∙ body_yield known d q.0 q.1 in
    ap (λ i. body_in n depth i) (yield ∙ sym (append-nil (each row_pieces q.0)))
    ∙ ap (λ m. and_then m (λ rows q. Found (body_of rows) q)) ((rows_at n depth).whole d q.0 [] h (subst (λ k. Inside (Nested n) k) yield w) q.1 (rows_end_so q.0))
    ∙ ap (λ b. Found b []) (sym q.2)

-- ---- steady, so exact at every depth

no_end : (a b h : Bool) → (end_clear a b 0 h).end ≡ true
no_end true true h = refl
no_end true false h = refl
no_end false b h = refl

exprs_at : (h : Bool) (n depth : ℕ) → Pair (Nested n) depth (λ d x. IsExpr d h x) expr_pieces (expr_in n depth Anywhere 0 h) expr_first (level_clear Anywhere 0 h)
exprs_at h n depth = same_of (λ d x m. m.0) (λ d x m. (m, inl (omega arith), refl)) (exprs_read n depth Anywhere 0 h (omega arith))

pub exprs_exact : ExprsExact
exprs_exact h =
    exact_of Expr (λ d x. IsExpr d h x) expr_pieces (λ n depth. expr_in n depth Anywhere 0 h) expr_first (level_clear Anywhere 0 h) (exprs_at h) (λ d x m. no_end (ends_open x) (ends_bare x) h)
    (λ n m d e l k. exprs_firm n m d e l k Anywhere 0 h (omega arith))

pub stmts_exact : StmtsExact
stmts_exact = exact_of Stmt IsFragmentStmt stmt_pieces stmt_in stmt_first stmt_clear the_stmts (λ d y m. core_last (out-Stmt y)) stmts_firm

pub blocks_exact : BlocksExact
blocks_exact = exact_of (Block Body) BlockWithin block_pieces block_in block_first (λ _. anything) the_blocks (λ d b m. refl) blocks_steady

-- ---- one tree for a yield

pub one_expr : OneExpr
one_expr d e h x y m k is =
    let deep = nesting (expr_pieces x) in
    only_one (exprs_read deep.0 (max d e) Anywhere 0 h (omega arith)) d e x y (omega arith) (omega arith) (m, inl (omega arith), refl) (k, inl (omega arith), refl) deep.1 is
    (no_end (ends_open x) (ends_bare x) h) (no_end (ends_open y) (ends_bare y) h)

pub one_stmt : OneStmt
one_stmt d e x y m k is =
    let deep = nesting (stmt_pieces x) in
    only_one (the_stmts deep.0 (max d e)) d e x y (omega arith) (omega arith) m k deep.1 is (core_last (out-Stmt x)) (core_last (out-Stmt y))

pub one_block : OneBlock
one_block d e x y m k is = let deep = nesting (block_pieces x) in only_one (the_blocks deep.0 (max d e)) d e x y (omega arith) (omega arith) m k deep.1 is refl refl

pub one_body : OneBody
one_body d e x y m k is =
    let deep = nesting (body_pieces x) in
    same x y (sym (bodies_read deep.0 (max d e) d x (omega arith) deep.1 m) ∙ ap (λ i. body_in deep.0 (max d e) i) is
    ∙ bodies_read deep.0 (max d e) e y (omega arith) (subst (λ k. Inside (Nested deep.0) k) is deep.1) k)
  where
    same : (x y : Body) → Found x [] ≡ Found y [] → x ≡ y
    same x y e = cc
