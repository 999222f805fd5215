-- Blocks, and fragments of the kind `stmt`, are read.
use Rattle.std.proofs.Common.{◌≡◌, ℕ, suc, true, false, List, [], ◌∷◌, ◌++◌, refl, sym, ◌∙◌, ap, subst, arith, inl, inr}
use Rattle.std.specs.Prelude.{codes}
use Rattle.em_base.specs.declared.token.Token.{Token}
use Rattle.em_tree.specs.declared.piece.Group.{Group}
use Rattle.em_tree.specs.declared.piece.FragmentKind.{FragmentKind}
use Rattle.em_tree.specs.declared.piece.FragmentKind.TheVariants as fk
use Rattle.em_tree.specs.declared.piece.Piece.TheVariants as p
use Rattle.em_tree.specs.declared.expr.Block.{Block}
use Rattle.em_tree.specs.declared.expr.Body.{Body}
use Rattle.em_tree.specs.declared.expr.Expr.{Expr, out-Expr}
use Rattle.em_tree.specs.declared.expr.Expr.TheVariants as made
use Rattle.em_tree.specs.declared.expr.Stmt.{Stmt, out-Stmt}
use Rattle.em_tree.specs.Starts.{Pieces, kind_of, pieces_of}
use Rattle.em_tree.specs.Parts.{leaves}
use Rattle.em_tree.specs.Tokens.{Is}
use Rattle.em_tree.specs.Yields.{piece, whole, as_it_is}
use Rattle.em_tree.specs.ExprShape.{edge, ends_open, ends_bare}
use Rattle.em_tree.specs.ExprGrammar as g
use Rattle.em_tree.specs.ExprGrammar.{IsExpr, IsStmt, IsTail, IsBlock, AreBlocks, expr_pieces, stmt_pieces, body_pieces, block_pieces}
use Rattle.em_grammar.specs.declared.sort.Written.TheVariants as word
use Rattle.em_grammar.specs.Sets.{groups, either, anything}
use Rattle.em_grammar.specs.Lang.{Seq, Image, Or, Grp}
use Rattle.em_grammar.specs.Reader.{Read}
use Rattle.em_grammar.specs.Rows.{Rows}
use Rattle.em_grammar.specs.Pairs.{Pair}
use Rattle.em_grammar.specs.ExprSets.{InBlock, expr_first, level_clear, block_kind, block_first, must_dot}
use Rattle.em_grammar.specs.ExprReader.{Readers}
use Rattle.em_grammar.specs.StmtReader.{Row, row_closed, plain_block_of, group_block_of, is_block_group, stmt_kind, is_stmt_group, stmt_group_of, tail_group_of, plain_first, bare_stmt, block_node, tail_stmt, stmt_clear}
use Rattle.em_grammar.specs.ExprLang.{Operand, deeper}
use Rattle.em_grammar.proofs.Pairs.{tok, seq_of, part_seq, always}
use Rattle.em_grammar.proofs.Forms.{or_of, same_of, Opened, group_of}
use Rattle.em_grammar.proofs.Chains.{image_in, same_up}
use Rattle.em_grammar.proofs.Tests.{sign}
use Rattle.em_grammar.proofs.ExprLayers.{same_expr, pieces_group}
use Rattle.em_grammar.proofs.ExprGrows.{Deepens, stmt_grows, block_grows}
use Rattle.em_grammar.proofs.StmtPairs.{Floor, plain_sides}
use Rattle.em_grammar.proofs.StmtForms.{kind_stmt, fits_four, four_fits, sides_of, of_sides}
use Rattle.em_grammar.proofs.RowPairs.{RowIs, rows_read, rows_end, core_last, end_last, pieces_group_bare}
use Rattle.em_grammar.proofs.BodyForms.{to_body, body_yield, of_body}

abbrev BlockIs : ℕ → Block Body → Type 0
BlockIs d b = IsBlock d (IsExpr d) (deeper d) b

abbrev PlainIs : ℕ → Token × (List Row × Token) → Type 0
PlainIs = Seq (λ d. Is (codes "{")) (Seq (Rows row_closed RowIs) (λ d. Is (codes "}")))

abbrev BlockSides : ℕ → Block Body → Type 0
BlockSides = Or (Image plain_block_of PlainIs) (Image group_block_of (Grp is_block_group BlockIs block_pieces))

kind_block : (k : FragmentKind) → block_kind k ≡ true → k ≡ fk.Block
kind_block fk.Block h = refl
kind_block _ h = cc

abbrev block_leaves : List Group → Pieces → Pieces
block_leaves gs core = leaves piece whole as_it_is gs core

more_blocks : (u : Group) (gs : List Group) (core : Pieces) → kind_of u ≡ fk.Block → pieces_of u ≡ block_leaves gs core → AreBlocks gs core → AreBlocks (u ∷ gs) core
more_blocks u [] core k ps m = (k, ps)
more_blocks u (h ∷ gs) core k ps m = (k, ps, m)

fewer_blocks : (u : Group) (gs : List Group) (core : Pieces) → AreBlocks (u ∷ gs) core → (kind_of u ≡ fk.Block) × (pieces_of u ≡ block_leaves gs core) × AreBlocks gs core
fewer_blocks u [] core m = (m.0, m.1, tt)
fewer_blocks u (h ∷ gs) core m = (m.0, m.1, m.2)

module _ (known : (d : ℕ) → Deepens d (suc d)) where
  to_block : (d : ℕ) (b : Block Body) → BlockSides d b → BlockIs (suc d) b
  to_block d b (inl m) =
      subst (λ b. BlockIs (suc d) b) (sym m.2)
      (record { opens = m.1.0; body = to_body known d m.0.1.0 m.1.1.0; closes = m.1.1.1; groups = tt })
  to_block d b (inr m) =
      let k : BlockIs (suc d) m.0.1 = block_grows known d m.0.1 m.1.2 in
      subst (λ b. BlockIs (suc d) b) (sym m.2)
      (record {
        opens = k.opens;
        body = k.body;
        closes = k.closes;
        groups = more_blocks m.0.0 m.0.1.groups (p.Token m.0.1.open ∷ (body_pieces m.0.1.body ++ p.Token m.0.1.close ∷ [])) (kind_block (kind_of m.0.0) m.1.0) m.1.1 k.groups;
      })

  of_block : (d : ℕ) (b : Block Body) → BlockIs d b → BlockSides d b
  of_block d b m = go b.groups m.groups
    where
      go : (gs : List Group) → AreBlocks gs (p.Token b.open ∷ (body_pieces b.body ++ p.Token b.close ∷ [])) → BlockSides d (record { groups = gs; «open» = b.open; body = b.body; close = b.close })
      go [] k =
          let q = of_body known d b.body m.body in
          inl ((b.open, (q.0, b.close)), (m.opens, (q.1, m.closes)), ap (λ z. record { groups = []; «open» = b.open; body = z; close = b.close }) q.2)
      go (u ∷ gs) k =
          let q = fewer_blocks u gs (p.Token b.open ∷ (body_pieces b.body ++ p.Token b.close ∷ [])) k in
          inr ((u, record { groups = gs; «open» = b.open; body = b.body; close = b.close }), (ap (λ k. block_kind k) q.0, q.1, record { opens = m.opens; body = m.body; closes = m.closes; groups = q.2 }), refl)

  module _ (H : Pieces → Type 0) (depth : ℕ) (s : Readers) (a : Floor H depth s) (opened : Pieces → Read Stmt) (opened_tail : Pieces → Read Expr)
      (stmts : Opened H depth (λ d y. IsStmt d (IsExpr d) (deeper d) false y) stmt_pieces opened) (tails : Opened H depth (λ d x. IsTail d (IsExpr d) (deeper d) x) expr_pieces opened_tail) where
    pub block_read : (opened_block : Pieces → Read (Block Body)) → Opened H depth BlockIs block_pieces opened_block → Pair H depth BlockIs block_pieces (block_node s opened opened_tail opened_block) block_first (λ _. anything)
    unfolding block_node
    block_read opened_block blocks =
        same_up (block_grows known) to_block of_block
        (or_of (image_in plain_block_of block_pieces (λ d t m. ap (λ k. piece t.0 ++ (k ++ piece t.1.1)) (body_yield known d t.1.0 m.1.0)) (λ d t m i n. always i)
        (seq_of (tok (sign word.OpenBrace)) (part_seq (rows_read H depth s a opened opened_tail stmts tails) (tok (sign word.CloseBrace)) (rows_end H depth s a opened opened_tail stmts tails)) (λ _. refl)))
        (image_in group_block_of block_pieces (λ d t m. refl) (λ d t m i n. always i) (group_of is_block_group block_kind (λ g is. is) blocks)) refl)

    pub stmt_read : Pair H depth (λ d y. IsStmt d (IsExpr d) (deeper d) false y) stmt_pieces (bare_stmt s opened) (either plain_first (groups stmt_kind)) stmt_clear
    unfolding bare_stmt
    stmt_read =
        same_up (λ d y m. stmt_grows known d false y m) (of_sides known) (λ d y m. sides_of known d false y refl m)
        (or_of (plain_sides H depth s a) (image_in stmt_group_of stmt_pieces (λ d t m. pieces_group_bare t) (λ d t m i n. always i) (group_of is_stmt_group stmt_kind (λ g is. is) stmts)) refl)

    pub stmt_last : (y : Stmt) → (stmt_clear y).end ≡ true
    stmt_last y = core_last (out-Stmt y)

    abbrev TailSides : ℕ → Expr → Type 0
    TailSides = Or (Operand InBlock 0 false) (Image tail_group_of (Grp is_stmt_group (λ d x. IsTail d (IsExpr d) (deeper d) x) expr_pieces))

    to_tail : (d : ℕ) (x : Expr) → TailSides d x → IsTail d (IsExpr d) (deeper d) x
    to_tail d x (inl m) = g.IsTail.expr m.0 (fits_four (edge x) m.2)
    to_tail d x (inr m) = g.IsTail.group (ap (λ k. out-Expr k) m.2 ∙ made.outs-Group m.0.0 m.0.1) (kind_stmt (kind_of m.0.0) m.1.0) m.1.1 m.1.2

    of_tail : (d : ℕ) (x : Expr) → IsTail d (IsExpr d) (deeper d) x → TailSides d x
    of_tail d x (g.IsTail.expr m e) = inl (m, inl (omega arith), four_fits (edge x) e)
    of_tail d x (g.IsTail.group {y} {g = u} o k ps m) = inr ((u, y), (ap (λ k. stmt_kind k) k, ps, m), same_expr x (made.Group u y) (o ∙ sym (made.outs-Group u y)))

    pub tail_read : Pair H depth (λ d x. IsTail d (IsExpr d) (deeper d) x) expr_pieces (tail_stmt s opened_tail) (either expr_first (groups stmt_kind)) (level_clear InBlock 0 false)
    unfolding tail_stmt
    tail_read =
        same_of to_tail of_tail
        (or_of (a.inner InBlock 0 false (omega arith)) (image_in tail_group_of expr_pieces (λ d t m. pieces_group t.0 t.1) (λ d t m i n. always i) (group_of is_stmt_group stmt_kind (λ g is. is) tails)) refl)

    pub tail_last : (x : Expr) → (level_clear InBlock 0 false x).end ≡ true
    tail_last x = end_last (must_dot InBlock (out-Expr x)) (ends_open x) (ends_bare x)
