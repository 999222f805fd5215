-- Expressions, statements and blocks are read.
use Rattle.std.proofs.lemmas.List.{append-nil}
use Rattle.std.proofs.Common.{◌≡◌, ℕ, zero, suc, ◌≤◌, Bool, true, false, if◌then◌else◌, [], ◌++◌, refl, sym, ◌∙◌, ap, subst, arith, inl}
use Rattle.em_tree.specs.declared.expr.MacroCall.{MacroCall}
use Rattle.em_tree.specs.declared.expr.Expr.{Expr, out-Expr}
use Rattle.em_tree.specs.declared.expr.Expr.TheVariants as made
use Rattle.em_tree.specs.declared.expr.Expr.TheOpen.{Expr-F}
use Rattle.em_tree.specs.declared.expr.Stmt.{Stmt, out-Stmt}
use Rattle.em_tree.specs.Starts.{Pieces}
use Rattle.em_tree.specs.Parts.{each, macro_call_parts}
use Rattle.em_tree.specs.Yields.{piece, whole, as_it_is}
use Rattle.em_tree.specs.PathGrammar.{IsLiteral, literal_pieces}
use Rattle.em_tree.specs.PatGrammar.{IsPat, pat_pieces}
use Rattle.em_tree.specs.ExprShape.{strength_of, ends_open, ends_bare}
use Rattle.em_tree.specs.ExprGrammar as g
use Rattle.em_tree.specs.ExprGrammar.{IsExpr, IsMacro, IsOperand, IsStmt, IsTail, IsBlock, expr_pieces, stmt_pieces, block_pieces}
use Rattle.em_grammar.specs.declared.sort.Written.TheVariants as word
use Rattle.em_grammar.specs.Sets.{next, tokens, anything, name_sort, Inside, Nested}
use Rattle.em_grammar.specs.Reader.{Read, Found, Absent, Deep, or_stay}
use Rattle.em_grammar.specs.Pairs.{Pair, Part, Sound, Takes}
use Rattle.em_grammar.specs.ExprSets.{Start, Anywhere, InBlock, expr_first, level_clear, on, must_dot, block_first, pat_start, pat_follow}
use Rattle.em_grammar.specs.PatReader.{pat_in}
use Rattle.em_grammar.specs.StmtReader.{row_closed, row, stmt_first, stmt_clear, call_of, macro_call, expr_none}
use Rattle.em_grammar.specs.Rows.{Rows, rows_of, rows_clear}
use Rattle.em_grammar.specs.ExprLang.{Operand, Node, deeper, edge_fits}
use Rattle.em_grammar.specs.ExprKnot.{Opens, without_blocks, readers_at, expr_by, block_by, opens_in, expr_in, stmt_in, block_in}
use Rattle.em_grammar.proofs.Pairs.{tok, seq_of, always, in_subset, sound_stay}
use Rattle.em_grammar.proofs.Forms.{same_of, with_clear, Opened, opened_of, unopened}
use Rattle.em_grammar.proofs.Chains.{image_in, first_in, lower_of}
use Rattle.em_grammar.proofs.Tests.{sign, name}
use Rattle.em_grammar.proofs.TextPairs.{delimited_pair}
use Rattle.em_grammar.proofs.LiteralPairs.{int_reads, literal_reads}
use Rattle.em_grammar.proofs.TypeNodes.{type_grows}
use Rattle.em_grammar.proofs.TypePairs.{paths_read, plain_types_read}
use Rattle.em_grammar.proofs.PatPairs.{pats_read, tops_read}
use Rattle.em_grammar.proofs.ExprLayers.{pieces_macro}
use Rattle.em_grammar.proofs.ExprFacts.{edge_at}
use Rattle.em_grammar.proofs.Ground.{Ground}
use Rattle.em_grammar.proofs.ExprGrows.{Deepens, no_expr, node_expr, expr_node_of, expr_grows, node_grows, block_grows, stmt_grows, tail_grows}
use Rattle.em_grammar.proofs.ExprLevels.{prefix_fits, clear_stops, expr_pair}
use Rattle.em_grammar.proofs.StmtPairs.{Floor}
use Rattle.em_grammar.proofs.RowPairs.{end_last, core_last, RowIs, row_pieces, row_first, after_row, rows_read}
use Rattle.em_grammar.proofs.BlockPairs.{block_read, stmt_read, tail_read}

pub known : (d : ℕ) → Deepens d (suc d)
known d = record { types = type_grows d false; paths = λ x m. (paths_read 0 0).grows d x m; pats = λ x m. (pats_read 0 0).grows d x m; tops = λ x m. (tops_read 0 0).grows d x m }

-- ---- macro calls

abbrev pub call_pieces : MacroCall → Pieces
call_pieces call = macro_call_parts piece whole as_it_is call

pub call_pair : (H : Pieces → Type 0) (depth : ℕ) → Pair H depth (λ d. IsMacro) call_pieces macro_call (tokens name_sort) (λ _. anything)
call_pair H depth =
    same_of (λ d x m. subst (λ x. IsMacro x) (sym m.2) (m.1.0, m.1.1.0, m.1.1.1)) (λ d x m. ((x.name, (x.bang, x.text)), (m.0, (m.1, m.2)), refl))
    (image_in call_of call_pieces (λ d t m. refl) (λ d t m i n. always i) (seq_of (tok name) (seq_of (tok (sign word.Not)) (delimited_pair H depth) (λ _. refl)) (λ _. refl)))

call_operand : (start : Start) (least : ℕ) (h : Bool) (d : ℕ) (call : MacroCall) → least ≤ 13 → IsMacro call → Operand start least h (suc d) (made.Macro call)
call_operand start least h d call low m = (
  node_expr d h (made.Macro call) (g.ExprNode.macro (made.outs-Macro call) m),
  inl (subst (λ k. least ≤ k) (sym (ap strength_of (made.outs-Macro call))) (omega (arith, low))),
  ap (λ e. edge_fits start e) (edge_at (made.Macro call) (Expr-F.Expr::Macro call) (made.outs-Macro call)) ∙ prefix_fits start (Expr-F.Expr::Macro call) refl,
)

call_first : (call : MacroCall) (r : Pieces) → IsMacro call → next expr_first (call_pieces call ++ r) ≡ true
call_first call r m = in_subset (tokens name_sort) expr_first refl (call_pieces call ++ r) (name.told call.name m.0)

-- ---- where no node may be

module _ (H : Pieces → Type 0) (start : Start) (least : ℕ) (h : Bool) (low : least ≤ 13) where
  found_call : (i : Pieces) (b : Bool) (call : MacroCall) (r : Pieces) → IsMacro call → i ≡ call_pieces call ++ r → Sound (Operand start least h) expr_pieces (if b then Deep else Found (made.Macro call) r) i
  found_call i true call r m at = tt
  found_call i false call r m at = ((1, call_operand start least h 0 call low m), at ∙ ap (λ k. k ++ r) (sym (pieces_macro call)))

  none_sound : (i : Pieces) (b : Bool)
      → Sound (Operand start least h) expr_pieces (if b then or_stay (macro_call i) (λ call r. if next (on start least (made.Macro call)) r then Deep else Found (made.Macro call) r) Deep else Absent) i
  none_sound i true =
      sound_stay (λ d. IsMacro) call_pieces (Operand start least h) expr_pieces (macro_call i) (λ call r. if next (on start least (made.Macro call)) r then Deep else Found (made.Macro call) r) Deep i i
      ((call_pair H 0).sound i) (λ call r m at. found_call i (next (on start least (made.Macro call)) r) call r m.1 at) tt
  none_sound i false = tt

  none_here : (d : ℕ) (x : Expr) → d ≤ 0 → Operand start least h d x → ⊥
  none_here zero x e m = no_expr h x m.0
  none_here (suc d) x e m = absurd (omega (arith, e))

  none_pair : Pair H 0 (Operand start least h) expr_pieces (expr_none start least) expr_first (level_clear start least h)
  none_pair = record {
    grows = λ d x m. (expr_grows known d h x m.0, m.1, m.2);
    sound = λ i. none_sound i (next expr_first i);
    begins = λ d x e m. absurd (none_here d x e m);
    whole = λ d x r e w m cl. absurd (none_here d x e m);
    longest = λ d x r e w m en. absurd (none_here d x e m);
    absent = λ i k. ap (λ b. if b then or_stay (macro_call i) (λ call r. if next (on start least (made.Macro call)) r then Deep else Found (made.Macro call) r) Deep else Absent) k;
  }

none_call : (H : Pieces → Type 0) (call : MacroCall) (r : Pieces) → IsMacro call → Inside H (call_pieces call)
    → expr_none InBlock 0 (call_pieces call ++ r) ≡ (if next (on InBlock 0 (made.Macro call)) r then Deep else Found (made.Macro call) r)
none_call H call r m w =
    ap (λ b. if b then or_stay (macro_call (call_pieces call ++ r)) (λ call r. if next (on InBlock 0 (made.Macro call)) r then Deep else Found (made.Macro call) r) Deep else Absent) (call_first call r m)
    ∙ ap (λ k. or_stay k (λ call r. if next (on InBlock 0 (made.Macro call)) r then Deep else Found (made.Macro call) r) Deep) ((call_pair H 0).whole 0 call r (omega arith) w m (always r))

-- ---- what opens groups

pub record OpensRead (n : ℕ) (o : Opens) : Type 0 where
  pub expr : (depth : ℕ) → Opened (Nested n) depth (λ d x. Node d false x) expr_pieces (o.expr depth)
  pub stmt : (depth : ℕ) → Opened (Nested n) depth (λ d y. IsStmt d (IsExpr d) (deeper d) false y) stmt_pieces (o.stmt depth)
  pub tail : (depth : ℕ) → Opened (Nested n) depth (λ d x. IsTail d (IsExpr d) (deeper d) x) expr_pieces (o.tail depth)
  pub block : (depth : ℕ) → Opened (Nested n) depth (λ d b. IsBlock d (IsExpr d) (deeper d) b) block_pieces (o.block depth)
  pub signed : (depth : ℕ) → Opened (Nested n) depth (λ d. IsLiteral true) literal_pieces o.signed

-- ---- by depth

module _ (n : ℕ) (o : Opens) (ok : OpensRead n o) where
  pub record All (depth : ℕ) : Type 0 where
    pub exprs : (start : Start) (least : ℕ) (h : Bool) → least ≤ 13 → Pair (Nested n) depth (Operand start least h) expr_pieces (expr_by n o depth start least h) expr_first (level_clear start least h)
    pub calls : (call : MacroCall) (r : Pieces) → IsMacro call → Inside (Nested n) (expr_pieces (made.Macro call)) → next (level_clear InBlock 0 false (made.Macro call)) r ≡ true
        → expr_by n o depth InBlock 0 false (expr_pieces (made.Macro call) ++ r) ≡ Found (made.Macro call) r
    pub takes : (call : MacroCall) (r : Pieces) → IsMacro call → Inside (Nested n) (expr_pieces (made.Macro call)) → Takes (expr_by n o depth InBlock 0 false (expr_pieces (made.Macro call) ++ r)) r

  pats_at : (depth : ℕ) → Pair (Nested n) (suc depth) IsPat pat_pieces (pat_in n (suc depth)) pat_start (λ _. pat_follow)
  pats_at depth = first_in refl (with_clear (λ _. refl) (pats_read n (suc depth)))

  floor : (depth : ℕ) → All depth → Floor (Nested n) depth (without_blocks n o depth (expr_by n o depth))
  floor depth a = record { inner = a.exprs; ty = plain_types_read n depth; pats = pats_at depth; calls = a.calls; takes = a.takes }

  blocks : (depth : ℕ) → All depth → Pair (Nested n) depth (λ d b. IsBlock d (IsExpr d) (deeper d) b) block_pieces (block_by n o depth) block_first (λ _. anything)
  blocks depth a = block_read known (Nested n) depth (without_blocks n o depth (expr_by n o depth)) (floor depth a) (o.stmt depth) (o.tail depth) (ok.stmt depth) (ok.tail depth) (o.block depth) (ok.block depth)

  ground : (depth : ℕ) → All depth → Ground (Nested n) depth (readers_at n o depth (expr_by n o depth))
  ground depth a = record {
    inner = a.exprs;
    int = int_reads n depth;
    path = paths_read n depth;
    ty = plain_types_read n depth;
    pat = lower_of (pats_at depth);
    top = first_in refl (with_clear (λ _. refl) (tops_read n depth));
    block = blocks depth a;
    signed = ok.signed depth;
    opened = ok.expr depth;
  }

  all_zero : All zero
  unfolding expr_by
  all_zero = record {
    exprs = λ start least h low. none_pair (Nested n) start least h low;
    calls = λ call r m w cl.
        ap (λ k. expr_none InBlock 0 (k ++ r)) (pieces_macro call) ∙ none_call (Nested n) call r m (subst (λ k. Inside (Nested n) k) (pieces_macro call) w)
        ∙ ap (λ b. if b then Deep else Found (made.Macro call) r) (clear_stops InBlock 0 false (made.Macro call) r cl);
    takes = λ call r m w.
        subst (λ k. Takes (expr_none InBlock 0 (k ++ r)) r) (sym (pieces_macro call))
        (subst (λ k. Takes k r) (sym (none_call (Nested n) call r m (subst (λ k. Inside (Nested n) k) (pieces_macro call) w))) (takes (next (on InBlock 0 (made.Macro call)) r) call r));
  }
    where
      takes : (b : Bool) (call : MacroCall) (r : Pieces) → Takes (if b then Deep else Found (made.Macro call) r) r
      takes true call r = tt
      takes false call r = omega arith

  node_pair : (depth : ℕ) → All depth → (start : Start) (least : ℕ) (h : Bool) → least ≤ 13
      → Pair (Nested n) (suc depth) (Operand start least h) expr_pieces (expr_by n o (suc depth) start least h) expr_first (level_clear start least h)
  unfolding expr_by
  node_pair depth a start least h low =
      expr_pair (Nested n) depth (readers_at n o depth (expr_by n o depth)) (ground depth a) start least h low (λ d x m. expr_grows known d h x m)

  all_at : (depth : ℕ) → All depth
  all_at zero = all_zero
  all_at (suc depth) =
      let a : All depth = all_at depth in
      let p : Pair (Nested n) (suc depth) (Operand InBlock 0 false) expr_pieces (expr_by n o (suc depth) InBlock 0 false) expr_first (level_clear InBlock 0 false) = node_pair depth a InBlock 0 false (omega arith) in
      record {
        exprs = node_pair depth a;
        calls = λ call r m w cl. p.whole 1 (made.Macro call) r (omega arith) w (call_operand InBlock 0 false 0 call (omega arith) m) cl;
        takes = λ call r m w. p.longest 1 (made.Macro call) r (omega arith) w (call_operand InBlock 0 false 0 call (omega arith) m) (end_last (must_dot InBlock (out-Expr (made.Macro call))) (ends_open (made.Macro call)) (ends_bare (made.Macro call)));
      }

  -- the pieces of a group of one group more
  node_opened : (depth : ℕ) → Opened (Nested (suc n)) depth (λ d x. Node d false x) expr_pieces (expr_by n o (suc depth) Anywhere 0 false)
  node_opened depth = record {
    grows = λ d x m. node_grows known d false x m;
    sound = λ i. sound i (expr_by n o (suc depth) Anywhere 0 false i) (p.sound i);
    whole = λ d x e w m.
        ap (λ k. expr_by n o (suc depth) Anywhere 0 false k) (sym (append-nil (expr_pieces x)))
        ∙ p.whole (suc d) x [] (omega (arith, e)) w (node_expr d false x m, inl (omega arith), refl) (end_last false (ends_open x) (ends_bare x));
  }
    where
      p : Pair (Nested n) (suc depth) (Operand Anywhere 0 false) expr_pieces (expr_by n o (suc depth) Anywhere 0 false) expr_first (level_clear Anywhere 0 false)
      p = node_pair depth (all_at depth) Anywhere 0 false (omega arith)

      at_depth : (d : ℕ) (x : Expr) → Operand Anywhere 0 false d x → (d : ℕ) × Node d false x
      at_depth zero x m = absurd (no_expr false x m.0)
      at_depth (suc d) x m = (d, expr_node_of d false x m.0)

      sound : (i : Pieces) (m : Read Expr) → Sound (Operand Anywhere 0 false) expr_pieces m i → Sound (λ d x. Node d false x) expr_pieces m i
      sound i (Found x r) u = (at_depth u.0.0 x u.0.1, u.1)
      sound i Absent u = tt
      sound i Deep u = tt

-- ---- by how often groups stand in one another

pub opens_read : (n : ℕ) → OpensRead n (opens_in n)
unfolding opens_in
opens_read zero = record {
  expr = λ depth. unopened (λ d x m. node_grows known d false x m);
  stmt = λ depth. unopened (λ d y m. stmt_grows known d false y m);
  tail = λ depth. unopened (λ d x m. tail_grows known d x m);
  block = λ depth. unopened (λ d b m. block_grows known d b m);
  signed = λ depth. unopened (λ d l m. m);
}
opens_read (suc n) =
    let below : OpensRead n (opens_in n) = opens_read n in
    record {
      expr = node_opened n (opens_in n) below;
      stmt = λ depth.
          opened_of (stmt_read known (Nested n) depth (without_blocks n (opens_in n) depth (expr_by n (opens_in n) depth)) (floor n (opens_in n) below depth (all_at n (opens_in n) below depth))
          ((opens_in n).stmt depth) ((opens_in n).tail depth) (below.stmt depth) (below.tail depth)) (λ d y m. stmt_end y);
      tail = λ depth.
          opened_of (tail_read known (Nested n) depth (without_blocks n (opens_in n) depth (expr_by n (opens_in n) depth)) (floor n (opens_in n) below depth (all_at n (opens_in n) below depth))
          ((opens_in n).stmt depth) ((opens_in n).tail depth) (below.stmt depth) (below.tail depth)) (λ d x m. end_last (must_dot InBlock (out-Expr x)) (ends_open x) (ends_bare x));
      block = λ depth. opened_of (blocks n (opens_in n) below depth (all_at n (opens_in n) below depth)) (λ d b m. refl);
      signed = λ depth. opened_of (literal_reads true n depth) (λ d l m. refl);
    }
  where
    stmt_end : (y : Stmt) → (stmt_clear y).end ≡ true
    stmt_end y = core_last (out-Stmt y)

-- ---- the readers

pub exprs_read : (n depth : ℕ) (start : Start) (least : ℕ) (h : Bool) → least ≤ 13
    → Pair (Nested n) depth (Operand start least h) expr_pieces (expr_in n depth start least h) expr_first (level_clear start least h)
exprs_read n depth = (all_at n (opens_in n) (opens_read n) depth).exprs

pub blocks_read : (n depth : ℕ) → Pair (Nested n) depth (λ d b. IsBlock d (IsExpr d) (deeper d) b) block_pieces (block_in n depth) block_first (λ _. anything)
blocks_read n depth = blocks n (opens_in n) (opens_read n) depth (all_at n (opens_in n) (opens_read n) depth)

pub stmts_read : (n depth : ℕ) → Pair (Nested n) depth (λ d y. IsStmt d (IsExpr d) (deeper d) false y) stmt_pieces (stmt_in n depth) stmt_first stmt_clear
stmts_read n depth =
    stmt_read known (Nested n) depth (without_blocks n (opens_in n) depth (expr_by n (opens_in n) depth)) (floor n (opens_in n) (opens_read n) depth (all_at n (opens_in n) (opens_read n) depth))
    ((opens_in n).stmt depth) ((opens_in n).tail depth) ((opens_read n).stmt depth) ((opens_read n).tail depth)

pub rows_at : (n depth : ℕ) → Part (Nested n) depth (Rows row_closed RowIs) (each row_pieces)
    (rows_of row_closed (row (without_blocks n (opens_in n) depth (expr_by n (opens_in n) depth)) ((opens_in n).stmt depth) ((opens_in n).tail depth))) row_first (rows_clear row_closed row_first after_row)
rows_at n depth =
    rows_read (Nested n) depth (without_blocks n (opens_in n) depth (expr_by n (opens_in n) depth)) (floor n (opens_in n) (opens_read n) depth (all_at n (opens_in n) (opens_read n) depth))
    ((opens_in n).stmt depth) ((opens_in n).tail depth) ((opens_read n).stmt depth) ((opens_read n).tail depth)
