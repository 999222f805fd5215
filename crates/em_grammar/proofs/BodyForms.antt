-- Bodies and blocks in the words of the grammar and of the readers.
use Rattle.std.proofs.lemmas.List.{append-nil}
use Rattle.std.proofs.Common.{◌≡◌, ℕ, suc, Bool, true, false, List, [], ◌∷◌, ◌++◌, Option, Some, None, refl, sym, ◌∙◌, ap, subst, append_assoc, inl, inr}
use Rattle.std.specs.Prelude.{codes}
use Rattle.em_base.specs.declared.token.Token.{Token}
use Rattle.em_tree.specs.declared.piece.Group.{Group}
use Rattle.em_tree.specs.declared.pat.Pat.{Pat, out-Pat}
use Rattle.em_tree.specs.declared.expr.Annotation.TheVariants as annotation
use Rattle.em_tree.specs.declared.expr.Body.{Body, out-Body}
use Rattle.em_tree.specs.declared.expr.Expr.{Expr}
use Rattle.em_tree.specs.declared.expr.Expr.TheVariants as made
use Rattle.em_tree.specs.declared.expr.Expr.TheViews.{roll-Body, out-roll-Body, roll-out-Body}
use Rattle.em_tree.specs.declared.expr.Expr.TheOpen.{Stmt-F}
use Rattle.em_tree.specs.declared.expr.Stmt.{Stmt, out-Stmt}
use Rattle.em_tree.specs.declared.expr.Stmt.TheVariants as stmt
use Rattle.em_tree.specs.Starts.{Pieces, kind_of}
use Rattle.em_tree.specs.Parts.{each, maybe, macro_call_parts}
use Rattle.em_tree.specs.PatGrammar.{pat_pieces}
use Rattle.em_tree.specs.ExprShape.{edge}
use Rattle.em_tree.specs.Tokens.{Is, Each, Maybe}
use Rattle.em_tree.specs.Yields.{piece, whole, as_it_is}
use Rattle.em_tree.specs.ExprGrammar as g
use Rattle.em_tree.specs.ExprGrammar.{IsExpr, IsStmt, IsTail, IsEnd, IsBody, IsBlock, AreBlocks, LastIsClosed, is_open, expr_pieces, stmt_pieces, body_pieces, block_pieces}
use Rattle.em_grammar.specs.Lang.{Image, Or}
use Rattle.em_grammar.specs.Rows.{Rows}
use Rattle.em_grammar.specs.ExprSets.{has_braces}
use Rattle.em_grammar.specs.PrefixReader.{is_none}
use Rattle.em_grammar.specs.StmtReader.{StmtLayer, LetEnd, Typed, Plain, Mentions, wild_token, let_of, statement_by, statement_of, Row, Ending, closing, tailed, row_closed, semi_part, sent_of, semi_call, with_semi, tail_of, stmts_of, end_of, body_of, tail_group_of, stmt_kind, stmt_group_of, plain_block_of, group_block_of, is_block_group}
use Rattle.em_grammar.specs.StmtReader as r
use Rattle.em_grammar.specs.ExprLang.{deeper}
use Rattle.em_grammar.proofs.ExprLayers.{same_expr, same_stmt, pieces_body, pieces_mention, pieces_let, pieces_call_stmt, pieces_expr_stmt, pieces_block_stmt, pieces_group_stmt, pieces_group, pieces_macro}
use Rattle.em_grammar.proofs.ExprGrows.{Deepens, stmt_grows, tail_grows}
use Rattle.em_grammar.proofs.StmtPairs.{LetParts, ExprIs, PlainSides}
use Rattle.em_grammar.proofs.StmtForms.{View, a_call, a_block, other, view, out_of, closes_row, whole_stmt, Split, kind_stmt, is_here, four_fits, semi_stmt, open_stmt, tail_stmt, split}
use Rattle.em_grammar.proofs.StmtForms as f
use Rattle.em_grammar.proofs.RowPairs.{row_pieces, EndingIs, RowIs}

-- ---- what a row is

abbrev row_stmt : Stmt → Row → Stmt
row_stmt y (r.Part t) = t.0
row_stmt y (Ending t) = y

abbrev row_semi : Row → Option Token
row_semi (r.Part t) = t.1
row_semi (Ending t) = None

some_same : (a b : Token) → Some a ≡ Some b → a ≡ b
some_same a b h = cc

part_some : (d : ℕ) (y : Stmt) (t : Token) → RowIs d (r.Part (y, Some t)) → Or PlainSides f.SentIs d y × Is (codes ";") t
part_some d y t (inl m) =
    let at : t ≡ m.0.1 = some_same t m.0.1 (ap row_semi m.2) in
    (inl (inl (subst (λ y. Image let_of LetParts d y) (sym (ap (λ x. row_stmt y x) m.2)) m.1.0)), subst (λ t. Is (codes ";") t) (sym at) m.1.1)
part_some d y t (inr (inl m)) =
    (inl (inr (subst (λ y. Image statement_of ExprIs d y) (sym (ap (λ x. row_stmt y x) m.2)) m.1.0)), subst (λ o. Maybe (Is (codes ";")) o) (sym (ap row_semi m.2)) m.1.1)
part_some d y t (inr (inr (inl m))) =
    let at : t ≡ m.0.1 = some_same t m.0.1 (ap row_semi m.2) in
    (inr (m.0.0, m.1.0, ap (λ x. row_stmt y x) m.2), subst (λ t. Is (codes ";") t) (sym at) m.1.1)
part_some d y t (inr (inr (inr m))) = let never : Some t ≡ None = ap row_semi m.2 in cc

part_none : (d : ℕ) (y : Stmt) → RowIs d (r.Part (y, None)) → Image statement_of ExprIs d y
part_none d y (inl m) = let never : None ≡ Some m.0.1 = ap row_semi m.2 in cc
part_none d y (inr (inl m)) = subst (λ y. Image statement_of ExprIs d y) (sym (ap (λ x. row_stmt y x) m.2)) m.1.0
part_none d y (inr (inr (inl m))) = let never : None ≡ Some m.0.1 = ap row_semi m.2 in cc
part_none d y (inr (inr (inr m))) = let never : r.Part (y, None) ≡ Ending m.0 = m.2 in cc

ending_is : (d : ℕ) (t : Group × Expr) → RowIs d (Ending t) → EndingIs d t
ending_is d t (inl m) = let never : None ≡ Some m.0.1 = ap row_semi m.2 in cc
ending_is d t (inr (inl m)) = let never : Ending t ≡ r.Part m.0 = m.2 in cc
ending_is d t (inr (inr (inl m))) = let never : None ≡ Some m.0.1 = ap row_semi m.2 in cc
ending_is d t (inr (inr (inr m))) = let same : t ≡ m.0 = inside t m.0 m.2 in subst (λ t. EndingIs d t) (sym same) m.1
  where
    inside : (t u : Group × Expr) → Ending t ≡ Ending u → t ≡ u
    inside t u e = cc

-- ---- a `;` put behind

semi_not_open : (l : StmtLayer) (t : Token) → is_open (out-Stmt (with_semi l (Some t))) ≡ false
semi_not_open (Stmt-F.Mention w u e x o) t = ap is_open (stmt.outs-Mention w u e x (Some t))
semi_not_open (Stmt-F.Let w q a e v o) t = ap is_open (stmt.outs-Let w q a e v (Some t))
semi_not_open (Stmt-F.Stmt::Macro call o) t = go (has_braces call)
  where
    go : (b : Bool) → is_open (out-Stmt (semi_call b call (Some t))) ≡ false
    go true = ap is_open (stmt.outs-Expr (made.Macro call) (Some t))
    go false = ap is_open (stmt.outs-Macro call (Some t))
semi_not_open (Stmt-F.Expr v o) t = ap is_open (stmt.outs-Expr v (Some t))
semi_not_open (Stmt-F.BlockLike v o) t = ap is_open (stmt.outs-BlockLike v (Some t))
semi_not_open (Stmt-F.Stmt::Group u y o) t = ap is_open (stmt.outs-Group u y (Some t))

abbrev lone : StmtLayer → Bool
lone (Stmt-F.Mention w u e x o) = is_none o
lone (Stmt-F.Let w q a e v o) = is_none o
lone (Stmt-F.Stmt::Macro call o) = is_none o
lone (Stmt-F.Expr v o) = is_none o
lone (Stmt-F.BlockLike v o) = is_none o
lone (Stmt-F.Stmt::Group u y o) = is_none o

let_lone : (t : (Token × Pat) × LetEnd) → lone (out-Stmt (let_of t)) ≡ true
let_lone ((w, q), Typed t) = ap lone (stmt.outs-Let w q (annotation.Type t.0 t.1.0) t.1.1.0 t.1.1.1 None)
let_lone ((w, q), Plain t) = ap lone (stmt.outs-Let w q annotation.Nothing t.0 t.1 None)
let_lone ((w, q), Mentions t) = ap lone (stmt.outs-Mention w (wild_token w (out-Pat q)) t.0 t.1 None)

view_lone : (x : Expr) → View x → lone (out-Stmt (statement_of x)) ≡ true
view_lone x (a_call call is) = ap lone (ap (λ l. out-Stmt (statement_by l x)) is ∙ stmt.outs-Macro call None)
view_lone x (a_block b is) = ap lone (ap (λ y. out-Stmt y) is ∙ stmt.outs-BlockLike x None)
view_lone x (other e is) = ap lone (ap (λ y. out-Stmt y) is ∙ stmt.outs-Expr x None)

core_lone : (d : ℕ) (y : Stmt) → Or PlainSides f.SentIs d y → lone (out-Stmt y) ≡ true
core_lone d y (inl (inl m)) = subst (λ y. lone (out-Stmt y) ≡ true) (sym m.2) (let_lone m.0)
core_lone d y (inl (inr m)) = subst (λ y. lone (out-Stmt y) ≡ true) (sym m.2) (view_lone m.0 (view d m.0 m.1))
core_lone d y (inr m) = ap lone (ap (λ k. out-Stmt k) m.2 ∙ stmt.outs-Group m.0.0 m.0.1 None)

assoc_3 : (a b k : Pieces) → a ++ (b ++ k) ≡ (a ++ b) ++ k
assoc_3 a b k = sym (append_assoc a b k)

semi_yield : (y : Stmt) (l : StmtLayer) (t : Token) → out-Stmt y ≡ l → lone l ≡ true → stmt_pieces (with_semi l (Some t)) ≡ stmt_pieces y ++ piece t
semi_yield y (Stmt-F.Mention w u e x None) t is h =
    pieces_mention w u e x (Some t)
    ∙ ap (λ k. piece w ++ (piece u ++ (piece e ++ k))) (ap (λ k. k ++ piece t) (sym (append-nil _)))
    ∙ ap (λ k. k ++ piece t) (sym (pieces_mention w u e x None) ∙ ap (λ k. stmt_pieces k) (sym (same_stmt y (stmt.Mention w u e x None) (is ∙ sym (stmt.outs-Mention w u e x None)))))
semi_yield y (Stmt-F.Let w q a e v None) t is h =
    pieces_let w q a e v (Some t) ∙ let_end (pat_pieces q) _ (expr_pieces v)
    ∙ ap (λ k. k ++ piece t) (sym (pieces_let w q a e v None) ∙ ap (λ k. stmt_pieces k) (sym (same_stmt y (stmt.Let w q a e v None) (is ∙ sym (stmt.outs-Let w q a e v None)))))
  where
    let_end : (x z k : Pieces) → piece w ++ (x ++ (z ++ (piece e ++ (k ++ piece t)))) ≡ (piece w ++ (x ++ (z ++ (piece e ++ (k ++ []))))) ++ piece t
    let_end x z k =
        ap (λ j. piece w ++ j)
        (ap (λ j. x ++ j) (ap (λ j. z ++ j) (ap (λ j. piece e ++ (j ++ piece t)) (sym (append-nil k))) ∙ assoc_3 z (piece e ++ (k ++ [])) (piece t)) ∙ assoc_3 x (z ++ (piece e ++ (k ++ []))) (piece t))
semi_yield y (Stmt-F.Stmt::Macro call None) t is h =
    go (has_braces call)
    ∙ ap (λ k. k ++ piece t) (sym (append-nil (macro_call_parts piece whole as_it_is call)) ∙ sym (pieces_call_stmt call None) ∙ ap (λ k. stmt_pieces k) (sym (same_stmt y (stmt.Macro call None) (is ∙ sym (stmt.outs-Macro call None)))))
  where
    go : (b : Bool) → stmt_pieces (semi_call b call (Some t)) ≡ macro_call_parts piece whole as_it_is call ++ piece t
    go true = pieces_expr_stmt (made.Macro call) (Some t) ∙ ap (λ k. k ++ piece t) (pieces_macro call)
    go false = pieces_call_stmt call (Some t)
semi_yield y (Stmt-F.Expr v None) t is h =
    pieces_expr_stmt v (Some t)
    ∙ ap (λ k. k ++ piece t) (sym (append-nil _) ∙ sym (pieces_expr_stmt v None) ∙ ap (λ k. stmt_pieces k) (sym (same_stmt y (stmt.Expr v None) (is ∙ sym (stmt.outs-Expr v None)))))
semi_yield y (Stmt-F.BlockLike v None) t is h =
    pieces_block_stmt v (Some t)
    ∙ ap (λ k. k ++ piece t) (sym (append-nil _) ∙ sym (pieces_block_stmt v None) ∙ ap (λ k. stmt_pieces k) (sym (same_stmt y (stmt.BlockLike v None) (is ∙ sym (stmt.outs-BlockLike v None)))))
semi_yield y (Stmt-F.Stmt::Group u z None) t is h =
    pieces_group_stmt u z (Some t) ∙ ap (λ k. k ++ piece t) (sym (pieces_group_stmt u z None) ∙ ap (λ k. stmt_pieces k) (sym (same_stmt y (stmt.Group u z None) (is ∙ sym (stmt.outs-Group u z None)))))
semi_yield y _ t is h = cc

-- ---- rows

abbrev Good : ℕ → List Row → Type 0
Good d xs = Rows row_closed RowIs d xs

first_row : (d : ℕ) (x : Row) (xs : List Row) → Good d (x ∷ xs) → RowIs d x
first_row d x [] m = m
first_row d x (y ∷ rest) m = m.0

other_rows : (d : ℕ) (x : Row) (xs : List Row) → Good d (x ∷ xs) → Good d xs
other_rows d x [] m = tt
other_rows d x (y ∷ rest) m = m.2

add_row : (d : ℕ) (x : Row) (xs : List Row) → RowIs d x → row_closed x ≡ true → Good d xs → Good d (x ∷ xs)
add_row d x [] m c k = m
add_row d x (y ∷ rest) m c k = (m, c, k)

module _ (known : (d : ℕ) → Deepens d (suc d)) where
  abbrev Ending' : ℕ → List Stmt → Option Expr → Type 0
  Ending' d xs o = IsEnd d (IsExpr d) (deeper d) xs o

  abbrev Stmts : ℕ → List Stmt → Type 0
  Stmts d xs = Each (IsStmt d (IsExpr d) (deeper d) true) xs

  add_end : (d : ℕ) (x : Stmt) (xs : List Stmt) (o : Option Expr) → is_open (out-Stmt x) ≡ false → Ending' d xs o → Ending' d (x ∷ xs) o
  add_end d x [] None h m = h
  add_end d x (y ∷ ys) None h m = m
  add_end d x xs (Some v) h m = m

  add_open : (d : ℕ) (x : Stmt) (xs : List Stmt) (o : Option Expr) → (xs ≡ [] → o ≡ None → ⊥) → Ending' d xs o → Ending' d (x ∷ xs) o
  add_open d x [] None h m = absurd (h refl refl)
  add_open d x (y ∷ ys) None h m = m
  add_open d x xs (Some v) h m = m

  view_tailed : (x : Expr) → View x → tailed (out-Stmt (statement_of x)) ≡ true
  view_tailed x (a_call call is) = ap tailed (ap (λ l. out-Stmt (statement_by l x)) is ∙ stmt.outs-Macro call None)
  view_tailed x (a_block b is) = ap tailed (ap (λ y. out-Stmt y) is ∙ stmt.outs-BlockLike x None)
  view_tailed x (other e is) = ap tailed (ap (λ y. out-Stmt y) is ∙ stmt.outs-Expr x None)

  none_tailed : (d : ℕ) (y : Stmt) → Image statement_of ExprIs d y → tailed (out-Stmt y) ≡ true
  none_tailed d y m = subst (λ y. tailed (out-Stmt y) ≡ true) (sym m.2) (view_tailed m.0 (view d m.0 m.1))

  last_tail : (d : ℕ) (y : Stmt) → RowIs d (r.Part (y, None)) → (x : Expr) × (tail_of (out-Stmt y) ≡ Some x) × IsTail (suc d) (IsExpr (suc d)) (deeper (suc d)) x × (expr_pieces x ≡ stmt_pieces y)
  last_tail d y m = let k = part_none d y m in tail_stmt known d y (inr k) (none_tailed d y k)

  never_empty : (d : ℕ) (x : Row) (xs : List Row) → Good d (x ∷ xs) → stmts_of (x ∷ xs) ≡ [] → end_of (x ∷ xs) ≡ None → ⊥
  never_empty d (r.Part (y, Some t)) xs m p q = cc
  never_empty d (r.Part (y, None)) [] m p q = let k = last_tail d y m in let never : None ≡ Some k.0 = sym q ∙ k.1 in cc
  never_empty d (r.Part (y, None)) (z ∷ rest) m p q = cc
  never_empty d (Ending t) [] m p q = cc
  never_empty d (Ending t) (z ∷ rest) m p q = let never : false ≡ true = m.1 in cc

  sent_stmt : (d : ℕ) (y : Stmt) (t : Token) → Or PlainSides f.SentIs d y → Is (codes ";") t → IsStmt (suc d) (IsExpr (suc d)) (deeper (suc d)) true (with_semi (out-Stmt y) (Some t))
  sent_stmt d y t (inl m) k = semi_stmt known d y t m k
  sent_stmt d y t (inr m) k =
      subst (λ l. IsStmt (suc d) (IsExpr (suc d)) (deeper (suc d)) true (with_semi l (Some t))) (sym (ap (λ k. out-Stmt k) m.2 ∙ stmt.outs-Group m.0.0 m.0.1 None))
      (g.IsStmt.group (stmt.outs-Group m.0.0 m.0.1 (Some t)) (kind_stmt (kind_of m.0.0) m.1.0) m.1.1 (stmt_grows known d false m.0.1 m.1.2) (t, refl, k))

  to_rows : (d : ℕ) (xs : List Row) → Good d xs → Stmts (suc d) (stmts_of xs) × Ending' (suc d) (stmts_of xs) (end_of xs)
  to_rows d [] m = (tt, tt)
  to_rows d (r.Part (y, Some t) ∷ rest) m =
      let k = part_some d y t (first_row d (r.Part (y, Some t)) rest m) in
      let later = to_rows d rest (other_rows d (r.Part (y, Some t)) rest m) in
      ((sent_stmt d y t k.0 k.1, later.0), add_end (suc d) (with_semi (out-Stmt y) (Some t)) (stmts_of rest) (end_of rest) (semi_not_open (out-Stmt y) t) later.1)
  to_rows d (r.Part (y, None) ∷ []) m = let k = last_tail d y m in (tt, subst (λ o. Ending' (suc d) [] o) (sym k.1) k.2)
  to_rows d (r.Part (y, None) ∷ z ∷ rest) m =
      let k = part_none d y m.0 in
      let later = to_rows d (z ∷ rest) m.2 in
      ((open_stmt known d y (inr k) m.1, later.0), add_open (suc d) y (stmts_of (z ∷ rest)) (end_of (z ∷ rest)) (never_empty d z rest m.2) later.1)
  to_rows d (Ending t ∷ []) m =
      let k = ending_is d t m in
      (tt, g.IsTail.group (made.outs-Group t.0 t.1) (kind_stmt (kind_of t.0) k.0) k.1 (tail_grows known d t.1 k.2))
  to_rows d (Ending t ∷ z ∷ rest) m = let never : false ≡ true = m.1 in cc

  rows_yield : (d : ℕ) (xs : List Row) → Good d xs → each stmt_pieces (stmts_of xs) ++ maybe expr_pieces (end_of xs) ≡ each row_pieces xs
  rows_yield d [] m = refl
  rows_yield d (r.Part (y, Some t) ∷ rest) m =
      let k = part_some d y t (first_row d (r.Part (y, Some t)) rest m) in
      append_assoc (stmt_pieces (with_semi (out-Stmt y) (Some t))) (each stmt_pieces (stmts_of rest)) (maybe expr_pieces (end_of rest))
      ∙ ap (λ k. k ++ (each stmt_pieces (stmts_of rest) ++ maybe expr_pieces (end_of rest))) (semi_yield y (out-Stmt y) t refl (core_lone d y k.0))
      ∙ ap (λ k. (stmt_pieces y ++ piece t) ++ k) (rows_yield d rest (other_rows d (r.Part (y, Some t)) rest m))
  rows_yield d (r.Part (y, None) ∷ []) m = let k = last_tail d y m in ap (λ o. maybe expr_pieces o) k.1 ∙ k.3 ∙ sym (append-nil (stmt_pieces y)) ∙ sym (append-nil (stmt_pieces y ++ []))
  rows_yield d (r.Part (y, None) ∷ z ∷ rest) m =
      append_assoc (stmt_pieces y) (each stmt_pieces (stmts_of (z ∷ rest))) (maybe expr_pieces (end_of (z ∷ rest)))
      ∙ ap (λ k. stmt_pieces y ++ k) (rows_yield d (z ∷ rest) m.2) ∙ ap (λ k. k ++ each row_pieces (z ∷ rest)) (sym (append-nil (stmt_pieces y)))
  rows_yield d (Ending t ∷ []) m = pieces_group t.0 t.1
  rows_yield d (Ending t ∷ z ∷ rest) m = let never : false ≡ true = m.1 in cc

  -- ---- to the readers' words

  rest_end : (d : ℕ) (x : Stmt) (xs : List Stmt) (o : Option Expr) → Ending' d (x ∷ xs) o → Ending' d xs o
  rest_end d x [] None m = tt
  rest_end d x (y ∷ ys) None m = m
  rest_end d x xs (Some v) m = m

  tail_is : (x : Expr) → View x → tail_of (out-Stmt (statement_of x)) ≡ Some x
  tail_is x (a_call call is) = ap tail_of (ap (λ l. out-Stmt (statement_by l x)) is ∙ stmt.outs-Macro call None) ∙ ap (λ k. Some k) (sym (same_expr x (made.Macro call) (is ∙ sym (made.outs-Macro call))))
  tail_is x (a_block b is) = ap tail_of (ap (λ y. out-Stmt y) is ∙ stmt.outs-BlockLike x None)
  tail_is x (other e is) = ap tail_of (ap (λ y. out-Stmt y) is ∙ stmt.outs-Expr x None)

  view_open : (x : Expr) → View x → closing (out-Stmt (statement_of x)) ≡ true → is_open (out-Stmt (statement_of x)) ≡ true
  view_open x (a_call call is) h = ap is_open (ap (λ l. out-Stmt (statement_by l x)) is ∙ stmt.outs-Macro call None)
  view_open x (a_block b is) h = ap is_open (ap (λ y. out-Stmt y) is ∙ stmt.outs-BlockLike x None)
  view_open x (other e is) h = let bad : false ≡ true = sym (ap closing (ap (λ y. out-Stmt y) is ∙ stmt.outs-Expr x None)) ∙ h in cc

  abbrev RowsOf : ℕ → List Stmt → Option Expr → Type 0
  RowsOf d xs o = (rows : List Row) × Good d rows × (stmts_of rows ≡ xs) × (end_of rows ≡ o)

  tail_rows : (d : ℕ) (x : Expr) → IsTail d (IsExpr d) (deeper d) x → RowsOf d [] (Some x)
  tail_rows d x (g.IsTail.expr m e) =
      let k : ExprIs d x = is_here d x m (four_fits (edge x) e) in
      (r.Part (statement_of x, None) ∷ [], inr (inl ((statement_of x, None), ((x, k, refl), tt), refl)), refl, tail_is x (view d x k))
  tail_rows d x (g.IsTail.group {y} {g = u} o k ps m) =
      (Ending (u, y) ∷ [], inr (inr (inr ((u, y), (ap (λ k. stmt_kind k) k, ps, m), refl))), refl, ap (λ k. Some k) (sym (same_expr x (made.Group u y) (o ∙ sym (made.outs-Group u y)))))

  let_not_closing : (t : (Token × Pat) × LetEnd) → closing (out-Stmt (let_of t)) ≡ true → ⊥
  let_not_closing ((w, q), Typed t) h = let bad : false ≡ true = sym (ap closing (stmt.outs-Let w q (annotation.Type t.0 t.1.0) t.1.1.0 t.1.1.1 None)) ∙ h in cc
  let_not_closing ((w, q), Plain t) h = let bad : false ≡ true = sym (ap closing (stmt.outs-Let w q annotation.Nothing t.0 t.1 None)) ∙ h in cc
  let_not_closing ((w, q), Mentions t) h = let bad : false ≡ true = sym (ap closing (stmt.outs-Mention w (wild_token w (out-Pat q)) t.0 t.1 None)) ∙ h in cc

  some_row : (d : ℕ) (y : Stmt) (t : Token) → Or PlainSides f.SentIs d y → Is (codes ";") t → RowIs d (r.Part (y, Some t))
  some_row d y t (inl (inl m)) k = inl ((y, t), (m, k), refl)
  some_row d y t (inl (inr m)) k = inr (inl ((y, Some t), (m, k), refl))
  some_row d y t (inr m) k = inr (inr (inl ((m.0, t), (m.1, k), ap (λ y. r.Part (y, Some t)) m.2)))

  none_row : (d : ℕ) (y : Stmt) → Or PlainSides f.SentIs d y → closing (out-Stmt y) ≡ true → Image statement_of ExprIs d y
  none_row d y (inl (inl m)) c = absurd (let_not_closing m.0 (subst (λ y. closing (out-Stmt y) ≡ true) m.2 c))
  none_row d y (inl (inr m)) c = m
  none_row d y (inr m) c = let bad : false ≡ true = sym (ap closing (ap (λ k. out-Stmt k) m.2 ∙ stmt.outs-Group m.0.0 m.0.1 None)) ∙ c in cc

  more_rows : (d : ℕ) (x : Stmt) (xs : List Stmt) (o : Option Expr) → Ending' d (x ∷ xs) o → Split d x → RowsOf d xs o → RowsOf d (x ∷ xs) o
  more_rows d x xs o e cut later = go cut
    where
      bare : (y : Stmt) → Image statement_of ExprIs d y → closing (out-Stmt y) ≡ true → x ≡ y → RowsOf d (x ∷ xs) o
      bare y k c at = inside later.0 later.1 later.2 later.3
        where
          inside : (rows : List Row) → Good d rows → stmts_of rows ≡ xs → end_of rows ≡ o → RowsOf d (x ∷ xs) o
          inside (z ∷ rest) good p q = (
            r.Part (y, None) ∷ z ∷ rest,
            (inr (inl ((y, None), (k, tt), refl)), c, good),
            ap (λ w. w ∷ stmts_of (z ∷ rest)) (sym at) ∙ ap (λ ws. x ∷ ws) p,
            q,
          )
          inside [] good p q =
              let opened : is_open (out-Stmt x) ≡ true = ap (λ k. is_open (out-Stmt k)) (at ∙ k.2) ∙ view_open k.0 (view d k.0 k.1) (subst (λ y. closing (out-Stmt y) ≡ true) k.2 c) in
              let shut : Ending' d (x ∷ []) None = subst (λ o. Ending' d (x ∷ []) o) (sym q) (subst (λ ws. Ending' d (x ∷ ws) o) (sym p) e) in
              let never : false ≡ true = sym shut ∙ opened in
              cc

      go : Split d x → RowsOf d (x ∷ xs) o
      go (y, Some t, side, k, c, at) = (
        r.Part (y, Some t) ∷ later.0,
        add_row d (r.Part (y, Some t)) later.0 (some_row d y t side k) refl later.1,
        ap (λ w. w ∷ stmts_of later.0) (sym at) ∙ ap (λ ws. x ∷ ws) later.2,
        later.3,
      )
      go (y, None, side, k, c, at) = bare y (none_row d y side c) c at

  of_rows : (d : ℕ) (xs : List Stmt) (o : Option Expr) → Stmts d xs → Ending' d xs o → RowsOf d xs o
  of_rows d [] None m e = ([], tt, refl, refl)
  of_rows d [] (Some x) m e = tail_rows d x e
  of_rows d (x ∷ xs) o m e = more_rows d x xs o e (split known d true x refl m.0) (of_rows d xs o m.1 (rest_end d x xs o e))

  -- ---- bodies

  pub to_body : (d : ℕ) (xs : List Row) → Good d xs → IsBody (suc d) (IsExpr (suc d)) (deeper (suc d)) (body_of xs)
  to_body d xs m =
      let k = to_rows d xs m in
      let at : out-Body (body_of xs) ≡ record { stmts = stmts_of xs; tail = end_of xs } = out-roll-Body (record { stmts = stmts_of xs; tail = end_of xs }) in
      record { stmts = subst (λ l. Stmts (suc d) l.stmts) (sym at) k.0; end = subst (λ l. Ending' (suc d) l.stmts l.tail) (sym at) k.1 }

  pub body_yield : (d : ℕ) (xs : List Row) → Good d xs → body_pieces (body_of xs) ≡ each row_pieces xs
  body_yield d xs m = pieces_body (stmts_of xs) (end_of xs) ∙ rows_yield d xs m

  pub of_body : (d : ℕ) (b : Body) → IsBody d (IsExpr d) (deeper d) b → (xs : List Row) × Good d xs × (b ≡ body_of xs)
  of_body d b m =
      let k = of_rows d (out-Body b).stmts (out-Body b).tail m.stmts m.end in
      (k.0, k.1, sym (roll-out-Body b) ∙ sym (ap (λ ws. roll-Body (record { stmts = ws; tail = end_of k.0 })) k.2 ∙ ap (λ o. roll-Body (record { stmts = (out-Body b).stmts; tail = o })) k.3))
