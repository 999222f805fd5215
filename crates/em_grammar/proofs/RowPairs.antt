-- The rows of a block are read.
use Rattle.std.proofs.Common.{◌≡◌, ℕ, suc, ◌≤◌, Bool, true, false, ◌&&◌, ◌||◌, if◌then◌else◌, List, [], ◌∷◌, ◌++◌, length, Option, Some, None, refl, sym, ◌∙◌, ap, subst, arith, inl, inr}
use Rattle.std.specs.Prelude.{codes}
use Rattle.em_base.specs.declared.token.Token.{Token}
use Rattle.em_tree.specs.declared.piece.Group.{Group}
use Rattle.em_tree.specs.declared.piece.Piece.TheVariants as p
use Rattle.em_tree.specs.declared.expr.Expr.{Expr, out-Expr}
use Rattle.em_tree.specs.declared.expr.Expr.TheVariants as made
use Rattle.em_tree.specs.declared.expr.Expr.TheOpen.{Stmt-F}
use Rattle.em_tree.specs.declared.expr.Stmt.{Stmt, out-Stmt}
use Rattle.em_tree.specs.declared.expr.Stmt.TheVariants as stmt
use Rattle.em_tree.specs.Starts.{Pieces}
use Rattle.em_tree.specs.Parts.{each, maybe}
use Rattle.em_tree.specs.Tokens.{Is}
use Rattle.em_tree.specs.Yields.{piece}
use Rattle.em_tree.specs.ExprShape.{ends_open, ends_bare}
use Rattle.em_tree.specs.ExprGrammar.{IsExpr, IsStmt, IsTail, expr_pieces, stmt_pieces}
use Rattle.em_grammar.specs.declared.sort.Written.TheVariants as word
use Rattle.em_grammar.specs.Sets.{Set, next, subset, tokens, groups, either, both, others, anything, only, is_sign, Inside}
use Rattle.em_grammar.specs.Lang.{Chain, Seq, Opt, Grp, grouped, Image, Or}
use Rattle.em_grammar.specs.Reader.{Read, Found, Absent, Deep, or_stay, token, seq, mapped, group}
use Rattle.em_grammar.specs.Rows.{Rows, rows_of, rows_clear, row_clear}
use Rattle.em_grammar.specs.Pairs.{Pair, Part, Sound, Takes, Begins}
use Rattle.em_grammar.specs.ExprSets.{InBlock, expr_first, end_clear, after, dot_clear, behind_block, is_braced, must_dot}
use Rattle.em_grammar.specs.ExprReader.{Readers}
use Rattle.em_grammar.specs.StmtReader.{StmtLayer, LetEnd, Typed, Plain, Mentions, let_of, statement_by, statement_of, wild_token, stmt_kind, is_stmt_group, Row, Ending, closing, row_closed, semi_part, sent_of, behind_first, peek, stmt_group, let_row, expr_row, row, core_clear, stmt_clear}
use Rattle.em_grammar.specs.StmtReader as r
use Rattle.em_grammar.specs.ExprLang.{deeper}
use Rattle.em_grammar.proofs.Pairs.{tok, seq_of, always, sound_in, takes_stay, next_both, next_others}
use Rattle.em_grammar.proofs.Forms.{or_of, Opened, group_of}
use Rattle.em_grammar.proofs.Chains.{chain_more, more_clear, image_in}
use Rattle.em_grammar.proofs.Rows.{rows_pair}
use Rattle.em_grammar.proofs.Tests.{sign}
use Rattle.em_grammar.proofs.ExprLayers.{pieces_group_stmt}
use Rattle.em_grammar.proofs.StmtPairs.{Floor, LetParts, ExprIs, let_pair, statement_pair}
use Rattle.em_grammar.proofs.StmtForms.{View, a_call, a_block, other, view, out_of}

-- ---- by what is behind the first piece

pub peek_of : {H : Pieces → Type 0} {depth : ℕ} {A : Type 0} {M N : ℕ → A → Type 0} {z : A → Pieces} {P Q : Pieces → Read A} {f : Set} {c : A → Set} (s : Set)
    → Pair H depth M z P f (λ _. anything) → Pair H depth N z Q f (λ _. anything)
    → ((d : ℕ) (t : A) (r : Pieces) → M d t → next s (behind_first (z t ++ r)) ≡ true)
    → ((d : ℕ) (t : A) (r : Pieces) → N d t → behind_first (z t ++ r) ≡ r)
    → ((d : ℕ) (t : A) (r : Pieces) → N d t → next (c t) r ≡ true → next s r ≡ false)
    → ((i : Pieces) (t : A) (r : Pieces) → P i ≡ Found t r → (u : A) (d : ℕ) (q : Pieces) → N d u → i ≡ z u ++ q → length r ≤ length q)
    → Pair H depth (Or M N) z (peek s P Q) f c
peek_of {H} {depth} {A} {M} {N} {z} {P} {Q} {f} {c} s a b behind ends clear longer = record {
  grows = grows;
  sound = λ i. sound i (next s (behind_first i));
  begins = begins;
  whole = whole;
  longest = longest;
  absent = λ i h. absent i h (next s (behind_first i));
}
  where
    grows : (d : ℕ) (t : A) → Or M N d t → Or M N (suc d) t
    grows d t (inl m) = inl (a.grows d t m)
    grows d t (inr m) = inr (b.grows d t m)

    stay : (m q : Read A) (i : Pieces) → Sound M z m i → Sound N z q i → Sound (Or M N) z (or_stay m (λ a r. Found a r) q) i
    stay (Found t r) q i u v = ((u.0.0, inl u.0.1), u.1)
    stay Absent q i u v = sound_in N (Or M N) z q i (λ d t m. inr m) v
    stay Deep q i u v = tt

    sound : (i : Pieces) (e : Bool) → Sound (Or M N) z (if e then or_stay (P i) (λ a r. Found a r) (Q i) else Q i) i
    sound i true = stay (P i) (Q i) i (a.sound i) (b.sound i)
    sound i false = sound_in N (Or M N) z (Q i) i (λ d t m. inr m) (b.sound i)

    begins : (d : ℕ) (t : A) → d ≤ depth → Or M N d t → Begins f (z t)
    begins d t h (inl m) = a.begins d t h m
    begins d t h (inr m) = b.begins d t h m

    whole : (d : ℕ) (t : A) (r : Pieces) → d ≤ depth → Inside H (z t) → Or M N d t → next (c t) r ≡ true → peek s P Q (z t ++ r) ≡ Found t r
    whole d t r h w (inl m) cl =
        ap (λ e. if e then or_stay (P (z t ++ r)) (λ a r. Found a r) (Q (z t ++ r)) else Q (z t ++ r)) (behind d t r m)
        ∙ ap (λ k. or_stay k (λ a r. Found a r) (Q (z t ++ r))) (a.whole d t r h w m (always r))
    whole d t r h w (inr m) cl =
        ap (λ e. if e then or_stay (P (z t ++ r)) (λ a r. Found a r) (Q (z t ++ r)) else Q (z t ++ r)) (ap (λ k. next s k) (ends d t r m) ∙ clear d t r m cl)
        ∙ b.whole d t r h w m (always r)

    longest : (d : ℕ) (t : A) (r : Pieces) → d ≤ depth → Inside H (z t) → Or M N d t → (c t).end ≡ true → Takes (peek s P Q (z t ++ r)) r
    longest d t r h w (inl m) en =
        subst (λ e. Takes (if e then or_stay (P (z t ++ r)) (λ a r. Found a r) (Q (z t ++ r)) else Q (z t ++ r)) r) (sym (behind d t r m))
        (takes_stay (P (z t ++ r)) (λ a r. Found a r) (Q (z t ++ r)) r (a.longest d t r h w m refl) (λ a s k. k))
    longest d t r h w (inr m) en = go (next s (behind_first (z t ++ r)))
      where
        first : (k : Read A) → P (z t ++ r) ≡ k → Takes (or_stay k (λ a r. Found a r) (Q (z t ++ r))) r
        first (Found u q) is = longer (z t ++ r) u q is t d r m refl
        first Absent is = b.longest d t r h w m refl
        first Deep is = tt

        go : (e : Bool) → Takes (if e then or_stay (P (z t ++ r)) (λ a r. Found a r) (Q (z t ++ r)) else Q (z t ++ r)) r
        go true = first (P (z t ++ r)) refl
        go false = b.longest d t r h w m refl

    absent : (i : Pieces) → next f i ≡ false → (e : Bool) → (if e then or_stay (P i) (λ a r. Found a r) (Q i) else Q i) ≡ Absent
    absent i h true = ap (λ k. or_stay k (λ a r. Found a r) (Q i)) (a.absent i h) ∙ b.absent i h
    absent i h false = b.absent i h

-- ---- rows

abbrev pub row_pieces : Row → Pieces
row_pieces (r.Part t) = stmt_pieces t.0 ++ maybe piece t.1
row_pieces (Ending t) = grouped t

pub pieces_group_bare : (t : Group × Stmt) → stmt_pieces (r.stmt_group_of t) ≡ grouped t
pieces_group_bare t = pieces_group_stmt t.0 t.1 None

abbrev pub SentIs : ℕ → (Group × Stmt) × Token → Type 0
SentIs = Seq (Grp is_stmt_group (λ d y. IsStmt d (IsExpr d) (deeper d) false y) stmt_pieces) (λ d. Is (codes ";"))

abbrev pub EndingIs : ℕ → Group × Expr → Type 0
EndingIs = Grp is_stmt_group (λ d x. IsTail d (IsExpr d) (deeper d) x) expr_pieces

abbrev pub LetRowIs : ℕ → Stmt × Token → Type 0
LetRowIs = Seq (Image let_of LetParts) (λ d. Is (codes ";"))

abbrev pub ExprRowIs : ℕ → Stmt × Option Token → Type 0
ExprRowIs = Chain (Image statement_of ExprIs) (λ _. Opt (λ d. Is (codes ";")))

abbrev pub RowIs : ℕ → Row → Type 0
RowIs = Or (Image semi_part LetRowIs) (Or (Image r.Part ExprRowIs) (Or (Image sent_of SentIs) (Image Ending EndingIs)))

abbrev semi : Set
semi = tokens (only word.Semi)

-- behind a row without a `;`
abbrev pub open_clear : Bool → Set → Set
open_clear true s = both behind_block (others semi)
open_clear false s = both s (others semi)

abbrev pub part_clear : Stmt × Option Token → Set
part_clear (y, None) = open_clear (closing (out-Stmt y)) (stmt_clear y)
part_clear (y, Some t) = anything

abbrev pub after_row : Row → Set
after_row (r.Part t) = part_clear t
after_row (Ending t) = others semi

abbrev pub row_first : Set
row_first = either (tokens (only word.Let)) (either expr_first (groups stmt_kind))

-- what may follow one that has been read so far
end_semi : (m a b : Bool) → subset semi (dot_clear m (end_clear a b 0 false)) ≡ true
end_semi true a b = refl
end_semi false true true = refl
end_semi false true false = refl
end_semi false false b = refl

core_semi : (l : StmtLayer) → subset semi (core_clear l) ≡ true
core_semi (Stmt-F.Let w q a e v o) = end_semi false (ends_open v) (ends_bare v)
core_semi (Stmt-F.Stmt::Macro call o) = end_semi (must_dot InBlock (out-Expr (made.Macro call))) (ends_open (made.Macro call)) (ends_bare (made.Macro call))
core_semi (Stmt-F.Expr v o) = end_semi (must_dot InBlock (out-Expr v)) (ends_open v) (ends_bare v)
core_semi (Stmt-F.BlockLike v o) = end_semi (must_dot InBlock (out-Expr v)) (ends_open v) (ends_bare v)
core_semi (Stmt-F.Mention w u e r o) = refl
core_semi (Stmt-F.Stmt::Group g y o) = refl

end_brace : (m a b : Bool) → subset (tokens (only word.CloseBrace)) (both (dot_clear m (end_clear a b 0 false)) (others semi)) ≡ true
end_brace true a b = refl
end_brace false true true = refl
end_brace false true false = refl
end_brace false false b = refl

core_brace : (l : StmtLayer) → subset (tokens (only word.CloseBrace)) (both (core_clear l) (others semi)) ≡ true
core_brace (Stmt-F.Let w q a e v o) = end_brace false (ends_open v) (ends_bare v)
core_brace (Stmt-F.Stmt::Macro call o) = end_brace (must_dot InBlock (out-Expr (made.Macro call))) (ends_open (made.Macro call)) (ends_bare (made.Macro call))
core_brace (Stmt-F.Expr v o) = end_brace (must_dot InBlock (out-Expr v)) (ends_open v) (ends_bare v)
core_brace (Stmt-F.BlockLike v o) = end_brace (must_dot InBlock (out-Expr v)) (ends_open v) (ends_bare v)
core_brace (Stmt-F.Mention w u e r o) = refl
core_brace (Stmt-F.Stmt::Group g y o) = refl

pub end_last : (m a b : Bool) → (dot_clear m (end_clear a b 0 false)).end ≡ true
end_last true a b = refl
end_last false true true = refl
end_last false true false = refl
end_last false false b = refl

pub core_last : (l : StmtLayer) → (core_clear l).end ≡ true
core_last (Stmt-F.Let w q a e v o) = end_last false (ends_open v) (ends_bare v)
core_last (Stmt-F.Stmt::Macro call o) = end_last (must_dot InBlock (out-Expr (made.Macro call))) (ends_open (made.Macro call)) (ends_bare (made.Macro call))
core_last (Stmt-F.Expr v o) = end_last (must_dot InBlock (out-Expr v)) (ends_open v) (ends_bare v)
core_last (Stmt-F.BlockLike v o) = end_last (must_dot InBlock (out-Expr v)) (ends_open v) (ends_bare v)
core_last (Stmt-F.Mention w u e r o) = refl
core_last (Stmt-F.Stmt::Group g y o) = refl

-- behind one that another row may follow
closed_clear : (d : ℕ) (y : Stmt) (x : Expr) → ExprIs d x → y ≡ statement_of x → closing (out-Stmt y) ≡ true → (i : Pieces) → next behind_block i ≡ true → next (stmt_clear y) i ≡ true
closed_clear d y x m at c i n = go (view d x m)
  where
    go : View x → next (stmt_clear y) i ≡ true
    go (a_call call is) =
        let o : out-Stmt y ≡ Stmt-F.Stmt::Macro call None = out_of y (stmt.Macro call None) (Stmt-F.Stmt::Macro call None) (at ∙ ap (λ l. statement_by l x) is) (stmt.outs-Macro call None) in
        let dot : must_dot InBlock (out-Expr (made.Macro call)) ≡ true = ap (λ l. must_dot InBlock l) (made.outs-Macro call) ∙ (sym (ap closing o) ∙ c) in
        subst (λ l. next (core_clear l) i ≡ true) (sym o) (subst (λ m. next (dot_clear m (after 0 false (made.Macro call))) i ≡ true) (sym dot) n)
    go (a_block b is) =
        let o : out-Stmt y ≡ Stmt-F.BlockLike x None = out_of y (stmt.BlockLike x None) (Stmt-F.BlockLike x None) (at ∙ is) (stmt.outs-BlockLike x None) in
        let dot : must_dot InBlock (out-Expr x) ≡ true = ap (λ b. b || is_braced (out-Expr x)) b in
        subst (λ l. next (core_clear l) i ≡ true) (sym o) (subst (λ m. next (dot_clear m (after 0 false x)) i ≡ true) (sym dot) n)
    go (other e is) = let bad : false ≡ true = sym (ap closing (out_of y (stmt.Expr x None) (Stmt-F.Expr x None) (at ∙ is) (stmt.outs-Expr x None))) ∙ c in cc

pub rows_end_so : (xs : List Row) → (rows_clear row_closed row_first after_row xs).end ≡ true
rows_end_so [] = refl
rows_end_so (r.Part (y, Some t) ∷ []) = refl
rows_end_so (r.Part (y, None) ∷ []) = go (closing (out-Stmt y))
  where
    go : (b : Bool) → (row_clear row_first b (open_clear b (stmt_clear y))).end ≡ true
    go true = refl
    go false = ap (λ e. e && true) (core_last (out-Stmt y))
rows_end_so (Ending t ∷ []) = refl
rows_end_so (x ∷ y ∷ rest) = rows_end_so (y ∷ rest)

module _ (H : Pieces → Type 0) (depth : ℕ) (s : Readers) (a : Floor H depth s) (opened : Pieces → Read Stmt) (opened_tail : Pieces → Read Expr)
    (stmts : Opened H depth (λ d y. IsStmt d (IsExpr d) (deeper d) false y) stmt_pieces opened) (tails : Opened H depth (λ d x. IsTail d (IsExpr d) (deeper d) x) expr_pieces opened_tail) where
  let_row_pair : Pair H depth (Image semi_part LetRowIs) row_pieces (let_row s opened opened_tail) (tokens (only word.Let)) after_row
  let_row_pair = image_in semi_part row_pieces (λ d t m. refl) (λ d t m i n. always i) (seq_of (let_pair H depth s a) (tok (sign word.Semi)) (λ y. core_semi (out-Stmt y)))

  expr_follows : (d : ℕ) (t : Stmt × Option Token) → ExprRowIs d t → (i : Pieces) → next (part_clear t) i ≡ true → next (more_clear stmt_clear (λ _. semi) (λ _ _. anything) t) i ≡ true
  expr_follows d (y, Some t) m i n = always i
  expr_follows d (y, None) m i n = go (closing (out-Stmt y)) refl n
    where
      two : (u v : Set) (i : Pieces) → next u i ≡ true → next v i ≡ true → next (both u v) i ≡ true
      two u v [] p q = and_two _ _ p q
        where
          and_two : (x y : Bool) → x ≡ true → y ≡ true → (x && y) ≡ true
          and_two true y p q = q
          and_two false y p q = p
      two u v (p.Token t ∷ r) p q = and_two _ _ p q
        where
          and_two : (x y : Bool) → x ≡ true → y ≡ true → (x && y) ≡ true
          and_two true y p q = q
          and_two false y p q = p
      two u v (p.Group t ∷ r) p q = and_two _ _ p q
        where
          and_two : (x y : Bool) → x ≡ true → y ≡ true → (x && y) ≡ true
          and_two true y p q = q
          and_two false y p q = p

      go : (b : Bool) → closing (out-Stmt y) ≡ b → next (open_clear b (stmt_clear y)) i ≡ true → next (both (stmt_clear y) (others semi)) i ≡ true
      go true at n = let q = next_both behind_block (others semi) i n in two (stmt_clear y) (others semi) i (closed_clear d y m.0.0 m.0.1 m.0.2 at i q.0) q.1
      go false at n = n

  expr_row_pair : Pair H depth (Image r.Part ExprRowIs) row_pieces (expr_row s opened opened_tail) expr_first after_row
  expr_row_pair =
      image_in r.Part row_pieces (λ d t m. refl) expr_follows
      (chain_more {c = stmt_clear} {g = λ _. semi} {e = λ _ _. anything} (statement_pair H depth s a) (λ _. tok (sign word.Semi)) (λ y. core_semi (out-Stmt y)))

  sent_pair : Pair H depth (Image sent_of SentIs) row_pieces (mapped sent_of (seq (group is_stmt_group opened) (token (is_sign word.Semi)))) (groups stmt_kind) (λ _. anything)
  sent_pair =
      image_in sent_of row_pieces (λ d t m. ap (λ k. k ++ piece t.1) (pieces_group_bare t.0)) (λ d t m i n. always i)
      (seq_of (group_of is_stmt_group stmt_kind (λ g is. is) stmts) (tok (sign word.Semi)) (λ _. refl))

  ending_pair : Pair H depth (Image Ending EndingIs) row_pieces (mapped Ending (group is_stmt_group opened_tail)) (groups stmt_kind) (λ _. anything)
  ending_pair = image_in Ending row_pieces (λ d t m. refl) (λ d t m i n. always i) (group_of is_stmt_group stmt_kind (λ g is. is) tails)

  semi_behind : (d : ℕ) (t : Row) (q : Pieces) → Image sent_of SentIs d t → next semi (behind_first (row_pieces t ++ q)) ≡ true
  semi_behind d t q m =
      subst (λ t. next semi (behind_first (row_pieces t ++ q)) ≡ true) (sym m.2)
      (subst (λ k. next semi (behind_first ((k ++ piece m.0.1) ++ q)) ≡ true) (sym (pieces_group_bare m.0.0)) ((sign word.Semi).told m.0.1 m.1.1))

  nothing_behind : (d : ℕ) (t : Row) (q : Pieces) → Image Ending EndingIs d t → behind_first (row_pieces t ++ q) ≡ q
  nothing_behind d t q m = ap (λ t. behind_first (row_pieces t ++ q)) m.2

  not_semi : (d : ℕ) (t : Row) (q : Pieces) → Image Ending EndingIs d t → next (after_row t) q ≡ true → next semi q ≡ false
  not_semi d t q m n = next_others semi q (subst (λ t. next (after_row t) q ≡ true) m.2 n)

  sent_longer : (i : Pieces) (t : Row) (q : Pieces) → mapped sent_of (seq (group is_stmt_group opened) (token (is_sign word.Semi))) i ≡ Found t q → (u : Row) (d : ℕ) (k : Pieces) → Image Ending EndingIs d u
      → i ≡ row_pieces u ++ k → length q ≤ length k
  sent_longer i t q is u d k m at =
      let found : Sound (Image sent_of SentIs) row_pieces (Found t q) i = subst (λ o. Sound (Image sent_of SentIs) row_pieces o i) is (sent_pair.sound i) in
      let n : Image sent_of SentIs found.0.0 t = found.0.1 in
      let here : row_pieces t ≡ p.Group n.0.0.0 ∷ p.Token n.0.1 ∷ [] = ap (λ t. row_pieces t) n.2 ∙ ap (λ k. k ++ piece n.0.1) (pieces_group_bare n.0.0) in
      let cut : p.Group n.0.0.0 ∷ p.Token n.0.1 ∷ q ≡ p.Group m.0.0 ∷ k = sym (ap (λ k. k ++ q) here) ∙ sym found.1 ∙ at ∙ ap (λ u. row_pieces u ++ k) m.2 in
      omega (arith, ap (λ k. length k) cut)

  group_row_pair : Pair H depth (Or (Image sent_of SentIs) (Image Ending EndingIs)) row_pieces (stmt_group s opened opened_tail) (groups stmt_kind) after_row
  group_row_pair = peek_of semi sent_pair ending_pair semi_behind nothing_behind not_semi sent_longer

  pub row_pair : Pair H depth RowIs row_pieces (row s opened opened_tail) row_first after_row
  unfolding row
  row_pair = or_of let_row_pair (or_of expr_row_pair group_row_pair refl) refl

  row_inc : (x : Row) → row_closed x ≡ true → subset row_first (after_row x) ≡ true
  row_inc (r.Part (y, Some t)) h = refl
  row_inc (r.Part (y, None)) h = subst (λ b. subset row_first (open_clear b (stmt_clear y)) ≡ true) (sym h) refl
  row_inc (Ending t) h = cc

  pub rows_end : (xs : List Row) → subset (tokens (only word.CloseBrace)) (rows_clear row_closed row_first after_row xs) ≡ true
  rows_end [] = refl
  rows_end (r.Part (y, Some t) ∷ []) = refl
  rows_end (r.Part (y, None) ∷ []) = go (closing (out-Stmt y))
    where
      go : (b : Bool) → subset (tokens (only word.CloseBrace)) (row_clear row_first b (open_clear b (stmt_clear y))) ≡ true
      go true = refl
      go false = core_brace (out-Stmt y)
  rows_end (Ending t ∷ []) = refl
  rows_end (x ∷ y ∷ rest) = rows_end (y ∷ rest)

  pub rows_read : Part H depth (Rows row_closed RowIs) (each row_pieces) (rows_of row_closed (row s opened opened_tail)) row_first (rows_clear row_closed row_first after_row)
  rows_read = rows_pair row_closed row_pair row_inc
