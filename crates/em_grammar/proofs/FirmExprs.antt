-- What is read of expressions, statements and blocks is steady.
use Rattle.std.proofs.Common.{ℕ, suc, ◌≤◌, Bool, true, false, not, if◌then◌else◌, [], ◌∷◌, refl, ap, arith}
use Rattle.em_base.specs.declared.token.Token.{Token}
use Rattle.em_tree.specs.declared.expr.Block.{Block}
use Rattle.em_tree.specs.declared.expr.Body.{Body}
use Rattle.em_tree.specs.declared.expr.ClosureHead.TheVariants as head
use Rattle.em_tree.specs.declared.expr.Condition.TheVariants as condition
use Rattle.em_tree.specs.declared.expr.Expr.{Expr}
use Rattle.em_tree.specs.declared.expr.Expr.TheVariants as made
use Rattle.em_tree.specs.declared.expr.Stmt.{Stmt}
use Rattle.em_tree.specs.declared.types.Path.{Path}
use Rattle.em_tree.specs.Starts.{Pieces}
use Rattle.em_grammar.specs.declared.sort.Written.TheVariants as word
use Rattle.em_grammar.specs.Sorts.{sort_of}
use Rattle.em_grammar.specs.Sets.{Set, next, tokens, groups, only, is_sign, any_of, name_sort, literal_sort}
use Rattle.em_grammar.specs.Reader.{Read, Found, Absent, Deep, entire, token, seq, mapped, opt}
use Rattle.em_grammar.specs.Pairs.{Steady, Firm}
use Rattle.em_grammar.specs.Chains.{kept}
use Rattle.em_grammar.specs.LiteralReader.{is_literal_group}
use Rattle.em_grammar.specs.PathReader.{path_first}
use Rattle.em_grammar.specs.TextReader.{delimited}
use Rattle.em_grammar.specs.ExprSets.{Start, Anywhere, InArm, InBlock, op_binds, op_sort, assign_sort, expr_first, block_first, on}
use Rattle.em_grammar.specs.ExprReader.{Readers, right_of, becomes_of, args_of, at_of, Named, Numbered, dotted_of, is_op, is_assign, is_a_name, arguments, dot_form, suffix, apply}
use Rattle.em_grammar.specs.PrefixReader as r
use Rattle.em_grammar.specs.PrefixReader.{Behind, Call, Fields, is_named, behind_of, field_of, Closes, Times, is_single, bracket_of, paren_of, return_of, unary_of, ref_of, ref_ref_of, param_of, has_comma, bars_of, To, Gives, closure_of, unaries, is_unary, expr_kind, is_expr_group, field_expr, behind, path_form, paren, ends, bracket, param, closure_head, closure_end, closure, return, unary, ref, ref_ref, literal_then, operand_group}
use Rattle.em_grammar.specs.BranchReader as b
use Rattle.em_grammar.specs.BranchReader.{is_closed, let_of, Further, Last, goes_further, if_of, arm_of, arm_closed, match_of, while_of, loop_of, Range, is_bound, range_closed, for_of, is_range_dots, condition', else_part, if', arm, match', while', loop', range, for'}
use Rattle.em_grammar.specs.StmtReader as m
use Rattle.em_grammar.specs.StmtReader.{refs_in, Typed, Plain, Mentions, is_wild, is_blank, statement_of, is_stmt_group, stmt_group_of, tail_group_of, plain_first, let_end, let', plain_stmt, bare_stmt, Part, Ending, row_closed, body_of, semi_part, sent_of, behind_first, peek, plain_block_of, group_block_of, is_block_group, stmt_group, let_row, expr_row, row, body, block_node, tail_stmt}
use Rattle.em_grammar.specs.NodeReader.{closure_first, prefix, expr_node}
use Rattle.em_grammar.proofs.Steady.{same, steady_then, steady_stay, steady_if, firm_same, firm_chain, firm_seq, firm_map, firm_opt, firm_when, firm_choice, firm_commas, firm_group}
use Rattle.em_grammar.proofs.Levels.{firm_level}
use Rattle.em_grammar.proofs.Rows.{firm_rows}
use Rattle.em_grammar.proofs.SuffixPairs.{op_low}

-- ---- more ways to put readers together

firm_kept : {A : Type 0} {P P2 : Pieces → Read A} (test : A → Bool) → Firm P P2 → Firm (kept test P) (kept test P2)
firm_kept {A} {P} {P2} test a = record {
  firm = λ i. steady_then (P i) (P2 i) (λ x r. if test x then Found x r else Absent) (λ x r. if test x then Found x r else Absent) (a.firm i) (λ x r. same (if test x then Found x r else Absent));
}

firm_peek : {A : Type 0} {P P2 Q Q2 : Pieces → Read A} (s : Set) → Firm P P2 → Firm Q Q2 → Firm (peek s P Q) (peek s P2 Q2)
firm_peek {A} {P} {P2} {Q} {Q2} s a c = record {
  firm = λ i. steady_if (next s (behind_first i)) _ _ (Q i) (Q2 i) (steady_stay (P i) (P2 i) (λ x r. Found x r) (λ x r. Found x r) (Q i) (Q2 i) (a.firm i) (λ x r. refl) (c.firm i)) (c.firm i);
}

firm_pick : {A : Type 0} {P P2 Q Q2 : Pieces → Read A} (b : Bool) → Firm P P2 → Firm Q Q2 → Firm (m.pick b P Q) (m.pick b P2 Q2)
firm_pick {A} {P} {P2} {Q} {Q2} b a c = record { firm = λ i. steady_if b (P i) (P2 i) (Q i) (Q2 i) (a.firm i) (c.firm i) }

steady_entire : {A : Type 0} (m n : Read A) → Steady m n → Steady (entire m) (entire n)
steady_entire (Found a []) n s = ap (λ n. entire n) s
steady_entire (Found a (x ∷ r)) n s = ap (λ n. entire n) s
steady_entire Absent n s = ap (λ n. entire n) s
steady_entire Deep n s = tt

-- what is known of the readers inside
pub record FirmIn (s t : Readers) : Type 0 where
  pub inner : (start : Start) (least : ℕ) (h : Bool) → least ≤ 13 → Firm (s.inner start least h) (t.inner start least h)
  pub ty : Firm s.ty t.ty
  pub path : Firm s.path t.path
  pub pat : Firm s.pat t.pat
  pub top : Firm s.top t.top
  pub int : Firm s.int t.int
  pub signed : Firm s.signed t.signed
  pub block : Firm s.block t.block
  pub opened : Firm s.opened t.opened

module _ (s t : Readers) (a : FirmIn s t) where
  it : Firm (s.inner Anywhere 0 false) (t.inner Anywhere 0 false)
  it = a.inner Anywhere 0 false (omega arith)

  firm_sign : (test : Token → Bool) → Firm (token test) (token test)
  firm_sign test = firm_same (token test)

  -- ---- what goes on

  firm_arguments : Firm (arguments s) (arguments t)
  firm_arguments = firm_seq (firm_sign (is_sign word.OpenParen)) (firm_seq (firm_commas it) (firm_sign (is_sign word.CloseParen)))

  firm_dot : Firm (dot_form s) (dot_form t)
  firm_dot = firm_choice (tokens name_sort) (firm_map Named (firm_chain (firm_sign is_a_name) (λ _. firm_opt firm_arguments))) (firm_map Numbered a.int)

  firm_suffix : (h : Bool) → Firm (suffix s h) (suffix t h)
  unfolding suffix
  firm_suffix h = record {
    firm = (firm_choice (tokens op_sort) (firm_map right_of (firm_chain (firm_sign is_op) (λ op. a.inner Anywhere (suc (op_binds (sort_of op))) h (op_low (sort_of op)))))
        (firm_choice (tokens assign_sort) (firm_map becomes_of (firm_seq (firm_sign is_assign) (a.inner Anywhere 3 h (omega arith))))
        (firm_choice (tokens (only word.Dot)) (firm_map dotted_of (firm_seq (firm_sign (is_sign word.Dot)) firm_dot))
        (firm_choice (tokens (only word.OpenParen)) (firm_map args_of firm_arguments)
        (firm_map at_of (firm_seq (firm_sign (is_sign word.OpenBracket)) (firm_seq it (firm_sign (is_sign word.CloseBracket))))))))).firm;
  }

  -- ---- what it begins with

  firm_field : Firm (field_expr s) (field_expr t)
  firm_field = firm_map field_of (firm_chain (firm_sign is_a_name) (λ _. firm_opt (firm_seq (firm_sign (is_sign word.Colon)) it)))

  firm_behind : (h : Bool) (y : Path) → Firm (behind s h y) (behind t h y)
  firm_behind h y =
      firm_choice (tokens (only word.Not)) (firm_same (behind_call y))
      (firm_when (not h) (firm_map Fields (firm_seq (firm_sign (is_sign word.OpenBrace)) (firm_seq (firm_commas firm_field) (firm_sign (is_sign word.CloseBrace))))))
    where
      behind_call : Path → Pieces → Read Behind
      behind_call y = λ i. if is_named y then mapped Call (seq (token (is_sign word.Not)) delimited) i else Absent

  firm_path : (h : Bool) → Firm (path_form s h) (path_form t h)
  firm_path h = firm_map behind_of (firm_chain a.path (λ y. firm_opt (firm_behind h y)))

  firm_bracket : Firm (bracket s) (bracket t)
  firm_bracket =
      firm_map bracket_of (firm_seq (firm_sign (is_sign word.OpenBracket)) (firm_chain (firm_commas it) (λ xs.
      firm_choice (tokens (only word.Semi)) (firm_when (is_single xs) (firm_map Times (firm_seq (firm_sign (is_sign word.Semi)) (firm_seq a.int (firm_sign (is_sign word.CloseBracket))))))
      (firm_same (mapped Closes (token (is_sign word.CloseBracket)))))))

  firm_param : Firm (param s) (param t)
  firm_param = firm_map param_of (firm_chain (firm_chain a.pat (λ _. firm_opt (firm_seq (firm_sign (is_sign word.Colon)) a.ty))) (λ _. firm_same (opt (token (is_sign word.Comma)))))

  firm_closure : (h : Bool) → Firm (closure s h) (closure t h)
  firm_closure h =
      firm_map closure_of (firm_seq (firm_same (opt (token (is_sign word.Move))))
      (firm_seq (firm_choice (tokens (only word.OrOr)) (firm_same (mapped head.Empty (token (is_sign word.OrOr))))
      (firm_map bars_of (firm_seq (firm_sign (is_sign word.Or)) (firm_seq (firm_rows has_comma firm_param) (firm_sign (is_sign word.Or))))))
      (firm_choice (tokens (only word.RArrow)) (firm_map To (firm_seq (firm_sign (is_sign word.RArrow)) (firm_seq a.ty a.block))) (firm_map Gives (a.inner Anywhere 0 h (omega arith))))))

  firm_mut : (h : Bool) → Firm (seq (opt (token (is_sign word.Mut))) (s.inner Anywhere 13 h)) (seq (opt (token (is_sign word.Mut))) (t.inner Anywhere 13 h))
  firm_mut h = firm_seq (firm_same (opt (token (is_sign word.Mut)))) (a.inner Anywhere 13 h (omega arith))

  firm_literal : Firm (literal_then s) (literal_then t)
  firm_literal = record {
    firm = λ i. steady_then (entire (s.signed i)) (entire (t.signed i)) (λ l e. entire (s.opened i)) (λ l e. entire (t.opened i)) (steady_entire (s.signed i) (t.signed i) (a.signed.firm i))
        (λ l e. steady_entire (s.opened i) (t.opened i) (a.opened.firm i));
  }

  firm_operand : Firm (operand_group s) (operand_group t)
  firm_operand = firm_choice (groups expr_kind) (firm_map r.group_of (firm_group is_expr_group a.opened)) (firm_map r.group_of (firm_group is_literal_group firm_literal))

  -- ---- branches

  firm_head : (least : ℕ) → least ≤ 13 → Firm (b.head s least) (b.head t least)
  firm_head least low = firm_kept is_closed (a.inner Anywhere least true low)

  firm_condition : Firm (condition' s) (condition' t)
  firm_condition =
      firm_choice (tokens (only word.Let)) (firm_map let_of (firm_seq (firm_sign (is_sign word.Let)) (firm_seq a.top (firm_seq (firm_sign (is_sign word.Eq)) (firm_head 6 (omega arith))))))
      (firm_map condition.Expr (firm_head 0 (omega arith)))

  firm_else : Firm (else_part s) (else_part t)
  firm_else =
      firm_seq (firm_sign (is_sign word.Else))
      (firm_choice (tokens (only word.If)) (firm_map Further (firm_seq (firm_sign (is_sign word.If)) (firm_seq firm_condition a.block))) (firm_map Last a.block))

  firm_if : Firm (if' s) (if' t)
  firm_if = firm_map if_of (firm_seq (firm_sign (is_sign word.If)) (firm_seq firm_condition (firm_seq a.block (firm_rows goes_further firm_else))))

  firm_arm : Firm (arm s) (arm t)
  firm_arm =
      firm_map arm_of (firm_seq a.top (firm_seq (firm_sign (is_sign word.FatArrow)) (firm_chain (a.inner InArm 0 false (omega arith)) (λ _. firm_same (opt (token (is_sign word.Comma)))))))

  firm_match : Firm (match' s) (match' t)
  firm_match =
      firm_map match_of (firm_seq (firm_sign (is_sign word.Match)) (firm_seq (firm_head 0 (omega arith))
      (firm_seq (firm_sign (is_sign word.OpenBrace)) (firm_seq (firm_rows arm_closed firm_arm) (firm_sign (is_sign word.CloseBrace))))))

  firm_while : Firm (while' s) (while' t)
  firm_while = firm_map while_of (firm_seq (firm_sign (is_sign word.While)) (firm_seq (firm_head 0 (omega arith)) a.block))

  firm_loop : Firm (loop' s) (loop' t)
  firm_loop = firm_map loop_of (firm_seq (firm_sign (is_sign word.Loop)) a.block)

  firm_range : Firm (range s) (range t)
  firm_range =
      firm_kept range_closed (firm_chain (a.inner Anywhere 0 true (omega arith)) (λ x.
      firm_opt (firm_when (is_bound x) (firm_seq (firm_sign is_range_dots) (a.inner Anywhere 4 true (omega arith))))))

  firm_for : Firm (for' s) (for' t)
  firm_for = firm_map for_of (firm_seq (firm_sign (is_sign word.For)) (firm_seq a.pat (firm_seq (firm_sign (is_sign word.In)) (firm_seq firm_range a.block))))

  -- ---- together

  firm_prefix : (h : Bool) → Firm (prefix s h) (prefix t h)
  unfolding prefix
  firm_prefix h = record {
    firm = (firm_choice (tokens literal_sort) (firm_same (mapped made.Literal (token (λ t. literal_sort (sort_of t)))))
        (firm_choice path_first (firm_path h)
        (firm_choice (tokens (only word.OpenParen)) (firm_map paren_of (firm_seq (firm_sign (is_sign word.OpenParen)) (firm_seq it (firm_sign (is_sign word.CloseParen)))))
        (firm_choice (tokens (only word.OpenBracket)) firm_bracket
        (firm_choice block_first (firm_map made.Block a.block)
        (firm_choice (tokens (only word.If)) firm_if
        (firm_choice (tokens (only word.Match)) firm_match
        (firm_choice (tokens (only word.While)) firm_while
        (firm_choice (tokens (only word.Loop)) firm_loop
        (firm_choice (tokens (only word.For)) firm_for
        (firm_choice closure_first (firm_closure h)
        (firm_choice (tokens (only word.Return)) (firm_map return_of (firm_seq (firm_sign (is_sign word.Return)) (firm_opt (a.inner Anywhere 0 h (omega arith)))))
        (firm_choice (tokens (only word.Break)) (firm_same (mapped made.Break (token (is_sign word.Break))))
        (firm_choice (tokens (only word.Continue)) (firm_same (mapped made.Continue (token (is_sign word.Continue))))
        (firm_choice (tokens (λ k. any_of unaries k)) (firm_map unary_of (firm_seq (firm_sign is_unary) (a.inner Anywhere 13 h (omega arith))))
        (firm_choice (tokens (only word.And)) (firm_map ref_of (firm_seq (firm_sign (is_sign word.And)) (firm_mut h)))
        (firm_choice (tokens (only word.AndAnd)) (firm_map ref_ref_of (firm_seq (firm_sign (is_sign word.AndAnd)) (firm_mut h)))
        firm_operand))))))))))))))))).firm;
  }

  pub firm_node : (n k : ℕ) → n ≤ k → (start : Start) (least : ℕ) (h : Bool) → Firm (expr_node s n start least h) (expr_node t k start least h)
  unfolding expr_node
  firm_node n k le start least h = record { firm = (firm_level (on start least) apply n k le (firm_prefix h) (firm_suffix h)).firm }

  -- ---- statements

  firm_let : Firm (let' s) (let' t)
  firm_let =
      firm_map m.let_of (firm_chain (firm_seq (firm_sign (is_sign word.Let)) a.pat) (λ u.
      firm_choice (tokens (only word.Colon)) (firm_map Typed (firm_seq (firm_sign (is_sign word.Colon)) (firm_seq a.ty (firm_seq (firm_sign (is_sign word.Eq)) it))))
      (firm_pick (is_wild u.1) (firm_same (mapped Mentions (seq (token (is_sign word.Eq)) refs_in)))
      (firm_when (not (is_blank u.1)) (firm_map Plain (firm_seq (firm_sign (is_sign word.Eq)) it))))))

  firm_start : Firm (mapped statement_of (s.inner InBlock 0 false)) (mapped statement_of (t.inner InBlock 0 false))
  firm_start = firm_map statement_of (a.inner InBlock 0 false (omega arith))

  firm_plain : Firm (plain_stmt s) (plain_stmt t)
  unfolding plain_stmt
  firm_plain = record { firm = (firm_choice (tokens (only word.Let)) firm_let firm_start).firm }

  pub firm_bare : {opened opened2 : Pieces → Read Stmt} → Firm opened opened2 → Firm (bare_stmt s opened) (bare_stmt t opened2)
  unfolding bare_stmt
  firm_bare o = record { firm = (firm_choice plain_first firm_plain (firm_map stmt_group_of (firm_group is_stmt_group o))).firm }

  pub firm_tail : {opened opened2 : Pieces → Read Expr} → Firm opened opened2 → Firm (tail_stmt s opened) (tail_stmt t opened2)
  unfolding tail_stmt
  firm_tail o = record { firm = (firm_choice expr_first (a.inner InBlock 0 false (omega arith)) (firm_map tail_group_of (firm_group is_stmt_group o))).firm }

  firm_row : {opened opened2 : Pieces → Read Stmt} {tail tail2 : Pieces → Read Expr} → Firm opened opened2 → Firm tail tail2 → Firm (row s opened tail) (row t opened2 tail2)
  unfolding row
  firm_row o q = record {
    firm = (firm_choice (tokens (only word.Let)) (firm_map semi_part (firm_seq firm_let (firm_sign (is_sign word.Semi))))
        (firm_choice expr_first (firm_map Part (firm_chain firm_start (λ _. firm_same (opt (token (is_sign word.Semi))))))
        (firm_peek (tokens (only word.Semi)) (firm_map sent_of (firm_seq (firm_group is_stmt_group o) (firm_sign (is_sign word.Semi)))) (firm_map Ending (firm_group is_stmt_group q))))).firm;
  }

  pub firm_body : {opened opened2 : Pieces → Read Stmt} {tail tail2 : Pieces → Read Expr} → Firm opened opened2 → Firm tail tail2 → Firm (body s opened tail) (body t opened2 tail2)
  unfolding body
  firm_body o q = record { firm = (firm_map body_of (firm_rows row_closed (firm_row o q))).firm }

  pub firm_block : {opened opened2 : Pieces → Read Stmt} {tail tail2 : Pieces → Read Expr} {block block2 : Pieces → Read (Block Body)} → Firm opened opened2 → Firm tail tail2 → Firm block block2
      → Firm (block_node s opened tail block) (block_node t opened2 tail2 block2)
  unfolding block_node
  firm_block o q k = record {
    firm = (firm_choice (tokens (only word.OpenBrace))
        (firm_map plain_block_of (firm_seq (firm_sign (is_sign word.OpenBrace)) (firm_seq (firm_rows row_closed (firm_row o q)) (firm_sign (is_sign word.CloseBrace)))))
        (firm_map group_block_of (firm_group is_block_group k))).firm;
  }
