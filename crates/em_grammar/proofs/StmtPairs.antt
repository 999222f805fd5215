-- Statements without their `;` are read.
use Rattle.std.proofs.lemmas.List.{append-nil}
use Rattle.std.proofs.Common.{◌≡◌, ℕ, suc, ◌≤◌, Bool, true, false, not, if◌then◌else◌, List, ◌++◌, None, refl, sym, ◌∙◌, ap, subst, arith, ◌⊎◌, inl, inr}
use Rattle.std.specs.Prelude.{codes}
use Rattle.em_base.specs.declared.token.Token.{Token}
use Rattle.em_tree.specs.declared.types.TypeTree.{TypeTree}
use Rattle.em_tree.specs.declared.pat.Pat.{Pat, out-Pat, fold_out-Pat, map-Pat}
use Rattle.em_tree.specs.declared.pat.Pat.TheViews.{roll-Pat, roll-out-Pat}
use Rattle.em_tree.specs.declared.piece.Piece.{Piece}
use Rattle.em_tree.specs.declared.pat.Pat.TheVariants as pat
use Rattle.em_tree.specs.declared.pat.Pat.TheOpen.{Pat-F}
use Rattle.em_tree.specs.declared.expr.Annotation.TheVariants as annotation
use Rattle.em_tree.specs.declared.expr.MacroCall.{MacroCall}
use Rattle.em_tree.specs.declared.expr.Reference.{Reference}
use Rattle.em_tree.specs.declared.expr.Refs.{Refs}
use Rattle.em_tree.specs.declared.expr.Refs.TheVariants as refs
use Rattle.em_tree.specs.declared.expr.Expr.{Expr, out-Expr}
use Rattle.em_tree.specs.declared.expr.Expr.TheVariants as made
use Rattle.em_tree.specs.declared.expr.Expr.TheOpen.{Expr-F, Stmt-F}
use Rattle.em_tree.specs.declared.expr.Stmt.{Stmt, out-Stmt}
use Rattle.em_tree.specs.declared.expr.Stmt.TheVariants as stmt
use Rattle.em_tree.specs.Starts.{Pieces}
use Rattle.em_tree.specs.Parts.{reference_parts, refs_parts, pat_parts, pat_step}
use Rattle.em_tree.specs.Tokens.{Is}
use Rattle.em_tree.specs.Yields.{piece, whole, as_it_is}
use Rattle.em_tree.specs.PathGrammar.{TypeWithin, type_pieces}
use Rattle.em_tree.specs.PatGrammar.{IsPat, pat_pieces}
use Rattle.em_tree.specs.ExprGrammar.{IsMacro, IsReference, AreRefs, expr_pieces, stmt_pieces}
use Rattle.em_grammar.specs.declared.sort.Written.TheVariants as word
use Rattle.em_grammar.specs.Sets.{Set, next, tokens, either, anything, only, name_sort, Inside}
use Rattle.em_grammar.specs.Lang.{Chain, Seq, Image, Or, Lists, joined}
use Rattle.em_grammar.specs.Reader.{Found, mapped}
use Rattle.em_grammar.specs.Pairs.{Pair, Takes, Begins}
use Rattle.em_grammar.specs.ExprSets.{Layer, Start, Anywhere, InBlock, expr_first, after, level_clear, pat_start, pat_follow, is_block}
use Rattle.em_grammar.specs.TypeReader.{type_first, type_clear}
use Rattle.em_grammar.specs.ExprReader.{Readers}
use Rattle.em_grammar.specs.StmtReader.{StmtLayer, reference_of, many_of, reference, refs_in, LetEnd, Typed, Plain, Mentions, is_wild, wild_layer, wild_token, is_blank, let_of, statement_by, statement_of, let_end, let', plain_stmt, plain_first, core_clear, stmt_clear}
use Rattle.em_grammar.specs.ExprLang.{Operand}
use Rattle.em_grammar.proofs.Pairs.{tok, seq_of, part_seq, always, in_subset, sound_in}
use Rattle.em_grammar.proofs.Lists.{commas_of}
use Rattle.em_grammar.proofs.Forms.{or_of, same_of, when_of}
use Rattle.em_grammar.proofs.Chains.{chain_dep, image_in, pick_of, unshift_of}
use Rattle.em_grammar.proofs.Tests.{sign, name, either_test}
use Rattle.em_grammar.proofs.ExprLayers.{same_expr, pieces_macro, pieces_mention, pieces_let, pieces_call_stmt, pieces_expr_stmt, pieces_block_stmt}

pub same_pat : (x y : Pat) → out-Pat x ≡ out-Pat y → x ≡ y
same_pat x y is = sym (roll-out-Pat x) ∙ ap (λ l. roll-Pat l) is ∙ roll-out-Pat y

pub pieces_wild : (t : Token) → pat_pieces (pat.Wild t) ≡ piece t
unfolding pat_parts
pieces_wild t = fold_out-Pat (List Piece) (pat_step piece whole as_it_is) (pat.Wild t) ∙ ap (λ l. pat_step piece whole as_it_is (map-Pat Pat (List Piece) pat_pieces l)) (pat.outs-Wild t)

-- what is known besides: patterns of one node more, and macro calls at any depth
pub record Floor (H : Pieces → Type 0) (depth : ℕ) (s : Readers) : Type 0 where
  pub inner : (start : Start) (least : ℕ) (h : Bool) → least ≤ 13 → Pair H depth (Operand start least h) expr_pieces (s.inner start least h) expr_first (level_clear start least h)
  pub ty : Pair H depth TypeWithin type_pieces s.ty type_first (λ _. type_clear)
  pub pats : Pair H (suc depth) IsPat pat_pieces s.pat pat_start (λ _. pat_follow)
  pub calls : (call : MacroCall) (r : Pieces) → IsMacro call → Inside H (expr_pieces (made.Macro call)) → next (level_clear InBlock 0 false (made.Macro call)) r ≡ true
      → s.inner InBlock 0 false (expr_pieces (made.Macro call) ++ r) ≡ Found (made.Macro call) r
  pub takes : (call : MacroCall) (r : Pieces) → IsMacro call → Inside H (expr_pieces (made.Macro call)) → Takes (s.inner InBlock 0 false (expr_pieces (made.Macro call) ++ r)) r

clear_of : (y : Stmt) (l : StmtLayer) → out-Stmt y ≡ l → (i : Pieces) → next (stmt_clear y) i ≡ true → next (core_clear l) i ≡ true
clear_of y l is i n = subst (λ l. next (core_clear l) i ≡ true) is n

-- ---- references

abbrev reference_pieces : Reference → Pieces
reference_pieces r = reference_parts piece whole as_it_is r

abbrev refs_pieces : Refs → Pieces
refs_pieces r = refs_parts piece whole as_it_is r

module _ (H : Pieces → Type 0) (depth : ℕ) where
  reference_pair : Pair H depth (λ d. IsReference) reference_pieces reference (tokens (only word.And)) (λ _. anything)
  reference_pair =
      same_of (λ d r m. subst (λ r. IsReference r) (sym m.2) m.1) (λ d r m. ((r.amp, r.name), m, refl))
      (image_in reference_of reference_pieces (λ d t m. refl) (λ d t m i n. always i) (seq_of (tok (sign word.And)) (tok (either_test name (sign word.SelfValue))) (λ _. refl)))

  abbrev RefsSides : ℕ → Refs → Type 0
  RefsSides = Or (Image refs.One (λ d. IsReference)) (Image many_of (Seq (λ d. Is (codes "(")) (Seq (Lists (λ d. IsReference)) (λ d. Is (codes ")")))))

  to_refs : (d : ℕ) (r : Refs) → RefsSides d r → AreRefs r
  to_refs d r (inl m) = subst (λ r. AreRefs r) (sym m.2) m.1
  to_refs d r (inr m) = subst (λ r. AreRefs r) (sym m.2) (m.1.0, m.1.1.0, m.1.1.1)

  of_refs : (d : ℕ) (r : Refs) → AreRefs r → RefsSides d r
  of_refs d (refs.One r) m = inl (r, m, refl)
  of_refs d (refs.Many o xs c) m = inr ((o, (xs, c)), (m.0, (m.1, m.2)), refl)

  refs_pair : Pair H depth (λ d. AreRefs) refs_pieces refs_in (either (tokens (only word.And)) (tokens (only word.OpenParen))) (λ _. anything)
  refs_pair =
      same_of to_refs of_refs
      (or_of (image_in refs.One refs_pieces (λ d t m. refl) (λ d t m i n. always i) reference_pair)
      (image_in many_of refs_pieces (λ d t m. refl) (λ d t m i n. always i)
      (seq_of (tok (sign word.OpenParen)) (part_seq (commas_of (sign word.Comma) reference_pair refl refl) (tok (sign word.CloseParen)) (λ _. refl)) (λ _. refl))) refl)

-- ---- `let`

abbrev pub TypedParts : ℕ → Token × (TypeTree × (Token × Expr)) → Type 0
TypedParts = Seq (λ d. Is (codes ":")) (Seq TypeWithin (Seq (λ d. Is (codes "=")) (Operand Anywhere 0 false)))

abbrev pub PlainParts : ℕ → Token × Expr → Type 0
PlainParts = Seq (λ d. Is (codes "=")) (Operand Anywhere 0 false)

abbrev pub MentionParts : ℕ → Token × Refs → Type 0
MentionParts = Seq (λ d. Is (codes "=")) (λ d. AreRefs)

abbrev pub EndIs : Pat → ℕ → LetEnd → Type 0
EndIs q =
    Or (Image Typed TypedParts)
    (λ d t. ((is_wild q ≡ true) × Image Mentions MentionParts d t) ⊎ ((is_wild q ≡ false) × ((not (is_blank q) ≡ true) × Image Plain PlainParts d t)))

abbrev pub LetParts : ℕ → (Token × Pat) × LetEnd → Type 0
LetParts = Chain (Seq (λ d. Is (codes "let")) (λ d. IsPat (suc d))) (λ t. EndIs t.1)

abbrev end_pieces : LetEnd → Pieces
end_pieces (Typed t) = joined piece (joined type_pieces (joined piece expr_pieces)) t
end_pieces (Plain t) = joined piece expr_pieces t
end_pieces (Mentions t) = joined piece refs_pieces t

abbrev end_follow : LetEnd → Set
end_follow (Typed t) = after 0 false t.1.1.1
end_follow (Plain t) = after 0 false t.1
end_follow (Mentions t) = anything

wild_pieces : (w : Token) (q : Pat) → is_wild q ≡ true → q ≡ pat.Wild (wild_token w (out-Pat q))
wild_pieces w q h = go (out-Pat q) refl h
  where
    go : (l : Pat-F Pat) → out-Pat q ≡ l → wild_layer l ≡ true → q ≡ pat.Wild (wild_token w l)
    go (Pat-F.Wild u) is h = same_pat q (pat.Wild u) (is ∙ sym (pat.outs-Wild u))
    go _ is h = cc

abbrev pub ExprIs : ℕ → Expr → Type 0
ExprIs d x = Operand InBlock 0 false d x ⊎ ((call : MacroCall) × IsMacro call × (x ≡ made.Macro call))

-- a statement without its `;`, and no fragment
abbrev pub PlainSides : ℕ → Stmt → Type 0
PlainSides = Or (Image let_of LetParts) (Image statement_of ExprIs)

module _ (H : Pieces → Type 0) (depth : ℕ) (s : Readers) (a : Floor H depth s) where
  value : Pair H depth (Operand Anywhere 0 false) expr_pieces (s.inner Anywhere 0 false) expr_first (λ v. after 0 false v)
  value = a.inner Anywhere 0 false (omega arith)

  end_pair : (q : Pat) → Pair H depth (EndIs q) end_pieces (let_end s q) (either (tokens (only word.Colon)) (tokens (only word.Eq))) end_follow
  end_pair q =
      or_of (image_in Typed end_pieces (λ d t m. refl) (λ d t m i n. n) (seq_of (tok (sign word.Colon)) (seq_of a.ty (seq_of (tok (sign word.Eq)) value (λ _. refl)) (λ _. refl)) (λ _. refl)))
      (pick_of (is_wild q) (image_in Mentions end_pieces (λ d t m. refl) (λ d t m i n. n) (seq_of (tok (sign word.Eq)) (refs_pair H depth) (λ _. refl)))
      (when_of (not (is_blank q)) (image_in Plain end_pieces (λ d t m. refl) (λ d t m i n. n) (seq_of (tok (sign word.Eq)) value (λ _. refl))))) refl

  let_yield : (d : ℕ) (t : (Token × Pat) × LetEnd) → LetParts d t → stmt_pieces (let_of t) ≡ joined (joined piece pat_pieces) end_pieces t
  let_yield d ((w, q), Typed t) m =
      pieces_let w q (annotation.Type t.0 t.1.0) t.1.1.0 t.1.1.1 None
      ∙ ap (λ k. piece w ++ (pat_pieces q ++ ((piece t.0 ++ type_pieces t.1.0) ++ (piece t.1.1.0 ++ k)))) (append-nil (expr_pieces t.1.1.1))
  let_yield d ((w, q), Plain t) m = pieces_let w q annotation.Nothing t.0 t.1 None ∙ ap (λ k. piece w ++ (pat_pieces q ++ (piece t.0 ++ k))) (append-nil (expr_pieces t.1))
  let_yield d ((w, q), Mentions t) m =
      pieces_mention w (wild_token w (out-Pat q)) t.0 t.1 None
      ∙ ap (λ k. piece w ++ (piece (wild_token w (out-Pat q)) ++ (piece t.0 ++ k))) (append-nil (refs_pieces t.1))
      ∙ ap (λ k. piece w ++ (k ++ (piece t.0 ++ refs_pieces t.1))) (sym (ap (λ k. pat_pieces k) (wild_pieces w q (wild m.1)) ∙ pieces_wild (wild_token w (out-Pat q))))
    where
      wild : EndIs q d (Mentions t) → is_wild q ≡ true
      wild (inl n) = let never : Mentions t ≡ Typed n.0 = n.2 in cc
      wild (inr (inl n)) = n.0
      wild (inr (inr n)) = let never : Mentions t ≡ Plain n.1.1.0 = n.1.1.2 in cc

  let_clear : (t : (Token × Pat) × LetEnd) (i : Pieces) → next (stmt_clear (let_of t)) i ≡ true → next (end_follow t.1) i ≡ true
  let_clear ((w, q), Typed t) i n = clear_of (let_of ((w, q), Typed t)) _ (stmt.outs-Let w q (annotation.Type t.0 t.1.0) t.1.1.0 t.1.1.1 None) i n
  let_clear ((w, q), Plain t) i n = clear_of (let_of ((w, q), Plain t)) _ (stmt.outs-Let w q annotation.Nothing t.0 t.1 None) i n
  let_clear ((w, q), Mentions t) i n = always i

  pub let_pair : Pair H depth (Image let_of LetParts) stmt_pieces (let' s) (tokens (only word.Let)) stmt_clear
  let_pair =
      image_in let_of stmt_pieces let_yield (λ d t m i n. let_clear t i n)
      (chain_dep {c = λ _. pat_follow} {g = λ _. either (tokens (only word.Colon)) (tokens (only word.Eq))} {e = λ _ t. end_follow t}
      (seq_of (tok (sign word.Let)) (unshift_of a.pats) (λ _. refl)) (λ t. end_pair t.1) (λ _. refl))

  -- ---- expressions

  call_begins : (call : MacroCall) → IsMacro call → Begins expr_first (expr_pieces (made.Macro call))
  call_begins call m =
      subst (λ k. Begins expr_first k) (sym (pieces_macro call)) (in_subset (tokens name_sort) expr_first refl (piece call.name) (name.told call.name m.0))

  pub start_pair : Pair H depth ExprIs expr_pieces (s.inner InBlock 0 false) expr_first (level_clear InBlock 0 false)
  start_pair = record {
    grows = grows;
    sound = λ i. sound_in (Operand InBlock 0 false) ExprIs expr_pieces (s.inner InBlock 0 false i) i (λ d x m. inl m) (e.sound i);
    begins = begins;
    whole = wholly;
    longest = longest;
    absent = e.absent;
  }
    where
      e : Pair H depth (Operand InBlock 0 false) expr_pieces (s.inner InBlock 0 false) expr_first (level_clear InBlock 0 false)
      e = a.inner InBlock 0 false (omega arith)

      grows : (d : ℕ) (x : Expr) → ExprIs d x → ExprIs (suc d) x
      grows d x (inl m) = inl (e.grows d x m)
      grows d x (inr m) = inr m

      begins : (d : ℕ) (x : Expr) → d ≤ depth → ExprIs d x → Begins expr_first (expr_pieces x)
      begins d x h (inl m) = e.begins d x h m
      begins d x h (inr m) = subst (λ x. Begins expr_first (expr_pieces x)) (sym m.2) (call_begins m.0 m.1)

      wholly : (d : ℕ) (x : Expr) (r : Pieces) → d ≤ depth → Inside H (expr_pieces x) → ExprIs d x → next (level_clear InBlock 0 false x) r ≡ true → s.inner InBlock 0 false (expr_pieces x ++ r) ≡ Found x r
      wholly d x r h w (inl m) cl = e.whole d x r h w m cl
      wholly d x r h w (inr m) cl =
          subst (λ x. s.inner InBlock 0 false (expr_pieces x ++ r) ≡ Found x r) (sym m.2)
          (a.calls m.0 r m.1 (subst (λ x. Inside H (expr_pieces x)) m.2 w) (subst (λ x. next (level_clear InBlock 0 false x) r ≡ true) m.2 cl))

      longest : (d : ℕ) (x : Expr) (r : Pieces) → d ≤ depth → Inside H (expr_pieces x) → ExprIs d x → (level_clear InBlock 0 false x).end ≡ true → Takes (s.inner InBlock 0 false (expr_pieces x ++ r)) r
      longest d x r h w (inl m) en = e.longest d x r h w m en
      longest d x r h w (inr m) en = subst (λ x. Takes (s.inner InBlock 0 false (expr_pieces x ++ r)) r) (sym m.2) (a.takes m.0 r m.1 (subst (λ x. Inside H (expr_pieces x)) m.2 w))

  block_yield : (x : Expr) (b : Bool) → stmt_pieces (if b then stmt.BlockLike x None else stmt.Expr x None) ≡ expr_pieces x
  block_yield x true = pieces_block_stmt x None ∙ append-nil (expr_pieces x)
  block_yield x false = pieces_expr_stmt x None ∙ append-nil (expr_pieces x)

  stmt_yield : (x : Expr) (l : Layer) → out-Expr x ≡ l → stmt_pieces (statement_by l x) ≡ expr_pieces x
  stmt_yield x (Expr-F.Expr::Macro call) is =
      pieces_call_stmt call None ∙ append-nil _ ∙ sym (pieces_macro call) ∙ ap (λ k. expr_pieces k) (sym (same_expr x (made.Macro call) (is ∙ sym (made.outs-Macro call))))
  stmt_yield x l is = block_yield x (is_block l)

  block_clear : (x : Expr) (b : Bool) (i : Pieces) → next (stmt_clear (if b then stmt.BlockLike x None else stmt.Expr x None)) i ≡ true → next (level_clear InBlock 0 false x) i ≡ true
  block_clear x true i n = clear_of (stmt.BlockLike x None) (Stmt-F.BlockLike x None) (stmt.outs-BlockLike x None) i n
  block_clear x false i n = clear_of (stmt.Expr x None) (Stmt-F.Expr x None) (stmt.outs-Expr x None) i n

  statement_clear : (x : Expr) (l : Layer) → out-Expr x ≡ l → (i : Pieces) → next (stmt_clear (statement_by l x)) i ≡ true → next (level_clear InBlock 0 false x) i ≡ true
  statement_clear x (Expr-F.Expr::Macro call) is i n =
      subst (λ k. next (level_clear InBlock 0 false k) i ≡ true) (sym (same_expr x (made.Macro call) (is ∙ sym (made.outs-Macro call))))
      (clear_of (stmt.Macro call None) (Stmt-F.Stmt::Macro call None) (stmt.outs-Macro call None) i n)
  statement_clear x l is i n = block_clear x (is_block l) i n

  pub statement_pair : Pair H depth (Image statement_of ExprIs) stmt_pieces (mapped statement_of (s.inner InBlock 0 false)) expr_first stmt_clear
  statement_pair = image_in statement_of stmt_pieces (λ d x m. stmt_yield x (out-Expr x) refl) (λ d x m i n. statement_clear x (out-Expr x) refl i n) start_pair

  pub plain_sides : Pair H depth PlainSides stmt_pieces (plain_stmt s) plain_first stmt_clear
  unfolding plain_stmt
  plain_sides = or_of let_pair statement_pair refl
