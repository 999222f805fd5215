-- `if`, `match` and loops are read.
use Rattle.std.proofs.lemmas.List.{append-nil}
use Rattle.std.proofs.Common.{◌≡◌, ℕ, ◌≤◌, Bool, true, false, not, ◌&&◌, ◌||◌, List, [], ◌∷◌, ◌++◌, Option, Some, None, refl, sym, ◌∙◌, ap, append_assoc, arith}
use Rattle.em_base.specs.declared.token.Token.{Token}
use Rattle.em_tree.specs.declared.pat.Pat.{Pat}
use Rattle.em_tree.specs.declared.pat.TopPat.{TopPat}
use Rattle.em_tree.specs.declared.expr.Arm.{Arm}
use Rattle.em_tree.specs.declared.expr.Block.{Block}
use Rattle.em_tree.specs.declared.expr.Body.{Body}
use Rattle.em_tree.specs.declared.expr.Condition.{Condition}
use Rattle.em_tree.specs.declared.expr.Condition.TheVariants as condition
use Rattle.em_tree.specs.declared.expr.Expr.{Expr, out-Expr}
use Rattle.em_tree.specs.declared.expr.Expr.TheVariants as made
use Rattle.em_tree.specs.declared.expr.Expr.TheOpen.{Expr-F}
use Rattle.em_tree.specs.Starts.{Pieces}
use Rattle.em_tree.specs.Parts.{each, maybe}
use Rattle.em_tree.specs.Yields.{piece}
use Rattle.em_tree.specs.PatGrammar.{pat_pieces}
use Rattle.em_tree.specs.ExprGrammar.{expr_pieces, block_pieces}
use Rattle.em_tree.specs.ExprShape.{is_bare_block, ends_open, ends_bare}
use Rattle.em_grammar.specs.declared.sort.Written.TheVariants as word
use Rattle.em_grammar.specs.Sets.{Set, next, subset, tokens, either, both, others, anything, only, any_of}
use Rattle.em_grammar.specs.Lang.{Image, joined}
use Rattle.em_grammar.specs.Rows.{Rows, rows_clear, row_clear}
use Rattle.em_grammar.specs.Pairs.{Pair}
use Rattle.em_grammar.specs.ExprSets.{Anywhere, InArm, expr_first, base, end_clear, level_clear, dot_clear, prefix_clear, is_block, must_dot, block_first, top_start}
use Rattle.em_grammar.specs.ExprReader.{Readers}
use Rattle.em_grammar.specs.PrefixReader.{is_none}
use Rattle.em_grammar.specs.BranchReader as r
use Rattle.em_grammar.specs.BranchReader.{is_closed, let_of, ElseForm, Further, Last, ElsePart, goes_further, else_if_of, branches_of, word_else_of, otherwise_of, if_of, arm_of, arm_closed, comma_clear, arm_clear, match_of, while_of, loop_of, Range, is_bound, range_closed, dots_of, end_of, for_of, is_range_dots, condition', else_part, arm, range}
use Rattle.em_grammar.specs.ExprParts.{HeadIs, ConditionParts, ElseParts, IfParts, ArmParts, MatchParts, WhileParts, LoopParts, RangeIs, ForParts}
use Rattle.em_grammar.proofs.Pairs.{tok, seq_of, seq_part, part_seq, always, in_subset}
use Rattle.em_grammar.proofs.Forms.{or_of, when_of}
use Rattle.em_grammar.proofs.Chains.{chain_more, more_clear, image_in, kept_in}
use Rattle.em_grammar.proofs.Rows.{rows_pair}
use Rattle.em_grammar.proofs.Tests.{sign, several}
use Rattle.em_grammar.proofs.ExprLayers.{pieces_if, pieces_match, pieces_while, pieces_loop, pieces_for, pieces_else_if, condition_pieces, else_if_pieces, arm_pieces}
use Rattle.em_grammar.proofs.ExprFacts.{clear_at}
use Rattle.em_grammar.proofs.Ground.{Ground}

module _ (H : Pieces → Type 0) (depth : ℕ) (s : Readers) (a : Ground H depth s) where
  -- ---- heads

  before_block : (n : ℕ) (a b : Bool) → not b ≡ true → (i : Pieces) → next block_first i ≡ true → next (end_clear a b n true) i ≡ true
  before_block n true true h i k = cc
  before_block n true false h i k = in_subset block_first (base 0 true) refl i k
  before_block n false b h i k = in_subset block_first (base n true) refl i k

  head_pair : (least : ℕ) → least ≤ 13 → Pair H depth (HeadIs least) expr_pieces (r.head s least) expr_first (λ _. block_first)
  head_pair least low = kept_in is_closed refl (λ d x m is i k. before_block least (ends_open x) (ends_bare x) is i k) (a.inner Anywhere least true low)

  condition_pair : Pair H depth ConditionParts condition_pieces (condition' s) (either (tokens (only word.Let)) expr_first) (λ _. block_first)
  condition_pair =
      or_of (image_in let_of condition_pieces (λ d t m. refl) (λ d t m i n. n)
      (seq_of (tok (sign word.Let)) (seq_of a.top (seq_of (tok (sign word.Eq)) (head_pair 6 (omega arith)) (λ _. refl)) (λ _. refl)) (λ _. refl)))
      (image_in condition.Expr condition_pieces (λ d t m. refl) (λ d t m i n. n) (head_pair 0 (omega arith))) refl

  -- ---- `if`

  abbrev form_pieces : ElseForm → Pieces
  form_pieces (Further t) = joined piece (joined condition_pieces block_pieces) t
  form_pieces (Last b) = block_pieces b

  abbrev part_pieces : ElsePart → Pieces
  part_pieces = joined piece form_pieces

  else_pair : Pair H depth ElseParts part_pieces (else_part s) (tokens (only word.Else)) (λ _. anything)
  else_pair =
      seq_of (tok (sign word.Else))
      (or_of (image_in Further form_pieces (λ d t m. refl) (λ d t m i n. always i) (seq_of (tok (sign word.If)) (seq_of condition_pair a.block (λ _. refl)) (λ _. refl)))
      (image_in Last form_pieces (λ d t m. refl) (λ d t m i n. always i) a.block) refl) (λ _. refl)

  parts_yield : (d : ℕ) (xs : List ElsePart) → Rows goes_further ElseParts d xs
      → each else_if_pieces (branches_of xs) ++ (maybe piece (word_else_of xs) ++ maybe block_pieces (otherwise_of xs)) ≡ each part_pieces xs
  parts_yield d [] m = refl
  parts_yield d ((e, Further t) ∷ []) m =
      ap (λ k. (k ++ []) ++ []) (pieces_else_if e t.0 t.1.0 t.1.1) ∙ append-nil ((piece e ++ (piece t.0 ++ (condition_pieces t.1.0 ++ block_pieces t.1.1))) ++ [])
  parts_yield d ((e, Further t) ∷ y ∷ rest) m =
      let more : Pieces = maybe piece (word_else_of (y ∷ rest)) ++ maybe block_pieces (otherwise_of (y ∷ rest)) in
      append_assoc (else_if_pieces (else_if_of e t)) (each else_if_pieces (branches_of (y ∷ rest))) more
      ∙ ap (λ k. else_if_pieces (else_if_of e t) ++ k) (parts_yield d (y ∷ rest) m.2)
      ∙ ap (λ k. k ++ each part_pieces (y ∷ rest)) (pieces_else_if e t.0 t.1.0 t.1.1)
  parts_yield d ((e, Last b) ∷ []) m = sym (append-nil (piece e ++ block_pieces b))
  parts_yield d ((e, Last b) ∷ y ∷ rest) m = let never : false ≡ true = m.1 in cc

  if_yield : (d : ℕ) (t : Token × (Condition Expr × (Block Body × List ElsePart))) → IfParts d t
      → expr_pieces (if_of t) ≡ joined piece (joined condition_pieces (joined block_pieces (each part_pieces))) t
  if_yield d t m =
      pieces_if t.0 t.1.0 t.1.1.0 (branches_of t.1.1.1) (word_else_of t.1.1.1) (otherwise_of t.1.1.1)
      ∙ ap (λ k. piece t.0 ++ (condition_pieces t.1.0 ++ (block_pieces t.1.1.0 ++ k))) (parts_yield d t.1.1.1 m.1.1.1)

  parts_clear : (xs : List ElsePart) (i : Pieces) → next (others (tokens (only word.Else))) i ≡ true → next (rows_clear goes_further (tokens (only word.Else)) (λ _. anything) xs) i ≡ true
  parts_clear [] i n = n
  parts_clear (x ∷ []) i n = go (goes_further x)
    where
      go : (b : Bool) → next (row_clear (tokens (only word.Else)) b anything) i ≡ true
      go true = n
      go false = always i
  parts_clear (x ∷ y ∷ rest) i n = parts_clear (y ∷ rest) i n

  if_clear : (h : Bool) (t : Token × (Condition Expr × (Block Body × List ElsePart))) (i : Pieces) → next (prefix_clear h (if_of t)) i ≡ true
      → next (both anything (rows_clear goes_further (tokens (only word.Else)) (λ _. anything) t.1.1.1)) i ≡ true
  if_clear h t i n =
      parts_clear t.1.1.1 i
      (clear_at h (if_of t) (Expr-F.If t.0 t.1.0 t.1.1.0 (branches_of t.1.1.1) (word_else_of t.1.1.1) (otherwise_of t.1.1.1))
      (made.outs-If t.0 t.1.0 t.1.1.0 (branches_of t.1.1.1) (word_else_of t.1.1.1) (otherwise_of t.1.1.1)) i n)

  pub if_pair : (h : Bool) → Pair H depth (Image if_of IfParts) expr_pieces (r.if' s) (tokens (only word.If)) (prefix_clear h)
  if_pair h =
      image_in if_of expr_pieces if_yield (λ d t m i n. if_clear h t i n)
      (seq_of (tok (sign word.If)) (seq_of condition_pair (seq_part a.block (rows_pair goes_further else_pair (λ x is. refl)) (λ _. refl)) (λ _. refl)) (λ _. refl))

  -- ---- `match`

  comma_after : (m x y : Bool) → subset (tokens (only word.Comma)) (dot_clear m (end_clear x y 0 false)) ≡ true
  comma_after true x y = refl
  comma_after false true true = refl
  comma_after false true false = refl
  comma_after false false y = refl

  arm_follows : (t : TopPat × (Token × (Expr × Option Token))) (i : Pieces) → next (arm_clear (arm_of t)) i ≡ true
      → next (more_clear (level_clear InArm 0 false) (λ _. tokens (only word.Comma)) (λ _ _. anything) t.1.1) i ≡ true
  arm_follows (q, (w, (x, None))) i n = n
  arm_follows (q, (w, (x, Some k))) i n = n

  arm_pair : Pair H depth (Image arm_of ArmParts) arm_pieces (arm s) top_start arm_clear
  arm_pair =
      image_in arm_of arm_pieces (λ d t m. refl) (λ d t m i n. arm_follows t i n)
      (seq_of a.top (seq_of (tok (sign word.FatArrow))
      (chain_more {c = level_clear InArm 0 false} {g = λ _. tokens (only word.Comma)} {e = λ _ _. anything} (a.inner InArm 0 false (omega arith)) (λ _. tok (sign word.Comma))
      (λ x. comma_after (must_dot InArm (out-Expr x)) (ends_open x) (ends_bare x))) (λ _. refl)) (λ _. refl))

  arm_inc : (x : Arm Expr) → arm_closed x ≡ true → subset top_start (arm_clear x) ≡ true
  arm_inc x h = go x.comma (is_block (out-Expr x.body)) h
    where
      go : (k : Option Token) (m : Bool) → (not (is_none k) || m) ≡ true → subset top_start (comma_clear (dot_clear m (end_clear (ends_open x.body) (ends_bare x.body) 0 false)) k) ≡ true
      go None true h = refl
      go None false h = cc
      go (Some t) m h = refl

  arms_end : (xs : List (Arm Expr)) → subset (tokens (only word.CloseBrace)) (rows_clear arm_closed top_start arm_clear xs) ≡ true
  arms_end [] = refl
  arms_end (x ∷ []) = go x.comma (is_block (out-Expr x.body)) (ends_open x.body) (ends_bare x.body)
    where
      go : (k : Option Token) (m y z : Bool) → subset (tokens (only word.CloseBrace)) (row_clear top_start (not (is_none k) || m) (comma_clear (dot_clear m (end_clear y z 0 false)) k)) ≡ true
      go None true y z = refl
      go None false true true = refl
      go None false true false = refl
      go None false false z = refl
      go (Some t) m y z = refl
  arms_end (x ∷ y ∷ rest) = arms_end (y ∷ rest)

  pub match_pair : (h : Bool) → Pair H depth (Image match_of MatchParts) expr_pieces (r.match' s) (tokens (only word.Match)) (prefix_clear h)
  match_pair h =
      image_in match_of expr_pieces (λ d t m. pieces_match t.0 t.1.0 t.1.1.0 t.1.1.1.0 t.1.1.1.1) (λ d t m i n. always i)
      (seq_of (tok (sign word.Match)) (seq_of (head_pair 0 (omega arith))
      (seq_of (tok (sign word.OpenBrace)) (part_seq (rows_pair arm_closed arm_pair arm_inc) (tok (sign word.CloseBrace)) arms_end) (λ _. refl)) (λ _. refl)) (λ _. refl))

  -- ---- loops

  pub while_pair : (h : Bool) → Pair H depth (Image while_of WhileParts) expr_pieces (r.while' s) (tokens (only word.While)) (prefix_clear h)
  while_pair h =
      image_in while_of expr_pieces (λ d t m. pieces_while t.0 t.1.0 t.1.1) (λ d t m i n. always i) (seq_of (tok (sign word.While)) (seq_of (head_pair 0 (omega arith)) a.block (λ _. refl)) (λ _. refl))

  pub loop_pair : (h : Bool) → Pair H depth (Image loop_of LoopParts) expr_pieces (r.loop' s) (tokens (only word.Loop)) (prefix_clear h)
  loop_pair h = image_in loop_of expr_pieces (λ d t m. pieces_loop t.0 t.1) (λ d t m i n. always i) (seq_of (tok (sign word.Loop)) a.block (λ _. refl))

  abbrev dots_first : Set
  dots_first = tokens (λ k. any_of (word.DotDot ∷ word.DotDotEq ∷ []) k)

  dots_after : (x y : Bool) → subset dots_first (end_clear x y 0 true) ≡ true
  dots_after true true = refl
  dots_after true false = refl
  dots_after false y = refl

  no_dots : (n : ℕ) (x y : Bool) → not y ≡ true → (i : Pieces) → next block_first i ≡ true → next (both (end_clear x y 0 true) (others dots_first)) i ≡ true
  no_dots n true true h i k = cc
  no_dots n true false h i k = in_subset block_first (both (base 0 true) (others dots_first)) refl i k
  no_dots n false y h i k = in_subset block_first (both (base 0 true) (others dots_first)) refl i k

  is_first : (a b : Bool) → (a && b) ≡ true → a ≡ true
  is_first true b h = refl
  is_first false b h = h

  range_follows : (t : Range) → range_closed t ≡ true → (i : Pieces) → next block_first i ≡ true
      → next (more_clear (level_clear Anywhere 0 true) (λ _. dots_first) (λ _ u. level_clear Anywhere 4 true u.1) t) i ≡ true
  range_follows (x, None) h i k = no_dots 0 (ends_open x) (ends_bare x) h i k
  range_follows (x, Some t) h i k = before_block 4 (ends_open t.1) (ends_bare t.1) (is_first (is_closed t.1) (not (is_bare_block t.1)) h) i k

  range_pair : Pair H depth RangeIs (joined expr_pieces (maybe (joined piece expr_pieces))) (range s) expr_first (λ _. block_first)
  range_pair =
      kept_in range_closed refl (λ d t m is i k. range_follows t is i k)
      (chain_more {c = level_clear Anywhere 0 true} {g = λ _. dots_first} {e = λ _ u. level_clear Anywhere 4 true u.1} (a.inner Anywhere 0 true (omega arith))
      (λ x. when_of (is_bound x) (seq_of (tok (several (word.DotDot ∷ word.DotDotEq ∷ []))) (a.inner Anywhere 4 true (omega arith)) (λ _. refl)))
      (λ x. dots_after (ends_open x) (ends_bare x)))

  for_yield : (t : Token × (Pat × (Token × (Range × Block Body))))
      → expr_pieces (for_of t) ≡ joined piece (joined pat_pieces (joined piece (joined (joined expr_pieces (maybe (joined piece expr_pieces))) block_pieces))) t
  for_yield (w, (q, (i, ((x, None), b)))) = pieces_for w q i x None None b ∙ ap (λ k. piece w ++ (pat_pieces q ++ (piece i ++ (k ++ block_pieces b)))) (sym (append-nil (expr_pieces x)))
  for_yield (w, (q, (i, ((x, Some t), b)))) =
      pieces_for w q i x (Some t.0) (Some t.1) b
      ∙ ap (λ k. piece w ++ (pat_pieces q ++ (piece i ++ k)))
      (ap (λ k. expr_pieces x ++ k) (sym (append_assoc (piece t.0) (expr_pieces t.1) (block_pieces b))) ∙ sym (append_assoc (expr_pieces x) (piece t.0 ++ expr_pieces t.1) (block_pieces b)))

  pub for_pair : (h : Bool) → Pair H depth (Image for_of ForParts) expr_pieces (r.for' s) (tokens (only word.For)) (prefix_clear h)
  for_pair h =
      image_in for_of expr_pieces (λ d t m. for_yield t) (λ d t m i n. always i)
      (seq_of (tok (sign word.For)) (seq_of a.pat (seq_of (tok (sign word.In)) (seq_of range_pair a.block (λ _. refl)) (λ _. refl)) (λ _. refl)) (λ _. refl))
