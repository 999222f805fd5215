-- An expression is read: a form that it begins with, and what goes on with it.
use Rattle.std.proofs.lemmas.Bool.{le-leb, leb-true, lt-ltb, ltb-true, eqb-true}
use Rattle.std.proofs.Common.{◌≡◌, ℕ, zero, suc, ◌≤◌, ◌<◌, nat_le, nat_lt, nat_eq, Bool, true, false, not, ◌&&◌, ◌||◌, if◌then◌else◌, [], ◌∷◌, ◌++◌, refl, sym, ◌∙◌, ap, subst, arith, ◌⊎◌, inl, inr}
use Rattle.em_base.specs.declared.token.Token.{Token}
use Rattle.em_tree.specs.declared.piece.Piece.TheVariants as p
use Rattle.em_tree.specs.declared.expr.Expr.{Expr, out-Expr}
use Rattle.em_tree.specs.declared.expr.Expr.TheOpen.{Expr-F}
use Rattle.em_tree.specs.Starts.{Pieces}
use Rattle.em_tree.specs.ExprShape.{Braces, Round, strength, strength_of, edge, ends_open, ends_bare}
use Rattle.em_tree.specs.ExprGrammar.{IsExpr, IsOperand, expr_pieces}
use Rattle.em_grammar.specs.declared.sort.Written.TheVariants as word
use Rattle.em_grammar.specs.declared.sort.Sort.{Sort}
use Rattle.em_grammar.specs.Sorts.{sort_of}
use Rattle.em_grammar.specs.Sets.{Set, next, only, any_of, others, tokens, implies}
use Rattle.em_grammar.specs.Lang.{Shift}
use Rattle.em_grammar.specs.Pairs.{Pair}
use Rattle.em_grammar.specs.Levels.{Levels}
use Rattle.em_grammar.specs.ExprSets.{Layer, Start, Anywhere, InArm, InBlock, binds, needs, free, base, end_clear, after, expr_first, is_block, is_macro, is_prefix_operator, must_dot, is_field, goes_on, on, behind_block, dot_clear, level_clear, block_or, prefix_clear}
use Rattle.em_grammar.specs.ExprReader.{Readers, Suffix, Right, Becomes, Method, Args, Member, Number, At, apply, suffix_pieces, suffix_clear, suffix_first, suffix}
use Rattle.em_grammar.specs.NodeReader.{prefix, expr_node}
use Rattle.em_grammar.specs.ExprLang.{Operand, IsSuffix, edge_fits}
use Rattle.em_grammar.specs.ExprParts.{is_prefix, Prefix}
use Rattle.em_grammar.proofs.AllSorts.{sort_at, and-left, and-right}
use Rattle.em_grammar.proofs.Pairs.{always, next_both}
use Rattle.em_grammar.proofs.Forms.{shift_of}
use Rattle.em_grammar.proofs.Levels.{level_of}
use Rattle.em_grammar.proofs.Ground.{Ground}
use Rattle.em_grammar.proofs.SuffixPairs.{suffix_pair}
use Rattle.em_grammar.proofs.NodePairs.{prefix_pair}
use Rattle.em_grammar.proofs.ExprFacts.{open_layer, open_at, bare_layer, bare_at, edge_layer, edge_at}
use Rattle.em_grammar.proofs.ExprGrows.{no_expr, node_expr, expr_node_of}
use Rattle.em_grammar.proofs.ExprCuts.{apply_layer, out_apply, yield_apply, head_token, suffix_strength, next_head, strength_apply, head_binds, Goes, goes_is, is_goes, apply_node, Cut, cut_node, fit_whole, fit_left}

-- ---- forms that an expression may begin with

prefix_strength : (l : Layer) → is_prefix l ≡ true → (13 ≤ strength_of l) ⊎ (strength_of l ≡ 2)
prefix_strength (Expr-F.Closure m q y) h = inr refl
prefix_strength (Expr-F.ClosureTo m q r t b) h = inr refl
prefix_strength (Expr-F.Return w v) h = inr refl
prefix_strength (Expr-F.MethodCall y dot name o xs c) h = cc
prefix_strength (Expr-F.Call y o xs c) h = cc
prefix_strength (Expr-F.Field y dot name) h = cc
prefix_strength (Expr-F.Place y dot number) h = cc
prefix_strength (Expr-F.Index y o z c) h = cc
prefix_strength (Expr-F.Binary y op z) h = cc
prefix_strength (Expr-F.Assign y op z) h = cc
prefix_strength _ h = inl (omega arith)

pub prefix_fits : (start : Start) (l : Layer) → is_prefix l ≡ true → edge_fits start (edge_layer l) ≡ true
prefix_fits Anywhere l h = refl
prefix_fits InArm (Expr-F.Expr::Macro call) h = go _
  where
    go : (b : Bool) → edge_fits InArm (if b then Braces else Round) ≡ true
    go true = refl
    go false = refl
prefix_fits InBlock (Expr-F.Expr::Macro call) h = go _
  where
    go : (b : Bool) → edge_fits InBlock (if b then Braces else Round) ≡ true
    go true = refl
    go false = refl
prefix_fits InArm (Expr-F.MethodCall y dot name o xs c) h = cc
prefix_fits InArm (Expr-F.Call y o xs c) h = cc
prefix_fits InArm (Expr-F.Field y dot name) h = cc
prefix_fits InArm (Expr-F.Place y dot number) h = cc
prefix_fits InArm (Expr-F.Index y o z c) h = cc
prefix_fits InArm (Expr-F.Binary y op z) h = cc
prefix_fits InArm (Expr-F.Assign y op z) h = cc
prefix_fits InBlock (Expr-F.MethodCall y dot name o xs c) h = cc
prefix_fits InBlock (Expr-F.Call y o xs c) h = cc
prefix_fits InBlock (Expr-F.Field y dot name) h = cc
prefix_fits InBlock (Expr-F.Place y dot number) h = cc
prefix_fits InBlock (Expr-F.Index y o z c) h = cc
prefix_fits InBlock (Expr-F.Binary y op z) h = cc
prefix_fits InBlock (Expr-F.Assign y op z) h = cc
prefix_fits InArm _ h = refl
prefix_fits InBlock _ h = refl

prefix_operand : (start : Start) (least : ℕ) (h : Bool) (d : ℕ) (x : Expr) → least ≤ 13 → Prefix h d x → Operand start least h (suc d) x
prefix_operand start least h d x low m = (
  node_expr d h x m.0,
  strong (prefix_strength (out-Expr x) m.1),
  ap (λ e. edge_fits start e) (edge_at x (out-Expr x) refl) ∙ prefix_fits start (out-Expr x) m.1,
)
  where
    strong : (13 ≤ strength_of (out-Expr x)) ⊎ (strength_of (out-Expr x) ≡ 2) → IsOperand least x
    strong (inl n) = inl (omega (arith, low, n))
    strong (inr n) = inr n

-- ---- what may follow

free_at : (h : Bool) (k : Sort) → 1 ≤ binds k → free h k ≡ true
free_at true k low = go (nat_le 1 (binds k)) (sort_at (λ k. not (nat_le 1 (binds k)) || free true k) k refl) (le-leb 1 (binds k) low)
  where
    go : (b : Bool) → (not b || free true k) ≡ true → b ≡ true → free true k ≡ true
    go true h is = h
    go false h is = cc
free_at false k low = go (nat_le 1 (binds k)) (sort_at (λ k. not (nat_le 1 (binds k)) || free false k) k refl) (le-leb 1 (binds k) low)
  where
    go : (b : Bool) → (not b || free false k) ≡ true → b ≡ true → free false k ≡ true
    go true h is = h
    go false h is = cc

and_two : (a b : Bool) → a ≡ true → b ≡ true → (a && b) ≡ true
and_two true b p q = q
and_two false b p q = p

or_two : (a b : Bool) → b ≡ true → (a || b) ≡ true
or_two true b q = refl
or_two false b q = q

-- a token that binds less tightly than a number may follow at it
in_base : (n : ℕ) (h : Bool) (t : Token) (r : Pieces) → 1 ≤ binds (sort_of t) → binds (sort_of t) < n → next (base n h) (p.Token t ∷ r) ≡ true
in_base n h t r low less = and_two _ _ (or_two (nat_eq (binds (sort_of t)) 0) (nat_lt (binds (sort_of t)) n) (lt-ltb (binds (sort_of t)) n less)) (free_at h (sort_of t) low)

implied : (a b : Bool) → implies a b ≡ true → a ≡ true → b ≡ true
implied true b h is = h
implied false b h is = cc

under_unary : (k : Sort) → needs (binds k) ≤ 13 → binds k < 13
under_unary k h = ltb-true (binds k) 13 (implied _ _ (sort_at (λ k. implies (nat_le (needs (binds k)) 13) (nat_lt (binds k) 13)) k refl) (le-leb (needs (binds k)) 13 h))

under_assign : (k : Sort) → needs (binds k) ≤ 3 → binds k < 3
under_assign k h = ltb-true (binds k) 3 (implied _ _ (sort_at (λ k. implies (nat_le (needs (binds k)) 3) (nat_lt (binds k) 3)) k refl) (le-leb (needs (binds k)) 3 h))

under_all : (k : Sort) → binds k < 15
under_all k = ltb-true (binds k) 15 (sort_at (λ k. nat_lt (binds k) 15) k refl)

needs_more : (k : Sort) → binds k ≤ needs (binds k)
needs_more k = leb-true (binds k) (needs (binds k)) (sort_at (λ k. nat_le (binds k) (needs (binds k))) k refl)

no_else : (k : Sort) → 1 ≤ binds k → not (only word.Else k) ≡ true
no_else k h = implied _ _ (sort_at (λ k. implies (nat_le 1 (binds k)) (not (only word.Else k))) k refl) (le-leb 1 (binds k) h)

-- more may follow where more tightly bound operators end
base_wider : (n m : ℕ) (h : Bool) (i : Pieces) → n ≤ m → next (base n h) i ≡ true → next (base m h) i ≡ true
base_wider n m h [] le is = refl
base_wider n m h (p.Group g ∷ r) le is = refl
base_wider n m h (p.Token t ∷ r) le is = and_two _ _ (go (nat_eq (binds (sort_of t)) 0) (nat_lt (binds (sort_of t)) n) refl (and-left _ _ is)) (and-right _ _ is)
  where
    go : (a b : Bool) → nat_lt (binds (sort_of t)) n ≡ b → (a || b) ≡ true → (a || nat_lt (binds (sort_of t)) m) ≡ true
    go true b at h = refl
    go false true at h = lt-ltb (binds (sort_of t)) m (omega (arith, le, ltb-true (binds (sort_of t)) n at))
    go false false at h = cc

end_wider : (a b : Bool) (n m : ℕ) (h : Bool) (i : Pieces) → n ≤ m → next (end_clear a b n h) i ≡ true → next (end_clear a b m h) i ≡ true
end_wider true true n m h i le is = is
end_wider true false n m h i le is = is
end_wider false b n m h i le is = base_wider n m h i le is

base_else : (n : ℕ) (h : Bool) (i : Pieces) → next (base n h) i ≡ true → next (others (tokens (only word.Else))) i ≡ true
base_else n h [] is = refl
base_else n h (p.Group g ∷ r) is = refl
base_else n h (p.Token t ∷ r) is = implied _ _ (sort_at (λ k. implies (not (any_of (word.PathSep ∷ word.Not ∷ word.Else ∷ []) k)) (not (only word.Else k))) (sort_of t) refl) (and-left _ _ (and-right _ _ is))

end_else : (a b : Bool) (n : ℕ) (h : Bool) (i : Pieces) → next (end_clear a b n h) i ≡ true → next (others (tokens (only word.Else))) i ≡ true
end_else true true n h i is = base_else 0 h i (next_both (others expr_first) (base 0 h) i is).1
end_else true false n h i is = base_else 0 h i is
end_else false b n h i is = base_else n h i is

behind_else : (i : Pieces) → next behind_block i ≡ true → next (others (tokens (only word.Else))) i ≡ true
behind_else [] is = refl
behind_else (p.Group g ∷ r) is = refl
behind_else (p.Token t ∷ r) is = implied _ _ (sort_at (λ k. implies (not (any_of (word.Dot ∷ word.Else ∷ []) k)) (not (only word.Else k))) (sort_of t) refl) is

-- at a token that goes on
goes_at : (start : Start) (least : ℕ) (x : Expr) (i : Pieces) (s : Set) → ((t : Token) (r : Pieces) → Goes start least x (sort_of t) → next s (p.Token t ∷ r) ≡ true) → next (on start least x) i ≡ true → next s i ≡ true
goes_at start least x [] s f h = cc
goes_at start least x (p.Group g ∷ r) s f h = cc
goes_at start least x (p.Token t ∷ r) s f h = f t r (goes_is start least x (sort_of t) h)

operator_strength_is : (l : Layer) → is_prefix_operator l ≡ true → strength_of l ≡ 13
operator_strength_is (Expr-F.Unary op y) h = refl
operator_strength_is (Expr-F.Ref o m y) h = refl
operator_strength_is (Expr-F.RefRef o m y) h = refl
operator_strength_is _ h = cc

-- ---- what goes on may follow what it goes on with

on_prefix : (start : Start) (least : ℕ) (h : Bool) (x : Expr) (i : Pieces) → next (on start least x) i ≡ true → next (prefix_clear h x) i ≡ true
on_prefix start least h x i is = goes_at start least x i (prefix_clear h x) (λ t r a. go (is_block (out-Expr x) || is_macro (out-Expr x)) (is_prefix_operator (out-Expr x)) refl t r a) is
  where
    go : (b u : Bool) → is_prefix_operator (out-Expr x) ≡ u → (t : Token) (r : Pieces) → Goes start least x (sort_of t)
        → next (block_or b (end_clear (ends_open x) (ends_bare x) (if u then 13 else 15) h)) (p.Token t ∷ r) ≡ true
    go true u at t r a = no_else (sort_of t) a.low
    go false true at t r a =
        subst (λ o. next (end_clear o (ends_bare x) 13 h) (p.Token t ∷ r) ≡ true) (sym a.shut)
        (in_base 13 h t r a.low (under_unary (sort_of t) (subst (λ n. needs (binds (sort_of t)) ≤ n) (operator_strength_is (out-Expr x) at) a.strong)))
    go false false at t r a = subst (λ o. next (end_clear o (ends_bare x) 15 h) (p.Token t ∷ r) ≡ true) (sym a.shut) (in_base 15 h t r a.low (under_all (sort_of t)))

open_apply : (x : Expr) (s : Suffix) → ends_open (apply x s) ≡ open_layer (apply_layer x s)
open_apply x s = open_at (apply x s) (apply_layer x s) (out_apply x s)

bare_apply : (x : Expr) (s : Suffix) → ends_bare (apply x s) ≡ bare_layer (apply_layer x s)
bare_apply x s = bare_at (apply x s) (apply_layer x s) (out_apply x s)

on_suffix : (start : Start) (least : ℕ) (h : Bool) (x : Expr) (s : Suffix) (i : Pieces) → next (on start least (apply x s)) i ≡ true → next (suffix_clear h s) i ≡ true
on_suffix start least h x (Right op y) i is = goes_at start least (apply x (Right op y)) i (suffix_clear h (Right op y)) go is
  where
    go : (t : Token) (r : Pieces) → Goes start least (apply x (Right op y)) (sort_of t) → next (suffix_clear h (Right op y)) (p.Token t ∷ r) ≡ true
    go t r a =
        subst (λ o. next (end_clear o (ends_bare y) (suc (suffix_strength (Right op y))) h) (p.Token t ∷ r) ≡ true) (sym (sym (open_apply x (Right op y)) ∙ a.shut))
        (in_base (suc (suffix_strength (Right op y))) h t r a.low
        (omega (arith, needs_more (sort_of t), subst (λ n. needs (binds (sort_of t)) ≤ n) (strength_apply x (Right op y)) a.strong)))
on_suffix start least h x (Becomes op y) i is = goes_at start least (apply x (Becomes op y)) i (suffix_clear h (Becomes op y)) go is
  where
    go : (t : Token) (r : Pieces) → Goes start least (apply x (Becomes op y)) (sort_of t) → next (suffix_clear h (Becomes op y)) (p.Token t ∷ r) ≡ true
    go t r a =
        subst (λ o. next (end_clear o (ends_bare y) 3 h) (p.Token t ∷ r) ≡ true) (sym (sym (open_apply x (Becomes op y)) ∙ a.shut))
        (in_base 3 h t r a.low (under_assign (sort_of t) (subst (λ n. needs (binds (sort_of t)) ≤ n) (strength_apply x (Becomes op y)) a.strong)))
on_suffix start least h x (Member dot name) i is = goes_at start least (apply x (Member dot name)) i (others (tokens (only word.OpenParen))) go is
  where
    go : (t : Token) (r : Pieces) → Goes start least (apply x (Member dot name)) (sort_of t) → next (others (tokens (only word.OpenParen))) (p.Token t ∷ r) ≡ true
    go t r a = subst (λ l. not (is_field l && only word.OpenParen (sort_of t)) ≡ true) (out_apply x (Member dot name)) (and-left _ _ a.fit)
on_suffix start least h x (Method dot name o xs c) i is = always i
on_suffix start least h x (Args o xs c) i is = always i
on_suffix start least h x (Number dot number) i is = always i
on_suffix start least h x (At o y c) i is = always i

-- ---- what may follow doesn't go on

pub clear_stops : (start : Start) (least : ℕ) (h : Bool) (x : Expr) (i : Pieces) → next (level_clear start least h x) i ≡ true → next (on start least x) i ≡ false
clear_stops start least h x [] is = refl
clear_stops start least h x (p.Group g ∷ r) is = refl
clear_stops start least h x (p.Token t ∷ r) is = go (goes_on start least x (sort_of t)) refl
  where
    not_both : (m : Bool) → must_dot start (out-Expr x) ≡ m → Goes start least x (sort_of t) → next (dot_clear m (after least h x)) (p.Token t ∷ r) ≡ true → true ≡ false
    not_both true at a n =
        let dot : only word.Dot (sort_of t) ≡ true = subst (λ m. (not m || only word.Dot (sort_of t)) ≡ true) at (and-right _ _ a.fit) in
        let bad : not true ≡ true = subst (λ b. not (b || any_of (word.Else ∷ []) (sort_of t)) ≡ true) dot n in
        cc
    not_both false at a n = last (and-left _ _ (subst (λ o. next (end_clear o (ends_bare x) least h) (p.Token t ∷ r) ≡ true) a.shut n))
      where
        last : (nat_eq (binds (sort_of t)) 0 || nat_lt (binds (sort_of t)) least) ≡ true → true ≡ false
        last n2 = each (nat_eq (binds (sort_of t)) 0) (nat_lt (binds (sort_of t)) least) refl refl n2
          where
            each : (b c : Bool) → nat_eq (binds (sort_of t)) 0 ≡ b → nat_lt (binds (sort_of t)) least ≡ c → (b || c) ≡ true → true ≡ false
            each true c p q h = absurd (omega (arith, a.low, eqb-true (binds (sort_of t)) 0 p))
            each false true p q h = absurd (omega (arith, a.enough, ltb-true (binds (sort_of t)) least q))
            each false false p q h = cc

    go : (b : Bool) → goes_on start least x (sort_of t) ≡ b → b ≡ false
    go true at = not_both (must_dot start (out-Expr x)) refl (goes_is start least x (sort_of t) at) is
    go false at = refl

-- ---- what may follow the whole may follow its last part

dot_block : (start : Start) (l : Layer) → must_dot start l ≡ true → (is_block l || is_macro l) ≡ true
dot_block Anywhere l h = cc
dot_block InArm l h = ap (λ b. b || is_macro l) h
dot_block InBlock (Expr-F.Expr::Macro call) h = refl
dot_block InBlock (Expr-F.Block b) h = refl
dot_block InBlock (Expr-F.If w q b xs e z) h = refl
dot_block InBlock (Expr-F.Match w y o xs c) h = refl
dot_block InBlock (Expr-F.While w y b) h = refl
dot_block InBlock (Expr-F.Loop w b) h = refl
dot_block InBlock (Expr-F.For w q i y dots z b) h = refl
dot_block InBlock _ h = cc

clear_prefix : (start : Start) (least : ℕ) (h : Bool) (x : Expr) (i : Pieces) → least ≤ 13 → next (level_clear start least h x) i ≡ true → next (prefix_clear h x) i ≡ true
clear_prefix start least h x i low is = go (must_dot start (out-Expr x)) refl is
  where
    open_or : (b u : Bool) → next (after least h x) i ≡ true → next (block_or b (after (if u then 13 else 15) h x)) i ≡ true
    open_or true u n = end_else (ends_open x) (ends_bare x) least h i n
    open_or false true n = end_wider (ends_open x) (ends_bare x) least 13 h i low n
    open_or false false n = end_wider (ends_open x) (ends_bare x) least 15 h i (omega (arith, low)) n

    go : (m : Bool) → must_dot start (out-Expr x) ≡ m → next (dot_clear m (after least h x)) i ≡ true → next (prefix_clear h x) i ≡ true
    go true at n =
        subst (λ b. next (block_or b (after (if is_prefix_operator (out-Expr x) then 13 else 15) h x)) i ≡ true) (sym (dot_block start (out-Expr x) at)) (behind_else i n)
    go false at n = open_or (is_block (out-Expr x) || is_macro (out-Expr x)) (is_prefix_operator (out-Expr x)) n

no_dot : (start : Start) (x : Expr) (s : Suffix) → must_dot start (apply_layer x s) ≡ false
no_dot Anywhere x s = refl
no_dot InArm x (Right op y) = refl
no_dot InArm x (Becomes op y) = refl
no_dot InArm x (Method dot name o xs c) = refl
no_dot InArm x (Args o xs c) = refl
no_dot InArm x (Member dot name) = refl
no_dot InArm x (Number dot number) = refl
no_dot InArm x (At o y c) = refl
no_dot InBlock x (Right op y) = refl
no_dot InBlock x (Becomes op y) = refl
no_dot InBlock x (Method dot name o xs c) = refl
no_dot InBlock x (Args o xs c) = refl
no_dot InBlock x (Member dot name) = refl
no_dot InBlock x (Number dot number) = refl
no_dot InBlock x (At o y c) = refl

no_paren : (least : ℕ) (h : Bool) (i : Pieces) → least ≤ 14 → next (base least h) i ≡ true → next (others (tokens (only word.OpenParen))) i ≡ true
no_paren least h [] low is = refl
no_paren least h (p.Group g ∷ r) low is = refl
no_paren least h (p.Token t ∷ r) low is = go (only word.OpenParen (sort_of t)) refl
  where
    fourteen : (k : Sort) → only word.OpenParen k ≡ true → binds k ≡ 14
    fourteen k h = eqb-true (binds k) 14 (implied _ _ (sort_at (λ k. implies (only word.OpenParen k) (nat_eq (binds k) 14)) k refl) h)

    each : (b c : Bool) → nat_eq (binds (sort_of t)) 0 ≡ b → nat_lt (binds (sort_of t)) least ≡ c → binds (sort_of t) ≡ 14 → (b || c) ≡ true → true ≡ false
    each true c p q n h = absurd (omega (arith, n, eqb-true (binds (sort_of t)) 0 p))
    each false true p q n h = absurd (omega (arith, n, low, ltb-true (binds (sort_of t)) least q))
    each false false p q n h = cc

    go : (b : Bool) → only word.OpenParen (sort_of t) ≡ b → not b ≡ true
    go true at = sym (each (nat_eq (binds (sort_of t)) 0) (nat_lt (binds (sort_of t)) least) refl refl (fourteen (sort_of t) at) (and-left _ _ is))
    go false at = refl

clear_suffix : (start : Start) (least : ℕ) (h : Bool) (x : Expr) (s : Suffix) (i : Pieces) → least ≤ suffix_strength s → next (level_clear start least h (apply x s)) i ≡ true → next (suffix_clear h s) i ≡ true
clear_suffix start least h x s i low is =
    go s low
    (subst (λ a. next (end_clear a (bare_layer (apply_layer x s)) least h) i ≡ true) (open_apply x s)
    (subst (λ b. next (end_clear (ends_open (apply x s)) b least h) i ≡ true) (bare_apply x s)
    (subst (λ m. next (dot_clear m (after least h (apply x s))) i ≡ true) (ap (λ l. must_dot start l) (out_apply x s) ∙ no_dot start x s) is)))
  where
    go : (s : Suffix) → least ≤ suffix_strength s → next (end_clear (open_layer (apply_layer x s)) (bare_layer (apply_layer x s)) least h) i ≡ true → next (suffix_clear h s) i ≡ true
    go (Right op y) low n = end_wider (ends_open y) (ends_bare y) least (suc (suffix_strength (Right op y))) h i (omega (arith, low)) n
    go (Becomes op y) low n = end_wider (ends_open y) (ends_bare y) least 3 h i low n
    go (Member dot name) low n = no_paren least h i low n
    go (Method dot name o xs c) low n = always i
    go (Args o xs c) low n = always i
    go (Number dot number) low n = always i
    go (At o y c) low n = always i

-- ---- all together

module _ (H : Pieces → Type 0) (depth : ℕ) (s : Readers) (a : Ground H depth s) (start : Start) (least : ℕ) (h : Bool) (low : least ≤ 13) where
  abbrev K : ℕ → Expr → Type 0
  K = Operand start least h

  least_of : (d : ℕ) (x : Expr) (r : Suffix) → IsSuffix h d r → IsOperand least (apply x r) → least ≤ suffix_strength r
  least_of d x r m (inl n) = subst (λ k. least ≤ k) (strength_apply x r) n
  least_of d x r m (inr n) = absurd (omega (arith, n, strength_apply x r, (head_binds h d r m).3))

  go_on : (d : ℕ) (x : Expr) (r : Suffix) (i : Pieces) → K d x → Shift (IsSuffix h) (suc d) r → next (on start least x) (suffix_pieces r ++ i) ≡ true → K (suc d) (apply x r)
  go_on d x r i k m is =
      let g : Goes start least x (sort_of (head_token r)) = goes_is start least x (sort_of (head_token r)) (sym (next_head start least x r i) ∙ is) in
      let b = head_binds h d r m in
      let f = fit_whole start least h d x r m k.2 g in (
        node_expr d h (apply x r) (apply_node h d x r k.0 (subst (λ n. needs n ≤ strength x) b.0 g.strong) g.shut f.0 m),
        inl (subst (λ n. least ≤ n) (b.0 ∙ sym (strength_apply x r)) g.enough),
        f.1,
      )

  abbrev Back : ℕ → Expr → Type 0
  Back d x = (left : Expr) × (r : Suffix) × K d left × Shift (IsSuffix h) (suc d) r × (x ≡ apply left r) × ((i : Pieces) → next (on start least left) (suffix_pieces r ++ i) ≡ true)

  needs_at_least : (n : ℕ) → n ≤ needs n
  needs_at_least n = go (nat_eq n 6) refl
    where
      assign : (b : Bool) → nat_eq n 3 ≡ b → n ≤ (if b then 4 else n)
      assign true at = omega (arith, eqb-true n 3 at)
      assign false at = omega arith

      go : (b : Bool) → nat_eq n 6 ≡ b → n ≤ (if b then 7 else (if nat_eq n 3 then 4 else n))
      go true at = omega (arith, eqb-true n 6 at)
      go false at = assign (nat_eq n 3) refl

  cut_back : (d : ℕ) (x : Expr) → K (suc d) x → Cut h d x → Back d x
  cut_back d x k c =
      let least_rest : least ≤ suffix_strength c.rest = least_of d c.left c.rest c.is_rest (subst (λ u. IsOperand least u) c.whole k.1) in
      let f = fit_left start least h d c.left c.rest c.is_rest (subst (λ u. edge_fits start (edge u) ≡ true) c.whole k.2) least_rest c.strong c.shut c.fit in (
        c.left,
        c.rest,
        (c.inside, inl (omega (arith, least_rest, needs_at_least (suffix_strength c.rest), c.strong)), f.0),
        c.is_rest,
        c.whole,
        λ i. next_head start least c.left c.rest i ∙ is_goes start least c.left (sort_of (head_token c.rest)) f.1,
      )

  go_back : (d : ℕ) (x : Expr) → K (suc d) x → Shift (Prefix h) (suc d) x ⊎ Back d x
  go_back d x k = go (cut_node h d x (expr_node_of d h x k.0))
    where
      go : (is_prefix (out-Expr x) ≡ true) ⊎ Cut h d x → Shift (Prefix h) (suc d) x ⊎ Back d x
      go (inl m) = inl (expr_node_of d h x k.0, m)
      go (inr c) = inr (cut_back d x k c)

  begins_with : (d : ℕ) (x : Expr) → Shift (Prefix h) d x → K d x
  begins_with zero x m = absurd m
  begins_with (suc d) x m = prefix_operand start least h d x low m

  pub levels : ((d : ℕ) (x : Expr) → IsExpr d h x → IsExpr (suc d) h x)
      → Levels H (suc depth) depth K (Shift (Prefix h)) (Shift (IsSuffix h)) expr_pieces suffix_pieces (on start least) (suffix s h) apply (prefix s h) expr_first suffix_first (level_clear start least h) (prefix_clear h) (suffix_clear h)
  levels grows = record {
    bound = omega arith;
    none = λ x m. no_expr h x m.0;
    grows = λ d x m. (grows d x m.0, m.1, m.2);
    yield = yield_apply;
    node = begins_with;
    more = go_on;
    back = go_back;
    prefixes = shift_of (prefix_pair H depth s a h);
    suffixes = shift_of (suffix_pair H depth s a h);
    on_pre = λ d x i m is. on_prefix start least h x i is;
    on_suf = λ d x r i k m is. on_suffix start least h x r i is;
    clear_on = λ d x i k is. clear_stops start least h x i is;
    clear_pre = λ d x i m is. clear_prefix start least h x i low is;
    clear_suf = λ d x r i k m w is. clear_suffix start least h x r i (least_of d x r m w.1) is;
  }

  pub expr_pair : ((d : ℕ) (x : Expr) → IsExpr d h x → IsExpr (suc d) h x) → Pair H (suc depth) K expr_pieces (expr_node s depth start least h) expr_first (level_clear start least h)
  unfolding expr_node
  expr_pair grows = level_of (levels grows)
