-- The parts of forms in the words of the grammar and of the readers.
use Rattle.std.proofs.lemmas.Bool.{le-leb, leb-true}
use Rattle.std.proofs.Common.{◌≡◌, ℕ, nat_le, Bool, true, false, not, ◌&&◌, ◌||◌, if◌then◌else◌, List, [], ◌∷◌, Option, Some, None, refl, sym, ◌∙◌, ap, subst, arith, inl, inr}
use Rattle.std.specs.Prelude.{codes}
use Rattle.em_base.specs.declared.token.Token.{Token}
use Rattle.em_tree.specs.declared.parts.Listed.{Listed}
use Rattle.em_tree.specs.declared.pat.Pat.{Pat}
use Rattle.em_tree.specs.declared.expr.Annotation.{Annotation}
use Rattle.em_tree.specs.declared.expr.Annotation.TheVariants as annotation
use Rattle.em_tree.specs.declared.expr.Arm.{Arm}
use Rattle.em_tree.specs.declared.expr.Block.{Block}
use Rattle.em_tree.specs.declared.expr.Body.{Body}
use Rattle.em_tree.specs.declared.expr.ClosureParam.{ClosureParam}
use Rattle.em_tree.specs.declared.expr.ClosureHead.{ClosureHead}
use Rattle.em_tree.specs.declared.expr.ClosureHead.TheVariants as head
use Rattle.em_tree.specs.declared.expr.Condition.{Condition}
use Rattle.em_tree.specs.declared.expr.Condition.TheVariants as condition
use Rattle.em_tree.specs.declared.expr.ElseIf.{ElseIf, out-ElseIf}
use Rattle.em_tree.specs.declared.expr.Expr.{Expr, out-Expr}
use Rattle.em_tree.specs.declared.expr.Expr.TheViews.{out-roll-ElseIf, roll-out-ElseIf}
use Rattle.em_tree.specs.declared.expr.Expr.TheOpen.{Expr-F}
use Rattle.em_tree.specs.declared.expr.FieldExpr.{FieldExpr}
use Rattle.em_tree.specs.Tokens.{Is, Maybe, Each, Commas}
use Rattle.em_tree.specs.PatGrammar.{IsPat}
use Rattle.em_tree.specs.ExprShape.{Edge, Fine, BlockLike, Braces, Round, PastBlock, PastBraces, dotted, past, strength, edge, is_bare_block, ends_open, ends_bare}
use Rattle.em_tree.specs.ExprGrammar as g
use Rattle.em_tree.specs.ExprGrammar.{IsExpr, IsOperand, IsFieldExpr, IsAnnotation, AreParams, IsHead, BeforeBlock, IsCondition, IsElseIf, IsOtherwise, IsArm, EndsArm, AreArms, IsRange, AtLeast, IsBlock}
use Rattle.em_grammar.specs.Lang.{Image, Lists}
use Rattle.em_grammar.specs.Rows.{Rows}
use Rattle.em_grammar.specs.ExprSets.{Layer, Anywhere, InArm, is_block}
use Rattle.em_grammar.specs.PrefixReader.{field_of, is_none, param_of, has_comma}
use Rattle.em_grammar.specs.BranchReader.{Further, Last, ElsePart, goes_further, else_if_of, branches_of, word_else_of, otherwise_of, arm_of, arm_closed, Range, dots_of, end_of}
use Rattle.em_grammar.specs.ExprLang.{Operand, deeper, edge_fits}
use Rattle.em_grammar.specs.ExprParts.{Item, FieldParts, ParamParts, HeadParts, BlockIs, HeadIs, ConditionParts, FurtherParts, ElseParts, ArmParts, RangeIs}
use Rattle.em_grammar.proofs.Lists.{more_commas}
use Rattle.em_grammar.proofs.ExprFacts.{edge_layer, edge_at}

-- ---- operands

pub as_inner : (d : ℕ) (h : Bool) (x : Expr) → IsExpr d h x → Operand Anywhere 0 h d x
as_inner d h x m = (m, inl (omega arith), refl)

pub not_false : (b : Bool) → not b ≡ true → b ≡ false
not_false true h = sym h
not_false false h = refl

pub false_not : (b : Bool) → b ≡ false → not b ≡ true
false_not true h = sym h
false_not false h = refl

pub to_head : (d : ℕ) (x : Expr) → HeadIs 0 d x → BeforeBlock d (IsExpr d) (deeper d) x
to_head d x m = (m.0.0, not_false (ends_bare x) m.1)

pub of_head : (d : ℕ) (x : Expr) → BeforeBlock d (IsExpr d) (deeper d) x → HeadIs 0 d x
of_head d x m = (as_inner d true x m.0, false_not (ends_bare x) m.1)

-- ---- lists of expressions and fields

pub to_items : (d : ℕ) (xs : List (Listed Expr)) → Lists Item d xs → Commas (IsExpr d false) xs
to_items d xs m = more_commas (Item d) (IsExpr d false) (λ x k. k.0) xs m

pub of_items : (d : ℕ) (xs : List (Listed Expr)) → Commas (IsExpr d false) xs → Lists Item d xs
of_items d xs m = more_commas (IsExpr d false) (Item d) (as_inner d false) xs m

to_field : (d : ℕ) (x : FieldExpr Expr) → Image field_of FieldParts d x → IsFieldExpr (IsExpr d false) x
to_field d x ((n, None), m, is) = subst (λ x. IsFieldExpr (IsExpr d false) x) (sym is) (m.0, tt)
to_field d x ((n, Some t), m, is) = subst (λ x. IsFieldExpr (IsExpr d false) x) (sym is) (m.0, (m.1.0, m.1.1.0))

of_field : (d : ℕ) (x : FieldExpr Expr) → IsFieldExpr (IsExpr d false) x → Image field_of FieldParts d x
of_field d x m = go x.name x.colon x.value m
  where
    go : (n : Token) (c : Option Token) (v : Option Expr) → IsFieldExpr (IsExpr d false) (record { name = n; colon = c; value = v }) → Image field_of FieldParts d (record { name = n; colon = c; value = v })
    go n None None m = ((n, None), (m.0, tt), refl)
    go n (Some c) (Some v) m = ((n, Some (c, v)), (m.0, (m.1.0, as_inner d false v m.1.1)), refl)
    go n None (Some v) m = absurd m.1
    go n (Some c) None m = absurd m.1

pub to_fields : (d : ℕ) (xs : List (Listed (FieldExpr Expr))) → Lists (Image field_of FieldParts) d xs → Commas (IsFieldExpr (IsExpr d false)) xs
to_fields d xs m = more_commas (Image field_of FieldParts d) (IsFieldExpr (IsExpr d false)) (to_field d) xs m

pub of_fields : (d : ℕ) (xs : List (Listed (FieldExpr Expr))) → Commas (IsFieldExpr (IsExpr d false)) xs → Lists (Image field_of FieldParts) d xs
of_fields d xs m = more_commas (IsFieldExpr (IsExpr d false)) (Image field_of FieldParts d) (of_field d) xs m

-- ---- heads of closures

param_is : (d : ℕ) (x : ClosureParam) → Image param_of ParamParts d x → IsPat d x.pat × IsAnnotation d x.annotation × Maybe (Is (codes ",")) x.comma
param_is d x (((q, None), k), m, is) = subst (λ x. IsPat d x.pat × IsAnnotation d x.annotation × Maybe (Is (codes ",")) x.comma) (sym is) (m.0.0, tt, m.1)
param_is d x (((q, Some t), k), m, is) = subst (λ x. IsPat d x.pat × IsAnnotation d x.annotation × Maybe (Is (codes ",")) x.comma) (sym is) (m.0.0, m.0.1, m.1)

is_param : (d : ℕ) (x : ClosureParam) → IsPat d x.pat → IsAnnotation d x.annotation → Maybe (Is (codes ",")) x.comma → Image param_of ParamParts d x
is_param d x p n k = go x.pat x.annotation x.comma p n k
  where
    go : (q : Pat) (y : Annotation) (c : Option Token) → IsPat d q → IsAnnotation d y → Maybe (Is (codes ",")) c → Image param_of ParamParts d (record { pat = q; annotation = y; comma = c })
    go q annotation.Nothing c p n k = (((q, None), c), ((p, tt), k), refl)
    go q (annotation.Type colon ty) c p n k = (((q, Some (colon, ty)), c), ((p, n), k), refl)

a_comma : (o : Option Token) → not (is_none o) ≡ true → Maybe (Is (codes ",")) o → (t : Token) × (o ≡ Some t) × Is (codes ",") t
a_comma None h m = cc
a_comma (Some t) h m = (t, refl, m)

comma_there : (o : Option Token) → (t : Token) × (o ≡ Some t) × Is (codes ",") t → (not (is_none o) ≡ true) × Maybe (Is (codes ",")) o
comma_there None m = let never : None ≡ Some m.0 = m.1 in cc
comma_there (Some t) m = let same : m.0 ≡ t = cc in (refl, subst (λ k. Is (codes ",") k) same m.2)

to_params : (d : ℕ) (xs : List ClosureParam) → Rows has_comma (Image param_of ParamParts) d xs → AreParams d xs
to_params d [] m = tt
to_params d (x ∷ []) m = param_is d x m
to_params d (x ∷ y ∷ rest) m = let k = param_is d x m.0 in (k.0, k.1, a_comma x.comma m.1 k.2, to_params d (y ∷ rest) m.2)

of_params : (d : ℕ) (xs : List ClosureParam) → AreParams d xs → Rows has_comma (Image param_of ParamParts) d xs
of_params d [] m = tt
of_params d (x ∷ []) m = is_param d x m.0 m.1 m.2
of_params d (x ∷ y ∷ rest) m = let k = comma_there x.comma m.2 in (is_param d x m.0 m.1 k.1, k.0, of_params d (y ∷ rest) m.3)

pub to_closure_head : (d : ℕ) (x : ClosureHead) → HeadParts d x → IsHead d x
to_closure_head d x (inl m) = subst (λ x. IsHead d x) (sym m.2) m.1
to_closure_head d x (inr m) = subst (λ x. IsHead d x) (sym m.2) (m.1.0, to_params d m.0.1.0 m.1.1.0, m.1.1.1)

pub of_closure_head : (d : ℕ) (x : ClosureHead) → IsHead d x → HeadParts d x
of_closure_head d (head.Empty t) m = inl (t, m, refl)
of_closure_head d (head.Bars o xs c) m = inr ((o, (xs, c)), (m.0, (of_params d xs m.1, m.2)), refl)

-- ---- conditions and branches

pub to_condition : (d : ℕ) (x : Condition Expr) → ConditionParts d x → IsCondition d (IsExpr d) (deeper d) x
to_condition d x (inl m) =
    subst (λ x. IsCondition d (IsExpr d) (deeper d) x) (sym m.2)
    (m.1.0, m.1.1.0, m.1.1.1.0, (m.1.1.1.1.0.0, not_false (ends_bare m.0.1.1.1) m.1.1.1.1.1), m.1.1.1.1.0.1)
to_condition d x (inr m) = subst (λ x. IsCondition d (IsExpr d) (deeper d) x) (sym m.2) (to_head d m.0 m.1)

pub of_condition : (d : ℕ) (x : Condition Expr) → IsCondition d (IsExpr d) (deeper d) x → ConditionParts d x
of_condition d (condition.Expr x) m = inr (x, of_head d x m, refl)
of_condition d (condition.Let w q e x) m = inl ((w, (q, (e, x))), (m.0, (m.1, (m.2, ((m.3.0, m.4, refl), false_not (ends_bare x) m.3.1)))), refl)

to_else_if : (d : ℕ) (e : Token) (t : Token × (Condition Expr × Block Body)) → Is (codes "else") e → FurtherParts d t → IsElseIf d (IsExpr d) (deeper d) (else_if_of e t)
to_else_if d e t is m =
    subst (λ l. Is (codes "else") l.word_else × Is (codes "if") l.word × IsCondition d (IsExpr d) (deeper d) l.condition × IsBlock d (IsExpr d) (deeper d) l.then)
    (sym (out-roll-ElseIf (record { word_else = e; word = t.0; condition = t.1.0; then = t.1.1 }))) (is, m.0, to_condition d t.1.0 m.1.0, m.1.1)

pub to_branches : (d : ℕ) (xs : List ElsePart) → Rows goes_further ElseParts d xs
    → Each (IsElseIf d (IsExpr d) (deeper d)) (branches_of xs) × IsOtherwise d (IsExpr d) (deeper d) (word_else_of xs) (otherwise_of xs)
to_branches d [] m = (tt, tt)
to_branches d ((e, Further t) ∷ []) (is, inl m) = ((to_else_if d e t is (further m.0 t m.2 m.1), tt), tt)
  where
    further : (u t : Token × (Condition Expr × Block Body)) → Further t ≡ Further u → FurtherParts d u → FurtherParts d t
    further u t same k = let eq : t ≡ u = cc in subst (λ v. FurtherParts d v) (sym eq) k
to_branches d ((e, Further t) ∷ []) (is, inr m) = let never : Further t ≡ Last m.0 = m.2 in cc
to_branches d ((e, Last b) ∷ []) (is, inl m) = let never : Last b ≡ Further m.0 = m.2 in cc
to_branches d ((e, Last b) ∷ []) (is, inr m) = let same : b ≡ m.0 = cc in (tt, (is, subst (λ k. BlockIs d k) (sym same) m.1))
to_branches d ((e, Further t) ∷ y ∷ rest) ((is, inl m), k, more) =
    let later = to_branches d (y ∷ rest) more in
    let eq : t ≡ m.0 = cc in
    ((to_else_if d e t is (subst (λ v. FurtherParts d v) (sym eq) m.1), later.0), later.1)
to_branches d ((e, Further t) ∷ y ∷ rest) ((is, inr m), k, more) = let never : Further t ≡ Last m.0 = m.2 in cc
to_branches d ((e, Last b) ∷ y ∷ rest) (p, k, more) = let never : false ≡ true = k in cc

else_if_is : (x : ElseIf) → x ≡ else_if_of (out-ElseIf x).word_else ((out-ElseIf x).word, ((out-ElseIf x).condition, (out-ElseIf x).then))
else_if_is x = sym (roll-out-ElseIf x)

abbrev BranchesOf : ℕ → List ElseIf → Option Token → Option (Block Body) → Type 0
BranchesOf d xs e b = (ys : List ElsePart) × Rows goes_further ElseParts d ys × (branches_of ys ≡ xs) × (word_else_of ys ≡ e) × (otherwise_of ys ≡ b)

add_branch : (d : ℕ) (x : ElsePart) (ys : List ElsePart) → ElseParts d x → goes_further x ≡ true → Rows goes_further ElseParts d ys → Rows goes_further ElseParts d (x ∷ ys)
add_branch d x [] m is k = m
add_branch d x (y ∷ rest) m is k = (m, is, k)

pub of_branches : (d : ℕ) (xs : List ElseIf) (e : Option Token) (b : Option (Block Body)) → Each (IsElseIf d (IsExpr d) (deeper d)) xs → IsOtherwise d (IsExpr d) (deeper d) e b → BranchesOf d xs e b
of_branches d [] None None m o = ([], tt, refl, refl, refl)
of_branches d [] (Some e) (Some b) m o = ((e, Last b) ∷ [], (o.0, inr (b, o.1, refl)), refl, refl, refl)
of_branches d [] None (Some b) m o = absurd o
of_branches d [] (Some e) None m o = absurd o
of_branches d (x ∷ xs) e b m o =
    let later : BranchesOf d xs e b = of_branches d xs e b m.1 o in
    let t : Token × (Condition Expr × Block Body) = ((out-ElseIf x).word, ((out-ElseIf x).condition, (out-ElseIf x).then)) in
    let w : Token = (out-ElseIf x).word_else in (
      (w, Further t) ∷ later.0,
      add_branch d (w, Further t) later.0 (m.0.0, inl (t, (m.0.1, (of_condition d (out-ElseIf x).condition m.0.2, m.0.3)), refl)) refl later.1,
      ap (λ k. k ∷ branches_of later.0) (sym (else_if_is x)) ∙ ap (λ k. x ∷ k) later.2,
      later.3,
      later.4,
    )

-- ---- arms

no_dotted : (e : Edge) → dotted e ≡ BlockLike → ⊥
no_dotted PastBlock h = cc
no_dotted PastBraces h = cc
no_dotted Fine h = cc
no_dotted BlockLike h = cc
no_dotted Braces h = cc
no_dotted Round h = cc

no_past : (e : Edge) → past e ≡ BlockLike → ⊥
no_past BlockLike h = cc
no_past Braces h = cc
no_past PastBlock h = cc
no_past PastBraces h = cc
no_past Fine h = cc
no_past Round h = cc

no_call : (b : Bool) → (if b then Braces else Round) ≡ BlockLike → ⊥
no_call true h = cc
no_call false h = cc

block_edge : (l : Layer) → edge_layer l ≡ BlockLike → is_block l ≡ true
block_edge (Expr-F.Expr::Macro call) h = absurd (no_call _ h)
block_edge (Expr-F.MethodCall y dot name o xs c) h = absurd (no_dotted (edge y) h)
block_edge (Expr-F.Field y dot name) h = absurd (no_dotted (edge y) h)
block_edge (Expr-F.Place y dot number) h = absurd (no_dotted (edge y) h)
block_edge (Expr-F.Call y o xs c) h = absurd (no_past (edge y) h)
block_edge (Expr-F.Index y o z c) h = absurd (no_past (edge y) h)
block_edge (Expr-F.Binary y op z) h = absurd (no_past (edge y) h)
block_edge (Expr-F.Assign y op z) h = absurd (no_past (edge y) h)
block_edge (Expr-F.Block b) h = refl
block_edge (Expr-F.If w q b xs e z) h = refl
block_edge (Expr-F.Match w y o xs c) h = refl
block_edge (Expr-F.While w y b) h = refl
block_edge (Expr-F.Loop w b) h = refl
block_edge (Expr-F.For w q i y dots z b) h = refl
block_edge _ h = cc

edge_block : (l : Layer) → is_block l ≡ true → edge_layer l ≡ BlockLike
edge_block (Expr-F.Block b) h = refl
edge_block (Expr-F.If w q b xs e z) h = refl
edge_block (Expr-F.Match w y o xs c) h = refl
edge_block (Expr-F.While w y b) h = refl
edge_block (Expr-F.Loop w b) h = refl
edge_block (Expr-F.For w q i y dots z b) h = refl
edge_block _ h = cc

pub like_block : (x : Expr) → edge x ≡ BlockLike → is_block (out-Expr x) ≡ true
like_block x h = block_edge (out-Expr x) (sym (edge_at x (out-Expr x) refl) ∙ h)

pub block_like : (x : Expr) → is_block (out-Expr x) ≡ true → edge x ≡ BlockLike
block_like x h = edge_at x (out-Expr x) refl ∙ edge_block (out-Expr x) h

arm_fits : (e : Edge) → edge_fits InArm e ≡ true → e ≡ PastBlock → ⊥
arm_fits PastBlock h is = cc
arm_fits PastBraces h is = cc
arm_fits Fine h is = cc
arm_fits BlockLike h is = cc
arm_fits Braces h is = cc
arm_fits Round h is = cc

fits_arm : (e : Edge) → (e ≡ PastBlock → ⊥) → edge_fits InArm e ≡ true
fits_arm PastBlock h = absurd (h refl)
fits_arm PastBraces h = refl
fits_arm Fine h = refl
fits_arm BlockLike h = refl
fits_arm Braces h = refl
fits_arm Round h = refl

to_arm : (d : ℕ) (x : Arm Expr) → Image arm_of ArmParts d x → IsArm d (IsExpr d) (deeper d) x × Maybe (Is (codes ",")) x.comma
to_arm d x m =
    subst (λ x. IsArm d (IsExpr d) (deeper d) x × Maybe (Is (codes ",")) x.comma) (sym m.2)
    ((m.1.0, m.1.1.0, m.1.1.1.0.0, arm_fits (edge m.0.1.1.0) m.1.1.1.0.2), m.1.1.1.1)

of_arm : (d : ℕ) (x : Arm Expr) → IsArm d (IsExpr d) (deeper d) x → Maybe (Is (codes ",")) x.comma → Image arm_of ArmParts d x
of_arm d x m k = ((x.pat, (x.arrow, (x.body, x.comma))), (m.0, (m.1, ((m.2, inl (omega arith), fits_arm (edge x.body) m.3), k))), refl)

ends_last : (d : ℕ) (x : Arm Expr) (o : Option Token) → x.comma ≡ o → Maybe (Is (codes ",")) o → EndsArm d (IsExpr d) (deeper d) true x
ends_last d x None is m = g.EndsArm.last refl is
ends_last d x (Some t) is m = g.EndsArm.comma is m

ends_more : (d : ℕ) (x : Arm Expr) (o : Option Token) → x.comma ≡ o → Maybe (Is (codes ",")) o → (not (is_none o) || is_block (out-Expr x.body)) ≡ true → EndsArm d (IsExpr d) (deeper d) false x
ends_more d x None is m h = g.EndsArm.block_like (block_like x.body h) is
ends_more d x (Some t) is m h = g.EndsArm.comma is m

arm_ends : (d : ℕ) (last : Bool) (x : Arm Expr) → EndsArm d (IsExpr d) (deeper d) last x → Maybe (Is (codes ",")) x.comma
arm_ends d last x (g.EndsArm.comma {t} is m) = subst (λ o. Maybe (Is (codes ",")) o) (sym is) m
arm_ends d last x (g.EndsArm.last h is) = subst (λ o. Maybe (Is (codes ",")) o) (sym is) tt
arm_ends d last x (g.EndsArm.block_like h is) = subst (λ o. Maybe (Is (codes ",")) o) (sym is) tt

more_ends : (d : ℕ) (last : Bool) (x : Arm Expr) → last ≡ false → EndsArm d (IsExpr d) (deeper d) last x → arm_closed x ≡ true
more_ends d last x no_last (g.EndsArm.comma {t} is m) = ap (λ o. not (is_none o) || is_block (out-Expr x.body)) is
more_ends d last x no_last (g.EndsArm.last h is) = let never : false ≡ true = sym no_last ∙ h in cc
more_ends d last x no_last (g.EndsArm.block_like h is) = or_right (not (is_none x.comma)) (is_block (out-Expr x.body)) (like_block x.body h)
  where
    or_right : (a b : Bool) → b ≡ true → (a || b) ≡ true
    or_right true b h = refl
    or_right false b h = h

pub to_arms : (d : ℕ) (xs : List (Arm Expr)) → Rows arm_closed (Image arm_of ArmParts) d xs → AreArms d (IsExpr d) (deeper d) xs
to_arms d [] m = tt
to_arms d (x ∷ []) m = let k = to_arm d x m in (k.0, ends_last d x x.comma refl k.1)
to_arms d (x ∷ y ∷ rest) m = let k = to_arm d x m.0 in (k.0, ends_more d x x.comma refl k.1 m.1, to_arms d (y ∷ rest) m.2)

pub of_arms : (d : ℕ) (xs : List (Arm Expr)) → AreArms d (IsExpr d) (deeper d) xs → Rows arm_closed (Image arm_of ArmParts) d xs
of_arms d [] m = tt
of_arms d (x ∷ []) m = of_arm d x m.0 (arm_ends d true x m.1)
of_arms d (x ∷ y ∷ rest) m = (of_arm d x m.0 (arm_ends d false x m.1), more_ends d false x refl m.1, of_arms d (y ∷ rest) m.2)

-- ---- ranges

and_both : (a b : Bool) → (a && b) ≡ true → (a ≡ true) × (b ≡ true)
and_both true true h = (refl, refl)
and_both true false h = cc
and_both false b h = cc

and_true : (a b : Bool) → a ≡ true → b ≡ true → (a && b) ≡ true
and_true true b h k = k
and_true false b h k = h

pub to_range : (d : ℕ) (t : Range) → RangeIs d t → IsRange d (IsExpr d) (deeper d) t.0 (dots_of t.1) (end_of t.1)
to_range d (x, None) m = (m.0.0.0, not_false (ends_bare x) m.1)
to_range d (x, Some t) m =
    let b = and_both (nat_le 4 (strength x)) (not (ends_open x)) m.0.1.0 in
    let c = and_both (not (ends_bare t.1)) (not (is_bare_block t.1)) m.1 in
    (m.0.1.1.0, (m.0.0.0, leb-true 4 (strength x) b.0, not_false (ends_open x) b.1), (m.0.1.1.1.0, not_false (ends_bare t.1) c.0), m.0.1.1.1.1, not_false (is_bare_block t.1) c.1)

pub of_range : (d : ℕ) (x : Expr) (dots : Option Token) (end : Option Expr) → IsRange d (IsExpr d) (deeper d) x dots end → (t : Range) × RangeIs d t × (t.0 ≡ x) × (dots_of t.1 ≡ dots) × (end_of t.1 ≡ end)
of_range d x None None m = ((x, None), ((as_inner d true x m.0, tt), false_not (ends_bare x) m.1), refl, refl, refl)
of_range d x (Some dots) (Some y) m = (
  (x, Some (dots, y)),
  ((as_inner d true x m.1.0, (ap (λ b. b && not (ends_open x)) (le-leb 4 (strength x) m.1.1) ∙ false_not (ends_open x) m.1.2, (m.0, (m.2.0, m.3, refl)))), and_true (not (ends_bare y)) (not (is_bare_block y)) (false_not (ends_bare y) m.2.1) (false_not (is_bare_block y) m.4)),
  refl,
  refl,
  refl,
)
of_range d x None (Some y) m = absurd m
of_range d x (Some dots) None m = absurd m
