-- The forms that an expression may begin with, in the words of the grammar and of the readers.
use Rattle.std.proofs.Common.{◌≡◌, ℕ, zero, suc, Bool, true, false, List, [], ◌∷◌, Option, Some, None, refl, sym, ◌∙◌, ap, subst, inl, inr}
use Rattle.std.specs.Prelude.{codes}
use Rattle.em_base.specs.declared.token.Token.{Token}
use Rattle.em_tree.specs.declared.parts.Listed.{Listed}
use Rattle.em_tree.specs.declared.piece.FragmentKind.{FragmentKind}
use Rattle.em_tree.specs.declared.piece.FragmentKind.TheVariants as fk
use Rattle.em_tree.specs.declared.types.Path.{Path}
use Rattle.em_tree.specs.declared.pat.Pat.{Pat}
use Rattle.em_tree.specs.declared.expr.Block.{Block}
use Rattle.em_tree.specs.declared.expr.Body.{Body}
use Rattle.em_tree.specs.declared.expr.Condition.{Condition}
use Rattle.em_tree.specs.declared.expr.ElseIf.{ElseIf}
use Rattle.em_tree.specs.declared.expr.MacroCall.{MacroCall}
use Rattle.em_tree.specs.declared.expr.Expr.{Expr, out-Expr}
use Rattle.em_tree.specs.declared.expr.Expr.TheVariants as made
use Rattle.em_tree.specs.declared.expr.Expr.TheOpen.{Expr-F}
use Rattle.em_tree.specs.Starts.{kind_of}
use Rattle.em_tree.specs.Tokens.{Is, Name, Maybe, Commas}
use Rattle.em_tree.specs.declared.types.Path.TheVariants as path
use Rattle.em_tree.specs.PathGrammar as pg
use Rattle.em_tree.specs.PathGrammar.{PathWithin, literal_pieces}
use Rattle.em_tree.specs.ExprGrammar as g
use Rattle.em_tree.specs.ExprGrammar.{IsExpr, IsOperand, expr_pieces, IsOperandGroup}
use Rattle.em_grammar.specs.Lang.{Opt, Shift, listed}
use Rattle.em_grammar.specs.LiteralReader.{literal_kind}
use Rattle.em_grammar.specs.TypeReader.{alone}
use Rattle.em_grammar.specs.ExprSets.{Layer, Anywhere}
use Rattle.em_grammar.specs.PrefixReader.{Behind, Call, Fields, named_test, is_named, name_or, behind_of, Ends, Closes, Times, bracket_of, ClosureEnd, To, Gives, closure_of, expr_kind}
use Rattle.em_grammar.specs.BranchReader.{ElsePart, branches_of, word_else_of, otherwise_of, if_of, dots_of, end_of, for_of}
use Rattle.em_grammar.specs.ExprLang.{Operand, Node, deeper}
use Rattle.em_grammar.specs.ExprParts.{Prefix, Forms, is_prefix, BehindParts, EndsParts, EndParts}
use Rattle.em_grammar.proofs.Tests.{name}
use Rattle.em_grammar.proofs.LiteralPairs.{kind_literal}
use Rattle.em_grammar.proofs.PathFacts.{lone_path, lone_alone}
use Rattle.em_grammar.proofs.ExprLayers.{same_expr}
use Rattle.em_grammar.proofs.PrefixPairs.{single_is}
use Rattle.em_grammar.proofs.ExprForms.{as_inner, not_false, to_head, of_head, to_items, of_items, to_fields, of_fields, to_closure_head, of_closure_head, to_condition, of_condition, to_branches, of_branches, to_arms, of_arms, to_range, of_range}

out_is : (x y : Expr) (l : Layer) → x ≡ y → out-Expr y ≡ l → out-Expr x ≡ l
out_is x y l is at = ap (λ k. out-Expr k) is ∙ at

kind_expr : (k : FragmentKind) → expr_kind k ≡ true → k ≡ fk.Expr
kind_expr fk.Expr h = refl
kind_expr _ h = cc

named : (y : Path) (t : Token) → is_named y ≡ true → Name (name_or t (alone y))
named y t h = go (alone y) h
  where
    go : (o : Option Token) → named_test o ≡ true → Name (name_or t o)
    go None h = cc
    go (Some w) h = name.holds w h

-- ---- to the grammar's words

to_behind : (h : Bool) (d : ℕ) (x : Expr) (y : Path) (b : Behind) → x ≡ behind_of (y, Some b) → PathWithin d y → BehindParts h y d b → Prefix h d x
to_behind h d x y b is m (inl n) =
    let call : MacroCall = record { name = name_or n.1.0.0 (alone y); bang = n.1.0.0; text = n.1.0.1 } in
    let o : out-Expr x ≡ Expr-F.Expr::Macro call = out_is x (made.Macro call) (Expr-F.Expr::Macro call) (is ∙ ap (λ b. behind_of (y, Some b)) n.1.2) (made.outs-Macro call) in
    (g.ExprNode.macro o (named y n.1.0.0 n.0, n.1.1.0, n.1.1.1), ap (λ l. is_prefix l) o)
to_behind h d x y b is m (inr n) =
    let t = n.1.0 in
    let o : out-Expr x ≡ Expr-F.Struct y t.0 t.1.0 t.1.1 = out_is x (made.Struct y t.0 t.1.0 t.1.1) (Expr-F.Struct y t.0 t.1.0 t.1.1) (is ∙ ap (λ b. behind_of (y, Some b)) n.1.2) (made.outs-Struct y t.0 t.1.0 t.1.1) in
    (subst (λ h. Node d h x) (sym (not_false h n.0)) (g.ExprNode.struct o m n.1.1.0 (to_fields d t.1.0 n.1.1.1.0) n.1.1.1.1), ap (λ l. is_prefix l) o)

to_array : (h : Bool) (d : ℕ) (x : Expr) (o : Token) (xs : List (Listed Expr)) (c : Token) → x ≡ made.Array o xs c → Is (codes "[") o → Commas (IsExpr d false) xs → Is (codes "]") c → Prefix h d x
to_array h d x o xs c is a b e =
    let q : out-Expr x ≡ Expr-F.Array o xs c = out_is x (made.Array o xs c) (Expr-F.Array o xs c) is (made.outs-Array o xs c) in
    (g.ExprNode.array q a b e, ap (λ l. is_prefix l) q)

to_bracket : (h : Bool) (d : ℕ) (x : Expr) (o : Token) (xs : List (Listed Expr)) (e : Ends) → x ≡ bracket_of (o, (xs, e)) → Is (codes "[") o → Commas (IsExpr d false) xs → EndsParts xs d e → Prefix h d x
to_bracket h d x o xs e is a b (inl n) = go xs (single_is xs n.0) b (is ∙ ap (λ e. bracket_of (o, (xs, e))) n.1.2)
  where
    go : (ys : List (Listed Expr)) → (y : Expr) × (ys ≡ record { item = y; comma = None } ∷ []) → Commas (IsExpr d false) ys → x ≡ bracket_of (o, (ys, Times n.1.0)) → Prefix h d x
    go ys (y, at) b is =
        let t = n.1.0 in
        let b2 : Commas (IsExpr d false) (record { item = y; comma = None } ∷ []) = subst (λ ys. Commas (IsExpr d false) ys) at b in
        let q : out-Expr x ≡ Expr-F.Repeat o y t.0 t.1.0 t.1.1 = out_is x (made.Repeat o y t.0 t.1.0 t.1.1) (Expr-F.Repeat o y t.0 t.1.0 t.1.1) (is ∙ ap (λ ys. bracket_of (o, (ys, Times t))) at) (made.outs-Repeat o y t.0 t.1.0 t.1.1) in
        (g.ExprNode.repeat q a b2.0 n.1.1.0 n.1.1.1.0 n.1.1.1.1, ap (λ l. is_prefix l) q)
to_bracket h d x o xs e is a b (inr n) = to_array h d x o xs n.0 (is ∙ ap (λ e. bracket_of (o, (xs, e))) n.2) a b n.1

deeper_shift : (h : Bool) (d : ℕ) (x : Expr) → Shift (Operand Anywhere 13 h) d x → deeper d h x × IsOperand 13 x
deeper_shift h zero x m = absurd m
deeper_shift h (suc d) x m = (m.0, m.1)

shift_deeper : (h : Bool) (d : ℕ) (x : Expr) → deeper d h x → IsOperand 13 x → Shift (Operand Anywhere 13 h) d x
shift_deeper h zero x m k = absurd m
shift_deeper h (suc d) x m k = (m, k, refl)

pub to_prefix : (h : Bool) (d : ℕ) (x : Expr) → Forms h d x → Prefix h d x
to_prefix h d x (inl m) =
    let t = m.0 in
    let q : out-Expr x ≡ Expr-F.Literal t = out_is x (made.Literal t) (Expr-F.Literal t) m.2 (made.outs-Literal t) in
    (g.ExprNode.literal q m.1, ap (λ l. is_prefix l) q)
to_prefix h d x (inr (inl ((y, None), m, is))) =
    let q : out-Expr x ≡ Expr-F.Path y = out_is x (made.Path y) (Expr-F.Path y) is (made.outs-Path y) in
    (g.ExprNode.path q m.0, ap (λ l. is_prefix l) q)
to_prefix h d x (inr (inl ((y, Some b), m, is))) = to_behind h d x y b is m.0 m.1
to_prefix h d x (inr (inr (inl m))) =
    let t = m.0 in
    let q : out-Expr x ≡ Expr-F.Paren t.0 t.1.0 t.1.1 = out_is x (made.Paren t.0 t.1.0 t.1.1) (Expr-F.Paren t.0 t.1.0 t.1.1) m.2 (made.outs-Paren t.0 t.1.0 t.1.1) in
    (g.ExprNode.paren q m.1.0 m.1.1.0.0 m.1.1.1, ap (λ l. is_prefix l) q)
to_prefix h d x (inr (inr (inr (inl m)))) = to_bracket h d x m.0.0 m.0.1.0 m.0.1.1 m.2 m.1.0 (to_items d m.0.1.0 m.1.1.0) m.1.1.1
to_prefix h d x (inr (inr (inr (inr (inl m))))) =
    let t = m.0 in
    let q : out-Expr x ≡ Expr-F.Block t = out_is x (made.Block t) (Expr-F.Block t) m.2 (made.outs-Block t) in
    (g.ExprNode.block q m.1, ap (λ l. is_prefix l) q)
to_prefix h d x (inr (inr (inr (inr (inr (inl m)))))) =
    let t = m.0 in
    let q : out-Expr x ≡ Expr-F.If t.0 t.1.0 t.1.1.0 (branches_of t.1.1.1) (word_else_of t.1.1.1) (otherwise_of t.1.1.1) = out_is x (made.If t.0 t.1.0 t.1.1.0 (branches_of t.1.1.1) (word_else_of t.1.1.1) (otherwise_of t.1.1.1)) (Expr-F.If t.0 t.1.0 t.1.1.0 (branches_of t.1.1.1) (word_else_of t.1.1.1) (otherwise_of t.1.1.1)) m.2 (made.outs-If t.0 t.1.0 t.1.1.0 (branches_of t.1.1.1) (word_else_of t.1.1.1) (otherwise_of t.1.1.1)) in
    (g.ExprNode.if' q m.1.0 (to_condition d t.1.0 m.1.1.0) m.1.1.1.0 (to_branches d t.1.1.1 m.1.1.1.1).0 (to_branches d t.1.1.1 m.1.1.1.1).1, ap (λ l. is_prefix l) q)
to_prefix h d x (inr (inr (inr (inr (inr (inr (inl m))))))) =
    let t = m.0 in
    let q : out-Expr x ≡ Expr-F.Match t.0 t.1.0 t.1.1.0 t.1.1.1.0 t.1.1.1.1 = out_is x (made.Match t.0 t.1.0 t.1.1.0 t.1.1.1.0 t.1.1.1.1) (Expr-F.Match t.0 t.1.0 t.1.1.0 t.1.1.1.0 t.1.1.1.1) m.2 (made.outs-Match t.0 t.1.0 t.1.1.0 t.1.1.1.0 t.1.1.1.1) in
    (g.ExprNode.match q m.1.0 (to_head d t.1.0 m.1.1.0) m.1.1.1.0 (to_arms d t.1.1.1.0 m.1.1.1.1.0) m.1.1.1.1.1, ap (λ l. is_prefix l) q)
to_prefix h d x (inr (inr (inr (inr (inr (inr (inr (inl m)))))))) =
    let t = m.0 in
    let q : out-Expr x ≡ Expr-F.While t.0 t.1.0 t.1.1 = out_is x (made.While t.0 t.1.0 t.1.1) (Expr-F.While t.0 t.1.0 t.1.1) m.2 (made.outs-While t.0 t.1.0 t.1.1) in
    (g.ExprNode.while q m.1.0 (to_head d t.1.0 m.1.1.0) m.1.1.1, ap (λ l. is_prefix l) q)
to_prefix h d x (inr (inr (inr (inr (inr (inr (inr (inr (inl m))))))))) =
    let t = m.0 in
    let q : out-Expr x ≡ Expr-F.Loop t.0 t.1 = out_is x (made.Loop t.0 t.1) (Expr-F.Loop t.0 t.1) m.2 (made.outs-Loop t.0 t.1) in
    (g.ExprNode.loop q m.1.0 m.1.1, ap (λ l. is_prefix l) q)
to_prefix h d x (inr (inr (inr (inr (inr (inr (inr (inr (inr (inl m)))))))))) =
    let t = m.0 in
    let q : out-Expr x ≡ Expr-F.For t.0 t.1.0 t.1.1.0 t.1.1.1.0.0 (dots_of t.1.1.1.0.1) (end_of t.1.1.1.0.1) t.1.1.1.1 = out_is x (made.For t.0 t.1.0 t.1.1.0 t.1.1.1.0.0 (dots_of t.1.1.1.0.1) (end_of t.1.1.1.0.1) t.1.1.1.1) (Expr-F.For t.0 t.1.0 t.1.1.0 t.1.1.1.0.0 (dots_of t.1.1.1.0.1) (end_of t.1.1.1.0.1) t.1.1.1.1) m.2 (made.outs-For t.0 t.1.0 t.1.1.0 t.1.1.1.0.0 (dots_of t.1.1.1.0.1) (end_of t.1.1.1.0.1) t.1.1.1.1) in
    (g.ExprNode.for' q m.1.0 m.1.1.0 m.1.1.1.0 (to_range d t.1.1.1.0 m.1.1.1.1.0) m.1.1.1.1.1, ap (λ l. is_prefix l) q)
to_prefix h d x (inr (inr (inr (inr (inr (inr (inr (inr (inr (inr (inl ((k, (e, y)), m, is)))))))))))) = go y m.1.1 is
  where
    go : (y : ClosureEnd) → EndParts h d y → x ≡ closure_of (k, (e, y)) → Prefix h d x
    go y (inl n) is =
        let t = n.0 in
        let q : out-Expr x ≡ Expr-F.ClosureTo k e t.0 t.1.0 t.1.1 = out_is x (made.ClosureTo k e t.0 t.1.0 t.1.1) (Expr-F.ClosureTo k e t.0 t.1.0 t.1.1) (is ∙ ap (λ y. closure_of (k, (e, y))) n.2) (made.outs-ClosureTo k e t.0 t.1.0 t.1.1) in
        (g.ExprNode.closure_to q m.0 (to_closure_head d e m.1.0) n.1.0 n.1.1.0 n.1.1.1, ap (λ l. is_prefix l) q)
    go y (inr n) is =
        let q : out-Expr x ≡ Expr-F.Closure k e n.0 = out_is x (made.Closure k e n.0) (Expr-F.Closure k e n.0) (is ∙ ap (λ y. closure_of (k, (e, y))) n.2) (made.outs-Closure k e n.0) in
        (g.ExprNode.closure q m.0 (to_closure_head d e m.1.0) n.1.0, ap (λ l. is_prefix l) q)
to_prefix h d x (inr (inr (inr (inr (inr (inr (inr (inr (inr (inr (inr (inl m)))))))))))) =
    let t = m.0 in
    let q : out-Expr x ≡ Expr-F.Return t.0 t.1 = out_is x (made.Return t.0 t.1) (Expr-F.Return t.0 t.1) m.2 (made.outs-Return t.0 t.1) in
    (g.ExprNode.return q m.1.0 (value t.1 m.1.1), ap (λ l. is_prefix l) q)
  where
    value : (v : Option Expr) → Opt (Operand Anywhere 0 h) d v → Maybe (IsExpr d h) v
    value None k = tt
    value (Some v) k = k.0
to_prefix h d x (inr (inr (inr (inr (inr (inr (inr (inr (inr (inr (inr (inr (inl m))))))))))))) =
    let t = m.0 in
    let q : out-Expr x ≡ Expr-F.Break t = out_is x (made.Break t) (Expr-F.Break t) m.2 (made.outs-Break t) in
    (g.ExprNode.break q m.1, ap (λ l. is_prefix l) q)
to_prefix h d x (inr (inr (inr (inr (inr (inr (inr (inr (inr (inr (inr (inr (inr (inl m)))))))))))))) =
    let t = m.0 in
    let q : out-Expr x ≡ Expr-F.Continue t = out_is x (made.Continue t) (Expr-F.Continue t) m.2 (made.outs-Continue t) in
    (g.ExprNode.continue q m.1, ap (λ l. is_prefix l) q)
to_prefix h d x (inr (inr (inr (inr (inr (inr (inr (inr (inr (inr (inr (inr (inr (inr (inl m))))))))))))))) =
    let t = m.0 in
    let q : out-Expr x ≡ Expr-F.Unary t.0 t.1 = out_is x (made.Unary t.0 t.1) (Expr-F.Unary t.0 t.1) m.2 (made.outs-Unary t.0 t.1) in
    (g.ExprNode.unary' q m.1.0 (m.1.1.0, m.1.1.1), ap (λ l. is_prefix l) q)
to_prefix h d x (inr (inr (inr (inr (inr (inr (inr (inr (inr (inr (inr (inr (inr (inr (inr (inl m)))))))))))))))) =
    let t = m.0 in
    let q : out-Expr x ≡ Expr-F.Ref t.0 t.1.0 t.1.1 = out_is x (made.Ref t.0 t.1.0 t.1.1) (Expr-F.Ref t.0 t.1.0 t.1.1) m.2 (made.outs-Ref t.0 t.1.0 t.1.1) in
    (g.ExprNode.ref q m.1.0 m.1.1.0 (m.1.1.1.0, m.1.1.1.1), ap (λ l. is_prefix l) q)
to_prefix h d x (inr (inr (inr (inr (inr (inr (inr (inr (inr (inr (inr (inr (inr (inr (inr (inr (inl m))))))))))))))))) =
    let t = m.0 in
    let q : out-Expr x ≡ Expr-F.RefRef t.0 t.1.0 t.1.1 = out_is x (made.RefRef t.0 t.1.0 t.1.1) (Expr-F.RefRef t.0 t.1.0 t.1.1) m.2 (made.outs-RefRef t.0 t.1.0 t.1.1) in
    (g.ExprNode.ref_ref q m.1.0 m.1.1.0 (deeper_shift h d t.1.1 m.1.1.1).0 (deeper_shift h d t.1.1 m.1.1.1).1, ap (λ l. is_prefix l) q)
to_prefix h d x (inr (inr (inr (inr (inr (inr (inr (inr (inr (inr (inr (inr (inr (inr (inr (inr (inr (inl m)))))))))))))))))) =
    let t = m.0 in
    let q : out-Expr x ≡ Expr-F.Expr::Group t.0 t.1 = out_is x (made.Group t.0 t.1) (Expr-F.Expr::Group t.0 t.1) m.2 (made.outs-Group t.0 t.1) in
    (g.ExprNode.group q (inl (kind_expr (kind_of t.0) m.1.0)) m.1.1 m.1.2, ap (λ l. is_prefix l) q)
to_prefix h d x (inr (inr (inr (inr (inr (inr (inr (inr (inr (inr (inr (inr (inr (inr (inr (inr (inr (inr m)))))))))))))))))) =
    let t = m.0 in
    let q : out-Expr x ≡ Expr-F.Expr::Group t.0 t.1 = out_is x (made.Group t.0 t.1) (Expr-F.Expr::Group t.0 t.1) m.2 (made.outs-Group t.0 t.1) in
    (g.ExprNode.group q (inr (kind_literal (kind_of t.0) m.1.0, (m.1.2.1.0, m.1.1 ∙ m.1.2.1.1, m.1.2.1.2))) m.1.1 m.1.2.0, ap (λ l. is_prefix l) q)

-- ---- to the readers' words

if_same : (w : Token) (k : Condition Expr) (b : Block Body) (ys : List ElsePart) (xs : List ElseIf) (e : Option Token) (z : Option (Block Body)) → branches_of ys ≡ xs → word_else_of ys ≡ e → otherwise_of ys ≡ z
    → made.If w k b xs e z ≡ if_of (w, (k, (b, ys)))
if_same w k b ys xs e z p q u = sym (ap (λ xs. made.If w k b xs (word_else_of ys) (otherwise_of ys)) p ∙ ap (λ e. made.If w k b xs e (otherwise_of ys)) q ∙ ap (λ z. made.If w k b xs e z) u)

for_same : (w : Token) (u : Pat) (i : Token) (y : Expr) (dots : Option Token) (z : Option Expr) (b : Block Body) (x : Expr) (o : Option (Token × Expr)) → x ≡ y → dots_of o ≡ dots → end_of o ≡ z
    → made.For w u i y dots z b ≡ for_of (w, (u, (i, ((x, o), b))))
for_same w u i y dots z b x o p q v = sym (ap (λ x. made.For w u i x (dots_of o) (end_of o) b) p ∙ ap (λ k. made.For w u i y k (end_of o) b) q ∙ ap (λ k. made.For w u i y dots k b) v)

pub macro_path : (d : ℕ) (t : Token) → Name t → PathWithin d (lone_path t)
macro_path d t m = pg.IsPath.plain (path.outs-Plain _) (record { lead = tt; first = inl m; more = tt })

pub macro_named : (t : Token) → Name t → is_named (lone_path t) ≡ true
macro_named t m = ap (λ o. named_test o) (lone_alone t) ∙ name.told t m

pub macro_same : (call : MacroCall) → made.Macro call ≡ behind_of (lone_path call.name, Some (Call (call.bang, call.text)))
macro_same call = ap (λ o. made.Macro (record { name = name_or call.bang o; bang = call.bang; text = call.text })) (sym (lone_alone call.name))

return_value : (h : Bool) (d : ℕ) (v : Option Expr) → Maybe (IsExpr d h) v → Opt (Operand Anywhere 0 h) d v
return_value h d None m = tt
return_value h d (Some v) m = as_inner d h v m

pub of_prefix : (h : Bool) (d : ℕ) (x : Expr) → Node d h x → is_prefix (out-Expr x) ≡ true → Forms h d x
of_prefix h d _ (g.ExprNode.literal {x} {t} is m) pre = inl (t, m, same_expr x (made.Literal t) (is ∙ sym (made.outs-Literal t)))
of_prefix h d _ (g.ExprNode.path {x} {y} is m) pre = inr (inl ((y, None), (m, tt), same_expr x (made.Path y) (is ∙ sym (made.outs-Path y))))
of_prefix h d _ (g.ExprNode.struct {x} {y} {open' = o} {close = c} {fields = xs} is m a b e) pre = inr (inl ((y, Some (Fields (o, (xs, c)))), (m, inr (refl, ((o, (xs, c)), (a, (of_fields d xs b, e)), refl))), same_expr x (made.Struct y o xs c) (is ∙ sym (made.outs-Struct y o xs c))))
of_prefix h d _ (g.ExprNode.paren {x} {y} {open' = o} {close = c} is a m e) pre = inr (inr (inl ((o, (y, c)), (a, (as_inner d false y m, e)), same_expr x (made.Paren o y c) (is ∙ sym (made.outs-Paren o y c)))))
of_prefix h d _ (g.ExprNode.array {x} {open' = o} {close = c} {elements = xs} is a m e) pre = inr (inr (inr (inl ((o, (xs, Closes c)), (a, (of_items d xs m, inr (c, e, refl))), same_expr x (made.Array o xs c) (is ∙ sym (made.outs-Array o xs c))))))
of_prefix h d _ (g.ExprNode.repeat {x} {y} {open' = o} {semi} {close = c} {length} is a m b n e) pre = inr (inr (inr (inl ((o, (listed y None ∷ [], Times (semi, (length, c)))), (a, ((as_inner d false y m, tt), inl (refl, ((semi, (length, c)), (b, (n, e)), refl)))), same_expr x (made.Repeat o y semi length c) (is ∙ sym (made.outs-Repeat o y semi length c))))))
of_prefix h d _ (g.ExprNode.block {x} {b} is m) pre = inr (inr (inr (inr (inl (b, m, same_expr x (made.Block b) (is ∙ sym (made.outs-Block b)))))))
of_prefix h d _ (g.ExprNode.if' {x} {word = w} {c = k} {then' = b} {branches = xs} {word_else = e} {otherwise = z} is a m n l j) pre =
    let q = of_branches d xs e z l j in
    inr (inr (inr (inr (inr (inl ((w, (k, (b, q.0))), (a, (of_condition d k m, (n, q.1))), same_expr x (made.If w k b xs e z) (is ∙ sym (made.outs-If w k b xs e z)) ∙ if_same w k b q.0 xs e z q.2 q.3 q.4))))))
of_prefix h d _ (g.ExprNode.match {x} {y} {word = w} {open' = o} {close = c} {arms = xs} is a m b n e) pre = inr (inr (inr (inr (inr (inr (inl ((w, (y, (o, (xs, c)))), (a, (of_head d y m, (b, (of_arms d xs n, e)))), same_expr x (made.Match w y o xs c) (is ∙ sym (made.outs-Match w y o xs c)))))))))
of_prefix h d _ (g.ExprNode.while {x} {y} {word = w} {b} is a m n) pre = inr (inr (inr (inr (inr (inr (inr (inl ((w, (y, b)), (a, (of_head d y m, n)), same_expr x (made.While w y b) (is ∙ sym (made.outs-While w y b))))))))))
of_prefix h d _ (g.ExprNode.loop {x} {word = w} {b} is a n) pre = inr (inr (inr (inr (inr (inr (inr (inr (inl ((w, b), (a, n), same_expr x (made.Loop w b) (is ∙ sym (made.outs-Loop w b)))))))))))
of_prefix h d _ (g.ExprNode.for' {x} {y} {word = w} {word_in = i} {pat = u} {dots} {end = z} {b} is a m n l j) pre =
    let q = of_range d y dots z l in
    inr (inr (inr (inr (inr (inr (inr (inr (inr (inl ((w, (u, (i, (q.0, b)))), (a, (m, (n, (q.1, j)))), same_expr x (made.For w u i y dots z b) (is ∙ sym (made.outs-For w u i y dots z b)) ∙ for_same w u i y dots z b q.0.0 q.0.1 q.2 q.3 q.4))))))))))
of_prefix h d _ (g.ExprNode.closure {x} {y} {word_move = k} {params = e} is a m n) pre = inr (inr (inr (inr (inr (inr (inr (inr (inr (inr (inl ((k, (e, Gives y)), (a, (of_closure_head d e m, inr (y, as_inner d h y n, refl))), same_expr x (made.Closure k e y) (is ∙ sym (made.outs-Closure k e y)))))))))))))
of_prefix h d _ (g.ExprNode.closure_to {x} {word_move = k} {params = e} {arrow} {output = u} {b} is a m n l j) pre = inr (inr (inr (inr (inr (inr (inr (inr (inr (inr (inl ((k, (e, To (arrow, (u, b)))), (a, (of_closure_head d e m, inl ((arrow, (u, b)), (n, (l, j)), refl))), same_expr x (made.ClosureTo k e arrow u b) (is ∙ sym (made.outs-ClosureTo k e arrow u b)))))))))))))
of_prefix h d _ (g.ExprNode.macro {x} {call} is m) pre =
    inr (inl ((lone_path call.name, Some (Call (call.bang, call.text))), (macro_path d call.name m.0, inl (macro_named call.name m.0, ((call.bang, call.text), (m.1, m.2), refl))), same_expr x (made.Macro call) (is ∙ sym (made.outs-Macro call)) ∙ macro_same call))
of_prefix h d _ (g.ExprNode.return {x} {word = w} {value = v} is a m) pre = inr (inr (inr (inr (inr (inr (inr (inr (inr (inr (inr (inl ((w, v), (a, return_value h d v m), same_expr x (made.Return w v) (is ∙ sym (made.outs-Return w v))))))))))))))
of_prefix h d _ (g.ExprNode.break {x} {word = t} is m) pre = inr (inr (inr (inr (inr (inr (inr (inr (inr (inr (inr (inr (inl (t, m, same_expr x (made.Break t) (is ∙ sym (made.outs-Break t)))))))))))))))
of_prefix h d _ (g.ExprNode.continue {x} {word = t} is m) pre = inr (inr (inr (inr (inr (inr (inr (inr (inr (inr (inr (inr (inr (inl (t, m, same_expr x (made.Continue t) (is ∙ sym (made.outs-Continue t))))))))))))))))
of_prefix h d _ (g.ExprNode.method_call is m a b e n k) pre = let never : false ≡ true = sym (ap (λ l. is_prefix l) is) ∙ pre in cc
of_prefix h d _ (g.ExprNode.call is m f a b e) pre = let never : false ≡ true = sym (ap (λ l. is_prefix l) is) ∙ pre in cc
of_prefix h d _ (g.ExprNode.field is m a b) pre = let never : false ≡ true = sym (ap (λ l. is_prefix l) is) ∙ pre in cc
of_prefix h d _ (g.ExprNode.place is m a b) pre = let never : false ≡ true = sym (ap (λ l. is_prefix l) is) ∙ pre in cc
of_prefix h d _ (g.ExprNode.index is m a b e) pre = let never : false ≡ true = sym (ap (λ l. is_prefix l) is) ∙ pre in cc
of_prefix h d _ (g.ExprNode.binary is f m n) pre = let never : false ≡ true = sym (ap (λ l. is_prefix l) is) ∙ pre in cc
of_prefix h d _ (g.ExprNode.assign is f m n) pre = let never : false ≡ true = sym (ap (λ l. is_prefix l) is) ∙ pre in cc
of_prefix h d _ (g.ExprNode.unary' {x} {y} {operator = o} is a m) pre = inr (inr (inr (inr (inr (inr (inr (inr (inr (inr (inr (inr (inr (inr (inl ((o, y), (a, (m.0, m.1, refl)), same_expr x (made.Unary o y) (is ∙ sym (made.outs-Unary o y)))))))))))))))))
of_prefix h d _ (g.ExprNode.ref {x} {y} {amp = o} {word_mut = k} is a b m) pre = inr (inr (inr (inr (inr (inr (inr (inr (inr (inr (inr (inr (inr (inr (inr (inl ((o, (k, y)), (a, (b, (m.0, m.1, refl))), same_expr x (made.Ref o k y) (is ∙ sym (made.outs-Ref o k y))))))))))))))))))
of_prefix h d _ (g.ExprNode.ref_ref {x} {y} {amps = o} {word_mut = k} is a b m n) pre = inr (inr (inr (inr (inr (inr (inr (inr (inr (inr (inr (inr (inr (inr (inr (inr (inl ((o, (k, y)), (a, (b, shift_deeper h d y m n)), same_expr x (made.RefRef o k y) (is ∙ sym (made.outs-RefRef o k y)))))))))))))))))))
of_prefix h d _ (g.ExprNode.group {x} {y} {g = u} is (inl k) ps m) pre = inr (inr (inr (inr (inr (inr (inr (inr (inr (inr (inr (inr (inr (inr (inr (inr (inr (inl ((u, y), (ap (λ k. expr_kind k) k, ps, m), same_expr x (made.Group u y) (is ∙ sym (made.outs-Group u y))))))))))))))))))))
of_prefix h d _ (g.ExprNode.group {x} {y} {g = u} is (inr k) ps m) pre = inr (inr (inr (inr (inr (inr (inr (inr (inr (inr (inr (inr (inr (inr (inr (inr (inr (inr ((u, y), (ap (λ k. literal_kind k) k.0, ps, (m, (k.1.0, sym ps ∙ k.1.1, k.1.2))), same_expr x (made.Group u y) (is ∙ sym (made.outs-Group u y))))))))))))))))))))
