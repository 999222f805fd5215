-- The statement that a `let` is.
use Rattle.std.proofs.Common.{◌≡◌, true, None, ap, ◌∙◌, sym}
use Rattle.em_base.specs.declared.token.Token.{Token}
use Rattle.em_tree.specs.declared.pat.Pat.{Pat, out-Pat}
use Rattle.em_tree.specs.declared.pat.Pat.TheVariants as pat
use Rattle.em_tree.specs.declared.expr.Annotation.{Annotation}
use Rattle.em_tree.specs.declared.expr.Annotation.TheVariants as annotation
use Rattle.em_tree.specs.declared.expr.Expr.{Expr}
use Rattle.em_tree.specs.declared.expr.Stmt.TheVariants as stmt
use Rattle.em_grammar.specs.StmtReader as spec
use Rattle.em_read_exprs.specs.declared.stmt.LetEnd.{LetEnd}
use Rattle.em_read_exprs.specs.declared.stmt.LetEnd.TheVariants as end
use Rattle.em_read_exprs.specs.Lets.{end_as}

pub is_wild : (q : Pat) (t : Token) → q ≡ pat.Wild t → true ≡ spec.is_wild q
is_wild q t is = sym (ap (λ l. spec.wild_layer l) (ap (λ k. out-Pat k) is ∙ pat.outs-Wild t))

pub wild_token : (q : Pat) (w t u : Token) → q ≡ pat.Wild t → u ≡ t → u ≡ spec.wild_token w (out-Pat q)
wild_token q w t u is same = same ∙ sym (ap (λ l. spec.wild_token w l) (ap (λ k. out-Pat k) is ∙ pat.outs-Wild t))

pub valued : (w : Token) (q : Pat) (a : Annotation) (e : Token) (v : Expr) (x : LetEnd) → x ≡ end.Valued a e v → stmt.Let w q a e v None ≡ spec.let_of ((w, q), end_as x)
valued w q annotation.Nothing e v x is = ap (λ k. spec.let_of ((w, q), end_as k)) (sym is)
valued w q (annotation.Type colon ty) e v x is = ap (λ k. spec.let_of ((w, q), end_as k)) (sym is)
