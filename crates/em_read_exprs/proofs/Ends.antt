-- How expressions end, by their layers.
use Rattle.std.proofs.Common.{◌≡◌, ◌∙◌, Bool, true, false, Option, Some, None, refl, ap}
use Rattle.em_tree.specs.declared.expr.Expr.{Expr, out-Expr, fold_out-Expr, map-Expr}
use Rattle.em_base.specs.declared.token.Token.{Token}
use Rattle.em_tree.specs.declared.expr.ClosureHead.{ClosureHead}
use Rattle.em_tree.specs.declared.expr.Expr.TheVariants as made
use Rattle.em_tree.specs.declared.expr.Stmt.{Stmt, fold-Stmt}
use Rattle.em_tree.specs.declared.expr.Body.{Body, fold-Body}
use Rattle.em_tree.specs.declared.expr.ElseIf.{ElseIf, fold-ElseIf}
use Rattle.em_tree.specs.declared.expr.Expr.TheOpen.{Expr-F}
use Rattle.em_tree.specs.ExprShape.{ends_open, ends_bare, open_step, bare_step}
use Rattle.em_grammar.specs.ExprSets.{Layer}

abbrev pub open_by : Layer → Bool
open_by (Expr-F.Closure word_move head body) = true
open_by (Expr-F.ClosureTo word_move head arrow output body) = true
open_by (Expr-F.Return word value) = true
open_by (Expr-F.Unary operator operand) = ends_open operand
open_by (Expr-F.Ref amp word_mut operand) = ends_open operand
open_by (Expr-F.RefRef amps word_mut operand) = ends_open operand
open_by (Expr-F.Binary left operator right) = ends_open right
open_by (Expr-F.Assign left operator right) = ends_open right
open_by _ = false

abbrev pub bare_by : Layer → Bool
bare_by (Expr-F.Return word None) = true
bare_by (Expr-F.Return word (Some value)) = ends_bare value
bare_by (Expr-F.Closure word_move head body) = ends_bare body
bare_by (Expr-F.Unary operator operand) = ends_bare operand
bare_by (Expr-F.Ref amp word_mut operand) = ends_bare operand
bare_by (Expr-F.RefRef amps word_mut operand) = ends_bare operand
bare_by (Expr-F.Binary left operator right) = ends_bare right
bare_by (Expr-F.Assign left operator right) = ends_bare right
bare_by _ = false

open_layer : (l : Layer) → open_step (map-Expr Expr Stmt Body ElseIf Bool (Unit {0}) (Unit {0}) (Unit {0}) ends_open
    (λ x. fold-Stmt Bool (Unit {0}) (Unit {0}) (Unit {0}) open_step (λ s. tt) (λ b. tt) (λ e. tt) x)
    (λ x. fold-Body Bool (Unit {0}) (Unit {0}) (Unit {0}) open_step (λ s. tt) (λ b. tt) (λ e. tt) x)
    (λ x. fold-ElseIf Bool (Unit {0}) (Unit {0}) (Unit {0}) open_step (λ s. tt) (λ b. tt) (λ e. tt) x) l) ≡ open_by l
open_layer (Expr-F.Closure word_move head body) = refl
open_layer (Expr-F.ClosureTo word_move head arrow output body) = refl
open_layer (Expr-F.Return word value) = refl
open_layer (Expr-F.Unary operator operand) = refl
open_layer (Expr-F.Ref amp word_mut operand) = refl
open_layer (Expr-F.RefRef amps word_mut operand) = refl
open_layer (Expr-F.Binary left operator right) = refl
open_layer (Expr-F.Assign left operator right) = refl
open_layer _ = refl

bare_layer : (l : Layer) → bare_step (map-Expr Expr Stmt Body ElseIf Bool (Unit {0}) (Unit {0}) (Unit {0}) ends_bare
    (λ x. fold-Stmt Bool (Unit {0}) (Unit {0}) (Unit {0}) bare_step (λ s. tt) (λ b. tt) (λ e. tt) x)
    (λ x. fold-Body Bool (Unit {0}) (Unit {0}) (Unit {0}) bare_step (λ s. tt) (λ b. tt) (λ e. tt) x)
    (λ x. fold-ElseIf Bool (Unit {0}) (Unit {0}) (Unit {0}) bare_step (λ s. tt) (λ b. tt) (λ e. tt) x) l) ≡ bare_by l
bare_layer (Expr-F.Return word None) = refl
bare_layer (Expr-F.Return word (Some value)) = refl
bare_layer (Expr-F.Closure word_move head body) = refl
bare_layer (Expr-F.Unary operator operand) = refl
bare_layer (Expr-F.Ref amp word_mut operand) = refl
bare_layer (Expr-F.RefRef amps word_mut operand) = refl
bare_layer (Expr-F.Binary left operator right) = refl
bare_layer (Expr-F.Assign left operator right) = refl
bare_layer _ = refl

pub open_at : (x : Expr) → ends_open x ≡ open_by (out-Expr x)
unfolding ends_open
open_at x = fold_out-Expr Bool (Unit {0}) (Unit {0}) (Unit {0}) open_step (λ s. tt) (λ b. tt) (λ e. tt) x ∙ open_layer (out-Expr x)

pub bare_at : (x : Expr) → ends_bare x ≡ bare_by (out-Expr x)
unfolding ends_bare
bare_at x = fold_out-Expr Bool (Unit {0}) (Unit {0}) (Unit {0}) bare_step (λ s. tt) (λ b. tt) (λ e. tt) x ∙ bare_layer (out-Expr x)

pub open_unary : (x : Expr) (o : Token) (y : Expr) → x ≡ made.Unary o y → ends_open x ≡ ends_open y
open_unary x o y is = open_at x ∙ ap (λ l. open_by l) (ap (λ z. out-Expr z) is ∙ made.outs-Unary o y)

pub open_ref : (x : Expr) (o : Token) (m : Option Token) (y : Expr) → x ≡ made.Ref o m y → ends_open x ≡ ends_open y
open_ref x o m y is = open_at x ∙ ap (λ l. open_by l) (ap (λ z. out-Expr z) is ∙ made.outs-Ref o m y)

pub open_ref_ref : (x : Expr) (o : Token) (m : Option Token) (y : Expr) → x ≡ made.RefRef o m y → ends_open x ≡ ends_open y
open_ref_ref x o m y is = open_at x ∙ ap (λ l. open_by l) (ap (λ z. out-Expr z) is ∙ made.outs-RefRef o m y)

pub open_binary : (x : Expr) (l : Expr) (o : Token) (y : Expr) → x ≡ made.Binary l o y → ends_open x ≡ ends_open y
open_binary x l o y is = open_at x ∙ ap (λ l. open_by l) (ap (λ z. out-Expr z) is ∙ made.outs-Binary l o y)

pub open_assign : (x : Expr) (l : Expr) (o : Token) (y : Expr) → x ≡ made.Assign l o y → ends_open x ≡ ends_open y
open_assign x l o y is = open_at x ∙ ap (λ l. open_by l) (ap (λ z. out-Expr z) is ∙ made.outs-Assign l o y)

pub bare_unary : (x : Expr) (o : Token) (y : Expr) → x ≡ made.Unary o y → ends_bare x ≡ ends_bare y
bare_unary x o y is = bare_at x ∙ ap (λ l. bare_by l) (ap (λ z. out-Expr z) is ∙ made.outs-Unary o y)

pub bare_ref : (x : Expr) (o : Token) (m : Option Token) (y : Expr) → x ≡ made.Ref o m y → ends_bare x ≡ ends_bare y
bare_ref x o m y is = bare_at x ∙ ap (λ l. bare_by l) (ap (λ z. out-Expr z) is ∙ made.outs-Ref o m y)

pub bare_ref_ref : (x : Expr) (o : Token) (m : Option Token) (y : Expr) → x ≡ made.RefRef o m y → ends_bare x ≡ ends_bare y
bare_ref_ref x o m y is = bare_at x ∙ ap (λ l. bare_by l) (ap (λ z. out-Expr z) is ∙ made.outs-RefRef o m y)

pub bare_binary : (x : Expr) (l : Expr) (o : Token) (y : Expr) → x ≡ made.Binary l o y → ends_bare x ≡ ends_bare y
bare_binary x l o y is = bare_at x ∙ ap (λ l. bare_by l) (ap (λ z. out-Expr z) is ∙ made.outs-Binary l o y)

pub bare_assign : (x : Expr) (l : Expr) (o : Token) (y : Expr) → x ≡ made.Assign l o y → ends_bare x ≡ ends_bare y
bare_assign x l o y is = bare_at x ∙ ap (λ l. bare_by l) (ap (λ z. out-Expr z) is ∙ made.outs-Assign l o y)

pub bare_closure : (x : Expr) (m : Option Token) (q : ClosureHead) (y : Expr) → x ≡ made.Closure m q y → ends_bare x ≡ ends_bare y
bare_closure x m q y is = bare_at x ∙ ap (λ l. bare_by l) (ap (λ z. out-Expr z) is ∙ made.outs-Closure m q y)

pub bare_value : (x : Expr) (o : Token) (y : Expr) → x ≡ made.Return o (Some y) → ends_bare x ≡ ends_bare y
bare_value x o y is = bare_at x ∙ ap (λ l. bare_by l) (ap (λ z. out-Expr z) is ∙ made.outs-Return o (Some y))
