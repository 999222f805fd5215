-- The ends of expressions, by their layers, and what may follow them.
use Rattle.std.proofs.Common.{◌≡◌, Bool, true, ◌||◌, if◌then◌else◌, ◌∙◌, ap, subst}
use Rattle.em_tree.specs.declared.expr.Expr.{Expr, out-Expr, fold_out-Expr, map-Expr}
use Rattle.em_tree.specs.declared.expr.Stmt.{Stmt, fold-Stmt}
use Rattle.em_tree.specs.declared.expr.Body.{Body, fold-Body}
use Rattle.em_tree.specs.declared.expr.ElseIf.{ElseIf, fold-ElseIf}
use Rattle.em_tree.specs.Starts.{Pieces}
use Rattle.em_tree.specs.ExprShape.{Edge, edge, edge_step, ends_open, ends_bare, open_step, bare_step}
use Rattle.em_grammar.specs.Sets.{Set, next}
use Rattle.em_grammar.specs.ExprSets.{Layer, end_clear, block_or, prefix_clear, is_block, is_macro, is_prefix_operator}

-- ---- ends

abbrev pub open_layer : Layer → Bool
open_layer l =
    open_step (map-Expr Expr Stmt Body ElseIf Bool (Unit {0}) (Unit {0}) (Unit {0}) ends_open
    (λ x. fold-Stmt Bool (Unit {0}) (Unit {0}) (Unit {0}) open_step (λ s. tt) (λ b. tt) (λ e. tt) x)
    (λ x. fold-Body Bool (Unit {0}) (Unit {0}) (Unit {0}) open_step (λ s. tt) (λ b. tt) (λ e. tt) x)
    (λ x. fold-ElseIf Bool (Unit {0}) (Unit {0}) (Unit {0}) open_step (λ s. tt) (λ b. tt) (λ e. tt) x) l)

pub open_at : (x : Expr) (l : Layer) → out-Expr x ≡ l → ends_open x ≡ open_layer l
unfolding ends_open
open_at x l is = fold_out-Expr Bool (Unit {0}) (Unit {0}) (Unit {0}) open_step (λ s. tt) (λ b. tt) (λ e. tt) x ∙ ap (λ l. open_layer l) is

abbrev pub bare_layer : Layer → Bool
bare_layer l =
    bare_step (map-Expr Expr Stmt Body ElseIf Bool (Unit {0}) (Unit {0}) (Unit {0}) ends_bare
    (λ x. fold-Stmt Bool (Unit {0}) (Unit {0}) (Unit {0}) bare_step (λ s. tt) (λ b. tt) (λ e. tt) x)
    (λ x. fold-Body Bool (Unit {0}) (Unit {0}) (Unit {0}) bare_step (λ s. tt) (λ b. tt) (λ e. tt) x)
    (λ x. fold-ElseIf Bool (Unit {0}) (Unit {0}) (Unit {0}) bare_step (λ s. tt) (λ b. tt) (λ e. tt) x) l)

pub bare_at : (x : Expr) (l : Layer) → out-Expr x ≡ l → ends_bare x ≡ bare_layer l
unfolding ends_bare
bare_at x l is = fold_out-Expr Bool (Unit {0}) (Unit {0}) (Unit {0}) bare_step (λ s. tt) (λ b. tt) (λ e. tt) x ∙ ap (λ l. bare_layer l) is

abbrev pub edge_layer : Layer → Edge
edge_layer l =
    edge_step (map-Expr Expr Stmt Body ElseIf Edge (Unit {0}) (Unit {0}) (Unit {0}) edge
    (λ x. fold-Stmt Edge (Unit {0}) (Unit {0}) (Unit {0}) edge_step (λ s. tt) (λ b. tt) (λ e. tt) x)
    (λ x. fold-Body Edge (Unit {0}) (Unit {0}) (Unit {0}) edge_step (λ s. tt) (λ b. tt) (λ e. tt) x)
    (λ x. fold-ElseIf Edge (Unit {0}) (Unit {0}) (Unit {0}) edge_step (λ s. tt) (λ b. tt) (λ e. tt) x) l)

pub edge_at : (x : Expr) (l : Layer) → out-Expr x ≡ l → edge x ≡ edge_layer l
unfolding edge
edge_at x l is = fold_out-Expr Edge (Unit {0}) (Unit {0}) (Unit {0}) edge_step (λ s. tt) (λ b. tt) (λ e. tt) x ∙ ap (λ l. edge_layer l) is

-- ---- what may follow a form

abbrev pub layer_clear : Bool → Layer → Set
layer_clear h l = block_or (is_block l || is_macro l) (end_clear (open_layer l) (bare_layer l) (if is_prefix_operator l then 13 else 15) h)

pub clear_at : (h : Bool) (x : Expr) (l : Layer) → out-Expr x ≡ l → (i : Pieces) → next (prefix_clear h x) i ≡ true → next (layer_clear h l) i ≡ true
clear_at h x l is i k =
    subst (λ s. next s i ≡ true)
    (ap (λ a. block_or (is_block (out-Expr x) || is_macro (out-Expr x)) (end_clear a (ends_bare x) (if is_prefix_operator (out-Expr x) then 13 else 15) h)) (open_at x l is)
    ∙ ap (λ b. block_or (is_block (out-Expr x) || is_macro (out-Expr x)) (end_clear (open_layer l) b (if is_prefix_operator (out-Expr x) then 13 else 15) h)) (bare_at x l is)
    ∙ ap (λ q. block_or (is_block q || is_macro q) (end_clear (open_layer l) (bare_layer l) (if is_prefix_operator q then 13 else 15) h)) is) k
