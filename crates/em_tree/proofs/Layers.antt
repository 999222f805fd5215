-- The parts of each tree of a type that leads back to itself, one level at a time.
use Rattle.std.proofs.Common.{◌≡◌, List, [], ◌∷◌, ◌++◌, Option, Some, None, refl, ap, ◌∙◌, map}
use Rattle.em_base.specs.declared.token.Token.{Token}
use Rattle.em_tree.specs.declared.parts.Listed.{Listed}
use Rattle.em_tree.specs.declared.piece.Piece.{Piece}
use Rattle.em_tree.specs.declared.piece.Group.{Group}
use Rattle.em_tree.specs.declared.literal.Literal.{Literal, out-Literal, fold-Literal, fold_out-Literal, map-Literal}
use Rattle.em_tree.specs.declared.literal.Literal.TheVariants as literal
use Rattle.em_tree.specs.declared.types.Segments.{Segments}
use Rattle.em_tree.specs.declared.types.Path.{Path, out-Path, fold-Path, fold_out-Path, map-Path}
use Rattle.em_tree.specs.declared.types.Path.TheVariants as path
use Rattle.em_tree.specs.declared.types.Qualified.{Qualified, out-Qualified, fold-Qualified, fold_out-Qualified, map-Qualified}
use Rattle.em_tree.specs.declared.types.Output.{Output, out-Output, fold-Output, fold_out-Output, map-Output}
use Rattle.em_tree.specs.declared.types.Output.TheVariants as output
use Rattle.em_tree.specs.declared.types.Bound.{Bound, out-Bound, fold-Bound, fold_out-Bound, map-Bound}
use Rattle.em_tree.specs.declared.types.Bound.TheVariants as bound
use Rattle.em_tree.specs.declared.types.TypeTree.{TypeTree, out-TypeTree, fold-TypeTree, fold_out-TypeTree, map-TypeTree}
use Rattle.em_tree.specs.declared.types.TypeTree.TheVariants as type_tree
use Rattle.em_tree.specs.declared.pat.FieldPat.{FieldPat}
use Rattle.em_tree.specs.declared.pat.Pat.{Pat, out-Pat, fold-Pat, fold_out-Pat, map-Pat}
use Rattle.em_tree.specs.declared.pat.Pat.TheVariants as pat
use Rattle.em_tree.specs.declared.pat.Alternative.{Alternative}
use Rattle.em_tree.specs.declared.pat.TopPat.{TopPat, out-TopPat, fold-TopPat, fold_out-TopPat, map-TopPat}
use Rattle.em_tree.specs.declared.pat.TopPat.TheVariants as top_pat
use Rattle.em_tree.specs.declared.expr.Annotation.{Annotation}
use Rattle.em_tree.specs.declared.expr.FieldExpr.{FieldExpr}
use Rattle.em_tree.specs.declared.expr.ClosureHead.{ClosureHead}
use Rattle.em_tree.specs.declared.expr.Condition.{Condition}
use Rattle.em_tree.specs.declared.expr.Arm.{Arm}
use Rattle.em_tree.specs.declared.expr.Refs.{Refs}
use Rattle.em_tree.specs.declared.expr.Block.{Block}
use Rattle.em_tree.specs.declared.expr.MacroCall.{MacroCall}
use Rattle.em_tree.specs.declared.expr.ElseIf.{ElseIf, out-ElseIf, fold-ElseIf, fold_out-ElseIf, map-ElseIf}
use Rattle.em_tree.specs.declared.expr.Expr.{Expr, out-Expr, fold-Expr, fold_out-Expr, map-Expr}
use Rattle.em_tree.specs.declared.expr.Expr.TheVariants as expr
use Rattle.em_tree.specs.declared.expr.Stmt.{Stmt, out-Stmt, fold-Stmt, fold_out-Stmt, map-Stmt}
use Rattle.em_tree.specs.declared.expr.Stmt.TheVariants as stmt
use Rattle.em_tree.specs.declared.expr.Body.{Body, out-Body, fold-Body, fold_out-Body, map-Body}
use Rattle.em_tree.specs.declared.item.Attribute.{Attribute}
use Rattle.em_tree.specs.declared.item.Vis.{Vis}
use Rattle.em_tree.specs.declared.item.ItemBody.{ItemBody}
use Rattle.em_tree.specs.declared.item.Item.{Item, out-Item, fold-Item, fold_out-Item, map-Item}
use Rattle.em_tree.specs.declared.item.Item.TheVariants as item
use Rattle.em_tree.specs.declared.literal.Literal.TheOpen.{Literal-F}
use Rattle.em_tree.specs.declared.types.Bound.TheOpen.{Bound-F, Output-F, Path-F, TypeTree-F, Qualified-F}
use Rattle.em_tree.specs.declared.pat.Pat.TheOpen.{Pat-F}
use Rattle.em_tree.specs.declared.pat.TopPat.TheOpen.{TopPat-F}
use Rattle.em_tree.specs.declared.expr.Expr.TheOpen.{Expr-F, Stmt-F, Body-F, ElseIf-F}
use Rattle.em_tree.specs.declared.item.Item.TheOpen.{Item-F}
use Rattle.em_tree.specs.declared.expr.Condition.TheVariants as condition
use Rattle.em_tree.specs.declared.item.ItemBody.TheVariants as item_body
use Rattle.em_tree.specs.declared.pat.FieldPat.TheVariants as field_pat
use Rattle.em_tree.specs.declared.pat.Pat.TheShapes.{former-Pat-Struct-2-at-8}
use Rattle.em_tree.specs.declared.expr.Expr.TheShapes.{former-Expr-Struct-2-at-6, former-Expr-If-1, former-Expr-For-5}
use Rattle.em_tree.specs.declared.item.Item.TheShapes.{former-Item-Plain-2}
use Rattle.em_tree.specs.Parts.{same, maybe, each, listed_parts, literal_parts, segments_parts, path_parts, qualified_parts, output_parts, bound_parts, type_tree_parts, field_pat_parts, pat_parts, alternative_parts, top_pat_parts, annotation_parts, field_expr_parts, closure_head_parts, condition_parts, arm_parts, refs_parts, block_parts, macro_call_parts, else_if_parts, expr_parts, stmt_parts, body_parts, attribute_parts, vis_parts, item_body_parts, item_parts, literal_step, bound_step, output_step, path_step, type_tree_step, qualified_step, pat_step, top_pat_step, expr_step, stmt_step, body_step, else_if_step, item_step}

pub each_map : {A B C : Type 0} (f : B → List A) (k : C → B) (xs : List C) → each f (map k xs) ≡ each (λ x. f (k x)) xs
each_map f k [] = refl
each_map f k (x ∷ xs) = ap (λ r. f (k x) ++ r) (each_map f k xs)

each_alike : {A B : Type 0} (f g : B → List A) → ((x : B) → f x ≡ g x) → (xs : List B) → each f xs ≡ each g xs
each_alike f g same_at [] = refl
each_alike f g same_at (x ∷ xs) = ap (λ r. r ++ each f xs) (same_at x) ∙ ap (λ r. g x ++ r) (each_alike f g same_at xs)

module _ {A : Type 0} (tok : Token → List A) (leaf : Group → List A → List A) (text : List Piece → List A) where
  layer-Literal : (x : Literal) (l : Literal-F Literal) → out-Literal x ≡ l → fold-Literal (List A) (literal_step tok leaf text) x ≡ literal_step tok leaf text (map-Literal Literal (List A) (fold-Literal (List A) (literal_step tok leaf text)) l)
  layer-Literal x l is = fold_out-Literal (List A) (literal_step tok leaf text) x ∙ ap (λ k. literal_step tok leaf text (map-Literal Literal (List A) (fold-Literal (List A) (literal_step tok leaf text)) k)) is

  pub at-Literal-Token : (x : Literal) (x0 : Token) → x ≡ literal.Token x0 → literal_parts tok leaf text x ≡ tok x0
  unfolding literal_parts
  at-Literal-Token x x0 is = layer-Literal x (Literal-F.Token x0) (ap (λ k. out-Literal k) is ∙ literal.outs-Token x0)

  pub at-Literal-Negative : (x : Literal) (minus : Token) (value : Literal) → x ≡ literal.Negative minus value → literal_parts tok leaf text x ≡ tok minus ++ literal_parts tok leaf text value
  unfolding literal_parts
  at-Literal-Negative x minus value is = layer-Literal x (Literal-F.Negative minus value) (ap (λ k. out-Literal k) is ∙ literal.outs-Negative minus value)

  pub at-Literal-Group : (x : Literal) (group : Group) (inner : Literal) → x ≡ literal.Group group inner → literal_parts tok leaf text x ≡ leaf group (literal_parts tok leaf text inner)
  unfolding literal_parts
  at-Literal-Group x group inner is = layer-Literal x (Literal-F.Group group inner) (ap (λ k. out-Literal k) is ∙ literal.outs-Group group inner)

  layer-Bound : (x : Bound) (l : Bound-F Bound Output Path TypeTree Qualified) → out-Bound x ≡ l → fold-Bound (List A) (List A) (List A) (List A) (List A) (bound_step tok leaf text) (output_step tok leaf text) (path_step tok leaf text) (type_tree_step tok leaf text) (qualified_step tok leaf text) x ≡ bound_step tok leaf text (map-Bound Bound Output Path TypeTree Qualified (List A) (List A) (List A) (List A) (List A) (fold-Bound (List A) (List A) (List A) (List A) (List A) (bound_step tok leaf text) (output_step tok leaf text) (path_step tok leaf text) (type_tree_step tok leaf text) (qualified_step tok leaf text)) (fold-Output (List A) (List A) (List A) (List A) (List A) (bound_step tok leaf text) (output_step tok leaf text) (path_step tok leaf text) (type_tree_step tok leaf text) (qualified_step tok leaf text)) (fold-Path (List A) (List A) (List A) (List A) (List A) (bound_step tok leaf text) (output_step tok leaf text) (path_step tok leaf text) (type_tree_step tok leaf text) (qualified_step tok leaf text)) (fold-TypeTree (List A) (List A) (List A) (List A) (List A) (bound_step tok leaf text) (output_step tok leaf text) (path_step tok leaf text) (type_tree_step tok leaf text) (qualified_step tok leaf text)) (fold-Qualified (List A) (List A) (List A) (List A) (List A) (bound_step tok leaf text) (output_step tok leaf text) (path_step tok leaf text) (type_tree_step tok leaf text) (qualified_step tok leaf text)) l)
  layer-Bound x l is = fold_out-Bound (List A) (List A) (List A) (List A) (List A) (bound_step tok leaf text) (output_step tok leaf text) (path_step tok leaf text) (type_tree_step tok leaf text) (qualified_step tok leaf text) x ∙ ap (λ k. bound_step tok leaf text (map-Bound Bound Output Path TypeTree Qualified (List A) (List A) (List A) (List A) (List A) (fold-Bound (List A) (List A) (List A) (List A) (List A) (bound_step tok leaf text) (output_step tok leaf text) (path_step tok leaf text) (type_tree_step tok leaf text) (qualified_step tok leaf text)) (fold-Output (List A) (List A) (List A) (List A) (List A) (bound_step tok leaf text) (output_step tok leaf text) (path_step tok leaf text) (type_tree_step tok leaf text) (qualified_step tok leaf text)) (fold-Path (List A) (List A) (List A) (List A) (List A) (bound_step tok leaf text) (output_step tok leaf text) (path_step tok leaf text) (type_tree_step tok leaf text) (qualified_step tok leaf text)) (fold-TypeTree (List A) (List A) (List A) (List A) (List A) (bound_step tok leaf text) (output_step tok leaf text) (path_step tok leaf text) (type_tree_step tok leaf text) (qualified_step tok leaf text)) (fold-Qualified (List A) (List A) (List A) (List A) (List A) (bound_step tok leaf text) (output_step tok leaf text) (path_step tok leaf text) (type_tree_step tok leaf text) (qualified_step tok leaf text)) k)) is

  layer-Output : (x : Output) (l : Output-F Bound Output Path TypeTree Qualified) → out-Output x ≡ l → fold-Output (List A) (List A) (List A) (List A) (List A) (bound_step tok leaf text) (output_step tok leaf text) (path_step tok leaf text) (type_tree_step tok leaf text) (qualified_step tok leaf text) x ≡ output_step tok leaf text (map-Output Bound Output Path TypeTree Qualified (List A) (List A) (List A) (List A) (List A) (fold-Bound (List A) (List A) (List A) (List A) (List A) (bound_step tok leaf text) (output_step tok leaf text) (path_step tok leaf text) (type_tree_step tok leaf text) (qualified_step tok leaf text)) (fold-Output (List A) (List A) (List A) (List A) (List A) (bound_step tok leaf text) (output_step tok leaf text) (path_step tok leaf text) (type_tree_step tok leaf text) (qualified_step tok leaf text)) (fold-Path (List A) (List A) (List A) (List A) (List A) (bound_step tok leaf text) (output_step tok leaf text) (path_step tok leaf text) (type_tree_step tok leaf text) (qualified_step tok leaf text)) (fold-TypeTree (List A) (List A) (List A) (List A) (List A) (bound_step tok leaf text) (output_step tok leaf text) (path_step tok leaf text) (type_tree_step tok leaf text) (qualified_step tok leaf text)) (fold-Qualified (List A) (List A) (List A) (List A) (List A) (bound_step tok leaf text) (output_step tok leaf text) (path_step tok leaf text) (type_tree_step tok leaf text) (qualified_step tok leaf text)) l)
  layer-Output x l is = fold_out-Output (List A) (List A) (List A) (List A) (List A) (bound_step tok leaf text) (output_step tok leaf text) (path_step tok leaf text) (type_tree_step tok leaf text) (qualified_step tok leaf text) x ∙ ap (λ k. output_step tok leaf text (map-Output Bound Output Path TypeTree Qualified (List A) (List A) (List A) (List A) (List A) (fold-Bound (List A) (List A) (List A) (List A) (List A) (bound_step tok leaf text) (output_step tok leaf text) (path_step tok leaf text) (type_tree_step tok leaf text) (qualified_step tok leaf text)) (fold-Output (List A) (List A) (List A) (List A) (List A) (bound_step tok leaf text) (output_step tok leaf text) (path_step tok leaf text) (type_tree_step tok leaf text) (qualified_step tok leaf text)) (fold-Path (List A) (List A) (List A) (List A) (List A) (bound_step tok leaf text) (output_step tok leaf text) (path_step tok leaf text) (type_tree_step tok leaf text) (qualified_step tok leaf text)) (fold-TypeTree (List A) (List A) (List A) (List A) (List A) (bound_step tok leaf text) (output_step tok leaf text) (path_step tok leaf text) (type_tree_step tok leaf text) (qualified_step tok leaf text)) (fold-Qualified (List A) (List A) (List A) (List A) (List A) (bound_step tok leaf text) (output_step tok leaf text) (path_step tok leaf text) (type_tree_step tok leaf text) (qualified_step tok leaf text)) k)) is

  layer-Path : (x : Path) (l : Path-F Bound Output Path TypeTree Qualified) → out-Path x ≡ l → fold-Path (List A) (List A) (List A) (List A) (List A) (bound_step tok leaf text) (output_step tok leaf text) (path_step tok leaf text) (type_tree_step tok leaf text) (qualified_step tok leaf text) x ≡ path_step tok leaf text (map-Path Bound Output Path TypeTree Qualified (List A) (List A) (List A) (List A) (List A) (fold-Bound (List A) (List A) (List A) (List A) (List A) (bound_step tok leaf text) (output_step tok leaf text) (path_step tok leaf text) (type_tree_step tok leaf text) (qualified_step tok leaf text)) (fold-Output (List A) (List A) (List A) (List A) (List A) (bound_step tok leaf text) (output_step tok leaf text) (path_step tok leaf text) (type_tree_step tok leaf text) (qualified_step tok leaf text)) (fold-Path (List A) (List A) (List A) (List A) (List A) (bound_step tok leaf text) (output_step tok leaf text) (path_step tok leaf text) (type_tree_step tok leaf text) (qualified_step tok leaf text)) (fold-TypeTree (List A) (List A) (List A) (List A) (List A) (bound_step tok leaf text) (output_step tok leaf text) (path_step tok leaf text) (type_tree_step tok leaf text) (qualified_step tok leaf text)) (fold-Qualified (List A) (List A) (List A) (List A) (List A) (bound_step tok leaf text) (output_step tok leaf text) (path_step tok leaf text) (type_tree_step tok leaf text) (qualified_step tok leaf text)) l)
  layer-Path x l is = fold_out-Path (List A) (List A) (List A) (List A) (List A) (bound_step tok leaf text) (output_step tok leaf text) (path_step tok leaf text) (type_tree_step tok leaf text) (qualified_step tok leaf text) x ∙ ap (λ k. path_step tok leaf text (map-Path Bound Output Path TypeTree Qualified (List A) (List A) (List A) (List A) (List A) (fold-Bound (List A) (List A) (List A) (List A) (List A) (bound_step tok leaf text) (output_step tok leaf text) (path_step tok leaf text) (type_tree_step tok leaf text) (qualified_step tok leaf text)) (fold-Output (List A) (List A) (List A) (List A) (List A) (bound_step tok leaf text) (output_step tok leaf text) (path_step tok leaf text) (type_tree_step tok leaf text) (qualified_step tok leaf text)) (fold-Path (List A) (List A) (List A) (List A) (List A) (bound_step tok leaf text) (output_step tok leaf text) (path_step tok leaf text) (type_tree_step tok leaf text) (qualified_step tok leaf text)) (fold-TypeTree (List A) (List A) (List A) (List A) (List A) (bound_step tok leaf text) (output_step tok leaf text) (path_step tok leaf text) (type_tree_step tok leaf text) (qualified_step tok leaf text)) (fold-Qualified (List A) (List A) (List A) (List A) (List A) (bound_step tok leaf text) (output_step tok leaf text) (path_step tok leaf text) (type_tree_step tok leaf text) (qualified_step tok leaf text)) k)) is

  layer-TypeTree : (x : TypeTree) (l : TypeTree-F Bound Output Path TypeTree Qualified) → out-TypeTree x ≡ l → fold-TypeTree (List A) (List A) (List A) (List A) (List A) (bound_step tok leaf text) (output_step tok leaf text) (path_step tok leaf text) (type_tree_step tok leaf text) (qualified_step tok leaf text) x ≡ type_tree_step tok leaf text (map-TypeTree Bound Output Path TypeTree Qualified (List A) (List A) (List A) (List A) (List A) (fold-Bound (List A) (List A) (List A) (List A) (List A) (bound_step tok leaf text) (output_step tok leaf text) (path_step tok leaf text) (type_tree_step tok leaf text) (qualified_step tok leaf text)) (fold-Output (List A) (List A) (List A) (List A) (List A) (bound_step tok leaf text) (output_step tok leaf text) (path_step tok leaf text) (type_tree_step tok leaf text) (qualified_step tok leaf text)) (fold-Path (List A) (List A) (List A) (List A) (List A) (bound_step tok leaf text) (output_step tok leaf text) (path_step tok leaf text) (type_tree_step tok leaf text) (qualified_step tok leaf text)) (fold-TypeTree (List A) (List A) (List A) (List A) (List A) (bound_step tok leaf text) (output_step tok leaf text) (path_step tok leaf text) (type_tree_step tok leaf text) (qualified_step tok leaf text)) (fold-Qualified (List A) (List A) (List A) (List A) (List A) (bound_step tok leaf text) (output_step tok leaf text) (path_step tok leaf text) (type_tree_step tok leaf text) (qualified_step tok leaf text)) l)
  layer-TypeTree x l is = fold_out-TypeTree (List A) (List A) (List A) (List A) (List A) (bound_step tok leaf text) (output_step tok leaf text) (path_step tok leaf text) (type_tree_step tok leaf text) (qualified_step tok leaf text) x ∙ ap (λ k. type_tree_step tok leaf text (map-TypeTree Bound Output Path TypeTree Qualified (List A) (List A) (List A) (List A) (List A) (fold-Bound (List A) (List A) (List A) (List A) (List A) (bound_step tok leaf text) (output_step tok leaf text) (path_step tok leaf text) (type_tree_step tok leaf text) (qualified_step tok leaf text)) (fold-Output (List A) (List A) (List A) (List A) (List A) (bound_step tok leaf text) (output_step tok leaf text) (path_step tok leaf text) (type_tree_step tok leaf text) (qualified_step tok leaf text)) (fold-Path (List A) (List A) (List A) (List A) (List A) (bound_step tok leaf text) (output_step tok leaf text) (path_step tok leaf text) (type_tree_step tok leaf text) (qualified_step tok leaf text)) (fold-TypeTree (List A) (List A) (List A) (List A) (List A) (bound_step tok leaf text) (output_step tok leaf text) (path_step tok leaf text) (type_tree_step tok leaf text) (qualified_step tok leaf text)) (fold-Qualified (List A) (List A) (List A) (List A) (List A) (bound_step tok leaf text) (output_step tok leaf text) (path_step tok leaf text) (type_tree_step tok leaf text) (qualified_step tok leaf text)) k)) is

  layer-Qualified : (x : Qualified) (l : Qualified-F Bound Output Path TypeTree Qualified) → out-Qualified x ≡ l → fold-Qualified (List A) (List A) (List A) (List A) (List A) (bound_step tok leaf text) (output_step tok leaf text) (path_step tok leaf text) (type_tree_step tok leaf text) (qualified_step tok leaf text) x ≡ qualified_step tok leaf text (map-Qualified Bound Output Path TypeTree Qualified (List A) (List A) (List A) (List A) (List A) (fold-Bound (List A) (List A) (List A) (List A) (List A) (bound_step tok leaf text) (output_step tok leaf text) (path_step tok leaf text) (type_tree_step tok leaf text) (qualified_step tok leaf text)) (fold-Output (List A) (List A) (List A) (List A) (List A) (bound_step tok leaf text) (output_step tok leaf text) (path_step tok leaf text) (type_tree_step tok leaf text) (qualified_step tok leaf text)) (fold-Path (List A) (List A) (List A) (List A) (List A) (bound_step tok leaf text) (output_step tok leaf text) (path_step tok leaf text) (type_tree_step tok leaf text) (qualified_step tok leaf text)) (fold-TypeTree (List A) (List A) (List A) (List A) (List A) (bound_step tok leaf text) (output_step tok leaf text) (path_step tok leaf text) (type_tree_step tok leaf text) (qualified_step tok leaf text)) (fold-Qualified (List A) (List A) (List A) (List A) (List A) (bound_step tok leaf text) (output_step tok leaf text) (path_step tok leaf text) (type_tree_step tok leaf text) (qualified_step tok leaf text)) l)
  layer-Qualified x l is = fold_out-Qualified (List A) (List A) (List A) (List A) (List A) (bound_step tok leaf text) (output_step tok leaf text) (path_step tok leaf text) (type_tree_step tok leaf text) (qualified_step tok leaf text) x ∙ ap (λ k. qualified_step tok leaf text (map-Qualified Bound Output Path TypeTree Qualified (List A) (List A) (List A) (List A) (List A) (fold-Bound (List A) (List A) (List A) (List A) (List A) (bound_step tok leaf text) (output_step tok leaf text) (path_step tok leaf text) (type_tree_step tok leaf text) (qualified_step tok leaf text)) (fold-Output (List A) (List A) (List A) (List A) (List A) (bound_step tok leaf text) (output_step tok leaf text) (path_step tok leaf text) (type_tree_step tok leaf text) (qualified_step tok leaf text)) (fold-Path (List A) (List A) (List A) (List A) (List A) (bound_step tok leaf text) (output_step tok leaf text) (path_step tok leaf text) (type_tree_step tok leaf text) (qualified_step tok leaf text)) (fold-TypeTree (List A) (List A) (List A) (List A) (List A) (bound_step tok leaf text) (output_step tok leaf text) (path_step tok leaf text) (type_tree_step tok leaf text) (qualified_step tok leaf text)) (fold-Qualified (List A) (List A) (List A) (List A) (List A) (bound_step tok leaf text) (output_step tok leaf text) (path_step tok leaf text) (type_tree_step tok leaf text) (qualified_step tok leaf text)) k)) is

  pub at-Bound-Path : (x : Bound) (x0 : Path) → x ≡ bound.Path x0 → bound_parts tok leaf text x ≡ path_parts tok leaf text x0
  unfolding bound_parts output_parts path_parts type_tree_parts qualified_parts
  at-Bound-Path x x0 is = layer-Bound x (Bound-F.Bound::Path x0) (ap (λ k. out-Bound k) is ∙ bound.outs-Path x0)

  pub at-Bound-Call : (x : Bound) (path : Path) (opening : Token) (inputs : List (Listed TypeTree)) (closing : Token) (output : Output) → x ≡ bound.Call path opening inputs closing output → bound_parts tok leaf text x ≡ path_parts tok leaf text path ++ (tok opening ++ (each (listed_parts tok leaf text (type_tree_parts tok leaf text)) inputs ++ (tok closing ++ output_parts tok leaf text output)))
  unfolding bound_parts output_parts path_parts type_tree_parts qualified_parts
  at-Bound-Call x path opening inputs closing output is = layer-Bound x (Bound-F.Call path opening inputs closing output) (ap (λ k. out-Bound k) is ∙ bound.outs-Call path opening inputs closing output) ∙ ap (λ r. path_parts tok leaf text path ++ (tok opening ++ (r ++ (tok closing ++ output_parts tok leaf text output)))) (each_map (listed_parts tok leaf text same) _ inputs)

  pub at-Output-Unit : (x : Output) → x ≡ output.Unit → output_parts tok leaf text x ≡ []
  unfolding bound_parts output_parts path_parts type_tree_parts qualified_parts
  at-Output-Unit x is = layer-Output x (Output-F.Output::Unit) (ap (λ k. out-Output k) is ∙ output.outs-Unit)

  pub at-Output-Type : (x : Output) (arrow : Token) (ty : TypeTree) → x ≡ output.Type arrow ty → output_parts tok leaf text x ≡ tok arrow ++ type_tree_parts tok leaf text ty
  unfolding bound_parts output_parts path_parts type_tree_parts qualified_parts
  at-Output-Type x arrow ty is = layer-Output x (Output-F.Type arrow ty) (ap (λ k. out-Output k) is ∙ output.outs-Type arrow ty)

  pub at-Path-Plain : (x : Path) (x0 : Segments) → x ≡ path.Plain x0 → path_parts tok leaf text x ≡ segments_parts tok leaf text x0
  unfolding bound_parts output_parts path_parts type_tree_parts qualified_parts
  at-Path-Plain x x0 is = layer-Path x (Path-F.Plain x0) (ap (λ k. out-Path k) is ∙ path.outs-Plain x0)

  pub at-Path-Qualified : (x : Path) (x0 : Qualified) → x ≡ path.Qualified x0 → path_parts tok leaf text x ≡ qualified_parts tok leaf text x0
  unfolding bound_parts output_parts path_parts type_tree_parts qualified_parts
  at-Path-Qualified x x0 is = layer-Path x (Path-F.Qualified x0) (ap (λ k. out-Path k) is ∙ path.outs-Qualified x0)

  pub at-Path-Group : (x : Path) (group : Group) (inner : Path) → x ≡ path.Group group inner → path_parts tok leaf text x ≡ leaf group (path_parts tok leaf text inner)
  unfolding bound_parts output_parts path_parts type_tree_parts qualified_parts
  at-Path-Group x group inner is = layer-Path x (Path-F.Path::Group group inner) (ap (λ k. out-Path k) is ∙ path.outs-Group group inner)

  pub at-TypeTree-Path : (x : TypeTree) (x0 : Path) → x ≡ type_tree.Path x0 → type_tree_parts tok leaf text x ≡ path_parts tok leaf text x0
  unfolding bound_parts output_parts path_parts type_tree_parts qualified_parts
  at-TypeTree-Path x x0 is = layer-TypeTree x (TypeTree-F.TypeTree::Path x0) (ap (λ k. out-TypeTree k) is ∙ type_tree.outs-Path x0)

  pub at-TypeTree-Boxed : (x : TypeTree) (word : Token) (opening : Token) (inner : TypeTree) (closing : Option Token) → x ≡ type_tree.Boxed word opening inner closing → type_tree_parts tok leaf text x ≡ tok word ++ (tok opening ++ (type_tree_parts tok leaf text inner ++ maybe tok closing))
  unfolding bound_parts output_parts path_parts type_tree_parts qualified_parts
  at-TypeTree-Boxed x word opening inner closing is = layer-TypeTree x (TypeTree-F.Boxed word opening inner closing) (ap (λ k. out-TypeTree k) is ∙ type_tree.outs-Boxed word opening inner closing)

  pub at-TypeTree-Ref : (x : TypeTree) (amp : Token) (word_mut : Option Token) (inner : TypeTree) → x ≡ type_tree.Ref amp word_mut inner → type_tree_parts tok leaf text x ≡ tok amp ++ (maybe tok word_mut ++ type_tree_parts tok leaf text inner)
  unfolding bound_parts output_parts path_parts type_tree_parts qualified_parts
  at-TypeTree-Ref x amp word_mut inner is = layer-TypeTree x (TypeTree-F.Ref amp word_mut inner) (ap (λ k. out-TypeTree k) is ∙ type_tree.outs-Ref amp word_mut inner)

  pub at-TypeTree-RefRef : (x : TypeTree) (amps : Token) (word_mut : Option Token) (inner : TypeTree) → x ≡ type_tree.RefRef amps word_mut inner → type_tree_parts tok leaf text x ≡ tok amps ++ (maybe tok word_mut ++ type_tree_parts tok leaf text inner)
  unfolding bound_parts output_parts path_parts type_tree_parts qualified_parts
  at-TypeTree-RefRef x amps word_mut inner is = layer-TypeTree x (TypeTree-F.RefRef amps word_mut inner) (ap (λ k. out-TypeTree k) is ∙ type_tree.outs-RefRef amps word_mut inner)

  pub at-TypeTree-Array : (x : TypeTree) (opening : Token) (element : TypeTree) (semi : Token) (length : Literal) (closing : Token) → x ≡ type_tree.Array opening element semi length closing → type_tree_parts tok leaf text x ≡ tok opening ++ (type_tree_parts tok leaf text element ++ (tok semi ++ (literal_parts tok leaf text length ++ tok closing)))
  unfolding bound_parts output_parts path_parts type_tree_parts qualified_parts
  at-TypeTree-Array x opening element semi length closing is = layer-TypeTree x (TypeTree-F.Array opening element semi length closing) (ap (λ k. out-TypeTree k) is ∙ type_tree.outs-Array opening element semi length closing)

  pub at-TypeTree-Slice : (x : TypeTree) (opening : Token) (element : TypeTree) (closing : Token) → x ≡ type_tree.Slice opening element closing → type_tree_parts tok leaf text x ≡ tok opening ++ (type_tree_parts tok leaf text element ++ tok closing)
  unfolding bound_parts output_parts path_parts type_tree_parts qualified_parts
  at-TypeTree-Slice x opening element closing is = layer-TypeTree x (TypeTree-F.Slice opening element closing) (ap (λ k. out-TypeTree k) is ∙ type_tree.outs-Slice opening element closing)

  pub at-TypeTree-Unit : (x : TypeTree) (opening : Token) (closing : Token) → x ≡ type_tree.Unit opening closing → type_tree_parts tok leaf text x ≡ tok opening ++ tok closing
  unfolding bound_parts output_parts path_parts type_tree_parts qualified_parts
  at-TypeTree-Unit x opening closing is = layer-TypeTree x (TypeTree-F.TypeTree::Unit opening closing) (ap (λ k. out-TypeTree k) is ∙ type_tree.outs-Unit opening closing)

  pub at-TypeTree-Dyn : (x : TypeTree) (word : Token) (bound : Bound) → x ≡ type_tree.Dyn word bound → type_tree_parts tok leaf text x ≡ tok word ++ bound_parts tok leaf text bound
  unfolding bound_parts output_parts path_parts type_tree_parts qualified_parts
  at-TypeTree-Dyn x word bound is = layer-TypeTree x (TypeTree-F.Dyn word bound) (ap (λ k. out-TypeTree k) is ∙ type_tree.outs-Dyn word bound)

  pub at-TypeTree-Bare : (x : TypeTree) (x0 : Bound) → x ≡ type_tree.Bare x0 → type_tree_parts tok leaf text x ≡ bound_parts tok leaf text x0
  unfolding bound_parts output_parts path_parts type_tree_parts qualified_parts
  at-TypeTree-Bare x x0 is = layer-TypeTree x (TypeTree-F.Bare x0) (ap (λ k. out-TypeTree k) is ∙ type_tree.outs-Bare x0)

  pub at-TypeTree-Group : (x : TypeTree) (group : Group) (inner : TypeTree) → x ≡ type_tree.Group group inner → type_tree_parts tok leaf text x ≡ leaf group (type_tree_parts tok leaf text inner)
  unfolding bound_parts output_parts path_parts type_tree_parts qualified_parts
  at-TypeTree-Group x group inner is = layer-TypeTree x (TypeTree-F.TypeTree::Group group inner) (ap (λ k. out-TypeTree k) is ∙ type_tree.outs-Group group inner)

  pub at-Qualified : (x : Qualified) → qualified_parts tok leaf text x ≡ tok (out-Qualified x).open ++ (type_tree_parts tok leaf text (out-Qualified x).self_type ++ (tok (out-Qualified x).word ++ (path_parts tok leaf text (out-Qualified x).of_trait ++ (tok (out-Qualified x).close ++ (tok (out-Qualified x).separator ++ tok (out-Qualified x).name)))))
  unfolding bound_parts output_parts path_parts type_tree_parts qualified_parts
  at-Qualified x = layer-Qualified x (out-Qualified x) refl

  layer-Pat : (x : Pat) (l : Pat-F Pat) → out-Pat x ≡ l → fold-Pat (List A) (pat_step tok leaf text) x ≡ pat_step tok leaf text (map-Pat Pat (List A) (fold-Pat (List A) (pat_step tok leaf text)) l)
  layer-Pat x l is = fold_out-Pat (List A) (pat_step tok leaf text) x ∙ ap (λ k. pat_step tok leaf text (map-Pat Pat (List A) (fold-Pat (List A) (pat_step tok leaf text)) k)) is

  pub at-Pat-Wild : (x : Pat) (x0 : Token) → x ≡ pat.Wild x0 → pat_parts tok leaf text x ≡ tok x0
  unfolding pat_parts
  at-Pat-Wild x x0 is = layer-Pat x (Pat-F.Wild x0) (ap (λ k. out-Pat k) is ∙ pat.outs-Wild x0)

  pub at-Pat-Name : (x : Pat) (word_ref : Option Token) (word_mut : Option Token) (name : Token) → x ≡ pat.Name word_ref word_mut name → pat_parts tok leaf text x ≡ maybe tok word_ref ++ (maybe tok word_mut ++ tok name)
  unfolding pat_parts
  at-Pat-Name x word_ref word_mut name is = layer-Pat x (Pat-F.Name word_ref word_mut name) (ap (λ k. out-Pat k) is ∙ pat.outs-Name word_ref word_mut name)

  pub at-Pat-Literal : (x : Pat) (x0 : Literal) → x ≡ pat.Literal x0 → pat_parts tok leaf text x ≡ literal_parts tok leaf text x0
  unfolding pat_parts
  at-Pat-Literal x x0 is = layer-Pat x (Pat-F.Literal x0) (ap (λ k. out-Pat k) is ∙ pat.outs-Literal x0)

  pub at-Pat-Range : (x : Pat) (start : Literal) (dots : Token) (end : Literal) → x ≡ pat.Range start dots end → pat_parts tok leaf text x ≡ literal_parts tok leaf text start ++ (tok dots ++ literal_parts tok leaf text end)
  unfolding pat_parts
  at-Pat-Range x start dots end is = layer-Pat x (Pat-F.Range start dots end) (ap (λ k. out-Pat k) is ∙ pat.outs-Range start dots end)

  pub at-Pat-Path : (x : Pat) (x0 : Path) → x ≡ pat.Path x0 → pat_parts tok leaf text x ≡ path_parts tok leaf text x0
  unfolding pat_parts
  at-Pat-Path x x0 is = layer-Pat x (Pat-F.Path x0) (ap (λ k. out-Pat k) is ∙ pat.outs-Path x0)

  pub at-Pat-Tuple : (x : Pat) (path : Path) (opening : Token) (fields : List (Listed Pat)) (closing : Token) → x ≡ pat.Tuple path opening fields closing → pat_parts tok leaf text x ≡ path_parts tok leaf text path ++ (tok opening ++ (each (listed_parts tok leaf text (pat_parts tok leaf text)) fields ++ tok closing))
  unfolding pat_parts
  at-Pat-Tuple x path opening fields closing is = layer-Pat x (Pat-F.Tuple path opening fields closing) (ap (λ k. out-Pat k) is ∙ pat.outs-Tuple path opening fields closing) ∙ ap (λ r. path_parts tok leaf text path ++ (tok opening ++ (r ++ tok closing))) (each_map (listed_parts tok leaf text same) _ fields)

  field_pat_alike : (item : FieldPat Pat) (comma : Option Token)
      → listed_parts tok leaf text (field_pat_parts tok leaf text same) (former-Pat-Struct-2-at-8.map Pat (List A) (pat_parts tok leaf text) (record { item = item; comma = comma }))
      ≡ listed_parts tok leaf text (field_pat_parts tok leaf text (pat_parts tok leaf text)) (record { item = item; comma = comma })
  unfolding pat_parts
  field_pat_alike (field_pat.Full name colon pat) comma = refl
  field_pat_alike (field_pat.Short word_ref word_mut name) comma = refl

  pub at-Pat-Struct : (x : Pat) (path : Path) (opening : Token) (fields : List (Listed (FieldPat Pat))) (rest : Option Token) (closing : Token) → x ≡ pat.Struct path opening fields rest closing → pat_parts tok leaf text x ≡ path_parts tok leaf text path ++ (tok opening ++ (each (listed_parts tok leaf text (field_pat_parts tok leaf text (pat_parts tok leaf text))) fields ++ (maybe tok rest ++ tok closing)))
  unfolding pat_parts
  at-Pat-Struct x path opening fields rest closing is = layer-Pat x (Pat-F.Struct path opening fields rest closing) (ap (λ k. out-Pat k) is ∙ pat.outs-Struct path opening fields rest closing) ∙ ap (λ r. path_parts tok leaf text path ++ (tok opening ++ (r ++ (maybe tok rest ++ tok closing)))) (each_map (listed_parts tok leaf text (field_pat_parts tok leaf text same)) _ fields ∙ each_alike _ (listed_parts tok leaf text (field_pat_parts tok leaf text (pat_parts tok leaf text))) (λ y. field_pat_alike y.item y.comma) fields)

  pub at-Pat-Group : (x : Pat) (group : Group) (inner : Pat) → x ≡ pat.Group group inner → pat_parts tok leaf text x ≡ leaf group (pat_parts tok leaf text inner)
  unfolding pat_parts
  at-Pat-Group x group inner is = layer-Pat x (Pat-F.Group group inner) (ap (λ k. out-Pat k) is ∙ pat.outs-Group group inner)

  layer-TopPat : (x : TopPat) (l : TopPat-F TopPat) → out-TopPat x ≡ l → fold-TopPat (List A) (top_pat_step tok leaf text) x ≡ top_pat_step tok leaf text (map-TopPat TopPat (List A) (fold-TopPat (List A) (top_pat_step tok leaf text)) l)
  layer-TopPat x l is = fold_out-TopPat (List A) (top_pat_step tok leaf text) x ∙ ap (λ k. top_pat_step tok leaf text (map-TopPat TopPat (List A) (fold-TopPat (List A) (top_pat_step tok leaf text)) k)) is

  pub at-TopPat-Alternatives : (x : TopPat) (x0 : List Alternative) → x ≡ top_pat.Alternatives x0 → top_pat_parts tok leaf text x ≡ each (alternative_parts tok leaf text) x0
  unfolding top_pat_parts
  at-TopPat-Alternatives x x0 is = layer-TopPat x (TopPat-F.Alternatives x0) (ap (λ k. out-TopPat k) is ∙ top_pat.outs-Alternatives x0)

  pub at-TopPat-Group : (x : TopPat) (group : Group) (inner : TopPat) → x ≡ top_pat.Group group inner → top_pat_parts tok leaf text x ≡ leaf group (top_pat_parts tok leaf text inner)
  unfolding top_pat_parts
  at-TopPat-Group x group inner is = layer-TopPat x (TopPat-F.Group group inner) (ap (λ k. out-TopPat k) is ∙ top_pat.outs-Group group inner)

  layer-Expr : (x : Expr) (l : Expr-F Expr Stmt Body ElseIf) → out-Expr x ≡ l → fold-Expr (List A) (List A) (List A) (List A) (expr_step tok leaf text) (stmt_step tok leaf text) (body_step tok leaf text) (else_if_step tok leaf text) x ≡ expr_step tok leaf text (map-Expr Expr Stmt Body ElseIf (List A) (List A) (List A) (List A) (fold-Expr (List A) (List A) (List A) (List A) (expr_step tok leaf text) (stmt_step tok leaf text) (body_step tok leaf text) (else_if_step tok leaf text)) (fold-Stmt (List A) (List A) (List A) (List A) (expr_step tok leaf text) (stmt_step tok leaf text) (body_step tok leaf text) (else_if_step tok leaf text)) (fold-Body (List A) (List A) (List A) (List A) (expr_step tok leaf text) (stmt_step tok leaf text) (body_step tok leaf text) (else_if_step tok leaf text)) (fold-ElseIf (List A) (List A) (List A) (List A) (expr_step tok leaf text) (stmt_step tok leaf text) (body_step tok leaf text) (else_if_step tok leaf text)) l)
  layer-Expr x l is = fold_out-Expr (List A) (List A) (List A) (List A) (expr_step tok leaf text) (stmt_step tok leaf text) (body_step tok leaf text) (else_if_step tok leaf text) x ∙ ap (λ k. expr_step tok leaf text (map-Expr Expr Stmt Body ElseIf (List A) (List A) (List A) (List A) (fold-Expr (List A) (List A) (List A) (List A) (expr_step tok leaf text) (stmt_step tok leaf text) (body_step tok leaf text) (else_if_step tok leaf text)) (fold-Stmt (List A) (List A) (List A) (List A) (expr_step tok leaf text) (stmt_step tok leaf text) (body_step tok leaf text) (else_if_step tok leaf text)) (fold-Body (List A) (List A) (List A) (List A) (expr_step tok leaf text) (stmt_step tok leaf text) (body_step tok leaf text) (else_if_step tok leaf text)) (fold-ElseIf (List A) (List A) (List A) (List A) (expr_step tok leaf text) (stmt_step tok leaf text) (body_step tok leaf text) (else_if_step tok leaf text)) k)) is

  layer-Stmt : (x : Stmt) (l : Stmt-F Expr Stmt Body ElseIf) → out-Stmt x ≡ l → fold-Stmt (List A) (List A) (List A) (List A) (expr_step tok leaf text) (stmt_step tok leaf text) (body_step tok leaf text) (else_if_step tok leaf text) x ≡ stmt_step tok leaf text (map-Stmt Expr Stmt Body ElseIf (List A) (List A) (List A) (List A) (fold-Expr (List A) (List A) (List A) (List A) (expr_step tok leaf text) (stmt_step tok leaf text) (body_step tok leaf text) (else_if_step tok leaf text)) (fold-Stmt (List A) (List A) (List A) (List A) (expr_step tok leaf text) (stmt_step tok leaf text) (body_step tok leaf text) (else_if_step tok leaf text)) (fold-Body (List A) (List A) (List A) (List A) (expr_step tok leaf text) (stmt_step tok leaf text) (body_step tok leaf text) (else_if_step tok leaf text)) (fold-ElseIf (List A) (List A) (List A) (List A) (expr_step tok leaf text) (stmt_step tok leaf text) (body_step tok leaf text) (else_if_step tok leaf text)) l)
  layer-Stmt x l is = fold_out-Stmt (List A) (List A) (List A) (List A) (expr_step tok leaf text) (stmt_step tok leaf text) (body_step tok leaf text) (else_if_step tok leaf text) x ∙ ap (λ k. stmt_step tok leaf text (map-Stmt Expr Stmt Body ElseIf (List A) (List A) (List A) (List A) (fold-Expr (List A) (List A) (List A) (List A) (expr_step tok leaf text) (stmt_step tok leaf text) (body_step tok leaf text) (else_if_step tok leaf text)) (fold-Stmt (List A) (List A) (List A) (List A) (expr_step tok leaf text) (stmt_step tok leaf text) (body_step tok leaf text) (else_if_step tok leaf text)) (fold-Body (List A) (List A) (List A) (List A) (expr_step tok leaf text) (stmt_step tok leaf text) (body_step tok leaf text) (else_if_step tok leaf text)) (fold-ElseIf (List A) (List A) (List A) (List A) (expr_step tok leaf text) (stmt_step tok leaf text) (body_step tok leaf text) (else_if_step tok leaf text)) k)) is

  layer-Body : (x : Body) (l : Body-F Expr Stmt Body ElseIf) → out-Body x ≡ l → fold-Body (List A) (List A) (List A) (List A) (expr_step tok leaf text) (stmt_step tok leaf text) (body_step tok leaf text) (else_if_step tok leaf text) x ≡ body_step tok leaf text (map-Body Expr Stmt Body ElseIf (List A) (List A) (List A) (List A) (fold-Expr (List A) (List A) (List A) (List A) (expr_step tok leaf text) (stmt_step tok leaf text) (body_step tok leaf text) (else_if_step tok leaf text)) (fold-Stmt (List A) (List A) (List A) (List A) (expr_step tok leaf text) (stmt_step tok leaf text) (body_step tok leaf text) (else_if_step tok leaf text)) (fold-Body (List A) (List A) (List A) (List A) (expr_step tok leaf text) (stmt_step tok leaf text) (body_step tok leaf text) (else_if_step tok leaf text)) (fold-ElseIf (List A) (List A) (List A) (List A) (expr_step tok leaf text) (stmt_step tok leaf text) (body_step tok leaf text) (else_if_step tok leaf text)) l)
  layer-Body x l is = fold_out-Body (List A) (List A) (List A) (List A) (expr_step tok leaf text) (stmt_step tok leaf text) (body_step tok leaf text) (else_if_step tok leaf text) x ∙ ap (λ k. body_step tok leaf text (map-Body Expr Stmt Body ElseIf (List A) (List A) (List A) (List A) (fold-Expr (List A) (List A) (List A) (List A) (expr_step tok leaf text) (stmt_step tok leaf text) (body_step tok leaf text) (else_if_step tok leaf text)) (fold-Stmt (List A) (List A) (List A) (List A) (expr_step tok leaf text) (stmt_step tok leaf text) (body_step tok leaf text) (else_if_step tok leaf text)) (fold-Body (List A) (List A) (List A) (List A) (expr_step tok leaf text) (stmt_step tok leaf text) (body_step tok leaf text) (else_if_step tok leaf text)) (fold-ElseIf (List A) (List A) (List A) (List A) (expr_step tok leaf text) (stmt_step tok leaf text) (body_step tok leaf text) (else_if_step tok leaf text)) k)) is

  layer-ElseIf : (x : ElseIf) (l : ElseIf-F Expr Stmt Body ElseIf) → out-ElseIf x ≡ l → fold-ElseIf (List A) (List A) (List A) (List A) (expr_step tok leaf text) (stmt_step tok leaf text) (body_step tok leaf text) (else_if_step tok leaf text) x ≡ else_if_step tok leaf text (map-ElseIf Expr Stmt Body ElseIf (List A) (List A) (List A) (List A) (fold-Expr (List A) (List A) (List A) (List A) (expr_step tok leaf text) (stmt_step tok leaf text) (body_step tok leaf text) (else_if_step tok leaf text)) (fold-Stmt (List A) (List A) (List A) (List A) (expr_step tok leaf text) (stmt_step tok leaf text) (body_step tok leaf text) (else_if_step tok leaf text)) (fold-Body (List A) (List A) (List A) (List A) (expr_step tok leaf text) (stmt_step tok leaf text) (body_step tok leaf text) (else_if_step tok leaf text)) (fold-ElseIf (List A) (List A) (List A) (List A) (expr_step tok leaf text) (stmt_step tok leaf text) (body_step tok leaf text) (else_if_step tok leaf text)) l)
  layer-ElseIf x l is = fold_out-ElseIf (List A) (List A) (List A) (List A) (expr_step tok leaf text) (stmt_step tok leaf text) (body_step tok leaf text) (else_if_step tok leaf text) x ∙ ap (λ k. else_if_step tok leaf text (map-ElseIf Expr Stmt Body ElseIf (List A) (List A) (List A) (List A) (fold-Expr (List A) (List A) (List A) (List A) (expr_step tok leaf text) (stmt_step tok leaf text) (body_step tok leaf text) (else_if_step tok leaf text)) (fold-Stmt (List A) (List A) (List A) (List A) (expr_step tok leaf text) (stmt_step tok leaf text) (body_step tok leaf text) (else_if_step tok leaf text)) (fold-Body (List A) (List A) (List A) (List A) (expr_step tok leaf text) (stmt_step tok leaf text) (body_step tok leaf text) (else_if_step tok leaf text)) (fold-ElseIf (List A) (List A) (List A) (List A) (expr_step tok leaf text) (stmt_step tok leaf text) (body_step tok leaf text) (else_if_step tok leaf text)) k)) is

  pub at-Expr-Literal : (x : Expr) (x0 : Token) → x ≡ expr.Literal x0 → expr_parts tok leaf text x ≡ tok x0
  unfolding expr_parts stmt_parts body_parts else_if_parts
  at-Expr-Literal x x0 is = layer-Expr x (Expr-F.Literal x0) (ap (λ k. out-Expr k) is ∙ expr.outs-Literal x0)

  pub at-Expr-Path : (x : Expr) (x0 : Path) → x ≡ expr.Path x0 → expr_parts tok leaf text x ≡ path_parts tok leaf text x0
  unfolding expr_parts stmt_parts body_parts else_if_parts
  at-Expr-Path x x0 is = layer-Expr x (Expr-F.Path x0) (ap (λ k. out-Expr k) is ∙ expr.outs-Path x0)

  field_alike : (name : Token) (colon : Option Token) (value : Option Expr) (comma : Option Token)
      → listed_parts tok leaf text (field_expr_parts tok leaf text same) (former-Expr-Struct-2-at-6.map Expr (List A) (expr_parts tok leaf text) (record { item = record { name = name; colon = colon; value = value }; comma = comma }))
      ≡ listed_parts tok leaf text (field_expr_parts tok leaf text (expr_parts tok leaf text)) (record { item = record { name = name; colon = colon; value = value }; comma = comma })
  unfolding expr_parts
  field_alike name colon None comma = refl
  field_alike name colon (Some value) comma = refl

  condition_alike : (c : Condition Expr) → condition_parts tok leaf text same (former-Expr-If-1.map Expr (List A) (expr_parts tok leaf text) c) ≡ condition_parts tok leaf text (expr_parts tok leaf text) c
  unfolding expr_parts
  condition_alike (condition.Expr value) = refl
  condition_alike (condition.Let word pat equals value) = refl

  tail_alike : (v : Option Expr) → maybe same (former-Expr-For-5.map Expr (List A) (expr_parts tok leaf text) v) ≡ maybe (expr_parts tok leaf text) v
  unfolding expr_parts
  tail_alike None = refl
  tail_alike (Some value) = refl

  pub at-Expr-Struct : (x : Expr) (path : Path) (opening : Token) (fields : List (Listed (FieldExpr Expr))) (closing : Token) → x ≡ expr.Struct path opening fields closing → expr_parts tok leaf text x ≡ path_parts tok leaf text path ++ (tok opening ++ (each (listed_parts tok leaf text (field_expr_parts tok leaf text (expr_parts tok leaf text))) fields ++ tok closing))
  unfolding expr_parts stmt_parts body_parts else_if_parts
  at-Expr-Struct x path opening fields closing is = layer-Expr x (Expr-F.Struct path opening fields closing) (ap (λ k. out-Expr k) is ∙ expr.outs-Struct path opening fields closing) ∙ ap (λ r. path_parts tok leaf text path ++ (tok opening ++ (r ++ tok closing))) (each_map (listed_parts tok leaf text (field_expr_parts tok leaf text same)) _ fields ∙ each_alike _ (listed_parts tok leaf text (field_expr_parts tok leaf text (expr_parts tok leaf text))) (λ y. field_alike y.item.name y.item.colon y.item.value y.comma) fields)

  pub at-Expr-Paren : (x : Expr) (opening : Token) (inner : Expr) (closing : Token) → x ≡ expr.Paren opening inner closing → expr_parts tok leaf text x ≡ tok opening ++ (expr_parts tok leaf text inner ++ tok closing)
  unfolding expr_parts stmt_parts body_parts else_if_parts
  at-Expr-Paren x opening inner closing is = layer-Expr x (Expr-F.Paren opening inner closing) (ap (λ k. out-Expr k) is ∙ expr.outs-Paren opening inner closing)

  pub at-Expr-Array : (x : Expr) (opening : Token) (elements : List (Listed Expr)) (closing : Token) → x ≡ expr.Array opening elements closing → expr_parts tok leaf text x ≡ tok opening ++ (each (listed_parts tok leaf text (expr_parts tok leaf text)) elements ++ tok closing)
  unfolding expr_parts stmt_parts body_parts else_if_parts
  at-Expr-Array x opening elements closing is = layer-Expr x (Expr-F.Array opening elements closing) (ap (λ k. out-Expr k) is ∙ expr.outs-Array opening elements closing) ∙ ap (λ r. tok opening ++ (r ++ tok closing)) (each_map (listed_parts tok leaf text same) _ elements)

  pub at-Expr-Repeat : (x : Expr) (opening : Token) (element : Expr) (semi : Token) (length : Literal) (closing : Token) → x ≡ expr.Repeat opening element semi length closing → expr_parts tok leaf text x ≡ tok opening ++ (expr_parts tok leaf text element ++ (tok semi ++ (literal_parts tok leaf text length ++ tok closing)))
  unfolding expr_parts stmt_parts body_parts else_if_parts
  at-Expr-Repeat x opening element semi length closing is = layer-Expr x (Expr-F.Repeat opening element semi length closing) (ap (λ k. out-Expr k) is ∙ expr.outs-Repeat opening element semi length closing)

  pub at-Expr-Block : (x : Expr) (x0 : Block Body) → x ≡ expr.Block x0 → expr_parts tok leaf text x ≡ block_parts tok leaf text (body_parts tok leaf text) x0
  unfolding expr_parts stmt_parts body_parts else_if_parts
  at-Expr-Block x x0 is = layer-Expr x (Expr-F.Block x0) (ap (λ k. out-Expr k) is ∙ expr.outs-Block x0)

  pub at-Expr-If : (x : Expr) (word : Token) (condition : Condition Expr) (then : Block Body) (branches : List ElseIf) (word_else : Option Token) (otherwise : Option (Block Body)) → x ≡ expr.If word condition then branches word_else otherwise → expr_parts tok leaf text x ≡ tok word ++ (condition_parts tok leaf text (expr_parts tok leaf text) condition ++ (block_parts tok leaf text (body_parts tok leaf text) then ++ (each (else_if_parts tok leaf text) branches ++ (maybe tok word_else ++ maybe (block_parts tok leaf text (body_parts tok leaf text)) otherwise))))
  unfolding expr_parts stmt_parts body_parts else_if_parts
  at-Expr-If x word (condition.Expr value) then branches word_else None is = layer-Expr x (Expr-F.If word (condition.Expr value) then branches word_else None) (ap (λ k. out-Expr k) is ∙ expr.outs-If word (condition.Expr value) then branches word_else None) ∙ ap (λ r. tok word ++ (condition_parts tok leaf text (expr_parts tok leaf text) (condition.Expr value) ++ (block_parts tok leaf text (body_parts tok leaf text) then ++ (r ++ (maybe tok word_else ++ []))))) (each_map same (else_if_parts tok leaf text) branches)
  at-Expr-If x word (condition.Expr value) then branches word_else (Some otherwise) is = layer-Expr x (Expr-F.If word (condition.Expr value) then branches word_else (Some otherwise)) (ap (λ k. out-Expr k) is ∙ expr.outs-If word (condition.Expr value) then branches word_else (Some otherwise)) ∙ ap (λ r. tok word ++ (condition_parts tok leaf text (expr_parts tok leaf text) (condition.Expr value) ++ (block_parts tok leaf text (body_parts tok leaf text) then ++ (r ++ (maybe tok word_else ++ block_parts tok leaf text (body_parts tok leaf text) otherwise))))) (each_map same (else_if_parts tok leaf text) branches)
  at-Expr-If x word (condition.Let let_word pat equals value) then branches word_else None is = layer-Expr x (Expr-F.If word (condition.Let let_word pat equals value) then branches word_else None) (ap (λ k. out-Expr k) is ∙ expr.outs-If word (condition.Let let_word pat equals value) then branches word_else None) ∙ ap (λ r. tok word ++ (condition_parts tok leaf text (expr_parts tok leaf text) (condition.Let let_word pat equals value) ++ (block_parts tok leaf text (body_parts tok leaf text) then ++ (r ++ (maybe tok word_else ++ []))))) (each_map same (else_if_parts tok leaf text) branches)
  at-Expr-If x word (condition.Let let_word pat equals value) then branches word_else (Some otherwise) is = layer-Expr x (Expr-F.If word (condition.Let let_word pat equals value) then branches word_else (Some otherwise)) (ap (λ k. out-Expr k) is ∙ expr.outs-If word (condition.Let let_word pat equals value) then branches word_else (Some otherwise)) ∙ ap (λ r. tok word ++ (condition_parts tok leaf text (expr_parts tok leaf text) (condition.Let let_word pat equals value) ++ (block_parts tok leaf text (body_parts tok leaf text) then ++ (r ++ (maybe tok word_else ++ block_parts tok leaf text (body_parts tok leaf text) otherwise))))) (each_map same (else_if_parts tok leaf text) branches)

  pub at-Expr-Match : (x : Expr) (word : Token) (scrutinee : Expr) (opening : Token) (arms : List (Arm Expr)) (closing : Token) → x ≡ expr.Match word scrutinee opening arms closing → expr_parts tok leaf text x ≡ tok word ++ (expr_parts tok leaf text scrutinee ++ (tok opening ++ (each (arm_parts tok leaf text (expr_parts tok leaf text)) arms ++ tok closing)))
  unfolding expr_parts stmt_parts body_parts else_if_parts
  at-Expr-Match x word scrutinee opening arms closing is = layer-Expr x (Expr-F.Match word scrutinee opening arms closing) (ap (λ k. out-Expr k) is ∙ expr.outs-Match word scrutinee opening arms closing) ∙ ap (λ r. tok word ++ (expr_parts tok leaf text scrutinee ++ (tok opening ++ (r ++ tok closing)))) (each_map (arm_parts tok leaf text same) _ arms)

  pub at-Expr-While : (x : Expr) (word : Token) (condition : Expr) (body : Block Body) → x ≡ expr.While word condition body → expr_parts tok leaf text x ≡ tok word ++ (expr_parts tok leaf text condition ++ block_parts tok leaf text (body_parts tok leaf text) body)
  unfolding expr_parts stmt_parts body_parts else_if_parts
  at-Expr-While x word condition body is = layer-Expr x (Expr-F.While word condition body) (ap (λ k. out-Expr k) is ∙ expr.outs-While word condition body)

  pub at-Expr-Loop : (x : Expr) (word : Token) (body : Block Body) → x ≡ expr.Loop word body → expr_parts tok leaf text x ≡ tok word ++ block_parts tok leaf text (body_parts tok leaf text) body
  unfolding expr_parts stmt_parts body_parts else_if_parts
  at-Expr-Loop x word body is = layer-Expr x (Expr-F.Loop word body) (ap (λ k. out-Expr k) is ∙ expr.outs-Loop word body)

  pub at-Expr-For : (x : Expr) (word : Token) (pat : Pat) (word_in : Token) (head : Expr) (dots : Option Token) (end : Option Expr) (body : Block Body) → x ≡ expr.For word pat word_in head dots end body → expr_parts tok leaf text x ≡ tok word ++ (pat_parts tok leaf text pat ++ (tok word_in ++ (expr_parts tok leaf text head ++ (maybe tok dots ++ (maybe (expr_parts tok leaf text) end ++ block_parts tok leaf text (body_parts tok leaf text) body)))))
  unfolding expr_parts stmt_parts body_parts else_if_parts
  at-Expr-For x word pat word_in head dots None body is = layer-Expr x (Expr-F.For word pat word_in head dots None body) (ap (λ k. out-Expr k) is ∙ expr.outs-For word pat word_in head dots None body)
  at-Expr-For x word pat word_in head dots (Some end) body is = layer-Expr x (Expr-F.For word pat word_in head dots (Some end) body) (ap (λ k. out-Expr k) is ∙ expr.outs-For word pat word_in head dots (Some end) body)

  pub at-Expr-Closure : (x : Expr) (word_move : Option Token) (head : ClosureHead) (body : Expr) → x ≡ expr.Closure word_move head body → expr_parts tok leaf text x ≡ maybe tok word_move ++ (closure_head_parts tok leaf text head ++ expr_parts tok leaf text body)
  unfolding expr_parts stmt_parts body_parts else_if_parts
  at-Expr-Closure x word_move head body is = layer-Expr x (Expr-F.Closure word_move head body) (ap (λ k. out-Expr k) is ∙ expr.outs-Closure word_move head body)

  pub at-Expr-ClosureTo : (x : Expr) (word_move : Option Token) (head : ClosureHead) (arrow : Token) (output : TypeTree) (body : Block Body) → x ≡ expr.ClosureTo word_move head arrow output body → expr_parts tok leaf text x ≡ maybe tok word_move ++ (closure_head_parts tok leaf text head ++ (tok arrow ++ (type_tree_parts tok leaf text output ++ block_parts tok leaf text (body_parts tok leaf text) body)))
  unfolding expr_parts stmt_parts body_parts else_if_parts
  at-Expr-ClosureTo x word_move head arrow output body is = layer-Expr x (Expr-F.ClosureTo word_move head arrow output body) (ap (λ k. out-Expr k) is ∙ expr.outs-ClosureTo word_move head arrow output body)

  pub at-Expr-Macro : (x : Expr) (x0 : MacroCall) → x ≡ expr.Macro x0 → expr_parts tok leaf text x ≡ macro_call_parts tok leaf text x0
  unfolding expr_parts stmt_parts body_parts else_if_parts
  at-Expr-Macro x x0 is = layer-Expr x (Expr-F.Expr::Macro x0) (ap (λ k. out-Expr k) is ∙ expr.outs-Macro x0)

  pub at-Expr-Return : (x : Expr) (word : Token) (value : Option Expr) → x ≡ expr.Return word value → expr_parts tok leaf text x ≡ tok word ++ maybe (expr_parts tok leaf text) value
  unfolding expr_parts stmt_parts body_parts else_if_parts
  at-Expr-Return x word None is = layer-Expr x (Expr-F.Return word None) (ap (λ k. out-Expr k) is ∙ expr.outs-Return word None)
  at-Expr-Return x word (Some value) is = layer-Expr x (Expr-F.Return word (Some value)) (ap (λ k. out-Expr k) is ∙ expr.outs-Return word (Some value))

  pub at-Expr-Break : (x : Expr) (x0 : Token) → x ≡ expr.Break x0 → expr_parts tok leaf text x ≡ tok x0
  unfolding expr_parts stmt_parts body_parts else_if_parts
  at-Expr-Break x x0 is = layer-Expr x (Expr-F.Break x0) (ap (λ k. out-Expr k) is ∙ expr.outs-Break x0)

  pub at-Expr-Continue : (x : Expr) (x0 : Token) → x ≡ expr.Continue x0 → expr_parts tok leaf text x ≡ tok x0
  unfolding expr_parts stmt_parts body_parts else_if_parts
  at-Expr-Continue x x0 is = layer-Expr x (Expr-F.Continue x0) (ap (λ k. out-Expr k) is ∙ expr.outs-Continue x0)

  pub at-Expr-MethodCall : (x : Expr) (receiver : Expr) (dot : Token) (name : Token) (opening : Token) (arguments : List (Listed Expr)) (closing : Token) → x ≡ expr.MethodCall receiver dot name opening arguments closing → expr_parts tok leaf text x ≡ expr_parts tok leaf text receiver ++ (tok dot ++ (tok name ++ (tok opening ++ (each (listed_parts tok leaf text (expr_parts tok leaf text)) arguments ++ tok closing))))
  unfolding expr_parts stmt_parts body_parts else_if_parts
  at-Expr-MethodCall x receiver dot name opening arguments closing is = layer-Expr x (Expr-F.MethodCall receiver dot name opening arguments closing) (ap (λ k. out-Expr k) is ∙ expr.outs-MethodCall receiver dot name opening arguments closing) ∙ ap (λ r. expr_parts tok leaf text receiver ++ (tok dot ++ (tok name ++ (tok opening ++ (r ++ tok closing))))) (each_map (listed_parts tok leaf text same) _ arguments)

  pub at-Expr-Call : (x : Expr) (callee : Expr) (opening : Token) (arguments : List (Listed Expr)) (closing : Token) → x ≡ expr.Call callee opening arguments closing → expr_parts tok leaf text x ≡ expr_parts tok leaf text callee ++ (tok opening ++ (each (listed_parts tok leaf text (expr_parts tok leaf text)) arguments ++ tok closing))
  unfolding expr_parts stmt_parts body_parts else_if_parts
  at-Expr-Call x callee opening arguments closing is = layer-Expr x (Expr-F.Call callee opening arguments closing) (ap (λ k. out-Expr k) is ∙ expr.outs-Call callee opening arguments closing) ∙ ap (λ r. expr_parts tok leaf text callee ++ (tok opening ++ (r ++ tok closing))) (each_map (listed_parts tok leaf text same) _ arguments)

  pub at-Expr-Field : (x : Expr) (base : Expr) (dot : Token) (name : Token) → x ≡ expr.Field base dot name → expr_parts tok leaf text x ≡ expr_parts tok leaf text base ++ (tok dot ++ tok name)
  unfolding expr_parts stmt_parts body_parts else_if_parts
  at-Expr-Field x base dot name is = layer-Expr x (Expr-F.Field base dot name) (ap (λ k. out-Expr k) is ∙ expr.outs-Field base dot name)

  pub at-Expr-Place : (x : Expr) (base : Expr) (dot : Token) (number : Literal) → x ≡ expr.Place base dot number → expr_parts tok leaf text x ≡ expr_parts tok leaf text base ++ (tok dot ++ literal_parts tok leaf text number)
  unfolding expr_parts stmt_parts body_parts else_if_parts
  at-Expr-Place x base dot number is = layer-Expr x (Expr-F.Place base dot number) (ap (λ k. out-Expr k) is ∙ expr.outs-Place base dot number)

  pub at-Expr-Index : (x : Expr) (base : Expr) (opening : Token) (index : Expr) (closing : Token) → x ≡ expr.Index base opening index closing → expr_parts tok leaf text x ≡ expr_parts tok leaf text base ++ (tok opening ++ (expr_parts tok leaf text index ++ tok closing))
  unfolding expr_parts stmt_parts body_parts else_if_parts
  at-Expr-Index x base opening index closing is = layer-Expr x (Expr-F.Index base opening index closing) (ap (λ k. out-Expr k) is ∙ expr.outs-Index base opening index closing)

  pub at-Expr-Unary : (x : Expr) (operator : Token) (operand : Expr) → x ≡ expr.Unary operator operand → expr_parts tok leaf text x ≡ tok operator ++ expr_parts tok leaf text operand
  unfolding expr_parts stmt_parts body_parts else_if_parts
  at-Expr-Unary x operator operand is = layer-Expr x (Expr-F.Unary operator operand) (ap (λ k. out-Expr k) is ∙ expr.outs-Unary operator operand)

  pub at-Expr-Ref : (x : Expr) (amp : Token) (word_mut : Option Token) (operand : Expr) → x ≡ expr.Ref amp word_mut operand → expr_parts tok leaf text x ≡ tok amp ++ (maybe tok word_mut ++ expr_parts tok leaf text operand)
  unfolding expr_parts stmt_parts body_parts else_if_parts
  at-Expr-Ref x amp word_mut operand is = layer-Expr x (Expr-F.Ref amp word_mut operand) (ap (λ k. out-Expr k) is ∙ expr.outs-Ref amp word_mut operand)

  pub at-Expr-RefRef : (x : Expr) (amps : Token) (word_mut : Option Token) (operand : Expr) → x ≡ expr.RefRef amps word_mut operand → expr_parts tok leaf text x ≡ tok amps ++ (maybe tok word_mut ++ expr_parts tok leaf text operand)
  unfolding expr_parts stmt_parts body_parts else_if_parts
  at-Expr-RefRef x amps word_mut operand is = layer-Expr x (Expr-F.RefRef amps word_mut operand) (ap (λ k. out-Expr k) is ∙ expr.outs-RefRef amps word_mut operand)

  pub at-Expr-Binary : (x : Expr) (left : Expr) (operator : Token) (right : Expr) → x ≡ expr.Binary left operator right → expr_parts tok leaf text x ≡ expr_parts tok leaf text left ++ (tok operator ++ expr_parts tok leaf text right)
  unfolding expr_parts stmt_parts body_parts else_if_parts
  at-Expr-Binary x left operator right is = layer-Expr x (Expr-F.Binary left operator right) (ap (λ k. out-Expr k) is ∙ expr.outs-Binary left operator right)

  pub at-Expr-Assign : (x : Expr) (left : Expr) (operator : Token) (right : Expr) → x ≡ expr.Assign left operator right → expr_parts tok leaf text x ≡ expr_parts tok leaf text left ++ (tok operator ++ expr_parts tok leaf text right)
  unfolding expr_parts stmt_parts body_parts else_if_parts
  at-Expr-Assign x left operator right is = layer-Expr x (Expr-F.Assign left operator right) (ap (λ k. out-Expr k) is ∙ expr.outs-Assign left operator right)

  pub at-Expr-Group : (x : Expr) (group : Group) (inner : Expr) → x ≡ expr.Group group inner → expr_parts tok leaf text x ≡ leaf group (expr_parts tok leaf text inner)
  unfolding expr_parts stmt_parts body_parts else_if_parts
  at-Expr-Group x group inner is = layer-Expr x (Expr-F.Expr::Group group inner) (ap (λ k. out-Expr k) is ∙ expr.outs-Group group inner)

  pub at-Stmt-Mention : (x : Stmt) (word : Token) (underscore : Token) (equals : Token) (refs : Refs) (semi : Option Token) → x ≡ stmt.Mention word underscore equals refs semi → stmt_parts tok leaf text x ≡ tok word ++ (tok underscore ++ (tok equals ++ (refs_parts tok leaf text refs ++ maybe tok semi)))
  unfolding expr_parts stmt_parts body_parts else_if_parts
  at-Stmt-Mention x word underscore equals refs semi is = layer-Stmt x (Stmt-F.Mention word underscore equals refs semi) (ap (λ k. out-Stmt k) is ∙ stmt.outs-Mention word underscore equals refs semi)

  pub at-Stmt-Let : (x : Stmt) (word : Token) (pat : Pat) (annotation : Annotation) (equals : Token) (value : Expr) (semi : Option Token) → x ≡ stmt.Let word pat annotation equals value semi → stmt_parts tok leaf text x ≡ tok word ++ (pat_parts tok leaf text pat ++ (annotation_parts tok leaf text annotation ++ (tok equals ++ (expr_parts tok leaf text value ++ maybe tok semi))))
  unfolding expr_parts stmt_parts body_parts else_if_parts
  at-Stmt-Let x word pat annotation equals value semi is = layer-Stmt x (Stmt-F.Let word pat annotation equals value semi) (ap (λ k. out-Stmt k) is ∙ stmt.outs-Let word pat annotation equals value semi)

  pub at-Stmt-Macro : (x : Stmt) (call : MacroCall) (semi : Option Token) → x ≡ stmt.Macro call semi → stmt_parts tok leaf text x ≡ macro_call_parts tok leaf text call ++ maybe tok semi
  unfolding expr_parts stmt_parts body_parts else_if_parts
  at-Stmt-Macro x call semi is = layer-Stmt x (Stmt-F.Stmt::Macro call semi) (ap (λ k. out-Stmt k) is ∙ stmt.outs-Macro call semi)

  pub at-Stmt-Expr : (x : Stmt) (value : Expr) (semi : Option Token) → x ≡ stmt.Expr value semi → stmt_parts tok leaf text x ≡ expr_parts tok leaf text value ++ maybe tok semi
  unfolding expr_parts stmt_parts body_parts else_if_parts
  at-Stmt-Expr x value semi is = layer-Stmt x (Stmt-F.Expr value semi) (ap (λ k. out-Stmt k) is ∙ stmt.outs-Expr value semi)

  pub at-Stmt-BlockLike : (x : Stmt) (value : Expr) (semi : Option Token) → x ≡ stmt.BlockLike value semi → stmt_parts tok leaf text x ≡ expr_parts tok leaf text value ++ maybe tok semi
  unfolding expr_parts stmt_parts body_parts else_if_parts
  at-Stmt-BlockLike x value semi is = layer-Stmt x (Stmt-F.BlockLike value semi) (ap (λ k. out-Stmt k) is ∙ stmt.outs-BlockLike value semi)

  pub at-Stmt-Group : (x : Stmt) (group : Group) (inner : Stmt) (semi : Option Token) → x ≡ stmt.Group group inner semi → stmt_parts tok leaf text x ≡ leaf group (stmt_parts tok leaf text inner) ++ maybe tok semi
  unfolding expr_parts stmt_parts body_parts else_if_parts
  at-Stmt-Group x group inner semi is = layer-Stmt x (Stmt-F.Stmt::Group group inner semi) (ap (λ k. out-Stmt k) is ∙ stmt.outs-Group group inner semi)

  pub at-Body : (x : Body) → body_parts tok leaf text x ≡ each (stmt_parts tok leaf text) (out-Body x).stmts ++ maybe (expr_parts tok leaf text) (out-Body x).tail
  unfolding expr_parts stmt_parts body_parts else_if_parts
  at-Body x = layer-Body x (out-Body x) refl ∙ ap (λ r. r ++ maybe same (former-Expr-For-5.map Expr (List A) (expr_parts tok leaf text) (out-Body x).tail)) (each_map same (stmt_parts tok leaf text) (out-Body x).stmts) ∙ ap (λ r. each (stmt_parts tok leaf text) (out-Body x).stmts ++ r) (tail_alike (out-Body x).tail)

  pub at-ElseIf : (x : ElseIf) → else_if_parts tok leaf text x ≡ tok (out-ElseIf x).word_else ++ (tok (out-ElseIf x).word ++ (condition_parts tok leaf text (expr_parts tok leaf text) (out-ElseIf x).condition ++ block_parts tok leaf text (body_parts tok leaf text) (out-ElseIf x).then))
  unfolding expr_parts stmt_parts body_parts else_if_parts
  at-ElseIf x = layer-ElseIf x (out-ElseIf x) refl ∙ ap (λ r. tok (out-ElseIf x).word_else ++ (tok (out-ElseIf x).word ++ (r ++ block_parts tok leaf text (body_parts tok leaf text) (out-ElseIf x).then))) (condition_alike (out-ElseIf x).condition)

  layer-Item : (x : Item) (l : Item-F Item) → out-Item x ≡ l → fold-Item (List A) (item_step tok leaf text) x ≡ item_step tok leaf text (map-Item Item (List A) (fold-Item (List A) (item_step tok leaf text)) l)
  layer-Item x l is = fold_out-Item (List A) (item_step tok leaf text) x ∙ ap (λ k. item_step tok leaf text (map-Item Item (List A) (fold-Item (List A) (item_step tok leaf text)) k)) is

  body_alike : (b : ItemBody Item) → item_body_parts tok leaf text same (former-Item-Plain-2.map Item (List A) (item_parts tok leaf text) b) ≡ item_body_parts tok leaf text (item_parts tok leaf text) b
  unfolding item_parts
  body_alike (item_body.ExternCrate word word_crate name rename semi) = refl
  body_alike (item_body.Use word path rename semi) = refl
  body_alike (item_body.UseList word path separator opening names closing semi) = refl
  body_alike (item_body.ModFile word name semi) = refl
  body_alike (item_body.ModBlock word name opening items closing) = ap (λ r. tok word ++ (tok name ++ (tok opening ++ (r ++ tok closing)))) (each_map same (item_parts tok leaf text) items)
  body_alike (item_body.Fn sig body) = refl
  body_alike (item_body.Struct word name fields) = refl
  body_alike (item_body.Enum word name opening variants closing) = refl
  body_alike (item_body.Trait word name opening functions closing) = refl
  body_alike (item_body.Impl word of_trait self_type opening functions closing) = refl
  body_alike (item_body.Const word name colon ty equals value semi) = refl
  body_alike (item_body.Rules word bang name macro_text semi) = refl
  body_alike (item_body.Macro call semi) = refl

  pub at-Item-Plain : (x : Item) (attributes : List Attribute) (vis : Option Vis) (body : ItemBody Item) → x ≡ item.Plain attributes vis body → item_parts tok leaf text x ≡ each (attribute_parts tok leaf text) attributes ++ (maybe (vis_parts tok leaf text) vis ++ item_body_parts tok leaf text (item_parts tok leaf text) body)
  unfolding item_parts
  at-Item-Plain x attributes vis body is = layer-Item x (Item-F.Plain attributes vis body) (ap (λ k. out-Item k) is ∙ item.outs-Plain attributes vis body) ∙ ap (λ r. each (attribute_parts tok leaf text) attributes ++ (maybe (vis_parts tok leaf text) vis ++ r)) (body_alike body)

  pub at-Item-Group : (x : Item) (group : Group) (inner : Item) → x ≡ item.Group group inner → item_parts tok leaf text x ≡ leaf group (item_parts tok leaf text inner)
  unfolding item_parts
  at-Item-Group x group inner is = layer-Item x (Item-F.Group group inner) (ap (λ k. out-Item k) is ∙ item.outs-Group group inner)
