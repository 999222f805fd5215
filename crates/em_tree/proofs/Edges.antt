-- Where the pieces of a node begin and end.
use Rattle.std.proofs.Common.{◌≡◌, List, [], ◌∷◌, ◌++◌, Option, Some, ap, ◌∙◌}
use Rattle.std.proofs.lemmas.List.{append-nil}
use Rattle.em_base.specs.declared.place.Span.{Span}
use Rattle.em_base.specs.declared.token.Token.{Token}
use Rattle.em_tree.specs.declared.parts.Listed.{Listed}
use Rattle.em_tree.specs.declared.piece.Piece.{Piece}
use Rattle.em_tree.specs.declared.piece.Group.{Group}
use Rattle.em_tree.specs.declared.literal.Literal.{Literal}
use Rattle.em_tree.specs.declared.literal.Literal.TheVariants as literal
use Rattle.em_tree.specs.declared.types.Segments.{Segments}
use Rattle.em_tree.specs.declared.types.Path.{Path}
use Rattle.em_tree.specs.declared.types.Path.TheVariants as path
use Rattle.em_tree.specs.declared.types.Qualified.{Qualified, out-Qualified}
use Rattle.em_tree.specs.declared.types.Output.{Output}
use Rattle.em_tree.specs.declared.types.Bound.{Bound}
use Rattle.em_tree.specs.declared.types.Bound.TheVariants as bound
use Rattle.em_tree.specs.declared.types.TypeTree.{TypeTree}
use Rattle.em_tree.specs.declared.types.TypeTree.TheVariants as type_tree
use Rattle.em_tree.specs.declared.pat.FieldPat.{FieldPat}
use Rattle.em_tree.specs.declared.pat.Pat.{Pat}
use Rattle.em_tree.specs.declared.pat.Pat.TheVariants as pat
use Rattle.em_tree.specs.declared.expr.Annotation.{Annotation}
use Rattle.em_tree.specs.declared.expr.FieldExpr.{FieldExpr}
use Rattle.em_tree.specs.declared.expr.ClosureHead.{ClosureHead}
use Rattle.em_tree.specs.declared.expr.Condition.{Condition}
use Rattle.em_tree.specs.declared.expr.Arm.{Arm}
use Rattle.em_tree.specs.declared.expr.Refs.{Refs}
use Rattle.em_tree.specs.declared.expr.Block.{Block}
use Rattle.em_tree.specs.declared.expr.MacroCall.{MacroCall}
use Rattle.em_tree.specs.declared.expr.ElseIf.{ElseIf}
use Rattle.em_tree.specs.declared.expr.Expr.{Expr}
use Rattle.em_tree.specs.declared.expr.Expr.TheVariants as expr
use Rattle.em_tree.specs.declared.expr.Stmt.{Stmt}
use Rattle.em_tree.specs.declared.expr.Stmt.TheVariants as stmt
use Rattle.em_tree.specs.declared.expr.Body.{Body}
use Rattle.em_tree.specs.declared.item.Attribute.{Attribute}
use Rattle.em_tree.specs.declared.item.Vis.{Vis}
use Rattle.em_tree.specs.declared.item.ItemBody.{ItemBody}
use Rattle.em_tree.specs.declared.item.Item.{Item}
use Rattle.em_tree.specs.declared.item.Item.TheVariants as item
use Rattle.em_tree.specs.declared.piece.Piece.TheVariants as p
use Rattle.em_tree.specs.Parts.{maybe, each, leaves, listed_parts, literal_parts, segments_parts, path_parts, qualified_parts, output_parts, bound_parts, type_tree_parts, field_pat_parts, pat_parts, annotation_parts, field_expr_parts, closure_head_parts, condition_parts, arm_parts, refs_parts, block_parts, macro_call_parts, else_if_parts, expr_parts, stmt_parts, body_parts, attribute_parts, vis_parts, item_body_parts, item_parts}
use Rattle.em_tree.specs.Yields.{piece, whole, as_it_is, first_of, last_of}
use Rattle.em_tree.proofs.Layers.{at-Literal-Token, at-Literal-Negative, at-Literal-Group, at-Bound-Path, at-Bound-Call, at-Path-Plain, at-Path-Qualified, at-Path-Group, at-TypeTree-Path, at-TypeTree-Boxed, at-TypeTree-Ref, at-TypeTree-RefRef, at-TypeTree-Array, at-TypeTree-Slice, at-TypeTree-Unit, at-TypeTree-Dyn, at-TypeTree-Bare, at-TypeTree-Group, at-Qualified, at-Pat-Wild, at-Pat-Name, at-Pat-Literal, at-Pat-Range, at-Pat-Path, at-Pat-Tuple, at-Pat-Struct, at-Pat-Group, at-Expr-Literal, at-Expr-Path, at-Expr-Struct, at-Expr-Paren, at-Expr-Array, at-Expr-Repeat, at-Expr-Block, at-Expr-If, at-Expr-Match, at-Expr-While, at-Expr-Loop, at-Expr-For, at-Expr-Closure, at-Expr-ClosureTo, at-Expr-Macro, at-Expr-Return, at-Expr-Break, at-Expr-Continue, at-Expr-MethodCall, at-Expr-Call, at-Expr-Field, at-Expr-Place, at-Expr-Index, at-Expr-Unary, at-Expr-Ref, at-Expr-RefRef, at-Expr-Binary, at-Expr-Assign, at-Expr-Group, at-Stmt-Mention, at-Stmt-Let, at-Stmt-Macro, at-Stmt-Expr, at-Stmt-BlockLike, at-Stmt-Group, at-Item-Plain, at-Item-Group}

pub front : (xs ys : List Piece) (s : Span) → first_of xs ≡ Some s → first_of (xs ++ ys) ≡ Some s
front [] ys s h = cc
front (x ∷ xs) ys s h = h

pub back : (xs ys : List Piece) (s : Span) → last_of ys ≡ Some s → last_of (xs ++ ys) ≡ Some s
back [] ys s h = h
back (x ∷ []) [] s h = cc
back (x ∷ []) (y ∷ ys) s h = h
back (x ∷ z ∷ xs) ys s h = back (z ∷ xs) ys s h

pub back_nil : (xs : List Piece) (s : Span) → last_of xs ≡ Some s → last_of (xs ++ []) ≡ Some s
back_nil xs s h = ap last_of (append-nil xs) ∙ h

pub first_literal_token : (x : Literal) (x0 : Token) (s : Span) → x ≡ literal.Token x0 → first_of (piece x0) ≡ Some s → first_of (literal_parts piece whole as_it_is x) ≡ Some s
first_literal_token x x0 s is h = ap first_of (at-Literal-Token piece whole as_it_is x x0 is) ∙ h

pub last_literal_token : (x : Literal) (x0 : Token) (s : Span) → x ≡ literal.Token x0 → last_of (piece x0) ≡ Some s → last_of (literal_parts piece whole as_it_is x) ≡ Some s
last_literal_token x x0 s is h = ap last_of (at-Literal-Token piece whole as_it_is x x0 is) ∙ h

pub first_literal_negative : (x : Literal) (minus : Token) (value : Literal) (s : Span) → x ≡ literal.Negative minus value → first_of (piece minus) ≡ Some s → first_of (literal_parts piece whole as_it_is x) ≡ Some s
first_literal_negative x minus value s is h = ap first_of (at-Literal-Negative piece whole as_it_is x minus value is) ∙ front (piece minus) (literal_parts piece whole as_it_is value) s h

pub last_literal_negative : (x : Literal) (minus : Token) (value : Literal) (s : Span) → x ≡ literal.Negative minus value → last_of (literal_parts piece whole as_it_is value) ≡ Some s → last_of (literal_parts piece whole as_it_is x) ≡ Some s
last_literal_negative x minus value s is h = ap last_of (at-Literal-Negative piece whole as_it_is x minus value is) ∙ back (piece minus) (literal_parts piece whole as_it_is value) s (h)

pub first_literal_group : (x : Literal) (group : Group) (inner : Literal) (s : Span) → x ≡ literal.Group group inner → first_of (p.Group group ∷ []) ≡ Some s → first_of (literal_parts piece whole as_it_is x) ≡ Some s
first_literal_group x group inner s is h = ap first_of (at-Literal-Group piece whole as_it_is x group inner is) ∙ h

pub last_literal_group : (x : Literal) (group : Group) (inner : Literal) (s : Span) → x ≡ literal.Group group inner → last_of (p.Group group ∷ []) ≡ Some s → last_of (literal_parts piece whole as_it_is x) ≡ Some s
last_literal_group x group inner s is h = ap last_of (at-Literal-Group piece whole as_it_is x group inner is) ∙ h

pub first_bound_path : (x : Bound) (x0 : Path) (s : Span) → x ≡ bound.Path x0 → first_of (path_parts piece whole as_it_is x0) ≡ Some s → first_of (bound_parts piece whole as_it_is x) ≡ Some s
first_bound_path x x0 s is h = ap first_of (at-Bound-Path piece whole as_it_is x x0 is) ∙ h

pub last_bound_path : (x : Bound) (x0 : Path) (s : Span) → x ≡ bound.Path x0 → last_of (path_parts piece whole as_it_is x0) ≡ Some s → last_of (bound_parts piece whole as_it_is x) ≡ Some s
last_bound_path x x0 s is h = ap last_of (at-Bound-Path piece whole as_it_is x x0 is) ∙ h

pub first_bound_call : (x : Bound) (path : Path) (opening : Token) (inputs : List (Listed TypeTree)) (closing : Token) (output : Output) (s : Span) → x ≡ bound.Call path opening inputs closing output → first_of (path_parts piece whole as_it_is path) ≡ Some s → first_of (bound_parts piece whole as_it_is x) ≡ Some s
first_bound_call x path opening inputs closing output s is h = ap first_of (at-Bound-Call piece whole as_it_is x path opening inputs closing output is) ∙ front (path_parts piece whole as_it_is path) (piece opening ++ (each (listed_parts piece whole as_it_is (type_tree_parts piece whole as_it_is)) inputs ++ (piece closing ++ output_parts piece whole as_it_is output))) s h

pub last_bound_call : (x : Bound) (path : Path) (opening : Token) (inputs : List (Listed TypeTree)) (closing : Token) (output : Output) (s : Span) → x ≡ bound.Call path opening inputs closing output → last_of (piece closing ++ output_parts piece whole as_it_is output) ≡ Some s → last_of (bound_parts piece whole as_it_is x) ≡ Some s
last_bound_call x path opening inputs closing output s is h = ap last_of (at-Bound-Call piece whole as_it_is x path opening inputs closing output is) ∙ back (path_parts piece whole as_it_is path) (piece opening ++ (each (listed_parts piece whole as_it_is (type_tree_parts piece whole as_it_is)) inputs ++ (piece closing ++ output_parts piece whole as_it_is output))) s (back (piece opening) (each (listed_parts piece whole as_it_is (type_tree_parts piece whole as_it_is)) inputs ++ (piece closing ++ output_parts piece whole as_it_is output)) s (back (each (listed_parts piece whole as_it_is (type_tree_parts piece whole as_it_is)) inputs) (piece closing ++ output_parts piece whole as_it_is output) s (h)))

pub first_path_plain : (x : Path) (x0 : Segments) (s : Span) → x ≡ path.Plain x0 → first_of (segments_parts piece whole as_it_is x0) ≡ Some s → first_of (path_parts piece whole as_it_is x) ≡ Some s
first_path_plain x x0 s is h = ap first_of (at-Path-Plain piece whole as_it_is x x0 is) ∙ h

pub last_path_plain : (x : Path) (x0 : Segments) (s : Span) → x ≡ path.Plain x0 → last_of (segments_parts piece whole as_it_is x0) ≡ Some s → last_of (path_parts piece whole as_it_is x) ≡ Some s
last_path_plain x x0 s is h = ap last_of (at-Path-Plain piece whole as_it_is x x0 is) ∙ h

pub first_path_qualified : (x : Path) (x0 : Qualified) (s : Span) → x ≡ path.Qualified x0 → first_of (qualified_parts piece whole as_it_is x0) ≡ Some s → first_of (path_parts piece whole as_it_is x) ≡ Some s
first_path_qualified x x0 s is h = ap first_of (at-Path-Qualified piece whole as_it_is x x0 is) ∙ h

pub last_path_qualified : (x : Path) (x0 : Qualified) (s : Span) → x ≡ path.Qualified x0 → last_of (qualified_parts piece whole as_it_is x0) ≡ Some s → last_of (path_parts piece whole as_it_is x) ≡ Some s
last_path_qualified x x0 s is h = ap last_of (at-Path-Qualified piece whole as_it_is x x0 is) ∙ h

pub first_path_group : (x : Path) (group : Group) (inner : Path) (s : Span) → x ≡ path.Group group inner → first_of (p.Group group ∷ []) ≡ Some s → first_of (path_parts piece whole as_it_is x) ≡ Some s
first_path_group x group inner s is h = ap first_of (at-Path-Group piece whole as_it_is x group inner is) ∙ h

pub last_path_group : (x : Path) (group : Group) (inner : Path) (s : Span) → x ≡ path.Group group inner → last_of (p.Group group ∷ []) ≡ Some s → last_of (path_parts piece whole as_it_is x) ≡ Some s
last_path_group x group inner s is h = ap last_of (at-Path-Group piece whole as_it_is x group inner is) ∙ h

pub first_type_tree_path : (x : TypeTree) (x0 : Path) (s : Span) → x ≡ type_tree.Path x0 → first_of (path_parts piece whole as_it_is x0) ≡ Some s → first_of (type_tree_parts piece whole as_it_is x) ≡ Some s
first_type_tree_path x x0 s is h = ap first_of (at-TypeTree-Path piece whole as_it_is x x0 is) ∙ h

pub last_type_tree_path : (x : TypeTree) (x0 : Path) (s : Span) → x ≡ type_tree.Path x0 → last_of (path_parts piece whole as_it_is x0) ≡ Some s → last_of (type_tree_parts piece whole as_it_is x) ≡ Some s
last_type_tree_path x x0 s is h = ap last_of (at-TypeTree-Path piece whole as_it_is x x0 is) ∙ h

pub first_type_tree_boxed : (x : TypeTree) (word : Token) (opening : Token) (inner : TypeTree) (closing : Option Token) (s : Span) → x ≡ type_tree.Boxed word opening inner closing → first_of (piece word) ≡ Some s → first_of (type_tree_parts piece whole as_it_is x) ≡ Some s
first_type_tree_boxed x word opening inner closing s is h = ap first_of (at-TypeTree-Boxed piece whole as_it_is x word opening inner closing is) ∙ front (piece word) (piece opening ++ (type_tree_parts piece whole as_it_is inner ++ maybe piece closing)) s h

pub last_type_tree_boxed : (x : TypeTree) (word : Token) (opening : Token) (inner : TypeTree) (closing : Option Token) (s : Span) → x ≡ type_tree.Boxed word opening inner closing → last_of (type_tree_parts piece whole as_it_is inner ++ maybe piece closing) ≡ Some s → last_of (type_tree_parts piece whole as_it_is x) ≡ Some s
last_type_tree_boxed x word opening inner closing s is h = ap last_of (at-TypeTree-Boxed piece whole as_it_is x word opening inner closing is) ∙ back (piece word) (piece opening ++ (type_tree_parts piece whole as_it_is inner ++ maybe piece closing)) s (back (piece opening) (type_tree_parts piece whole as_it_is inner ++ maybe piece closing) s (h))

pub first_type_tree_ref : (x : TypeTree) (amp : Token) (word_mut : Option Token) (inner : TypeTree) (s : Span) → x ≡ type_tree.Ref amp word_mut inner → first_of (piece amp) ≡ Some s → first_of (type_tree_parts piece whole as_it_is x) ≡ Some s
first_type_tree_ref x amp word_mut inner s is h = ap first_of (at-TypeTree-Ref piece whole as_it_is x amp word_mut inner is) ∙ front (piece amp) (maybe piece word_mut ++ type_tree_parts piece whole as_it_is inner) s h

pub last_type_tree_ref : (x : TypeTree) (amp : Token) (word_mut : Option Token) (inner : TypeTree) (s : Span) → x ≡ type_tree.Ref amp word_mut inner → last_of (type_tree_parts piece whole as_it_is inner) ≡ Some s → last_of (type_tree_parts piece whole as_it_is x) ≡ Some s
last_type_tree_ref x amp word_mut inner s is h = ap last_of (at-TypeTree-Ref piece whole as_it_is x amp word_mut inner is) ∙ back (piece amp) (maybe piece word_mut ++ type_tree_parts piece whole as_it_is inner) s (back (maybe piece word_mut) (type_tree_parts piece whole as_it_is inner) s (h))

pub first_type_tree_ref_ref : (x : TypeTree) (amps : Token) (word_mut : Option Token) (inner : TypeTree) (s : Span) → x ≡ type_tree.RefRef amps word_mut inner → first_of (piece amps) ≡ Some s → first_of (type_tree_parts piece whole as_it_is x) ≡ Some s
first_type_tree_ref_ref x amps word_mut inner s is h = ap first_of (at-TypeTree-RefRef piece whole as_it_is x amps word_mut inner is) ∙ front (piece amps) (maybe piece word_mut ++ type_tree_parts piece whole as_it_is inner) s h

pub last_type_tree_ref_ref : (x : TypeTree) (amps : Token) (word_mut : Option Token) (inner : TypeTree) (s : Span) → x ≡ type_tree.RefRef amps word_mut inner → last_of (type_tree_parts piece whole as_it_is inner) ≡ Some s → last_of (type_tree_parts piece whole as_it_is x) ≡ Some s
last_type_tree_ref_ref x amps word_mut inner s is h = ap last_of (at-TypeTree-RefRef piece whole as_it_is x amps word_mut inner is) ∙ back (piece amps) (maybe piece word_mut ++ type_tree_parts piece whole as_it_is inner) s (back (maybe piece word_mut) (type_tree_parts piece whole as_it_is inner) s (h))

pub first_type_tree_array : (x : TypeTree) (opening : Token) (element : TypeTree) (semi : Token) (length : Literal) (closing : Token) (s : Span) → x ≡ type_tree.Array opening element semi length closing → first_of (piece opening) ≡ Some s → first_of (type_tree_parts piece whole as_it_is x) ≡ Some s
first_type_tree_array x opening element semi length closing s is h = ap first_of (at-TypeTree-Array piece whole as_it_is x opening element semi length closing is) ∙ front (piece opening) (type_tree_parts piece whole as_it_is element ++ (piece semi ++ (literal_parts piece whole as_it_is length ++ piece closing))) s h

pub last_type_tree_array : (x : TypeTree) (opening : Token) (element : TypeTree) (semi : Token) (length : Literal) (closing : Token) (s : Span) → x ≡ type_tree.Array opening element semi length closing → last_of (piece closing) ≡ Some s → last_of (type_tree_parts piece whole as_it_is x) ≡ Some s
last_type_tree_array x opening element semi length closing s is h = ap last_of (at-TypeTree-Array piece whole as_it_is x opening element semi length closing is) ∙ back (piece opening) (type_tree_parts piece whole as_it_is element ++ (piece semi ++ (literal_parts piece whole as_it_is length ++ piece closing))) s (back (type_tree_parts piece whole as_it_is element) (piece semi ++ (literal_parts piece whole as_it_is length ++ piece closing)) s (back (piece semi) (literal_parts piece whole as_it_is length ++ piece closing) s (back (literal_parts piece whole as_it_is length) (piece closing) s (h))))

pub first_type_tree_slice : (x : TypeTree) (opening : Token) (element : TypeTree) (closing : Token) (s : Span) → x ≡ type_tree.Slice opening element closing → first_of (piece opening) ≡ Some s → first_of (type_tree_parts piece whole as_it_is x) ≡ Some s
first_type_tree_slice x opening element closing s is h = ap first_of (at-TypeTree-Slice piece whole as_it_is x opening element closing is) ∙ front (piece opening) (type_tree_parts piece whole as_it_is element ++ piece closing) s h

pub last_type_tree_slice : (x : TypeTree) (opening : Token) (element : TypeTree) (closing : Token) (s : Span) → x ≡ type_tree.Slice opening element closing → last_of (piece closing) ≡ Some s → last_of (type_tree_parts piece whole as_it_is x) ≡ Some s
last_type_tree_slice x opening element closing s is h = ap last_of (at-TypeTree-Slice piece whole as_it_is x opening element closing is) ∙ back (piece opening) (type_tree_parts piece whole as_it_is element ++ piece closing) s (back (type_tree_parts piece whole as_it_is element) (piece closing) s (h))

pub first_type_tree_unit : (x : TypeTree) (opening : Token) (closing : Token) (s : Span) → x ≡ type_tree.Unit opening closing → first_of (piece opening) ≡ Some s → first_of (type_tree_parts piece whole as_it_is x) ≡ Some s
first_type_tree_unit x opening closing s is h = ap first_of (at-TypeTree-Unit piece whole as_it_is x opening closing is) ∙ front (piece opening) (piece closing) s h

pub last_type_tree_unit : (x : TypeTree) (opening : Token) (closing : Token) (s : Span) → x ≡ type_tree.Unit opening closing → last_of (piece closing) ≡ Some s → last_of (type_tree_parts piece whole as_it_is x) ≡ Some s
last_type_tree_unit x opening closing s is h = ap last_of (at-TypeTree-Unit piece whole as_it_is x opening closing is) ∙ back (piece opening) (piece closing) s (h)

pub first_type_tree_dyn : (x : TypeTree) (word : Token) (bound : Bound) (s : Span) → x ≡ type_tree.Dyn word bound → first_of (piece word) ≡ Some s → first_of (type_tree_parts piece whole as_it_is x) ≡ Some s
first_type_tree_dyn x word bound s is h = ap first_of (at-TypeTree-Dyn piece whole as_it_is x word bound is) ∙ front (piece word) (bound_parts piece whole as_it_is bound) s h

pub last_type_tree_dyn : (x : TypeTree) (word : Token) (bound : Bound) (s : Span) → x ≡ type_tree.Dyn word bound → last_of (bound_parts piece whole as_it_is bound) ≡ Some s → last_of (type_tree_parts piece whole as_it_is x) ≡ Some s
last_type_tree_dyn x word bound s is h = ap last_of (at-TypeTree-Dyn piece whole as_it_is x word bound is) ∙ back (piece word) (bound_parts piece whole as_it_is bound) s (h)

pub first_type_tree_bare : (x : TypeTree) (x0 : Bound) (s : Span) → x ≡ type_tree.Bare x0 → first_of (bound_parts piece whole as_it_is x0) ≡ Some s → first_of (type_tree_parts piece whole as_it_is x) ≡ Some s
first_type_tree_bare x x0 s is h = ap first_of (at-TypeTree-Bare piece whole as_it_is x x0 is) ∙ h

pub last_type_tree_bare : (x : TypeTree) (x0 : Bound) (s : Span) → x ≡ type_tree.Bare x0 → last_of (bound_parts piece whole as_it_is x0) ≡ Some s → last_of (type_tree_parts piece whole as_it_is x) ≡ Some s
last_type_tree_bare x x0 s is h = ap last_of (at-TypeTree-Bare piece whole as_it_is x x0 is) ∙ h

pub first_type_tree_group : (x : TypeTree) (group : Group) (inner : TypeTree) (s : Span) → x ≡ type_tree.Group group inner → first_of (p.Group group ∷ []) ≡ Some s → first_of (type_tree_parts piece whole as_it_is x) ≡ Some s
first_type_tree_group x group inner s is h = ap first_of (at-TypeTree-Group piece whole as_it_is x group inner is) ∙ h

pub last_type_tree_group : (x : TypeTree) (group : Group) (inner : TypeTree) (s : Span) → x ≡ type_tree.Group group inner → last_of (p.Group group ∷ []) ≡ Some s → last_of (type_tree_parts piece whole as_it_is x) ≡ Some s
last_type_tree_group x group inner s is h = ap last_of (at-TypeTree-Group piece whole as_it_is x group inner is) ∙ h

pub first_qualified : (x : Qualified) (s : Span) → first_of (piece (out-Qualified x).open) ≡ Some s → first_of (qualified_parts piece whole as_it_is x) ≡ Some s
first_qualified x s h = ap first_of (at-Qualified piece whole as_it_is x) ∙ front (piece (out-Qualified x).open) (type_tree_parts piece whole as_it_is (out-Qualified x).self_type ++ (piece (out-Qualified x).word ++ (path_parts piece whole as_it_is (out-Qualified x).of_trait ++ (piece (out-Qualified x).close ++ (piece (out-Qualified x).separator ++ piece (out-Qualified x).name))))) s h

pub last_qualified : (x : Qualified) (s : Span) → last_of (piece (out-Qualified x).name) ≡ Some s → last_of (qualified_parts piece whole as_it_is x) ≡ Some s
last_qualified x s h = ap last_of (at-Qualified piece whole as_it_is x) ∙ back (piece (out-Qualified x).open) (type_tree_parts piece whole as_it_is (out-Qualified x).self_type ++ (piece (out-Qualified x).word ++ (path_parts piece whole as_it_is (out-Qualified x).of_trait ++ (piece (out-Qualified x).close ++ (piece (out-Qualified x).separator ++ piece (out-Qualified x).name))))) s (back (type_tree_parts piece whole as_it_is (out-Qualified x).self_type) (piece (out-Qualified x).word ++ (path_parts piece whole as_it_is (out-Qualified x).of_trait ++ (piece (out-Qualified x).close ++ (piece (out-Qualified x).separator ++ piece (out-Qualified x).name)))) s (back (piece (out-Qualified x).word) (path_parts piece whole as_it_is (out-Qualified x).of_trait ++ (piece (out-Qualified x).close ++ (piece (out-Qualified x).separator ++ piece (out-Qualified x).name))) s (back (path_parts piece whole as_it_is (out-Qualified x).of_trait) (piece (out-Qualified x).close ++ (piece (out-Qualified x).separator ++ piece (out-Qualified x).name)) s (back (piece (out-Qualified x).close) (piece (out-Qualified x).separator ++ piece (out-Qualified x).name) s (back (piece (out-Qualified x).separator) (piece (out-Qualified x).name) s (h))))))

pub first_pat_wild : (x : Pat) (x0 : Token) (s : Span) → x ≡ pat.Wild x0 → first_of (piece x0) ≡ Some s → first_of (pat_parts piece whole as_it_is x) ≡ Some s
first_pat_wild x x0 s is h = ap first_of (at-Pat-Wild piece whole as_it_is x x0 is) ∙ h

pub last_pat_wild : (x : Pat) (x0 : Token) (s : Span) → x ≡ pat.Wild x0 → last_of (piece x0) ≡ Some s → last_of (pat_parts piece whole as_it_is x) ≡ Some s
last_pat_wild x x0 s is h = ap last_of (at-Pat-Wild piece whole as_it_is x x0 is) ∙ h

pub first_pat_name : (x : Pat) (word_ref : Option Token) (word_mut : Option Token) (name : Token) (s : Span) → x ≡ pat.Name word_ref word_mut name → first_of (maybe piece word_ref ++ (maybe piece word_mut ++ piece name)) ≡ Some s → first_of (pat_parts piece whole as_it_is x) ≡ Some s
first_pat_name x word_ref word_mut name s is h = ap first_of (at-Pat-Name piece whole as_it_is x word_ref word_mut name is) ∙ h

pub last_pat_name : (x : Pat) (word_ref : Option Token) (word_mut : Option Token) (name : Token) (s : Span) → x ≡ pat.Name word_ref word_mut name → last_of (piece name) ≡ Some s → last_of (pat_parts piece whole as_it_is x) ≡ Some s
last_pat_name x word_ref word_mut name s is h = ap last_of (at-Pat-Name piece whole as_it_is x word_ref word_mut name is) ∙ back (maybe piece word_ref) (maybe piece word_mut ++ piece name) s (back (maybe piece word_mut) (piece name) s (h))

pub first_pat_literal : (x : Pat) (x0 : Literal) (s : Span) → x ≡ pat.Literal x0 → first_of (literal_parts piece whole as_it_is x0) ≡ Some s → first_of (pat_parts piece whole as_it_is x) ≡ Some s
first_pat_literal x x0 s is h = ap first_of (at-Pat-Literal piece whole as_it_is x x0 is) ∙ h

pub last_pat_literal : (x : Pat) (x0 : Literal) (s : Span) → x ≡ pat.Literal x0 → last_of (literal_parts piece whole as_it_is x0) ≡ Some s → last_of (pat_parts piece whole as_it_is x) ≡ Some s
last_pat_literal x x0 s is h = ap last_of (at-Pat-Literal piece whole as_it_is x x0 is) ∙ h

pub first_pat_range : (x : Pat) (start : Literal) (dots : Token) (end : Literal) (s : Span) → x ≡ pat.Range start dots end → first_of (literal_parts piece whole as_it_is start) ≡ Some s → first_of (pat_parts piece whole as_it_is x) ≡ Some s
first_pat_range x start dots end s is h = ap first_of (at-Pat-Range piece whole as_it_is x start dots end is) ∙ front (literal_parts piece whole as_it_is start) (piece dots ++ literal_parts piece whole as_it_is end) s h

pub last_pat_range : (x : Pat) (start : Literal) (dots : Token) (end : Literal) (s : Span) → x ≡ pat.Range start dots end → last_of (literal_parts piece whole as_it_is end) ≡ Some s → last_of (pat_parts piece whole as_it_is x) ≡ Some s
last_pat_range x start dots end s is h = ap last_of (at-Pat-Range piece whole as_it_is x start dots end is) ∙ back (literal_parts piece whole as_it_is start) (piece dots ++ literal_parts piece whole as_it_is end) s (back (piece dots) (literal_parts piece whole as_it_is end) s (h))

pub first_pat_path : (x : Pat) (x0 : Path) (s : Span) → x ≡ pat.Path x0 → first_of (path_parts piece whole as_it_is x0) ≡ Some s → first_of (pat_parts piece whole as_it_is x) ≡ Some s
first_pat_path x x0 s is h = ap first_of (at-Pat-Path piece whole as_it_is x x0 is) ∙ h

pub last_pat_path : (x : Pat) (x0 : Path) (s : Span) → x ≡ pat.Path x0 → last_of (path_parts piece whole as_it_is x0) ≡ Some s → last_of (pat_parts piece whole as_it_is x) ≡ Some s
last_pat_path x x0 s is h = ap last_of (at-Pat-Path piece whole as_it_is x x0 is) ∙ h

pub first_pat_tuple : (x : Pat) (path : Path) (opening : Token) (fields : List (Listed Pat)) (closing : Token) (s : Span) → x ≡ pat.Tuple path opening fields closing → first_of (path_parts piece whole as_it_is path) ≡ Some s → first_of (pat_parts piece whole as_it_is x) ≡ Some s
first_pat_tuple x path opening fields closing s is h = ap first_of (at-Pat-Tuple piece whole as_it_is x path opening fields closing is) ∙ front (path_parts piece whole as_it_is path) (piece opening ++ (each (listed_parts piece whole as_it_is (pat_parts piece whole as_it_is)) fields ++ piece closing)) s h

pub last_pat_tuple : (x : Pat) (path : Path) (opening : Token) (fields : List (Listed Pat)) (closing : Token) (s : Span) → x ≡ pat.Tuple path opening fields closing → last_of (piece closing) ≡ Some s → last_of (pat_parts piece whole as_it_is x) ≡ Some s
last_pat_tuple x path opening fields closing s is h = ap last_of (at-Pat-Tuple piece whole as_it_is x path opening fields closing is) ∙ back (path_parts piece whole as_it_is path) (piece opening ++ (each (listed_parts piece whole as_it_is (pat_parts piece whole as_it_is)) fields ++ piece closing)) s (back (piece opening) (each (listed_parts piece whole as_it_is (pat_parts piece whole as_it_is)) fields ++ piece closing) s (back (each (listed_parts piece whole as_it_is (pat_parts piece whole as_it_is)) fields) (piece closing) s (h)))

pub first_pat_struct : (x : Pat) (path : Path) (opening : Token) (fields : List (Listed (FieldPat Pat))) (rest : Option Token) (closing : Token) (s : Span) → x ≡ pat.Struct path opening fields rest closing → first_of (path_parts piece whole as_it_is path) ≡ Some s → first_of (pat_parts piece whole as_it_is x) ≡ Some s
first_pat_struct x path opening fields rest closing s is h = ap first_of (at-Pat-Struct piece whole as_it_is x path opening fields rest closing is) ∙ front (path_parts piece whole as_it_is path) (piece opening ++ (each (listed_parts piece whole as_it_is (field_pat_parts piece whole as_it_is (pat_parts piece whole as_it_is))) fields ++ (maybe piece rest ++ piece closing))) s h

pub last_pat_struct : (x : Pat) (path : Path) (opening : Token) (fields : List (Listed (FieldPat Pat))) (rest : Option Token) (closing : Token) (s : Span) → x ≡ pat.Struct path opening fields rest closing → last_of (piece closing) ≡ Some s → last_of (pat_parts piece whole as_it_is x) ≡ Some s
last_pat_struct x path opening fields rest closing s is h = ap last_of (at-Pat-Struct piece whole as_it_is x path opening fields rest closing is) ∙ back (path_parts piece whole as_it_is path) (piece opening ++ (each (listed_parts piece whole as_it_is (field_pat_parts piece whole as_it_is (pat_parts piece whole as_it_is))) fields ++ (maybe piece rest ++ piece closing))) s (back (piece opening) (each (listed_parts piece whole as_it_is (field_pat_parts piece whole as_it_is (pat_parts piece whole as_it_is))) fields ++ (maybe piece rest ++ piece closing)) s (back (each (listed_parts piece whole as_it_is (field_pat_parts piece whole as_it_is (pat_parts piece whole as_it_is))) fields) (maybe piece rest ++ piece closing) s (back (maybe piece rest) (piece closing) s (h))))

pub first_pat_group : (x : Pat) (group : Group) (inner : Pat) (s : Span) → x ≡ pat.Group group inner → first_of (p.Group group ∷ []) ≡ Some s → first_of (pat_parts piece whole as_it_is x) ≡ Some s
first_pat_group x group inner s is h = ap first_of (at-Pat-Group piece whole as_it_is x group inner is) ∙ h

pub last_pat_group : (x : Pat) (group : Group) (inner : Pat) (s : Span) → x ≡ pat.Group group inner → last_of (p.Group group ∷ []) ≡ Some s → last_of (pat_parts piece whole as_it_is x) ≡ Some s
last_pat_group x group inner s is h = ap last_of (at-Pat-Group piece whole as_it_is x group inner is) ∙ h

pub first_expr_literal : (x : Expr) (x0 : Token) (s : Span) → x ≡ expr.Literal x0 → first_of (piece x0) ≡ Some s → first_of (expr_parts piece whole as_it_is x) ≡ Some s
first_expr_literal x x0 s is h = ap first_of (at-Expr-Literal piece whole as_it_is x x0 is) ∙ h

pub last_expr_literal : (x : Expr) (x0 : Token) (s : Span) → x ≡ expr.Literal x0 → last_of (piece x0) ≡ Some s → last_of (expr_parts piece whole as_it_is x) ≡ Some s
last_expr_literal x x0 s is h = ap last_of (at-Expr-Literal piece whole as_it_is x x0 is) ∙ h

pub first_expr_path : (x : Expr) (x0 : Path) (s : Span) → x ≡ expr.Path x0 → first_of (path_parts piece whole as_it_is x0) ≡ Some s → first_of (expr_parts piece whole as_it_is x) ≡ Some s
first_expr_path x x0 s is h = ap first_of (at-Expr-Path piece whole as_it_is x x0 is) ∙ h

pub last_expr_path : (x : Expr) (x0 : Path) (s : Span) → x ≡ expr.Path x0 → last_of (path_parts piece whole as_it_is x0) ≡ Some s → last_of (expr_parts piece whole as_it_is x) ≡ Some s
last_expr_path x x0 s is h = ap last_of (at-Expr-Path piece whole as_it_is x x0 is) ∙ h

pub first_expr_struct : (x : Expr) (path : Path) (opening : Token) (fields : List (Listed (FieldExpr Expr))) (closing : Token) (s : Span) → x ≡ expr.Struct path opening fields closing → first_of (path_parts piece whole as_it_is path) ≡ Some s → first_of (expr_parts piece whole as_it_is x) ≡ Some s
first_expr_struct x path opening fields closing s is h = ap first_of (at-Expr-Struct piece whole as_it_is x path opening fields closing is) ∙ front (path_parts piece whole as_it_is path) (piece opening ++ (each (listed_parts piece whole as_it_is (field_expr_parts piece whole as_it_is (expr_parts piece whole as_it_is))) fields ++ piece closing)) s h

pub last_expr_struct : (x : Expr) (path : Path) (opening : Token) (fields : List (Listed (FieldExpr Expr))) (closing : Token) (s : Span) → x ≡ expr.Struct path opening fields closing → last_of (piece closing) ≡ Some s → last_of (expr_parts piece whole as_it_is x) ≡ Some s
last_expr_struct x path opening fields closing s is h = ap last_of (at-Expr-Struct piece whole as_it_is x path opening fields closing is) ∙ back (path_parts piece whole as_it_is path) (piece opening ++ (each (listed_parts piece whole as_it_is (field_expr_parts piece whole as_it_is (expr_parts piece whole as_it_is))) fields ++ piece closing)) s (back (piece opening) (each (listed_parts piece whole as_it_is (field_expr_parts piece whole as_it_is (expr_parts piece whole as_it_is))) fields ++ piece closing) s (back (each (listed_parts piece whole as_it_is (field_expr_parts piece whole as_it_is (expr_parts piece whole as_it_is))) fields) (piece closing) s (h)))

pub first_expr_paren : (x : Expr) (opening : Token) (inner : Expr) (closing : Token) (s : Span) → x ≡ expr.Paren opening inner closing → first_of (piece opening) ≡ Some s → first_of (expr_parts piece whole as_it_is x) ≡ Some s
first_expr_paren x opening inner closing s is h = ap first_of (at-Expr-Paren piece whole as_it_is x opening inner closing is) ∙ front (piece opening) (expr_parts piece whole as_it_is inner ++ piece closing) s h

pub last_expr_paren : (x : Expr) (opening : Token) (inner : Expr) (closing : Token) (s : Span) → x ≡ expr.Paren opening inner closing → last_of (piece closing) ≡ Some s → last_of (expr_parts piece whole as_it_is x) ≡ Some s
last_expr_paren x opening inner closing s is h = ap last_of (at-Expr-Paren piece whole as_it_is x opening inner closing is) ∙ back (piece opening) (expr_parts piece whole as_it_is inner ++ piece closing) s (back (expr_parts piece whole as_it_is inner) (piece closing) s (h))

pub first_expr_array : (x : Expr) (opening : Token) (elements : List (Listed Expr)) (closing : Token) (s : Span) → x ≡ expr.Array opening elements closing → first_of (piece opening) ≡ Some s → first_of (expr_parts piece whole as_it_is x) ≡ Some s
first_expr_array x opening elements closing s is h = ap first_of (at-Expr-Array piece whole as_it_is x opening elements closing is) ∙ front (piece opening) (each (listed_parts piece whole as_it_is (expr_parts piece whole as_it_is)) elements ++ piece closing) s h

pub last_expr_array : (x : Expr) (opening : Token) (elements : List (Listed Expr)) (closing : Token) (s : Span) → x ≡ expr.Array opening elements closing → last_of (piece closing) ≡ Some s → last_of (expr_parts piece whole as_it_is x) ≡ Some s
last_expr_array x opening elements closing s is h = ap last_of (at-Expr-Array piece whole as_it_is x opening elements closing is) ∙ back (piece opening) (each (listed_parts piece whole as_it_is (expr_parts piece whole as_it_is)) elements ++ piece closing) s (back (each (listed_parts piece whole as_it_is (expr_parts piece whole as_it_is)) elements) (piece closing) s (h))

pub first_expr_repeat : (x : Expr) (opening : Token) (element : Expr) (semi : Token) (length : Literal) (closing : Token) (s : Span) → x ≡ expr.Repeat opening element semi length closing → first_of (piece opening) ≡ Some s → first_of (expr_parts piece whole as_it_is x) ≡ Some s
first_expr_repeat x opening element semi length closing s is h = ap first_of (at-Expr-Repeat piece whole as_it_is x opening element semi length closing is) ∙ front (piece opening) (expr_parts piece whole as_it_is element ++ (piece semi ++ (literal_parts piece whole as_it_is length ++ piece closing))) s h

pub last_expr_repeat : (x : Expr) (opening : Token) (element : Expr) (semi : Token) (length : Literal) (closing : Token) (s : Span) → x ≡ expr.Repeat opening element semi length closing → last_of (piece closing) ≡ Some s → last_of (expr_parts piece whole as_it_is x) ≡ Some s
last_expr_repeat x opening element semi length closing s is h = ap last_of (at-Expr-Repeat piece whole as_it_is x opening element semi length closing is) ∙ back (piece opening) (expr_parts piece whole as_it_is element ++ (piece semi ++ (literal_parts piece whole as_it_is length ++ piece closing))) s (back (expr_parts piece whole as_it_is element) (piece semi ++ (literal_parts piece whole as_it_is length ++ piece closing)) s (back (piece semi) (literal_parts piece whole as_it_is length ++ piece closing) s (back (literal_parts piece whole as_it_is length) (piece closing) s (h))))

pub first_expr_block : (x : Expr) (x0 : Block Body) (s : Span) → x ≡ expr.Block x0 → first_of (block_parts piece whole as_it_is (body_parts piece whole as_it_is) x0) ≡ Some s → first_of (expr_parts piece whole as_it_is x) ≡ Some s
first_expr_block x x0 s is h = ap first_of (at-Expr-Block piece whole as_it_is x x0 is) ∙ h

pub last_expr_block : (x : Expr) (x0 : Block Body) (s : Span) → x ≡ expr.Block x0 → last_of (block_parts piece whole as_it_is (body_parts piece whole as_it_is) x0) ≡ Some s → last_of (expr_parts piece whole as_it_is x) ≡ Some s
last_expr_block x x0 s is h = ap last_of (at-Expr-Block piece whole as_it_is x x0 is) ∙ h

pub first_expr_if : (x : Expr) (word : Token) (condition : Condition Expr) (then : Block Body) (branches : List ElseIf) (word_else : Option Token) (otherwise : Option (Block Body)) (s : Span) → x ≡ expr.If word condition then branches word_else otherwise → first_of (piece word) ≡ Some s → first_of (expr_parts piece whole as_it_is x) ≡ Some s
first_expr_if x word condition then branches word_else otherwise s is h = ap first_of (at-Expr-If piece whole as_it_is x word condition then branches word_else otherwise is) ∙ front (piece word) (condition_parts piece whole as_it_is (expr_parts piece whole as_it_is) condition ++ (block_parts piece whole as_it_is (body_parts piece whole as_it_is) then ++ (each (else_if_parts piece whole as_it_is) branches ++ (maybe piece word_else ++ maybe (block_parts piece whole as_it_is (body_parts piece whole as_it_is)) otherwise)))) s h

pub first_expr_match : (x : Expr) (word : Token) (scrutinee : Expr) (opening : Token) (arms : List (Arm Expr)) (closing : Token) (s : Span) → x ≡ expr.Match word scrutinee opening arms closing → first_of (piece word) ≡ Some s → first_of (expr_parts piece whole as_it_is x) ≡ Some s
first_expr_match x word scrutinee opening arms closing s is h = ap first_of (at-Expr-Match piece whole as_it_is x word scrutinee opening arms closing is) ∙ front (piece word) (expr_parts piece whole as_it_is scrutinee ++ (piece opening ++ (each (arm_parts piece whole as_it_is (expr_parts piece whole as_it_is)) arms ++ piece closing))) s h

pub last_expr_match : (x : Expr) (word : Token) (scrutinee : Expr) (opening : Token) (arms : List (Arm Expr)) (closing : Token) (s : Span) → x ≡ expr.Match word scrutinee opening arms closing → last_of (piece closing) ≡ Some s → last_of (expr_parts piece whole as_it_is x) ≡ Some s
last_expr_match x word scrutinee opening arms closing s is h = ap last_of (at-Expr-Match piece whole as_it_is x word scrutinee opening arms closing is) ∙ back (piece word) (expr_parts piece whole as_it_is scrutinee ++ (piece opening ++ (each (arm_parts piece whole as_it_is (expr_parts piece whole as_it_is)) arms ++ piece closing))) s (back (expr_parts piece whole as_it_is scrutinee) (piece opening ++ (each (arm_parts piece whole as_it_is (expr_parts piece whole as_it_is)) arms ++ piece closing)) s (back (piece opening) (each (arm_parts piece whole as_it_is (expr_parts piece whole as_it_is)) arms ++ piece closing) s (back (each (arm_parts piece whole as_it_is (expr_parts piece whole as_it_is)) arms) (piece closing) s (h))))

pub first_expr_while : (x : Expr) (word : Token) (condition : Expr) (body : Block Body) (s : Span) → x ≡ expr.While word condition body → first_of (piece word) ≡ Some s → first_of (expr_parts piece whole as_it_is x) ≡ Some s
first_expr_while x word condition body s is h = ap first_of (at-Expr-While piece whole as_it_is x word condition body is) ∙ front (piece word) (expr_parts piece whole as_it_is condition ++ block_parts piece whole as_it_is (body_parts piece whole as_it_is) body) s h

pub last_expr_while : (x : Expr) (word : Token) (condition : Expr) (body : Block Body) (s : Span) → x ≡ expr.While word condition body → last_of (block_parts piece whole as_it_is (body_parts piece whole as_it_is) body) ≡ Some s → last_of (expr_parts piece whole as_it_is x) ≡ Some s
last_expr_while x word condition body s is h = ap last_of (at-Expr-While piece whole as_it_is x word condition body is) ∙ back (piece word) (expr_parts piece whole as_it_is condition ++ block_parts piece whole as_it_is (body_parts piece whole as_it_is) body) s (back (expr_parts piece whole as_it_is condition) (block_parts piece whole as_it_is (body_parts piece whole as_it_is) body) s (h))

pub first_expr_loop : (x : Expr) (word : Token) (body : Block Body) (s : Span) → x ≡ expr.Loop word body → first_of (piece word) ≡ Some s → first_of (expr_parts piece whole as_it_is x) ≡ Some s
first_expr_loop x word body s is h = ap first_of (at-Expr-Loop piece whole as_it_is x word body is) ∙ front (piece word) (block_parts piece whole as_it_is (body_parts piece whole as_it_is) body) s h

pub last_expr_loop : (x : Expr) (word : Token) (body : Block Body) (s : Span) → x ≡ expr.Loop word body → last_of (block_parts piece whole as_it_is (body_parts piece whole as_it_is) body) ≡ Some s → last_of (expr_parts piece whole as_it_is x) ≡ Some s
last_expr_loop x word body s is h = ap last_of (at-Expr-Loop piece whole as_it_is x word body is) ∙ back (piece word) (block_parts piece whole as_it_is (body_parts piece whole as_it_is) body) s (h)

pub first_expr_for : (x : Expr) (word : Token) (pat : Pat) (word_in : Token) (head : Expr) (dots : Option Token) (end : Option Expr) (body : Block Body) (s : Span) → x ≡ expr.For word pat word_in head dots end body → first_of (piece word) ≡ Some s → first_of (expr_parts piece whole as_it_is x) ≡ Some s
first_expr_for x word pat word_in head dots end body s is h = ap first_of (at-Expr-For piece whole as_it_is x word pat word_in head dots end body is) ∙ front (piece word) (pat_parts piece whole as_it_is pat ++ (piece word_in ++ (expr_parts piece whole as_it_is head ++ (maybe piece dots ++ (maybe (expr_parts piece whole as_it_is) end ++ block_parts piece whole as_it_is (body_parts piece whole as_it_is) body))))) s h

pub last_expr_for : (x : Expr) (word : Token) (pat : Pat) (word_in : Token) (head : Expr) (dots : Option Token) (end : Option Expr) (body : Block Body) (s : Span) → x ≡ expr.For word pat word_in head dots end body → last_of (block_parts piece whole as_it_is (body_parts piece whole as_it_is) body) ≡ Some s → last_of (expr_parts piece whole as_it_is x) ≡ Some s
last_expr_for x word pat word_in head dots end body s is h = ap last_of (at-Expr-For piece whole as_it_is x word pat word_in head dots end body is) ∙ back (piece word) (pat_parts piece whole as_it_is pat ++ (piece word_in ++ (expr_parts piece whole as_it_is head ++ (maybe piece dots ++ (maybe (expr_parts piece whole as_it_is) end ++ block_parts piece whole as_it_is (body_parts piece whole as_it_is) body))))) s (back (pat_parts piece whole as_it_is pat) (piece word_in ++ (expr_parts piece whole as_it_is head ++ (maybe piece dots ++ (maybe (expr_parts piece whole as_it_is) end ++ block_parts piece whole as_it_is (body_parts piece whole as_it_is) body)))) s (back (piece word_in) (expr_parts piece whole as_it_is head ++ (maybe piece dots ++ (maybe (expr_parts piece whole as_it_is) end ++ block_parts piece whole as_it_is (body_parts piece whole as_it_is) body))) s (back (expr_parts piece whole as_it_is head) (maybe piece dots ++ (maybe (expr_parts piece whole as_it_is) end ++ block_parts piece whole as_it_is (body_parts piece whole as_it_is) body)) s (back (maybe piece dots) (maybe (expr_parts piece whole as_it_is) end ++ block_parts piece whole as_it_is (body_parts piece whole as_it_is) body) s (back (maybe (expr_parts piece whole as_it_is) end) (block_parts piece whole as_it_is (body_parts piece whole as_it_is) body) s (h))))))

pub first_expr_closure : (x : Expr) (word_move : Option Token) (head : ClosureHead) (body : Expr) (s : Span) → x ≡ expr.Closure word_move head body → first_of (maybe piece word_move ++ (closure_head_parts piece whole as_it_is head ++ expr_parts piece whole as_it_is body)) ≡ Some s → first_of (expr_parts piece whole as_it_is x) ≡ Some s
first_expr_closure x word_move head body s is h = ap first_of (at-Expr-Closure piece whole as_it_is x word_move head body is) ∙ h

pub last_expr_closure : (x : Expr) (word_move : Option Token) (head : ClosureHead) (body : Expr) (s : Span) → x ≡ expr.Closure word_move head body → last_of (expr_parts piece whole as_it_is body) ≡ Some s → last_of (expr_parts piece whole as_it_is x) ≡ Some s
last_expr_closure x word_move head body s is h = ap last_of (at-Expr-Closure piece whole as_it_is x word_move head body is) ∙ back (maybe piece word_move) (closure_head_parts piece whole as_it_is head ++ expr_parts piece whole as_it_is body) s (back (closure_head_parts piece whole as_it_is head) (expr_parts piece whole as_it_is body) s (h))

pub first_expr_closure_to : (x : Expr) (word_move : Option Token) (head : ClosureHead) (arrow : Token) (output : TypeTree) (body : Block Body) (s : Span) → x ≡ expr.ClosureTo word_move head arrow output body → first_of (maybe piece word_move ++ (closure_head_parts piece whole as_it_is head ++ (piece arrow ++ (type_tree_parts piece whole as_it_is output ++ block_parts piece whole as_it_is (body_parts piece whole as_it_is) body)))) ≡ Some s → first_of (expr_parts piece whole as_it_is x) ≡ Some s
first_expr_closure_to x word_move head arrow output body s is h = ap first_of (at-Expr-ClosureTo piece whole as_it_is x word_move head arrow output body is) ∙ h

pub last_expr_closure_to : (x : Expr) (word_move : Option Token) (head : ClosureHead) (arrow : Token) (output : TypeTree) (body : Block Body) (s : Span) → x ≡ expr.ClosureTo word_move head arrow output body → last_of (block_parts piece whole as_it_is (body_parts piece whole as_it_is) body) ≡ Some s → last_of (expr_parts piece whole as_it_is x) ≡ Some s
last_expr_closure_to x word_move head arrow output body s is h = ap last_of (at-Expr-ClosureTo piece whole as_it_is x word_move head arrow output body is) ∙ back (maybe piece word_move) (closure_head_parts piece whole as_it_is head ++ (piece arrow ++ (type_tree_parts piece whole as_it_is output ++ block_parts piece whole as_it_is (body_parts piece whole as_it_is) body))) s (back (closure_head_parts piece whole as_it_is head) (piece arrow ++ (type_tree_parts piece whole as_it_is output ++ block_parts piece whole as_it_is (body_parts piece whole as_it_is) body)) s (back (piece arrow) (type_tree_parts piece whole as_it_is output ++ block_parts piece whole as_it_is (body_parts piece whole as_it_is) body) s (back (type_tree_parts piece whole as_it_is output) (block_parts piece whole as_it_is (body_parts piece whole as_it_is) body) s (h))))

pub first_expr_macro : (x : Expr) (x0 : MacroCall) (s : Span) → x ≡ expr.Macro x0 → first_of (macro_call_parts piece whole as_it_is x0) ≡ Some s → first_of (expr_parts piece whole as_it_is x) ≡ Some s
first_expr_macro x x0 s is h = ap first_of (at-Expr-Macro piece whole as_it_is x x0 is) ∙ h

pub last_expr_macro : (x : Expr) (x0 : MacroCall) (s : Span) → x ≡ expr.Macro x0 → last_of (macro_call_parts piece whole as_it_is x0) ≡ Some s → last_of (expr_parts piece whole as_it_is x) ≡ Some s
last_expr_macro x x0 s is h = ap last_of (at-Expr-Macro piece whole as_it_is x x0 is) ∙ h

pub first_expr_return : (x : Expr) (word : Token) (value : Option Expr) (s : Span) → x ≡ expr.Return word value → first_of (piece word) ≡ Some s → first_of (expr_parts piece whole as_it_is x) ≡ Some s
first_expr_return x word value s is h = ap first_of (at-Expr-Return piece whole as_it_is x word value is) ∙ front (piece word) (maybe (expr_parts piece whole as_it_is) value) s h

pub last_expr_return : (x : Expr) (word : Token) (value : Option Expr) (s : Span) → x ≡ expr.Return word value → last_of (piece word ++ maybe (expr_parts piece whole as_it_is) value) ≡ Some s → last_of (expr_parts piece whole as_it_is x) ≡ Some s
last_expr_return x word value s is h = ap last_of (at-Expr-Return piece whole as_it_is x word value is) ∙ h

pub first_expr_break : (x : Expr) (x0 : Token) (s : Span) → x ≡ expr.Break x0 → first_of (piece x0) ≡ Some s → first_of (expr_parts piece whole as_it_is x) ≡ Some s
first_expr_break x x0 s is h = ap first_of (at-Expr-Break piece whole as_it_is x x0 is) ∙ h

pub last_expr_break : (x : Expr) (x0 : Token) (s : Span) → x ≡ expr.Break x0 → last_of (piece x0) ≡ Some s → last_of (expr_parts piece whole as_it_is x) ≡ Some s
last_expr_break x x0 s is h = ap last_of (at-Expr-Break piece whole as_it_is x x0 is) ∙ h

pub first_expr_continue : (x : Expr) (x0 : Token) (s : Span) → x ≡ expr.Continue x0 → first_of (piece x0) ≡ Some s → first_of (expr_parts piece whole as_it_is x) ≡ Some s
first_expr_continue x x0 s is h = ap first_of (at-Expr-Continue piece whole as_it_is x x0 is) ∙ h

pub last_expr_continue : (x : Expr) (x0 : Token) (s : Span) → x ≡ expr.Continue x0 → last_of (piece x0) ≡ Some s → last_of (expr_parts piece whole as_it_is x) ≡ Some s
last_expr_continue x x0 s is h = ap last_of (at-Expr-Continue piece whole as_it_is x x0 is) ∙ h

pub first_expr_method_call : (x : Expr) (receiver : Expr) (dot : Token) (name : Token) (opening : Token) (arguments : List (Listed Expr)) (closing : Token) (s : Span) → x ≡ expr.MethodCall receiver dot name opening arguments closing → first_of (expr_parts piece whole as_it_is receiver) ≡ Some s → first_of (expr_parts piece whole as_it_is x) ≡ Some s
first_expr_method_call x receiver dot name opening arguments closing s is h = ap first_of (at-Expr-MethodCall piece whole as_it_is x receiver dot name opening arguments closing is) ∙ front (expr_parts piece whole as_it_is receiver) (piece dot ++ (piece name ++ (piece opening ++ (each (listed_parts piece whole as_it_is (expr_parts piece whole as_it_is)) arguments ++ piece closing)))) s h

pub last_expr_method_call : (x : Expr) (receiver : Expr) (dot : Token) (name : Token) (opening : Token) (arguments : List (Listed Expr)) (closing : Token) (s : Span) → x ≡ expr.MethodCall receiver dot name opening arguments closing → last_of (piece closing) ≡ Some s → last_of (expr_parts piece whole as_it_is x) ≡ Some s
last_expr_method_call x receiver dot name opening arguments closing s is h = ap last_of (at-Expr-MethodCall piece whole as_it_is x receiver dot name opening arguments closing is) ∙ back (expr_parts piece whole as_it_is receiver) (piece dot ++ (piece name ++ (piece opening ++ (each (listed_parts piece whole as_it_is (expr_parts piece whole as_it_is)) arguments ++ piece closing)))) s (back (piece dot) (piece name ++ (piece opening ++ (each (listed_parts piece whole as_it_is (expr_parts piece whole as_it_is)) arguments ++ piece closing))) s (back (piece name) (piece opening ++ (each (listed_parts piece whole as_it_is (expr_parts piece whole as_it_is)) arguments ++ piece closing)) s (back (piece opening) (each (listed_parts piece whole as_it_is (expr_parts piece whole as_it_is)) arguments ++ piece closing) s (back (each (listed_parts piece whole as_it_is (expr_parts piece whole as_it_is)) arguments) (piece closing) s (h)))))

pub first_expr_call : (x : Expr) (callee : Expr) (opening : Token) (arguments : List (Listed Expr)) (closing : Token) (s : Span) → x ≡ expr.Call callee opening arguments closing → first_of (expr_parts piece whole as_it_is callee) ≡ Some s → first_of (expr_parts piece whole as_it_is x) ≡ Some s
first_expr_call x callee opening arguments closing s is h = ap first_of (at-Expr-Call piece whole as_it_is x callee opening arguments closing is) ∙ front (expr_parts piece whole as_it_is callee) (piece opening ++ (each (listed_parts piece whole as_it_is (expr_parts piece whole as_it_is)) arguments ++ piece closing)) s h

pub last_expr_call : (x : Expr) (callee : Expr) (opening : Token) (arguments : List (Listed Expr)) (closing : Token) (s : Span) → x ≡ expr.Call callee opening arguments closing → last_of (piece closing) ≡ Some s → last_of (expr_parts piece whole as_it_is x) ≡ Some s
last_expr_call x callee opening arguments closing s is h = ap last_of (at-Expr-Call piece whole as_it_is x callee opening arguments closing is) ∙ back (expr_parts piece whole as_it_is callee) (piece opening ++ (each (listed_parts piece whole as_it_is (expr_parts piece whole as_it_is)) arguments ++ piece closing)) s (back (piece opening) (each (listed_parts piece whole as_it_is (expr_parts piece whole as_it_is)) arguments ++ piece closing) s (back (each (listed_parts piece whole as_it_is (expr_parts piece whole as_it_is)) arguments) (piece closing) s (h)))

pub first_expr_field : (x : Expr) (base : Expr) (dot : Token) (name : Token) (s : Span) → x ≡ expr.Field base dot name → first_of (expr_parts piece whole as_it_is base) ≡ Some s → first_of (expr_parts piece whole as_it_is x) ≡ Some s
first_expr_field x base dot name s is h = ap first_of (at-Expr-Field piece whole as_it_is x base dot name is) ∙ front (expr_parts piece whole as_it_is base) (piece dot ++ piece name) s h

pub last_expr_field : (x : Expr) (base : Expr) (dot : Token) (name : Token) (s : Span) → x ≡ expr.Field base dot name → last_of (piece name) ≡ Some s → last_of (expr_parts piece whole as_it_is x) ≡ Some s
last_expr_field x base dot name s is h = ap last_of (at-Expr-Field piece whole as_it_is x base dot name is) ∙ back (expr_parts piece whole as_it_is base) (piece dot ++ piece name) s (back (piece dot) (piece name) s (h))

pub first_expr_place : (x : Expr) (base : Expr) (dot : Token) (number : Literal) (s : Span) → x ≡ expr.Place base dot number → first_of (expr_parts piece whole as_it_is base) ≡ Some s → first_of (expr_parts piece whole as_it_is x) ≡ Some s
first_expr_place x base dot number s is h = ap first_of (at-Expr-Place piece whole as_it_is x base dot number is) ∙ front (expr_parts piece whole as_it_is base) (piece dot ++ literal_parts piece whole as_it_is number) s h

pub last_expr_place : (x : Expr) (base : Expr) (dot : Token) (number : Literal) (s : Span) → x ≡ expr.Place base dot number → last_of (literal_parts piece whole as_it_is number) ≡ Some s → last_of (expr_parts piece whole as_it_is x) ≡ Some s
last_expr_place x base dot number s is h = ap last_of (at-Expr-Place piece whole as_it_is x base dot number is) ∙ back (expr_parts piece whole as_it_is base) (piece dot ++ literal_parts piece whole as_it_is number) s (back (piece dot) (literal_parts piece whole as_it_is number) s (h))

pub first_expr_index : (x : Expr) (base : Expr) (opening : Token) (index : Expr) (closing : Token) (s : Span) → x ≡ expr.Index base opening index closing → first_of (expr_parts piece whole as_it_is base) ≡ Some s → first_of (expr_parts piece whole as_it_is x) ≡ Some s
first_expr_index x base opening index closing s is h = ap first_of (at-Expr-Index piece whole as_it_is x base opening index closing is) ∙ front (expr_parts piece whole as_it_is base) (piece opening ++ (expr_parts piece whole as_it_is index ++ piece closing)) s h

pub last_expr_index : (x : Expr) (base : Expr) (opening : Token) (index : Expr) (closing : Token) (s : Span) → x ≡ expr.Index base opening index closing → last_of (piece closing) ≡ Some s → last_of (expr_parts piece whole as_it_is x) ≡ Some s
last_expr_index x base opening index closing s is h = ap last_of (at-Expr-Index piece whole as_it_is x base opening index closing is) ∙ back (expr_parts piece whole as_it_is base) (piece opening ++ (expr_parts piece whole as_it_is index ++ piece closing)) s (back (piece opening) (expr_parts piece whole as_it_is index ++ piece closing) s (back (expr_parts piece whole as_it_is index) (piece closing) s (h)))

pub first_expr_unary : (x : Expr) (operator : Token) (operand : Expr) (s : Span) → x ≡ expr.Unary operator operand → first_of (piece operator) ≡ Some s → first_of (expr_parts piece whole as_it_is x) ≡ Some s
first_expr_unary x operator operand s is h = ap first_of (at-Expr-Unary piece whole as_it_is x operator operand is) ∙ front (piece operator) (expr_parts piece whole as_it_is operand) s h

pub last_expr_unary : (x : Expr) (operator : Token) (operand : Expr) (s : Span) → x ≡ expr.Unary operator operand → last_of (expr_parts piece whole as_it_is operand) ≡ Some s → last_of (expr_parts piece whole as_it_is x) ≡ Some s
last_expr_unary x operator operand s is h = ap last_of (at-Expr-Unary piece whole as_it_is x operator operand is) ∙ back (piece operator) (expr_parts piece whole as_it_is operand) s (h)

pub first_expr_ref : (x : Expr) (amp : Token) (word_mut : Option Token) (operand : Expr) (s : Span) → x ≡ expr.Ref amp word_mut operand → first_of (piece amp) ≡ Some s → first_of (expr_parts piece whole as_it_is x) ≡ Some s
first_expr_ref x amp word_mut operand s is h = ap first_of (at-Expr-Ref piece whole as_it_is x amp word_mut operand is) ∙ front (piece amp) (maybe piece word_mut ++ expr_parts piece whole as_it_is operand) s h

pub last_expr_ref : (x : Expr) (amp : Token) (word_mut : Option Token) (operand : Expr) (s : Span) → x ≡ expr.Ref amp word_mut operand → last_of (expr_parts piece whole as_it_is operand) ≡ Some s → last_of (expr_parts piece whole as_it_is x) ≡ Some s
last_expr_ref x amp word_mut operand s is h = ap last_of (at-Expr-Ref piece whole as_it_is x amp word_mut operand is) ∙ back (piece amp) (maybe piece word_mut ++ expr_parts piece whole as_it_is operand) s (back (maybe piece word_mut) (expr_parts piece whole as_it_is operand) s (h))

pub first_expr_ref_ref : (x : Expr) (amps : Token) (word_mut : Option Token) (operand : Expr) (s : Span) → x ≡ expr.RefRef amps word_mut operand → first_of (piece amps) ≡ Some s → first_of (expr_parts piece whole as_it_is x) ≡ Some s
first_expr_ref_ref x amps word_mut operand s is h = ap first_of (at-Expr-RefRef piece whole as_it_is x amps word_mut operand is) ∙ front (piece amps) (maybe piece word_mut ++ expr_parts piece whole as_it_is operand) s h

pub last_expr_ref_ref : (x : Expr) (amps : Token) (word_mut : Option Token) (operand : Expr) (s : Span) → x ≡ expr.RefRef amps word_mut operand → last_of (expr_parts piece whole as_it_is operand) ≡ Some s → last_of (expr_parts piece whole as_it_is x) ≡ Some s
last_expr_ref_ref x amps word_mut operand s is h = ap last_of (at-Expr-RefRef piece whole as_it_is x amps word_mut operand is) ∙ back (piece amps) (maybe piece word_mut ++ expr_parts piece whole as_it_is operand) s (back (maybe piece word_mut) (expr_parts piece whole as_it_is operand) s (h))

pub first_expr_binary : (x : Expr) (left : Expr) (operator : Token) (right : Expr) (s : Span) → x ≡ expr.Binary left operator right → first_of (expr_parts piece whole as_it_is left) ≡ Some s → first_of (expr_parts piece whole as_it_is x) ≡ Some s
first_expr_binary x left operator right s is h = ap first_of (at-Expr-Binary piece whole as_it_is x left operator right is) ∙ front (expr_parts piece whole as_it_is left) (piece operator ++ expr_parts piece whole as_it_is right) s h

pub last_expr_binary : (x : Expr) (left : Expr) (operator : Token) (right : Expr) (s : Span) → x ≡ expr.Binary left operator right → last_of (expr_parts piece whole as_it_is right) ≡ Some s → last_of (expr_parts piece whole as_it_is x) ≡ Some s
last_expr_binary x left operator right s is h = ap last_of (at-Expr-Binary piece whole as_it_is x left operator right is) ∙ back (expr_parts piece whole as_it_is left) (piece operator ++ expr_parts piece whole as_it_is right) s (back (piece operator) (expr_parts piece whole as_it_is right) s (h))

pub first_expr_assign : (x : Expr) (left : Expr) (operator : Token) (right : Expr) (s : Span) → x ≡ expr.Assign left operator right → first_of (expr_parts piece whole as_it_is left) ≡ Some s → first_of (expr_parts piece whole as_it_is x) ≡ Some s
first_expr_assign x left operator right s is h = ap first_of (at-Expr-Assign piece whole as_it_is x left operator right is) ∙ front (expr_parts piece whole as_it_is left) (piece operator ++ expr_parts piece whole as_it_is right) s h

pub last_expr_assign : (x : Expr) (left : Expr) (operator : Token) (right : Expr) (s : Span) → x ≡ expr.Assign left operator right → last_of (expr_parts piece whole as_it_is right) ≡ Some s → last_of (expr_parts piece whole as_it_is x) ≡ Some s
last_expr_assign x left operator right s is h = ap last_of (at-Expr-Assign piece whole as_it_is x left operator right is) ∙ back (expr_parts piece whole as_it_is left) (piece operator ++ expr_parts piece whole as_it_is right) s (back (piece operator) (expr_parts piece whole as_it_is right) s (h))

pub first_expr_group : (x : Expr) (group : Group) (inner : Expr) (s : Span) → x ≡ expr.Group group inner → first_of (p.Group group ∷ []) ≡ Some s → first_of (expr_parts piece whole as_it_is x) ≡ Some s
first_expr_group x group inner s is h = ap first_of (at-Expr-Group piece whole as_it_is x group inner is) ∙ h

pub last_expr_group : (x : Expr) (group : Group) (inner : Expr) (s : Span) → x ≡ expr.Group group inner → last_of (p.Group group ∷ []) ≡ Some s → last_of (expr_parts piece whole as_it_is x) ≡ Some s
last_expr_group x group inner s is h = ap last_of (at-Expr-Group piece whole as_it_is x group inner is) ∙ h

pub first_stmt_mention : (x : Stmt) (word : Token) (underscore : Token) (equals : Token) (refs : Refs) (semi : Option Token) (s : Span) → x ≡ stmt.Mention word underscore equals refs semi → first_of (piece word) ≡ Some s → first_of (stmt_parts piece whole as_it_is x) ≡ Some s
first_stmt_mention x word underscore equals refs semi s is h = ap first_of (at-Stmt-Mention piece whole as_it_is x word underscore equals refs semi is) ∙ front (piece word) (piece underscore ++ (piece equals ++ (refs_parts piece whole as_it_is refs ++ maybe piece semi))) s h

pub last_stmt_mention : (x : Stmt) (word : Token) (underscore : Token) (equals : Token) (refs : Refs) (semi : Option Token) (s : Span) → x ≡ stmt.Mention word underscore equals refs semi → last_of (refs_parts piece whole as_it_is refs ++ maybe piece semi) ≡ Some s → last_of (stmt_parts piece whole as_it_is x) ≡ Some s
last_stmt_mention x word underscore equals refs semi s is h = ap last_of (at-Stmt-Mention piece whole as_it_is x word underscore equals refs semi is) ∙ back (piece word) (piece underscore ++ (piece equals ++ (refs_parts piece whole as_it_is refs ++ maybe piece semi))) s (back (piece underscore) (piece equals ++ (refs_parts piece whole as_it_is refs ++ maybe piece semi)) s (back (piece equals) (refs_parts piece whole as_it_is refs ++ maybe piece semi) s (h)))

pub first_stmt_let : (x : Stmt) (word : Token) (pat : Pat) (annotation : Annotation) (equals : Token) (value : Expr) (semi : Option Token) (s : Span) → x ≡ stmt.Let word pat annotation equals value semi → first_of (piece word) ≡ Some s → first_of (stmt_parts piece whole as_it_is x) ≡ Some s
first_stmt_let x word pat annotation equals value semi s is h = ap first_of (at-Stmt-Let piece whole as_it_is x word pat annotation equals value semi is) ∙ front (piece word) (pat_parts piece whole as_it_is pat ++ (annotation_parts piece whole as_it_is annotation ++ (piece equals ++ (expr_parts piece whole as_it_is value ++ maybe piece semi)))) s h

pub last_stmt_let : (x : Stmt) (word : Token) (pat : Pat) (annotation : Annotation) (equals : Token) (value : Expr) (semi : Option Token) (s : Span) → x ≡ stmt.Let word pat annotation equals value semi → last_of (expr_parts piece whole as_it_is value ++ maybe piece semi) ≡ Some s → last_of (stmt_parts piece whole as_it_is x) ≡ Some s
last_stmt_let x word pat annotation equals value semi s is h = ap last_of (at-Stmt-Let piece whole as_it_is x word pat annotation equals value semi is) ∙ back (piece word) (pat_parts piece whole as_it_is pat ++ (annotation_parts piece whole as_it_is annotation ++ (piece equals ++ (expr_parts piece whole as_it_is value ++ maybe piece semi)))) s (back (pat_parts piece whole as_it_is pat) (annotation_parts piece whole as_it_is annotation ++ (piece equals ++ (expr_parts piece whole as_it_is value ++ maybe piece semi))) s (back (annotation_parts piece whole as_it_is annotation) (piece equals ++ (expr_parts piece whole as_it_is value ++ maybe piece semi)) s (back (piece equals) (expr_parts piece whole as_it_is value ++ maybe piece semi) s (h))))

pub first_stmt_macro : (x : Stmt) (call : MacroCall) (semi : Option Token) (s : Span) → x ≡ stmt.Macro call semi → first_of (macro_call_parts piece whole as_it_is call) ≡ Some s → first_of (stmt_parts piece whole as_it_is x) ≡ Some s
first_stmt_macro x call semi s is h = ap first_of (at-Stmt-Macro piece whole as_it_is x call semi is) ∙ front (macro_call_parts piece whole as_it_is call) (maybe piece semi) s h

pub last_stmt_macro : (x : Stmt) (call : MacroCall) (semi : Option Token) (s : Span) → x ≡ stmt.Macro call semi → last_of (macro_call_parts piece whole as_it_is call ++ maybe piece semi) ≡ Some s → last_of (stmt_parts piece whole as_it_is x) ≡ Some s
last_stmt_macro x call semi s is h = ap last_of (at-Stmt-Macro piece whole as_it_is x call semi is) ∙ h

pub first_stmt_expr : (x : Stmt) (value : Expr) (semi : Option Token) (s : Span) → x ≡ stmt.Expr value semi → first_of (expr_parts piece whole as_it_is value) ≡ Some s → first_of (stmt_parts piece whole as_it_is x) ≡ Some s
first_stmt_expr x value semi s is h = ap first_of (at-Stmt-Expr piece whole as_it_is x value semi is) ∙ front (expr_parts piece whole as_it_is value) (maybe piece semi) s h

pub last_stmt_expr : (x : Stmt) (value : Expr) (semi : Option Token) (s : Span) → x ≡ stmt.Expr value semi → last_of (expr_parts piece whole as_it_is value ++ maybe piece semi) ≡ Some s → last_of (stmt_parts piece whole as_it_is x) ≡ Some s
last_stmt_expr x value semi s is h = ap last_of (at-Stmt-Expr piece whole as_it_is x value semi is) ∙ h

pub first_stmt_block_like : (x : Stmt) (value : Expr) (semi : Option Token) (s : Span) → x ≡ stmt.BlockLike value semi → first_of (expr_parts piece whole as_it_is value) ≡ Some s → first_of (stmt_parts piece whole as_it_is x) ≡ Some s
first_stmt_block_like x value semi s is h = ap first_of (at-Stmt-BlockLike piece whole as_it_is x value semi is) ∙ front (expr_parts piece whole as_it_is value) (maybe piece semi) s h

pub last_stmt_block_like : (x : Stmt) (value : Expr) (semi : Option Token) (s : Span) → x ≡ stmt.BlockLike value semi → last_of (expr_parts piece whole as_it_is value ++ maybe piece semi) ≡ Some s → last_of (stmt_parts piece whole as_it_is x) ≡ Some s
last_stmt_block_like x value semi s is h = ap last_of (at-Stmt-BlockLike piece whole as_it_is x value semi is) ∙ h

pub first_stmt_group : (x : Stmt) (group : Group) (inner : Stmt) (semi : Option Token) (s : Span) → x ≡ stmt.Group group inner semi → first_of (p.Group group ∷ []) ≡ Some s → first_of (stmt_parts piece whole as_it_is x) ≡ Some s
first_stmt_group x group inner semi s is h = ap first_of (at-Stmt-Group piece whole as_it_is x group inner semi is) ∙ front (p.Group group ∷ []) (maybe piece semi) s h

pub last_stmt_group : (x : Stmt) (group : Group) (inner : Stmt) (semi : Option Token) (s : Span) → x ≡ stmt.Group group inner semi → last_of (p.Group group ∷ [] ++ maybe piece semi) ≡ Some s → last_of (stmt_parts piece whole as_it_is x) ≡ Some s
last_stmt_group x group inner semi s is h = ap last_of (at-Stmt-Group piece whole as_it_is x group inner semi is) ∙ h

pub first_item_plain : (x : Item) (attributes : List Attribute) (vis : Option Vis) (body : ItemBody Item) (s : Span) → x ≡ item.Plain attributes vis body → first_of (each (attribute_parts piece whole as_it_is) attributes ++ (maybe (vis_parts piece whole as_it_is) vis ++ item_body_parts piece whole as_it_is (item_parts piece whole as_it_is) body)) ≡ Some s → first_of (item_parts piece whole as_it_is x) ≡ Some s
first_item_plain x attributes vis body s is h = ap first_of (at-Item-Plain piece whole as_it_is x attributes vis body is) ∙ h

pub last_item_plain : (x : Item) (attributes : List Attribute) (vis : Option Vis) (body : ItemBody Item) (s : Span) → x ≡ item.Plain attributes vis body → last_of (item_body_parts piece whole as_it_is (item_parts piece whole as_it_is) body) ≡ Some s → last_of (item_parts piece whole as_it_is x) ≡ Some s
last_item_plain x attributes vis body s is h = ap last_of (at-Item-Plain piece whole as_it_is x attributes vis body is) ∙ back (each (attribute_parts piece whole as_it_is) attributes) (maybe (vis_parts piece whole as_it_is) vis ++ item_body_parts piece whole as_it_is (item_parts piece whole as_it_is) body) s (back (maybe (vis_parts piece whole as_it_is) vis) (item_body_parts piece whole as_it_is (item_parts piece whole as_it_is) body) s (h))

pub first_item_group : (x : Item) (group : Group) (inner : Item) (s : Span) → x ≡ item.Group group inner → first_of (p.Group group ∷ []) ≡ Some s → first_of (item_parts piece whole as_it_is x) ≡ Some s
first_item_group x group inner s is h = ap first_of (at-Item-Group piece whole as_it_is x group inner is) ∙ h

pub last_item_group : (x : Item) (group : Group) (inner : Item) (s : Span) → x ≡ item.Group group inner → last_of (p.Group group ∷ []) ≡ Some s → last_of (item_parts piece whole as_it_is x) ≡ Some s
last_item_group x group inner s is h = ap last_of (at-Item-Group piece whole as_it_is x group inner is) ∙ h

pub first_block : (x : Block Body) (s : Span) → first_of (leaves piece whole as_it_is x.groups (piece x.open)) ≡ Some s
    → first_of (block_parts piece whole as_it_is (body_parts piece whole as_it_is) x) ≡ Some s
first_block x s h = of x.groups h
  where
    of : (gs : List Group) → first_of (leaves piece whole as_it_is gs (piece x.open)) ≡ Some s
        → first_of (leaves piece whole as_it_is gs (piece x.open ++ (body_parts piece whole as_it_is x.body ++ piece x.close))) ≡ Some s
    of [] h = h
    of (g ∷ gs) h = h
