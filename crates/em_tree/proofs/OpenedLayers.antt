-- A layer of a tree whose parts' tokens are their pieces opened.
use Rattle.std.proofs.Common.{◌≡◌, ◌∙◌, ◌++◌, ◌∷◌, [], List, Option, Some, None, refl, sym, ap, append_assoc}
use Rattle.std.proofs.lemmas.List.{append-nil}
use Rattle.em_base.specs.declared.token.Token.{Token}
use Rattle.em_tree.specs.declared.parts.Listed.{Listed}
use Rattle.em_tree.specs.declared.piece.Piece.{Piece}
use Rattle.em_tree.specs.declared.piece.Group.{Group}
use Rattle.em_tree.specs.declared.piece.Delimited.{Delimited}
use Rattle.em_tree.specs.declared.literal.Literal.{Literal, out-Literal, roll-Literal, roll-out-Literal}
use Rattle.em_tree.specs.declared.types.Segment.{Segment}
use Rattle.em_tree.specs.declared.types.PathStep.{PathStep}
use Rattle.em_tree.specs.declared.types.Segments.{Segments}
use Rattle.em_tree.specs.declared.types.Path.{Path, out-Path, roll-Path, roll-out-Path}
use Rattle.em_tree.specs.declared.types.Qualified.{Qualified, out-Qualified}
use Rattle.em_tree.specs.declared.types.Output.{Output, out-Output, roll-Output, roll-out-Output}
use Rattle.em_tree.specs.declared.types.Bound.{Bound, out-Bound, roll-Bound, roll-out-Bound}
use Rattle.em_tree.specs.declared.types.TypeTree.{TypeTree, out-TypeTree, roll-TypeTree, roll-out-TypeTree}
use Rattle.em_tree.specs.declared.pat.FieldPat.{FieldPat}
use Rattle.em_tree.specs.declared.pat.Pat.{Pat, out-Pat, roll-Pat, roll-out-Pat}
use Rattle.em_tree.specs.declared.pat.Alternative.{Alternative}
use Rattle.em_tree.specs.declared.pat.TopPat.{TopPat, out-TopPat, roll-TopPat, roll-out-TopPat}
use Rattle.em_tree.specs.declared.expr.Annotation.{Annotation}
use Rattle.em_tree.specs.declared.expr.FieldExpr.{FieldExpr}
use Rattle.em_tree.specs.declared.expr.ClosureHead.{ClosureHead}
use Rattle.em_tree.specs.declared.expr.Condition.{Condition}
use Rattle.em_tree.specs.declared.expr.Arm.{Arm}
use Rattle.em_tree.specs.declared.expr.Reference.{Reference}
use Rattle.em_tree.specs.declared.expr.Refs.{Refs}
use Rattle.em_tree.specs.declared.expr.Block.{Block}
use Rattle.em_tree.specs.declared.expr.MacroCall.{MacroCall}
use Rattle.em_tree.specs.declared.expr.ElseIf.{ElseIf, out-ElseIf}
use Rattle.em_tree.specs.declared.expr.Expr.{Expr, out-Expr, roll-Expr, roll-out-Expr}
use Rattle.em_tree.specs.declared.expr.Stmt.{Stmt, out-Stmt, roll-Stmt, roll-out-Stmt}
use Rattle.em_tree.specs.declared.expr.Body.{Body, out-Body}
use Rattle.em_tree.specs.declared.item.Attribute.{Attribute}
use Rattle.em_tree.specs.declared.item.Vis.{Vis}
use Rattle.em_tree.specs.declared.item.ItemBody.{ItemBody}
use Rattle.em_tree.specs.declared.item.Item.{Item, out-Item, roll-Item, roll-out-Item}
use Rattle.em_tree.specs.declared.literal.Literal.TheOpen.{Literal-F}
use Rattle.em_tree.specs.declared.types.Bound.TheOpen.{Bound-F, Output-F, Path-F, TypeTree-F}
use Rattle.em_tree.specs.declared.pat.Pat.TheOpen.{Pat-F}
use Rattle.em_tree.specs.declared.pat.TopPat.TheOpen.{TopPat-F}
use Rattle.em_tree.specs.declared.expr.Expr.TheOpen.{Expr-F, Stmt-F}
use Rattle.em_tree.specs.declared.item.Item.TheOpen.{Item-F}
use Rattle.em_tree.specs.declared.literal.Literal.TheVariants as literal
use Rattle.em_tree.specs.declared.types.Path.TheVariants as path
use Rattle.em_tree.specs.declared.types.Output.TheVariants as output
use Rattle.em_tree.specs.declared.types.Bound.TheVariants as bound
use Rattle.em_tree.specs.declared.types.TypeTree.TheVariants as type_tree
use Rattle.em_tree.specs.declared.pat.Pat.TheVariants as pat
use Rattle.em_tree.specs.declared.pat.TopPat.TheVariants as top_pat
use Rattle.em_tree.specs.declared.expr.Refs.TheVariants as refs
use Rattle.em_tree.specs.declared.expr.Expr.TheVariants as expr
use Rattle.em_tree.specs.declared.expr.Stmt.TheVariants as stmt
use Rattle.em_tree.specs.declared.item.Item.TheVariants as item
use Rattle.em_tree.specs.declared.piece.Piece.TheVariants as p
use Rattle.em_tree.specs.Parts.{maybe, each, alternative_parts, annotation_parts, arm_parts, attribute_parts, block_parts, body_parts, bound_parts, closure_head_parts, condition_parts, delimited_parts, else_if_parts, expr_parts, field_expr_parts, field_pat_parts, item_body_parts, item_parts, listed_parts, literal_parts, macro_call_parts, output_parts, pat_parts, path_parts, path_step_parts, qualified_parts, reference_parts, refs_parts, segment_parts, segments_parts, stmt_parts, top_pat_parts, type_tree_parts, vis_parts}
use Rattle.em_tree.specs.Starts.{pieces_of}
use Rattle.em_tree.specs.Yields.{one, inside, opened, opened_piece, piece, whole, as_it_is}
use Rattle.em_tree.specs.Tokens.{Maybe, Each, Commas}
use Rattle.em_tree.specs.PatGrammar.{Alternatives}
use Rattle.em_tree.proofs.Opened.{opened_token, opened_group}
use Rattle.em_tree.proofs.Layers.{at-Body, at-Bound-Call, at-Bound-Path, at-ElseIf, at-Expr-Array, at-Expr-Assign, at-Expr-Binary, at-Expr-Block, at-Expr-Break, at-Expr-Call, at-Expr-Closure, at-Expr-ClosureTo, at-Expr-Continue, at-Expr-Field, at-Expr-For, at-Expr-Group, at-Expr-If, at-Expr-Index, at-Expr-Literal, at-Expr-Loop, at-Expr-Macro, at-Expr-Match, at-Expr-MethodCall, at-Expr-Paren, at-Expr-Path, at-Expr-Place, at-Expr-Ref, at-Expr-RefRef, at-Expr-Repeat, at-Expr-Return, at-Expr-Struct, at-Expr-Unary, at-Expr-While, at-Item-Group, at-Item-Plain, at-Literal-Group, at-Literal-Negative, at-Literal-Token, at-Output-Type, at-Output-Unit, at-Pat-Group, at-Pat-Literal, at-Pat-Name, at-Pat-Path, at-Pat-Range, at-Pat-Struct, at-Pat-Tuple, at-Pat-Wild, at-Path-Group, at-Path-Plain, at-Path-Qualified, at-Qualified, at-Stmt-BlockLike, at-Stmt-Expr, at-Stmt-Group, at-Stmt-Let, at-Stmt-Macro, at-Stmt-Mention, at-TopPat-Alternatives, at-TopPat-Group, at-TypeTree-Array, at-TypeTree-Bare, at-TypeTree-Boxed, at-TypeTree-Dyn, at-TypeTree-Group, at-TypeTree-Path, at-TypeTree-Ref, at-TypeTree-RefRef, at-TypeTree-Slice, at-TypeTree-Unit}

abbrev pub Op : List Token → List Piece → Type 0
Op ts ys = ts ≡ opened ys

-- ---- lists

pub open_append : (xs ys : List Piece) → opened (xs ++ ys) ≡ opened xs ++ opened ys
open_append [] ys = refl
open_append (x ∷ xs) ys = ap (λ r. opened_piece x ++ r) (open_append xs ys) ∙ sym (append_assoc (opened_piece x) (opened xs) (opened ys))

pub op2 : (a b : List Token) (x y : List Piece) → Op a x → Op b y → Op (a ++ b) (x ++ y)
op2 a b x y h k = ap (λ r. r ++ b) h ∙ ap (λ r. opened x ++ r) k ∙ sym (open_append x y)

pub op_tok : (t : Token) → Op (one t) (piece t)
op_tok t = sym (ap (λ r. r ++ []) (opened_token (p.Token t) t refl))

pub op_maybe_tok : (o : Option Token) → Op (maybe one o) (maybe piece o)
op_maybe_tok None = refl
op_maybe_tok (Some t) = op_tok t

pub op_group : (g : Group) (ts : List Token) (ys : List Piece) → pieces_of g ≡ ys → Op ts ys → Op (inside g ts) (whole g ys)
op_group g ts ys is h =
    h ∙ ap opened (sym is) ∙ sym (append-nil (opened (pieces_of g))) ∙ sym (ap (λ r. r ++ []) (opened_group (p.Group g) g refl))

pub snd : {A B : Type 0} → A × B → B
snd k = k.1

pub op_maybe : {B : Type 0} (P : B → Type 0) (f : B → List Token) (g : B → List Piece) → ((b : B) → P b → Op (f b) (g b)) → (o : Option B) → Maybe P o → Op (maybe f o) (maybe g o)
op_maybe P f g h None k = refl
op_maybe P f g h (Some b) k = h b k

pub op_all : {B : Type 0} (f : B → List Token) (g : B → List Piece) → ((b : B) → Op (f b) (g b)) → (xs : List B) → Op (each f xs) (each g xs)
op_all f g h [] = refl
op_all f g h (x ∷ xs) = op2 (f x) (each f xs) (g x) (each g xs) (h x) (op_all f g h xs)

pub op_each : {B : Type 0} (P : B → Type 0) (f : B → List Token) (g : B → List Piece) → ((b : B) → P b → Op (f b) (g b)) → (xs : List B) → Each P xs → Op (each f xs) (each g xs)
op_each P f g h [] k = refl
op_each P f g h (x ∷ xs) k = op2 (f x) (each f xs) (g x) (each g xs) (h x k.0) (op_each P f g h xs k.1)

pub op_listed : {B : Type 0} (f : B → List Token) (g : B → List Piece) (x : Listed B) → Op (f x.item) (g x.item) → Op (listed_parts one inside opened f x) (listed_parts piece whole as_it_is g x)
op_listed f g x h = op2 (f x.item) (maybe one x.comma) (g x.item) (maybe piece x.comma) h (op_maybe_tok x.comma)

pub op_commas : {B : Type 0} (P : B → Type 0) (f : B → List Token) (g : B → List Piece) → ((b : B) → P b → Op (f b) (g b)) → (xs : List (Listed B)) → Commas P xs
    → Op (each (listed_parts one inside opened f) xs) (each (listed_parts piece whole as_it_is g) xs)
op_commas P f g h [] k = refl
op_commas P f g h (a ∷ []) k = op2 (listed_parts one inside opened f a) [] (listed_parts piece whole as_it_is g a) [] (op_listed f g a (h a.item k.0)) refl
op_commas P f g h (a ∷ b ∷ rest) k =
    op2 (listed_parts one inside opened f a) (each (listed_parts one inside opened f) (b ∷ rest)) (listed_parts piece whole as_it_is g a) (each (listed_parts piece whole as_it_is g) (b ∷ rest))
    (op_listed f g a (h a.item k.0)) (op_commas P f g h (b ∷ rest) k.2)

-- ---- parts without trees

pub op_segment : (x : Segment) → Op (segment_parts one inside opened x) (segment_parts piece whole as_it_is x)
op_segment x = op2 (maybe one x.dollar) (one x.name) (maybe piece x.dollar) (piece x.name) (op_maybe_tok x.dollar) (op_tok x.name)

pub op_step : (x : PathStep) → Op (path_step_parts one inside opened x) (path_step_parts piece whole as_it_is x)
op_step x = op2 (one x.separator) (segment_parts one inside opened x.segment) (piece x.separator) (segment_parts piece whole as_it_is x.segment) (op_tok x.separator) (op_segment x.segment)

pub op_segments : (x : Segments) → Op (segments_parts one inside opened x) (segments_parts piece whole as_it_is x)
op_segments x =
    op2 (maybe one x.lead) (segment_parts one inside opened x.first ++ each (path_step_parts one inside opened) x.more)
    (maybe piece x.lead) (segment_parts piece whole as_it_is x.first ++ each (path_step_parts piece whole as_it_is) x.more) (op_maybe_tok x.lead)
    (op2 (segment_parts one inside opened x.first) (each (path_step_parts one inside opened) x.more) (segment_parts piece whole as_it_is x.first) (each (path_step_parts piece whole as_it_is) x.more)
    (op_segment x.first) (op_all (path_step_parts one inside opened) (path_step_parts piece whole as_it_is) op_step x.more))

pub op_delimited : (x : Delimited) → Op (delimited_parts one inside opened x) (delimited_parts piece whole as_it_is x)
op_delimited x =
    op2 (one x.open) (opened x.text ++ one x.close) (piece x.open) (x.text ++ piece x.close) (op_tok x.open)
    (op2 (opened x.text) (one x.close) x.text (piece x.close) refl (op_tok x.close))

pub op_macro_call : (x : MacroCall) → Op (macro_call_parts one inside opened x) (macro_call_parts piece whole as_it_is x)
op_macro_call x =
    op2 (one x.name) (one x.bang ++ delimited_parts one inside opened x.text) (piece x.name) (piece x.bang ++ delimited_parts piece whole as_it_is x.text) (op_tok x.name)
    (op2 (one x.bang) (delimited_parts one inside opened x.text) (piece x.bang) (delimited_parts piece whole as_it_is x.text) (op_tok x.bang) (op_delimited x.text))

pub op_reference : (x : Reference) → Op (reference_parts one inside opened x) (reference_parts piece whole as_it_is x)
op_reference x = op2 (one x.amp) (one x.name) (piece x.amp) (piece x.name) (op_tok x.amp) (op_tok x.name)

pub op_refs : (x : Refs) → Op (refs_parts one inside opened x) (refs_parts piece whole as_it_is x)
op_refs (refs.One r) = op_reference r
op_refs (refs.Many opening list closing) =
    op2 (one opening) (each (listed_parts one inside opened (reference_parts one inside opened)) list ++ one closing)
    (piece opening) (each (listed_parts piece whole as_it_is (reference_parts piece whole as_it_is)) list ++ piece closing) (op_tok opening)
    (op2 (each (listed_parts one inside opened (reference_parts one inside opened)) list) (one closing) (each (listed_parts piece whole as_it_is (reference_parts piece whole as_it_is)) list) (piece closing)
    (op_all (listed_parts one inside opened (reference_parts one inside opened)) (listed_parts piece whole as_it_is (reference_parts piece whole as_it_is))
    (λ r. op_listed (reference_parts one inside opened) (reference_parts piece whole as_it_is) r (op_reference r.item)) list) (op_tok closing))

-- ---- trees, one layer at a time

pub op-Literal-Token : (x : Literal) (x0 : Token) → out-Literal x ≡ Literal-F.Token x0 → Op (literal_parts one inside opened x) (literal_parts piece whole as_it_is x)
op-Literal-Token x x0 is =
    let at : x ≡ literal.Token x0 = sym (roll-out-Literal x) ∙ ap roll-Literal is ∙ literal.rolls-Token x0 in
    at-Literal-Token one inside opened x x0 at ∙ (op_tok x0) ∙ ap opened (sym (at-Literal-Token piece whole as_it_is x x0 at))

pub op-Literal-Negative : (x : Literal) (minus : Token) (value : Literal) → out-Literal x ≡ Literal-F.Negative minus value → Op (literal_parts one inside opened value) (literal_parts piece whole as_it_is value) → Op (literal_parts one inside opened x) (literal_parts piece whole as_it_is x)
op-Literal-Negative x minus value is h0 =
    let at : x ≡ literal.Negative minus value = sym (roll-out-Literal x) ∙ ap roll-Literal is ∙ literal.rolls-Negative minus value in
    at-Literal-Negative one inside opened x minus value at ∙ (op2 (one minus) (literal_parts one inside opened value) (piece minus) (literal_parts piece whole as_it_is value) (op_tok minus) (h0)) ∙ ap opened (sym (at-Literal-Negative piece whole as_it_is x minus value at))

pub op-Literal-Group : (x : Literal) (group : Group) (inner : Literal) → out-Literal x ≡ Literal-F.Group group inner → pieces_of group ≡ literal_parts piece whole as_it_is inner → Op (literal_parts one inside opened inner) (literal_parts piece whole as_it_is inner) → Op (literal_parts one inside opened x) (literal_parts piece whole as_it_is x)
op-Literal-Group x group inner is h0 h1 =
    let at : x ≡ literal.Group group inner = sym (roll-out-Literal x) ∙ ap roll-Literal is ∙ literal.rolls-Group group inner in
    at-Literal-Group one inside opened x group inner at ∙ (op_group group (literal_parts one inside opened inner) (literal_parts piece whole as_it_is inner) h0 h1) ∙ ap opened (sym (at-Literal-Group piece whole as_it_is x group inner at))

pub op-Bound-Path : (x : Bound) (x0 : Path) → out-Bound x ≡ Bound-F.Bound::Path x0 → Op (path_parts one inside opened x0) (path_parts piece whole as_it_is x0) → Op (bound_parts one inside opened x) (bound_parts piece whole as_it_is x)
op-Bound-Path x x0 is h0 =
    let at : x ≡ bound.Path x0 = sym (roll-out-Bound x) ∙ ap roll-Bound is ∙ bound.rolls-Path x0 in
    at-Bound-Path one inside opened x x0 at ∙ (h0) ∙ ap opened (sym (at-Bound-Path piece whole as_it_is x x0 at))

pub op-Bound-Call : (x : Bound) (path : Path) (opening : Token) (inputs : List (Listed TypeTree)) (closing : Token) (output : Output) → out-Bound x ≡ Bound-F.Call path opening inputs closing output → Op (path_parts one inside opened path) (path_parts piece whole as_it_is path) → Op (each (listed_parts one inside opened (type_tree_parts one inside opened)) inputs) (each (listed_parts piece whole as_it_is (type_tree_parts piece whole as_it_is)) inputs) → Op (output_parts one inside opened output) (output_parts piece whole as_it_is output) → Op (bound_parts one inside opened x) (bound_parts piece whole as_it_is x)
op-Bound-Call x path opening inputs closing output is h0 h1 h2 =
    let at : x ≡ bound.Call path opening inputs closing output = sym (roll-out-Bound x) ∙ ap roll-Bound is ∙ bound.rolls-Call path opening inputs closing output in
    at-Bound-Call one inside opened x path opening inputs closing output at ∙ (op2 (path_parts one inside opened path) (one opening ++ (each (listed_parts one inside opened (type_tree_parts one inside opened)) inputs ++ (one closing ++ output_parts one inside opened output))) (path_parts piece whole as_it_is path) (piece opening ++ (each (listed_parts piece whole as_it_is (type_tree_parts piece whole as_it_is)) inputs ++ (piece closing ++ output_parts piece whole as_it_is output))) (h0) (op2 (one opening) (each (listed_parts one inside opened (type_tree_parts one inside opened)) inputs ++ (one closing ++ output_parts one inside opened output)) (piece opening) (each (listed_parts piece whole as_it_is (type_tree_parts piece whole as_it_is)) inputs ++ (piece closing ++ output_parts piece whole as_it_is output)) (op_tok opening) (op2 (each (listed_parts one inside opened (type_tree_parts one inside opened)) inputs) (one closing ++ output_parts one inside opened output) (each (listed_parts piece whole as_it_is (type_tree_parts piece whole as_it_is)) inputs) (piece closing ++ output_parts piece whole as_it_is output) (h1) (op2 (one closing) (output_parts one inside opened output) (piece closing) (output_parts piece whole as_it_is output) (op_tok closing) (h2))))) ∙ ap opened (sym (at-Bound-Call piece whole as_it_is x path opening inputs closing output at))

pub op-Output-Unit : (x : Output) → out-Output x ≡ Output-F.Output::Unit → Op (output_parts one inside opened x) (output_parts piece whole as_it_is x)
op-Output-Unit x is =
    let at : x ≡ output.Unit = sym (roll-out-Output x) ∙ ap roll-Output is ∙ output.rolls-Unit in
    at-Output-Unit one inside opened x at ∙ (refl) ∙ ap opened (sym (at-Output-Unit piece whole as_it_is x at))

pub op-Output-Type : (x : Output) (arrow : Token) (ty : TypeTree) → out-Output x ≡ Output-F.Type arrow ty → Op (type_tree_parts one inside opened ty) (type_tree_parts piece whole as_it_is ty) → Op (output_parts one inside opened x) (output_parts piece whole as_it_is x)
op-Output-Type x arrow ty is h0 =
    let at : x ≡ output.Type arrow ty = sym (roll-out-Output x) ∙ ap roll-Output is ∙ output.rolls-Type arrow ty in
    at-Output-Type one inside opened x arrow ty at ∙ (op2 (one arrow) (type_tree_parts one inside opened ty) (piece arrow) (type_tree_parts piece whole as_it_is ty) (op_tok arrow) (h0)) ∙ ap opened (sym (at-Output-Type piece whole as_it_is x arrow ty at))

pub op-Path-Plain : (x : Path) (x0 : Segments) → out-Path x ≡ Path-F.Plain x0 → Op (path_parts one inside opened x) (path_parts piece whole as_it_is x)
op-Path-Plain x x0 is =
    let at : x ≡ path.Plain x0 = sym (roll-out-Path x) ∙ ap roll-Path is ∙ path.rolls-Plain x0 in
    at-Path-Plain one inside opened x x0 at ∙ (op_segments x0) ∙ ap opened (sym (at-Path-Plain piece whole as_it_is x x0 at))

pub op-Path-Qualified : (x : Path) (x0 : Qualified) → out-Path x ≡ Path-F.Qualified x0 → Op (qualified_parts one inside opened x0) (qualified_parts piece whole as_it_is x0) → Op (path_parts one inside opened x) (path_parts piece whole as_it_is x)
op-Path-Qualified x x0 is h0 =
    let at : x ≡ path.Qualified x0 = sym (roll-out-Path x) ∙ ap roll-Path is ∙ path.rolls-Qualified x0 in
    at-Path-Qualified one inside opened x x0 at ∙ (h0) ∙ ap opened (sym (at-Path-Qualified piece whole as_it_is x x0 at))

pub op-Path-Group : (x : Path) (group : Group) (inner : Path) → out-Path x ≡ Path-F.Path::Group group inner → pieces_of group ≡ path_parts piece whole as_it_is inner → Op (path_parts one inside opened inner) (path_parts piece whole as_it_is inner) → Op (path_parts one inside opened x) (path_parts piece whole as_it_is x)
op-Path-Group x group inner is h0 h1 =
    let at : x ≡ path.Group group inner = sym (roll-out-Path x) ∙ ap roll-Path is ∙ path.rolls-Group group inner in
    at-Path-Group one inside opened x group inner at ∙ (op_group group (path_parts one inside opened inner) (path_parts piece whole as_it_is inner) h0 h1) ∙ ap opened (sym (at-Path-Group piece whole as_it_is x group inner at))

pub op-TypeTree-Path : (x : TypeTree) (x0 : Path) → out-TypeTree x ≡ TypeTree-F.TypeTree::Path x0 → Op (path_parts one inside opened x0) (path_parts piece whole as_it_is x0) → Op (type_tree_parts one inside opened x) (type_tree_parts piece whole as_it_is x)
op-TypeTree-Path x x0 is h0 =
    let at : x ≡ type_tree.Path x0 = sym (roll-out-TypeTree x) ∙ ap roll-TypeTree is ∙ type_tree.rolls-Path x0 in
    at-TypeTree-Path one inside opened x x0 at ∙ (h0) ∙ ap opened (sym (at-TypeTree-Path piece whole as_it_is x x0 at))

pub op-TypeTree-Boxed : (x : TypeTree) (word : Token) (opening : Token) (inner : TypeTree) (closing : Option Token) → out-TypeTree x ≡ TypeTree-F.Boxed word opening inner closing → Op (type_tree_parts one inside opened inner) (type_tree_parts piece whole as_it_is inner) → Op (type_tree_parts one inside opened x) (type_tree_parts piece whole as_it_is x)
op-TypeTree-Boxed x word opening inner closing is h0 =
    let at : x ≡ type_tree.Boxed word opening inner closing = sym (roll-out-TypeTree x) ∙ ap roll-TypeTree is ∙ type_tree.rolls-Boxed word opening inner closing in
    at-TypeTree-Boxed one inside opened x word opening inner closing at ∙ (op2 (one word) (one opening ++ (type_tree_parts one inside opened inner ++ maybe one closing)) (piece word) (piece opening ++ (type_tree_parts piece whole as_it_is inner ++ maybe piece closing)) (op_tok word) (op2 (one opening) (type_tree_parts one inside opened inner ++ maybe one closing) (piece opening) (type_tree_parts piece whole as_it_is inner ++ maybe piece closing) (op_tok opening) (op2 (type_tree_parts one inside opened inner) (maybe one closing) (type_tree_parts piece whole as_it_is inner) (maybe piece closing) (h0) (op_maybe_tok closing)))) ∙ ap opened (sym (at-TypeTree-Boxed piece whole as_it_is x word opening inner closing at))

pub op-TypeTree-Ref : (x : TypeTree) (amp : Token) (word_mut : Option Token) (inner : TypeTree) → out-TypeTree x ≡ TypeTree-F.Ref amp word_mut inner → Op (type_tree_parts one inside opened inner) (type_tree_parts piece whole as_it_is inner) → Op (type_tree_parts one inside opened x) (type_tree_parts piece whole as_it_is x)
op-TypeTree-Ref x amp word_mut inner is h0 =
    let at : x ≡ type_tree.Ref amp word_mut inner = sym (roll-out-TypeTree x) ∙ ap roll-TypeTree is ∙ type_tree.rolls-Ref amp word_mut inner in
    at-TypeTree-Ref one inside opened x amp word_mut inner at ∙ (op2 (one amp) (maybe one word_mut ++ type_tree_parts one inside opened inner) (piece amp) (maybe piece word_mut ++ type_tree_parts piece whole as_it_is inner) (op_tok amp) (op2 (maybe one word_mut) (type_tree_parts one inside opened inner) (maybe piece word_mut) (type_tree_parts piece whole as_it_is inner) (op_maybe_tok word_mut) (h0))) ∙ ap opened (sym (at-TypeTree-Ref piece whole as_it_is x amp word_mut inner at))

pub op-TypeTree-RefRef : (x : TypeTree) (amps : Token) (word_mut : Option Token) (inner : TypeTree) → out-TypeTree x ≡ TypeTree-F.RefRef amps word_mut inner → Op (type_tree_parts one inside opened inner) (type_tree_parts piece whole as_it_is inner) → Op (type_tree_parts one inside opened x) (type_tree_parts piece whole as_it_is x)
op-TypeTree-RefRef x amps word_mut inner is h0 =
    let at : x ≡ type_tree.RefRef amps word_mut inner = sym (roll-out-TypeTree x) ∙ ap roll-TypeTree is ∙ type_tree.rolls-RefRef amps word_mut inner in
    at-TypeTree-RefRef one inside opened x amps word_mut inner at ∙ (op2 (one amps) (maybe one word_mut ++ type_tree_parts one inside opened inner) (piece amps) (maybe piece word_mut ++ type_tree_parts piece whole as_it_is inner) (op_tok amps) (op2 (maybe one word_mut) (type_tree_parts one inside opened inner) (maybe piece word_mut) (type_tree_parts piece whole as_it_is inner) (op_maybe_tok word_mut) (h0))) ∙ ap opened (sym (at-TypeTree-RefRef piece whole as_it_is x amps word_mut inner at))

pub op-TypeTree-Array : (x : TypeTree) (opening : Token) (element : TypeTree) (semi : Token) (length : Literal) (closing : Token) → out-TypeTree x ≡ TypeTree-F.Array opening element semi length closing → Op (type_tree_parts one inside opened element) (type_tree_parts piece whole as_it_is element) → Op (literal_parts one inside opened length) (literal_parts piece whole as_it_is length) → Op (type_tree_parts one inside opened x) (type_tree_parts piece whole as_it_is x)
op-TypeTree-Array x opening element semi length closing is h0 h1 =
    let at : x ≡ type_tree.Array opening element semi length closing = sym (roll-out-TypeTree x) ∙ ap roll-TypeTree is ∙ type_tree.rolls-Array opening element semi length closing in
    at-TypeTree-Array one inside opened x opening element semi length closing at ∙ (op2 (one opening) (type_tree_parts one inside opened element ++ (one semi ++ (literal_parts one inside opened length ++ one closing))) (piece opening) (type_tree_parts piece whole as_it_is element ++ (piece semi ++ (literal_parts piece whole as_it_is length ++ piece closing))) (op_tok opening) (op2 (type_tree_parts one inside opened element) (one semi ++ (literal_parts one inside opened length ++ one closing)) (type_tree_parts piece whole as_it_is element) (piece semi ++ (literal_parts piece whole as_it_is length ++ piece closing)) (h0) (op2 (one semi) (literal_parts one inside opened length ++ one closing) (piece semi) (literal_parts piece whole as_it_is length ++ piece closing) (op_tok semi) (op2 (literal_parts one inside opened length) (one closing) (literal_parts piece whole as_it_is length) (piece closing) (h1) (op_tok closing))))) ∙ ap opened (sym (at-TypeTree-Array piece whole as_it_is x opening element semi length closing at))

pub op-TypeTree-Slice : (x : TypeTree) (opening : Token) (element : TypeTree) (closing : Token) → out-TypeTree x ≡ TypeTree-F.Slice opening element closing → Op (type_tree_parts one inside opened element) (type_tree_parts piece whole as_it_is element) → Op (type_tree_parts one inside opened x) (type_tree_parts piece whole as_it_is x)
op-TypeTree-Slice x opening element closing is h0 =
    let at : x ≡ type_tree.Slice opening element closing = sym (roll-out-TypeTree x) ∙ ap roll-TypeTree is ∙ type_tree.rolls-Slice opening element closing in
    at-TypeTree-Slice one inside opened x opening element closing at ∙ (op2 (one opening) (type_tree_parts one inside opened element ++ one closing) (piece opening) (type_tree_parts piece whole as_it_is element ++ piece closing) (op_tok opening) (op2 (type_tree_parts one inside opened element) (one closing) (type_tree_parts piece whole as_it_is element) (piece closing) (h0) (op_tok closing))) ∙ ap opened (sym (at-TypeTree-Slice piece whole as_it_is x opening element closing at))

pub op-TypeTree-Unit : (x : TypeTree) (opening : Token) (closing : Token) → out-TypeTree x ≡ TypeTree-F.TypeTree::Unit opening closing → Op (type_tree_parts one inside opened x) (type_tree_parts piece whole as_it_is x)
op-TypeTree-Unit x opening closing is =
    let at : x ≡ type_tree.Unit opening closing = sym (roll-out-TypeTree x) ∙ ap roll-TypeTree is ∙ type_tree.rolls-Unit opening closing in
    at-TypeTree-Unit one inside opened x opening closing at ∙ (op2 (one opening) (one closing) (piece opening) (piece closing) (op_tok opening) (op_tok closing)) ∙ ap opened (sym (at-TypeTree-Unit piece whole as_it_is x opening closing at))

pub op-TypeTree-Dyn : (x : TypeTree) (word : Token) (bound : Bound) → out-TypeTree x ≡ TypeTree-F.Dyn word bound → Op (bound_parts one inside opened bound) (bound_parts piece whole as_it_is bound) → Op (type_tree_parts one inside opened x) (type_tree_parts piece whole as_it_is x)
op-TypeTree-Dyn x word bound is h0 =
    let at : x ≡ type_tree.Dyn word bound = sym (roll-out-TypeTree x) ∙ ap roll-TypeTree is ∙ type_tree.rolls-Dyn word bound in
    at-TypeTree-Dyn one inside opened x word bound at ∙ (op2 (one word) (bound_parts one inside opened bound) (piece word) (bound_parts piece whole as_it_is bound) (op_tok word) (h0)) ∙ ap opened (sym (at-TypeTree-Dyn piece whole as_it_is x word bound at))

pub op-TypeTree-Bare : (x : TypeTree) (x0 : Bound) → out-TypeTree x ≡ TypeTree-F.Bare x0 → Op (bound_parts one inside opened x0) (bound_parts piece whole as_it_is x0) → Op (type_tree_parts one inside opened x) (type_tree_parts piece whole as_it_is x)
op-TypeTree-Bare x x0 is h0 =
    let at : x ≡ type_tree.Bare x0 = sym (roll-out-TypeTree x) ∙ ap roll-TypeTree is ∙ type_tree.rolls-Bare x0 in
    at-TypeTree-Bare one inside opened x x0 at ∙ (h0) ∙ ap opened (sym (at-TypeTree-Bare piece whole as_it_is x x0 at))

pub op-TypeTree-Group : (x : TypeTree) (group : Group) (inner : TypeTree) → out-TypeTree x ≡ TypeTree-F.TypeTree::Group group inner → pieces_of group ≡ type_tree_parts piece whole as_it_is inner → Op (type_tree_parts one inside opened inner) (type_tree_parts piece whole as_it_is inner) → Op (type_tree_parts one inside opened x) (type_tree_parts piece whole as_it_is x)
op-TypeTree-Group x group inner is h0 h1 =
    let at : x ≡ type_tree.Group group inner = sym (roll-out-TypeTree x) ∙ ap roll-TypeTree is ∙ type_tree.rolls-Group group inner in
    at-TypeTree-Group one inside opened x group inner at ∙ (op_group group (type_tree_parts one inside opened inner) (type_tree_parts piece whole as_it_is inner) h0 h1) ∙ ap opened (sym (at-TypeTree-Group piece whole as_it_is x group inner at))

pub op-Qualified : (x : Qualified) → Op (type_tree_parts one inside opened (out-Qualified x).self_type) (type_tree_parts piece whole as_it_is (out-Qualified x).self_type) → Op (path_parts one inside opened (out-Qualified x).of_trait) (path_parts piece whole as_it_is (out-Qualified x).of_trait) → Op (qualified_parts one inside opened x) (qualified_parts piece whole as_it_is x)
op-Qualified x h0 h1 =
    at-Qualified one inside opened x ∙ (op2 (one (out-Qualified x).open) (type_tree_parts one inside opened (out-Qualified x).self_type ++ (one (out-Qualified x).word ++ (path_parts one inside opened (out-Qualified x).of_trait ++ (one (out-Qualified x).close ++ (one (out-Qualified x).separator ++ one (out-Qualified x).name))))) (piece (out-Qualified x).open) (type_tree_parts piece whole as_it_is (out-Qualified x).self_type ++ (piece (out-Qualified x).word ++ (path_parts piece whole as_it_is (out-Qualified x).of_trait ++ (piece (out-Qualified x).close ++ (piece (out-Qualified x).separator ++ piece (out-Qualified x).name))))) (op_tok (out-Qualified x).open) (op2 (type_tree_parts one inside opened (out-Qualified x).self_type) (one (out-Qualified x).word ++ (path_parts one inside opened (out-Qualified x).of_trait ++ (one (out-Qualified x).close ++ (one (out-Qualified x).separator ++ one (out-Qualified x).name)))) (type_tree_parts piece whole as_it_is (out-Qualified x).self_type) (piece (out-Qualified x).word ++ (path_parts piece whole as_it_is (out-Qualified x).of_trait ++ (piece (out-Qualified x).close ++ (piece (out-Qualified x).separator ++ piece (out-Qualified x).name)))) (h0) (op2 (one (out-Qualified x).word) (path_parts one inside opened (out-Qualified x).of_trait ++ (one (out-Qualified x).close ++ (one (out-Qualified x).separator ++ one (out-Qualified x).name))) (piece (out-Qualified x).word) (path_parts piece whole as_it_is (out-Qualified x).of_trait ++ (piece (out-Qualified x).close ++ (piece (out-Qualified x).separator ++ piece (out-Qualified x).name))) (op_tok (out-Qualified x).word) (op2 (path_parts one inside opened (out-Qualified x).of_trait) (one (out-Qualified x).close ++ (one (out-Qualified x).separator ++ one (out-Qualified x).name)) (path_parts piece whole as_it_is (out-Qualified x).of_trait) (piece (out-Qualified x).close ++ (piece (out-Qualified x).separator ++ piece (out-Qualified x).name)) (h1) (op2 (one (out-Qualified x).close) (one (out-Qualified x).separator ++ one (out-Qualified x).name) (piece (out-Qualified x).close) (piece (out-Qualified x).separator ++ piece (out-Qualified x).name) (op_tok (out-Qualified x).close) (op2 (one (out-Qualified x).separator) (one (out-Qualified x).name) (piece (out-Qualified x).separator) (piece (out-Qualified x).name) (op_tok (out-Qualified x).separator) (op_tok (out-Qualified x).name))))))) ∙ ap opened (sym (at-Qualified piece whole as_it_is x))

pub op-Pat-Wild : (x : Pat) (x0 : Token) → out-Pat x ≡ Pat-F.Wild x0 → Op (pat_parts one inside opened x) (pat_parts piece whole as_it_is x)
op-Pat-Wild x x0 is =
    let at : x ≡ pat.Wild x0 = sym (roll-out-Pat x) ∙ ap roll-Pat is ∙ pat.rolls-Wild x0 in
    at-Pat-Wild one inside opened x x0 at ∙ (op_tok x0) ∙ ap opened (sym (at-Pat-Wild piece whole as_it_is x x0 at))

pub op-Pat-Name : (x : Pat) (word_ref : Option Token) (word_mut : Option Token) (name : Token) → out-Pat x ≡ Pat-F.Name word_ref word_mut name → Op (pat_parts one inside opened x) (pat_parts piece whole as_it_is x)
op-Pat-Name x word_ref word_mut name is =
    let at : x ≡ pat.Name word_ref word_mut name = sym (roll-out-Pat x) ∙ ap roll-Pat is ∙ pat.rolls-Name word_ref word_mut name in
    at-Pat-Name one inside opened x word_ref word_mut name at ∙ (op2 (maybe one word_ref) (maybe one word_mut ++ one name) (maybe piece word_ref) (maybe piece word_mut ++ piece name) (op_maybe_tok word_ref) (op2 (maybe one word_mut) (one name) (maybe piece word_mut) (piece name) (op_maybe_tok word_mut) (op_tok name))) ∙ ap opened (sym (at-Pat-Name piece whole as_it_is x word_ref word_mut name at))

pub op-Pat-Literal : (x : Pat) (x0 : Literal) → out-Pat x ≡ Pat-F.Literal x0 → Op (literal_parts one inside opened x0) (literal_parts piece whole as_it_is x0) → Op (pat_parts one inside opened x) (pat_parts piece whole as_it_is x)
op-Pat-Literal x x0 is h0 =
    let at : x ≡ pat.Literal x0 = sym (roll-out-Pat x) ∙ ap roll-Pat is ∙ pat.rolls-Literal x0 in
    at-Pat-Literal one inside opened x x0 at ∙ (h0) ∙ ap opened (sym (at-Pat-Literal piece whole as_it_is x x0 at))

pub op-Pat-Range : (x : Pat) (start : Literal) (dots : Token) (end : Literal) → out-Pat x ≡ Pat-F.Range start dots end → Op (literal_parts one inside opened start) (literal_parts piece whole as_it_is start) → Op (literal_parts one inside opened end) (literal_parts piece whole as_it_is end) → Op (pat_parts one inside opened x) (pat_parts piece whole as_it_is x)
op-Pat-Range x start dots end is h0 h1 =
    let at : x ≡ pat.Range start dots end = sym (roll-out-Pat x) ∙ ap roll-Pat is ∙ pat.rolls-Range start dots end in
    at-Pat-Range one inside opened x start dots end at ∙ (op2 (literal_parts one inside opened start) (one dots ++ literal_parts one inside opened end) (literal_parts piece whole as_it_is start) (piece dots ++ literal_parts piece whole as_it_is end) (h0) (op2 (one dots) (literal_parts one inside opened end) (piece dots) (literal_parts piece whole as_it_is end) (op_tok dots) (h1))) ∙ ap opened (sym (at-Pat-Range piece whole as_it_is x start dots end at))

pub op-Pat-Path : (x : Pat) (x0 : Path) → out-Pat x ≡ Pat-F.Path x0 → Op (path_parts one inside opened x0) (path_parts piece whole as_it_is x0) → Op (pat_parts one inside opened x) (pat_parts piece whole as_it_is x)
op-Pat-Path x x0 is h0 =
    let at : x ≡ pat.Path x0 = sym (roll-out-Pat x) ∙ ap roll-Pat is ∙ pat.rolls-Path x0 in
    at-Pat-Path one inside opened x x0 at ∙ (h0) ∙ ap opened (sym (at-Pat-Path piece whole as_it_is x x0 at))

pub op-Pat-Tuple : (x : Pat) (path : Path) (opening : Token) (fields : List (Listed Pat)) (closing : Token) → out-Pat x ≡ Pat-F.Tuple path opening fields closing → Op (path_parts one inside opened path) (path_parts piece whole as_it_is path) → Op (each (listed_parts one inside opened (pat_parts one inside opened)) fields) (each (listed_parts piece whole as_it_is (pat_parts piece whole as_it_is)) fields) → Op (pat_parts one inside opened x) (pat_parts piece whole as_it_is x)
op-Pat-Tuple x path opening fields closing is h0 h1 =
    let at : x ≡ pat.Tuple path opening fields closing = sym (roll-out-Pat x) ∙ ap roll-Pat is ∙ pat.rolls-Tuple path opening fields closing in
    at-Pat-Tuple one inside opened x path opening fields closing at ∙ (op2 (path_parts one inside opened path) (one opening ++ (each (listed_parts one inside opened (pat_parts one inside opened)) fields ++ one closing)) (path_parts piece whole as_it_is path) (piece opening ++ (each (listed_parts piece whole as_it_is (pat_parts piece whole as_it_is)) fields ++ piece closing)) (h0) (op2 (one opening) (each (listed_parts one inside opened (pat_parts one inside opened)) fields ++ one closing) (piece opening) (each (listed_parts piece whole as_it_is (pat_parts piece whole as_it_is)) fields ++ piece closing) (op_tok opening) (op2 (each (listed_parts one inside opened (pat_parts one inside opened)) fields) (one closing) (each (listed_parts piece whole as_it_is (pat_parts piece whole as_it_is)) fields) (piece closing) (h1) (op_tok closing)))) ∙ ap opened (sym (at-Pat-Tuple piece whole as_it_is x path opening fields closing at))

pub op-Pat-Struct : (x : Pat) (path : Path) (opening : Token) (fields : List (Listed (FieldPat Pat))) (rest : Option Token) (closing : Token) → out-Pat x ≡ Pat-F.Struct path opening fields rest closing → Op (path_parts one inside opened path) (path_parts piece whole as_it_is path) → Op (each (listed_parts one inside opened (field_pat_parts one inside opened (pat_parts one inside opened))) fields) (each (listed_parts piece whole as_it_is (field_pat_parts piece whole as_it_is (pat_parts piece whole as_it_is))) fields) → Op (pat_parts one inside opened x) (pat_parts piece whole as_it_is x)
op-Pat-Struct x path opening fields rest closing is h0 h1 =
    let at : x ≡ pat.Struct path opening fields rest closing = sym (roll-out-Pat x) ∙ ap roll-Pat is ∙ pat.rolls-Struct path opening fields rest closing in
    at-Pat-Struct one inside opened x path opening fields rest closing at ∙ (op2 (path_parts one inside opened path) (one opening ++ (each (listed_parts one inside opened (field_pat_parts one inside opened (pat_parts one inside opened))) fields ++ (maybe one rest ++ one closing))) (path_parts piece whole as_it_is path) (piece opening ++ (each (listed_parts piece whole as_it_is (field_pat_parts piece whole as_it_is (pat_parts piece whole as_it_is))) fields ++ (maybe piece rest ++ piece closing))) (h0) (op2 (one opening) (each (listed_parts one inside opened (field_pat_parts one inside opened (pat_parts one inside opened))) fields ++ (maybe one rest ++ one closing)) (piece opening) (each (listed_parts piece whole as_it_is (field_pat_parts piece whole as_it_is (pat_parts piece whole as_it_is))) fields ++ (maybe piece rest ++ piece closing)) (op_tok opening) (op2 (each (listed_parts one inside opened (field_pat_parts one inside opened (pat_parts one inside opened))) fields) (maybe one rest ++ one closing) (each (listed_parts piece whole as_it_is (field_pat_parts piece whole as_it_is (pat_parts piece whole as_it_is))) fields) (maybe piece rest ++ piece closing) (h1) (op2 (maybe one rest) (one closing) (maybe piece rest) (piece closing) (op_maybe_tok rest) (op_tok closing))))) ∙ ap opened (sym (at-Pat-Struct piece whole as_it_is x path opening fields rest closing at))

pub op-Pat-Group : (x : Pat) (group : Group) (inner : Pat) → out-Pat x ≡ Pat-F.Group group inner → pieces_of group ≡ pat_parts piece whole as_it_is inner → Op (pat_parts one inside opened inner) (pat_parts piece whole as_it_is inner) → Op (pat_parts one inside opened x) (pat_parts piece whole as_it_is x)
op-Pat-Group x group inner is h0 h1 =
    let at : x ≡ pat.Group group inner = sym (roll-out-Pat x) ∙ ap roll-Pat is ∙ pat.rolls-Group group inner in
    at-Pat-Group one inside opened x group inner at ∙ (op_group group (pat_parts one inside opened inner) (pat_parts piece whole as_it_is inner) h0 h1) ∙ ap opened (sym (at-Pat-Group piece whole as_it_is x group inner at))

pub op-TopPat-Alternatives : (x : TopPat) (x0 : List Alternative) → out-TopPat x ≡ TopPat-F.Alternatives x0 → Op (each (alternative_parts one inside opened) x0) (each (alternative_parts piece whole as_it_is) x0) → Op (top_pat_parts one inside opened x) (top_pat_parts piece whole as_it_is x)
op-TopPat-Alternatives x x0 is h0 =
    let at : x ≡ top_pat.Alternatives x0 = sym (roll-out-TopPat x) ∙ ap roll-TopPat is ∙ top_pat.rolls-Alternatives x0 in
    at-TopPat-Alternatives one inside opened x x0 at ∙ (h0) ∙ ap opened (sym (at-TopPat-Alternatives piece whole as_it_is x x0 at))

pub op-TopPat-Group : (x : TopPat) (group : Group) (inner : TopPat) → out-TopPat x ≡ TopPat-F.Group group inner → pieces_of group ≡ top_pat_parts piece whole as_it_is inner → Op (top_pat_parts one inside opened inner) (top_pat_parts piece whole as_it_is inner) → Op (top_pat_parts one inside opened x) (top_pat_parts piece whole as_it_is x)
op-TopPat-Group x group inner is h0 h1 =
    let at : x ≡ top_pat.Group group inner = sym (roll-out-TopPat x) ∙ ap roll-TopPat is ∙ top_pat.rolls-Group group inner in
    at-TopPat-Group one inside opened x group inner at ∙ (op_group group (top_pat_parts one inside opened inner) (top_pat_parts piece whole as_it_is inner) h0 h1) ∙ ap opened (sym (at-TopPat-Group piece whole as_it_is x group inner at))

pub op-Expr-Literal : (x : Expr) (x0 : Token) → out-Expr x ≡ Expr-F.Literal x0 → Op (expr_parts one inside opened x) (expr_parts piece whole as_it_is x)
op-Expr-Literal x x0 is =
    let at : x ≡ expr.Literal x0 = sym (roll-out-Expr x) ∙ ap roll-Expr is ∙ expr.rolls-Literal x0 in
    at-Expr-Literal one inside opened x x0 at ∙ (op_tok x0) ∙ ap opened (sym (at-Expr-Literal piece whole as_it_is x x0 at))

pub op-Expr-Path : (x : Expr) (x0 : Path) → out-Expr x ≡ Expr-F.Path x0 → Op (path_parts one inside opened x0) (path_parts piece whole as_it_is x0) → Op (expr_parts one inside opened x) (expr_parts piece whole as_it_is x)
op-Expr-Path x x0 is h0 =
    let at : x ≡ expr.Path x0 = sym (roll-out-Expr x) ∙ ap roll-Expr is ∙ expr.rolls-Path x0 in
    at-Expr-Path one inside opened x x0 at ∙ (h0) ∙ ap opened (sym (at-Expr-Path piece whole as_it_is x x0 at))

pub op-Expr-Struct : (x : Expr) (path : Path) (opening : Token) (fields : List (Listed (FieldExpr Expr))) (closing : Token) → out-Expr x ≡ Expr-F.Struct path opening fields closing → Op (path_parts one inside opened path) (path_parts piece whole as_it_is path) → Op (each (listed_parts one inside opened (field_expr_parts one inside opened (expr_parts one inside opened))) fields) (each (listed_parts piece whole as_it_is (field_expr_parts piece whole as_it_is (expr_parts piece whole as_it_is))) fields) → Op (expr_parts one inside opened x) (expr_parts piece whole as_it_is x)
op-Expr-Struct x path opening fields closing is h0 h1 =
    let at : x ≡ expr.Struct path opening fields closing = sym (roll-out-Expr x) ∙ ap roll-Expr is ∙ expr.rolls-Struct path opening fields closing in
    at-Expr-Struct one inside opened x path opening fields closing at ∙ (op2 (path_parts one inside opened path) (one opening ++ (each (listed_parts one inside opened (field_expr_parts one inside opened (expr_parts one inside opened))) fields ++ one closing)) (path_parts piece whole as_it_is path) (piece opening ++ (each (listed_parts piece whole as_it_is (field_expr_parts piece whole as_it_is (expr_parts piece whole as_it_is))) fields ++ piece closing)) (h0) (op2 (one opening) (each (listed_parts one inside opened (field_expr_parts one inside opened (expr_parts one inside opened))) fields ++ one closing) (piece opening) (each (listed_parts piece whole as_it_is (field_expr_parts piece whole as_it_is (expr_parts piece whole as_it_is))) fields ++ piece closing) (op_tok opening) (op2 (each (listed_parts one inside opened (field_expr_parts one inside opened (expr_parts one inside opened))) fields) (one closing) (each (listed_parts piece whole as_it_is (field_expr_parts piece whole as_it_is (expr_parts piece whole as_it_is))) fields) (piece closing) (h1) (op_tok closing)))) ∙ ap opened (sym (at-Expr-Struct piece whole as_it_is x path opening fields closing at))

pub op-Expr-Paren : (x : Expr) (opening : Token) (inner : Expr) (closing : Token) → out-Expr x ≡ Expr-F.Paren opening inner closing → Op (expr_parts one inside opened inner) (expr_parts piece whole as_it_is inner) → Op (expr_parts one inside opened x) (expr_parts piece whole as_it_is x)
op-Expr-Paren x opening inner closing is h0 =
    let at : x ≡ expr.Paren opening inner closing = sym (roll-out-Expr x) ∙ ap roll-Expr is ∙ expr.rolls-Paren opening inner closing in
    at-Expr-Paren one inside opened x opening inner closing at ∙ (op2 (one opening) (expr_parts one inside opened inner ++ one closing) (piece opening) (expr_parts piece whole as_it_is inner ++ piece closing) (op_tok opening) (op2 (expr_parts one inside opened inner) (one closing) (expr_parts piece whole as_it_is inner) (piece closing) (h0) (op_tok closing))) ∙ ap opened (sym (at-Expr-Paren piece whole as_it_is x opening inner closing at))

pub op-Expr-Array : (x : Expr) (opening : Token) (elements : List (Listed Expr)) (closing : Token) → out-Expr x ≡ Expr-F.Array opening elements closing → Op (each (listed_parts one inside opened (expr_parts one inside opened)) elements) (each (listed_parts piece whole as_it_is (expr_parts piece whole as_it_is)) elements) → Op (expr_parts one inside opened x) (expr_parts piece whole as_it_is x)
op-Expr-Array x opening elements closing is h0 =
    let at : x ≡ expr.Array opening elements closing = sym (roll-out-Expr x) ∙ ap roll-Expr is ∙ expr.rolls-Array opening elements closing in
    at-Expr-Array one inside opened x opening elements closing at ∙ (op2 (one opening) (each (listed_parts one inside opened (expr_parts one inside opened)) elements ++ one closing) (piece opening) (each (listed_parts piece whole as_it_is (expr_parts piece whole as_it_is)) elements ++ piece closing) (op_tok opening) (op2 (each (listed_parts one inside opened (expr_parts one inside opened)) elements) (one closing) (each (listed_parts piece whole as_it_is (expr_parts piece whole as_it_is)) elements) (piece closing) (h0) (op_tok closing))) ∙ ap opened (sym (at-Expr-Array piece whole as_it_is x opening elements closing at))

pub op-Expr-Repeat : (x : Expr) (opening : Token) (element : Expr) (semi : Token) (length : Literal) (closing : Token) → out-Expr x ≡ Expr-F.Repeat opening element semi length closing → Op (expr_parts one inside opened element) (expr_parts piece whole as_it_is element) → Op (literal_parts one inside opened length) (literal_parts piece whole as_it_is length) → Op (expr_parts one inside opened x) (expr_parts piece whole as_it_is x)
op-Expr-Repeat x opening element semi length closing is h0 h1 =
    let at : x ≡ expr.Repeat opening element semi length closing = sym (roll-out-Expr x) ∙ ap roll-Expr is ∙ expr.rolls-Repeat opening element semi length closing in
    at-Expr-Repeat one inside opened x opening element semi length closing at ∙ (op2 (one opening) (expr_parts one inside opened element ++ (one semi ++ (literal_parts one inside opened length ++ one closing))) (piece opening) (expr_parts piece whole as_it_is element ++ (piece semi ++ (literal_parts piece whole as_it_is length ++ piece closing))) (op_tok opening) (op2 (expr_parts one inside opened element) (one semi ++ (literal_parts one inside opened length ++ one closing)) (expr_parts piece whole as_it_is element) (piece semi ++ (literal_parts piece whole as_it_is length ++ piece closing)) (h0) (op2 (one semi) (literal_parts one inside opened length ++ one closing) (piece semi) (literal_parts piece whole as_it_is length ++ piece closing) (op_tok semi) (op2 (literal_parts one inside opened length) (one closing) (literal_parts piece whole as_it_is length) (piece closing) (h1) (op_tok closing))))) ∙ ap opened (sym (at-Expr-Repeat piece whole as_it_is x opening element semi length closing at))

pub op-Expr-Block : (x : Expr) (x0 : Block Body) → out-Expr x ≡ Expr-F.Block x0 → Op (block_parts one inside opened (body_parts one inside opened) x0) (block_parts piece whole as_it_is (body_parts piece whole as_it_is) x0) → Op (expr_parts one inside opened x) (expr_parts piece whole as_it_is x)
op-Expr-Block x x0 is h0 =
    let at : x ≡ expr.Block x0 = sym (roll-out-Expr x) ∙ ap roll-Expr is ∙ expr.rolls-Block x0 in
    at-Expr-Block one inside opened x x0 at ∙ (h0) ∙ ap opened (sym (at-Expr-Block piece whole as_it_is x x0 at))

pub op-Expr-If : (x : Expr) (word : Token) (condition : Condition Expr) (then : Block Body) (branches : List ElseIf) (word_else : Option Token) (otherwise : Option (Block Body)) → out-Expr x ≡ Expr-F.If word condition then branches word_else otherwise → Op (condition_parts one inside opened (expr_parts one inside opened) condition) (condition_parts piece whole as_it_is (expr_parts piece whole as_it_is) condition) → Op (block_parts one inside opened (body_parts one inside opened) then) (block_parts piece whole as_it_is (body_parts piece whole as_it_is) then) → Op (each (else_if_parts one inside opened) branches) (each (else_if_parts piece whole as_it_is) branches) → Op (maybe (block_parts one inside opened (body_parts one inside opened)) otherwise) (maybe (block_parts piece whole as_it_is (body_parts piece whole as_it_is)) otherwise) → Op (expr_parts one inside opened x) (expr_parts piece whole as_it_is x)
op-Expr-If x word condition then branches word_else otherwise is h0 h1 h2 h3 =
    let at : x ≡ expr.If word condition then branches word_else otherwise = sym (roll-out-Expr x) ∙ ap roll-Expr is ∙ expr.rolls-If word condition then branches word_else otherwise in
    at-Expr-If one inside opened x word condition then branches word_else otherwise at ∙ (op2 (one word) (condition_parts one inside opened (expr_parts one inside opened) condition ++ (block_parts one inside opened (body_parts one inside opened) then ++ (each (else_if_parts one inside opened) branches ++ (maybe one word_else ++ maybe (block_parts one inside opened (body_parts one inside opened)) otherwise)))) (piece word) (condition_parts piece whole as_it_is (expr_parts piece whole as_it_is) condition ++ (block_parts piece whole as_it_is (body_parts piece whole as_it_is) then ++ (each (else_if_parts piece whole as_it_is) branches ++ (maybe piece word_else ++ maybe (block_parts piece whole as_it_is (body_parts piece whole as_it_is)) otherwise)))) (op_tok word) (op2 (condition_parts one inside opened (expr_parts one inside opened) condition) (block_parts one inside opened (body_parts one inside opened) then ++ (each (else_if_parts one inside opened) branches ++ (maybe one word_else ++ maybe (block_parts one inside opened (body_parts one inside opened)) otherwise))) (condition_parts piece whole as_it_is (expr_parts piece whole as_it_is) condition) (block_parts piece whole as_it_is (body_parts piece whole as_it_is) then ++ (each (else_if_parts piece whole as_it_is) branches ++ (maybe piece word_else ++ maybe (block_parts piece whole as_it_is (body_parts piece whole as_it_is)) otherwise))) (h0) (op2 (block_parts one inside opened (body_parts one inside opened) then) (each (else_if_parts one inside opened) branches ++ (maybe one word_else ++ maybe (block_parts one inside opened (body_parts one inside opened)) otherwise)) (block_parts piece whole as_it_is (body_parts piece whole as_it_is) then) (each (else_if_parts piece whole as_it_is) branches ++ (maybe piece word_else ++ maybe (block_parts piece whole as_it_is (body_parts piece whole as_it_is)) otherwise)) (h1) (op2 (each (else_if_parts one inside opened) branches) (maybe one word_else ++ maybe (block_parts one inside opened (body_parts one inside opened)) otherwise) (each (else_if_parts piece whole as_it_is) branches) (maybe piece word_else ++ maybe (block_parts piece whole as_it_is (body_parts piece whole as_it_is)) otherwise) (h2) (op2 (maybe one word_else) (maybe (block_parts one inside opened (body_parts one inside opened)) otherwise) (maybe piece word_else) (maybe (block_parts piece whole as_it_is (body_parts piece whole as_it_is)) otherwise) (op_maybe_tok word_else) (h3)))))) ∙ ap opened (sym (at-Expr-If piece whole as_it_is x word condition then branches word_else otherwise at))

pub op-Expr-Match : (x : Expr) (word : Token) (scrutinee : Expr) (opening : Token) (arms : List (Arm Expr)) (closing : Token) → out-Expr x ≡ Expr-F.Match word scrutinee opening arms closing → Op (expr_parts one inside opened scrutinee) (expr_parts piece whole as_it_is scrutinee) → Op (each (arm_parts one inside opened (expr_parts one inside opened)) arms) (each (arm_parts piece whole as_it_is (expr_parts piece whole as_it_is)) arms) → Op (expr_parts one inside opened x) (expr_parts piece whole as_it_is x)
op-Expr-Match x word scrutinee opening arms closing is h0 h1 =
    let at : x ≡ expr.Match word scrutinee opening arms closing = sym (roll-out-Expr x) ∙ ap roll-Expr is ∙ expr.rolls-Match word scrutinee opening arms closing in
    at-Expr-Match one inside opened x word scrutinee opening arms closing at ∙ (op2 (one word) (expr_parts one inside opened scrutinee ++ (one opening ++ (each (arm_parts one inside opened (expr_parts one inside opened)) arms ++ one closing))) (piece word) (expr_parts piece whole as_it_is scrutinee ++ (piece opening ++ (each (arm_parts piece whole as_it_is (expr_parts piece whole as_it_is)) arms ++ piece closing))) (op_tok word) (op2 (expr_parts one inside opened scrutinee) (one opening ++ (each (arm_parts one inside opened (expr_parts one inside opened)) arms ++ one closing)) (expr_parts piece whole as_it_is scrutinee) (piece opening ++ (each (arm_parts piece whole as_it_is (expr_parts piece whole as_it_is)) arms ++ piece closing)) (h0) (op2 (one opening) (each (arm_parts one inside opened (expr_parts one inside opened)) arms ++ one closing) (piece opening) (each (arm_parts piece whole as_it_is (expr_parts piece whole as_it_is)) arms ++ piece closing) (op_tok opening) (op2 (each (arm_parts one inside opened (expr_parts one inside opened)) arms) (one closing) (each (arm_parts piece whole as_it_is (expr_parts piece whole as_it_is)) arms) (piece closing) (h1) (op_tok closing))))) ∙ ap opened (sym (at-Expr-Match piece whole as_it_is x word scrutinee opening arms closing at))

pub op-Expr-While : (x : Expr) (word : Token) (condition : Expr) (body : Block Body) → out-Expr x ≡ Expr-F.While word condition body → Op (expr_parts one inside opened condition) (expr_parts piece whole as_it_is condition) → Op (block_parts one inside opened (body_parts one inside opened) body) (block_parts piece whole as_it_is (body_parts piece whole as_it_is) body) → Op (expr_parts one inside opened x) (expr_parts piece whole as_it_is x)
op-Expr-While x word condition body is h0 h1 =
    let at : x ≡ expr.While word condition body = sym (roll-out-Expr x) ∙ ap roll-Expr is ∙ expr.rolls-While word condition body in
    at-Expr-While one inside opened x word condition body at ∙ (op2 (one word) (expr_parts one inside opened condition ++ block_parts one inside opened (body_parts one inside opened) body) (piece word) (expr_parts piece whole as_it_is condition ++ block_parts piece whole as_it_is (body_parts piece whole as_it_is) body) (op_tok word) (op2 (expr_parts one inside opened condition) (block_parts one inside opened (body_parts one inside opened) body) (expr_parts piece whole as_it_is condition) (block_parts piece whole as_it_is (body_parts piece whole as_it_is) body) (h0) (h1))) ∙ ap opened (sym (at-Expr-While piece whole as_it_is x word condition body at))

pub op-Expr-Loop : (x : Expr) (word : Token) (body : Block Body) → out-Expr x ≡ Expr-F.Loop word body → Op (block_parts one inside opened (body_parts one inside opened) body) (block_parts piece whole as_it_is (body_parts piece whole as_it_is) body) → Op (expr_parts one inside opened x) (expr_parts piece whole as_it_is x)
op-Expr-Loop x word body is h0 =
    let at : x ≡ expr.Loop word body = sym (roll-out-Expr x) ∙ ap roll-Expr is ∙ expr.rolls-Loop word body in
    at-Expr-Loop one inside opened x word body at ∙ (op2 (one word) (block_parts one inside opened (body_parts one inside opened) body) (piece word) (block_parts piece whole as_it_is (body_parts piece whole as_it_is) body) (op_tok word) (h0)) ∙ ap opened (sym (at-Expr-Loop piece whole as_it_is x word body at))

pub op-Expr-For : (x : Expr) (word : Token) (pat : Pat) (word_in : Token) (head : Expr) (dots : Option Token) (end : Option Expr) (body : Block Body) → out-Expr x ≡ Expr-F.For word pat word_in head dots end body → Op (pat_parts one inside opened pat) (pat_parts piece whole as_it_is pat) → Op (expr_parts one inside opened head) (expr_parts piece whole as_it_is head) → Op (maybe (expr_parts one inside opened) end) (maybe (expr_parts piece whole as_it_is) end) → Op (block_parts one inside opened (body_parts one inside opened) body) (block_parts piece whole as_it_is (body_parts piece whole as_it_is) body) → Op (expr_parts one inside opened x) (expr_parts piece whole as_it_is x)
op-Expr-For x word pat word_in head dots end body is h0 h1 h2 h3 =
    let at : x ≡ expr.For word pat word_in head dots end body = sym (roll-out-Expr x) ∙ ap roll-Expr is ∙ expr.rolls-For word pat word_in head dots end body in
    at-Expr-For one inside opened x word pat word_in head dots end body at ∙ (op2 (one word) (pat_parts one inside opened pat ++ (one word_in ++ (expr_parts one inside opened head ++ (maybe one dots ++ (maybe (expr_parts one inside opened) end ++ block_parts one inside opened (body_parts one inside opened) body))))) (piece word) (pat_parts piece whole as_it_is pat ++ (piece word_in ++ (expr_parts piece whole as_it_is head ++ (maybe piece dots ++ (maybe (expr_parts piece whole as_it_is) end ++ block_parts piece whole as_it_is (body_parts piece whole as_it_is) body))))) (op_tok word) (op2 (pat_parts one inside opened pat) (one word_in ++ (expr_parts one inside opened head ++ (maybe one dots ++ (maybe (expr_parts one inside opened) end ++ block_parts one inside opened (body_parts one inside opened) body)))) (pat_parts piece whole as_it_is pat) (piece word_in ++ (expr_parts piece whole as_it_is head ++ (maybe piece dots ++ (maybe (expr_parts piece whole as_it_is) end ++ block_parts piece whole as_it_is (body_parts piece whole as_it_is) body)))) (h0) (op2 (one word_in) (expr_parts one inside opened head ++ (maybe one dots ++ (maybe (expr_parts one inside opened) end ++ block_parts one inside opened (body_parts one inside opened) body))) (piece word_in) (expr_parts piece whole as_it_is head ++ (maybe piece dots ++ (maybe (expr_parts piece whole as_it_is) end ++ block_parts piece whole as_it_is (body_parts piece whole as_it_is) body))) (op_tok word_in) (op2 (expr_parts one inside opened head) (maybe one dots ++ (maybe (expr_parts one inside opened) end ++ block_parts one inside opened (body_parts one inside opened) body)) (expr_parts piece whole as_it_is head) (maybe piece dots ++ (maybe (expr_parts piece whole as_it_is) end ++ block_parts piece whole as_it_is (body_parts piece whole as_it_is) body)) (h1) (op2 (maybe one dots) (maybe (expr_parts one inside opened) end ++ block_parts one inside opened (body_parts one inside opened) body) (maybe piece dots) (maybe (expr_parts piece whole as_it_is) end ++ block_parts piece whole as_it_is (body_parts piece whole as_it_is) body) (op_maybe_tok dots) (op2 (maybe (expr_parts one inside opened) end) (block_parts one inside opened (body_parts one inside opened) body) (maybe (expr_parts piece whole as_it_is) end) (block_parts piece whole as_it_is (body_parts piece whole as_it_is) body) (h2) (h3))))))) ∙ ap opened (sym (at-Expr-For piece whole as_it_is x word pat word_in head dots end body at))

pub op-Expr-Closure : (x : Expr) (word_move : Option Token) (head : ClosureHead) (body : Expr) → out-Expr x ≡ Expr-F.Closure word_move head body → Op (closure_head_parts one inside opened head) (closure_head_parts piece whole as_it_is head) → Op (expr_parts one inside opened body) (expr_parts piece whole as_it_is body) → Op (expr_parts one inside opened x) (expr_parts piece whole as_it_is x)
op-Expr-Closure x word_move head body is h0 h1 =
    let at : x ≡ expr.Closure word_move head body = sym (roll-out-Expr x) ∙ ap roll-Expr is ∙ expr.rolls-Closure word_move head body in
    at-Expr-Closure one inside opened x word_move head body at ∙ (op2 (maybe one word_move) (closure_head_parts one inside opened head ++ expr_parts one inside opened body) (maybe piece word_move) (closure_head_parts piece whole as_it_is head ++ expr_parts piece whole as_it_is body) (op_maybe_tok word_move) (op2 (closure_head_parts one inside opened head) (expr_parts one inside opened body) (closure_head_parts piece whole as_it_is head) (expr_parts piece whole as_it_is body) (h0) (h1))) ∙ ap opened (sym (at-Expr-Closure piece whole as_it_is x word_move head body at))

pub op-Expr-ClosureTo : (x : Expr) (word_move : Option Token) (head : ClosureHead) (arrow : Token) (output : TypeTree) (body : Block Body) → out-Expr x ≡ Expr-F.ClosureTo word_move head arrow output body → Op (closure_head_parts one inside opened head) (closure_head_parts piece whole as_it_is head) → Op (type_tree_parts one inside opened output) (type_tree_parts piece whole as_it_is output) → Op (block_parts one inside opened (body_parts one inside opened) body) (block_parts piece whole as_it_is (body_parts piece whole as_it_is) body) → Op (expr_parts one inside opened x) (expr_parts piece whole as_it_is x)
op-Expr-ClosureTo x word_move head arrow output body is h0 h1 h2 =
    let at : x ≡ expr.ClosureTo word_move head arrow output body = sym (roll-out-Expr x) ∙ ap roll-Expr is ∙ expr.rolls-ClosureTo word_move head arrow output body in
    at-Expr-ClosureTo one inside opened x word_move head arrow output body at ∙ (op2 (maybe one word_move) (closure_head_parts one inside opened head ++ (one arrow ++ (type_tree_parts one inside opened output ++ block_parts one inside opened (body_parts one inside opened) body))) (maybe piece word_move) (closure_head_parts piece whole as_it_is head ++ (piece arrow ++ (type_tree_parts piece whole as_it_is output ++ block_parts piece whole as_it_is (body_parts piece whole as_it_is) body))) (op_maybe_tok word_move) (op2 (closure_head_parts one inside opened head) (one arrow ++ (type_tree_parts one inside opened output ++ block_parts one inside opened (body_parts one inside opened) body)) (closure_head_parts piece whole as_it_is head) (piece arrow ++ (type_tree_parts piece whole as_it_is output ++ block_parts piece whole as_it_is (body_parts piece whole as_it_is) body)) (h0) (op2 (one arrow) (type_tree_parts one inside opened output ++ block_parts one inside opened (body_parts one inside opened) body) (piece arrow) (type_tree_parts piece whole as_it_is output ++ block_parts piece whole as_it_is (body_parts piece whole as_it_is) body) (op_tok arrow) (op2 (type_tree_parts one inside opened output) (block_parts one inside opened (body_parts one inside opened) body) (type_tree_parts piece whole as_it_is output) (block_parts piece whole as_it_is (body_parts piece whole as_it_is) body) (h1) (h2))))) ∙ ap opened (sym (at-Expr-ClosureTo piece whole as_it_is x word_move head arrow output body at))

pub op-Expr-Macro : (x : Expr) (x0 : MacroCall) → out-Expr x ≡ Expr-F.Expr::Macro x0 → Op (expr_parts one inside opened x) (expr_parts piece whole as_it_is x)
op-Expr-Macro x x0 is =
    let at : x ≡ expr.Macro x0 = sym (roll-out-Expr x) ∙ ap roll-Expr is ∙ expr.rolls-Macro x0 in
    at-Expr-Macro one inside opened x x0 at ∙ (op_macro_call x0) ∙ ap opened (sym (at-Expr-Macro piece whole as_it_is x x0 at))

pub op-Expr-Return : (x : Expr) (word : Token) (value : Option Expr) → out-Expr x ≡ Expr-F.Return word value → Op (maybe (expr_parts one inside opened) value) (maybe (expr_parts piece whole as_it_is) value) → Op (expr_parts one inside opened x) (expr_parts piece whole as_it_is x)
op-Expr-Return x word value is h0 =
    let at : x ≡ expr.Return word value = sym (roll-out-Expr x) ∙ ap roll-Expr is ∙ expr.rolls-Return word value in
    at-Expr-Return one inside opened x word value at ∙ (op2 (one word) (maybe (expr_parts one inside opened) value) (piece word) (maybe (expr_parts piece whole as_it_is) value) (op_tok word) (h0)) ∙ ap opened (sym (at-Expr-Return piece whole as_it_is x word value at))

pub op-Expr-Break : (x : Expr) (x0 : Token) → out-Expr x ≡ Expr-F.Break x0 → Op (expr_parts one inside opened x) (expr_parts piece whole as_it_is x)
op-Expr-Break x x0 is =
    let at : x ≡ expr.Break x0 = sym (roll-out-Expr x) ∙ ap roll-Expr is ∙ expr.rolls-Break x0 in
    at-Expr-Break one inside opened x x0 at ∙ (op_tok x0) ∙ ap opened (sym (at-Expr-Break piece whole as_it_is x x0 at))

pub op-Expr-Continue : (x : Expr) (x0 : Token) → out-Expr x ≡ Expr-F.Continue x0 → Op (expr_parts one inside opened x) (expr_parts piece whole as_it_is x)
op-Expr-Continue x x0 is =
    let at : x ≡ expr.Continue x0 = sym (roll-out-Expr x) ∙ ap roll-Expr is ∙ expr.rolls-Continue x0 in
    at-Expr-Continue one inside opened x x0 at ∙ (op_tok x0) ∙ ap opened (sym (at-Expr-Continue piece whole as_it_is x x0 at))

pub op-Expr-MethodCall : (x : Expr) (receiver : Expr) (dot : Token) (name : Token) (opening : Token) (arguments : List (Listed Expr)) (closing : Token) → out-Expr x ≡ Expr-F.MethodCall receiver dot name opening arguments closing → Op (expr_parts one inside opened receiver) (expr_parts piece whole as_it_is receiver) → Op (each (listed_parts one inside opened (expr_parts one inside opened)) arguments) (each (listed_parts piece whole as_it_is (expr_parts piece whole as_it_is)) arguments) → Op (expr_parts one inside opened x) (expr_parts piece whole as_it_is x)
op-Expr-MethodCall x receiver dot name opening arguments closing is h0 h1 =
    let at : x ≡ expr.MethodCall receiver dot name opening arguments closing = sym (roll-out-Expr x) ∙ ap roll-Expr is ∙ expr.rolls-MethodCall receiver dot name opening arguments closing in
    at-Expr-MethodCall one inside opened x receiver dot name opening arguments closing at ∙ (op2 (expr_parts one inside opened receiver) (one dot ++ (one name ++ (one opening ++ (each (listed_parts one inside opened (expr_parts one inside opened)) arguments ++ one closing)))) (expr_parts piece whole as_it_is receiver) (piece dot ++ (piece name ++ (piece opening ++ (each (listed_parts piece whole as_it_is (expr_parts piece whole as_it_is)) arguments ++ piece closing)))) (h0) (op2 (one dot) (one name ++ (one opening ++ (each (listed_parts one inside opened (expr_parts one inside opened)) arguments ++ one closing))) (piece dot) (piece name ++ (piece opening ++ (each (listed_parts piece whole as_it_is (expr_parts piece whole as_it_is)) arguments ++ piece closing))) (op_tok dot) (op2 (one name) (one opening ++ (each (listed_parts one inside opened (expr_parts one inside opened)) arguments ++ one closing)) (piece name) (piece opening ++ (each (listed_parts piece whole as_it_is (expr_parts piece whole as_it_is)) arguments ++ piece closing)) (op_tok name) (op2 (one opening) (each (listed_parts one inside opened (expr_parts one inside opened)) arguments ++ one closing) (piece opening) (each (listed_parts piece whole as_it_is (expr_parts piece whole as_it_is)) arguments ++ piece closing) (op_tok opening) (op2 (each (listed_parts one inside opened (expr_parts one inside opened)) arguments) (one closing) (each (listed_parts piece whole as_it_is (expr_parts piece whole as_it_is)) arguments) (piece closing) (h1) (op_tok closing)))))) ∙ ap opened (sym (at-Expr-MethodCall piece whole as_it_is x receiver dot name opening arguments closing at))

pub op-Expr-Call : (x : Expr) (callee : Expr) (opening : Token) (arguments : List (Listed Expr)) (closing : Token) → out-Expr x ≡ Expr-F.Call callee opening arguments closing → Op (expr_parts one inside opened callee) (expr_parts piece whole as_it_is callee) → Op (each (listed_parts one inside opened (expr_parts one inside opened)) arguments) (each (listed_parts piece whole as_it_is (expr_parts piece whole as_it_is)) arguments) → Op (expr_parts one inside opened x) (expr_parts piece whole as_it_is x)
op-Expr-Call x callee opening arguments closing is h0 h1 =
    let at : x ≡ expr.Call callee opening arguments closing = sym (roll-out-Expr x) ∙ ap roll-Expr is ∙ expr.rolls-Call callee opening arguments closing in
    at-Expr-Call one inside opened x callee opening arguments closing at ∙ (op2 (expr_parts one inside opened callee) (one opening ++ (each (listed_parts one inside opened (expr_parts one inside opened)) arguments ++ one closing)) (expr_parts piece whole as_it_is callee) (piece opening ++ (each (listed_parts piece whole as_it_is (expr_parts piece whole as_it_is)) arguments ++ piece closing)) (h0) (op2 (one opening) (each (listed_parts one inside opened (expr_parts one inside opened)) arguments ++ one closing) (piece opening) (each (listed_parts piece whole as_it_is (expr_parts piece whole as_it_is)) arguments ++ piece closing) (op_tok opening) (op2 (each (listed_parts one inside opened (expr_parts one inside opened)) arguments) (one closing) (each (listed_parts piece whole as_it_is (expr_parts piece whole as_it_is)) arguments) (piece closing) (h1) (op_tok closing)))) ∙ ap opened (sym (at-Expr-Call piece whole as_it_is x callee opening arguments closing at))

pub op-Expr-Field : (x : Expr) (base : Expr) (dot : Token) (name : Token) → out-Expr x ≡ Expr-F.Field base dot name → Op (expr_parts one inside opened base) (expr_parts piece whole as_it_is base) → Op (expr_parts one inside opened x) (expr_parts piece whole as_it_is x)
op-Expr-Field x base dot name is h0 =
    let at : x ≡ expr.Field base dot name = sym (roll-out-Expr x) ∙ ap roll-Expr is ∙ expr.rolls-Field base dot name in
    at-Expr-Field one inside opened x base dot name at ∙ (op2 (expr_parts one inside opened base) (one dot ++ one name) (expr_parts piece whole as_it_is base) (piece dot ++ piece name) (h0) (op2 (one dot) (one name) (piece dot) (piece name) (op_tok dot) (op_tok name))) ∙ ap opened (sym (at-Expr-Field piece whole as_it_is x base dot name at))

pub op-Expr-Place : (x : Expr) (base : Expr) (dot : Token) (number : Literal) → out-Expr x ≡ Expr-F.Place base dot number → Op (expr_parts one inside opened base) (expr_parts piece whole as_it_is base) → Op (literal_parts one inside opened number) (literal_parts piece whole as_it_is number) → Op (expr_parts one inside opened x) (expr_parts piece whole as_it_is x)
op-Expr-Place x base dot number is h0 h1 =
    let at : x ≡ expr.Place base dot number = sym (roll-out-Expr x) ∙ ap roll-Expr is ∙ expr.rolls-Place base dot number in
    at-Expr-Place one inside opened x base dot number at ∙ (op2 (expr_parts one inside opened base) (one dot ++ literal_parts one inside opened number) (expr_parts piece whole as_it_is base) (piece dot ++ literal_parts piece whole as_it_is number) (h0) (op2 (one dot) (literal_parts one inside opened number) (piece dot) (literal_parts piece whole as_it_is number) (op_tok dot) (h1))) ∙ ap opened (sym (at-Expr-Place piece whole as_it_is x base dot number at))

pub op-Expr-Index : (x : Expr) (base : Expr) (opening : Token) (index : Expr) (closing : Token) → out-Expr x ≡ Expr-F.Index base opening index closing → Op (expr_parts one inside opened base) (expr_parts piece whole as_it_is base) → Op (expr_parts one inside opened index) (expr_parts piece whole as_it_is index) → Op (expr_parts one inside opened x) (expr_parts piece whole as_it_is x)
op-Expr-Index x base opening index closing is h0 h1 =
    let at : x ≡ expr.Index base opening index closing = sym (roll-out-Expr x) ∙ ap roll-Expr is ∙ expr.rolls-Index base opening index closing in
    at-Expr-Index one inside opened x base opening index closing at ∙ (op2 (expr_parts one inside opened base) (one opening ++ (expr_parts one inside opened index ++ one closing)) (expr_parts piece whole as_it_is base) (piece opening ++ (expr_parts piece whole as_it_is index ++ piece closing)) (h0) (op2 (one opening) (expr_parts one inside opened index ++ one closing) (piece opening) (expr_parts piece whole as_it_is index ++ piece closing) (op_tok opening) (op2 (expr_parts one inside opened index) (one closing) (expr_parts piece whole as_it_is index) (piece closing) (h1) (op_tok closing)))) ∙ ap opened (sym (at-Expr-Index piece whole as_it_is x base opening index closing at))

pub op-Expr-Unary : (x : Expr) (operator : Token) (operand : Expr) → out-Expr x ≡ Expr-F.Unary operator operand → Op (expr_parts one inside opened operand) (expr_parts piece whole as_it_is operand) → Op (expr_parts one inside opened x) (expr_parts piece whole as_it_is x)
op-Expr-Unary x operator operand is h0 =
    let at : x ≡ expr.Unary operator operand = sym (roll-out-Expr x) ∙ ap roll-Expr is ∙ expr.rolls-Unary operator operand in
    at-Expr-Unary one inside opened x operator operand at ∙ (op2 (one operator) (expr_parts one inside opened operand) (piece operator) (expr_parts piece whole as_it_is operand) (op_tok operator) (h0)) ∙ ap opened (sym (at-Expr-Unary piece whole as_it_is x operator operand at))

pub op-Expr-Ref : (x : Expr) (amp : Token) (word_mut : Option Token) (operand : Expr) → out-Expr x ≡ Expr-F.Ref amp word_mut operand → Op (expr_parts one inside opened operand) (expr_parts piece whole as_it_is operand) → Op (expr_parts one inside opened x) (expr_parts piece whole as_it_is x)
op-Expr-Ref x amp word_mut operand is h0 =
    let at : x ≡ expr.Ref amp word_mut operand = sym (roll-out-Expr x) ∙ ap roll-Expr is ∙ expr.rolls-Ref amp word_mut operand in
    at-Expr-Ref one inside opened x amp word_mut operand at ∙ (op2 (one amp) (maybe one word_mut ++ expr_parts one inside opened operand) (piece amp) (maybe piece word_mut ++ expr_parts piece whole as_it_is operand) (op_tok amp) (op2 (maybe one word_mut) (expr_parts one inside opened operand) (maybe piece word_mut) (expr_parts piece whole as_it_is operand) (op_maybe_tok word_mut) (h0))) ∙ ap opened (sym (at-Expr-Ref piece whole as_it_is x amp word_mut operand at))

pub op-Expr-RefRef : (x : Expr) (amps : Token) (word_mut : Option Token) (operand : Expr) → out-Expr x ≡ Expr-F.RefRef amps word_mut operand → Op (expr_parts one inside opened operand) (expr_parts piece whole as_it_is operand) → Op (expr_parts one inside opened x) (expr_parts piece whole as_it_is x)
op-Expr-RefRef x amps word_mut operand is h0 =
    let at : x ≡ expr.RefRef amps word_mut operand = sym (roll-out-Expr x) ∙ ap roll-Expr is ∙ expr.rolls-RefRef amps word_mut operand in
    at-Expr-RefRef one inside opened x amps word_mut operand at ∙ (op2 (one amps) (maybe one word_mut ++ expr_parts one inside opened operand) (piece amps) (maybe piece word_mut ++ expr_parts piece whole as_it_is operand) (op_tok amps) (op2 (maybe one word_mut) (expr_parts one inside opened operand) (maybe piece word_mut) (expr_parts piece whole as_it_is operand) (op_maybe_tok word_mut) (h0))) ∙ ap opened (sym (at-Expr-RefRef piece whole as_it_is x amps word_mut operand at))

pub op-Expr-Binary : (x : Expr) (left : Expr) (operator : Token) (right : Expr) → out-Expr x ≡ Expr-F.Binary left operator right → Op (expr_parts one inside opened left) (expr_parts piece whole as_it_is left) → Op (expr_parts one inside opened right) (expr_parts piece whole as_it_is right) → Op (expr_parts one inside opened x) (expr_parts piece whole as_it_is x)
op-Expr-Binary x left operator right is h0 h1 =
    let at : x ≡ expr.Binary left operator right = sym (roll-out-Expr x) ∙ ap roll-Expr is ∙ expr.rolls-Binary left operator right in
    at-Expr-Binary one inside opened x left operator right at ∙ (op2 (expr_parts one inside opened left) (one operator ++ expr_parts one inside opened right) (expr_parts piece whole as_it_is left) (piece operator ++ expr_parts piece whole as_it_is right) (h0) (op2 (one operator) (expr_parts one inside opened right) (piece operator) (expr_parts piece whole as_it_is right) (op_tok operator) (h1))) ∙ ap opened (sym (at-Expr-Binary piece whole as_it_is x left operator right at))

pub op-Expr-Assign : (x : Expr) (left : Expr) (operator : Token) (right : Expr) → out-Expr x ≡ Expr-F.Assign left operator right → Op (expr_parts one inside opened left) (expr_parts piece whole as_it_is left) → Op (expr_parts one inside opened right) (expr_parts piece whole as_it_is right) → Op (expr_parts one inside opened x) (expr_parts piece whole as_it_is x)
op-Expr-Assign x left operator right is h0 h1 =
    let at : x ≡ expr.Assign left operator right = sym (roll-out-Expr x) ∙ ap roll-Expr is ∙ expr.rolls-Assign left operator right in
    at-Expr-Assign one inside opened x left operator right at ∙ (op2 (expr_parts one inside opened left) (one operator ++ expr_parts one inside opened right) (expr_parts piece whole as_it_is left) (piece operator ++ expr_parts piece whole as_it_is right) (h0) (op2 (one operator) (expr_parts one inside opened right) (piece operator) (expr_parts piece whole as_it_is right) (op_tok operator) (h1))) ∙ ap opened (sym (at-Expr-Assign piece whole as_it_is x left operator right at))

pub op-Expr-Group : (x : Expr) (group : Group) (inner : Expr) → out-Expr x ≡ Expr-F.Expr::Group group inner → pieces_of group ≡ expr_parts piece whole as_it_is inner → Op (expr_parts one inside opened inner) (expr_parts piece whole as_it_is inner) → Op (expr_parts one inside opened x) (expr_parts piece whole as_it_is x)
op-Expr-Group x group inner is h0 h1 =
    let at : x ≡ expr.Group group inner = sym (roll-out-Expr x) ∙ ap roll-Expr is ∙ expr.rolls-Group group inner in
    at-Expr-Group one inside opened x group inner at ∙ (op_group group (expr_parts one inside opened inner) (expr_parts piece whole as_it_is inner) h0 h1) ∙ ap opened (sym (at-Expr-Group piece whole as_it_is x group inner at))

pub op-Stmt-Mention : (x : Stmt) (word : Token) (underscore : Token) (equals : Token) (refs : Refs) (semi : Option Token) → out-Stmt x ≡ Stmt-F.Mention word underscore equals refs semi → Op (stmt_parts one inside opened x) (stmt_parts piece whole as_it_is x)
op-Stmt-Mention x word underscore equals refs semi is =
    let at : x ≡ stmt.Mention word underscore equals refs semi = sym (roll-out-Stmt x) ∙ ap roll-Stmt is ∙ stmt.rolls-Mention word underscore equals refs semi in
    at-Stmt-Mention one inside opened x word underscore equals refs semi at ∙ (op2 (one word) (one underscore ++ (one equals ++ (refs_parts one inside opened refs ++ maybe one semi))) (piece word) (piece underscore ++ (piece equals ++ (refs_parts piece whole as_it_is refs ++ maybe piece semi))) (op_tok word) (op2 (one underscore) (one equals ++ (refs_parts one inside opened refs ++ maybe one semi)) (piece underscore) (piece equals ++ (refs_parts piece whole as_it_is refs ++ maybe piece semi)) (op_tok underscore) (op2 (one equals) (refs_parts one inside opened refs ++ maybe one semi) (piece equals) (refs_parts piece whole as_it_is refs ++ maybe piece semi) (op_tok equals) (op2 (refs_parts one inside opened refs) (maybe one semi) (refs_parts piece whole as_it_is refs) (maybe piece semi) (op_refs refs) (op_maybe_tok semi))))) ∙ ap opened (sym (at-Stmt-Mention piece whole as_it_is x word underscore equals refs semi at))

pub op-Stmt-Let : (x : Stmt) (word : Token) (pat : Pat) (annotation : Annotation) (equals : Token) (value : Expr) (semi : Option Token) → out-Stmt x ≡ Stmt-F.Let word pat annotation equals value semi → Op (pat_parts one inside opened pat) (pat_parts piece whole as_it_is pat) → Op (annotation_parts one inside opened annotation) (annotation_parts piece whole as_it_is annotation) → Op (expr_parts one inside opened value) (expr_parts piece whole as_it_is value) → Op (stmt_parts one inside opened x) (stmt_parts piece whole as_it_is x)
op-Stmt-Let x word pat annotation equals value semi is h0 h1 h2 =
    let at : x ≡ stmt.Let word pat annotation equals value semi = sym (roll-out-Stmt x) ∙ ap roll-Stmt is ∙ stmt.rolls-Let word pat annotation equals value semi in
    at-Stmt-Let one inside opened x word pat annotation equals value semi at ∙ (op2 (one word) (pat_parts one inside opened pat ++ (annotation_parts one inside opened annotation ++ (one equals ++ (expr_parts one inside opened value ++ maybe one semi)))) (piece word) (pat_parts piece whole as_it_is pat ++ (annotation_parts piece whole as_it_is annotation ++ (piece equals ++ (expr_parts piece whole as_it_is value ++ maybe piece semi)))) (op_tok word) (op2 (pat_parts one inside opened pat) (annotation_parts one inside opened annotation ++ (one equals ++ (expr_parts one inside opened value ++ maybe one semi))) (pat_parts piece whole as_it_is pat) (annotation_parts piece whole as_it_is annotation ++ (piece equals ++ (expr_parts piece whole as_it_is value ++ maybe piece semi))) (h0) (op2 (annotation_parts one inside opened annotation) (one equals ++ (expr_parts one inside opened value ++ maybe one semi)) (annotation_parts piece whole as_it_is annotation) (piece equals ++ (expr_parts piece whole as_it_is value ++ maybe piece semi)) (h1) (op2 (one equals) (expr_parts one inside opened value ++ maybe one semi) (piece equals) (expr_parts piece whole as_it_is value ++ maybe piece semi) (op_tok equals) (op2 (expr_parts one inside opened value) (maybe one semi) (expr_parts piece whole as_it_is value) (maybe piece semi) (h2) (op_maybe_tok semi)))))) ∙ ap opened (sym (at-Stmt-Let piece whole as_it_is x word pat annotation equals value semi at))

pub op-Stmt-Macro : (x : Stmt) (call : MacroCall) (semi : Option Token) → out-Stmt x ≡ Stmt-F.Stmt::Macro call semi → Op (stmt_parts one inside opened x) (stmt_parts piece whole as_it_is x)
op-Stmt-Macro x call semi is =
    let at : x ≡ stmt.Macro call semi = sym (roll-out-Stmt x) ∙ ap roll-Stmt is ∙ stmt.rolls-Macro call semi in
    at-Stmt-Macro one inside opened x call semi at ∙ (op2 (macro_call_parts one inside opened call) (maybe one semi) (macro_call_parts piece whole as_it_is call) (maybe piece semi) (op_macro_call call) (op_maybe_tok semi)) ∙ ap opened (sym (at-Stmt-Macro piece whole as_it_is x call semi at))

pub op-Stmt-Expr : (x : Stmt) (value : Expr) (semi : Option Token) → out-Stmt x ≡ Stmt-F.Expr value semi → Op (expr_parts one inside opened value) (expr_parts piece whole as_it_is value) → Op (stmt_parts one inside opened x) (stmt_parts piece whole as_it_is x)
op-Stmt-Expr x value semi is h0 =
    let at : x ≡ stmt.Expr value semi = sym (roll-out-Stmt x) ∙ ap roll-Stmt is ∙ stmt.rolls-Expr value semi in
    at-Stmt-Expr one inside opened x value semi at ∙ (op2 (expr_parts one inside opened value) (maybe one semi) (expr_parts piece whole as_it_is value) (maybe piece semi) (h0) (op_maybe_tok semi)) ∙ ap opened (sym (at-Stmt-Expr piece whole as_it_is x value semi at))

pub op-Stmt-BlockLike : (x : Stmt) (value : Expr) (semi : Option Token) → out-Stmt x ≡ Stmt-F.BlockLike value semi → Op (expr_parts one inside opened value) (expr_parts piece whole as_it_is value) → Op (stmt_parts one inside opened x) (stmt_parts piece whole as_it_is x)
op-Stmt-BlockLike x value semi is h0 =
    let at : x ≡ stmt.BlockLike value semi = sym (roll-out-Stmt x) ∙ ap roll-Stmt is ∙ stmt.rolls-BlockLike value semi in
    at-Stmt-BlockLike one inside opened x value semi at ∙ (op2 (expr_parts one inside opened value) (maybe one semi) (expr_parts piece whole as_it_is value) (maybe piece semi) (h0) (op_maybe_tok semi)) ∙ ap opened (sym (at-Stmt-BlockLike piece whole as_it_is x value semi at))

pub op-Stmt-Group : (x : Stmt) (group : Group) (inner : Stmt) (semi : Option Token) → out-Stmt x ≡ Stmt-F.Stmt::Group group inner semi → pieces_of group ≡ stmt_parts piece whole as_it_is inner → Op (stmt_parts one inside opened inner) (stmt_parts piece whole as_it_is inner) → Op (stmt_parts one inside opened x) (stmt_parts piece whole as_it_is x)
op-Stmt-Group x group inner semi is h0 h1 =
    let at : x ≡ stmt.Group group inner semi = sym (roll-out-Stmt x) ∙ ap roll-Stmt is ∙ stmt.rolls-Group group inner semi in
    at-Stmt-Group one inside opened x group inner semi at ∙ (op2 (inside group (stmt_parts one inside opened inner)) (maybe one semi) (whole group (stmt_parts piece whole as_it_is inner)) (maybe piece semi) (op_group group (stmt_parts one inside opened inner) (stmt_parts piece whole as_it_is inner) h0 h1) (op_maybe_tok semi)) ∙ ap opened (sym (at-Stmt-Group piece whole as_it_is x group inner semi at))

pub op-Body : (x : Body) → Op (each (stmt_parts one inside opened) (out-Body x).stmts) (each (stmt_parts piece whole as_it_is) (out-Body x).stmts) → Op (maybe (expr_parts one inside opened) (out-Body x).tail) (maybe (expr_parts piece whole as_it_is) (out-Body x).tail) → Op (body_parts one inside opened x) (body_parts piece whole as_it_is x)
op-Body x h0 h1 =
    at-Body one inside opened x ∙ (op2 (each (stmt_parts one inside opened) (out-Body x).stmts) (maybe (expr_parts one inside opened) (out-Body x).tail) (each (stmt_parts piece whole as_it_is) (out-Body x).stmts) (maybe (expr_parts piece whole as_it_is) (out-Body x).tail) (h0) (h1)) ∙ ap opened (sym (at-Body piece whole as_it_is x))

pub op-ElseIf : (x : ElseIf) → Op (condition_parts one inside opened (expr_parts one inside opened) (out-ElseIf x).condition) (condition_parts piece whole as_it_is (expr_parts piece whole as_it_is) (out-ElseIf x).condition) → Op (block_parts one inside opened (body_parts one inside opened) (out-ElseIf x).then) (block_parts piece whole as_it_is (body_parts piece whole as_it_is) (out-ElseIf x).then) → Op (else_if_parts one inside opened x) (else_if_parts piece whole as_it_is x)
op-ElseIf x h0 h1 =
    at-ElseIf one inside opened x ∙ (op2 (one (out-ElseIf x).word_else) (one (out-ElseIf x).word ++ (condition_parts one inside opened (expr_parts one inside opened) (out-ElseIf x).condition ++ block_parts one inside opened (body_parts one inside opened) (out-ElseIf x).then)) (piece (out-ElseIf x).word_else) (piece (out-ElseIf x).word ++ (condition_parts piece whole as_it_is (expr_parts piece whole as_it_is) (out-ElseIf x).condition ++ block_parts piece whole as_it_is (body_parts piece whole as_it_is) (out-ElseIf x).then)) (op_tok (out-ElseIf x).word_else) (op2 (one (out-ElseIf x).word) (condition_parts one inside opened (expr_parts one inside opened) (out-ElseIf x).condition ++ block_parts one inside opened (body_parts one inside opened) (out-ElseIf x).then) (piece (out-ElseIf x).word) (condition_parts piece whole as_it_is (expr_parts piece whole as_it_is) (out-ElseIf x).condition ++ block_parts piece whole as_it_is (body_parts piece whole as_it_is) (out-ElseIf x).then) (op_tok (out-ElseIf x).word) (op2 (condition_parts one inside opened (expr_parts one inside opened) (out-ElseIf x).condition) (block_parts one inside opened (body_parts one inside opened) (out-ElseIf x).then) (condition_parts piece whole as_it_is (expr_parts piece whole as_it_is) (out-ElseIf x).condition) (block_parts piece whole as_it_is (body_parts piece whole as_it_is) (out-ElseIf x).then) (h0) (h1)))) ∙ ap opened (sym (at-ElseIf piece whole as_it_is x))

pub op-Item-Plain : (x : Item) (attributes : List Attribute) (vis : Option Vis) (body : ItemBody Item) → out-Item x ≡ Item-F.Plain attributes vis body → Op (each (attribute_parts one inside opened) attributes) (each (attribute_parts piece whole as_it_is) attributes) → Op (maybe (vis_parts one inside opened) vis) (maybe (vis_parts piece whole as_it_is) vis) → Op (item_body_parts one inside opened (item_parts one inside opened) body) (item_body_parts piece whole as_it_is (item_parts piece whole as_it_is) body) → Op (item_parts one inside opened x) (item_parts piece whole as_it_is x)
op-Item-Plain x attributes vis body is h0 h1 h2 =
    let at : x ≡ item.Plain attributes vis body = sym (roll-out-Item x) ∙ ap roll-Item is ∙ item.rolls-Plain attributes vis body in
    at-Item-Plain one inside opened x attributes vis body at ∙ (op2 (each (attribute_parts one inside opened) attributes) (maybe (vis_parts one inside opened) vis ++ item_body_parts one inside opened (item_parts one inside opened) body) (each (attribute_parts piece whole as_it_is) attributes) (maybe (vis_parts piece whole as_it_is) vis ++ item_body_parts piece whole as_it_is (item_parts piece whole as_it_is) body) (h0) (op2 (maybe (vis_parts one inside opened) vis) (item_body_parts one inside opened (item_parts one inside opened) body) (maybe (vis_parts piece whole as_it_is) vis) (item_body_parts piece whole as_it_is (item_parts piece whole as_it_is) body) (h1) (h2))) ∙ ap opened (sym (at-Item-Plain piece whole as_it_is x attributes vis body at))

pub op-Item-Group : (x : Item) (group : Group) (inner : Item) → out-Item x ≡ Item-F.Group group inner → pieces_of group ≡ item_parts piece whole as_it_is inner → Op (item_parts one inside opened inner) (item_parts piece whole as_it_is inner) → Op (item_parts one inside opened x) (item_parts piece whole as_it_is x)
op-Item-Group x group inner is h0 h1 =
    let at : x ≡ item.Group group inner = sym (roll-out-Item x) ∙ ap roll-Item is ∙ item.rolls-Group group inner in
    at-Item-Group one inside opened x group inner at ∙ (op_group group (item_parts one inside opened inner) (item_parts piece whole as_it_is inner) h0 h1) ∙ ap opened (sym (at-Item-Group piece whole as_it_is x group inner at))
