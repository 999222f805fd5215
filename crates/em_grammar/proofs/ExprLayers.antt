-- The pieces of expressions, statements and blocks, one layer at a time.
use Rattle.std.proofs.Common.{◌≡◌, List, [], ◌∷◌, ◌++◌, Option, Some, None, refl, sym, ap, ◌∙◌, map}
use Rattle.em_base.specs.declared.token.Token.{Token}
use Rattle.em_tree.specs.declared.parts.Listed.{Listed}
use Rattle.em_tree.specs.declared.piece.Piece.{Piece}
use Rattle.em_tree.specs.declared.piece.Group.{Group}
use Rattle.em_tree.specs.declared.literal.Literal.{Literal}
use Rattle.em_tree.specs.declared.types.Path.{Path}
use Rattle.em_tree.specs.declared.types.TypeTree.{TypeTree}
use Rattle.em_tree.specs.declared.pat.Pat.{Pat}
use Rattle.em_tree.specs.declared.expr.Annotation.{Annotation}
use Rattle.em_tree.specs.declared.expr.FieldExpr.{FieldExpr}
use Rattle.em_tree.specs.declared.expr.ClosureHead.{ClosureHead}
use Rattle.em_tree.specs.declared.expr.Condition.{Condition}
use Rattle.em_tree.specs.declared.expr.Condition.TheVariants as condition
use Rattle.em_tree.specs.declared.expr.Arm.{Arm}
use Rattle.em_tree.specs.declared.expr.Refs.{Refs}
use Rattle.em_tree.specs.declared.expr.Block.{Block}
use Rattle.em_tree.specs.declared.expr.MacroCall.{MacroCall}
use Rattle.em_tree.specs.declared.expr.ElseIf.{ElseIf, out-ElseIf, fold_out-ElseIf, map-ElseIf}
use Rattle.em_tree.specs.declared.expr.Expr.{Expr, out-Expr, fold_out-Expr, map-Expr}
use Rattle.em_tree.specs.declared.expr.Expr.TheVariants as made
use Rattle.em_tree.specs.declared.expr.Expr.TheViews.{roll-Expr, roll-out-Expr, roll-Stmt, roll-out-Stmt, roll-Body, roll-out-Body, out-roll-Body, roll-ElseIf, roll-out-ElseIf, out-roll-ElseIf}
use Rattle.em_tree.specs.declared.expr.Expr.TheShapes.{former-Expr-Struct-2-at-6}
use Rattle.em_tree.specs.declared.expr.Stmt.{Stmt, out-Stmt, fold_out-Stmt, map-Stmt}
use Rattle.em_tree.specs.declared.expr.Stmt.TheVariants as stmt
use Rattle.em_tree.specs.declared.expr.Body.{Body, out-Body, fold_out-Body, map-Body}
use Rattle.em_tree.specs.declared.expr.Expr.TheOpen.{Expr-F, Stmt-F, Body-F, ElseIf-F}
use Rattle.em_tree.specs.Parts.{same, maybe, each, listed_parts, field_expr_parts, closure_head_parts, condition_parts, arm_parts, annotation_parts, refs_parts, macro_call_parts, expr_parts, stmt_parts, body_parts, else_if_parts, expr_step, stmt_step, body_step, else_if_step}
use Rattle.em_tree.specs.Starts.{Pieces}
use Rattle.em_tree.specs.Yields.{piece, whole, as_it_is}
use Rattle.em_tree.specs.PathGrammar.{literal_pieces, path_pieces, type_pieces}
use Rattle.em_tree.specs.PatGrammar.{pat_pieces}
use Rattle.em_tree.specs.ExprGrammar.{expr_pieces, stmt_pieces, body_pieces, block_pieces}
use Rattle.em_grammar.specs.Lang.{with_comma}

abbrev pub else_if_pieces : ElseIf → Pieces
else_if_pieces x = else_if_parts piece whole as_it_is x

each_map : {A B C : Type 0} (f : B → List A) (k : C → B) (xs : List C) → each f (map k xs) ≡ each (λ x. f (k x)) xs
each_map f k [] = refl
each_map f k (x ∷ xs) = ap (λ r. f (k x) ++ r) (each_map f k xs)

each_alike : {A B : Type 0} (f g : B → List A) → ((x : B) → f x ≡ g x) → (xs : List B) → each f xs ≡ each g xs
each_alike f g same_at [] = refl
each_alike f g same_at (x ∷ xs) = ap (λ r. r ++ each f xs) (same_at x) ∙ ap (λ r. g x ++ r) (each_alike f g same_at xs)

at_expr : (x : Expr) (l : Expr-F Expr Stmt Body ElseIf) → out-Expr x ≡ l → expr_pieces x ≡ expr_step piece whole as_it_is (map-Expr Expr Stmt Body ElseIf (List Piece) (List Piece) (List Piece) (List Piece) expr_pieces stmt_pieces body_pieces else_if_pieces l)
unfolding expr_parts stmt_parts body_parts else_if_parts
at_expr x l is =
    fold_out-Expr (List Piece) (List Piece) (List Piece) (List Piece) (expr_step piece whole as_it_is) (stmt_step piece whole as_it_is) (body_step piece whole as_it_is) (else_if_step piece whole as_it_is) x
    ∙ ap (λ k. expr_step piece whole as_it_is (map-Expr Expr Stmt Body ElseIf (List Piece) (List Piece) (List Piece) (List Piece) expr_pieces stmt_pieces body_pieces else_if_pieces k)) is

at_stmt : (x : Stmt) (l : Stmt-F Expr Stmt Body ElseIf) → out-Stmt x ≡ l → stmt_pieces x ≡ stmt_step piece whole as_it_is (map-Stmt Expr Stmt Body ElseIf (List Piece) (List Piece) (List Piece) (List Piece) expr_pieces stmt_pieces body_pieces else_if_pieces l)
unfolding expr_parts stmt_parts body_parts else_if_parts
at_stmt x l is =
    fold_out-Stmt (List Piece) (List Piece) (List Piece) (List Piece) (expr_step piece whole as_it_is) (stmt_step piece whole as_it_is) (body_step piece whole as_it_is) (else_if_step piece whole as_it_is) x
    ∙ ap (λ k. stmt_step piece whole as_it_is (map-Stmt Expr Stmt Body ElseIf (List Piece) (List Piece) (List Piece) (List Piece) expr_pieces stmt_pieces body_pieces else_if_pieces k)) is

at_body : (x : Body) (l : Body-F Expr Stmt Body ElseIf) → out-Body x ≡ l → body_pieces x ≡ body_step piece whole as_it_is (map-Body Expr Stmt Body ElseIf (List Piece) (List Piece) (List Piece) (List Piece) expr_pieces stmt_pieces body_pieces else_if_pieces l)
unfolding expr_parts stmt_parts body_parts else_if_parts
at_body x l is =
    fold_out-Body (List Piece) (List Piece) (List Piece) (List Piece) (expr_step piece whole as_it_is) (stmt_step piece whole as_it_is) (body_step piece whole as_it_is) (else_if_step piece whole as_it_is) x
    ∙ ap (λ k. body_step piece whole as_it_is (map-Body Expr Stmt Body ElseIf (List Piece) (List Piece) (List Piece) (List Piece) expr_pieces stmt_pieces body_pieces else_if_pieces k)) is

at_else_if : (x : ElseIf) (l : ElseIf-F Expr Stmt Body ElseIf) → out-ElseIf x ≡ l → else_if_pieces x ≡ else_if_step piece whole as_it_is (map-ElseIf Expr Stmt Body ElseIf (List Piece) (List Piece) (List Piece) (List Piece) expr_pieces stmt_pieces body_pieces else_if_pieces l)
unfolding expr_parts stmt_parts body_parts else_if_parts
at_else_if x l is =
    fold_out-ElseIf (List Piece) (List Piece) (List Piece) (List Piece) (expr_step piece whole as_it_is) (stmt_step piece whole as_it_is) (body_step piece whole as_it_is) (else_if_step piece whole as_it_is) x
    ∙ ap (λ k. else_if_step piece whole as_it_is (map-ElseIf Expr Stmt Body ElseIf (List Piece) (List Piece) (List Piece) (List Piece) expr_pieces stmt_pieces body_pieces else_if_pieces k)) is

-- ---- a tree is told by its layer

pub same_expr : (x y : Expr) → out-Expr x ≡ out-Expr y → x ≡ y
same_expr x y is = sym (roll-out-Expr x) ∙ ap (λ l. roll-Expr l) is ∙ roll-out-Expr y

pub same_stmt : (x y : Stmt) → out-Stmt x ≡ out-Stmt y → x ≡ y
same_stmt x y is = sym (roll-out-Stmt x) ∙ ap (λ l. roll-Stmt l) is ∙ roll-out-Stmt y

pub same_body : (x y : Body) → out-Body x ≡ out-Body y → x ≡ y
same_body x y is = sym (roll-out-Body x) ∙ ap (λ l. roll-Body l) is ∙ roll-out-Body y

pub same_else_if : (x y : ElseIf) → out-ElseIf x ≡ out-ElseIf y → x ≡ y
same_else_if x y is = sym (roll-out-ElseIf x) ∙ ap (λ l. roll-ElseIf l) is ∙ roll-out-ElseIf y

-- ---- expressions

pub pieces_literal : (t : Token) → expr_pieces (made.Literal t) ≡ piece t
pieces_literal t = at_expr (made.Literal t) (Expr-F.Literal t) (made.outs-Literal t)

pub pieces_path : (y : Path) → expr_pieces (made.Path y) ≡ path_pieces y
pieces_path y = at_expr (made.Path y) (Expr-F.Path y) (made.outs-Path y)

pub pieces_paren : (o : Token) (y : Expr) (c : Token) → expr_pieces (made.Paren o y c) ≡ piece o ++ (expr_pieces y ++ piece c)
pieces_paren o y c = at_expr (made.Paren o y c) (Expr-F.Paren o y c) (made.outs-Paren o y c)

pub pieces_repeat : (o : Token) (y : Expr) (semi : Token) (length : Literal) (c : Token) → expr_pieces (made.Repeat o y semi length c) ≡ piece o ++ (expr_pieces y ++ (piece semi ++ (literal_pieces length ++ piece c)))
pieces_repeat o y semi length c = at_expr (made.Repeat o y semi length c) (Expr-F.Repeat o y semi length c) (made.outs-Repeat o y semi length c)

pub pieces_block : (b : Block Body) → expr_pieces (made.Block b) ≡ block_pieces b
pieces_block b = at_expr (made.Block b) (Expr-F.Block b) (made.outs-Block b)

pub pieces_while : (w : Token) (y : Expr) (b : Block Body) → expr_pieces (made.While w y b) ≡ piece w ++ (expr_pieces y ++ block_pieces b)
pieces_while w y b = at_expr (made.While w y b) (Expr-F.While w y b) (made.outs-While w y b)

pub pieces_loop : (w : Token) (b : Block Body) → expr_pieces (made.Loop w b) ≡ piece w ++ block_pieces b
pieces_loop w b = at_expr (made.Loop w b) (Expr-F.Loop w b) (made.outs-Loop w b)

pub pieces_closure : (m : Option Token) (head : ClosureHead) (y : Expr) → expr_pieces (made.Closure m head y) ≡ maybe piece m ++ (closure_head_parts piece whole as_it_is head ++ expr_pieces y)
pieces_closure m head y = at_expr (made.Closure m head y) (Expr-F.Closure m head y) (made.outs-Closure m head y)

pub pieces_closure_to : (m : Option Token) (head : ClosureHead) (arrow : Token) (ty : TypeTree) (b : Block Body) → expr_pieces (made.ClosureTo m head arrow ty b) ≡ maybe piece m ++ (closure_head_parts piece whole as_it_is head ++ (piece arrow ++ (type_pieces ty ++ block_pieces b)))
pieces_closure_to m head arrow ty b = at_expr (made.ClosureTo m head arrow ty b) (Expr-F.ClosureTo m head arrow ty b) (made.outs-ClosureTo m head arrow ty b)

pub pieces_macro : (call : MacroCall) → expr_pieces (made.Macro call) ≡ macro_call_parts piece whole as_it_is call
pieces_macro call = at_expr (made.Macro call) (Expr-F.Expr::Macro call) (made.outs-Macro call)

pub pieces_break : (t : Token) → expr_pieces (made.Break t) ≡ piece t
pieces_break t = at_expr (made.Break t) (Expr-F.Break t) (made.outs-Break t)

pub pieces_continue : (t : Token) → expr_pieces (made.Continue t) ≡ piece t
pieces_continue t = at_expr (made.Continue t) (Expr-F.Continue t) (made.outs-Continue t)

pub pieces_field : (y : Expr) (dot : Token) (name : Token) → expr_pieces (made.Field y dot name) ≡ expr_pieces y ++ (piece dot ++ piece name)
pieces_field y dot name = at_expr (made.Field y dot name) (Expr-F.Field y dot name) (made.outs-Field y dot name)

pub pieces_place : (y : Expr) (dot : Token) (number : Literal) → expr_pieces (made.Place y dot number) ≡ expr_pieces y ++ (piece dot ++ literal_pieces number)
pieces_place y dot number = at_expr (made.Place y dot number) (Expr-F.Place y dot number) (made.outs-Place y dot number)

pub pieces_index : (y : Expr) (o : Token) (i : Expr) (c : Token) → expr_pieces (made.Index y o i c) ≡ expr_pieces y ++ (piece o ++ (expr_pieces i ++ piece c))
pieces_index y o i c = at_expr (made.Index y o i c) (Expr-F.Index y o i c) (made.outs-Index y o i c)

pub pieces_unary : (op : Token) (y : Expr) → expr_pieces (made.Unary op y) ≡ piece op ++ expr_pieces y
pieces_unary op y = at_expr (made.Unary op y) (Expr-F.Unary op y) (made.outs-Unary op y)

pub pieces_ref : (amp : Token) (m : Option Token) (y : Expr) → expr_pieces (made.Ref amp m y) ≡ piece amp ++ (maybe piece m ++ expr_pieces y)
pieces_ref amp m y = at_expr (made.Ref amp m y) (Expr-F.Ref amp m y) (made.outs-Ref amp m y)

pub pieces_ref_ref : (amps : Token) (m : Option Token) (y : Expr) → expr_pieces (made.RefRef amps m y) ≡ piece amps ++ (maybe piece m ++ expr_pieces y)
pieces_ref_ref amps m y = at_expr (made.RefRef amps m y) (Expr-F.RefRef amps m y) (made.outs-RefRef amps m y)

pub pieces_binary : (y : Expr) (op : Token) (z : Expr) → expr_pieces (made.Binary y op z) ≡ expr_pieces y ++ (piece op ++ expr_pieces z)
pieces_binary y op z = at_expr (made.Binary y op z) (Expr-F.Binary y op z) (made.outs-Binary y op z)

pub pieces_assign : (y : Expr) (op : Token) (z : Expr) → expr_pieces (made.Assign y op z) ≡ expr_pieces y ++ (piece op ++ expr_pieces z)
pieces_assign y op z = at_expr (made.Assign y op z) (Expr-F.Assign y op z) (made.outs-Assign y op z)

pub pieces_group : (g : Group) (y : Expr) → expr_pieces (made.Group g y) ≡ whole g (expr_pieces y)
pieces_group g y = at_expr (made.Group g y) (Expr-F.Expr::Group g y) (made.outs-Group g y)

pub pieces_array : (o : Token) (xs : List (Listed Expr)) (c : Token) → expr_pieces (made.Array o xs c) ≡ piece o ++ (each (with_comma expr_pieces) xs ++ piece c)
pieces_array o xs c = at_expr (made.Array o xs c) (Expr-F.Array o xs c) (made.outs-Array o xs c) ∙ ap (λ r. piece o ++ (r ++ piece c)) (each_map (listed_parts piece whole as_it_is same) _ xs)

pub pieces_method : (y : Expr) (dot name o : Token) (xs : List (Listed Expr)) (c : Token) → expr_pieces (made.MethodCall y dot name o xs c)
    ≡ expr_pieces y ++ (piece dot ++ (piece name ++ (piece o ++ (each (with_comma expr_pieces) xs ++ piece c))))
pieces_method y dot name o xs c =
    at_expr (made.MethodCall y dot name o xs c) (Expr-F.MethodCall y dot name o xs c) (made.outs-MethodCall y dot name o xs c)
    ∙ ap (λ r. expr_pieces y ++ (piece dot ++ (piece name ++ (piece o ++ (r ++ piece c))))) (each_map (listed_parts piece whole as_it_is same) _ xs)

pub pieces_call : (y : Expr) (o : Token) (xs : List (Listed Expr)) (c : Token) → expr_pieces (made.Call y o xs c) ≡ expr_pieces y ++ (piece o ++ (each (with_comma expr_pieces) xs ++ piece c))
pieces_call y o xs c =
    at_expr (made.Call y o xs c) (Expr-F.Call y o xs c) (made.outs-Call y o xs c) ∙ ap (λ r. expr_pieces y ++ (piece o ++ (r ++ piece c))) (each_map (listed_parts piece whole as_it_is same) _ xs)

pub pieces_return : (w : Token) (v : Option Expr) → expr_pieces (made.Return w v) ≡ piece w ++ maybe expr_pieces v
pieces_return w None = at_expr (made.Return w None) (Expr-F.Return w None) (made.outs-Return w None)
pieces_return w (Some v) = at_expr (made.Return w (Some v)) (Expr-F.Return w (Some v)) (made.outs-Return w (Some v))

abbrev pub field_pieces : FieldExpr Expr → Pieces
field_pieces x = field_expr_parts piece whole as_it_is expr_pieces x

field_alike : (name : Token) (colon : Option Token) (value : Option Expr) (comma : Option Token)
    → listed_parts piece whole as_it_is (field_expr_parts piece whole as_it_is same) (former-Expr-Struct-2-at-6.map Expr (List Piece) expr_pieces (record { item = record { name = name; colon = colon; value = value }; comma = comma }))
    ≡ with_comma field_pieces (record { item = record { name = name; colon = colon; value = value }; comma = comma })
unfolding expr_parts
field_alike name colon None comma = refl
field_alike name colon (Some value) comma = refl

pub pieces_struct : (y : Path) (o : Token) (xs : List (Listed (FieldExpr Expr))) (c : Token) → expr_pieces (made.Struct y o xs c)
    ≡ path_pieces y ++ (piece o ++ (each (with_comma field_pieces) xs ++ piece c))
pieces_struct y o xs c =
    at_expr (made.Struct y o xs c) (Expr-F.Struct y o xs c) (made.outs-Struct y o xs c)
    ∙ ap (λ r. path_pieces y ++ (piece o ++ (r ++ piece c)))
    (each_map (listed_parts piece whole as_it_is (field_expr_parts piece whole as_it_is same)) _ xs ∙ each_alike _ (with_comma field_pieces) (λ y. field_alike y.item.name y.item.colon y.item.value y.comma) xs)

abbrev pub condition_pieces : Condition Expr → Pieces
condition_pieces x = condition_parts piece whole as_it_is expr_pieces x

pub pieces_if : (w : Token) (q : Condition Expr) (b : Block Body) (xs : List ElseIf) (e : Option Token) (z : Option (Block Body)) → expr_pieces (made.If w q b xs e z)
    ≡ piece w ++ (condition_pieces q ++ (block_pieces b ++ (each else_if_pieces xs ++ (maybe piece e ++ maybe block_pieces z))))
pieces_if w (condition.Expr v) b xs e None =
    at_expr (made.If w (condition.Expr v) b xs e None) (Expr-F.If w (condition.Expr v) b xs e None) (made.outs-If w (condition.Expr v) b xs e None)
    ∙ ap (λ r. piece w ++ (expr_pieces v ++ (block_pieces b ++ (r ++ (maybe piece e ++ []))))) (each_map same else_if_pieces xs)
pieces_if w (condition.Expr v) b xs e (Some z) =
    at_expr (made.If w (condition.Expr v) b xs e (Some z)) (Expr-F.If w (condition.Expr v) b xs e (Some z)) (made.outs-If w (condition.Expr v) b xs e (Some z))
    ∙ ap (λ r. piece w ++ (expr_pieces v ++ (block_pieces b ++ (r ++ (maybe piece e ++ block_pieces z))))) (each_map same else_if_pieces xs)
pieces_if w (condition.Let l q t v) b xs e None =
    at_expr (made.If w (condition.Let l q t v) b xs e None) (Expr-F.If w (condition.Let l q t v) b xs e None) (made.outs-If w (condition.Let l q t v) b xs e None)
    ∙ ap (λ r. piece w ++ (condition_pieces (condition.Let l q t v) ++ (block_pieces b ++ (r ++ (maybe piece e ++ []))))) (each_map same else_if_pieces xs)
pieces_if w (condition.Let l q t v) b xs e (Some z) =
    at_expr (made.If w (condition.Let l q t v) b xs e (Some z)) (Expr-F.If w (condition.Let l q t v) b xs e (Some z)) (made.outs-If w (condition.Let l q t v) b xs e (Some z))
    ∙ ap (λ r. piece w ++ (condition_pieces (condition.Let l q t v) ++ (block_pieces b ++ (r ++ (maybe piece e ++ block_pieces z))))) (each_map same else_if_pieces xs)

abbrev pub arm_pieces : Arm Expr → Pieces
arm_pieces x = arm_parts piece whole as_it_is expr_pieces x

pub pieces_match : (w : Token) (y : Expr) (o : Token) (arms : List (Arm Expr)) (c : Token) → expr_pieces (made.Match w y o arms c) ≡ piece w ++ (expr_pieces y ++ (piece o ++ (each arm_pieces arms ++ piece c)))
pieces_match w y o arms c =
    at_expr (made.Match w y o arms c) (Expr-F.Match w y o arms c) (made.outs-Match w y o arms c)
    ∙ ap (λ r. piece w ++ (expr_pieces y ++ (piece o ++ (r ++ piece c)))) (each_map (arm_parts piece whole as_it_is same) _ arms)

pub pieces_for : (w : Token) (q : Pat) (i : Token) (y : Expr) (dots : Option Token) (z : Option Expr) (b : Block Body) → expr_pieces (made.For w q i y dots z b)
    ≡ piece w ++ (pat_pieces q ++ (piece i ++ (expr_pieces y ++ (maybe piece dots ++ (maybe expr_pieces z ++ block_pieces b)))))
pieces_for w q i y dots None b = at_expr (made.For w q i y dots None b) (Expr-F.For w q i y dots None b) (made.outs-For w q i y dots None b)
pieces_for w q i y dots (Some z) b = at_expr (made.For w q i y dots (Some z) b) (Expr-F.For w q i y dots (Some z) b) (made.outs-For w q i y dots (Some z) b)

-- ---- statements, bodies and branches

pub pieces_mention : (w : Token) (u : Token) (t : Token) (r : Refs) (s : Option Token) → stmt_pieces (stmt.Mention w u t r s) ≡ piece w ++ (piece u ++ (piece t ++ (refs_parts piece whole as_it_is r ++ maybe piece s)))
pieces_mention w u t r s = at_stmt (stmt.Mention w u t r s) (Stmt-F.Mention w u t r s) (stmt.outs-Mention w u t r s)

pub pieces_let : (w : Token) (q : Pat) (a : Annotation) (t : Token) (v : Expr) (s : Option Token) → stmt_pieces (stmt.Let w q a t v s) ≡ piece w ++ (pat_pieces q ++ (annotation_parts piece whole as_it_is a ++ (piece t ++ (expr_pieces v ++ maybe piece s))))
pieces_let w q a t v s = at_stmt (stmt.Let w q a t v s) (Stmt-F.Let w q a t v s) (stmt.outs-Let w q a t v s)

pub pieces_call_stmt : (call : MacroCall) (s : Option Token) → stmt_pieces (stmt.Macro call s) ≡ macro_call_parts piece whole as_it_is call ++ maybe piece s
pieces_call_stmt call s = at_stmt (stmt.Macro call s) (Stmt-F.Stmt::Macro call s) (stmt.outs-Macro call s)

pub pieces_expr_stmt : (v : Expr) (s : Option Token) → stmt_pieces (stmt.Expr v s) ≡ expr_pieces v ++ maybe piece s
pieces_expr_stmt v s = at_stmt (stmt.Expr v s) (Stmt-F.Expr v s) (stmt.outs-Expr v s)

pub pieces_block_stmt : (v : Expr) (s : Option Token) → stmt_pieces (stmt.BlockLike v s) ≡ expr_pieces v ++ maybe piece s
pieces_block_stmt v s = at_stmt (stmt.BlockLike v s) (Stmt-F.BlockLike v s) (stmt.outs-BlockLike v s)

pub pieces_group_stmt : (g : Group) (y : Stmt) (s : Option Token) → stmt_pieces (stmt.Group g y s) ≡ whole g (stmt_pieces y) ++ maybe piece s
pieces_group_stmt g y s = at_stmt (stmt.Group g y s) (Stmt-F.Stmt::Group g y s) (stmt.outs-Group g y s)

tail_alike : (xs : List Stmt) (t : Option Expr) → body_step piece whole as_it_is (map-Body Expr Stmt Body ElseIf (List Piece) (List Piece) (List Piece) (List Piece) expr_pieces stmt_pieces body_pieces else_if_pieces (record { stmts = xs; tail = t }))
    ≡ each stmt_pieces xs ++ maybe expr_pieces t
tail_alike xs None = ap (λ r. r ++ []) (each_map same stmt_pieces xs)
tail_alike xs (Some t) = ap (λ r. r ++ expr_pieces t) (each_map same stmt_pieces xs)

pub pieces_body : (xs : List Stmt) (t : Option Expr) → body_pieces (roll-Body (record { stmts = xs; tail = t })) ≡ each stmt_pieces xs ++ maybe expr_pieces t
pieces_body xs t = at_body (roll-Body (record { stmts = xs; tail = t })) (record { stmts = xs; tail = t }) (out-roll-Body (record { stmts = xs; tail = t })) ∙ tail_alike xs t

pub pieces_else_if : (e w : Token) (q : Condition Expr) (b : Block Body) → else_if_pieces (roll-ElseIf (record { word_else = e; word = w; condition = q; then = b })) ≡ piece e ++ (piece w ++ (condition_pieces q ++ block_pieces b))
pieces_else_if e w (condition.Expr v) b = at_else_if (roll-ElseIf (record { word_else = e; word = w; condition = condition.Expr v; then = b })) _ (out-roll-ElseIf _)
pieces_else_if e w (condition.Let l q t v) b = at_else_if (roll-ElseIf (record { word_else = e; word = w; condition = condition.Let l q t v; then = b })) _ (out-roll-ElseIf _)
