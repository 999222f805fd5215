-- The tokens that are added for one node, part by part.
use Rattle.std.proofs.Common.{◌≡◌, ◌+◌, List, [], ◌++◌, Option, length, sym, ap, ◌∙◌, append_assoc}
use Rattle.std.proofs.lemmas.List.{append-nil}
use Rattle.em_base.specs.declared.token.Token.{Token}
use Rattle.em_tree.specs.declared.parts.Listed.{Listed}
use Rattle.em_tree.specs.declared.literal.Literal.{Literal}
use Rattle.em_tree.specs.declared.types.Path.{Path}
use Rattle.em_tree.specs.declared.types.TypeTree.{TypeTree}
use Rattle.em_tree.specs.declared.pat.Pat.{Pat}
use Rattle.em_tree.specs.declared.expr.Annotation.{Annotation}
use Rattle.em_tree.specs.declared.expr.FieldExpr.{FieldExpr}
use Rattle.em_tree.specs.declared.expr.ClosureHead.{ClosureHead}
use Rattle.em_tree.specs.declared.expr.Condition.{Condition}
use Rattle.em_tree.specs.declared.expr.Arm.{Arm}
use Rattle.em_tree.specs.declared.expr.Refs.{Refs}
use Rattle.em_tree.specs.declared.expr.Block.{Block}
use Rattle.em_tree.specs.declared.expr.MacroCall.{MacroCall}
use Rattle.em_tree.specs.declared.expr.ElseIf.{ElseIf, out-ElseIf}
use Rattle.em_tree.specs.declared.expr.Expr.{Expr}
use Rattle.em_tree.specs.declared.expr.Expr.TheVariants as expr
use Rattle.em_tree.specs.declared.expr.Stmt.{Stmt}
use Rattle.em_tree.specs.declared.expr.Stmt.TheVariants as stmt
use Rattle.em_tree.specs.declared.expr.Body.{Body, out-Body}
use Rattle.em_tree.specs.declared.piece.Group.{Group}
use Rattle.em_tree.specs.declared.writer.Writer.{Writer}
use Rattle.em_tree.specs.Parts.{maybe, each, annotation_parts, arm_parts, block_parts, body_parts, closure_head_parts, condition_parts, else_if_parts, expr_parts, field_expr_parts, listed_parts, literal_parts, macro_call_parts, pat_parts, path_parts, refs_parts, stmt_parts, type_tree_parts}
use Rattle.em_tree.specs.Yields.{one, inside, opened}
use Rattle.em_tree.specs.Adding.{Adds}
use Rattle.em_tree.proofs.Puts.{leaves_inside}
use Rattle.em_tree.proofs.Layers.{at-Expr-Literal, at-Expr-Path, at-Expr-Struct, at-Expr-Paren, at-Expr-Array, at-Expr-Repeat, at-Expr-Block, at-Expr-If, at-Expr-Match, at-Expr-While, at-Expr-Loop, at-Expr-For, at-Expr-Closure, at-Expr-ClosureTo, at-Expr-Macro, at-Expr-Return, at-Expr-Break, at-Expr-Continue, at-Expr-MethodCall, at-Expr-Call, at-Expr-Field, at-Expr-Place, at-Expr-Index, at-Expr-Unary, at-Expr-Ref, at-Expr-RefRef, at-Expr-Binary, at-Expr-Assign, at-Expr-Group, at-Stmt-Mention, at-Stmt-Let, at-Stmt-Macro, at-Stmt-Expr, at-Stmt-BlockLike, at-Stmt-Group, at-Body, at-ElseIf}

pub adds_as : (a b : Writer) (p q : List Token) → p ≡ q → Adds a q b → Adds a p b
adds_as a b p q same h ok = ((h ok).0, (h ok).1 ∙ ap (λ r. a.list ++ r) (sym same))

pub adds0 : (a : Writer) → Adds a [] a
adds0 a ok = (ok, sym (append-nil a.list))

pub adds2 : (a b c : Writer) (p q : List Token) → Adds a p b → Adds b q c → Adds a (p ++ q) c
adds2 a b c p q h k ok =
    let second = k ok in
    let first = h second.0 in
    (first.0, second.1 ∙ ap (λ r. r ++ q) first.1 ∙ append_assoc a.list p q)

pub adds3 : (w0 w1 w2 w3 : Writer) (p q r : List Token) → Adds w0 p w1 → Adds w1 q w2 → Adds w2 r w3 → Adds w0 (p ++ (q ++ r)) w3
adds3 w0 w1 w2 w3 p q r h0 h1 h2 = adds2 w0 w1 w3 p (q ++ r) h0 (adds2 w1 w2 w3 q r h1 h2)

pub adds4 : (w0 w1 w2 w3 w4 : Writer) (p q r s : List Token) → Adds w0 p w1 → Adds w1 q w2 → Adds w2 r w3 → Adds w3 s w4 → Adds w0 (p ++ (q ++ (r ++ s))) w4
adds4 w0 w1 w2 w3 w4 p q r s h0 h1 h2 h3 = adds2 w0 w1 w4 p (q ++ (r ++ s)) h0 (adds3 w1 w2 w3 w4 q r s h1 h2 h3)

pub adds5 : (w0 w1 w2 w3 w4 w5 : Writer) (p q r s t : List Token) → Adds w0 p w1 → Adds w1 q w2 → Adds w2 r w3 → Adds w3 s w4 → Adds w4 t w5 → Adds w0 (p ++ (q ++ (r ++ (s ++ t)))) w5
adds5 w0 w1 w2 w3 w4 w5 p q r s t h0 h1 h2 h3 h4 = adds2 w0 w1 w5 p (q ++ (r ++ (s ++ t))) h0 (adds4 w1 w2 w3 w4 w5 q r s t h1 h2 h3 h4)

pub adds6 : (w0 w1 w2 w3 w4 w5 w6 : Writer) (p q r s t u : List Token) → Adds w0 p w1 → Adds w1 q w2 → Adds w2 r w3 → Adds w3 s w4 → Adds w4 t w5 → Adds w5 u w6 → Adds w0 (p ++ (q ++ (r ++ (s ++ (t ++ u))))) w6
adds6 w0 w1 w2 w3 w4 w5 w6 p q r s t u h0 h1 h2 h3 h4 h5 = adds2 w0 w1 w6 p (q ++ (r ++ (s ++ (t ++ u)))) h0 (adds5 w1 w2 w3 w4 w5 w6 q r s t u h1 h2 h3 h4 h5)

pub adds7 : (w0 w1 w2 w3 w4 w5 w6 w7 : Writer) (p q r s t u v : List Token) → Adds w0 p w1 → Adds w1 q w2 → Adds w2 r w3 → Adds w3 s w4 → Adds w4 t w5 → Adds w5 u w6 → Adds w6 v w7 → Adds w0 (p ++ (q ++ (r ++ (s ++ (t ++ (u ++ v)))))) w7
adds7 w0 w1 w2 w3 w4 w5 w6 w7 p q r s t u v h0 h1 h2 h3 h4 h5 h6 = adds2 w0 w1 w7 p (q ++ (r ++ (s ++ (t ++ (u ++ v))))) h0 (adds6 w1 w2 w3 w4 w5 w6 w7 q r s t u v h1 h2 h3 h4 h5 h6)

pub adds_expr_literal : (w0 w1 : Writer) (x : Expr) (x0 : Token) → x ≡ expr.Literal x0 → Adds w0 (one x0) w1 → Adds w0 (expr_parts one inside opened x) w1
adds_expr_literal w0 w1 x x0 is h0 = adds_as w0 w1 (expr_parts one inside opened x) (one x0) (at-Expr-Literal one inside opened x x0 is) (h0)

pub adds_expr_path : (w0 w1 : Writer) (x : Expr) (x0 : Path) → x ≡ expr.Path x0 → Adds w0 (path_parts one inside opened x0) w1 → Adds w0 (expr_parts one inside opened x) w1
adds_expr_path w0 w1 x x0 is h0 = adds_as w0 w1 (expr_parts one inside opened x) (path_parts one inside opened x0) (at-Expr-Path one inside opened x x0 is) (h0)

pub adds_expr_struct : (w0 w1 w2 w3 w4 : Writer) (x : Expr) (path : Path) (opening : Token) (fields : List (Listed (FieldExpr Expr))) (closing : Token) → x ≡ expr.Struct path opening fields closing → Adds w0 (path_parts one inside opened path) w1 → Adds w1 (one opening) w2 → Adds w2 (each (listed_parts one inside opened (field_expr_parts one inside opened (expr_parts one inside opened))) fields) w3 → Adds w3 (one closing) w4 → Adds w0 (expr_parts one inside opened x) w4
adds_expr_struct w0 w1 w2 w3 w4 x path opening fields closing is h0 h1 h2 h3 = adds_as w0 w4 (expr_parts one inside opened x) (path_parts one inside opened path ++ (one opening ++ (each (listed_parts one inside opened (field_expr_parts one inside opened (expr_parts one inside opened))) fields ++ one closing))) (at-Expr-Struct one inside opened x path opening fields closing is) (adds4 w0 w1 w2 w3 w4 (path_parts one inside opened path) (one opening) (each (listed_parts one inside opened (field_expr_parts one inside opened (expr_parts one inside opened))) fields) (one closing) h0 h1 h2 h3)

pub adds_expr_paren : (w0 w1 w2 w3 : Writer) (x : Expr) (opening : Token) (inner : Expr) (closing : Token) → x ≡ expr.Paren opening inner closing → Adds w0 (one opening) w1 → Adds w1 (expr_parts one inside opened inner) w2 → Adds w2 (one closing) w3 → Adds w0 (expr_parts one inside opened x) w3
adds_expr_paren w0 w1 w2 w3 x opening inner closing is h0 h1 h2 = adds_as w0 w3 (expr_parts one inside opened x) (one opening ++ (expr_parts one inside opened inner ++ one closing)) (at-Expr-Paren one inside opened x opening inner closing is) (adds3 w0 w1 w2 w3 (one opening) (expr_parts one inside opened inner) (one closing) h0 h1 h2)

pub adds_expr_array : (w0 w1 w2 w3 : Writer) (x : Expr) (opening : Token) (elements : List (Listed Expr)) (closing : Token) → x ≡ expr.Array opening elements closing → Adds w0 (one opening) w1 → Adds w1 (each (listed_parts one inside opened (expr_parts one inside opened)) elements) w2 → Adds w2 (one closing) w3 → Adds w0 (expr_parts one inside opened x) w3
adds_expr_array w0 w1 w2 w3 x opening elements closing is h0 h1 h2 = adds_as w0 w3 (expr_parts one inside opened x) (one opening ++ (each (listed_parts one inside opened (expr_parts one inside opened)) elements ++ one closing)) (at-Expr-Array one inside opened x opening elements closing is) (adds3 w0 w1 w2 w3 (one opening) (each (listed_parts one inside opened (expr_parts one inside opened)) elements) (one closing) h0 h1 h2)

pub adds_expr_repeat : (w0 w1 w2 w3 w4 w5 : Writer) (x : Expr) (opening : Token) (element : Expr) (semi : Token) (length : Literal) (closing : Token) → x ≡ expr.Repeat opening element semi length closing → Adds w0 (one opening) w1 → Adds w1 (expr_parts one inside opened element) w2 → Adds w2 (one semi) w3 → Adds w3 (literal_parts one inside opened length) w4 → Adds w4 (one closing) w5 → Adds w0 (expr_parts one inside opened x) w5
adds_expr_repeat w0 w1 w2 w3 w4 w5 x opening element semi length closing is h0 h1 h2 h3 h4 = adds_as w0 w5 (expr_parts one inside opened x) (one opening ++ (expr_parts one inside opened element ++ (one semi ++ (literal_parts one inside opened length ++ one closing)))) (at-Expr-Repeat one inside opened x opening element semi length closing is) (adds5 w0 w1 w2 w3 w4 w5 (one opening) (expr_parts one inside opened element) (one semi) (literal_parts one inside opened length) (one closing) h0 h1 h2 h3 h4)

pub adds_expr_block : (w0 w1 : Writer) (x : Expr) (x0 : Block Body) → x ≡ expr.Block x0 → Adds w0 (block_parts one inside opened (body_parts one inside opened) x0) w1 → Adds w0 (expr_parts one inside opened x) w1
adds_expr_block w0 w1 x x0 is h0 = adds_as w0 w1 (expr_parts one inside opened x) (block_parts one inside opened (body_parts one inside opened) x0) (at-Expr-Block one inside opened x x0 is) (h0)

pub adds_expr_if : (w0 w1 w2 w3 w4 w5 w6 : Writer) (x : Expr) (word : Token) (condition : Condition Expr) (then : Block Body) (branches : List ElseIf) (word_else : Option Token) (otherwise : Option (Block Body)) → x ≡ expr.If word condition then branches word_else otherwise → Adds w0 (one word) w1 → Adds w1 (condition_parts one inside opened (expr_parts one inside opened) condition) w2 → Adds w2 (block_parts one inside opened (body_parts one inside opened) then) w3 → Adds w3 (each (else_if_parts one inside opened) branches) w4 → Adds w4 (maybe one word_else) w5 → Adds w5 (maybe (block_parts one inside opened (body_parts one inside opened)) otherwise) w6 → Adds w0 (expr_parts one inside opened x) w6
adds_expr_if w0 w1 w2 w3 w4 w5 w6 x word condition then branches word_else otherwise is h0 h1 h2 h3 h4 h5 = adds_as w0 w6 (expr_parts one inside opened x) (one word ++ (condition_parts one inside opened (expr_parts one inside opened) condition ++ (block_parts one inside opened (body_parts one inside opened) then ++ (each (else_if_parts one inside opened) branches ++ (maybe one word_else ++ maybe (block_parts one inside opened (body_parts one inside opened)) otherwise))))) (at-Expr-If one inside opened x word condition then branches word_else otherwise is) (adds6 w0 w1 w2 w3 w4 w5 w6 (one word) (condition_parts one inside opened (expr_parts one inside opened) condition) (block_parts one inside opened (body_parts one inside opened) then) (each (else_if_parts one inside opened) branches) (maybe one word_else) (maybe (block_parts one inside opened (body_parts one inside opened)) otherwise) h0 h1 h2 h3 h4 h5)

pub adds_expr_match : (w0 w1 w2 w3 w4 w5 : Writer) (x : Expr) (word : Token) (scrutinee : Expr) (opening : Token) (arms : List (Arm Expr)) (closing : Token) → x ≡ expr.Match word scrutinee opening arms closing → Adds w0 (one word) w1 → Adds w1 (expr_parts one inside opened scrutinee) w2 → Adds w2 (one opening) w3 → Adds w3 (each (arm_parts one inside opened (expr_parts one inside opened)) arms) w4 → Adds w4 (one closing) w5 → Adds w0 (expr_parts one inside opened x) w5
adds_expr_match w0 w1 w2 w3 w4 w5 x word scrutinee opening arms closing is h0 h1 h2 h3 h4 = adds_as w0 w5 (expr_parts one inside opened x) (one word ++ (expr_parts one inside opened scrutinee ++ (one opening ++ (each (arm_parts one inside opened (expr_parts one inside opened)) arms ++ one closing)))) (at-Expr-Match one inside opened x word scrutinee opening arms closing is) (adds5 w0 w1 w2 w3 w4 w5 (one word) (expr_parts one inside opened scrutinee) (one opening) (each (arm_parts one inside opened (expr_parts one inside opened)) arms) (one closing) h0 h1 h2 h3 h4)

pub adds_expr_while : (w0 w1 w2 w3 : Writer) (x : Expr) (word : Token) (condition : Expr) (body : Block Body) → x ≡ expr.While word condition body → Adds w0 (one word) w1 → Adds w1 (expr_parts one inside opened condition) w2 → Adds w2 (block_parts one inside opened (body_parts one inside opened) body) w3 → Adds w0 (expr_parts one inside opened x) w3
adds_expr_while w0 w1 w2 w3 x word condition body is h0 h1 h2 = adds_as w0 w3 (expr_parts one inside opened x) (one word ++ (expr_parts one inside opened condition ++ block_parts one inside opened (body_parts one inside opened) body)) (at-Expr-While one inside opened x word condition body is) (adds3 w0 w1 w2 w3 (one word) (expr_parts one inside opened condition) (block_parts one inside opened (body_parts one inside opened) body) h0 h1 h2)

pub adds_expr_loop : (w0 w1 w2 : Writer) (x : Expr) (word : Token) (body : Block Body) → x ≡ expr.Loop word body → Adds w0 (one word) w1 → Adds w1 (block_parts one inside opened (body_parts one inside opened) body) w2 → Adds w0 (expr_parts one inside opened x) w2
adds_expr_loop w0 w1 w2 x word body is h0 h1 = adds_as w0 w2 (expr_parts one inside opened x) (one word ++ block_parts one inside opened (body_parts one inside opened) body) (at-Expr-Loop one inside opened x word body is) (adds2 w0 w1 w2 (one word) (block_parts one inside opened (body_parts one inside opened) body) h0 h1)

pub adds_expr_for : (w0 w1 w2 w3 w4 w5 w6 w7 : Writer) (x : Expr) (word : Token) (pat : Pat) (word_in : Token) (head : Expr) (dots : Option Token) (end : Option Expr) (body : Block Body) → x ≡ expr.For word pat word_in head dots end body → Adds w0 (one word) w1 → Adds w1 (pat_parts one inside opened pat) w2 → Adds w2 (one word_in) w3 → Adds w3 (expr_parts one inside opened head) w4 → Adds w4 (maybe one dots) w5 → Adds w5 (maybe (expr_parts one inside opened) end) w6 → Adds w6 (block_parts one inside opened (body_parts one inside opened) body) w7 → Adds w0 (expr_parts one inside opened x) w7
adds_expr_for w0 w1 w2 w3 w4 w5 w6 w7 x word pat word_in head dots end body is h0 h1 h2 h3 h4 h5 h6 = adds_as w0 w7 (expr_parts one inside opened x) (one word ++ (pat_parts one inside opened pat ++ (one word_in ++ (expr_parts one inside opened head ++ (maybe one dots ++ (maybe (expr_parts one inside opened) end ++ block_parts one inside opened (body_parts one inside opened) body)))))) (at-Expr-For one inside opened x word pat word_in head dots end body is) (adds7 w0 w1 w2 w3 w4 w5 w6 w7 (one word) (pat_parts one inside opened pat) (one word_in) (expr_parts one inside opened head) (maybe one dots) (maybe (expr_parts one inside opened) end) (block_parts one inside opened (body_parts one inside opened) body) h0 h1 h2 h3 h4 h5 h6)

pub adds_expr_closure : (w0 w1 w2 w3 : Writer) (x : Expr) (word_move : Option Token) (head : ClosureHead) (body : Expr) → x ≡ expr.Closure word_move head body → Adds w0 (maybe one word_move) w1 → Adds w1 (closure_head_parts one inside opened head) w2 → Adds w2 (expr_parts one inside opened body) w3 → Adds w0 (expr_parts one inside opened x) w3
adds_expr_closure w0 w1 w2 w3 x word_move head body is h0 h1 h2 = adds_as w0 w3 (expr_parts one inside opened x) (maybe one word_move ++ (closure_head_parts one inside opened head ++ expr_parts one inside opened body)) (at-Expr-Closure one inside opened x word_move head body is) (adds3 w0 w1 w2 w3 (maybe one word_move) (closure_head_parts one inside opened head) (expr_parts one inside opened body) h0 h1 h2)

pub adds_expr_closure_to : (w0 w1 w2 w3 w4 w5 : Writer) (x : Expr) (word_move : Option Token) (head : ClosureHead) (arrow : Token) (output : TypeTree) (body : Block Body) → x ≡ expr.ClosureTo word_move head arrow output body → Adds w0 (maybe one word_move) w1 → Adds w1 (closure_head_parts one inside opened head) w2 → Adds w2 (one arrow) w3 → Adds w3 (type_tree_parts one inside opened output) w4 → Adds w4 (block_parts one inside opened (body_parts one inside opened) body) w5 → Adds w0 (expr_parts one inside opened x) w5
adds_expr_closure_to w0 w1 w2 w3 w4 w5 x word_move head arrow output body is h0 h1 h2 h3 h4 = adds_as w0 w5 (expr_parts one inside opened x) (maybe one word_move ++ (closure_head_parts one inside opened head ++ (one arrow ++ (type_tree_parts one inside opened output ++ block_parts one inside opened (body_parts one inside opened) body)))) (at-Expr-ClosureTo one inside opened x word_move head arrow output body is) (adds5 w0 w1 w2 w3 w4 w5 (maybe one word_move) (closure_head_parts one inside opened head) (one arrow) (type_tree_parts one inside opened output) (block_parts one inside opened (body_parts one inside opened) body) h0 h1 h2 h3 h4)

pub adds_expr_macro : (w0 w1 : Writer) (x : Expr) (x0 : MacroCall) → x ≡ expr.Macro x0 → Adds w0 (macro_call_parts one inside opened x0) w1 → Adds w0 (expr_parts one inside opened x) w1
adds_expr_macro w0 w1 x x0 is h0 = adds_as w0 w1 (expr_parts one inside opened x) (macro_call_parts one inside opened x0) (at-Expr-Macro one inside opened x x0 is) (h0)

pub adds_expr_return : (w0 w1 w2 : Writer) (x : Expr) (word : Token) (value : Option Expr) → x ≡ expr.Return word value → Adds w0 (one word) w1 → Adds w1 (maybe (expr_parts one inside opened) value) w2 → Adds w0 (expr_parts one inside opened x) w2
adds_expr_return w0 w1 w2 x word value is h0 h1 = adds_as w0 w2 (expr_parts one inside opened x) (one word ++ maybe (expr_parts one inside opened) value) (at-Expr-Return one inside opened x word value is) (adds2 w0 w1 w2 (one word) (maybe (expr_parts one inside opened) value) h0 h1)

pub adds_expr_break : (w0 w1 : Writer) (x : Expr) (x0 : Token) → x ≡ expr.Break x0 → Adds w0 (one x0) w1 → Adds w0 (expr_parts one inside opened x) w1
adds_expr_break w0 w1 x x0 is h0 = adds_as w0 w1 (expr_parts one inside opened x) (one x0) (at-Expr-Break one inside opened x x0 is) (h0)

pub adds_expr_continue : (w0 w1 : Writer) (x : Expr) (x0 : Token) → x ≡ expr.Continue x0 → Adds w0 (one x0) w1 → Adds w0 (expr_parts one inside opened x) w1
adds_expr_continue w0 w1 x x0 is h0 = adds_as w0 w1 (expr_parts one inside opened x) (one x0) (at-Expr-Continue one inside opened x x0 is) (h0)

pub adds_expr_method_call : (w0 w1 w2 w3 w4 w5 w6 : Writer) (x : Expr) (receiver : Expr) (dot : Token) (name : Token) (opening : Token) (arguments : List (Listed Expr)) (closing : Token) → x ≡ expr.MethodCall receiver dot name opening arguments closing → Adds w0 (expr_parts one inside opened receiver) w1 → Adds w1 (one dot) w2 → Adds w2 (one name) w3 → Adds w3 (one opening) w4 → Adds w4 (each (listed_parts one inside opened (expr_parts one inside opened)) arguments) w5 → Adds w5 (one closing) w6 → Adds w0 (expr_parts one inside opened x) w6
adds_expr_method_call w0 w1 w2 w3 w4 w5 w6 x receiver dot name opening arguments closing is h0 h1 h2 h3 h4 h5 = adds_as w0 w6 (expr_parts one inside opened x) (expr_parts one inside opened receiver ++ (one dot ++ (one name ++ (one opening ++ (each (listed_parts one inside opened (expr_parts one inside opened)) arguments ++ one closing))))) (at-Expr-MethodCall one inside opened x receiver dot name opening arguments closing is) (adds6 w0 w1 w2 w3 w4 w5 w6 (expr_parts one inside opened receiver) (one dot) (one name) (one opening) (each (listed_parts one inside opened (expr_parts one inside opened)) arguments) (one closing) h0 h1 h2 h3 h4 h5)

pub adds_expr_call : (w0 w1 w2 w3 w4 : Writer) (x : Expr) (callee : Expr) (opening : Token) (arguments : List (Listed Expr)) (closing : Token) → x ≡ expr.Call callee opening arguments closing → Adds w0 (expr_parts one inside opened callee) w1 → Adds w1 (one opening) w2 → Adds w2 (each (listed_parts one inside opened (expr_parts one inside opened)) arguments) w3 → Adds w3 (one closing) w4 → Adds w0 (expr_parts one inside opened x) w4
adds_expr_call w0 w1 w2 w3 w4 x callee opening arguments closing is h0 h1 h2 h3 = adds_as w0 w4 (expr_parts one inside opened x) (expr_parts one inside opened callee ++ (one opening ++ (each (listed_parts one inside opened (expr_parts one inside opened)) arguments ++ one closing))) (at-Expr-Call one inside opened x callee opening arguments closing is) (adds4 w0 w1 w2 w3 w4 (expr_parts one inside opened callee) (one opening) (each (listed_parts one inside opened (expr_parts one inside opened)) arguments) (one closing) h0 h1 h2 h3)

pub adds_expr_field : (w0 w1 w2 w3 : Writer) (x : Expr) (base : Expr) (dot : Token) (name : Token) → x ≡ expr.Field base dot name → Adds w0 (expr_parts one inside opened base) w1 → Adds w1 (one dot) w2 → Adds w2 (one name) w3 → Adds w0 (expr_parts one inside opened x) w3
adds_expr_field w0 w1 w2 w3 x base dot name is h0 h1 h2 = adds_as w0 w3 (expr_parts one inside opened x) (expr_parts one inside opened base ++ (one dot ++ one name)) (at-Expr-Field one inside opened x base dot name is) (adds3 w0 w1 w2 w3 (expr_parts one inside opened base) (one dot) (one name) h0 h1 h2)

pub adds_expr_place : (w0 w1 w2 w3 : Writer) (x : Expr) (base : Expr) (dot : Token) (number : Literal) → x ≡ expr.Place base dot number → Adds w0 (expr_parts one inside opened base) w1 → Adds w1 (one dot) w2 → Adds w2 (literal_parts one inside opened number) w3 → Adds w0 (expr_parts one inside opened x) w3
adds_expr_place w0 w1 w2 w3 x base dot number is h0 h1 h2 = adds_as w0 w3 (expr_parts one inside opened x) (expr_parts one inside opened base ++ (one dot ++ literal_parts one inside opened number)) (at-Expr-Place one inside opened x base dot number is) (adds3 w0 w1 w2 w3 (expr_parts one inside opened base) (one dot) (literal_parts one inside opened number) h0 h1 h2)

pub adds_expr_index : (w0 w1 w2 w3 w4 : Writer) (x : Expr) (base : Expr) (opening : Token) (index : Expr) (closing : Token) → x ≡ expr.Index base opening index closing → Adds w0 (expr_parts one inside opened base) w1 → Adds w1 (one opening) w2 → Adds w2 (expr_parts one inside opened index) w3 → Adds w3 (one closing) w4 → Adds w0 (expr_parts one inside opened x) w4
adds_expr_index w0 w1 w2 w3 w4 x base opening index closing is h0 h1 h2 h3 = adds_as w0 w4 (expr_parts one inside opened x) (expr_parts one inside opened base ++ (one opening ++ (expr_parts one inside opened index ++ one closing))) (at-Expr-Index one inside opened x base opening index closing is) (adds4 w0 w1 w2 w3 w4 (expr_parts one inside opened base) (one opening) (expr_parts one inside opened index) (one closing) h0 h1 h2 h3)

pub adds_expr_unary : (w0 w1 w2 : Writer) (x : Expr) (operator : Token) (operand : Expr) → x ≡ expr.Unary operator operand → Adds w0 (one operator) w1 → Adds w1 (expr_parts one inside opened operand) w2 → Adds w0 (expr_parts one inside opened x) w2
adds_expr_unary w0 w1 w2 x operator operand is h0 h1 = adds_as w0 w2 (expr_parts one inside opened x) (one operator ++ expr_parts one inside opened operand) (at-Expr-Unary one inside opened x operator operand is) (adds2 w0 w1 w2 (one operator) (expr_parts one inside opened operand) h0 h1)

pub adds_expr_ref : (w0 w1 w2 w3 : Writer) (x : Expr) (amp : Token) (word_mut : Option Token) (operand : Expr) → x ≡ expr.Ref amp word_mut operand → Adds w0 (one amp) w1 → Adds w1 (maybe one word_mut) w2 → Adds w2 (expr_parts one inside opened operand) w3 → Adds w0 (expr_parts one inside opened x) w3
adds_expr_ref w0 w1 w2 w3 x amp word_mut operand is h0 h1 h2 = adds_as w0 w3 (expr_parts one inside opened x) (one amp ++ (maybe one word_mut ++ expr_parts one inside opened operand)) (at-Expr-Ref one inside opened x amp word_mut operand is) (adds3 w0 w1 w2 w3 (one amp) (maybe one word_mut) (expr_parts one inside opened operand) h0 h1 h2)

pub adds_expr_ref_ref : (w0 w1 w2 w3 : Writer) (x : Expr) (amps : Token) (word_mut : Option Token) (operand : Expr) → x ≡ expr.RefRef amps word_mut operand → Adds w0 (one amps) w1 → Adds w1 (maybe one word_mut) w2 → Adds w2 (expr_parts one inside opened operand) w3 → Adds w0 (expr_parts one inside opened x) w3
adds_expr_ref_ref w0 w1 w2 w3 x amps word_mut operand is h0 h1 h2 = adds_as w0 w3 (expr_parts one inside opened x) (one amps ++ (maybe one word_mut ++ expr_parts one inside opened operand)) (at-Expr-RefRef one inside opened x amps word_mut operand is) (adds3 w0 w1 w2 w3 (one amps) (maybe one word_mut) (expr_parts one inside opened operand) h0 h1 h2)

pub adds_expr_binary : (w0 w1 w2 w3 : Writer) (x : Expr) (left : Expr) (operator : Token) (right : Expr) → x ≡ expr.Binary left operator right → Adds w0 (expr_parts one inside opened left) w1 → Adds w1 (one operator) w2 → Adds w2 (expr_parts one inside opened right) w3 → Adds w0 (expr_parts one inside opened x) w3
adds_expr_binary w0 w1 w2 w3 x left operator right is h0 h1 h2 = adds_as w0 w3 (expr_parts one inside opened x) (expr_parts one inside opened left ++ (one operator ++ expr_parts one inside opened right)) (at-Expr-Binary one inside opened x left operator right is) (adds3 w0 w1 w2 w3 (expr_parts one inside opened left) (one operator) (expr_parts one inside opened right) h0 h1 h2)

pub adds_expr_assign : (w0 w1 w2 w3 : Writer) (x : Expr) (left : Expr) (operator : Token) (right : Expr) → x ≡ expr.Assign left operator right → Adds w0 (expr_parts one inside opened left) w1 → Adds w1 (one operator) w2 → Adds w2 (expr_parts one inside opened right) w3 → Adds w0 (expr_parts one inside opened x) w3
adds_expr_assign w0 w1 w2 w3 x left operator right is h0 h1 h2 = adds_as w0 w3 (expr_parts one inside opened x) (expr_parts one inside opened left ++ (one operator ++ expr_parts one inside opened right)) (at-Expr-Assign one inside opened x left operator right is) (adds3 w0 w1 w2 w3 (expr_parts one inside opened left) (one operator) (expr_parts one inside opened right) h0 h1 h2)

pub adds_expr_group : (w0 w1 : Writer) (x : Expr) (group : Group) (inner : Expr) → x ≡ expr.Group group inner → Adds w0 (expr_parts one inside opened inner) w1 → Adds w0 (expr_parts one inside opened x) w1
adds_expr_group w0 w1 x group inner is h0 = adds_as w0 w1 (expr_parts one inside opened x) (expr_parts one inside opened inner) (at-Expr-Group one inside opened x group inner is) (h0)

pub adds_stmt_mention : (w0 w1 w2 w3 w4 w5 : Writer) (x : Stmt) (word : Token) (underscore : Token) (equals : Token) (refs : Refs) (semi : Option Token) → x ≡ stmt.Mention word underscore equals refs semi → Adds w0 (one word) w1 → Adds w1 (one underscore) w2 → Adds w2 (one equals) w3 → Adds w3 (refs_parts one inside opened refs) w4 → Adds w4 (maybe one semi) w5 → Adds w0 (stmt_parts one inside opened x) w5
adds_stmt_mention w0 w1 w2 w3 w4 w5 x word underscore equals refs semi is h0 h1 h2 h3 h4 = adds_as w0 w5 (stmt_parts one inside opened x) (one word ++ (one underscore ++ (one equals ++ (refs_parts one inside opened refs ++ maybe one semi)))) (at-Stmt-Mention one inside opened x word underscore equals refs semi is) (adds5 w0 w1 w2 w3 w4 w5 (one word) (one underscore) (one equals) (refs_parts one inside opened refs) (maybe one semi) h0 h1 h2 h3 h4)

pub adds_stmt_let : (w0 w1 w2 w3 w4 w5 w6 : Writer) (x : Stmt) (word : Token) (pat : Pat) (annotation : Annotation) (equals : Token) (value : Expr) (semi : Option Token) → x ≡ stmt.Let word pat annotation equals value semi → Adds w0 (one word) w1 → Adds w1 (pat_parts one inside opened pat) w2 → Adds w2 (annotation_parts one inside opened annotation) w3 → Adds w3 (one equals) w4 → Adds w4 (expr_parts one inside opened value) w5 → Adds w5 (maybe one semi) w6 → Adds w0 (stmt_parts one inside opened x) w6
adds_stmt_let w0 w1 w2 w3 w4 w5 w6 x word pat annotation equals value semi is h0 h1 h2 h3 h4 h5 = adds_as w0 w6 (stmt_parts one inside opened x) (one word ++ (pat_parts one inside opened pat ++ (annotation_parts one inside opened annotation ++ (one equals ++ (expr_parts one inside opened value ++ maybe one semi))))) (at-Stmt-Let one inside opened x word pat annotation equals value semi is) (adds6 w0 w1 w2 w3 w4 w5 w6 (one word) (pat_parts one inside opened pat) (annotation_parts one inside opened annotation) (one equals) (expr_parts one inside opened value) (maybe one semi) h0 h1 h2 h3 h4 h5)

pub adds_stmt_macro : (w0 w1 w2 : Writer) (x : Stmt) (call : MacroCall) (semi : Option Token) → x ≡ stmt.Macro call semi → Adds w0 (macro_call_parts one inside opened call) w1 → Adds w1 (maybe one semi) w2 → Adds w0 (stmt_parts one inside opened x) w2
adds_stmt_macro w0 w1 w2 x call semi is h0 h1 = adds_as w0 w2 (stmt_parts one inside opened x) (macro_call_parts one inside opened call ++ maybe one semi) (at-Stmt-Macro one inside opened x call semi is) (adds2 w0 w1 w2 (macro_call_parts one inside opened call) (maybe one semi) h0 h1)

pub adds_stmt_expr : (w0 w1 w2 : Writer) (x : Stmt) (value : Expr) (semi : Option Token) → x ≡ stmt.Expr value semi → Adds w0 (expr_parts one inside opened value) w1 → Adds w1 (maybe one semi) w2 → Adds w0 (stmt_parts one inside opened x) w2
adds_stmt_expr w0 w1 w2 x value semi is h0 h1 = adds_as w0 w2 (stmt_parts one inside opened x) (expr_parts one inside opened value ++ maybe one semi) (at-Stmt-Expr one inside opened x value semi is) (adds2 w0 w1 w2 (expr_parts one inside opened value) (maybe one semi) h0 h1)

pub adds_stmt_block_like : (w0 w1 w2 : Writer) (x : Stmt) (value : Expr) (semi : Option Token) → x ≡ stmt.BlockLike value semi → Adds w0 (expr_parts one inside opened value) w1 → Adds w1 (maybe one semi) w2 → Adds w0 (stmt_parts one inside opened x) w2
adds_stmt_block_like w0 w1 w2 x value semi is h0 h1 = adds_as w0 w2 (stmt_parts one inside opened x) (expr_parts one inside opened value ++ maybe one semi) (at-Stmt-BlockLike one inside opened x value semi is) (adds2 w0 w1 w2 (expr_parts one inside opened value) (maybe one semi) h0 h1)

pub adds_stmt_group : (w0 w1 w2 : Writer) (x : Stmt) (group : Group) (inner : Stmt) (semi : Option Token) → x ≡ stmt.Group group inner semi → Adds w0 (stmt_parts one inside opened inner) w1 → Adds w1 (maybe one semi) w2 → Adds w0 (stmt_parts one inside opened x) w2
adds_stmt_group w0 w1 w2 x group inner semi is h0 h1 = adds_as w0 w2 (stmt_parts one inside opened x) (stmt_parts one inside opened inner ++ maybe one semi) (at-Stmt-Group one inside opened x group inner semi is) (adds2 w0 w1 w2 (stmt_parts one inside opened inner) (maybe one semi) h0 h1)

pub adds_body : (w0 w1 w2 : Writer) (x : Body) → Adds w0 (each (stmt_parts one inside opened) (out-Body x).stmts) w1 → Adds w1 (maybe (expr_parts one inside opened) (out-Body x).tail) w2 → Adds w0 (body_parts one inside opened x) w2
adds_body w0 w1 w2 x h0 h1 = adds_as w0 w2 (body_parts one inside opened x) (each (stmt_parts one inside opened) (out-Body x).stmts ++ maybe (expr_parts one inside opened) (out-Body x).tail) (at-Body one inside opened x) (adds2 w0 w1 w2 (each (stmt_parts one inside opened) (out-Body x).stmts) (maybe (expr_parts one inside opened) (out-Body x).tail) h0 h1)

pub adds_else_if : (w0 w1 w2 w3 w4 : Writer) (x : ElseIf) → Adds w0 (one (out-ElseIf x).word_else) w1 → Adds w1 (one (out-ElseIf x).word) w2 → Adds w2 (condition_parts one inside opened (expr_parts one inside opened) (out-ElseIf x).condition) w3 → Adds w3 (block_parts one inside opened (body_parts one inside opened) (out-ElseIf x).then) w4 → Adds w0 (else_if_parts one inside opened x) w4
adds_else_if w0 w1 w2 w3 w4 x h0 h1 h2 h3 = adds_as w0 w4 (else_if_parts one inside opened x) (one (out-ElseIf x).word_else ++ (one (out-ElseIf x).word ++ (condition_parts one inside opened (expr_parts one inside opened) (out-ElseIf x).condition ++ block_parts one inside opened (body_parts one inside opened) (out-ElseIf x).then))) (at-ElseIf one inside opened x) (adds4 w0 w1 w2 w3 w4 (one (out-ElseIf x).word_else) (one (out-ElseIf x).word) (condition_parts one inside opened (expr_parts one inside opened) (out-ElseIf x).condition) (block_parts one inside opened (body_parts one inside opened) (out-ElseIf x).then) h0 h1 h2 h3)

pub adds_block : (w0 w1 w2 w3 : Writer) (x : Block Body) → Adds w0 (one x.open) w1 → Adds w1 (body_parts one inside opened x.body) w2 → Adds w2 (one x.close) w3
    → Adds w0 (block_parts one inside opened (body_parts one inside opened) x) w3
adds_block w0 w1 w2 w3 x h0 h1 h2 =
    adds_as w0 w3 (block_parts one inside opened (body_parts one inside opened) x) (one x.open ++ (body_parts one inside opened x.body ++ one x.close))
    (leaves_inside x.groups (one x.open ++ (body_parts one inside opened x.body ++ one x.close)))
    (adds3 w0 w1 w2 w3 (one x.open) (body_parts one inside opened x.body) (one x.close) h0 h1 h2)
