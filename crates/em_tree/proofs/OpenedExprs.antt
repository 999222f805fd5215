-- The tokens of an expression, a statement or a block of the grammar are its pieces opened.
use Rattle.std.proofs.Common.{◌++◌, ◌∷◌, [], ℕ, zero, suc, Bool, true, false, List, Option, Some, None, refl}
use Rattle.em_base.specs.declared.token.Token.{Token}
use Rattle.em_tree.specs.declared.parts.Listed.{Listed}
use Rattle.em_tree.specs.declared.piece.Piece.{Piece}
use Rattle.em_tree.specs.declared.piece.Group.{Group}
use Rattle.em_tree.specs.declared.expr.Annotation.{Annotation}
use Rattle.em_tree.specs.declared.expr.FieldExpr.{FieldExpr}
use Rattle.em_tree.specs.declared.expr.ClosureParam.{ClosureParam}
use Rattle.em_tree.specs.declared.expr.ClosureHead.{ClosureHead}
use Rattle.em_tree.specs.declared.expr.Condition.{Condition}
use Rattle.em_tree.specs.declared.expr.Arm.{Arm}
use Rattle.em_tree.specs.declared.expr.Block.{Block}
use Rattle.em_tree.specs.declared.expr.ElseIf.{ElseIf, out-ElseIf}
use Rattle.em_tree.specs.declared.expr.Expr.{Expr}
use Rattle.em_tree.specs.declared.expr.Stmt.{Stmt}
use Rattle.em_tree.specs.declared.expr.Body.{Body, out-Body}
use Rattle.em_tree.specs.declared.expr.Annotation.TheVariants as annotation
use Rattle.em_tree.specs.declared.expr.ClosureHead.TheVariants as head
use Rattle.em_tree.specs.declared.expr.Condition.TheVariants as condition
use Rattle.em_tree.specs.declared.piece.Piece.TheVariants as p
use Rattle.em_tree.specs.Parts.{maybe, each, leaves, annotation_parts, arm_parts, block_parts, body_parts, closure_head_parts, closure_param_parts, condition_parts, else_if_parts, expr_parts, field_expr_parts, listed_parts, pat_parts, stmt_parts, top_pat_parts, type_tree_parts}
use Rattle.em_tree.specs.Yields.{one, inside, opened, piece, whole, as_it_is}
use Rattle.em_tree.specs.Tokens.{Commas}
use Rattle.em_tree.specs.PatGrammar.{IsPat}
use Rattle.em_tree.specs.ExprGrammar
use Rattle.em_tree.specs.ExprGrammar.{AreBlocks, IsAnnotation, AreParams, IsHead, IsFieldExpr, IsStmt, IsTail, IsEnd, IsBody, IsBlock, IsCondition, IsElseIf, IsOtherwise, IsArm, AreArms, IsRange, ExprNode, IsExpr, StmtWithin, BlockWithin, IsFragmentStmt}
use Rattle.em_tree.proofs.OpenedLayers.{Op, op2, op_tok, op_maybe_tok, op_group, snd, op_maybe, op_each, op_commas, op-Expr-Literal, op-Expr-Path, op-Expr-Struct, op-Expr-Paren, op-Expr-Array, op-Expr-Repeat, op-Expr-Block, op-Expr-If, op-Expr-Match, op-Expr-While, op-Expr-Loop, op-Expr-For, op-Expr-Closure, op-Expr-ClosureTo, op-Expr-Macro, op-Expr-Return, op-Expr-Break, op-Expr-Continue, op-Expr-MethodCall, op-Expr-Call, op-Expr-Field, op-Expr-Place, op-Expr-Index, op-Expr-Unary, op-Expr-Ref, op-Expr-RefRef, op-Expr-Binary, op-Expr-Assign, op-Expr-Group, op-Stmt-Mention, op-Stmt-Let, op-Stmt-Macro, op-Stmt-Expr, op-Stmt-BlockLike, op-Stmt-Group, op-Body, op-ElseIf}
use Rattle.em_tree.proofs.OpenedTrees.{int_op, type_is, path_is, pat_is, top_is}

abbrev OpExpr : Expr → Type 0
OpExpr x = Op (expr_parts one inside opened x) (expr_parts piece whole as_it_is x)

abbrev OpBlock : Block Body → Type 0
OpBlock b = Op (block_parts one inside opened (body_parts one inside opened) b) (block_parts piece whole as_it_is (body_parts piece whole as_it_is) b)

-- ---- parts without expressions

annotation_op : (depth : ℕ) (x : Annotation) → IsAnnotation depth x → Op (annotation_parts one inside opened x) (annotation_parts piece whole as_it_is x)
annotation_op depth annotation.Nothing h = refl
annotation_op depth (annotation.Type colon ty) h =
    op2 (one colon) (type_tree_parts one inside opened ty) (piece colon) (type_tree_parts piece whole as_it_is ty) (op_tok colon) (type_is depth false ty h.1)

param_op : (depth : ℕ) (x : ClosureParam) → IsPat depth x.pat → IsAnnotation depth x.annotation → Op (closure_param_parts one inside opened x) (closure_param_parts piece whole as_it_is x)
param_op depth x h k =
    op2 (pat_parts one inside opened x.pat) (annotation_parts one inside opened x.annotation ++ maybe one x.comma)
    (pat_parts piece whole as_it_is x.pat) (annotation_parts piece whole as_it_is x.annotation ++ maybe piece x.comma) (pat_is depth x.pat h)
    (op2 (annotation_parts one inside opened x.annotation) (maybe one x.comma) (annotation_parts piece whole as_it_is x.annotation) (maybe piece x.comma)
    (annotation_op depth x.annotation k) (op_maybe_tok x.comma))

params_op : (depth : ℕ) (xs : List ClosureParam) → AreParams depth xs → Op (each (closure_param_parts one inside opened) xs) (each (closure_param_parts piece whole as_it_is) xs)
params_op depth [] h = refl
params_op depth (a ∷ []) h = op2 (closure_param_parts one inside opened a) [] (closure_param_parts piece whole as_it_is a) [] (param_op depth a h.0 h.1) refl
params_op depth (a ∷ b ∷ rest) h =
    op2 (closure_param_parts one inside opened a) (each (closure_param_parts one inside opened) (b ∷ rest)) (closure_param_parts piece whole as_it_is a) (each (closure_param_parts piece whole as_it_is) (b ∷ rest))
    (param_op depth a h.0 h.1) (params_op depth (b ∷ rest) h.3)

head_op : (depth : ℕ) (x : ClosureHead) → IsHead depth x → Op (closure_head_parts one inside opened x) (closure_head_parts piece whole as_it_is x)
head_op depth (head.Empty bars) h = op_tok bars
head_op depth (head.Bars opening params closing) h =
    op2 (one opening) (each (closure_param_parts one inside opened) params ++ one closing) (piece opening) (each (closure_param_parts piece whole as_it_is) params ++ piece closing) (op_tok opening)
    (op2 (each (closure_param_parts one inside opened) params) (one closing) (each (closure_param_parts piece whole as_it_is) params) (piece closing) (params_op depth params h.1) (op_tok closing))

leaves_op : (gs : List Group) (ts : List Token) (ys : List Piece) → AreBlocks gs ys → Op ts ys → Op (leaves one inside opened gs ts) (leaves piece whole as_it_is gs ys)
leaves_op [] ts ys h k = k
leaves_op (g ∷ []) ts ys h k = op_group g ts ys h.1 k
leaves_op (g ∷ i ∷ gs) ts ys h k = op_group g (leaves one inside opened (i ∷ gs) ts) (p.Group i ∷ []) h.1 (leaves_op (i ∷ gs) ts ys h.2 k)

-- ---- expressions

module _ (depth : ℕ) (I D : Bool → Expr → Type 0) (hi : (o : Bool) (x : Expr) → I o x → OpExpr x) (hd : (o : Bool) (x : Expr) → D o x → OpExpr x) where
  stmt_op : (in_block : Bool) (x : Stmt) → IsStmt depth I D in_block x → Op (stmt_parts one inside opened x) (stmt_parts piece whole as_it_is x)
  stmt_op b x (ExprGrammar.IsStmt.mention e h1 h2 h3 h4 h5) = op-Stmt-Mention x _ _ _ _ _ e
  stmt_op b x (ExprGrammar.IsStmt.let' {pat = pat} {ty = ty} {value = value} e h1 h2 h3 h4 h5 h6 h7) = op-Stmt-Let x _ pat ty _ value _ e (pat_is depth pat h2) (annotation_op depth ty h3) (hi false value h6)
  stmt_op b x (ExprGrammar.IsStmt.macro e h1 h2) = op-Stmt-Macro x _ _ e
  stmt_op b x (ExprGrammar.IsStmt.expr {value = value} e h1 h2 h3) = op-Stmt-Expr x value _ e (hi false value h1)
  stmt_op b x (ExprGrammar.IsStmt.block_like {value = value} e h1 h2 h3) = op-Stmt-BlockLike x value _ e (hi false value h1)
  stmt_op b x (ExprGrammar.IsStmt.group {y = y} e h1 h2 h3 h4) = op-Stmt-Group x _ y _ e h2 (stmt_op false y h3)

  tail_op : (x : Expr) → IsTail depth I D x → OpExpr x
  tail_op x (ExprGrammar.IsTail.expr h1 h2) = hi false x h1
  tail_op x (ExprGrammar.IsTail.group {y = y} e h1 h2 h3) = op-Expr-Group x _ y e h2 (tail_op y h3)

  end_op : (stmts : List Stmt) (x : Option Expr) → IsEnd depth I D stmts x → Op (maybe (expr_parts one inside opened) x) (maybe (expr_parts piece whole as_it_is) x)
  end_op stmts None h = refl
  end_op stmts (Some x) h = tail_op x h

  body_op : (x : Body) → IsBody depth I D x → Op (body_parts one inside opened x) (body_parts piece whole as_it_is x)
  body_op x h = op-Body x (op_each (IsStmt depth I D true) (stmt_parts one inside opened) (stmt_parts piece whole as_it_is) (stmt_op true) (out-Body x).stmts h.stmts) (end_op (out-Body x).stmts (out-Body x).tail h.end)

  block_op : (b : Block Body) → IsBlock depth I D b → OpBlock b
  block_op b h =
      leaves_op b.groups (one b.open ++ (body_parts one inside opened b.body ++ one b.close)) (piece b.open ++ (body_parts piece whole as_it_is b.body ++ piece b.close)) h.groups
      (op2 (one b.open) (body_parts one inside opened b.body ++ one b.close) (piece b.open) (body_parts piece whole as_it_is b.body ++ piece b.close) (op_tok b.open)
      (op2 (body_parts one inside opened b.body) (one b.close) (body_parts piece whole as_it_is b.body) (piece b.close) (body_op b.body h.body) (op_tok b.close)))

  condition_op : (x : Condition Expr) → IsCondition depth I D x → Op (condition_parts one inside opened (expr_parts one inside opened) x) (condition_parts piece whole as_it_is (expr_parts piece whole as_it_is) x)
  condition_op (condition.Expr y) h = hi true y h.0
  condition_op (condition.Let word pat equals y) h =
      op2 (one word) (top_pat_parts one inside opened pat ++ (one equals ++ expr_parts one inside opened y)) (piece word) (top_pat_parts piece whole as_it_is pat ++ (piece equals ++ expr_parts piece whole as_it_is y)) (op_tok word)
      (op2 (top_pat_parts one inside opened pat) (one equals ++ expr_parts one inside opened y) (top_pat_parts piece whole as_it_is pat) (piece equals ++ expr_parts piece whole as_it_is y) (top_is depth pat h.1)
      (op2 (one equals) (expr_parts one inside opened y) (piece equals) (expr_parts piece whole as_it_is y) (op_tok equals) (hi true y h.3.0)))

  else_if_op : (x : ElseIf) → IsElseIf depth I D x → Op (else_if_parts one inside opened x) (else_if_parts piece whole as_it_is x)
  else_if_op x h = op-ElseIf x (condition_op (out-ElseIf x).condition h.2) (block_op (out-ElseIf x).then h.3)

  otherwise_op : (word : Option Token) (x : Option (Block Body)) → IsOtherwise depth I D word x
      → Op (maybe (block_parts one inside opened (body_parts one inside opened)) x) (maybe (block_parts piece whole as_it_is (body_parts piece whole as_it_is)) x)
  otherwise_op None None h = refl
  otherwise_op (Some word) (Some b) h = block_op b h.1
  otherwise_op None (Some b) h = elim h [ ]
  otherwise_op (Some word) None h = refl

  arm_op : (a : Arm Expr) → IsArm depth I D a → Op (arm_parts one inside opened (expr_parts one inside opened) a) (arm_parts piece whole as_it_is (expr_parts piece whole as_it_is) a)
  arm_op a h =
      op2 (top_pat_parts one inside opened a.pat) (one a.arrow ++ (expr_parts one inside opened a.body ++ maybe one a.comma)) (top_pat_parts piece whole as_it_is a.pat) (piece a.arrow ++ (expr_parts piece whole as_it_is a.body ++ maybe piece a.comma)) (top_is depth a.pat h.0)
      (op2 (one a.arrow) (expr_parts one inside opened a.body ++ maybe one a.comma) (piece a.arrow) (expr_parts piece whole as_it_is a.body ++ maybe piece a.comma) (op_tok a.arrow)
      (op2 (expr_parts one inside opened a.body) (maybe one a.comma) (expr_parts piece whole as_it_is a.body) (maybe piece a.comma) (hi false a.body h.2) (op_maybe_tok a.comma)))

  arms_op : (xs : List (Arm Expr)) → AreArms depth I D xs → Op (each (arm_parts one inside opened (expr_parts one inside opened)) xs) (each (arm_parts piece whole as_it_is (expr_parts piece whole as_it_is)) xs)
  arms_op [] h = refl
  arms_op (a ∷ []) h = op2 (arm_parts one inside opened (expr_parts one inside opened) a) [] (arm_parts piece whole as_it_is (expr_parts piece whole as_it_is) a) [] (arm_op a h.0) refl
  arms_op (a ∷ b ∷ rest) h =
      op2 (arm_parts one inside opened (expr_parts one inside opened) a) (each (arm_parts one inside opened (expr_parts one inside opened)) (b ∷ rest))
      (arm_parts piece whole as_it_is (expr_parts piece whole as_it_is) a) (each (arm_parts piece whole as_it_is (expr_parts piece whole as_it_is)) (b ∷ rest)) (arm_op a h.0) (arms_op (b ∷ rest) h.2)

  range_op : (x : Expr) (dots : Option Token) (y : Option Expr) → IsRange depth I D x dots y → OpExpr x
  range_op x None None h = hi true x h.0
  range_op x (Some dots) (Some y) h = hi true x h.1.0
  range_op x None (Some y) h = elim h [ ]
  range_op x (Some dots) None h = elim h [ ]

  range_end_op : (x : Expr) (dots : Option Token) (y : Option Expr) → IsRange depth I D x dots y → Op (maybe (expr_parts one inside opened) y) (maybe (expr_parts piece whole as_it_is) y)
  range_end_op x None None h = refl
  range_end_op x (Some dots) (Some y) h = hi true y h.2.0
  range_end_op x None (Some y) h = elim h [ ]
  range_end_op x (Some dots) None h = refl

  value_op : (name : Token) (colon : Option Token) (value : Option Expr) → IsFieldExpr (I false) (record { name = name; colon = colon; value = value })
      → Op (maybe (expr_parts one inside opened) value) (maybe (expr_parts piece whole as_it_is) value)
  value_op name None None h = refl
  value_op name (Some colon) (Some value) h = hi false value (snd (snd h))
  value_op name None (Some value) h = elim (snd h) [ ]
  value_op name (Some colon) None h = refl

  field_expr_op : (x : FieldExpr Expr) → IsFieldExpr (I false) x → Op (field_expr_parts one inside opened (expr_parts one inside opened) x) (field_expr_parts piece whole as_it_is (expr_parts piece whole as_it_is) x)
  field_expr_op x h =
      op2 (one x.name) (maybe one x.colon ++ maybe (expr_parts one inside opened) x.value) (piece x.name) (maybe piece x.colon ++ maybe (expr_parts piece whole as_it_is) x.value) (op_tok x.name)
      (op2 (maybe one x.colon) (maybe (expr_parts one inside opened) x.value) (maybe piece x.colon) (maybe (expr_parts piece whole as_it_is) x.value) (op_maybe_tok x.colon) (value_op x.name x.colon x.value h))

  exprs_op : (xs : List (Listed Expr)) → Commas (I false) xs → Op (each (listed_parts one inside opened (expr_parts one inside opened)) xs) (each (listed_parts piece whole as_it_is (expr_parts piece whole as_it_is)) xs)
  exprs_op xs h = op_commas (I false) (expr_parts one inside opened) (expr_parts piece whole as_it_is) (hi false) xs h

  expr_op : (h : Bool) (x : Expr) → ExprNode depth I D h x → OpExpr x
  expr_op o x (ExprGrammar.ExprNode.literal e h1) = op-Expr-Literal x _ e
  expr_op o x (ExprGrammar.ExprNode.path {y = y} e h1) = op-Expr-Path x y e (path_is depth y h1)
  expr_op o x (ExprGrammar.ExprNode.struct {y = y} {fields = fields} e h1 h2 h3 h4) =
      op-Expr-Struct x y _ fields _ e (path_is depth y h1)
      (op_commas (IsFieldExpr (I false)) (field_expr_parts one inside opened (expr_parts one inside opened)) (field_expr_parts piece whole as_it_is (expr_parts piece whole as_it_is)) field_expr_op fields h3)
  expr_op o x (ExprGrammar.ExprNode.paren {y = y} e h1 h2 h3) = op-Expr-Paren x _ y _ e (hi false y h2)
  expr_op o x (ExprGrammar.ExprNode.array {elements = elements} e h1 h2 h3) = op-Expr-Array x _ elements _ e (exprs_op elements h2)
  expr_op o x (ExprGrammar.ExprNode.repeat {y = y} {length = length} e h1 h2 h3 h4 h5) = op-Expr-Repeat x _ y _ length _ e (hi false y h2) (int_op length h4)
  expr_op o x (ExprGrammar.ExprNode.block {b = b} e h1) = op-Expr-Block x b e (block_op b h1)
  expr_op o x (ExprGrammar.ExprNode.if' {c = c} {then' = b} {branches = branches} {word_else = word} {otherwise = otherwise} e h1 h2 h3 h4 h5) =
      op-Expr-If x _ c b branches word otherwise e (condition_op c h2) (block_op b h3)
      (op_each (IsElseIf depth I D) (else_if_parts one inside opened) (else_if_parts piece whole as_it_is) else_if_op branches h4) (otherwise_op word otherwise h5)
  expr_op o x (ExprGrammar.ExprNode.match {y = y} {arms = arms} e h1 h2 h3 h4 h5) = op-Expr-Match x _ y _ arms _ e (hi true y h2.0) (arms_op arms h4)
  expr_op o x (ExprGrammar.ExprNode.while {y = y} {b = b} e h1 h2 h3) = op-Expr-While x _ y b e (hi true y h2.0) (block_op b h3)
  expr_op o x (ExprGrammar.ExprNode.loop {b = b} e h1 h2) = op-Expr-Loop x _ b e (block_op b h2)
  expr_op o x (ExprGrammar.ExprNode.for' {y = y} {pat = pat} {dots = dots} {end = end} {b = b} e h1 h2 h3 h4 h5) =
      op-Expr-For x _ pat _ y dots end b e (pat_is depth pat h2) (range_op y dots end h4) (range_end_op y dots end h4) (block_op b h5)
  expr_op o x (ExprGrammar.ExprNode.closure {y = y} {params = params} e h1 h2 h3) = op-Expr-Closure x _ params y e (head_op depth params h2) (hi o y h3)
  expr_op o x (ExprGrammar.ExprNode.closure_to {params = params} {output = output} {b = b} e h1 h2 h3 h4 h5) =
      op-Expr-ClosureTo x _ params _ output b e (head_op depth params h2) (type_is depth false output h4) (block_op b h5)
  expr_op o x (ExprGrammar.ExprNode.macro e h1) = op-Expr-Macro x _ e
  expr_op o x (ExprGrammar.ExprNode.return {value = value} e h1 h2) = op-Expr-Return x _ value e (op_maybe (I o) (expr_parts one inside opened) (expr_parts piece whole as_it_is) (hi o) value h2)
  expr_op o x (ExprGrammar.ExprNode.break e h1) = op-Expr-Break x _ e
  expr_op o x (ExprGrammar.ExprNode.continue e h1) = op-Expr-Continue x _ e
  expr_op o x (ExprGrammar.ExprNode.method_call {y = y} {arguments = arguments} e h1 h2 h3 h4 h5 h6) = op-Expr-MethodCall x y _ _ _ arguments _ e (hi o y h1.0) (exprs_op arguments h5)
  expr_op o x (ExprGrammar.ExprNode.call {y = y} {arguments = arguments} e h1 h2 h3 h4 h5) = op-Expr-Call x y _ arguments _ e (hi o y h1.0) (exprs_op arguments h4)
  expr_op o x (ExprGrammar.ExprNode.field {y = y} e h1 h2 h3) = op-Expr-Field x y _ _ e (hi o y h1.0)
  expr_op o x (ExprGrammar.ExprNode.place {y = y} {number = number} e h1 h2 h3) = op-Expr-Place x y _ number e (hi o y h1.0) (int_op number h3)
  expr_op o x (ExprGrammar.ExprNode.index {y = y} {z = z} e h1 h2 h3 h4) = op-Expr-Index x y _ z _ e (hi o y h1.0) (hi false z h3)
  expr_op o x (ExprGrammar.ExprNode.unary' {y = y} e h1 h2) = op-Expr-Unary x _ y e (hi o y h2.0)
  expr_op o x (ExprGrammar.ExprNode.ref {y = y} e h1 h2 h3) = op-Expr-Ref x _ _ y e (hi o y h3.0)
  expr_op o x (ExprGrammar.ExprNode.ref_ref {y = y} e h1 h2 h3 h4) = op-Expr-RefRef x _ _ y e (hd o y h3)
  expr_op o x (ExprGrammar.ExprNode.binary {y = y} {z = z} e h1 h2 h3) = op-Expr-Binary x y _ z e (hi o y h2.0) (hi o z h3.0)
  expr_op o x (ExprGrammar.ExprNode.assign {y = y} {z = z} e h1 h2 h3) = op-Expr-Assign x y _ z e (hi o y h2.0) (hi o z h3.0)
  expr_op o x (ExprGrammar.ExprNode.group {y = y} e h1 h2 h3) = op-Expr-Group x _ y e h2 (expr_op false y h3)

pub expr_is : (depth : ℕ) (h : Bool) (x : Expr) → IsExpr depth h x → OpExpr x
unfolding IsExpr
expr_is zero o x h = elim h [ ]
expr_is (suc zero) o x h = expr_op zero (λ q y. ⊥) (λ q y. ⊥) (λ q y k. elim k [ ]) (λ q y k. elim k [ ]) o x h
expr_is (suc (suc depth)) o x h = expr_op (suc depth) (IsExpr (suc depth)) (IsExpr depth) (expr_is (suc depth)) (expr_is depth) o x h

pub stmt_is : (depth : ℕ) (x : Stmt) → StmtWithin depth x → Op (stmt_parts one inside opened x) (stmt_parts piece whole as_it_is x)
unfolding StmtWithin
stmt_is zero x h = stmt_op zero (λ q y. ⊥) (λ q y. ⊥) (λ q y k. elim k [ ]) (λ q y k. elim k [ ]) true x h
stmt_is (suc depth) x h = stmt_op (suc depth) (IsExpr (suc depth)) (IsExpr depth) (expr_is (suc depth)) (expr_is depth) true x h

pub fragment_stmt_is : (depth : ℕ) (x : Stmt) → IsFragmentStmt depth x → Op (stmt_parts one inside opened x) (stmt_parts piece whole as_it_is x)
unfolding IsFragmentStmt
fragment_stmt_is zero x h = stmt_op zero (λ q y. ⊥) (λ q y. ⊥) (λ q y k. elim k [ ]) (λ q y k. elim k [ ]) false x h
fragment_stmt_is (suc depth) x h = stmt_op (suc depth) (IsExpr (suc depth)) (IsExpr depth) (expr_is (suc depth)) (expr_is depth) false x h

pub block_is : (depth : ℕ) (b : Block Body) → BlockWithin depth b → OpBlock b
unfolding BlockWithin
block_is zero b h = block_op zero (λ q y. ⊥) (λ q y. ⊥) (λ q y k. elim k [ ]) (λ q y k. elim k [ ]) b h
block_is (suc depth) b h = block_op (suc depth) (IsExpr (suc depth)) (IsExpr depth) (expr_is (suc depth)) (expr_is depth) b h
