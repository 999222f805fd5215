-- The depth of an expression, a statement or a block is how deep it nests.
use Rattle.std.proofs.Common.{◌≡◌, ℕ, zero, suc, ◌≤◌, Bool, true, false, List, [], ◌∷◌, Option, Some, None, refl, sym, ◌∙◌, ap, subst, map, arith, max, ◌⊎◌, inl, inr}
use Rattle.em_base.specs.declared.token.Token.{Token}
use Rattle.em_tree.specs.declared.parts.Listed.{Listed}
use Rattle.em_tree.specs.declared.literal.Literal.{Literal}
use Rattle.em_tree.specs.declared.piece.Group.{Group}
use Rattle.em_tree.specs.declared.types.Path.{Path}
use Rattle.em_tree.specs.declared.types.TypeTree.{TypeTree}
use Rattle.em_tree.specs.declared.pat.Pat.{Pat}
use Rattle.em_tree.specs.declared.expr.Annotation.{Annotation}
use Rattle.em_tree.specs.declared.expr.Annotation.TheVariants as annotation
use Rattle.em_tree.specs.declared.expr.ClosureParam.{ClosureParam}
use Rattle.em_tree.specs.declared.expr.ClosureHead.{ClosureHead}
use Rattle.em_tree.specs.declared.expr.ClosureHead.TheVariants as head
use Rattle.em_tree.specs.declared.expr.FieldExpr.{FieldExpr}
use Rattle.em_tree.specs.declared.expr.Condition.{Condition}
use Rattle.em_tree.specs.declared.expr.Condition.TheVariants as condition
use Rattle.em_tree.specs.declared.expr.Arm.{Arm}
use Rattle.em_tree.specs.declared.expr.Block.{Block}
use Rattle.em_tree.specs.declared.expr.MacroCall.{MacroCall}
use Rattle.em_tree.specs.declared.expr.Refs.{Refs}
use Rattle.em_tree.specs.declared.expr.Expr.{Expr, out-Expr, fold-Expr, fold_out-Expr, map-Expr}
use Rattle.em_tree.specs.declared.expr.Stmt.{Stmt, out-Stmt, fold-Stmt, fold_out-Stmt, map-Stmt}
use Rattle.em_tree.specs.declared.expr.Body.{Body, out-Body, fold-Body, fold_out-Body, map-Body}
use Rattle.em_tree.specs.declared.expr.ElseIf.{ElseIf, out-ElseIf, fold-ElseIf, fold_out-ElseIf, map-ElseIf}
use Rattle.em_tree.specs.declared.expr.Expr.TheOpen.{Expr-F, Stmt-F, Body-F, ElseIf-F}
use Rattle.em_tree.specs.declared.expr.Expr.TheShapes.{former-Expr-Struct-2-at-6, former-Expr-If-1, former-Expr-For-5}
use Rattle.em_tree.specs.Tokens.{Is, Maybe, Each, Commas}
use Rattle.em_tree.specs.PathGrammar.{PathWithin, TypeWithin}
use Rattle.em_tree.specs.PatGrammar.{IsPat, IsTopPat}
use Rattle.em_tree.specs.ExprGrammar as g
use Rattle.em_tree.specs.ExprGrammar.{IsAnnotation, AreParams, IsHead, IsFieldExpr, IsStmt, IsTail, IsEnd, IsBody, IsBlock, IsCondition, IsElseIf, IsOtherwise, IsArm, AreArms, IsRange, ExprNode, IsExpr, StmtWithin, IsFragmentStmt, BlockWithin, BodyWithin}
use Rattle.em_tree.specs.Nesting.{greatest, of_some, itself, path_nesting, type_nesting, pat_nesting, top_nesting, annotation_nesting, head_nesting, condition_depth, arm_depth, expr_depth, stmt_depth, body_depth, branch_depth, expr_nesting, stmt_nesting, body_nesting, branch_nesting, block_nesting}
use Rattle.em_grammar.proofs.NestTypes.{greatest_map, greatest_alike, commas_low, commas_within, each_low, each_within, type_low, type_within, path_low_at, path_within_at, pat_low, pat_within, top_low, top_within}

-- ---- one layer

at_expr : (x : Expr) (l : Expr-F Expr Stmt Body ElseIf) → out-Expr x ≡ l → expr_nesting x ≡ expr_depth (map-Expr Expr Stmt Body ElseIf ℕ ℕ ℕ ℕ expr_nesting stmt_nesting body_nesting branch_nesting l)
unfolding expr_nesting stmt_nesting body_nesting branch_nesting
at_expr x l is = fold_out-Expr ℕ ℕ ℕ ℕ expr_depth stmt_depth body_depth branch_depth x ∙ ap (λ k. expr_depth (map-Expr Expr Stmt Body ElseIf ℕ ℕ ℕ ℕ expr_nesting stmt_nesting body_nesting branch_nesting k)) is

at_stmt : (x : Stmt) (l : Stmt-F Expr Stmt Body ElseIf) → out-Stmt x ≡ l → stmt_nesting x ≡ stmt_depth (map-Stmt Expr Stmt Body ElseIf ℕ ℕ ℕ ℕ expr_nesting stmt_nesting body_nesting branch_nesting l)
unfolding expr_nesting stmt_nesting body_nesting branch_nesting
at_stmt x l is = fold_out-Stmt ℕ ℕ ℕ ℕ expr_depth stmt_depth body_depth branch_depth x ∙ ap (λ k. stmt_depth (map-Stmt Expr Stmt Body ElseIf ℕ ℕ ℕ ℕ expr_nesting stmt_nesting body_nesting branch_nesting k)) is

at_body : (x : Body) (l : Body-F Expr Stmt Body ElseIf) → out-Body x ≡ l → body_nesting x ≡ body_depth (map-Body Expr Stmt Body ElseIf ℕ ℕ ℕ ℕ expr_nesting stmt_nesting body_nesting branch_nesting l)
unfolding expr_nesting stmt_nesting body_nesting branch_nesting
at_body x l is = fold_out-Body ℕ ℕ ℕ ℕ expr_depth stmt_depth body_depth branch_depth x ∙ ap (λ k. body_depth (map-Body Expr Stmt Body ElseIf ℕ ℕ ℕ ℕ expr_nesting stmt_nesting body_nesting branch_nesting k)) is

at_branch : (x : ElseIf) (l : ElseIf-F Expr Stmt Body ElseIf) → out-ElseIf x ≡ l → branch_nesting x ≡ branch_depth (map-ElseIf Expr Stmt Body ElseIf ℕ ℕ ℕ ℕ expr_nesting stmt_nesting body_nesting branch_nesting l)
unfolding expr_nesting stmt_nesting body_nesting branch_nesting
at_branch x l is = fold_out-ElseIf ℕ ℕ ℕ ℕ expr_depth stmt_depth body_depth branch_depth x ∙ ap (λ k. branch_depth (map-ElseIf Expr Stmt Body ElseIf ℕ ℕ ℕ ℕ expr_nesting stmt_nesting body_nesting branch_nesting k)) is

value_alike : (name : Token) (colon : Option Token) (value : Option Expr) (comma : Option Token)
    → of_some itself (former-Expr-Struct-2-at-6.map Expr ℕ expr_nesting (record { item = record { name = name; colon = colon; value = value }; comma = comma })).item.value ≡ of_some expr_nesting value
value_alike name colon None comma = refl
value_alike name colon (Some value) comma = refl

tail_alike : (v : Option Expr) → of_some itself (former-Expr-For-5.map Expr ℕ expr_nesting v) ≡ of_some expr_nesting v
tail_alike None = refl
tail_alike (Some value) = refl

condition_alike : (c : Condition Expr) → condition_depth itself (former-Expr-If-1.map Expr ℕ expr_nesting c) ≡ condition_depth expr_nesting c
condition_alike (condition.Expr value) = refl
condition_alike (condition.Let word pat equals value) = refl

struct_at : (x : Expr) (y : Path) (o : Token) (fields : List (Listed (FieldExpr Expr))) (c : Token) → out-Expr x ≡ Expr-F.Struct y o fields c
    → expr_nesting x ≡ suc (max (path_nesting y) (greatest (λ l. of_some expr_nesting l.item.value) fields))
struct_at x y o fields c is =
    at_expr x (Expr-F.Struct y o fields c) is
    ∙ ap (λ r. suc (max (path_nesting y) r)) (greatest_map (λ l. of_some itself l.item.value) _ fields
    ∙ greatest_alike _ (λ l. of_some expr_nesting l.item.value) (λ l. value_alike l.item.name l.item.colon l.item.value l.comma) fields)

array_at : (x : Expr) (o : Token) (xs : List (Listed Expr)) (c : Token) → out-Expr x ≡ Expr-F.Array o xs c → expr_nesting x ≡ suc (greatest (λ l. expr_nesting l.item) xs)
array_at x o xs c is = at_expr x (Expr-F.Array o xs c) is ∙ ap (λ r. suc r) (greatest_map (λ l. l.item) _ xs)

if_at : (x : Expr) (word : Token) (c : Condition Expr) (b : Block Body) (branches : List ElseIf) (word_else : Option Token) (otherwise : Option (Block Body)) → out-Expr x ≡ Expr-F.If word c b branches word_else otherwise
    → expr_nesting x ≡ suc (max (condition_depth expr_nesting c) (max (block_nesting b) (max (greatest branch_nesting branches) (of_some block_nesting otherwise))))
if_at x word c b branches word_else None is =
    at_expr x (Expr-F.If word c b branches word_else None) is
    ∙ ap (λ r. suc (max r (max (block_nesting b) (max (greatest itself (map branch_nesting branches)) 0)))) (condition_alike c)
    ∙ ap (λ r. suc (max (condition_depth expr_nesting c) (max (block_nesting b) (max r 0)))) (greatest_map itself branch_nesting branches)
if_at x word c b branches word_else (Some e) is =
    at_expr x (Expr-F.If word c b branches word_else (Some e)) is
    ∙ ap (λ r. suc (max r (max (block_nesting b) (max (greatest itself (map branch_nesting branches)) (block_nesting e))))) (condition_alike c)
    ∙ ap (λ r. suc (max (condition_depth expr_nesting c) (max (block_nesting b) (max r (block_nesting e))))) (greatest_map itself branch_nesting branches)

match_at : (x : Expr) (word : Token) (y : Expr) (o : Token) (arms : List (Arm Expr)) (c : Token) → out-Expr x ≡ Expr-F.Match word y o arms c
    → expr_nesting x ≡ suc (max (expr_nesting y) (greatest (arm_depth expr_nesting) arms))
match_at x word y o arms c is = at_expr x (Expr-F.Match word y o arms c) is ∙ ap (λ r. suc (max (expr_nesting y) r)) (greatest_map (arm_depth itself) _ arms)

for_at : (x : Expr) (word : Token) (p : Pat) (word_in : Token) (y : Expr) (dots : Option Token) (end : Option Expr) (b : Block Body) → out-Expr x ≡ Expr-F.For word p word_in y dots end b
    → expr_nesting x ≡ suc (max (pat_nesting p) (max (expr_nesting y) (max (of_some expr_nesting end) (block_nesting b))))
for_at x word p word_in y dots None b is = at_expr x (Expr-F.For word p word_in y dots None b) is
for_at x word p word_in y dots (Some e) b is = at_expr x (Expr-F.For word p word_in y dots (Some e) b) is

return_at : (x : Expr) (word : Token) (v : Option Expr) → out-Expr x ≡ Expr-F.Return word v → expr_nesting x ≡ suc (of_some expr_nesting v)
return_at x word None is = at_expr x (Expr-F.Return word None) is
return_at x word (Some v) is = at_expr x (Expr-F.Return word (Some v)) is

method_at : (x y : Expr) (dot n o : Token) (xs : List (Listed Expr)) (c : Token) → out-Expr x ≡ Expr-F.MethodCall y dot n o xs c
    → expr_nesting x ≡ suc (max (expr_nesting y) (greatest (λ l. expr_nesting l.item) xs))
method_at x y dot n o xs c is = at_expr x (Expr-F.MethodCall y dot n o xs c) is ∙ ap (λ r. suc (max (expr_nesting y) r)) (greatest_map (λ l. l.item) _ xs)

call_at : (x y : Expr) (o : Token) (xs : List (Listed Expr)) (c : Token) → out-Expr x ≡ Expr-F.Call y o xs c → expr_nesting x ≡ suc (max (expr_nesting y) (greatest (λ l. expr_nesting l.item) xs))
call_at x y o xs c is = at_expr x (Expr-F.Call y o xs c) is ∙ ap (λ r. suc (max (expr_nesting y) r)) (greatest_map (λ l. l.item) _ xs)

body_at : (x : Body) → body_nesting x ≡ max (greatest stmt_nesting (out-Body x).stmts) (of_some expr_nesting (out-Body x).tail)
body_at x =
    at_body x (out-Body x) refl
    ∙ ap (λ r. max r (of_some itself (former-Expr-For-5.map Expr ℕ expr_nesting (out-Body x).tail))) (greatest_map itself stmt_nesting (out-Body x).stmts)
    ∙ ap (λ r. max (greatest stmt_nesting (out-Body x).stmts) r) (tail_alike (out-Body x).tail)

branch_at : (x : ElseIf) → branch_nesting x ≡ max (condition_depth expr_nesting (out-ElseIf x).condition) (block_nesting (out-ElseIf x).then)
branch_at x = at_branch x (out-ElseIf x) refl ∙ ap (λ r. max r (block_nesting (out-ElseIf x).then)) (condition_alike (out-ElseIf x).condition)

-- ---- parts without expressions

annotation_low : (d : ℕ) (a : Annotation) → IsAnnotation d a → annotation_nesting a ≤ d
annotation_low d annotation.Nothing m = omega arith
annotation_low d (annotation.Type colon ty) m = type_low d false ty m.1

annotation_within : (e d : ℕ) (a : Annotation) → IsAnnotation e a → annotation_nesting a ≤ d → IsAnnotation d a
annotation_within e d annotation.Nothing m low = tt
annotation_within e d (annotation.Type colon ty) m low = (m.0, type_within e d false ty m.1 low)

abbrev of_param : ClosureParam → ℕ
of_param x = max (pat_nesting x.pat) (annotation_nesting x.annotation)

params_low : (d : ℕ) (xs : List ClosureParam) → AreParams d xs → greatest of_param xs ≤ d
params_low d [] m = omega arith
params_low d (a ∷ []) m = omega (arith, pat_low d a.pat m.0, annotation_low d a.annotation m.1)
params_low d (a ∷ b ∷ rest) m = omega (arith, pat_low d a.pat m.0, annotation_low d a.annotation m.1, params_low d (b ∷ rest) m.3)

params_within : (e d : ℕ) (xs : List ClosureParam) → AreParams e xs → greatest of_param xs ≤ d → AreParams d xs
params_within e d [] m low = tt
params_within e d (a ∷ []) m low = (pat_within e d a.pat m.0 (omega (arith, low)), annotation_within e d a.annotation m.1 (omega (arith, low)), m.2)
params_within e d (a ∷ b ∷ rest) m low =
    (pat_within e d a.pat m.0 (omega (arith, low)), annotation_within e d a.annotation m.1 (omega (arith, low)), m.2, params_within e d (b ∷ rest) m.3 (omega (arith, low)))

head_low : (d : ℕ) (x : ClosureHead) → IsHead d x → head_nesting x ≤ d
head_low d (head.Empty bars) m = omega arith
head_low d (head.Bars o params c) m = params_low d params m.1

head_within : (e d : ℕ) (x : ClosureHead) → IsHead e x → head_nesting x ≤ d → IsHead d x
head_within e d (head.Empty bars) m low = m
head_within e d (head.Bars o params c) m low = (m.0, params_within e d params m.1 low, m.2)

-- ---- no deeper

module _ (d : ℕ) (I D : Bool → Expr → Type 0) (h : (b : Bool) (x : Expr) → I b x → expr_nesting x ≤ d) (k : (b : Bool) (x : Expr) → D b x → suc (expr_nesting x) ≤ d) where
  pub stmt_low : (b : Bool) (x : Stmt) → IsStmt d I D b x → stmt_nesting x ≤ d
  stmt_low _ _ (g.IsStmt.mention {x} {word} {underscore} {equals} {list} {semi} is a b c e f) =
      let n : stmt_nesting x ≡ 0 = at_stmt x (Stmt-F.Mention word underscore equals list semi) is in omega (arith, n)
  stmt_low _ _ (g.IsStmt.let' {x} {word} {equals} {pat} {ty} {value} {semi} is a b c e f m q) =
      let n : stmt_nesting x ≡ max (pat_nesting pat) (max (annotation_nesting ty) (expr_nesting value)) = at_stmt x (Stmt-F.Let word pat ty equals value semi) is in
      omega (arith, n, pat_low d pat b, annotation_low d ty c, h false value m)
  stmt_low _ _ (g.IsStmt.macro {x} {call} {semi} is a b) = let n : stmt_nesting x ≡ 0 = at_stmt x (Stmt-F.Stmt::Macro call semi) is in omega (arith, n)
  stmt_low _ _ (g.IsStmt.expr {x} {value} {semi} is m a b) = let n : stmt_nesting x ≡ expr_nesting value = at_stmt x (Stmt-F.Expr value semi) is in omega (arith, n, h false value m)
  stmt_low _ _ (g.IsStmt.block_like {x} {value} {semi} is m a b) = let n : stmt_nesting x ≡ expr_nesting value = at_stmt x (Stmt-F.BlockLike value semi) is in omega (arith, n, h false value m)
  stmt_low _ _ (g.IsStmt.group {x} {y} {g = gr} {semi} is a ps m b) = let n : stmt_nesting x ≡ stmt_nesting y = at_stmt x (Stmt-F.Stmt::Group gr y semi) is in omega (arith, n, stmt_low false y m)

  tail_low : (x : Expr) → IsTail d I D x → expr_nesting x ≤ d
  tail_low x (g.IsTail.expr m a) = h false x m
  tail_low x (g.IsTail.group {y} {g = gr} is a ps m) = let n : expr_nesting x ≡ expr_nesting y = at_expr x (Expr-F.Expr::Group gr y) is in omega (arith, n, tail_low y m)

  end_low : (stmts : List Stmt) (o : Option Expr) → IsEnd d I D stmts o → of_some expr_nesting o ≤ d
  end_low stmts None m = omega arith
  end_low stmts (Some x) m = tail_low x m

  pub body_low : (x : Body) → IsBody d I D x → body_nesting x ≤ d
  body_low x m = omega (arith, body_at x, each_low (IsStmt d I D true) stmt_nesting d (stmt_low true) (out-Body x).stmts m.stmts, end_low (out-Body x).stmts (out-Body x).tail m.end)

  pub block_low : (b : Block Body) → IsBlock d I D b → block_nesting b ≤ d
  block_low b m = body_low b.body m.body

  condition_low : (c : Condition Expr) → IsCondition d I D c → condition_depth expr_nesting c ≤ d
  condition_low (condition.Expr x) m = h true x m.0
  condition_low (condition.Let word pat equals x) m = omega (arith, top_low d pat m.1, h true x m.3.0)

  branch_low : (x : ElseIf) → IsElseIf d I D x → branch_nesting x ≤ d
  branch_low x m = omega (arith, branch_at x, condition_low (out-ElseIf x).condition m.2, block_low (out-ElseIf x).then m.3)

  otherwise_low : (w : Option Token) (o : Option (Block Body)) → IsOtherwise d I D w o → of_some block_nesting o ≤ d
  otherwise_low None None m = omega arith
  otherwise_low (Some w) (Some b) m = block_low b m.1
  otherwise_low None (Some b) m = absurd m
  otherwise_low (Some w) None m = absurd m

  arm_low : (a : Arm Expr) → IsArm d I D a → arm_depth expr_nesting a ≤ d
  arm_low a m = omega (arith, top_low d a.pat m.0, h false a.body m.2)

  arms_low : (xs : List (Arm Expr)) → AreArms d I D xs → greatest (arm_depth expr_nesting) xs ≤ d
  arms_low [] m = omega arith
  arms_low (a ∷ []) m = omega (arith, arm_low a m.0)
  arms_low (a ∷ b ∷ more) m = omega (arith, arm_low a m.0, arms_low (b ∷ more) m.2)

  range_low : (x : Expr) (w : Option Token) (o : Option Expr) → IsRange d I D x w o → max (expr_nesting x) (of_some expr_nesting o) ≤ d
  range_low x None None m = omega (arith, h true x m.0)
  range_low x (Some w) (Some y) m = omega (arith, h true x m.1.0, h true y m.2.0)
  range_low x None (Some y) m = absurd m
  range_low x (Some w) None m = absurd m

  value_low : (x : FieldExpr Expr) → IsFieldExpr (I false) x → of_some expr_nesting x.value ≤ d
  value_low x m = go x.colon x.value m
    where
      go : (c : Option Token) (v : Option Expr) → IsFieldExpr (I false) (record { name = x.name; colon = c; value = v }) → of_some expr_nesting v ≤ d
      go None None m = omega arith
      go (Some c) (Some v) m = h false v m.1.1
      go None (Some v) m = absurd m.1
      go (Some c) None m = absurd m.1

  some_low : (b : Bool) (o : Option Expr) → Maybe (I b) o → of_some expr_nesting o ≤ d
  some_low b None m = omega arith
  some_low b (Some x) m = h b x m

  node_low : (b : Bool) (x : Expr) → ExprNode d I D b x → expr_nesting x ≤ suc d
  node_low _ _ (g.ExprNode.literal {x} {t} is a) = let n : expr_nesting x ≡ 1 = at_expr x (Expr-F.Literal t) is in omega (arith, n)
  node_low _ _ (g.ExprNode.path {x} {y} is a) = let n : expr_nesting x ≡ suc (path_nesting y) = at_expr x (Expr-F.Path y) is in omega (arith, n, path_low_at d y a)
  node_low _ _ (g.ExprNode.struct {x} {y} {open' = o} {close = c} {fields} is a b m e) =
      omega (arith, struct_at x y o fields c is, path_low_at d y a, commas_low (IsFieldExpr (I false)) (λ f. of_some expr_nesting f.value) d value_low fields m)
  node_low _ _ (g.ExprNode.paren {x} {y} {open' = o} {close = c} is a m b) = let n : expr_nesting x ≡ suc (expr_nesting y) = at_expr x (Expr-F.Paren o y c) is in omega (arith, n, h false y m)
  node_low _ _ (g.ExprNode.array {x} {open' = o} {close = c} {elements} is a m b) = omega (arith, array_at x o elements c is, commas_low (I false) expr_nesting d (h false) elements m)
  node_low _ _ (g.ExprNode.repeat {x} {y} {open' = o} {semi} {close = c} {length} is a m b q e) =
      let n : expr_nesting x ≡ suc (expr_nesting y) = at_expr x (Expr-F.Repeat o y semi length c) is in omega (arith, n, h false y m)
  node_low _ _ (g.ExprNode.block {x} {b} is m) = let n : expr_nesting x ≡ suc (block_nesting b) = at_expr x (Expr-F.Block b) is in omega (arith, n, block_low b m)
  node_low _ _ (g.ExprNode.if' {x} {word} {c} {then' = t} {branches} {word_else} {otherwise} is a m b e f) =
      omega (arith, if_at x word c t branches word_else otherwise is, condition_low c m, block_low t b, each_low (IsElseIf d I D) branch_nesting d branch_low branches e, otherwise_low word_else otherwise f)
  node_low _ _ (g.ExprNode.match {x} {y} {word} {open' = o} {close = c} {arms} is a m b e f) = omega (arith, match_at x word y o arms c is, h true y m.0, arms_low arms e)
  node_low _ _ (g.ExprNode.while {x} {y} {word} {b} is a m e) =
      let n : expr_nesting x ≡ suc (max (expr_nesting y) (block_nesting b)) = at_expr x (Expr-F.While word y b) is in omega (arith, n, h true y m.0, block_low b e)
  node_low _ _ (g.ExprNode.loop {x} {word} {b} is a m) = let n : expr_nesting x ≡ suc (block_nesting b) = at_expr x (Expr-F.Loop word b) is in omega (arith, n, block_low b m)
  node_low _ _ (g.ExprNode.for' {x} {y} {word} {word_in} {pat} {dots} {end} {b} is a m c e f) =
      omega (arith, for_at x word pat word_in y dots end b is, pat_low d pat m, range_low y dots end e, block_low b f)
  node_low _ _ (g.ExprNode.closure {h = flag} {x} {y} {word_move} {params} is a m e) =
      let n : expr_nesting x ≡ suc (max (head_nesting params) (expr_nesting y)) = at_expr x (Expr-F.Closure word_move params y) is in omega (arith, n, head_low d params m, h flag y e)
  node_low _ _ (g.ExprNode.closure_to {x} {word_move} {params} {arrow} {output} {b} is a m c e f) =
      let n : expr_nesting x ≡ suc (max (head_nesting params) (max (type_nesting output) (block_nesting b))) = at_expr x (Expr-F.ClosureTo word_move params arrow output b) is in
      omega (arith, n, head_low d params m, type_low d false output e, block_low b f)
  node_low _ _ (g.ExprNode.macro {x} {call} is a) = let n : expr_nesting x ≡ 1 = at_expr x (Expr-F.Expr::Macro call) is in omega (arith, n)
  node_low _ _ (g.ExprNode.return {h = flag} {x} {word} {value} is a m) = omega (arith, return_at x word value is, some_low flag value m)
  node_low _ _ (g.ExprNode.break {x} {word} is a) = let n : expr_nesting x ≡ 1 = at_expr x (Expr-F.Break word) is in omega (arith, n)
  node_low _ _ (g.ExprNode.continue {x} {word} is a) = let n : expr_nesting x ≡ 1 = at_expr x (Expr-F.Continue word) is in omega (arith, n)
  node_low _ _ (g.ExprNode.method_call {h = flag} {x} {y} {dot} {name} {open' = o} {close = c} {arguments} is m a b e q f) =
      omega (arith, method_at x y dot name o arguments c is, h flag y m.0, commas_low (I false) expr_nesting d (h false) arguments q)
  node_low _ _ (g.ExprNode.call {h = flag} {x} {y} {open' = o} {close = c} {arguments} is m a b q f) =
      omega (arith, call_at x y o arguments c is, h flag y m.0, commas_low (I false) expr_nesting d (h false) arguments q)
  node_low _ _ (g.ExprNode.field {h = flag} {x} {y} {dot} {name} is m a b) = let n : expr_nesting x ≡ suc (expr_nesting y) = at_expr x (Expr-F.Field y dot name) is in omega (arith, n, h flag y m.0)
  node_low _ _ (g.ExprNode.place {h = flag} {x} {y} {dot} {number} is m a b) = let n : expr_nesting x ≡ suc (expr_nesting y) = at_expr x (Expr-F.Place y dot number) is in omega (arith, n, h flag y m.0)
  node_low _ _ (g.ExprNode.index {h = flag} {x} {y} {z} {open' = o} {close = c} is m a e f) =
      let n : expr_nesting x ≡ suc (max (expr_nesting y) (expr_nesting z)) = at_expr x (Expr-F.Index y o z c) is in omega (arith, n, h flag y m.0, h false z e)
  node_low _ _ (g.ExprNode.unary' {h = flag} {x} {y} {operator} is a m) = let n : expr_nesting x ≡ suc (expr_nesting y) = at_expr x (Expr-F.Unary operator y) is in omega (arith, n, h flag y m.0)
  node_low _ _ (g.ExprNode.ref {h = flag} {x} {y} {amp} {word_mut} is a b m) = let n : expr_nesting x ≡ suc (expr_nesting y) = at_expr x (Expr-F.Ref amp word_mut y) is in omega (arith, n, h flag y m.0)
  node_low _ _ (g.ExprNode.ref_ref {h = flag} {x} {y} {amps} {word_mut} is a b m e) =
      let n : expr_nesting x ≡ suc (suc (expr_nesting y)) = at_expr x (Expr-F.RefRef amps word_mut y) is in omega (arith, n, k flag y m)
  node_low _ _ (g.ExprNode.binary {h = flag} {x} {y} {z} {operator} is a m e) =
      let n : expr_nesting x ≡ suc (max (expr_nesting y) (expr_nesting z)) = at_expr x (Expr-F.Binary y operator z) is in omega (arith, n, h flag y m.0, h flag z e.0)
  node_low _ _ (g.ExprNode.assign {h = flag} {x} {y} {z} {operator} is a m e) =
      let n : expr_nesting x ≡ suc (max (expr_nesting y) (expr_nesting z)) = at_expr x (Expr-F.Assign y operator z) is in omega (arith, n, h flag y m.0, h flag z e.0)
  node_low _ _ (g.ExprNode.group {x} {y} {g = gr} is a ps m) = let n : expr_nesting x ≡ expr_nesting y = at_expr x (Expr-F.Expr::Group gr y) is in omega (arith, n, node_low false y m)

-- ---- within a depth that is no less

module _ (e d : ℕ) (I J D E : Bool → Expr → Type 0) (h : (b : Bool) (x : Expr) → I b x → expr_nesting x ≤ d → J b x) (k : (b : Bool) (x : Expr) → D b x → suc (expr_nesting x) ≤ d → E b x) where
  pub stmt_within : (b : Bool) (x : Stmt) → IsStmt e I D b x → stmt_nesting x ≤ d → IsStmt d J E b x
  stmt_within _ _ (g.IsStmt.mention is a b c q f) low = g.IsStmt.mention is a b c q f
  stmt_within _ _ (g.IsStmt.let' {x} {word} {equals} {pat} {ty} {value} {semi} is a b c q f m r) low =
      let n : stmt_nesting x ≡ max (pat_nesting pat) (max (annotation_nesting ty) (expr_nesting value)) = at_stmt x (Stmt-F.Let word pat ty equals value semi) is in
      g.IsStmt.let' is a (pat_within e d pat b (omega (arith, low, n))) (annotation_within e d ty c (omega (arith, low, n))) q f (h false value m (omega (arith, low, n))) r
  stmt_within _ _ (g.IsStmt.macro is a b) low = g.IsStmt.macro is a b
  stmt_within _ _ (g.IsStmt.expr {x} {value} {semi} is m a b) low =
      let n : stmt_nesting x ≡ expr_nesting value = at_stmt x (Stmt-F.Expr value semi) is in g.IsStmt.expr is (h false value m (omega (arith, low, n))) a b
  stmt_within _ _ (g.IsStmt.block_like {x} {value} {semi} is m a b) low =
      let n : stmt_nesting x ≡ expr_nesting value = at_stmt x (Stmt-F.BlockLike value semi) is in g.IsStmt.block_like is (h false value m (omega (arith, low, n))) a b
  stmt_within _ _ (g.IsStmt.group {x} {y} {g = gr} {semi} is a ps m b) low =
      let n : stmt_nesting x ≡ stmt_nesting y = at_stmt x (Stmt-F.Stmt::Group gr y semi) is in g.IsStmt.group is a ps (stmt_within false y m (omega (arith, low, n))) b

  tail_within : (x : Expr) → IsTail e I D x → expr_nesting x ≤ d → IsTail d J E x
  tail_within x (g.IsTail.expr m a) low = g.IsTail.expr (h false x m low) a
  tail_within x (g.IsTail.group {y} {g = gr} is a ps m) low =
      let n : expr_nesting x ≡ expr_nesting y = at_expr x (Expr-F.Expr::Group gr y) is in g.IsTail.group is a ps (tail_within y m (omega (arith, low, n)))

  end_within : (stmts : List Stmt) (o : Option Expr) → IsEnd e I D stmts o → of_some expr_nesting o ≤ d → IsEnd d J E stmts o
  end_within stmts None m low = m
  end_within stmts (Some x) m low = tail_within x m low

  pub body_within : (x : Body) → IsBody e I D x → body_nesting x ≤ d → IsBody d J E x
  body_within x m low = record {
    stmts = each_within (IsStmt e I D true) (IsStmt d J E true) stmt_nesting d (stmt_within true) (out-Body x).stmts m.stmts (omega (arith, low, body_at x));
    end = end_within (out-Body x).stmts (out-Body x).tail m.end (omega (arith, low, body_at x));
  }

  pub block_within : (b : Block Body) → IsBlock e I D b → block_nesting b ≤ d → IsBlock d J E b
  block_within b m low = record { opens = m.opens; body = body_within b.body m.body low; closes = m.closes; groups = m.groups }

  condition_within : (c : Condition Expr) → IsCondition e I D c → condition_depth expr_nesting c ≤ d → IsCondition d J E c
  condition_within (condition.Expr x) m low = (h true x m.0 low, m.1)
  condition_within (condition.Let word pat equals x) m low = (m.0, top_within e d pat m.1 (omega (arith, low)), m.2, (h true x m.3.0 (omega (arith, low)), m.3.1), m.4)

  branch_within : (x : ElseIf) → IsElseIf e I D x → branch_nesting x ≤ d → IsElseIf d J E x
  branch_within x m low = (m.0, m.1, condition_within (out-ElseIf x).condition m.2 (omega (arith, low, branch_at x)), block_within (out-ElseIf x).then m.3 (omega (arith, low, branch_at x)))

  otherwise_within : (w : Option Token) (o : Option (Block Body)) → IsOtherwise e I D w o → of_some block_nesting o ≤ d → IsOtherwise d J E w o
  otherwise_within None None m low = tt
  otherwise_within (Some w) (Some b) m low = (m.0, block_within b m.1 low)
  otherwise_within None (Some b) m low = absurd m
  otherwise_within (Some w) None m low = absurd m

  arm_within : (a : Arm Expr) → IsArm e I D a → arm_depth expr_nesting a ≤ d → IsArm d J E a
  arm_within a m low = (top_within e d a.pat m.0 (omega (arith, low)), m.1, h false a.body m.2 (omega (arith, low)), m.3)

  ends_within : (last : Bool) (a : Arm Expr) → g.EndsArm e I D last a → g.EndsArm d J E last a
  ends_within last a (g.EndsArm.comma is c) = g.EndsArm.comma is c
  ends_within last a (g.EndsArm.last is c) = g.EndsArm.last is c
  ends_within last a (g.EndsArm.block_like is c) = g.EndsArm.block_like is c

  arms_within : (xs : List (Arm Expr)) → AreArms e I D xs → greatest (arm_depth expr_nesting) xs ≤ d → AreArms d J E xs
  arms_within [] m low = tt
  arms_within (a ∷ []) m low = (arm_within a m.0 (omega (arith, low)), ends_within true a m.1)
  arms_within (a ∷ b ∷ more) m low = (arm_within a m.0 (omega (arith, low)), ends_within false a m.1, arms_within (b ∷ more) m.2 (omega (arith, low)))

  range_within : (x : Expr) (w : Option Token) (o : Option Expr) → IsRange e I D x w o → max (expr_nesting x) (of_some expr_nesting o) ≤ d → IsRange d J E x w o
  range_within x None None m low = (h true x m.0 (omega (arith, low)), m.1)
  range_within x (Some w) (Some y) m low = (m.0, (h true x m.1.0 (omega (arith, low)), m.1.1, m.1.2), (h true y m.2.0 (omega (arith, low)), m.2.1), m.3, m.4)
  range_within x None (Some y) m low = absurd m
  range_within x (Some w) None m low = absurd m

  value_within : (x : FieldExpr Expr) → IsFieldExpr (I false) x → of_some expr_nesting x.value ≤ d → IsFieldExpr (J false) x
  value_within x m low = go x.colon x.value m low
    where
      go : (c : Option Token) (v : Option Expr) → IsFieldExpr (I false) (record { name = x.name; colon = c; value = v }) → of_some expr_nesting v ≤ d
          → IsFieldExpr (J false) (record { name = x.name; colon = c; value = v })
      go None None m low = m
      go (Some c) (Some v) m low = (m.0, (m.1.0, h false v m.1.1 low))
      go None (Some v) m low = absurd m.1
      go (Some c) None m low = absurd m.1

  some_within : (b : Bool) (o : Option Expr) → Maybe (I b) o → of_some expr_nesting o ≤ d → Maybe (J b) o
  some_within b None m low = tt
  some_within b (Some x) m low = h b x m low

  node_within : (b : Bool) (x : Expr) → ExprNode e I D b x → expr_nesting x ≤ suc d → ExprNode d J E b x
  node_within _ _ (g.ExprNode.literal is a) low = g.ExprNode.literal is a
  node_within _ _ (g.ExprNode.path {x} {y} is a) low =
      let n : expr_nesting x ≡ suc (path_nesting y) = at_expr x (Expr-F.Path y) is in g.ExprNode.path is (path_within_at e d y a (omega (arith, low, n)))
  node_within _ _ (g.ExprNode.struct {x} {y} {open' = o} {close = c} {fields} is a b m q) low =
      let n : expr_nesting x ≡ suc (max (path_nesting y) (greatest (λ l. of_some expr_nesting l.item.value) fields)) = struct_at x y o fields c is in
      g.ExprNode.struct is (path_within_at e d y a (omega (arith, low, n))) b
      (commas_within (IsFieldExpr (I false)) (IsFieldExpr (J false)) (λ f. of_some expr_nesting f.value) d value_within fields m (omega (arith, low, n))) q
  node_within _ _ (g.ExprNode.paren {x} {y} {open' = o} {close = c} is a m b) low =
      let n : expr_nesting x ≡ suc (expr_nesting y) = at_expr x (Expr-F.Paren o y c) is in g.ExprNode.paren is a (h false y m (omega (arith, low, n))) b
  node_within _ _ (g.ExprNode.array {x} {open' = o} {close = c} {elements} is a m b) low =
      let n : expr_nesting x ≡ suc (greatest (λ l. expr_nesting l.item) elements) = array_at x o elements c is in
      g.ExprNode.array is a (commas_within (I false) (J false) expr_nesting d (h false) elements m (omega (arith, low, n))) b
  node_within _ _ (g.ExprNode.repeat {x} {y} {open' = o} {semi} {close = c} {length} is a m b q r) low =
      let n : expr_nesting x ≡ suc (expr_nesting y) = at_expr x (Expr-F.Repeat o y semi length c) is in g.ExprNode.repeat is a (h false y m (omega (arith, low, n))) b q r
  node_within _ _ (g.ExprNode.block {x} {b} is m) low =
      let n : expr_nesting x ≡ suc (block_nesting b) = at_expr x (Expr-F.Block b) is in g.ExprNode.block is (block_within b m (omega (arith, low, n)))
  node_within _ _ (g.ExprNode.if' {x} {word} {c} {then' = t} {branches} {word_else} {otherwise} is a m b q f) low =
      let n : expr_nesting x ≡ suc (max (condition_depth expr_nesting c) (max (block_nesting t) (max (greatest branch_nesting branches) (of_some block_nesting otherwise))))
      = if_at x word c t branches word_else otherwise is in
      g.ExprNode.if' is a (condition_within c m (omega (arith, low, n))) (block_within t b (omega (arith, low, n)))
      (each_within (IsElseIf e I D) (IsElseIf d J E) branch_nesting d branch_within branches q (omega (arith, low, n))) (otherwise_within word_else otherwise f (omega (arith, low, n)))
  node_within _ _ (g.ExprNode.match {x} {y} {word} {open' = o} {close = c} {arms} is a m b q f) low =
      let n : expr_nesting x ≡ suc (max (expr_nesting y) (greatest (arm_depth expr_nesting) arms)) = match_at x word y o arms c is in
      g.ExprNode.match is a (h true y m.0 (omega (arith, low, n)), m.1) b (arms_within arms q (omega (arith, low, n))) f
  node_within _ _ (g.ExprNode.while {x} {y} {word} {b} is a m q) low =
      let n : expr_nesting x ≡ suc (max (expr_nesting y) (block_nesting b)) = at_expr x (Expr-F.While word y b) is in
      g.ExprNode.while is a (h true y m.0 (omega (arith, low, n)), m.1) (block_within b q (omega (arith, low, n)))
  node_within _ _ (g.ExprNode.loop {x} {word} {b} is a m) low =
      let n : expr_nesting x ≡ suc (block_nesting b) = at_expr x (Expr-F.Loop word b) is in g.ExprNode.loop is a (block_within b m (omega (arith, low, n)))
  node_within _ _ (g.ExprNode.for' {x} {y} {word} {word_in} {pat} {dots} {end} {b} is a m c q f) low =
      let n : expr_nesting x ≡ suc (max (pat_nesting pat) (max (expr_nesting y) (max (of_some expr_nesting end) (block_nesting b)))) = for_at x word pat word_in y dots end b is in
      g.ExprNode.for' is a (pat_within e d pat m (omega (arith, low, n))) c (range_within y dots end q (omega (arith, low, n))) (block_within b f (omega (arith, low, n)))
  node_within _ _ (g.ExprNode.closure {h = flag} {x} {y} {word_move} {params} is a m q) low =
      let n : expr_nesting x ≡ suc (max (head_nesting params) (expr_nesting y)) = at_expr x (Expr-F.Closure word_move params y) is in
      g.ExprNode.closure is a (head_within e d params m (omega (arith, low, n))) (h flag y q (omega (arith, low, n)))
  node_within _ _ (g.ExprNode.closure_to {x} {word_move} {params} {arrow} {output} {b} is a m c q f) low =
      let n : expr_nesting x ≡ suc (max (head_nesting params) (max (type_nesting output) (block_nesting b))) = at_expr x (Expr-F.ClosureTo word_move params arrow output b) is in
      g.ExprNode.closure_to is a (head_within e d params m (omega (arith, low, n))) c (type_within e d false output q (omega (arith, low, n))) (block_within b f (omega (arith, low, n)))
  node_within _ _ (g.ExprNode.macro is a) low = g.ExprNode.macro is a
  node_within _ _ (g.ExprNode.return {h = flag} {x} {word} {value} is a m) low =
      let n : expr_nesting x ≡ suc (of_some expr_nesting value) = return_at x word value is in g.ExprNode.return is a (some_within flag value m (omega (arith, low, n)))
  node_within _ _ (g.ExprNode.break is a) low = g.ExprNode.break is a
  node_within _ _ (g.ExprNode.continue is a) low = g.ExprNode.continue is a
  node_within _ _ (g.ExprNode.method_call {h = flag} {x} {y} {dot} {name} {open' = o} {close = c} {arguments} is m a b r q f) low =
      let n : expr_nesting x ≡ suc (max (expr_nesting y) (greatest (λ l. expr_nesting l.item) arguments)) = method_at x y dot name o arguments c is in
      g.ExprNode.method_call is (h flag y m.0 (omega (arith, low, n)), m.1, m.2) a b r (commas_within (I false) (J false) expr_nesting d (h false) arguments q (omega (arith, low, n))) f
  node_within _ _ (g.ExprNode.call {h = flag} {x} {y} {open' = o} {close = c} {arguments} is m a b q f) low =
      let n : expr_nesting x ≡ suc (max (expr_nesting y) (greatest (λ l. expr_nesting l.item) arguments)) = call_at x y o arguments c is in
      g.ExprNode.call is (h flag y m.0 (omega (arith, low, n)), m.1, m.2) a b (commas_within (I false) (J false) expr_nesting d (h false) arguments q (omega (arith, low, n))) f
  node_within _ _ (g.ExprNode.field {h = flag} {x} {y} {dot} {name} is m a b) low =
      let n : expr_nesting x ≡ suc (expr_nesting y) = at_expr x (Expr-F.Field y dot name) is in g.ExprNode.field is (h flag y m.0 (omega (arith, low, n)), m.1, m.2) a b
  node_within _ _ (g.ExprNode.place {h = flag} {x} {y} {dot} {number} is m a b) low =
      let n : expr_nesting x ≡ suc (expr_nesting y) = at_expr x (Expr-F.Place y dot number) is in g.ExprNode.place is (h flag y m.0 (omega (arith, low, n)), m.1, m.2) a b
  node_within _ _ (g.ExprNode.index {h = flag} {x} {y} {z} {open' = o} {close = c} is m a q f) low =
      let n : expr_nesting x ≡ suc (max (expr_nesting y) (expr_nesting z)) = at_expr x (Expr-F.Index y o z c) is in
      g.ExprNode.index is (h flag y m.0 (omega (arith, low, n)), m.1, m.2) a (h false z q (omega (arith, low, n))) f
  node_within _ _ (g.ExprNode.unary' {h = flag} {x} {y} {operator} is a m) low =
      let n : expr_nesting x ≡ suc (expr_nesting y) = at_expr x (Expr-F.Unary operator y) is in g.ExprNode.unary' is a (h flag y m.0 (omega (arith, low, n)), m.1)
  node_within _ _ (g.ExprNode.ref {h = flag} {x} {y} {amp} {word_mut} is a b m) low =
      let n : expr_nesting x ≡ suc (expr_nesting y) = at_expr x (Expr-F.Ref amp word_mut y) is in g.ExprNode.ref is a b (h flag y m.0 (omega (arith, low, n)), m.1)
  node_within _ _ (g.ExprNode.ref_ref {h = flag} {x} {y} {amps} {word_mut} is a b m q) low =
      let n : expr_nesting x ≡ suc (suc (expr_nesting y)) = at_expr x (Expr-F.RefRef amps word_mut y) is in g.ExprNode.ref_ref is a b (k flag y m (omega (arith, low, n))) q
  node_within _ _ (g.ExprNode.binary {h = flag} {x} {y} {z} {operator} is a m q) low =
      let n : expr_nesting x ≡ suc (max (expr_nesting y) (expr_nesting z)) = at_expr x (Expr-F.Binary y operator z) is in
      g.ExprNode.binary is a (h flag y m.0 (omega (arith, low, n)), m.1, m.2) (h flag z q.0 (omega (arith, low, n)), q.1)
  node_within _ _ (g.ExprNode.assign {h = flag} {x} {y} {z} {operator} is a m q) low =
      let n : expr_nesting x ≡ suc (max (expr_nesting y) (expr_nesting z)) = at_expr x (Expr-F.Assign y operator z) is in
      g.ExprNode.assign is a (h flag y m.0 (omega (arith, low, n)), m.1, m.2) (h flag z q.0 (omega (arith, low, n)), q.1)
  node_within _ _ (g.ExprNode.group {x} {y} {g = gr} is a ps m) low =
      let n : expr_nesting x ≡ expr_nesting y = at_expr x (Expr-F.Expr::Group gr y) is in g.ExprNode.group is a ps (node_within false y m (omega (arith, low, n)))

-- ---- all depths

abbrev pub LowerIs : ℕ → Bool → Expr → Type 0
LowerIs zero b x = ⊥
LowerIs (suc d) b x = IsExpr d b x

node_expr : (d : ℕ) (b : Bool) (x : Expr) → ExprNode d (IsExpr d) (LowerIs d) b x → IsExpr (suc d) b x
unfolding IsExpr
node_expr zero b x m = m
node_expr (suc d) b x m = m

expr_node : (d : ℕ) (b : Bool) (x : Expr) → IsExpr (suc d) b x → ExprNode d (IsExpr d) (LowerIs d) b x
unfolding IsExpr
expr_node zero b x m = m
expr_node (suc d) b x m = m

no_expr : (b : Bool) (x : Expr) → IsExpr zero b x → ⊥
unfolding IsExpr
no_expr b x m = m

exprs_low : (d : ℕ) → ((b : Bool) (x : Expr) → IsExpr d b x → expr_nesting x ≤ d) × ((b : Bool) (x : Expr) → LowerIs d b x → suc (expr_nesting x) ≤ d)
exprs_low zero = (λ b x m. absurd (no_expr b x m), λ b x m. absurd m)
exprs_low (suc d) =
    let below = exprs_low d in
    (λ b x m. node_low d (IsExpr d) (LowerIs d) below.0 below.1 b x (expr_node d b x m), λ b x m. let low : expr_nesting x ≤ d = below.0 b x m in omega (arith, low))

pub expr_low : (d : ℕ) (b : Bool) (x : Expr) → IsExpr d b x → expr_nesting x ≤ d
expr_low d b x m = (exprs_low d).0 b x m

some_node : (d : ℕ) (I D : Bool → Expr → Type 0) (b : Bool) (x : Expr) → ExprNode d I D b x → 1 ≤ expr_nesting x
some_node d I D _ _ (g.ExprNode.literal {x} {t} is a) = let n : expr_nesting x ≡ 1 = at_expr x (Expr-F.Literal t) is in omega (arith, n)
some_node d I D _ _ (g.ExprNode.path {x} {y} is a) = let n : expr_nesting x ≡ suc (path_nesting y) = at_expr x (Expr-F.Path y) is in omega (arith, n)
some_node d I D _ _ (g.ExprNode.struct {x} {y} {open' = o} {close = c} {fields} is a b m e) = omega (arith, struct_at x y o fields c is)
some_node d I D _ _ (g.ExprNode.paren {x} {y} {open' = o} {close = c} is a m b) = let n : expr_nesting x ≡ suc (expr_nesting y) = at_expr x (Expr-F.Paren o y c) is in omega (arith, n)
some_node d I D _ _ (g.ExprNode.array {x} {open' = o} {close = c} {elements} is a m b) = omega (arith, array_at x o elements c is)
some_node d I D _ _ (g.ExprNode.repeat {x} {y} {open' = o} {semi} {close = c} {length} is a m b q e) = let n : expr_nesting x ≡ suc (expr_nesting y) = at_expr x (Expr-F.Repeat o y semi length c) is in omega (arith, n)
some_node d I D _ _ (g.ExprNode.block {x} {b} is m) = let n : expr_nesting x ≡ suc (block_nesting b) = at_expr x (Expr-F.Block b) is in omega (arith, n)
some_node d I D _ _ (g.ExprNode.if' {x} {word} {c} {then' = t} {branches} {word_else} {otherwise} is a m b e f) = omega (arith, if_at x word c t branches word_else otherwise is)
some_node d I D _ _ (g.ExprNode.match {x} {y} {word} {open' = o} {close = c} {arms} is a m b e f) = omega (arith, match_at x word y o arms c is)
some_node d I D _ _ (g.ExprNode.while {x} {y} {word} {b} is a m e) = let n : expr_nesting x ≡ suc (max (expr_nesting y) (block_nesting b)) = at_expr x (Expr-F.While word y b) is in omega (arith, n)
some_node d I D _ _ (g.ExprNode.loop {x} {word} {b} is a m) = let n : expr_nesting x ≡ suc (block_nesting b) = at_expr x (Expr-F.Loop word b) is in omega (arith, n)
some_node d I D _ _ (g.ExprNode.for' {x} {y} {word} {word_in} {pat} {dots} {end} {b} is a m c e f) = omega (arith, for_at x word pat word_in y dots end b is)
some_node d I D _ _ (g.ExprNode.closure {h = flag} {x} {y} {word_move} {params} is a m e) = let n : expr_nesting x ≡ suc (max (head_nesting params) (expr_nesting y)) = at_expr x (Expr-F.Closure word_move params y) is in omega (arith, n)
some_node d I D _ _ (g.ExprNode.closure_to {x} {word_move} {params} {arrow} {output} {b} is a m c e f) = let n : expr_nesting x ≡ suc (max (head_nesting params) (max (type_nesting output) (block_nesting b))) = at_expr x (Expr-F.ClosureTo word_move params arrow output b) is in omega (arith, n)
some_node d I D _ _ (g.ExprNode.macro {x} {call} is a) = let n : expr_nesting x ≡ 1 = at_expr x (Expr-F.Expr::Macro call) is in omega (arith, n)
some_node d I D _ _ (g.ExprNode.return {h = flag} {x} {word} {value} is a m) = omega (arith, return_at x word value is)
some_node d I D _ _ (g.ExprNode.break {x} {word} is a) = let n : expr_nesting x ≡ 1 = at_expr x (Expr-F.Break word) is in omega (arith, n)
some_node d I D _ _ (g.ExprNode.continue {x} {word} is a) = let n : expr_nesting x ≡ 1 = at_expr x (Expr-F.Continue word) is in omega (arith, n)
some_node d I D _ _ (g.ExprNode.method_call {h = flag} {x} {y} {dot} {name} {open' = o} {close = c} {arguments} is m a b e q f) = omega (arith, method_at x y dot name o arguments c is)
some_node d I D _ _ (g.ExprNode.call {h = flag} {x} {y} {open' = o} {close = c} {arguments} is m a b q f) = omega (arith, call_at x y o arguments c is)
some_node d I D _ _ (g.ExprNode.field {h = flag} {x} {y} {dot} {name} is m a b) = let n : expr_nesting x ≡ suc (expr_nesting y) = at_expr x (Expr-F.Field y dot name) is in omega (arith, n)
some_node d I D _ _ (g.ExprNode.place {h = flag} {x} {y} {dot} {number} is m a b) = let n : expr_nesting x ≡ suc (expr_nesting y) = at_expr x (Expr-F.Place y dot number) is in omega (arith, n)
some_node d I D _ _ (g.ExprNode.index {h = flag} {x} {y} {z} {open' = o} {close = c} is m a e f) = let n : expr_nesting x ≡ suc (max (expr_nesting y) (expr_nesting z)) = at_expr x (Expr-F.Index y o z c) is in omega (arith, n)
some_node d I D _ _ (g.ExprNode.unary' {h = flag} {x} {y} {operator} is a m) = let n : expr_nesting x ≡ suc (expr_nesting y) = at_expr x (Expr-F.Unary operator y) is in omega (arith, n)
some_node d I D _ _ (g.ExprNode.ref {h = flag} {x} {y} {amp} {word_mut} is a b m) = let n : expr_nesting x ≡ suc (expr_nesting y) = at_expr x (Expr-F.Ref amp word_mut y) is in omega (arith, n)
some_node d I D _ _ (g.ExprNode.ref_ref {h = flag} {x} {y} {amps} {word_mut} is a b m e) = let n : expr_nesting x ≡ suc (suc (expr_nesting y)) = at_expr x (Expr-F.RefRef amps word_mut y) is in omega (arith, n)
some_node d I D _ _ (g.ExprNode.binary {h = flag} {x} {y} {z} {operator} is a m e) = let n : expr_nesting x ≡ suc (max (expr_nesting y) (expr_nesting z)) = at_expr x (Expr-F.Binary y operator z) is in omega (arith, n)
some_node d I D _ _ (g.ExprNode.assign {h = flag} {x} {y} {z} {operator} is a m e) = let n : expr_nesting x ≡ suc (max (expr_nesting y) (expr_nesting z)) = at_expr x (Expr-F.Assign y operator z) is in omega (arith, n)
some_node d I D _ _ (g.ExprNode.group {x} {y} {g = gr} is a ps m) = let n : expr_nesting x ≡ expr_nesting y = at_expr x (Expr-F.Expr::Group gr y) is in omega (arith, n, some_node d I D false y m)

exprs_within : (e d : ℕ) → ((b : Bool) (x : Expr) → IsExpr e b x → expr_nesting x ≤ d → IsExpr d b x) × ((b : Bool) (x : Expr) → LowerIs e b x → suc (expr_nesting x) ≤ d → LowerIs d b x)
exprs_within zero d = (λ b x m low. absurd (no_expr b x m), λ b x m low. absurd m)
exprs_within (suc e) zero = (λ b x m low. absurd (omega (arith, low, some_node e (IsExpr e) (LowerIs e) b x (expr_node e b x m))), λ b x m low. absurd (omega (arith, low)))
exprs_within (suc e) (suc d) =
    let below = exprs_within e d in (
      λ b x m low. node_expr d b x (node_within e d (IsExpr e) (IsExpr d) (LowerIs e) (LowerIs d) below.0 below.1 b x (expr_node e b x m) low),
      λ b x m low. below.0 b x m (omega (arith, low)),
    )

pub expr_within : (e d : ℕ) (b : Bool) (x : Expr) → IsExpr e b x → expr_nesting x ≤ d → IsExpr d b x
expr_within e d b x m low = (exprs_within e d).0 b x m low

-- ---- statements and blocks

stmt_in : (d : ℕ) (x : Stmt) → StmtWithin d x → IsStmt d (IsExpr d) (LowerIs d) true x
unfolding StmtWithin IsExpr
stmt_in zero x m = m
stmt_in (suc d) x m = m

in_stmt : (d : ℕ) (x : Stmt) → IsStmt d (IsExpr d) (LowerIs d) true x → StmtWithin d x
unfolding StmtWithin IsExpr
in_stmt zero x m = m
in_stmt (suc d) x m = m

fragment_in : (d : ℕ) (x : Stmt) → IsFragmentStmt d x → IsStmt d (IsExpr d) (LowerIs d) false x
unfolding IsFragmentStmt IsExpr
fragment_in zero x m = m
fragment_in (suc d) x m = m

in_fragment : (d : ℕ) (x : Stmt) → IsStmt d (IsExpr d) (LowerIs d) false x → IsFragmentStmt d x
unfolding IsFragmentStmt IsExpr
in_fragment zero x m = m
in_fragment (suc d) x m = m

block_in : (d : ℕ) (x : Block Body) → BlockWithin d x → IsBlock d (IsExpr d) (LowerIs d) x
unfolding BlockWithin IsExpr
block_in zero x m = m
block_in (suc d) x m = m

in_block : (d : ℕ) (x : Block Body) → IsBlock d (IsExpr d) (LowerIs d) x → BlockWithin d x
unfolding BlockWithin IsExpr
in_block zero x m = m
in_block (suc d) x m = m

body_in : (d : ℕ) (x : Body) → BodyWithin d x → IsBody d (IsExpr d) (LowerIs d) x
unfolding BodyWithin IsExpr
body_in zero x m = m
body_in (suc d) x m = m

in_body : (d : ℕ) (x : Body) → IsBody d (IsExpr d) (LowerIs d) x → BodyWithin d x
unfolding BodyWithin IsExpr
in_body zero x m = m
in_body (suc d) x m = m

pub stmt_low_at : (d : ℕ) (x : Stmt) → StmtWithin d x → stmt_nesting x ≤ d
stmt_low_at d x m = stmt_low d (IsExpr d) (LowerIs d) (exprs_low d).0 (exprs_low d).1 true x (stmt_in d x m)

pub stmt_within_at : (e d : ℕ) (x : Stmt) → StmtWithin e x → stmt_nesting x ≤ d → StmtWithin d x
stmt_within_at e d x m low = in_stmt d x (stmt_within e d (IsExpr e) (IsExpr d) (LowerIs e) (LowerIs d) (exprs_within e d).0 (exprs_within e d).1 true x (stmt_in e x m) low)

pub fragment_low : (d : ℕ) (x : Stmt) → IsFragmentStmt d x → stmt_nesting x ≤ d
fragment_low d x m = stmt_low d (IsExpr d) (LowerIs d) (exprs_low d).0 (exprs_low d).1 false x (fragment_in d x m)

pub fragment_within : (e d : ℕ) (x : Stmt) → IsFragmentStmt e x → stmt_nesting x ≤ d → IsFragmentStmt d x
fragment_within e d x m low = in_fragment d x (stmt_within e d (IsExpr e) (IsExpr d) (LowerIs e) (LowerIs d) (exprs_within e d).0 (exprs_within e d).1 false x (fragment_in e x m) low)

pub block_low_at : (d : ℕ) (x : Block Body) → BlockWithin d x → block_nesting x ≤ d
block_low_at d x m = block_low d (IsExpr d) (LowerIs d) (exprs_low d).0 (exprs_low d).1 x (block_in d x m)

pub block_within_at : (e d : ℕ) (x : Block Body) → BlockWithin e x → block_nesting x ≤ d → BlockWithin d x
block_within_at e d x m low = in_block d x (block_within e d (IsExpr e) (IsExpr d) (LowerIs e) (LowerIs d) (exprs_within e d).0 (exprs_within e d).1 x (block_in e x m) low)

pub body_low_at : (d : ℕ) (x : Body) → BodyWithin d x → body_nesting x ≤ d
body_low_at d x m = body_low d (IsExpr d) (LowerIs d) (exprs_low d).0 (exprs_low d).1 x (body_in d x m)

pub body_within_at : (e d : ℕ) (x : Body) → BodyWithin e x → body_nesting x ≤ d → BodyWithin d x
body_within_at e d x m low = in_body d x (body_within e d (IsExpr e) (IsExpr d) (LowerIs e) (LowerIs d) (exprs_within e d).0 (exprs_within e d).1 x (body_in e x m) low)
