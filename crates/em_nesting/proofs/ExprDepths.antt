-- How deep expressions, statements and blocks nest, one layer.
use Rattle.std.proofs.Common.{◌≡◌, ℕ, suc, ◌+◌, List, Option, Some, None, refl, ◌∙◌, ap, map, arith, max}
use Rattle.em_base.specs.declared.token.Token.{Token}
use Rattle.em_tree.specs.declared.parts.Listed.{Listed}
use Rattle.em_tree.specs.declared.piece.Group.{Group}
use Rattle.em_tree.specs.declared.pat.Pat.{Pat}
use Rattle.em_tree.specs.declared.expr.Annotation.{Annotation}
use Rattle.em_tree.specs.declared.expr.FieldExpr.{FieldExpr}
use Rattle.em_tree.specs.declared.expr.Condition.{Condition}
use Rattle.em_tree.specs.declared.expr.Condition.TheVariants as condition
use Rattle.em_tree.specs.declared.expr.MacroCall.{MacroCall}
use Rattle.em_tree.specs.declared.expr.Refs.{Refs}
use Rattle.em_tree.specs.declared.expr.Expr.{Expr, out-Expr, fold_out-Expr, map-Expr}
use Rattle.em_tree.specs.declared.expr.Stmt.{Stmt, out-Stmt, fold_out-Stmt, map-Stmt}
use Rattle.em_tree.specs.declared.expr.Stmt.TheVariants as stmt
use Rattle.em_tree.specs.declared.expr.Body.{Body, out-Body, fold_out-Body, map-Body}
use Rattle.em_tree.specs.declared.expr.ElseIf.{ElseIf, out-ElseIf, fold_out-ElseIf, map-ElseIf}
use Rattle.em_tree.specs.declared.expr.Expr.TheOpen.{Expr-F, Stmt-F, Body-F, ElseIf-F}
use Rattle.em_tree.specs.declared.expr.Expr.TheShapes.{former-Expr-Struct-2-at-6, former-Expr-If-1, former-Expr-For-5}
use Rattle.em_tree.specs.Nesting.{greatest, of_some, itself, path_nesting, pat_nesting, annotation_nesting, condition_depth, arm_depth, expr_depth, stmt_depth, body_depth, branch_depth, expr_nesting, stmt_nesting, body_nesting, branch_nesting, block_nesting}
use Rattle.em_nesting.specs.Depths.{own_depth, operands_depth, blocks_depth}
use Rattle.em_nesting.proofs.TypeDepths.{greatest_map}
use Rattle.em_nesting.proofs.PatDepths.{greatest_alike}

at_expr : (x : Expr) (l : Expr-F Expr Stmt Body ElseIf) → out-Expr x ≡ l → expr_nesting x ≡ expr_depth (map-Expr Expr Stmt Body ElseIf ℕ ℕ ℕ ℕ expr_nesting stmt_nesting body_nesting branch_nesting l)
unfolding expr_nesting stmt_nesting body_nesting branch_nesting
at_expr x l is = fold_out-Expr ℕ ℕ ℕ ℕ expr_depth stmt_depth body_depth branch_depth x ∙ ap (λ k. expr_depth (map-Expr Expr Stmt Body ElseIf ℕ ℕ ℕ ℕ expr_nesting stmt_nesting body_nesting branch_nesting k)) is

at_stmt : (x : Stmt) (l : Stmt-F Expr Stmt Body ElseIf) → out-Stmt x ≡ l → stmt_nesting x ≡ stmt_depth (map-Stmt Expr Stmt Body ElseIf ℕ ℕ ℕ ℕ expr_nesting stmt_nesting body_nesting branch_nesting l)
unfolding expr_nesting stmt_nesting body_nesting branch_nesting
at_stmt x l is = fold_out-Stmt ℕ ℕ ℕ ℕ expr_depth stmt_depth body_depth branch_depth x ∙ ap (λ k. stmt_depth (map-Stmt Expr Stmt Body ElseIf ℕ ℕ ℕ ℕ expr_nesting stmt_nesting body_nesting branch_nesting k)) is

at_body : (x : Body) (l : Body-F Expr Stmt Body ElseIf) → out-Body x ≡ l → body_nesting x ≡ body_depth (map-Body Expr Stmt Body ElseIf ℕ ℕ ℕ ℕ expr_nesting stmt_nesting body_nesting branch_nesting l)
unfolding expr_nesting stmt_nesting body_nesting branch_nesting
at_body x l is = fold_out-Body ℕ ℕ ℕ ℕ expr_depth stmt_depth body_depth branch_depth x ∙ ap (λ k. body_depth (map-Body Expr Stmt Body ElseIf ℕ ℕ ℕ ℕ expr_nesting stmt_nesting body_nesting branch_nesting k)) is

at_branch : (x : ElseIf) (l : ElseIf-F Expr Stmt Body ElseIf) → out-ElseIf x ≡ l → branch_nesting x ≡ branch_depth (map-ElseIf Expr Stmt Body ElseIf ℕ ℕ ℕ ℕ expr_nesting stmt_nesting body_nesting branch_nesting l)
unfolding expr_nesting stmt_nesting body_nesting branch_nesting
at_branch x l is = fold_out-ElseIf ℕ ℕ ℕ ℕ expr_depth stmt_depth body_depth branch_depth x ∙ ap (λ k. branch_depth (map-ElseIf Expr Stmt Body ElseIf ℕ ℕ ℕ ℕ expr_nesting stmt_nesting body_nesting branch_nesting k)) is

value_alike : (name : Token) (colon : Option Token) (value : Option Expr) (comma : Option Token)
    → of_some itself (former-Expr-Struct-2-at-6.map Expr ℕ expr_nesting (record { item = record { name = name; colon = colon; value = value }; comma = comma })).item.value ≡ of_some expr_nesting value
value_alike name colon None comma = refl
value_alike name colon (Some value) comma = refl

tail_alike : (v : Option Expr) → of_some itself (former-Expr-For-5.map Expr ℕ expr_nesting v) ≡ of_some expr_nesting v
tail_alike None = refl
tail_alike (Some value) = refl

condition_alike : (c : Condition Expr) → condition_depth itself (former-Expr-If-1.map Expr ℕ expr_nesting c) ≡ condition_depth expr_nesting c
condition_alike (condition.Expr value) = refl
condition_alike (condition.Let word pat equals value) = refl

values_alike : (fields : List (Listed (FieldExpr Expr)))
    → greatest (λ l. of_some itself l.item.value) (map (former-Expr-Struct-2-at-6.map Expr ℕ expr_nesting) fields) ≡ greatest (λ l. of_some expr_nesting l.item.value) fields
values_alike fields =
    greatest_map (λ l. of_some itself l.item.value) _ fields
    ∙ greatest_alike _ (λ l. of_some expr_nesting l.item.value) (λ l. value_alike l.item.name l.item.colon l.item.value l.comma) fields

-- what an expression has inside, and the levels that it adds
in_parts : (x : Expr) (l : Expr-F Expr Stmt Body ElseIf) → out-Expr x ≡ l → expr_nesting x ≡ own_depth l + max (operands_depth l) (blocks_depth l)
in_parts x (Expr-F.Literal t) is = at_expr x (Expr-F.Literal t) is
in_parts x (Expr-F.Path y) is = let n : expr_nesting x ≡ suc (path_nesting y) = at_expr x (Expr-F.Path y) is in omega (arith, n)
in_parts x (Expr-F.Struct y o fields c) is =
    let n : expr_nesting x ≡ suc (max (path_nesting y) (greatest (λ l. of_some expr_nesting l.item.value) fields)) =
    at_expr x (Expr-F.Struct y o fields c) is ∙ ap (λ r. suc (max (path_nesting y) r)) (values_alike fields)
    in omega (arith, n)
in_parts x (Expr-F.Paren o y c) is = let n : expr_nesting x ≡ suc (expr_nesting y) = at_expr x (Expr-F.Paren o y c) is in omega (arith, n)
in_parts x (Expr-F.Array o xs c) is =
    let n : expr_nesting x ≡ suc (greatest (λ l. expr_nesting l.item) xs) = at_expr x (Expr-F.Array o xs c) is ∙ ap (λ r. suc r) (greatest_map (λ l. l.item) _ xs) in omega (arith, n)
in_parts x (Expr-F.Repeat o y semi n c) is = let m : expr_nesting x ≡ suc (expr_nesting y) = at_expr x (Expr-F.Repeat o y semi n c) is in omega (arith, m)
in_parts x (Expr-F.Block b) is = let n : expr_nesting x ≡ suc (block_nesting b) = at_expr x (Expr-F.Block b) is in omega (arith, n)
in_parts x (Expr-F.If word c b branches word_else None) is =
    let n : expr_nesting x ≡ suc (max (condition_depth expr_nesting c) (max (block_nesting b) (max (greatest branch_nesting branches) 0))) =
    at_expr x (Expr-F.If word c b branches word_else None) is
    ∙ ap (λ r. suc (max r (max (block_nesting b) (max (greatest itself (map branch_nesting branches)) 0)))) (condition_alike c)
    ∙ ap (λ r. suc (max (condition_depth expr_nesting c) (max (block_nesting b) (max r 0)))) (greatest_map itself branch_nesting branches)
    in omega (arith, n)
in_parts x (Expr-F.If word c b branches word_else (Some e)) is =
    let n : expr_nesting x ≡ suc (max (condition_depth expr_nesting c) (max (block_nesting b) (max (greatest branch_nesting branches) (block_nesting e)))) =
    at_expr x (Expr-F.If word c b branches word_else (Some e)) is
    ∙ ap (λ r. suc (max r (max (block_nesting b) (max (greatest itself (map branch_nesting branches)) (block_nesting e))))) (condition_alike c)
    ∙ ap (λ r. suc (max (condition_depth expr_nesting c) (max (block_nesting b) (max r (block_nesting e))))) (greatest_map itself branch_nesting branches)
    in omega (arith, n)
in_parts x (Expr-F.Match word y o arms c) is =
    let n : expr_nesting x ≡ suc (max (expr_nesting y) (greatest (arm_depth expr_nesting) arms)) =
    at_expr x (Expr-F.Match word y o arms c) is ∙ ap (λ r. suc (max (expr_nesting y) r)) (greatest_map (arm_depth itself) _ arms)
    in omega (arith, n)
in_parts x (Expr-F.While word y b) is = let n : expr_nesting x ≡ suc (max (expr_nesting y) (block_nesting b)) = at_expr x (Expr-F.While word y b) is in omega (arith, n)
in_parts x (Expr-F.Loop word b) is = let n : expr_nesting x ≡ suc (block_nesting b) = at_expr x (Expr-F.Loop word b) is in omega (arith, n)
in_parts x (Expr-F.For word p word_in y dots None b) is =
    let n : expr_nesting x ≡ suc (max (pat_nesting p) (max (expr_nesting y) (max 0 (block_nesting b)))) = at_expr x (Expr-F.For word p word_in y dots None b) is in omega (arith, n)
in_parts x (Expr-F.For word p word_in y dots (Some e) b) is =
    let n : expr_nesting x ≡ suc (max (pat_nesting p) (max (expr_nesting y) (max (expr_nesting e) (block_nesting b)))) = at_expr x (Expr-F.For word p word_in y dots (Some e) b) is in omega (arith, n)
in_parts x (Expr-F.Closure word head y) is = let n : expr_nesting x ≡ suc (blocks_depth (Expr-F.Closure word head y)) = at_expr x (Expr-F.Closure word head y) is in omega (arith, n)
in_parts x (Expr-F.ClosureTo word head arrow out b) is =
    let n : expr_nesting x ≡ suc (blocks_depth (Expr-F.ClosureTo word head arrow out b)) = at_expr x (Expr-F.ClosureTo word head arrow out b) is in omega (arith, n)
in_parts x (Expr-F.Expr::Macro call) is = at_expr x (Expr-F.Expr::Macro call) is
in_parts x (Expr-F.Return word None) is = at_expr x (Expr-F.Return word None) is
in_parts x (Expr-F.Return word (Some v)) is = let n : expr_nesting x ≡ suc (expr_nesting v) = at_expr x (Expr-F.Return word (Some v)) is in omega (arith, n)
in_parts x (Expr-F.Break t) is = at_expr x (Expr-F.Break t) is
in_parts x (Expr-F.Continue t) is = at_expr x (Expr-F.Continue t) is
in_parts x (Expr-F.MethodCall y dot name o xs c) is =
    let n : expr_nesting x ≡ suc (max (expr_nesting y) (greatest (λ l. expr_nesting l.item) xs)) =
    at_expr x (Expr-F.MethodCall y dot name o xs c) is ∙ ap (λ r. suc (max (expr_nesting y) r)) (greatest_map (λ l. l.item) _ xs)
    in omega (arith, n)
in_parts x (Expr-F.Call y o xs c) is =
    let n : expr_nesting x ≡ suc (max (expr_nesting y) (greatest (λ l. expr_nesting l.item) xs)) =
    at_expr x (Expr-F.Call y o xs c) is ∙ ap (λ r. suc (max (expr_nesting y) r)) (greatest_map (λ l. l.item) _ xs)
    in omega (arith, n)
in_parts x (Expr-F.Field y dot name) is = let n : expr_nesting x ≡ suc (expr_nesting y) = at_expr x (Expr-F.Field y dot name) is in omega (arith, n)
in_parts x (Expr-F.Place y dot m) is = let n : expr_nesting x ≡ suc (expr_nesting y) = at_expr x (Expr-F.Place y dot m) is in omega (arith, n)
in_parts x (Expr-F.Index y o z c) is = let n : expr_nesting x ≡ suc (max (expr_nesting y) (expr_nesting z)) = at_expr x (Expr-F.Index y o z c) is in omega (arith, n)
in_parts x (Expr-F.Unary op y) is = let n : expr_nesting x ≡ suc (expr_nesting y) = at_expr x (Expr-F.Unary op y) is in omega (arith, n)
in_parts x (Expr-F.Ref amp word y) is = let n : expr_nesting x ≡ suc (expr_nesting y) = at_expr x (Expr-F.Ref amp word y) is in omega (arith, n)
in_parts x (Expr-F.RefRef amps word y) is = let n : expr_nesting x ≡ suc (suc (expr_nesting y)) = at_expr x (Expr-F.RefRef amps word y) is in omega (arith, n)
in_parts x (Expr-F.Binary y op z) is = let n : expr_nesting x ≡ suc (max (expr_nesting y) (expr_nesting z)) = at_expr x (Expr-F.Binary y op z) is in omega (arith, n)
in_parts x (Expr-F.Assign y op z) is = let n : expr_nesting x ≡ suc (max (expr_nesting y) (expr_nesting z)) = at_expr x (Expr-F.Assign y op z) is in omega (arith, n)
in_parts x (Expr-F.Expr::Group g y) is = let n : expr_nesting x ≡ expr_nesting y = at_expr x (Expr-F.Expr::Group g y) is in omega (arith, n)

pub by_parts : (x : Expr) → expr_nesting x ≡ own_depth (out-Expr x) + max (operands_depth (out-Expr x)) (blocks_depth (out-Expr x))
by_parts x = in_parts x (out-Expr x) refl

pub mention_stmt : (word underscore equals : Token) (refs : Refs) (semi : Option Token) → stmt_nesting (stmt.Mention word underscore equals refs semi) ≡ 0
mention_stmt word underscore equals refs semi = at_stmt (stmt.Mention word underscore equals refs semi) (Stmt-F.Mention word underscore equals refs semi) (stmt.outs-Mention word underscore equals refs semi)

pub let_stmt : (word : Token) (pat : Pat) (annotation : Annotation) (equals : Token) (value : Expr) (semi : Option Token)
    → stmt_nesting (stmt.Let word pat annotation equals value semi) ≡ max (pat_nesting pat) (max (annotation_nesting annotation) (expr_nesting value))
let_stmt word pat annotation equals value semi =
    at_stmt (stmt.Let word pat annotation equals value semi) (Stmt-F.Let word pat annotation equals value semi) (stmt.outs-Let word pat annotation equals value semi)

pub macro_stmt : (call : MacroCall) (semi : Option Token) → stmt_nesting (stmt.Macro call semi) ≡ 0
macro_stmt call semi = at_stmt (stmt.Macro call semi) (Stmt-F.Stmt::Macro call semi) (stmt.outs-Macro call semi)

pub expr_stmt : (value : Expr) (semi : Option Token) → stmt_nesting (stmt.Expr value semi) ≡ expr_nesting value
expr_stmt value semi = at_stmt (stmt.Expr value semi) (Stmt-F.Expr value semi) (stmt.outs-Expr value semi)

pub block_like_stmt : (value : Expr) (semi : Option Token) → stmt_nesting (stmt.BlockLike value semi) ≡ expr_nesting value
block_like_stmt value semi = at_stmt (stmt.BlockLike value semi) (Stmt-F.BlockLike value semi) (stmt.outs-BlockLike value semi)

pub stmt_group : (g : Group) (y : Stmt) (semi : Option Token) → stmt_nesting (stmt.Group g y semi) ≡ stmt_nesting y
stmt_group g y semi = at_stmt (stmt.Group g y semi) (Stmt-F.Stmt::Group g y semi) (stmt.outs-Group g y semi)

pub body : (x : Body) → body_nesting x ≡ max (greatest stmt_nesting (out-Body x).stmts) (of_some expr_nesting (out-Body x).tail)
body x =
    at_body x (out-Body x) refl
    ∙ ap (λ r. max r (of_some itself (former-Expr-For-5.map Expr ℕ expr_nesting (out-Body x).tail))) (greatest_map itself stmt_nesting (out-Body x).stmts)
    ∙ ap (λ r. max (greatest stmt_nesting (out-Body x).stmts) r) (tail_alike (out-Body x).tail)

pub branch : (x : ElseIf) → branch_nesting x ≡ max (condition_depth expr_nesting (out-ElseIf x).condition) (block_nesting (out-ElseIf x).then)
branch x = at_branch x (out-ElseIf x) refl ∙ ap (λ r. max r (block_nesting (out-ElseIf x).then)) (condition_alike (out-ElseIf x).condition)
