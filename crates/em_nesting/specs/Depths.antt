-- What the functions ensure that tell whether trees nest within a depth.
use denote.Ref.{Bor}
use Rattle.std.specs.Prelude.{ℕ, ◌≤◌, ◌<◌, max, Bool, MatchBool}
use Rattle.em_tree.specs.declared.pat.Pat.{Pat}
use Rattle.em_tree.specs.declared.pat.FieldPat.{FieldPat}
use Rattle.em_tree.specs.declared.pat.FieldPat.TheVariants as field
use Rattle.em_tree.specs.declared.expr.ClosureParam.{ClosureParam}
use Rattle.em_tree.specs.declared.expr.Expr.{Expr}
use Rattle.em_tree.specs.declared.expr.Stmt.{Stmt}
use Rattle.em_tree.specs.declared.expr.Body.{Body}
use Rattle.em_tree.specs.declared.expr.ElseIf.{ElseIf}
use Rattle.em_tree.specs.declared.expr.Expr.TheOpen.{Expr-F}
use Rattle.em_tree.specs.declared.item.TraitFn.{TraitFn}
use Rattle.em_tree.specs.declared.item.ImplFn.{ImplFn}
use Rattle.em_tree.specs.Nesting.{greatest, of_some, path_nesting, type_nesting, pat_nesting, annotation_nesting, head_nesting, condition_depth, arm_depth, expr_nesting, branch_nesting, block_nesting, sig_nesting, trait_body_nesting}

-- a function value that tells whether what the number says of a part is within the depth
abbrev pub Measures : {T : Type 0} → (Bor T → Bool → Type 0) → (T → ℕ) → ℕ → Type 0
Measures {T} post f most = (t : Bor T) (b : Bool) → post t b → MatchBool b (f t.now ≤ most) (most < f t.now)

abbrev pub field_nesting : FieldPat Pat → ℕ
field_nesting (field.Full name colon pat) = pat_nesting pat
field_nesting (field.Short word_ref word_mut name) = 0

abbrev pub closure_param_nesting : ClosureParam → ℕ
closure_param_nesting x = max (pat_nesting x.pat) (annotation_nesting x.annotation)

-- how many levels an expression adds
abbrev pub own_depth : Expr-F Expr Stmt Body ElseIf → ℕ
own_depth (Expr-F.RefRef amps word_mut operand) = 2
own_depth (Expr-F.Expr::Group group inner) = 0
own_depth _ = 1

-- what an expression without blocks has inside
abbrev pub operands_depth : Expr-F Expr Stmt Body ElseIf → ℕ
operands_depth (Expr-F.Path path) = path_nesting path
operands_depth (Expr-F.Struct path opening fields closing) = max (path_nesting path) (greatest (λ l. of_some expr_nesting l.item.value) fields)
operands_depth (Expr-F.Paren opening inner closing) = expr_nesting inner
operands_depth (Expr-F.Array opening elements closing) = greatest (λ l. expr_nesting l.item) elements
operands_depth (Expr-F.Repeat opening element semi length closing) = expr_nesting element
operands_depth (Expr-F.Return word value) = of_some expr_nesting value
operands_depth (Expr-F.MethodCall receiver dot name opening arguments closing) = max (expr_nesting receiver) (greatest (λ l. expr_nesting l.item) arguments)
operands_depth (Expr-F.Call callee opening arguments closing) = max (expr_nesting callee) (greatest (λ l. expr_nesting l.item) arguments)
operands_depth (Expr-F.Field base dot name) = expr_nesting base
operands_depth (Expr-F.Place base dot number) = expr_nesting base
operands_depth (Expr-F.Index base opening index closing) = max (expr_nesting base) (expr_nesting index)
operands_depth (Expr-F.Unary operator operand) = expr_nesting operand
operands_depth (Expr-F.Ref amp word_mut operand) = expr_nesting operand
operands_depth (Expr-F.RefRef amps word_mut operand) = expr_nesting operand
operands_depth (Expr-F.Binary left operator right) = max (expr_nesting left) (expr_nesting right)
operands_depth (Expr-F.Assign left operator right) = max (expr_nesting left) (expr_nesting right)
operands_depth (Expr-F.Expr::Group group inner) = expr_nesting inner
operands_depth _ = 0

-- what a block, branch, loop or closure has inside
abbrev pub blocks_depth : Expr-F Expr Stmt Body ElseIf → ℕ
blocks_depth (Expr-F.Block block) = block_nesting block
blocks_depth (Expr-F.If word condition then branches word_else otherwise) =
    max (condition_depth expr_nesting condition) (max (block_nesting then) (max (greatest branch_nesting branches) (of_some block_nesting otherwise)))
blocks_depth (Expr-F.Match word scrutinee opening arms closing) = max (expr_nesting scrutinee) (greatest (arm_depth expr_nesting) arms)
blocks_depth (Expr-F.While word condition body) = max (expr_nesting condition) (block_nesting body)
blocks_depth (Expr-F.Loop word body) = block_nesting body
blocks_depth (Expr-F.For word pat word_in head dots end body) = max (pat_nesting pat) (max (expr_nesting head) (max (of_some expr_nesting end) (block_nesting body)))
blocks_depth (Expr-F.Closure word_move head body) = max (head_nesting head) (expr_nesting body)
blocks_depth (Expr-F.ClosureTo word_move head arrow output body) = max (head_nesting head) (max (type_nesting output) (block_nesting body))
blocks_depth _ = 0

abbrev pub trait_fn_nesting : TraitFn → ℕ
trait_fn_nesting x = max (sig_nesting x.sig) (trait_body_nesting x.body)

abbrev pub impl_fn_nesting : ImplFn → ℕ
impl_fn_nesting x = max (sig_nesting x.sig) (block_nesting x.body)
