-- How deep a tree nests: the greatest number of items, expressions, patterns and types on one way from its root down. Fragments, bodies of
-- functions, statements and the blocks that a form requires add none, and two references in one token count twice.
use Rattle.std.specs.Prelude.{ℕ, suc, max, List, [], ◌∷◌, Option, Some, None}
use Rattle.em_tree.specs.declared.parts.Listed.{Listed}
use Rattle.em_tree.specs.declared.types.Path.{Path, fold-Path}
use Rattle.em_tree.specs.declared.types.Output.{Output, fold-Output}
use Rattle.em_tree.specs.declared.types.Bound.{Bound, fold-Bound}
use Rattle.em_tree.specs.declared.types.Qualified.{Qualified, fold-Qualified}
use Rattle.em_tree.specs.declared.types.TypeTree.{TypeTree, fold-TypeTree}
use Rattle.em_tree.specs.declared.types.Bound.TheOpen.{Bound-F, Output-F, Path-F, TypeTree-F, Qualified-F}
use Rattle.em_tree.specs.declared.pat.FieldPat.{FieldPat}
use Rattle.em_tree.specs.declared.pat.FieldPat.TheVariants as field
use Rattle.em_tree.specs.declared.pat.Pat.{Pat, fold-Pat}
use Rattle.em_tree.specs.declared.pat.Pat.TheOpen.{Pat-F}
use Rattle.em_tree.specs.declared.pat.TopPat.{TopPat, fold-TopPat}
use Rattle.em_tree.specs.declared.pat.TopPat.TheOpen.{TopPat-F}
use Rattle.em_tree.specs.declared.expr.Annotation.{Annotation}
use Rattle.em_tree.specs.declared.expr.Annotation.TheVariants as annotation
use Rattle.em_tree.specs.declared.expr.ClosureHead.{ClosureHead}
use Rattle.em_tree.specs.declared.expr.ClosureHead.TheVariants as head
use Rattle.em_tree.specs.declared.expr.Condition.{Condition}
use Rattle.em_tree.specs.declared.expr.Condition.TheVariants as condition
use Rattle.em_tree.specs.declared.expr.FieldExpr.{FieldExpr}
use Rattle.em_tree.specs.declared.expr.Arm.{Arm}
use Rattle.em_tree.specs.declared.expr.Block.{Block}
use Rattle.em_tree.specs.declared.expr.Expr.{Expr, fold-Expr}
use Rattle.em_tree.specs.declared.expr.Stmt.{Stmt, fold-Stmt}
use Rattle.em_tree.specs.declared.expr.Body.{Body, fold-Body}
use Rattle.em_tree.specs.declared.expr.ElseIf.{ElseIf, fold-ElseIf}
use Rattle.em_tree.specs.declared.expr.Expr.TheOpen.{Expr-F, Stmt-F, Body-F, ElseIf-F}
use Rattle.em_tree.specs.declared.item.Param.{Param}
use Rattle.em_tree.specs.declared.item.Param.TheVariants as param
use Rattle.em_tree.specs.declared.item.Sig.{Sig}
use Rattle.em_tree.specs.declared.item.TraitBody.{TraitBody}
use Rattle.em_tree.specs.declared.item.TraitBody.TheVariants as trait_body
use Rattle.em_tree.specs.declared.item.StructFields.{StructFields}
use Rattle.em_tree.specs.declared.item.StructFields.TheVariants as struct_fields
use Rattle.em_tree.specs.declared.item.VariantFields.{VariantFields}
use Rattle.em_tree.specs.declared.item.VariantFields.TheVariants as variant_fields
use Rattle.em_tree.specs.declared.item.ItemBody.{ItemBody}
use Rattle.em_tree.specs.declared.item.ItemBody.TheVariants as item_body
use Rattle.em_tree.specs.declared.item.Item.{Item, fold-Item}
use Rattle.em_tree.specs.declared.item.Item.TheOpen.{Item-F}
use Rattle.em_tree.specs.declared.item.FileTree.{FileTree}

abbrev pub greatest : {A : Type 0} → (A → ℕ) → List A → ℕ
greatest f [] = 0
greatest f (x ∷ xs) = max (f x) (greatest f xs)

abbrev pub of_some : {A : Type 0} → (A → ℕ) → Option A → ℕ
of_some f None = 0
of_some f (Some x) = f x

abbrev pub itself : ℕ → ℕ
itself n = n

-- ---- paths and types

abbrev pub bound_depth : Bound-F ℕ ℕ ℕ ℕ ℕ → ℕ
bound_depth (Bound-F.Bound::Path path) = path
bound_depth (Bound-F.Call path opening inputs closing output) = max path (max (greatest (λ l. l.item) inputs) output)

abbrev pub output_depth : Output-F ℕ ℕ ℕ ℕ ℕ → ℕ
output_depth Output-F.Output::Unit = 0
output_depth (Output-F.Type arrow ty) = ty

abbrev pub path_depth : Path-F ℕ ℕ ℕ ℕ ℕ → ℕ
path_depth (Path-F.Plain segments) = 0
path_depth (Path-F.Qualified qualified) = qualified
path_depth (Path-F.Path::Group group inner) = inner

abbrev pub type_depth : TypeTree-F ℕ ℕ ℕ ℕ ℕ → ℕ
type_depth (TypeTree-F.TypeTree::Path path) = suc path
type_depth (TypeTree-F.Boxed word opening inner closing) = suc inner
type_depth (TypeTree-F.Ref amp word_mut inner) = suc inner
type_depth (TypeTree-F.RefRef amps word_mut inner) = suc (suc inner)
type_depth (TypeTree-F.Array opening element semi length closing) = suc element
type_depth (TypeTree-F.Slice opening element closing) = suc element
type_depth (TypeTree-F.TypeTree::Unit opening closing) = 1
type_depth (TypeTree-F.Dyn word bound) = suc bound
type_depth (TypeTree-F.Bare bound) = suc bound
type_depth (TypeTree-F.TypeTree::Group group inner) = inner

abbrev pub qualified_depth : Qualified-F ℕ ℕ ℕ ℕ ℕ → ℕ
qualified_depth x = max x.self_type x.of_trait

unfoldable pub path_nesting : Path → ℕ
path_nesting x = fold-Path ℕ ℕ ℕ ℕ ℕ bound_depth output_depth path_depth type_depth qualified_depth x

unfoldable pub output_nesting : Output → ℕ
output_nesting x = fold-Output ℕ ℕ ℕ ℕ ℕ bound_depth output_depth path_depth type_depth qualified_depth x

unfoldable pub bound_nesting : Bound → ℕ
bound_nesting x = fold-Bound ℕ ℕ ℕ ℕ ℕ bound_depth output_depth path_depth type_depth qualified_depth x

unfoldable pub qualified_nesting : Qualified → ℕ
qualified_nesting x = fold-Qualified ℕ ℕ ℕ ℕ ℕ bound_depth output_depth path_depth type_depth qualified_depth x

unfoldable pub type_nesting : TypeTree → ℕ
type_nesting x = fold-TypeTree ℕ ℕ ℕ ℕ ℕ bound_depth output_depth path_depth type_depth qualified_depth x

-- ---- patterns

abbrev pub field_depth : FieldPat ℕ → ℕ
field_depth (field.Full name colon pat) = pat
field_depth (field.Short word_ref word_mut name) = 0

abbrev pub pat_depth : Pat-F ℕ → ℕ
pat_depth (Pat-F.Path path) = suc (path_nesting path)
pat_depth (Pat-F.Tuple path opening fields closing) = suc (max (path_nesting path) (greatest (λ l. l.item) fields))
pat_depth (Pat-F.Struct path opening fields rest closing) = suc (max (path_nesting path) (greatest (λ l. field_depth l.item) fields))
pat_depth (Pat-F.Group group inner) = inner
pat_depth _ = 1

unfoldable pub pat_nesting : Pat → ℕ
pat_nesting x = fold-Pat ℕ pat_depth x

abbrev pub top_depth : TopPat-F ℕ → ℕ
top_depth (TopPat-F.Alternatives list) = greatest (λ a. pat_nesting a.pat) list
top_depth (TopPat-F.Group group inner) = inner

unfoldable pub top_nesting : TopPat → ℕ
top_nesting x = fold-TopPat ℕ top_depth x

-- ---- expressions, statements and blocks

abbrev pub annotation_nesting : Annotation → ℕ
annotation_nesting annotation.Nothing = 0
annotation_nesting (annotation.Type colon ty) = type_nesting ty

abbrev pub head_nesting : ClosureHead → ℕ
head_nesting (head.Empty bars) = 0
head_nesting (head.Bars opening params closing) = greatest (λ x. max (pat_nesting x.pat) (annotation_nesting x.annotation)) params

-- over what stands for expressions
abbrev pub condition_depth : {A : Type 0} → (A → ℕ) → Condition A → ℕ
condition_depth f (condition.Expr x) = f x
condition_depth f (condition.Let word pat equals x) = max (top_nesting pat) (f x)

abbrev pub arm_depth : {A : Type 0} → (A → ℕ) → Arm A → ℕ
arm_depth f a = max (top_nesting a.pat) (f a.body)

abbrev pub expr_depth : Expr-F ℕ ℕ ℕ ℕ → ℕ
expr_depth (Expr-F.Path path) = suc (path_nesting path)
expr_depth (Expr-F.Struct path opening fields closing) = suc (max (path_nesting path) (greatest (λ l. of_some itself l.item.value) fields))
expr_depth (Expr-F.Paren opening inner closing) = suc inner
expr_depth (Expr-F.Array opening elements closing) = suc (greatest (λ l. l.item) elements)
expr_depth (Expr-F.Repeat opening element semi length closing) = suc element
expr_depth (Expr-F.Block block) = suc block.body
expr_depth (Expr-F.If word condition then branches word_else otherwise) =
    suc (max (condition_depth itself condition) (max then.body (max (greatest itself branches) (of_some (λ b. b.body) otherwise))))
expr_depth (Expr-F.Match word scrutinee opening arms closing) = suc (max scrutinee (greatest (arm_depth itself) arms))
expr_depth (Expr-F.While word condition body) = suc (max condition body.body)
expr_depth (Expr-F.Loop word body) = suc body.body
expr_depth (Expr-F.For word pat word_in head dots end body) = suc (max (pat_nesting pat) (max head (max (of_some itself end) body.body)))
expr_depth (Expr-F.Closure word_move head body) = suc (max (head_nesting head) body)
expr_depth (Expr-F.ClosureTo word_move head arrow output body) = suc (max (head_nesting head) (max (type_nesting output) body.body))
expr_depth (Expr-F.Return word value) = suc (of_some itself value)
expr_depth (Expr-F.MethodCall receiver dot name opening arguments closing) = suc (max receiver (greatest (λ l. l.item) arguments))
expr_depth (Expr-F.Call callee opening arguments closing) = suc (max callee (greatest (λ l. l.item) arguments))
expr_depth (Expr-F.Field base dot name) = suc base
expr_depth (Expr-F.Place base dot number) = suc base
expr_depth (Expr-F.Index base opening index closing) = suc (max base index)
expr_depth (Expr-F.Unary operator operand) = suc operand
expr_depth (Expr-F.Ref amp word_mut operand) = suc operand
expr_depth (Expr-F.RefRef amps word_mut operand) = suc (suc operand)
expr_depth (Expr-F.Binary left operator right) = suc (max left right)
expr_depth (Expr-F.Assign left operator right) = suc (max left right)
expr_depth (Expr-F.Expr::Group group inner) = inner
expr_depth _ = 1

abbrev pub stmt_depth : Stmt-F ℕ ℕ ℕ ℕ → ℕ
stmt_depth (Stmt-F.Let word pat annotation equals value semi) = max (pat_nesting pat) (max (annotation_nesting annotation) value)
stmt_depth (Stmt-F.Expr value semi) = value
stmt_depth (Stmt-F.BlockLike value semi) = value
stmt_depth (Stmt-F.Stmt::Group group inner semi) = inner
stmt_depth _ = 0

abbrev pub body_depth : Body-F ℕ ℕ ℕ ℕ → ℕ
body_depth x = max (greatest itself x.stmts) (of_some itself x.tail)

abbrev pub branch_depth : ElseIf-F ℕ ℕ ℕ ℕ → ℕ
branch_depth x = max (condition_depth itself x.condition) x.then.body

unfoldable pub expr_nesting : Expr → ℕ
expr_nesting x = fold-Expr ℕ ℕ ℕ ℕ expr_depth stmt_depth body_depth branch_depth x

unfoldable pub stmt_nesting : Stmt → ℕ
stmt_nesting x = fold-Stmt ℕ ℕ ℕ ℕ expr_depth stmt_depth body_depth branch_depth x

unfoldable pub body_nesting : Body → ℕ
body_nesting x = fold-Body ℕ ℕ ℕ ℕ expr_depth stmt_depth body_depth branch_depth x

unfoldable pub branch_nesting : ElseIf → ℕ
branch_nesting x = fold-ElseIf ℕ ℕ ℕ ℕ expr_depth stmt_depth body_depth branch_depth x

abbrev pub block_nesting : Block Body → ℕ
block_nesting b = body_nesting b.body

-- ---- items

abbrev pub param_nesting : Param → ℕ
param_nesting (param.Typed pat colon ty) = max (pat_nesting pat) (type_nesting ty)
param_nesting (param.Anonymous ty) = type_nesting ty

abbrev pub sig_nesting : Sig → ℕ
sig_nesting s = max (greatest (λ l. param_nesting l.item) s.params) (output_nesting s.output)

abbrev pub trait_body_nesting : TraitBody → ℕ
trait_body_nesting (trait_body.Semi semi) = 0
trait_body_nesting (trait_body.Block b) = block_nesting b

abbrev pub struct_nesting : StructFields → ℕ
struct_nesting (struct_fields.Unit semi) = 0
struct_nesting (struct_fields.Named opening fields closing) = greatest (λ l. type_nesting l.item.ty) fields
struct_nesting (struct_fields.Tuple opening fields closing semi) = greatest (λ l. type_nesting l.item.ty) fields

abbrev pub variant_nesting : VariantFields → ℕ
variant_nesting variant_fields.Unit = 0
variant_nesting (variant_fields.Tuple opening fields closing) = greatest (λ l. type_nesting l.item) fields
variant_nesting (variant_fields.Named opening fields closing) = greatest (λ l. type_nesting l.item.ty) fields

abbrev pub item_body_depth : {A : Type 0} → (A → ℕ) → ItemBody A → ℕ
item_body_depth f (item_body.ModBlock word name opening items closing) = greatest f items
item_body_depth f (item_body.Fn sig body) = max (sig_nesting sig) (block_nesting body)
item_body_depth f (item_body.Struct word name fields) = struct_nesting fields
item_body_depth f (item_body.Enum word name opening variants closing) = greatest (λ l. variant_nesting l.item.fields) variants
item_body_depth f (item_body.Trait word name opening functions closing) = greatest (λ x. max (sig_nesting x.sig) (trait_body_nesting x.body)) functions
item_body_depth f (item_body.Impl word of_trait self_type opening functions closing) =
    max (of_some (λ x. path_nesting x.path) of_trait) (max (type_nesting self_type) (greatest (λ x. max (sig_nesting x.sig) (block_nesting x.body)) functions))
item_body_depth f (item_body.Const word name colon ty equals value semi) = type_nesting ty
item_body_depth f _ = 0

abbrev pub item_depth : Item-F ℕ → ℕ
item_depth (Item-F.Plain attributes vis body) = suc (item_body_depth itself body)
item_depth (Item-F.Group group inner) = inner

unfoldable pub item_nesting : Item → ℕ
item_nesting x = fold-Item ℕ item_depth x

-- of a file
abbrev pub file_nesting : FileTree → ℕ
file_nesting x = greatest item_nesting x.items
