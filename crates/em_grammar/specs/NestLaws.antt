-- How deep a tree nests is the least depth that it is within.
use Rattle.std.specs.Prelude.{◌≤◌, ℕ, Bool}
use Rattle.em_base.specs.declared.edition.Edition.{Edition}
use Rattle.em_tree.specs.declared.fragment.FragmentNode.{FragmentNode}
use Rattle.em_tree.specs.declared.fragment.FragmentNode.TheVariants as node
use Rattle.em_tree.specs.declared.types.Path.{Path}
use Rattle.em_tree.specs.declared.types.TypeTree.{TypeTree}
use Rattle.em_tree.specs.declared.pat.Pat.{Pat}
use Rattle.em_tree.specs.declared.pat.TopPat.{TopPat}
use Rattle.em_tree.specs.declared.expr.Expr.{Expr}
use Rattle.em_tree.specs.declared.expr.Stmt.{Stmt}
use Rattle.em_tree.specs.declared.expr.Body.{Body}
use Rattle.em_tree.specs.declared.expr.Block.{Block}
use Rattle.em_tree.specs.PathGrammar.{PathWithin, IsType}
use Rattle.em_tree.specs.PatGrammar.{IsPat, IsTopPat}
use Rattle.em_tree.specs.ExprGrammar.{IsExpr, StmtWithin, IsFragmentStmt, BlockWithin, BodyWithin}
use Rattle.em_tree.specs.ItemGrammar.{IsItem, IsFile}
use Rattle.em_tree.specs.FragmentGrammar.{IsFragment}
use Rattle.em_tree.specs.Nesting.{path_nesting, type_nesting, pat_nesting, top_nesting, expr_nesting, stmt_nesting, block_nesting, body_nesting, item_nesting, file_nesting}

-- of what is within any depth: the depths that it is within are those from its nesting on
abbrev pub Nests : {T : Type 0} → (ℕ → T → Type 0) → (T → ℕ) → Type 0
Nests {T} Is nesting = (e d : ℕ) (x : T) → Is e x → (Is d x → nesting x ≤ d) × (nesting x ≤ d → Is d x)

abbrev pub PathsNest : Type 0
PathsNest = Nests PathWithin path_nesting

abbrev pub TypesNest : Type 0
TypesNest = (owes : Bool) → Nests (λ d x. IsType d owes x) type_nesting

abbrev pub PatsNest : Type 0
PatsNest = Nests IsPat pat_nesting

abbrev pub TopPatsNest : Type 0
TopPatsNest = Nests IsTopPat top_nesting

abbrev pub ExprsNest : Type 0
ExprsNest = (no_struct : Bool) → Nests (λ d x. IsExpr d no_struct x) expr_nesting

abbrev pub StmtsNest : Type 0
StmtsNest = Nests StmtWithin stmt_nesting

abbrev pub FragmentStmtsNest : Type 0
FragmentStmtsNest = Nests IsFragmentStmt stmt_nesting

abbrev pub BlocksNest : Type 0
BlocksNest = Nests BlockWithin block_nesting

abbrev pub BodiesNest : Type 0
BodiesNest = Nests BodyWithin body_nesting

abbrev pub ItemsNest : Type 0
ItemsNest = Nests IsItem item_nesting

abbrev pub FilesNest : Type 0
FilesNest = Nests IsFile file_nesting

-- how deep a fragment nests; a token tree and a literal have no nodes
abbrev pub node_nesting : FragmentNode → ℕ
node_nesting (node.Ident t) = 0
node_nesting (node.Tt t) = 0
node_nesting (node.Literal l) = 0
node_nesting (node.Block b) = block_nesting b
node_nesting (node.Expr x) = expr_nesting x
node_nesting (node.Stmt x) = stmt_nesting x
node_nesting (node.Ty x) = type_nesting x
node_nesting (node.Path x) = path_nesting x
node_nesting (node.Pat x) = top_nesting x
node_nesting (node.PatParam x) = pat_nesting x
node_nesting (node.Item x) = item_nesting x

-- fragments of macros
abbrev pub FragmentsNest : Type 0
FragmentsNest = (edition : Edition) → Nests (IsFragment edition) node_nesting
