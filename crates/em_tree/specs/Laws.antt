-- Laws of the grammar.
use Rattle.std.specs.Prelude.{◌≡◌, ◌⊎◌, ℕ, true, List, [], ◌∷◌}
use Rattle.em_base.specs.declared.edition.Edition.{Edition}
use Rattle.em_base.specs.declared.token.Token.{Token}
use Rattle.em_tree.specs.declared.expr.Block.{Block}
use Rattle.em_tree.specs.declared.expr.Body.{Body}
use Rattle.em_tree.specs.declared.fragment.FragmentNode.TheVariants as node
use Rattle.em_tree.specs.declared.item.FileTree.{FileTree}
use Rattle.em_tree.specs.declared.piece.Piece.{Piece}
use Rattle.em_tree.specs.declared.piece.Piece.TheVariants as p
use Rattle.em_tree.specs.declared.node.Node.{Node}
use Rattle.em_tree.specs.declared.node.Node.TheVariants as n
use Rattle.em_tree.specs.Starts.{is_word}
use Rattle.em_tree.specs.Yields.{opened, tokens, pieces}
use Rattle.em_tree.specs.PathGrammar.{PathWithin, TypeWithin}
use Rattle.em_tree.specs.PatGrammar.{IsPat}
use Rattle.em_tree.specs.ExprGrammar.{BlockWithin, BodyWithin, ExprWithin, IsFragmentStmt, StmtWithin}
use Rattle.em_tree.specs.ItemGrammar.{IsFile, IsItem, file_pieces}
use Rattle.em_tree.specs.FragmentGrammar.{IsPrefix}

abbrev pub empty_file : FileTree
empty_file = record { attributes = []; items = [] }

-- a file may have nothing in it
abbrev pub EmptyFile : Type 0
EmptyFile = (depth : ℕ) → IsFile depth empty_file × (file_pieces empty_file ≡ [])

-- a word is a fragment of the kind `ident`, whatever follows it
abbrev pub WordIsFragment : Type 0
WordIsFragment = (edition : Edition) (depth : ℕ) (t : Token) (rest : List Piece) → is_word t ≡ true → IsPrefix edition depth (p.Token t ∷ []) rest (node.Ident t)

-- what a block of the grammar has between its braces is of the grammar too
abbrev pub BlockHasBody : Type 0
BlockHasBody = (depth : ℕ) (b : Block Body) → BlockWithin depth b → BodyWithin depth b.body

-- a tree of the grammar, of any category
abbrev pub IsNode : ℕ → Node → Type 0
IsNode depth (n.Item x) = IsItem depth x.now
IsNode depth (n.Expr x) = ExprWithin depth x.now
IsNode depth (n.Pat x) = IsPat depth x.now
IsNode depth (n.Ty x) = TypeWithin depth x.now
IsNode depth (n.Path x) = PathWithin depth x.now
IsNode depth (n.Stmt x) = StmtWithin depth x.now ⊎ IsFragmentStmt depth x.now

-- its tokens are its pieces with each fragment opened
abbrev pub NodeIsOpened : Type 0
NodeIsOpened = (depth : ℕ) (node : Node) → IsNode depth node → tokens node ≡ opened (pieces node)
