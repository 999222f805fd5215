-- Laws of the calls: an answer is the only tree of its yield, and a tree is the answer to its own yield.
use Rattle.std.specs.Prelude.{◌≡◌, ◌⊎◌, ℕ, List, [], Result, Ok, Err}
use Rattle.em_base.specs.declared.edition.Edition.{Edition}
use Rattle.em_base.specs.declared.token.Token.{Token}
use Rattle.em_tree.specs.declared.expr.Body.{Body}
use Rattle.em_tree.specs.declared.fragment.FragError.{FragError}
use Rattle.em_tree.specs.declared.fragment.FragError.TheVariants as frag
use Rattle.em_tree.specs.declared.fragment.Fragment.{Fragment}
use Rattle.em_tree.specs.declared.fragment.FragmentNode.{FragmentNode}
use Rattle.em_tree.specs.declared.item.FileTree.{FileTree}
use Rattle.em_tree.specs.declared.item.Item.{Item}
use Rattle.em_tree.specs.declared.piece.FragmentKind.{FragmentKind}
use Rattle.em_tree.specs.Parts.{each}
use Rattle.em_tree.specs.Starts.{Pieces}
use Rattle.em_tree.specs.Tokens.{Each}
use Rattle.em_tree.specs.ExprGrammar.{BodyWithin, body_pieces}
use Rattle.em_tree.specs.FragmentGrammar.{IsFragment, Reads, fragment_pieces, kind_of_node}
use Rattle.em_tree.specs.ItemGrammar.{IsFile, IsItem, file_pieces, item_pieces}
use Rattle.em_grammar.specs.Sets.{Inside, Nested}
use Rattle.em_parse.specs.declared.error.ParseError.{ParseError}
use Rattle.em_parse.specs.declared.error.ParseError.TheVariants as parse
use Rattle.em_parse.specs.Answers.{FileAnswer, ListAnswer, BodyAnswer, FragmentAnswer}
use Rattle.em_parse.specs.Calls.{most, of_tokens, AreItems, IsWhole, IsLongest}

-- ---- one tree for a yield

-- the pieces are the yield of this tree, and of no other of its category, however deep it nests
pub record OnlyTree {T : Type 0} (M : ℕ → T → Type 0) (z : T → Pieces) (i : Pieces) (x : T) : Type 0 where
  pub yields : z x ≡ i
  pub only : (d : ℕ) (y : T) → M d y → z y ≡ i → y ≡ x

abbrev pub FilesAreOne : Type 0
FilesAreOne = (tokens : List Token) (x : FileTree) → IsWhole tokens x → OnlyTree IsFile file_pieces (of_tokens tokens) x

abbrev pub ListsAreOne : Type 0
ListsAreOne = (i : Pieces) (xs : List Item) → AreItems i xs [] → OnlyTree (λ d xs. Each (IsItem d) xs) (λ xs. each item_pieces xs) i xs

abbrev pub BodiesAreOne : Type 0
BodiesAreOne = (i : Pieces) (x : Body) → BodyWithin most x → i ≡ body_pieces x → OnlyTree BodyWithin body_pieces i x

-- of the pieces that were taken
abbrev pub FragmentsAreOne : Type 0
FragmentsAreOne = (kind : FragmentKind) (edition : Edition) (i : Pieces) (x : Fragment) → IsLongest kind edition i x
    → OnlyTree (λ d y. (kind_of_node y ≡ kind) × IsFragment edition d y) fragment_pieces x.pieces.list x.node

-- ---- a tree is read from its own yield

-- but for want of memory, a tree within the limit is the only answer to its yield
abbrev pub FilesAreReadAgain : Type 0
FilesAreReadAgain = (tokens : List Token) (x : FileTree) (r : Result FileTree ParseError) → IsWhole tokens x → FileAnswer tokens r → (r ≡ Ok x) ⊎ (r ≡ Err parse.NoMemory)

-- where fragments stand in one another no more often than the limit
abbrev pub ListsAreReadAgain : Type 0
ListsAreReadAgain = (i : Pieces) (xs : List Item) (r : Result (List Item) FragError) → Inside (Nested most) i → AreItems i xs [] → ListAnswer i r → (r ≡ Ok xs) ⊎ (r ≡ Err frag.NoMemory)

abbrev pub BodiesAreReadAgain : Type 0
BodiesAreReadAgain = (i : Pieces) (x : Body) (r : Result Body FragError) → Inside (Nested most) i → BodyWithin most x → i ≡ body_pieces x → BodyAnswer i r → (r ≡ Ok x) ⊎ (r ≡ Err frag.NoMemory)

abbrev pub FragmentsAreReadAgain : Type 0
FragmentsAreReadAgain = (kind : FragmentKind) (edition : Edition) (i : Pieces) (x : FragmentNode) (r : Result Fragment FragError) → Inside (Nested most) i → kind_of_node x ≡ kind → Reads edition most i x
    → FragmentAnswer kind edition i r → ((f : Fragment) × (r ≡ Ok f) × (f.node ≡ x)) ⊎ (r ≡ Err frag.NoMemory)
