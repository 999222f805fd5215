-- Laws of items and files: how they are read, and that no two of them have one yield.
use Rattle.std.specs.Prelude.{◌≡◌, ℕ, ◌≤◌, List, [], ◌++◌}
use Rattle.em_tree.specs.declared.expr.Block.{Block}
use Rattle.em_tree.specs.declared.expr.Body.{Body}
use Rattle.em_tree.specs.declared.item.Item.{Item}
use Rattle.em_tree.specs.declared.item.FileAttribute.{FileAttribute}
use Rattle.em_tree.specs.declared.item.FileTree.{FileTree}
use Rattle.em_tree.specs.Parts.{each, attribute_parts, vis_parts}
use Rattle.em_tree.specs.Starts.{Pieces}
use Rattle.em_tree.specs.Yields.{piece, whole, as_it_is}
use Rattle.em_tree.specs.ExprGrammar.{BlockWithin, block_pieces}
use Rattle.em_tree.specs.Tokens.{Each}
use Rattle.em_tree.specs.ItemGrammar.{IsAttribute, IsFileAttribute, IsVis, IsItem, IsFile, item_pieces, file_attribute_pieces, file_pieces}
use Rattle.em_grammar.specs.declared.sort.Written.TheVariants as word
use Rattle.em_grammar.specs.Sets.{Inside, Nested, anything, others, both}
use Rattle.em_grammar.specs.Lang.{Many}
use Rattle.em_grammar.specs.Reader.{Read, Found, Absent, all_of}
use Rattle.em_grammar.specs.ExprSets.{block_first}
use Rattle.em_grammar.specs.ExprKnot.{block_in}
use Rattle.em_grammar.specs.ItemReader.{at, attribute, file_attribute, vis, item_start, item_over, file_over, item_in}
use Rattle.em_grammar.specs.Pairs.{Pair, Part, Firm, Exact}

-- ---- attributes and visibilities

abbrev pub AttributesRead : Type 0
AttributesRead = (n depth : ℕ) → Pair (Nested n) depth (λ d. IsAttribute) (λ x. attribute_parts piece whole as_it_is x) (attribute n) (at word.Pound) (λ _. anything)

abbrev pub FileAttributesRead : Type 0
FileAttributesRead = (n depth : ℕ) → Pair (Nested n) depth (λ d. IsFileAttribute) file_attribute_pieces (file_attribute n) (at word.Pound) (λ _. anything)

abbrev pub FileAttributesExact : Type 0
FileAttributesExact = Exact (λ d. IsFileAttribute) file_attribute_pieces (λ n depth. file_attribute n)

-- as many as there are, and behind them no further one
abbrev pub FileAttributesEnd : Type 0
FileAttributesEnd = (n : ℕ) (i : Pieces) (xs : List FileAttribute) (r : Pieces) → all_of (file_attribute n) i ≡ Found xs r
    → Each IsFileAttribute xs × (i ≡ each file_attribute_pieces xs ++ r) × (file_attribute n r ≡ Absent)

-- before what isn't a `(`
abbrev pub VisRead : Type 0
VisRead = (n depth : ℕ) → Pair (Nested n) depth (λ d. IsVis) (λ x. vis_parts piece whole as_it_is x) vis (at word.Pub) (λ _. others (at word.OpenParen))

-- ---- blocks

abbrev pub Blocks : Type 0
Blocks = ℕ → ℕ → Pieces → Read (Block Body)

-- a reader of blocks reads them
abbrev pub BlocksRead : Blocks → Type 0
BlocksRead blocks = (n depth : ℕ) → Pair (Nested n) depth BlockWithin block_pieces (blocks n depth) block_first (λ _. anything)

abbrev pub BlocksSteady : Blocks → Type 0
BlocksSteady blocks = (n m d e : ℕ) → n ≤ m → d ≤ e → Firm (blocks n d) (blocks m e)

-- ---- items

-- items are read
abbrev pub ItemsRead : Type 0
ItemsRead = (n depth : ℕ) → Pair (Nested n) depth IsItem item_pieces (item_in n depth) item_start (λ _. anything)

-- and lists of them
abbrev pub ItemListsRead : Type 0
ItemListsRead = (n depth : ℕ) → Part (Nested n) depth (Many IsItem) (λ xs. each item_pieces xs) (all_of (item_in n depth)) item_start (λ _. both anything (others item_start))

abbrev pub ItemsSteady : Type 0
ItemsSteady = (n m d e : ℕ) → n ≤ m → d ≤ e → Firm (item_in n d) (item_in m e)

abbrev pub ItemsExact : Type 0
ItemsExact = Exact IsItem item_pieces item_in

abbrev pub OneItem : Type 0
OneItem = (d e : ℕ) (x y : Item) → IsItem d x → IsItem e y → item_pieces x ≡ item_pieces y → x ≡ y

-- no item begins as an attribute of a file
abbrev pub ItemsApart : Type 0
ItemsApart = (n d : ℕ) (x : Item) (r : Pieces) → IsItem d x → file_attribute n (item_pieces x ++ r) ≡ Absent

-- ---- files

pub record FileRead (blocks : Blocks) : Type 0 where
  -- what is read is a file, which stands in front of what is left
  pub found : (n depth : ℕ) (i : Pieces) (x : FileTree) (r : Pieces) → file_over blocks n depth i ≡ Found x r → ((d : ℕ) × IsFile d x) × (i ≡ file_pieces x ++ r)
  -- behind which the reader of items finds none
  pub stops : (n depth : ℕ) (i : Pieces) (x : FileTree) (r : Pieces) → file_over blocks n depth i ≡ Found x r → item_over blocks n depth r ≡ Absent
  -- a file within the limits is read whole
  pub whole : (n depth d : ℕ) (x : FileTree) → d ≤ depth → Inside (Nested n) (file_pieces x) → IsFile d x → file_over blocks n depth (file_pieces x) ≡ Found x []
  -- something is always read, or it nests too deep to tell
  pub some : (n depth : ℕ) (i : Pieces) → file_over blocks n depth i ≡ Absent → ⊥
  pub one : (d e : ℕ) (x y : FileTree) → IsFile d x → IsFile e y → file_pieces x ≡ file_pieces y → x ≡ y

pub record FileExact (blocks : Blocks) : Type 0 where
  -- no item stands behind what is read
  pub stops : (n depth : ℕ) (i : Pieces) (x : FileTree) (r : Pieces) → file_over blocks n depth i ≡ Found x r → (d : ℕ) (y : Item) (rest : Pieces) → IsItem d y → r ≡ item_pieces y ++ rest → ⊥
  -- where anything is left, the pieces are no file
  pub none : (n depth : ℕ) (i : Pieces) (x : FileTree) (r : Pieces) → file_over blocks n depth i ≡ Found x r → (d : ℕ) (y : FileTree) → IsFile d y → i ≡ file_pieces y → r ≡ []

abbrev pub FilesRead : Type 0
FilesRead = FileRead block_in

abbrev pub FilesExact : Type 0
FilesExact = FileExact block_in
