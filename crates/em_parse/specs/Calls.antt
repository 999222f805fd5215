-- What the calls answer.
use Rattle.std.specs.Prelude.{◌≡◌, ◌⊎◌, ℕ, ◌<◌, ◌≤◌, true, List, [], ◌∷◌, ◌++◌, length, drop, map}
use Rattle.em_base.specs.declared.edition.Edition.{Edition}
use Rattle.em_base.specs.declared.token.Token.{Token}
use Rattle.em_tree.specs.declared.expr.Body.{Body}
use Rattle.em_tree.specs.declared.fragment.Fragment.{Fragment}
use Rattle.em_tree.specs.declared.fragment.FragmentNode.{FragmentNode}
use Rattle.em_tree.specs.declared.item.FileAttribute.{FileAttribute}
use Rattle.em_tree.specs.declared.item.FileTree.{FileTree}
use Rattle.em_tree.specs.declared.item.Item.{Item}
use Rattle.em_tree.specs.declared.piece.FragmentKind.{FragmentKind}
use Rattle.em_tree.specs.declared.piece.Piece.TheVariants as p
use Rattle.em_tree.specs.Parts.{each}
use Rattle.em_tree.specs.Starts.{Pieces, starts}
use Rattle.em_tree.specs.Tokens.{Each}
use Rattle.em_tree.specs.ExprGrammar.{BodyWithin, body_pieces}
use Rattle.em_tree.specs.FragmentGrammar.{IsPrefix, kind_of_node}
use Rattle.em_tree.specs.ItemGrammar.{IsFileAttribute, IsItem, IsFile, file_attribute_pieces, item_pieces, file_pieces}
use Rattle.em_tree.specs.Nesting.{body_nesting, item_nesting}
use Rattle.em_grammar.specs.NestLaws.{node_nesting}
use Rattle.em_grammar.specs.Reader.{Read, Found, Deep}
use Rattle.em_grammar.specs.ExprKnot.{body_in}
use Rattle.em_grammar.specs.ItemReader.{item_in}
use Rattle.em_grammar.specs.FragmentLaws.{prefix_in}

-- so many nodes may stand in one another, and so many fragments
abbrev pub most : ℕ
most = 200

abbrev pub of_tokens : List Token → Pieces
of_tokens tokens = map p.Token tokens

-- reading comes to a place with more open nodes or fragments than that, or what it finds nests deeper
abbrev pub TooDeep : {T : Type 0} → (T → ℕ) → Read T → Type 0
TooDeep {T} nesting out = (out ≡ Deep) ⊎ ((x : T) × (rest : Pieces) × (out ≡ Found x rest) × (most < nesting x))

abbrev pub DeepItemStands : Pieces → Type 0
DeepItemStands i = TooDeep item_nesting (item_in most most i)

-- no item stands at the front of the pieces, however deep it nests, and reading one doesn't come too deep
pub record NoItemStands (i : Pieces) : Type 0 where
  pub none : (d : ℕ) (x : Item) (rest : Pieces) → IsItem d x → i ≡ item_pieces x ++ rest → ⊥
  pub shallow : DeepItemStands i → ⊥

-- ---- lists of items

-- items within the limit, and what is behind them
pub record AreItems (i : Pieces) (items : List Item) (rest : Pieces) : Type 0 where
  pub trees : Each (IsItem most) items
  pub yields : i ≡ each item_pieces items ++ rest

-- behind some items stands no further one
abbrev pub AreNoItems : Pieces → Type 0
AreNoItems i = (items : List Item) × (rest : Pieces) × AreItems i items rest × (rest ≡ [] → ⊥) × NoItemStands rest

-- behind some items, reading a further one comes too deep
abbrev pub AreDeepItems : Pieces → Type 0
AreDeepItems i = (items : List Item) × (rest : Pieces) × AreItems i items rest × DeepItemStands rest

-- ---- files

-- the attributes at the front of a file, and what is behind them
pub record Attributes (i : Pieces) (attributes : List FileAttribute) (rest : Pieces) : Type 0 where
  pub trees : Each IsFileAttribute attributes
  pub yields : i ≡ each file_attribute_pieces attributes ++ rest
  pub all : (x : FileAttribute) (more : Pieces) → IsFileAttribute x → rest ≡ file_attribute_pieces x ++ more → ⊥

-- a file within the limit
pub record IsWhole (tokens : List Token) (x : FileTree) : Type 0 where
  pub tree : IsFile most x
  pub yields : of_tokens tokens ≡ file_pieces x

-- behind the attributes and some items of a file, at the token with this offset
pub record ItemBegins (tokens : List Token) (offset : ℕ) (begins : Pieces → Type 0) : Type 0 where
  pub attributes : List FileAttribute
  pub behind : Pieces
  pub fronts : Attributes (of_tokens tokens) attributes behind
  pub items : List Item
  pub first : Token
  pub rest : Pieces
  pub before : AreItems behind items (p.Token first ∷ rest)
  pub at : offset ≡ first.span.start
  pub stands : begins (p.Token first ∷ rest)

-- no item stands there
abbrev pub NoItemAt : List Token → ℕ → Type 0
NoItemAt tokens offset = ItemBegins tokens offset NoItemStands

-- reading one there comes too deep
abbrev pub DeepItemAt : List Token → ℕ → Type 0
DeepItemAt tokens offset = ItemBegins tokens offset DeepItemStands

-- ---- bodies

abbrev pub IsDeepBody : Pieces → Type 0
IsDeepBody i = TooDeep body_nesting (body_in most most i)

-- they are this body within the limit, and reading one doesn't come too deep
pub record IsWholeBody (i : Pieces) (x : Body) : Type 0 where
  pub within : BodyWithin most x
  pub yields : i ≡ body_pieces x
  pub shallow : IsDeepBody i → ⊥

-- they are no body, of whatever depth, and reading one doesn't come too deep
pub record IsNoBody (i : Pieces) : Type 0 where
  pub none : (d : ℕ) (x : Body) → BodyWithin d x → i ≡ body_pieces x → ⊥
  pub shallow : IsDeepBody i → ⊥

-- ---- fragments

-- the pieces begin with a fragment of the kind
abbrev pub Begins : FragmentKind → Edition → ℕ → Pieces → Pieces → Pieces → FragmentNode → Type 0
Begins kind edition depth i ys rest x = (i ≡ ys ++ rest) × (kind_of_node x ≡ kind) × IsPrefix edition depth ys rest x

abbrev pub IsDeepFragment : FragmentKind → Edition → Pieces → Type 0
IsDeepFragment kind edition i = TooDeep node_nesting (prefix_in kind edition most most i)

-- the longest fragment of the kind at the front of the pieces, and reading one doesn't come too deep
pub record IsLongest (kind : FragmentKind) (edition : Edition) (i : Pieces) (x : Fragment) : Type 0 where
  pub kind_is : x.kind ≡ kind
  pub edition_is : x.edition ≡ edition
  pub taken_is : x.taken ≡ length x.pieces.list
  pub begins : Begins kind edition most i x.pieces.list (drop x.taken i) x.node
  pub longest : (d : ℕ) (y : FragmentNode) (ys rest : Pieces) → Begins kind edition d i ys rest y → length ys ≤ x.taken
  pub shallow : IsDeepFragment kind edition i → ⊥

-- the first piece starts one of the kind, but none stands there, however deep it nests, and reading one doesn't come too deep
pub record IsBroken (kind : FragmentKind) (edition : Edition) (i : Pieces) : Type 0 where
  pub starts_one : starts kind edition i ≡ true
  pub none : (d : ℕ) (x : FragmentNode) (ys rest : Pieces) → Begins kind edition d i ys rest x → ⊥
  pub shallow : IsDeepFragment kind edition i → ⊥
