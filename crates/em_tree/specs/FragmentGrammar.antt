-- Fragments of macros by their kinds (Reference, "Metavariables"), and trees of the grammar.
use Rattle.std.specs.Prelude.{◌≡◌, ◌≤◌, ℕ, Bool, true, false, not, ◌&&◌, ◌||◌, List, [], ◌∷◌, ◌++◌, length, codes}
use Rattle.em_tree.specs.declared.types.TypeTree.{TypeTree}
use Rattle.em_base.specs.declared.edition.Edition.{Edition}
use Rattle.em_base.specs.declared.edition.Edition.TheVariants.{E2015, E2018, E2021}
use Rattle.em_base.specs.declared.token.Token.{Token}
use Rattle.em_tree.specs.declared.fragment.FragmentNode.{FragmentNode}
use Rattle.em_tree.specs.declared.fragment.FragmentNode.TheVariants as node
use Rattle.em_tree.specs.declared.fragment.TokenTree.{TokenTree}
use Rattle.em_tree.specs.declared.fragment.TokenTree.TheVariants as tree
use Rattle.em_tree.specs.declared.pat.TopPat.{TopPat}
use Rattle.em_tree.specs.declared.pat.Pat.{Pat}
use Rattle.em_tree.specs.declared.piece.FragmentKind.{FragmentKind}
use Rattle.em_tree.specs.declared.piece.FragmentKind.TheVariants as f
use Rattle.em_tree.specs.declared.piece.Piece.{Piece}
use Rattle.em_tree.specs.declared.piece.Piece.TheVariants as p
use Rattle.em_tree.specs.Starts.{is_word, is_name, is_lifetime, is_spelled}
use Rattle.em_tree.specs.Starts as start
use Rattle.em_tree.specs.Tokens.{IsDelimited, delimiters}
use Rattle.em_tree.specs.PathGrammar.{IsLiteral, TypeWithin, PathWithin, literal_pieces, path_pieces, type_pieces}
use Rattle.em_tree.specs.PatGrammar.{IsPat, IsTopPat, pat_pieces, top_pieces}
use Rattle.em_tree.specs.ExprGrammar.{ExprWithin, BlockWithin, IsFragmentStmt, expr_pieces, stmt_pieces, block_pieces}
use Rattle.em_tree.specs.ItemGrammar.{IsItem, item_pieces}

-- one piece but a close; an open takes all up to the close that matches it
abbrev pub IsTree : TokenTree → Type 0
IsTree (tree.Token t) = is_spelled delimiters t ≡ false
IsTree (tree.Group g) = Unit {0}
IsTree (tree.Delimited d) = IsDelimited d

abbrev pub tree_pieces : TokenTree → List Piece
tree_pieces (tree.Token t) = p.Token t ∷ []
tree_pieces (tree.Group g) = p.Group g ∷ []
tree_pieces (tree.Delimited d) = p.Token d.open ∷ (d.text ++ p.Token d.close ∷ [])

-- before 2021 a `pat` has no `|`
abbrev pub IsPatFragment : Edition → ℕ → TopPat → Type 0
IsPatFragment E2021 depth x = IsTopPat depth x
IsPatFragment E2018 depth x = IsTopPat depth x × ((y : Pat) × (top_pieces x ≡ pat_pieces y) × IsPat depth y)
IsPatFragment E2015 depth x = IsTopPat depth x × ((y : Pat) × (top_pieces x ≡ pat_pieces y) × IsPat depth y)

-- the tree of a fragment whose kind was named in text of this edition, within a depth
abbrev pub IsFragment : Edition → ℕ → FragmentNode → Type 0
IsFragment edition depth (node.Ident t) = is_word t ≡ true
IsFragment edition depth (node.Tt t) = IsTree t
IsFragment edition depth (node.Literal l) = IsLiteral true l
IsFragment edition depth (node.Block b) = BlockWithin depth b
IsFragment edition depth (node.Expr x) = ExprWithin depth x
IsFragment edition depth (node.Stmt x) = IsFragmentStmt depth x
IsFragment edition depth (node.Ty x) = TypeWithin depth x
IsFragment edition depth (node.Path x) = PathWithin depth x
IsFragment edition depth (node.Pat x) = IsPatFragment edition depth x
IsFragment edition depth (node.PatParam x) = IsPat depth x
IsFragment edition depth (node.Item x) = IsItem depth x

-- the pieces of a fragment's tree
abbrev pub fragment_pieces : FragmentNode → List Piece
fragment_pieces (node.Ident t) = p.Token t ∷ []
fragment_pieces (node.Tt t) = tree_pieces t
fragment_pieces (node.Literal l) = literal_pieces l
fragment_pieces (node.Block b) = block_pieces b
fragment_pieces (node.Expr x) = expr_pieces x
fragment_pieces (node.Stmt x) = stmt_pieces x
fragment_pieces (node.Ty x) = type_pieces x
fragment_pieces (node.Path x) = path_pieces x
fragment_pieces (node.Pat x) = top_pieces x
fragment_pieces (node.PatParam x) = pat_pieces x
fragment_pieces (node.Item x) = item_pieces x

abbrev pub kind_of_node : FragmentNode → FragmentKind
kind_of_node (node.Ident t) = f.Ident
kind_of_node (node.Tt t) = f.Tt
kind_of_node (node.Literal l) = f.Literal
kind_of_node (node.Block b) = f.Block
kind_of_node (node.Expr x) = f.Expr
kind_of_node (node.Stmt x) = f.Stmt
kind_of_node (node.Ty x) = f.Ty
kind_of_node (node.Path x) = f.Path
kind_of_node (node.Pat x) = f.Pat
kind_of_node (node.PatParam x) = f.PatParam
kind_of_node (node.Item x) = f.Item

-- the pieces are a fragment: their first one can start its kind, and they are the yield of its tree
pub record Reads (edition : Edition) (depth : ℕ) (ys : List Piece) (x : FragmentNode) : Type 0 where
  pub starts : start.starts (kind_of_node x) edition ys ≡ true
  pub yields : ys ≡ fragment_pieces x
  pub tree : IsFragment edition depth x

-- ---- the word `dyn` of 2015 at a type's end

abbrev pub is_dyn_name : Piece → Bool
is_dyn_name (p.Token t) = is_name t && is_spelled (codes "dyn" ∷ []) t
is_dyn_name (p.Group g) = false

abbrev pub is_separator : Piece → Bool
is_separator (p.Token t) = is_spelled (codes "::" ∷ []) t
is_separator (p.Group g) = false

-- the last piece is the name `dyn`, not behind a `::`
abbrev pub ends_in_dyn : List Piece → Bool
ends_in_dyn [] = false
ends_in_dyn (y ∷ []) = is_dyn_name y
ends_in_dyn (x ∷ y ∷ []) = not (is_separator x) && is_dyn_name y
ends_in_dyn (x ∷ y ∷ z ∷ zs) = ends_in_dyn (y ∷ z ∷ zs)

-- what makes the `dyn` before it the keyword, though no bound of the profile begins so: a lifetime, `for`, `?` or `(` (Reference, "Weak
-- keywords")
abbrev pub makes_keyword : List Piece → Bool
makes_keyword [] = false
makes_keyword (p.Token t ∷ ys) = is_lifetime t || is_spelled (codes "for" ∷ codes "?" ∷ codes "(" ∷ []) t
makes_keyword (p.Group g ∷ ys) = false

-- no type that the pieces begin with, and that is this long or longer, ends in a `dyn` which the next piece makes the keyword
abbrev pub DynStays : List Piece → List Piece → Type 0
DynStays ys rest =
    (longer after : List Piece) (depth : ℕ) (y : TypeTree) → ys ++ rest ≡ longer ++ after → longer ≡ type_pieces y → TypeWithin depth y → length ys ≤ length longer
    → (ends_in_dyn longer && makes_keyword after) ≡ false

-- the pieces are a fragment before the rest. One of the kind `ty` is no prefix where the longest one ends in such a `dyn`: it begins a
-- trait object there, which is none of the profile (Reference, "Weak keywords")
pub record IsPrefix (edition : Edition) (depth : ℕ) (ys rest : List Piece) (x : FragmentNode) : Type 0 where
  pub reads : Reads edition depth ys x
  pub stays : kind_of_node x ≡ f.Ty → DynStays ys rest
