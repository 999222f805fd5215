-- The tokens of a tree, with its fragments opened, and its pieces, with each fragment whole.
use Rattle.std.specs.Prelude.{◌≡◌, ℕ, Bool, true, false, ◌&&◌, not, if◌then◌else◌, nat_eq, nat_lt, List, [], ◌∷◌, ◌++◌, Option, Some, None}
use Rattle.em_base.specs.declared.place.Span.{Span}
use Rattle.em_base.specs.declared.token.Token.{Token}
use Rattle.em_tree.specs.declared.piece.Piece.{Piece, fold-Piece}
use Rattle.em_tree.specs.declared.piece.Piece.TheOpen.{Piece-F, Group-F, PieceList-F}
use Rattle.em_tree.specs.declared.piece.Piece.TheVariants as p
use Rattle.em_tree.specs.declared.piece.Group.{Group, out-Group}
use Rattle.em_tree.specs.declared.literal.Literal.{Literal}
use Rattle.em_tree.specs.declared.types.Path.{Path}
use Rattle.em_tree.specs.declared.types.TypeTree.{TypeTree}
use Rattle.em_tree.specs.declared.pat.Pat.{Pat}
use Rattle.em_tree.specs.declared.expr.Expr.{Expr}
use Rattle.em_tree.specs.declared.expr.Stmt.{Stmt}
use Rattle.em_tree.specs.declared.item.Item.{Item}
use Rattle.em_tree.specs.declared.node.Node.{Node}
use Rattle.em_tree.specs.declared.node.Node.TheVariants as n
use Rattle.em_tree.specs.Parts.{each, path_parts, type_tree_parts, pat_parts, expr_parts, stmt_parts, item_parts}

-- ---- tokens

abbrev pub open_piece : Piece-F (List Token) (List Token) (List Token) → List Token
open_piece (Piece-F.Token t) = t ∷ []
open_piece (Piece-F.Group ts) = ts

abbrev pub open_group : Group-F (List Token) (List Token) (List Token) → List Token
open_group g = g.pieces

abbrev pub open_list : PieceList-F (List Token) (List Token) (List Token) → List Token
open_list l = each (λ ts. ts) l.list

-- the tokens of one piece: the token, or those of the fragment
unfoldable pub opened_piece : Piece → List Token
opened_piece x = fold-Piece (List Token) (List Token) (List Token) open_piece open_group open_list x

abbrev pub opened : List Piece → List Token
opened ys = each opened_piece ys

abbrev pub one : Token → List Token
one t = t ∷ []

abbrev pub inside : Group → List Token → List Token
inside g ts = ts

-- ---- pieces

abbrev pub piece : Token → List Piece
piece t = p.Token t ∷ []

abbrev pub whole : Group → List Piece → List Piece
whole g ys = p.Group g ∷ []

abbrev pub as_it_is : List Piece → List Piece
as_it_is ys = ys

-- ---- a tree of any category

unfoldable pub tokens : Node → List Token
tokens (n.Item x) = item_parts one inside opened x.now
tokens (n.Expr x) = expr_parts one inside opened x.now
tokens (n.Pat x) = pat_parts one inside opened x.now
tokens (n.Ty x) = type_tree_parts one inside opened x.now
tokens (n.Path x) = path_parts one inside opened x.now
tokens (n.Stmt x) = stmt_parts one inside opened x.now

unfoldable pub pieces : Node → List Piece
pieces (n.Item x) = item_parts piece whole as_it_is x.now
pieces (n.Expr x) = expr_parts piece whole as_it_is x.now
pieces (n.Pat x) = pat_parts piece whole as_it_is x.now
pieces (n.Ty x) = type_tree_parts piece whole as_it_is x.now
pieces (n.Path x) = path_parts piece whole as_it_is x.now
pieces (n.Stmt x) = stmt_parts piece whole as_it_is x.now

-- ---- places

-- the place of a piece: of a fragment its outer one
abbrev pub place : Piece → Span
place (p.Token t) = t.span
place (p.Group g) = (out-Group g).outer

abbrev pub first_of : List Piece → Option Span
first_of [] = None
first_of (y ∷ ys) = Some (place y)

abbrev pub last_of : List Piece → Option Span
last_of [] = None
last_of (y ∷ []) = Some (place y)
last_of (y ∷ z ∷ ys) = last_of (z ∷ ys)

-- from one place to another; the first of them alone where they lie in two files, or the last ends before the first starts
abbrev pub reach : Span → Span → Span
reach a b = if nat_eq a.file b.file && not (nat_lt b.end a.start) then record { file = a.file; start = a.start; end = b.end } else a

-- the span of pieces, from the first to the last
abbrev pub SpanOf : List Piece → Span → Type 0
SpanOf ys s = (a : Span) × (b : Span) × (first_of ys ≡ Some a) × (last_of ys ≡ Some b) × (s ≡ reach a b)
