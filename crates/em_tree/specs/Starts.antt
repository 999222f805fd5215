-- With which piece a fragment can start. These sets are this project's own; rustc's are close to them (Reference, "Metavariables").
use Rattle.std.specs.Prelude.{ℕ, Bool, true, false, not, ◌&&◌, ◌||◌, if◌then◌else◌, List, [], ◌∷◌, codes, Option, Some, None}
use Rattle.std.specs.Char.{is_ascii_alphabetic}
use Rattle.std.specs.List.{list_any}
use Rattle.std.specs.Str.{bytes_eq}
use Rattle.em_base.specs.declared.edition.Edition.{Edition}
use Rattle.em_base.specs.declared.edition.Edition.TheVariants.{E2015, E2018, E2021}
use Rattle.em_base.specs.declared.words.Class.{Class}
use Rattle.em_base.specs.declared.words.Class.TheVariants as c
use Rattle.em_base.specs.declared.token.Token.{Token}
use Rattle.em_base.specs.declared.token.TokenKind.{TokenKind}
use Rattle.em_base.specs.declared.token.TokenKind.TheVariants as t
use Rattle.em_base.specs.Words.{class_of, is_among}
use Rattle.em_tree.specs.declared.piece.FragmentKind.{FragmentKind}
use Rattle.em_tree.specs.declared.piece.FragmentKind.TheVariants as f
use Rattle.em_tree.specs.declared.piece.Group.{Group, out-Group}
use Rattle.em_tree.specs.declared.piece.PieceList.{PieceList, out-PieceList}
use Rattle.em_tree.specs.declared.piece.Piece.{Piece, fold-Piece}
use Rattle.em_tree.specs.declared.piece.Piece.TheOpen.{Piece-F, Group-F, PieceList-F}
use Rattle.em_tree.specs.declared.piece.Piece.TheVariants as p

abbrev pub Pieces : Type 0
Pieces = List Piece

abbrev pub kind_of : Group → FragmentKind
kind_of g = (out-Group g).kind

abbrev pub pieces_of : Group → Pieces
pieces_of g = (out-PieceList (out-Group g).pieces).list

-- ---- tokens

abbrev pub is_keyword : Class → Bool
is_keyword c.Keyword = true
is_keyword _ = false

abbrev word_kind : TokenKind → Bool
word_kind (t.Ident name raw) = true
word_kind _ = false

abbrev name_kind : Edition → TokenKind → Bool
name_kind e (t.Ident name raw) = raw || not (is_keyword (class_of e name))
name_kind e _ = false

abbrev lifetime_kind : TokenKind → Bool
lifetime_kind (t.Lifetime name) = true
lifetime_kind _ = false

abbrev close_kind : TokenKind → Bool
close_kind t.Close = true
close_kind _ = false

abbrev literal_kind : TokenKind → Bool
literal_kind (t.Int value suffix) = true
literal_kind (t.Char value) = true
literal_kind (t.Byte value) = true
literal_kind (t.Str value) = true
literal_kind (t.ByteStr value) = true
literal_kind _ = false

-- an identifier or a keyword
abbrev pub is_word : Token → Bool
is_word t = word_kind t.kind

-- an identifier that is no keyword in the edition of its text
abbrev pub is_name : Token → Bool
is_name t = name_kind t.edition t.kind

abbrev pub is_lifetime : Token → Bool
is_lifetime t = lifetime_kind t.kind

abbrev pub is_close : Token → Bool
is_close t = close_kind t.kind

abbrev pub is_literal : Token → Bool
is_literal t = literal_kind t.kind

-- a word begins with a letter
abbrev pub is_lettered : List ℕ → Bool
is_lettered [] = false
is_lettered (c ∷ cs) = is_ascii_alphabetic c

-- what words and signs are compared with: the name of an identifier, the text of a delimiter or of punctuation. A raw
-- identifier is never a keyword, and literals and lifetimes are none of the words and signs
abbrev pub spelling_of : TokenKind → List ℕ → Option (List ℕ)
spelling_of (t.Ident name true) text = None
spelling_of (t.Ident name false) text = if is_lettered name then Some name else None
spelling_of t.Open text = Some text
spelling_of t.Close text = Some text
spelling_of t.Punct text = Some text
spelling_of _ text = None

abbrev pub spelling : Token → Option (List ℕ)
spelling t = spelling_of t.kind t.text

abbrev pub is_one_of : List (List ℕ) → Option (List ℕ) → Bool
is_one_of list None = false
is_one_of list (Some text) = is_among list text

-- the token's spelling is one of the list
abbrev pub is_spelled : List (List ℕ) → Token → Bool
is_spelled list t = is_one_of list (spelling t)

-- ---- the spellings beside names, literals and lifetimes

abbrev pub expr_starts : List (List ℕ)
expr_starts =
    codes "async" ∷ codes "break" ∷ codes "continue" ∷ codes "crate" ∷ codes "false" ∷ codes "for" ∷
    codes "if" ∷ codes "loop" ∷ codes "match" ∷ codes "move" ∷ codes "return" ∷ codes "self" ∷ codes "Self" ∷
    codes "static" ∷ codes "super" ∷ codes "true" ∷ codes "try" ∷ codes "unsafe" ∷ codes "while" ∷
    codes "yield" ∷ codes "(" ∷ codes "[" ∷ codes "{" ∷ codes "-" ∷ codes "!" ∷ codes "*" ∷ codes "&" ∷
    codes "&&" ∷ codes "|" ∷ codes "||" ∷ codes "<" ∷ codes "<<" ∷ codes "::" ∷ codes ".." ∷ codes "..." ∷
    codes "..=" ∷ codes "#" ∷ []

abbrev pub type_starts : List (List ℕ)
type_starts =
    codes "crate" ∷ codes "self" ∷ codes "Self" ∷ codes "super" ∷ codes "dyn" ∷ codes "fn" ∷ codes "impl" ∷
    codes "for" ∷ codes "unsafe" ∷ codes "extern" ∷ codes "_" ∷ codes "!" ∷ codes "*" ∷ codes "?" ∷
    codes "&" ∷ codes "&&" ∷ codes "(" ∷ codes "[" ∷ codes "<" ∷ codes "<<" ∷ codes "::" ∷ []

abbrev pub path_starts : List (List ℕ)
path_starts = codes "_" ∷ codes "::" ∷ []

abbrev pub pattern_starts : List (List ℕ)
pattern_starts =
    codes "_" ∷ codes "(" ∷ codes "[" ∷ codes "&" ∷ codes "&&" ∷ codes "-" ∷ codes ".." ∷ codes "..." ∷
    codes "<" ∷ codes "<<" ∷ codes "::" ∷ []

abbrev pub literal_starts : List (List ℕ)
literal_starts = codes "true" ∷ codes "false" ∷ codes "-" ∷ []

-- ---- `|` in patterns

abbrev pub is_pat_kind : FragmentKind → Bool
is_pat_kind f.Pat = true
is_pat_kind _ = false

abbrev pub piece_bar : Piece-F Bool Bool Bool → Bool
piece_bar (Piece-F.Token t) = is_spelled (codes "|" ∷ []) t
piece_bar (Piece-F.Group b) = b

abbrev pub group_bar : Group-F Bool Bool Bool → Bool
group_bar g = is_pat_kind g.kind && g.pieces

abbrev pub list_bar : PieceList-F Bool Bool Bool → Bool
list_bar l = list_any (λ b. b) l.list

-- a `|`, or a `pat` fragment with one among its pieces
unfoldable pub is_bar : Piece → Bool
is_bar x = fold-Piece Bool Bool Bool piece_bar group_bar list_bar x

-- ---- the sets

abbrev pub starts_in_2021 : Edition → Bool
starts_in_2021 E2021 = true
starts_in_2021 _ = false

unfoldable pub starts_token : FragmentKind → Edition → Token → Bool
starts_token f.Ident e t = is_word t
starts_token f.Tt e t = not (is_close t)
starts_token f.Literal e t = is_literal t || is_spelled literal_starts t
starts_token f.Block e t = is_spelled (codes "{" ∷ []) t
starts_token f.Expr e t = is_name t || (is_literal t || (is_lifetime t || is_spelled expr_starts t))
starts_token f.Stmt e t = not (is_close t)
starts_token f.Ty e t = is_name t || (is_lifetime t || is_spelled type_starts t)
starts_token f.Path e t = is_word t || is_spelled path_starts t
starts_token f.Pat e t = (is_word t || (is_literal t || is_spelled pattern_starts t)) || (starts_in_2021 e && is_spelled (codes "|" ∷ []) t)
starts_token f.PatParam e t = is_word t || (is_literal t || is_spelled pattern_starts t)
starts_token f.Item e t = not (is_close t)

-- a group of the first kind, whose pieces are one pattern or not, starts a fragment of the second
unfoldable pub starts_kind : FragmentKind → Bool → FragmentKind → Bool
starts_kind g one f.Tt = true
starts_kind f.Ident one f.Ident = true
starts_kind f.Literal one f.Literal = true
starts_kind f.Literal one f.Expr = true
starts_kind f.Literal one f.Stmt = true
starts_kind f.Literal one f.Pat = true
starts_kind f.Literal one f.PatParam = true
starts_kind f.Block one f.Block = true
starts_kind f.Block one f.Expr = true
starts_kind f.Block one f.Stmt = true
starts_kind f.Expr one f.Expr = true
starts_kind f.Expr one f.Stmt = true
starts_kind f.Stmt one f.Stmt = true
starts_kind f.Ty one f.Ty = true
starts_kind f.Path one f.Path = true
starts_kind f.Path one f.Ty = true
starts_kind f.Path one f.Expr = true
starts_kind f.Pat one f.Pat = true
starts_kind f.Pat one f.PatParam = one
starts_kind f.PatParam one f.PatParam = true
starts_kind f.PatParam one f.Pat = one
starts_kind f.Item one f.Item = true
starts_kind _ one _ = false

abbrev pub starts_group : FragmentKind → Group → Bool
starts_group kind g = starts_kind (kind_of g) (not (list_any is_bar (pieces_of g))) kind

-- the first of the pieces can start a fragment of the kind, whose word is of the edition
unfoldable pub starts : FragmentKind → Edition → Pieces → Bool
starts kind e [] = false
starts kind e (p.Token t ∷ r) = starts_token kind e t
starts kind e (p.Group g ∷ r) = starts_group kind g
