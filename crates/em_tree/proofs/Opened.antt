-- The tokens of a piece, one level at a time.
use Rattle.std.proofs.Common.{◌≡◌, List, ◌++◌, sym, ap, ◌∙◌}
use Rattle.em_base.specs.declared.token.Token.{Token}
use Rattle.em_tree.specs.declared.piece.Group.{Group, out-Group, fold-Group, fold_out-Group}
use Rattle.em_tree.specs.declared.piece.PieceList.{PieceList, out-PieceList, fold-PieceList, fold_out-PieceList}
use Rattle.em_tree.specs.declared.piece.Piece.{Piece, out-Piece, fold-Piece, fold_out-Piece, map-Piece}
use Rattle.em_tree.specs.declared.piece.Piece.TheOpen.{Piece-F}
use Rattle.em_tree.specs.declared.piece.Piece.TheVariants as p
use Rattle.em_tree.specs.Starts.{pieces_of}
use Rattle.em_tree.specs.Parts.{each}
use Rattle.em_tree.specs.Yields.{one, opened, opened_piece, open_piece, open_group, open_list}
use Rattle.em_tree.proofs.Layers.{each_map}

abbrev Tokens : Type 0
Tokens = List Token

abbrev in_piece : Piece → Tokens
in_piece x = fold-Piece Tokens Tokens Tokens open_piece open_group open_list x

abbrev in_group : Group → Tokens
in_group g = fold-Group Tokens Tokens Tokens open_piece open_group open_list g

abbrev in_list : PieceList → Tokens
in_list l = fold-PieceList Tokens Tokens Tokens open_piece open_group open_list l

list_opened : (l : PieceList) → in_list l ≡ each in_piece (out-PieceList l).list
list_opened l = fold_out-PieceList Tokens Tokens Tokens open_piece open_group open_list l ∙ each_map (λ ts. ts) in_piece (out-PieceList l).list

group_opened : (g : Group) → in_group g ≡ each in_piece (pieces_of g)
group_opened g = fold_out-Group Tokens Tokens Tokens open_piece open_group open_list g ∙ list_opened (out-Group g).pieces

at_layer : (x : Piece) (l : Piece-F Piece Group PieceList) → out-Piece x ≡ l
    → in_piece x ≡ open_piece (map-Piece Piece Group PieceList Tokens Tokens Tokens in_piece in_group in_list l)
at_layer x l is = fold_out-Piece Tokens Tokens Tokens open_piece open_group open_list x
    ∙ ap (λ k. open_piece (map-Piece Piece Group PieceList Tokens Tokens Tokens in_piece in_group in_list k)) is

pub opened_token : (x : Piece) (t : Token) → x ≡ p.Token t → opened_piece x ≡ one t
unfolding opened_piece
opened_token x t is = at_layer x (Piece-F.Token t) (ap (λ k. out-Piece k) is ∙ p.outs-Token t)

pub opened_group : (x : Piece) (g : Group) → x ≡ p.Group g → opened_piece x ≡ opened (pieces_of g)
unfolding opened_piece
opened_group x g is = at_layer x (Piece-F.Group g) (ap (λ k. out-Piece k) is ∙ p.outs-Group g) ∙ group_opened g

pub puts_token : (old new : Tokens) (x : Piece) (t : Token) → x ≡ p.Token t → new ≡ old ++ one t → new ≡ old ++ opened_piece x
puts_token old new x t is e = e ∙ ap (λ ts. old ++ ts) (sym (opened_token x t is))

pub puts_group : (old new : Tokens) (x : Piece) (g : Group) → x ≡ p.Group g → new ≡ old ++ opened (pieces_of g) → new ≡ old ++ opened_piece x
puts_group old new x g is e = e ∙ ap (λ ts. old ++ ts) (sym (opened_group x g is))
