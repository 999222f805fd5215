-- Whether a piece is a `|`, one level at a time.
use Rattle.std.proofs.Common.{◌≡◌, Bool, true, false, ◌&&◌, ◌||◌, List, [], ◌∷◌, codes, refl, sym, ap, ◌∙◌, map}
use Rattle.std.specs.List.{list_any}
use Rattle.em_base.specs.declared.token.Token.{Token}
use Rattle.em_tree.specs.declared.piece.Group.{Group, out-Group, fold-Group, fold_out-Group}
use Rattle.em_tree.specs.declared.piece.PieceList.{PieceList, out-PieceList, fold-PieceList, fold_out-PieceList}
use Rattle.em_tree.specs.declared.piece.Piece.{Piece, out-Piece, fold-Piece, fold_out-Piece, map-Piece}
use Rattle.em_tree.specs.declared.piece.Piece.TheOpen.{Piece-F}
use Rattle.em_tree.specs.declared.piece.Piece.TheVariants as p
use Rattle.em_tree.specs.Starts.{is_bar, is_spelled, is_pat_kind, kind_of, pieces_of, piece_bar, group_bar, list_bar}

any_map : {A B : Type 0} (f : B → Bool) (h : A → B) (xs : List A) → list_any f (map h xs) ≡ list_any (λ x. f (h x)) xs
any_map f h [] = refl
any_map f h (x ∷ xs) = ap (λ b. f (h x) || b) (any_map f h xs)

abbrev bar_in : Piece → Bool
bar_in x = fold-Piece Bool Bool Bool piece_bar group_bar list_bar x

in_list : (l : PieceList) → fold-PieceList Bool Bool Bool piece_bar group_bar list_bar l ≡ list_any bar_in (out-PieceList l).list
in_list l = fold_out-PieceList Bool Bool Bool piece_bar group_bar list_bar l ∙ any_map (λ b. b) bar_in (out-PieceList l).list

in_group : (g : Group) → fold-Group Bool Bool Bool piece_bar group_bar list_bar g ≡ is_pat_kind (kind_of g) && list_any bar_in (pieces_of g)
in_group g = fold_out-Group Bool Bool Bool piece_bar group_bar list_bar g ∙ ap (λ b. is_pat_kind (kind_of g) && b) (in_list (out-Group g).pieces)

at_layer : (x : Piece) (l : Piece-F Piece Group PieceList) → out-Piece x ≡ l
    → bar_in x ≡ piece_bar (map-Piece Piece Group PieceList Bool Bool Bool bar_in (fold-Group Bool Bool Bool piece_bar group_bar list_bar) (fold-PieceList Bool Bool Bool piece_bar group_bar list_bar) l)
at_layer x l is = fold_out-Piece Bool Bool Bool piece_bar group_bar list_bar x
    ∙ ap (λ k. piece_bar (map-Piece Piece Group PieceList Bool Bool Bool bar_in (fold-Group Bool Bool Bool piece_bar group_bar list_bar) (fold-PieceList Bool Bool Bool piece_bar group_bar list_bar) k)) is

pub bar_token : (x : Piece) (t : Token) → x ≡ p.Token t → is_bar x ≡ is_spelled (codes "|" ∷ []) t
unfolding is_bar
bar_token x t is = at_layer x (Piece-F.Token t) (ap (λ k. out-Piece k) is ∙ p.outs-Token t)

pub bar_group : (x : Piece) (g : Group) → x ≡ p.Group g → is_bar x ≡ is_pat_kind (kind_of g) && list_any is_bar (pieces_of g)
unfolding is_bar
bar_group x g is = at_layer x (Piece-F.Group g) (ap (λ k. out-Piece k) is ∙ p.outs-Group g) ∙ in_group g

pub bar_pat : (x : Piece) (g : Group) (b : Bool) → x ≡ p.Group g → is_pat_kind (kind_of g) ≡ true → b ≡ list_any is_bar (pieces_of g) → b ≡ is_bar x
bar_pat x g b is pat has = has ∙ ap (λ c. c && list_any is_bar (pieces_of g)) (sym pat) ∙ sym (bar_group x g is)

pub bar_other : (x : Piece) (g : Group) (b : Bool) → x ≡ p.Group g → is_pat_kind (kind_of g) ≡ false → b ≡ false → b ≡ is_bar x
bar_other x g b is pat none = none ∙ ap (λ c. c && list_any is_bar (pieces_of g)) (sym pat) ∙ sym (bar_group x g is)
