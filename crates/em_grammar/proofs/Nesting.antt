-- Groups nest in one another finitely often, so no two trees have one yield.
use Rattle.std.proofs.Common.{◌≡◌, ℕ, zero, suc, ◌≤◌, List, [], ◌∷◌, ◌++◌, sym, ◌∙◌, ap, subst, map, arith, max, true}
use Rattle.em_tree.specs.declared.piece.Group.{Group, out-Group, fold-Group, fold_out-Group}
use Rattle.em_tree.specs.declared.piece.PieceList.{PieceList, fold-PieceList, fold_out-PieceList}
use Rattle.em_tree.specs.declared.piece.Piece.{Piece, out-Piece, fold-Piece, fold_out-Piece, map-Piece}
use Rattle.em_tree.specs.declared.piece.Piece.TheOpen.{Piece-F, Group-F, PieceList-F}
use Rattle.em_tree.specs.declared.piece.Piece.TheVariants as p
use Rattle.em_tree.specs.Starts.{Pieces, pieces_of}
use Rattle.em_grammar.specs.Sets.{Set, Inside, Nested}
use Rattle.em_grammar.specs.Reader.{Read, Found, Absent}
use Rattle.em_grammar.specs.Pairs.{Pair, Sound, Takes, Steady, Firm, Exact}

abbrev most : List ℕ → ℕ
most [] = 0
most (x ∷ xs) = max x (most xs)

abbrev piece_step : Piece-F ℕ ℕ ℕ → ℕ
piece_step (Piece-F.Token t) = 0
piece_step (Piece-F.Group n) = n

abbrev group_step : Group-F ℕ ℕ ℕ → ℕ
group_step g = suc g.pieces

abbrev list_step : PieceList-F ℕ ℕ ℕ → ℕ
list_step l = most l.list

abbrev height : Piece → ℕ
height x = fold-Piece ℕ ℕ ℕ piece_step group_step list_step x

height_layer : (x : Piece) (l : Piece-F Piece Group PieceList) → out-Piece x ≡ l
    → height x ≡ piece_step (map-Piece Piece Group PieceList ℕ ℕ ℕ height (fold-Group ℕ ℕ ℕ piece_step group_step list_step) (fold-PieceList ℕ ℕ ℕ piece_step group_step list_step) l)
height_layer x l is = fold_out-Piece ℕ ℕ ℕ piece_step group_step list_step x
    ∙ ap (λ k. piece_step (map-Piece Piece Group PieceList ℕ ℕ ℕ height (fold-Group ℕ ℕ ℕ piece_step group_step list_step) (fold-PieceList ℕ ℕ ℕ piece_step group_step list_step) k)) is

group_height : (g : Group) → height (p.Group g) ≡ suc (most (map height (pieces_of g)))
group_height g =
    height_layer (p.Group g) (Piece-F.Group g) (p.outs-Group g)
    ∙ fold_out-Group ℕ ℕ ℕ piece_step group_step list_step g
    ∙ ap (λ n. suc n) (fold_out-PieceList ℕ ℕ ℕ piece_step group_step list_step (out-Group g).pieces)

within : (n : ℕ) (ys : Pieces) → most (map height ys) ≤ n → Inside (Nested n) ys
within zero ys h = go ys h
  where
    go : (ys : Pieces) → most (map height ys) ≤ 0 → Inside (Nested 0) ys
    go [] h = tt
    go (p.Token t ∷ r) h = go r (omega (arith, h))
    go (p.Group g ∷ r) h = absurd (omega (arith, h, group_height g))
within (suc n) ys h = go (λ ys h. within n ys h) ys h
  where
    go : ((ys : Pieces) → most (map height ys) ≤ n → Inside (Nested n) ys) → (ys : Pieces) → most (map height ys) ≤ suc n → Inside (Nested (suc n)) ys
    go ih [] h = tt
    go ih (p.Token t ∷ r) h = go ih r (omega (arith, h))
    go ih (p.Group g ∷ r) h = (ih (pieces_of g) (omega (arith, h, group_height g)), go ih r (omega (arith, h)))

abbrev deepest : Pieces → ℕ
deepest ys = most (map height ys)

pub nesting : (ys : Pieces) → (n : ℕ) × Inside (Nested n) ys
nesting ys = (deepest ys, within (deepest ys) ys (omega arith))

found_one : {T : Type 0} (x y : T) (r s : Pieces) → Found x r ≡ Found y s → x ≡ y
found_one x y r s is = cc

-- where there is a reader, no two members have one yield
pub only_one : {H : Pieces → Type 0} {depth : ℕ} {T : Type 0} {M : ℕ → T → Type 0} {z : T → Pieces} {P : Pieces → Read T} {f : Set} {c : T → Set} → Pair H depth M z P f c
    → (d e : ℕ) (x y : T) → d ≤ depth → e ≤ depth → M d x → M e y → Inside H (z x) → z x ≡ z y → (c x).end ≡ true → (c y).end ≡ true → x ≡ y
only_one {H} {depth} {T} {M} {z} {P} {f} {c} a d e x y h k m n w is en en2 =
    found_one x y [] [] (sym (a.whole d x [] h w m en) ∙ ap (λ ys. P (ys ++ [])) is ∙ a.whole e y [] k (subst (λ ys. Inside H ys) is w) n en2)

module _ (T : Type 0) (M : ℕ → T → Type 0) (z : T → Pieces) (P : ℕ → ℕ → Pieces → Read T) (f : Set) (c : T → Set) (a : (n depth : ℕ) → Pair (Nested n) depth M z (P n depth) f c)
    (ends : (d : ℕ) (t : T) → M d t → (c t).end ≡ true) (steady : (n m d e : ℕ) → n ≤ m → d ≤ e → Firm (P n d) (P m e)) where
  -- within limits that are wide enough, no less is taken than any member
  takes : (n depth : ℕ) (i : Pieces) (d : ℕ) (u : T) (rest : Pieces) → M d u → i ≡ z u ++ rest → (m : ℕ) × (e : ℕ) × (n ≤ m) × (depth ≤ e) × Takes (P m e i) rest
  takes n depth i d u rest m is =
      let wide : Inside (Nested (max n (deepest (z u)))) (z u) = within (max n (deepest (z u))) (z u) (omega arith) in (
        max n (deepest (z u)),
        max depth d,
        omega arith,
        omega arith,
        subst (λ k. Takes (P (max n (deepest (z u))) (max depth d) k) rest) (sym is) ((a (max n (deepest (z u))) (max depth d)).longest d u rest (omega arith) wide m (ends d u m)),
      )

  pub exact_of : Exact M z P
  exact_of = record {
    found = λ n depth i t r is. subst (λ q. Sound M z q i) is ((a n depth).sound i);
    longest = λ n depth i t r is d u rest m at.
        let w = takes n depth i d u rest m at in
        let same : P w.0 w.1 i ≡ Found t r = subst (λ q. Steady q (P w.0 w.1 i)) is ((steady n w.0 depth w.1 w.2 w.3).firm i) in
        subst (λ q. Takes q rest) same w.4;
    none = λ n depth i is d u rest m at.
        let w = takes n depth i d u rest m at in
        let same : P w.0 w.1 i ≡ Absent = subst (λ q. Steady q (P w.0 w.1 i)) is ((steady n w.0 depth w.1 w.2 w.3).firm i) in
        subst (λ q. Takes q rest) same w.4;
    one = λ d e x y m k is.
        let deep = nesting (z x) in
        only_one (a deep.0 (max d e)) d e x y (omega arith) (omega arith) m k deep.1 is (ends d x m) (ends e y k);
  }
