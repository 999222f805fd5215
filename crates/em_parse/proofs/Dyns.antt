-- The `dyn` at the end of a type.
use Rattle.std.proofs.Common.{◌≡◌, ℕ, zero, suc, ◌+◌, ◌-◌, ◌≤◌, Bool, false, not, ◌&&◌, if◌then◌else◌, List, [], ◌∷◌, ◌++◌, length, take, slice_index_or, refl, sym, ◌∙◌, ap, subst, arith}
use Rattle.std.proofs.lemmas.List.{take_at, length-append}
use Rattle.em_tree.specs.declared.piece.Piece.{Piece}
use Rattle.em_tree.specs.Starts.{Pieces}
use Rattle.em_tree.specs.declared.types.TypeTree.{TypeTree}
use Rattle.em_tree.specs.PathGrammar.{type_pieces}
use Rattle.em_tree.specs.FragmentGrammar.{is_dyn_name, is_separator, ends_in_dyn, makes_keyword}
use Rattle.em_grammar.specs.Laws.{TypesExact}
use Rattle.em_grammar.specs.Reader.{Found, Absent}
use Rattle.em_grammar.specs.TypeReader.{plain_type_in}
use Rattle.em_grammar.specs.FragmentReader.{staying}

pub ends_none : (xs : Pieces) → length xs ≡ 0 → ends_in_dyn xs ≡ false
ends_none [] is = refl
ends_none (x ∷ xs) is = cc

pub ends_one : (xs : Pieces) (d : Piece) → length xs ≡ 1 → ends_in_dyn xs ≡ is_dyn_name (slice_index_or xs 0 d)
ends_one [] d is = cc
ends_one (x ∷ []) d is = refl
ends_one (x ∷ y ∷ xs) d is = absurd (omega (arith, is))

ends_by : (xs : Pieces) (n : ℕ) (d e : Piece) → length xs ≡ suc (suc n) → ends_in_dyn xs ≡ not (is_separator (slice_index_or xs n d)) && is_dyn_name (slice_index_or xs (suc n) e)
ends_by [] n d e is = absurd (omega (arith, is))
ends_by (x ∷ []) n d e is = absurd (omega (arith, is))
ends_by (x ∷ y ∷ []) zero d e is = refl
ends_by (x ∷ y ∷ []) (suc n) d e is = absurd (omega (arith, is))
ends_by (x ∷ y ∷ z ∷ zs) zero d e is = absurd (omega (arith, is))
ends_by (x ∷ y ∷ z ∷ zs) (suc n) d e is = ends_by (y ∷ z ∷ zs) n d e (omega (arith, is))

pub ends_more : (xs : Pieces) (d e : Piece) → 2 ≤ length xs
    → ends_in_dyn xs ≡ not (is_separator (slice_index_or xs (length xs - 2) d)) && is_dyn_name (slice_index_or xs (length xs - 1) e)
ends_more xs d e more =
    let two : length xs ≡ suc (suc (length xs - 2)) = omega (arith, more) in
    let one : suc (length xs - 2) ≡ length xs - 1 = omega (arith, more) in
    ends_by xs (length xs - 2) d e two ∙ ap (λ k. not (is_separator (slice_index_or xs (length xs - 2) d)) && is_dyn_name (slice_index_or xs k e)) one

-- the pieces before the others
pub front : (all left ys : Pieces) → all ≡ ys ++ left → take (length all - length left) all ≡ ys
front all left ys is =
    let long : length ys ≡ length (ys ++ left) - length left = omega (arith, length-append ys left) in
    subst (λ xs. take (length xs - length left) xs ≡ ys) (sym is) (take_at ys left (length (ys ++ left) - length left) long)

-- a type that was read, by the pieces that were read
pub stays_by : (exact : TypesExact) (n depth : ℕ) (all left ys : Pieces) (x : TypeTree) → plain_type_in n depth all ≡ Found x left → ((zs : Pieces) → all ≡ zs ++ left → ys ≡ zs)
    → staying (plain_type_in n depth all) ≡ (if ends_in_dyn ys && makes_keyword left then Absent else Found x left)
stays_by exact n depth all left ys x is read =
    ap staying is ∙ ap (λ zs. if ends_in_dyn zs && makes_keyword left then Absent else Found x left) (sym (read (type_pieces x) (exact.found n depth all x left is).1))
