-- What is left behind a body.
use Rattle.std.proofs.Common.{◌≡◌, ℕ, zero, suc, Bool, List, [], ◌∷◌, ◌++◌, length, ◌∙◌, sym, ap, subst, arith, max, refl}
use Rattle.std.specs.Prelude.{if◌then◌else◌, true, false}
use Rattle.em_tree.specs.declared.expr.Body.{Body}
use Rattle.em_tree.specs.Starts.{Pieces}
use Rattle.em_tree.specs.ExprGrammar.{BodyWithin, body_pieces}
use Rattle.em_grammar.specs.Reader.{Read, Found, Absent, Deep, and_then, or_stay}
use Rattle.em_grammar.specs.Rows.{rows}
use Rattle.em_grammar.specs.Pairs.{Steady}
use Rattle.em_grammar.specs.StmtReader.{Row, row_closed, row, body, body_of}
use Rattle.em_grammar.specs.ExprKnot.{without_blocks, expr_by, opens_in, body_in}
use Rattle.em_grammar.specs.ExprLaws.{BodiesSome, BodiesWhole}
use Rattle.em_grammar.proofs.Nesting.{nesting}
use Rattle.em_grammar.proofs.ExprLaws.{bodies_read}
use Rattle.em_grammar.proofs.FirmKnot.{bodies_firm}

rows_some : {A : Type 0} (closed : A → Bool) (P : Pieces → Read A) (n : ℕ) (found : List A) (i : Pieces) → rows closed P n found i ≡ Absent → ⊥
unfolding rows
rows_some closed P zero found i is = cc
rows_some {A} closed P (suc n) found i is = go (P i) (λ a r. rows_some closed P n (found ++ a ∷ []) r) is
  where
    go : (m : Read A) → ((a : A) (r : Pieces) → rows closed P n (found ++ a ∷ []) r ≡ Absent → ⊥)
        → or_stay m (λ a r. if closed a then rows closed P n (found ++ a ∷ []) r else Found (found ++ a ∷ []) r) (Found found i) ≡ Absent → ⊥
    go (Found a r) none e = more (closed a) e
      where
        more : (b : Bool) → (if b then rows closed P n (found ++ a ∷ []) r else Found (found ++ a ∷ []) r) ≡ Absent → ⊥
        more true e = none a r e
        more false e = cc
    go Absent none e = cc
    go Deep none e = cc

pub bodies_some : BodiesSome
unfolding body
bodies_some n depth i is =
    go (rows row_closed (row (without_blocks n (opens_in n) depth (expr_by n (opens_in n) depth)) ((opens_in n).stmt depth) ((opens_in n).tail depth)) (length i) [] i)
    (rows_some row_closed (row (without_blocks n (opens_in n) depth (expr_by n (opens_in n) depth)) ((opens_in n).stmt depth) ((opens_in n).tail depth)) (length i) [] i) is
  where
    go : (m : Read (List Row)) → (m ≡ Absent → ⊥) → and_then m (λ t r. Found (body_of t) r) ≡ Absent → ⊥
    go (Found t r) none e = cc
    go Absent none e = none refl
    go Deep none e = cc

empty_left : (x y : Body) (r : Pieces) → Found x r ≡ Found y [] → r ≡ []
empty_left x y r is = cc

pub bodies_whole : BodiesWhole
bodies_whole n depth i x r is d y m eq =
    let deep = nesting (body_pieces y) in
    let a : ℕ = max n deep.0 in
    let b : ℕ = max depth d in
    let one : body_in a b i ≡ Found x r = subst (λ q. Steady q (body_in a b i)) is ((bodies_firm n a depth b (omega arith) (omega arith)).firm i) in
    let two : body_in a b i ≡ Found y []
    = subst (λ q. Steady q (body_in a b i)) (ap (λ k. body_in deep.0 d k) eq ∙ bodies_read deep.0 d d y (omega arith) deep.1 m) ((bodies_firm deep.0 a d b (omega arith) (omega arith)).firm i) in
    empty_left x y r (sym one ∙ two)
