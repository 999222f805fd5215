-- What is within the limit isn't too deep.
use Rattle.std.proofs.Common.{◌≡◌, inl, inr, ℕ, ◌≤◌, sym, ◌∙◌, ap, arith}
use Rattle.em_tree.specs.Starts.{Pieces}
use Rattle.em_grammar.specs.Reader.{Read, Found, Absent}
use Rattle.em_parse.specs.Calls.{most, TooDeep}

pub same_head : {A : Type 0} (x y : A) (r s : Pieces) → Found x r ≡ Found y s → x ≡ y
same_head x y r s is = cc

pub not_too_deep : {T : Type 0} (nesting : T → ℕ) (out : Read T) (x : T) (r : Pieces) → out ≡ Found x r → nesting x ≤ most → TooDeep nesting out → ⊥
not_too_deep nesting out x r is fits (inl deep) = cc
not_too_deep nesting out x r is fits (inr h) =
    let same : h.0 ≡ x = same_head h.0 x h.1 r (sym h.2 ∙ is) in
    absurd (omega (arith, fits, h.3, ap (λ k. nesting k) same))

pub absent_not_deep : {T : Type 0} (nesting : T → ℕ) (out : Read T) → out ≡ Absent → TooDeep nesting out → ⊥
absent_not_deep nesting out is (inl deep) = cc
absent_not_deep nesting out is (inr h) = let found = h.2 in cc
