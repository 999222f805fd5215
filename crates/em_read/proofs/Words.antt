-- Texts among others, one turn of a loop.
use Rattle.std.proofs.Common.{◌≡◌, ℕ, zero, suc, ◌+◌, ◌<◌, Bool, ◌||◌, List, [], ◌∷◌, length, map, drop, get_or, refl, sym, ◌∙◌, ap, arith}
use Rattle.std.specs.Str.{bytes_eq}
use Rattle.em_base.specs.Words.{is_among}

step : {A : Type 0} (xs : List A) (at : ℕ) (x : A) → at < length xs → x ≡ get_or xs at x → drop at xs ≡ x ∷ drop (suc at) xs
step [] at x below is = absurd (omega (arith, below))
step (y ∷ ys) zero x below is = ap (λ z. z ∷ ys) (sym is)
step (y ∷ ys) (suc at) x below is = step ys at x (omega (arith, below)) is

next_item : {A : Type 0} (xs : List A) (at : ℕ) (x : A) → at < length xs → x ≡ get_or xs at x → drop at xs ≡ x ∷ drop (at + 1) xs
next_item xs at x below is = let next : suc at ≡ at + 1 = omega arith in step xs at x below is ∙ ap (λ n. x ∷ drop n xs) next

any_default : {A : Type 0} (xs : List A) (at : ℕ) (d e : A) → at < length xs → get_or xs at d ≡ get_or xs at e
any_default [] at d e below = absurd (omega (arith, below))
any_default (x ∷ xs) zero d e below = refl
any_default (x ∷ xs) (suc at) d e below = any_default xs at d e (omega (arith, below))

pub among_next : {A : Type 0} (f : A → List ℕ) (xs : List A) (at : ℕ) (d : A) (text : List ℕ) (found : Bool) → at < length xs → bytes_eq (f (get_or xs at d)) text ≡ found
    → is_among (map f (drop at xs)) text ≡ (found || is_among (map f (drop (at + 1) xs)) text)
among_next f xs at d text found below same =
    ap (λ l. is_among (map f l) text) (next_item xs at (get_or xs at d) below (any_default xs at d (get_or xs at d) below))
    ∙ ap (λ b. b || is_among (map f (drop (at + 1) xs)) text) same
