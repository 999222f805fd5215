-- One step along a list, and one turn of a counted loop.
use Rattle.std.proofs.Common.{◌≡◌, ℕ, zero, suc, ◌+◌, ◌-◌, ◌<◌, ◌≤◌, List, [], ◌∷◌, length, drop, get_or, sym, ◌∙◌, ap, arith}

pub one_more : {X : Type 0} {x : X} (f : ℕ → X) (n at : ℕ) → at < n → x ≡ f (n - at) → x ≡ f (suc (n - (at + 1)))
one_more f n at below e = let turn : n - at ≡ suc (n - (at + 1)) = omega arith in e ∙ ap f turn

pub no_more : {X : Type 0} {x : X} (f : ℕ → X) (n at : ℕ) → n ≤ at → x ≡ f (n - at) → x ≡ f 0
no_more f n at done e = let none : n - at ≡ 0 = omega arith in e ∙ ap f none

pub deeper : {X : Type 0} (f : ℕ → X) (n : ℕ) → 0 < n → f n ≡ f (suc (n - 1))
deeper f n some = let e : n ≡ suc (n - 1) = omega arith in ap f e

pub plus_one : (n : ℕ) → suc n ≡ n + 1
plus_one n = omega arith

step : {A : Type 0} (xs : List A) (at : ℕ) (x : A) → at < length xs → x ≡ get_or xs at x → drop at xs ≡ x ∷ drop (suc at) xs
step [] at x below is = absurd (omega (arith, below))
step (y ∷ ys) zero x below is = ap (λ z. z ∷ ys) (sym is)
step (y ∷ ys) (suc at) x below is = step ys at x (omega (arith, below)) is

pub next_item : {A : Type 0} (xs : List A) (at : ℕ) (x : A) → at < length xs → x ≡ get_or xs at x → drop at xs ≡ x ∷ drop (at + 1) xs
next_item xs at x below is = step xs at x below is ∙ ap (λ n. x ∷ drop n xs) (plus_one at)

behind : {A : Type 0} (xs : List A) (at : ℕ) (x : A) (i : List A) → drop at xs ≡ x ∷ i → drop (suc at) xs ≡ i
behind [] zero x i is = cc
behind [] (suc at) x i is = cc
behind (y ∷ ys) zero x i is = cc
behind (y ∷ ys) (suc at) x i is = behind ys at x i is

-- behind the first of what is left
pub tail_of : {A : Type 0} (xs : List A) (at : ℕ) (x : A) (i : List A) → drop at xs ≡ x ∷ i → drop (at + 1) xs ≡ i
tail_of xs at x i is = ap (λ n. drop n xs) (sym (plus_one at)) ∙ behind xs at x i is
