-- What holds of each two elements of a list, also in another order.
use Rattle.std.proofs.Common.{inl, inr, ◌≡◌, ◌≢◌, ◌⊎◌, ℕ, suc, ◌<◌, List, [], ◌∷◌, ◌++◌, map, length, get_or, refl, ap, ◌∙◌, arith}
use Rattle.std.specs.Prelude.{All, AllPairs, swap}
use Rattle.std.specs.List.Sorted.{IsPermutation}
use Rattle.std.proofs.lemmas.Bool.{cases_eq, cases_order}
use Rattle.std.proofs.lemmas.List.{get_or-map, length-map}
use Rattle.std.proofs.lemmas.List.Elements.{All-append, All-head, All-tail}
use Rattle.std.proofs.lemmas.List.Kept.{AllPairs-cons}
use Rattle.std.proofs.lemmas.List.Edits.{Swapped, swapped_from_swap, length-swap}
use Rattle.std.proofs.lemmas.List.Sorted.{IsPermutation-keeps}

pub AllPairs-head : {X : Type 0} (R : X → X → Type 0) (x : X) (xs : List X) → AllPairs R (x ∷ xs) → All (R x) xs
AllPairs-head R x xs h k d lt = h 0 (suc k) d (omega arith) (omega arith)

pub AllPairs-tail : {X : Type 0} (R : X → X → Type 0) (x : X) (xs : List X) → AllPairs R (x ∷ xs) → AllPairs R xs
AllPairs-tail R x xs h i j d lt l = h (suc i) (suc j) d (omega arith) (omega arith)

-- each two elements at different places, in either order
abbrev pub EachTwo : {X : Type 0} → (X → X → Type 0) → List X → Type 0
EachTwo {X} R xs = (i j : ℕ) (d : X) → (i ≡ j → ⊥) → i < length xs → j < length xs → R (get_or xs i d) (get_or xs j d)

pub each_two : {X : Type 0} (R : X → X → Type 0) → ((x y : X) → R x y → R y x) → (xs : List X) → AllPairs R xs → EachTwo R xs
each_two R turn xs h i j d ne i_in j_in = elim (cases_order i j) [
  | inl e ↦ absurd (ne e)
  | inr o ↦ elim o [
    | inl lt ↦ h i j d lt j_in
    | inr gt ↦ turn (get_or xs j d) (get_or xs i d) (h j i d gt i_in)
  ]
]

-- where the element at a place stood before
record CameFrom (a b m k : ℕ) : Type 0 where
  place : ((m ≡ a) × (k ≡ b)) ⊎ (((m ≡ b) × (k ≡ a)) ⊎ ((m ≢ a) × (m ≢ b) × (k ≡ m)))

came_from : {X : Type 0} (f g : ℕ → X) (a b : ℕ) → Swapped f g a b → (m : ℕ) → (k : ℕ) × (g m ≡ f k) × CameFrom a b m k
came_from f g a b s m = elim (cases_eq m a) [
  | inl at_a ↦ (b, ap g at_a ∙ s.0, record { place = inl (at_a, refl) })
  | inr not_a ↦ elim (cases_eq m b) [
    | inl at_b ↦ (a, ap g at_b ∙ s.1, record { place = inr (inl (at_b, refl)) })
    | inr not_b ↦ (m, s.2 m not_a not_b, record { place = inr (inr (not_a, not_b, refl)) })
  ]
]

places_differ : (a b i j k l : ℕ) → (i ≡ j → ⊥) → CameFrom a b i k → CameFrom a b j l → k ≡ l → ⊥
places_differ a b i j k l ne p q e = let one = p.place in let other = q.place in omega (arith, ne, one, other)

place_within : (n a b i k : ℕ) → a < n → b < n → i < n → CameFrom a b i k → k < n
place_within n a b i k a_in b_in i_in p = let one = p.place in omega (arith, one)

-- two of the list with its places a and b exchanged
two_swapped : {X : Type 0} (R : X → X → Type 0) (f g : ℕ → X) (n a b : ℕ) → ((i j : ℕ) → (i ≡ j → ⊥) → i < n → j < n → R (f i) (f j)) → a < n → b < n → Swapped f g a b → (i j : ℕ) → (i ≡ j → ⊥) → i < n → j < n → R (g i) (g j)
two_swapped R f g n a b h a_in b_in s i j ne i_in j_in =
    let p = came_from f g a b s i in
    let q = came_from f g a b s j in
    let r : R (f p.0) (f q.0) = h p.0 q.0 (places_differ a b i j p.0 q.0 ne p.2 q.2) (place_within n a b i p.0 a_in b_in i_in p.2) (place_within n a b j q.0 a_in b_in j_in q.2) in
    rw (p.1, q.1) r

pub AllPairs-permutation : {X : Type 0} (R : X → X → Type 0) → ((x y : X) → R x y → R y x) → (xs ys : List X) → IsPermutation xs ys → AllPairs R xs → AllPairs R ys
AllPairs-permutation R turn xs ys same h = IsPermutation-keeps xs (λ l. AllPairs R l) h (λ l a b a_in b_in p i j d lt l'.
    two_swapped R (λ k. get_or l k d) (λ k. get_or (swap l a b) k d) (length l) a b (λ i j ne i_in j_in. each_two R turn l p i j d ne i_in j_in) a_in b_in (swapped_from_swap l (swap l a b) a b d a_in b_in refl) i j (λ e. omega arith) (omega (arith, length-swap l a b)) (omega (arith, length-swap l a b))) ys same

-- R holds of what a function makes of the elements
pub AllPairs-map : {X Y : Type 0} (R : Y → Y → Type 0) (f : X → Y) (xs : List X) → AllPairs (λ x y. R (f x) (f y)) xs → AllPairs R (map f xs)
AllPairs-map R f [] h = λ i j d lt l. absurd (omega arith)
AllPairs-map R f (x ∷ xs) h = λ i j d lt l.
    let j_in : j < length (x ∷ xs) = omega (arith, length-map (x ∷ xs) f) in
    let i_in : i < length (x ∷ xs) = omega arith in
    rw (get_or-map f (x ∷ xs) i x d i_in, get_or-map f (x ∷ xs) j x d j_in) (h i j x lt j_in)

-- each two of two lists
pub AllPairs-joined : {X : Type 0} (R : X → X → Type 0) → ((x y : X) → R x y → R y x) → (xs ys : List X) → AllPairs R xs → AllPairs R ys → All (λ y. All (R y) xs) ys → AllPairs R (xs ++ ys)
AllPairs-joined R turn [] ys ones others across = others
AllPairs-joined R turn (x ∷ xs) ys ones others across =
    AllPairs-cons R x (xs ++ ys)
    (All-append (R x) xs ys (AllPairs-head R x xs ones) (λ k d lt. turn (get_or ys k d) x (All-head (R (get_or ys k d)) x xs (across k d lt))))
    (AllPairs-joined R turn xs ys (AllPairs-tail R x xs ones) others (λ k d lt. All-tail (R (get_or ys k d)) x xs (across k d lt)))
