-- Elements and pairs of elements of a list, by index.
use Rattle.std.proofs.Common.{◌≡◌, ◌↔◌, Bool, true, false, ℕ, zero, suc, ◌+◌, ◌-◌, ◌<◌, List, [], ◌∷◌, length, drop, refl, ◌∙◌, ap, sym, subst, arith}
use Rattle.std.specs.Prelude.{slice_index_or, All, AllPairs, Any, IsTrue}
use Rattle.std.proofs.lemmas.List.{get_or-drop, length-drop}
use Rattle.em_core.specs.declared.function.Capture.{Capture}
use Rattle.em_core.specs.declared.methods.Impl.{Impl}
use Rattle.em_core.specs.Naming.{are_apart, PartsApart}
use Rattle.em_core.specs.Typed.{SameImpl, OneImpl}

module _ {X : Type 0} (P : X → Type 0) (xs : List X) where
  pub any_at : (k : ℕ) (x : X) → k < length xs → slice_index_or xs k x ≡ x → P x → Any P xs
  any_at k x lt q h = (k, x, lt, q, h)

  pub none_any : ((k : ℕ) (d : X) → k < length xs → P (slice_index_or xs k d) → ⊥) → Any P xs → ⊥
  none_any h any = h any.0 any.1 any.2 (subst P (sym any.3) any.4)

behind : {X : Type 0} (xs : List X) (n k : ℕ) → n + k < length xs → k < length (drop n xs)
behind xs n k lt = let e : length (drop n xs) ≡ length xs - n = length-drop n xs in grind arith

before_behind : {X : Type 0} (xs : List X) (n k : ℕ) → k < length (drop n xs) → n + k < length xs
before_behind xs n k lt = let e : length (drop n xs) ≡ length xs - n = length-drop n xs in grind arith

pub any_default : {X : Type 0} (xs : List X) (k : ℕ) (d e : X) → k < length xs → slice_index_or xs k d ≡ slice_index_or xs k e
any_default [] k d e lt = absurd (grind arith)
any_default (x ∷ xs) zero d e lt = refl
any_default (x ∷ xs) (suc k) d e lt = any_default xs k d e (grind arith)

-- an element against all later ones
module _ {X : Type 0} (R : X → X → Type 0) (xs : List X) where
  pub pairs_in : AllPairs R xs → (i n : ℕ) (x : X) → i < length xs → slice_index_or xs i x ≡ x → n ≡ i + 1 → All (λ y. R x y) (drop n xs)
  pairs_in h i n x lt q m k d le =
      let le' : n + k < length xs = before_behind xs n k le in
      let r : R (slice_index_or xs i d) (slice_index_or xs (n + k) d) = h i (n + k) d (grind arith) le' in
      let e : slice_index_or xs i d ≡ x = any_default xs i d x lt ∙ q in
      subst (λ y. R x y) (sym (get_or-drop n xs k d)) (subst (λ y. R y (slice_index_or xs (n + k) d)) e r)

  pub pairs_of : ((i : ℕ) (d : X) → i < length xs → All (λ y. R (slice_index_or xs i d) y) (drop (i + 1) xs)) → AllPairs R xs
  pairs_of h i j d lt le =
      let e : i + 1 + (j - (i + 1)) ≡ j = grind arith in
      let r : R (slice_index_or xs i d) (slice_index_or (drop (i + 1) xs) (j - (i + 1)) d) = h i d (grind arith) (j - (i + 1)) d (behind xs (i + 1) (j - (i + 1)) (subst (λ z. z < length xs) (sym e) le)) in
      subst (λ y. R (slice_index_or xs i d) y) (get_or-drop (i + 1) xs (j - (i + 1)) d ∙ ap (λ z. slice_index_or xs z d) e) r

-- ---- captured parts

pub parts_apart_all : (cs : List Capture) → ((i : ℕ) (d : Capture) → i < length cs → All (λ y. IsTrue (are_apart (slice_index_or cs i d).path y.path)) (drop (i + 1) cs)) → PartsApart cs
unfolding PartsApart
parts_apart_all cs h = pairs_of (λ a b. IsTrue (are_apart a.path b.path)) cs h

pub parts_meet : (cs rest : List Capture) (i n : ℕ) (x : Capture) (b : Bool) → i < length cs → slice_index_or cs i x ≡ x → rest ≡ drop n cs → n ≡ i + 1 → (IsTrue b ↔ All (λ y. IsTrue (are_apart x.path y.path)) rest) → b ≡ false
    → (false ≡ true → PartsApart cs) × (PartsApart cs → false ≡ true)
unfolding PartsApart
parts_meet cs rest i n x b lt q r m t failed = (λ e. absurd cc, λ h. sym failed ∙ t.1 (subst (λ z. All (λ y. IsTrue (are_apart x.path y.path)) z) (sym r) (pairs_in (λ a b. IsTrue (are_apart a.path b.path)) cs h i n x lt q m)))

-- ---- impls

pub one_impl_all : (xs : List Impl) → ((i : ℕ) (d : Impl) → i < length xs → All (λ o. SameImpl (slice_index_or xs i d) o → ⊥) (drop (i + 1) xs)) → OneImpl xs
unfolding OneImpl
one_impl_all xs h = pairs_of (λ a b. SameImpl a b → ⊥) xs h

pub same_impls : (xs rest : List Impl) (i n : ℕ) (x : Impl) (b : Bool) → i < length xs → slice_index_or xs i x ≡ x → rest ≡ drop n xs → n ≡ i + 1 → (IsTrue b ↔ All (λ o. SameImpl x o → ⊥) rest) → b ≡ false
    → (false ≡ true → OneImpl xs) × (OneImpl xs → false ≡ true)
unfolding OneImpl
same_impls xs rest i n x b lt q r m t failed = (λ e. absurd cc, λ h. sym failed ∙ t.1 (subst (λ z. All (λ o. SameImpl x o → ⊥) z) (sym r) (pairs_in (λ a b. SameImpl a b → ⊥) xs h i n x lt q m)))
