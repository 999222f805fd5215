-- A text found in a table of words, or not.
use Rattle.std.proofs.Common.{◌≡◌, ℕ, zero, suc, Bool, true, false, ◌||◌, List, [], ◌∷◌, refl, sym, ap, ◌∙◌, subst, arith, inl, inr, Option, Some, None, slice_get}
use Rattle.std.proofs.lemmas.Bool.{and_parts, cases_Bool}
use Rattle.std.specs.Str.{bytes_eq}
use Rattle.std.specs.Prelude.{Contains, IfSome, IfNone}
use Rattle.std.specs.Option.{is_some}
use Rattle.std.specs.List.{list_all}
use Rattle.std.specs.Cmp.Lexicographic.{bytes_decides}
use Rattle.em_base.specs.Words.{is_among}
use Rattle.em_tree.specs.Starts.{is_one_of}

same_is_eq : (t : List ℕ) → bytes_eq t t ≡ true
same_is_eq t = (bytes_decides t t).1 refl

or_right : (a b : Bool) → b ≡ true → (a || b) ≡ true
or_right true b h = refl
or_right false b h = h

found_among : (xs : List (List ℕ)) (i : ℕ) (t : List ℕ) → slice_get xs i ≡ Some t → is_among xs t ≡ true
found_among [] i t h = cc
found_among (x ∷ xs) zero t h = let same : x ≡ t = cc in rw (ap (λ y. bytes_eq y t) same ∙ same_is_eq t)
found_among (x ∷ xs) (suc i) t h = or_right (bytes_eq x t) (is_among xs t) (found_among xs i t h)

absent_among : (xs : List (List ℕ)) (t : List ℕ) → (Contains xs t → ⊥) → is_among xs t ≡ false
absent_among [] t h = refl
absent_among (x ∷ xs) t h =
    elim (cases_Bool (bytes_eq x t)) [
      | inl same ↦ absurd (h (0, omega arith, (bytes_decides x t).0 same))
      | inr other ↦ rw other (absent_among xs t (λ found. h (suc found.0, omega (arith, found.1), found.2)))
    ]

pub searched : (xs : List (List ℕ)) (t : List ℕ) (r : Option ℕ) → IfSome r (λ i. slice_get xs i ≡ Some t) → IfNone r (Contains xs t → ⊥) → is_some r ≡ is_among xs t
searched xs t None some none = sym (absent_among xs t none)
searched xs t (Some i) some none = sym (found_among xs i t some)

among_larger : (xs ys : List (List ℕ)) (t : List ℕ) → list_all (is_among ys) xs ≡ true → is_among xs t ≡ true → is_among ys t ≡ true
among_larger [] ys t all h = cc
among_larger (x ∷ xs) ys t all h =
    let (here, more) = and_parts (is_among ys x) (list_all (is_among ys) xs) all in
    elim (cases_Bool (bytes_eq x t)) [
      | inl same ↦ subst (λ y. is_among ys y ≡ true) ((bytes_decides x t).0 same) here
      | inr other ↦ among_larger xs ys t more (sym (ap (λ b. b || is_among xs t) other) ∙ h)
    ]

-- two lists with the same words
among_same : (xs ys : List (List ℕ)) (t : List ℕ) → list_all (is_among ys) xs ≡ true → list_all (is_among xs) ys ≡ true → is_among xs t ≡ is_among ys t
among_same xs ys t within whole =
    elim (cases_Bool (is_among xs t)) [
      | inl has ↦ has ∙ sym (among_larger xs ys t within has)
      | inr none ↦
          elim (cases_Bool (is_among ys t)) [
            | inl has ↦ let back = among_larger ys xs t whole has in cc
            | inr neither ↦ none ∙ sym neither
          ]
    ]

pub one_of_same : (xs ys : List (List ℕ)) (o : Option (List ℕ)) → list_all (is_among ys) xs ≡ true → list_all (is_among xs) ys ≡ true → is_one_of xs o ≡ is_one_of ys o
one_of_same xs ys None within whole = refl
one_of_same xs ys (Some t) within whole = among_same xs ys t within whole
