-- Searches of ascending tables.
use Rattle.std.proofs.Common.{◌≡◌, ℕ, zero, suc, ◌+◌, ◌<◌, ◌≤◌, Bool, true, false, ◌||◌, List, [], ◌∷◌, length, get_or, Option, Some, None, refl, sym, ap, ◌∙◌, subst, arith, inl, inr, slice_get}
use Rattle.std.proofs.lemmas.Grind.{common_steps}
use Rattle.std.proofs.lemmas.Bool.{and_parts, cases_lt, cases_Bool}
use Rattle.std.specs.Str.{bytes_eq}
use Rattle.std.specs.Prelude.{Contains, IfSome, IfNone}
use Rattle.std.specs.Option.{is_some}
use Rattle.std.specs.List.{list_all}
use Rattle.std.specs.Ordering.{is_lt, is_eq, nat_cmp}
use Rattle.std.specs.declared.cmp.Ordering.{Ordering}
use Rattle.std.specs.declared.cmp.Ordering.TheVariants.{Less, Equal, Greater}
use Rattle.std.specs.Cmp.Lexicographic.{slice_cmp, texts_ties, bytes_decides, nat_list_cmp_total}
use Rattle.em_base.specs.declared.words.Word.{Word}
use Rattle.em_base.specs.Words.{texts, is_ascending, is_among}

-- byte by byte
abbrev pub order : List ℕ → List ℕ → Ordering
order = slice_cmp nat_cmp

pub same_text : (xs ys : List ℕ) → order xs ys ≡ Equal → xs ≡ ys
same_text xs ys e = (bytes_decides xs ys).0 (texts_ties xs ys ∙ ap is_eq e)

nat_equal : (n : ℕ) → nat_cmp n n ≡ Equal
nat_equal n = grind (arith, common_steps)

pub text_equal : (xs : List ℕ) → order xs xs ≡ Equal
text_equal [] = refl
text_equal (x ∷ xs) = rw (nat_equal x) (text_equal xs)

is_less : (o : Ordering) → is_lt o ≡ true → o ≡ Less
is_less Less h = refl
is_less Equal h = cc
is_less Greater h = cc

-- the first of an ascending table is below each later one
below_later : (x : List ℕ) (xs : List (List ℕ)) (j : ℕ) → is_ascending (x ∷ xs) ≡ true → j < length xs → order x (get_or xs j []) ≡ Less
below_later x [] j up h = absurd (omega arith)
below_later x (y ∷ ys) zero up h = is_less (order x y) (and_parts (is_lt (order x y)) (is_ascending (y ∷ ys)) up).0
below_later x (y ∷ ys) (suc j) up h =
    let (here, more) = and_parts (is_lt (order x y)) (is_ascending (y ∷ ys)) up in
    nat_list_cmp_total.trans x y (get_or ys j []) (is_less (order x y) here) (below_later y ys j more (omega arith))

tail_ascends : (x : List ℕ) (xs : List (List ℕ)) → is_ascending (x ∷ xs) ≡ true → is_ascending xs ≡ true
tail_ascends x [] up = refl
tail_ascends x (y ∷ ys) up = (and_parts (is_lt (order x y)) (is_ascending (y ∷ ys)) up).1

pub ascending_far : (xs : List (List ℕ)) (i j : ℕ) → is_ascending xs ≡ true → i < j → j < length xs → order (get_or xs i []) (get_or xs j []) ≡ Less
ascending_far [] i j up less within = absurd (omega arith)
ascending_far (x ∷ xs) zero zero up less within = absurd (omega arith)
ascending_far (x ∷ xs) zero (suc j) up less within = below_later x xs j up (omega arith)
ascending_far (x ∷ xs) (suc i) zero up less within = absurd (omega arith)
ascending_far (x ∷ xs) (suc i) (suc j) up less within = ascending_far xs i j (tail_ascends x xs up) (omega arith) (omega arith)

-- what a search between low and high knows
pub record Between (xs : List (List ℕ)) (t : List ℕ) (low high : ℕ) : Type 0 where
  pub ordered : low ≤ high
  pub within : high ≤ length xs
  pub less : (k : ℕ) → k < low → order (get_or xs k []) t ≡ Less
  pub greater : (k : ℕ) → high ≤ k → k < length xs → order (get_or xs k []) t ≡ Greater

-- a text below one that is less is less
pub less_up_to : (xs : List (List ℕ)) (t : List ℕ) (m : ℕ) → is_ascending xs ≡ true → m < length xs → order (get_or xs m []) t ≡ Less → (k : ℕ) → k < m + 1 → order (get_or xs k []) t ≡ Less
less_up_to xs t m up within less k h =
    elim (cases_lt k m) [
      | inl below ↦ nat_list_cmp_total.trans (get_or xs k []) (get_or xs m []) t (ascending_far xs k m up below within) less
      | inr above ↦ let same : m ≡ k = omega arith in subst (λ j. order (get_or xs j []) t ≡ Less) same less
    ]

flipped : (x y : List ℕ) → order x y ≡ Greater → order y x ≡ Less
flipped x y h = rw (nat_list_cmp_total.antisymm y x, h)

flopped : (x y : List ℕ) → order y x ≡ Less → order x y ≡ Greater
flopped x y h = rw (nat_list_cmp_total.antisymm x y, h)

pub greater_from : (xs : List (List ℕ)) (t : List ℕ) (m : ℕ) → is_ascending xs ≡ true → order (get_or xs m []) t ≡ Greater → (k : ℕ) → m ≤ k → k < length xs → order (get_or xs k []) t ≡ Greater
greater_from xs t m up greater k h within =
    elim (cases_lt m k) [
      | inl above ↦ flopped (get_or xs k []) t (nat_list_cmp_total.trans t (get_or xs m []) (get_or xs k []) (flipped (get_or xs m []) t greater) (ascending_far xs m k up above within))
      | inr below ↦ let same : m ≡ k = omega arith in subst (λ j. order (get_or xs j []) t ≡ Greater) same greater
    ]

-- where nothing is left between them, the text is not there
pub not_there : (xs : List (List ℕ)) (t : List ℕ) (low high : ℕ) → Between xs t low high → high ≤ low → (k : ℕ) → k < length xs → get_or xs k t ≡ t → ⊥
not_there xs t low high b none k within is =
    let at = get_same xs k t within is in
    elim (cases_lt k low) [
      | inl below ↦ let less = b.less k below in let equal = ap (λ x. order x t) at ∙ text_equal t in cc
      | inr above ↦ let greater = b.greater k (omega (arith, b.ordered)) within in let equal = ap (λ x. order x t) at ∙ text_equal t in cc
    ]
  where
    get_same : (xs : List (List ℕ)) (k : ℕ) (t : List ℕ) → k < length xs → get_or xs k t ≡ t → get_or xs k [] ≡ t
    get_same [] k t within is = absurd (omega arith)
    get_same (x ∷ xs) zero t within is = is
    get_same (x ∷ xs) (suc k) t within is = get_same xs k t (omega arith) is

pub there : (xs : List (List ℕ)) (t : List ℕ) (k : ℕ) → k < length xs → order (get_or xs k []) t ≡ Equal → slice_get xs k ≡ Some t
there [] t k within is = absurd (omega arith)
there (x ∷ xs) t zero within is = ap (λ y. Some y) (same_text x t is)
there (x ∷ xs) t (suc k) within is = there xs t k (omega arith) is

pub length-texts : (ws : List Word) → length (texts ws) ≡ length ws
length-texts [] = refl
length-texts (w ∷ ws) = ap suc (length-texts ws)

same_is_eq : (t : List ℕ) → bytes_eq t t ≡ true
same_is_eq t = (bytes_decides t t).1 refl

pub found_among : (xs : List (List ℕ)) (i : ℕ) (t : List ℕ) → slice_get xs i ≡ Some t → is_among xs t ≡ true
found_among [] i t h = cc
found_among (x ∷ xs) zero t h = let same : x ≡ t = cc in rw (ap (λ y. bytes_eq y t) same ∙ same_is_eq t)
found_among (x ∷ xs) (suc i) t h = or_right (bytes_eq x t) (is_among xs t) (found_among xs i t h)
  where
    or_right : (a b : Bool) → b ≡ true → (a || b) ≡ true
    or_right true b h = refl
    or_right false b h = h

pub absent_among : (xs : List (List ℕ)) (t : List ℕ) → (Contains xs t → ⊥) → is_among xs t ≡ false
absent_among [] t h = refl
absent_among (x ∷ xs) t h =
    elim (cases_Bool (bytes_eq x t)) [
      | inl same ↦ absurd (h (0, omega arith, (bytes_decides x t).0 same))
      | inr other ↦ rw other (absent_among xs t (λ found. h (suc found.0, omega (arith, found.1), found.2)))
    ]

-- where each of a list is among others, so is what the list has
pub among_larger : (xs ys : List (List ℕ)) (t : List ℕ) → list_all (is_among ys) xs ≡ true → is_among xs t ≡ true → is_among ys t ≡ true
among_larger [] ys t all h = cc
among_larger (x ∷ xs) ys t all h =
    let (here, more) = and_parts (is_among ys x) (list_all (is_among ys) xs) all in
    elim (cases_Bool (bytes_eq x t)) [
      | inl same ↦ subst (λ y. is_among ys y ≡ true) ((bytes_decides x t).0 same) here
      | inr other ↦ among_larger xs ys t more (sym (ap (λ b. b || is_among xs t) other) ∙ h)
    ]

pub among_same : (xs ys : List (List ℕ)) (t : List ℕ) → list_all (is_among ys) xs ≡ true → list_all (is_among xs) ys ≡ true → is_among xs t ≡ is_among ys t
among_same xs ys t within whole =
    elim (cases_Bool (is_among xs t)) [
      | inl has ↦ has ∙ sym (among_larger xs ys t within has)
      | inr none ↦
          elim (cases_Bool (is_among ys t)) [
            | inl has ↦ among_larger ys xs t whole has ∙ sym has
            | inr also ↦ none ∙ sym also
          ]
    ]

pub searched : (xs : List (List ℕ)) (t : List ℕ) (found : Option ℕ) → IfSome found (λ i. slice_get xs i ≡ Some t) → IfNone found (Contains xs t → ⊥) → is_some found ≡ is_among xs t
searched xs t (Some i) at absent = sym (found_among xs i t at)
searched xs t None at absent = sym (absent_among xs t absent)

-- a place that is found lies within the table
pub found_within : (ws : List Word) (i : ℕ) (t : List ℕ) → slice_get (texts ws) i ≡ Some t → i < length ws
found_within [] i t h = cc
found_within (w ∷ ws) zero t h = omega arith
found_within (w ∷ ws) (suc i) t h = let rest = found_within ws i t h in omega (arith, rest)

pub text_found : (ws : List Word) (i : ℕ) (t : List ℕ) (d : Word) → slice_get (texts ws) i ≡ Some t → (get_or ws i d).text.now ≡ t
text_found [] i t d h = cc
text_found (w ∷ ws) zero t d h = cc
text_found (w ∷ ws) (suc i) t d h = text_found ws i t d h
