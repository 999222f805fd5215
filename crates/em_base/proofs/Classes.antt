-- The class of a word by its row in the table of keywords.
use Rattle.std.proofs.Common.{◌≡◌, ℕ, zero, suc, ◌<◌, ◌≤◌, Bool, true, false, not, ◌&&◌, ◌||◌, ◌++◌, if◌then◌else◌, List, [], ◌∷◌, length, get_or, refl, sym, ap, ◌∙◌, arith, inl, inr}
use Rattle.std.proofs.lemmas.Bool.{and_parts, cases_Bool}
use Rattle.std.specs.List.{list_all}
use Rattle.std.specs.Prelude.{Contains}
use Rattle.std.specs.Str.{bytes_eq}
use Rattle.em_base.specs.declared.edition.Edition.{Edition}
use Rattle.em_base.specs.declared.edition.Edition.TheVariants.{E2015, E2018, E2021}
use Rattle.em_base.specs.declared.words.Class.{Class}
use Rattle.em_base.specs.declared.words.Class.TheVariants.{Ident, Keyword}
use Rattle.em_base.specs.declared.words.Word.{Word}
use Rattle.em_base.specs.Words.{always, from_2018, is_among, is_listed, is_listed_from, class_of, class_of_new, texts, year}
use Rattle.em_base.proofs.Tables.{among_larger, absent_among}

pub listed_at : (ws : List Word) (i : ℕ) (d : Word) → list_all is_listed ws ≡ true → i < length ws → is_listed (get_or ws i d) ≡ true
listed_at [] i d all within = absurd (omega arith)
listed_at (w ∷ ws) zero d all within = (and_parts (is_listed w) (list_all is_listed ws) all).0
listed_at (w ∷ ws) (suc i) d all within = listed_at ws i d (and_parts (is_listed w) (list_all is_listed ws) all).1 (omega arith)

-- ---- the tests of `class_of`

is_always : (a b : Bool) (new : Class) → a ≡ true → (if a then Keyword else if b then new else Ident) ≡ Keyword
is_always true b new h = refl
is_always false b new h = cc

is_new : (a b : Bool) (new : Class) → (not a && b) ≡ true → (if a then Keyword else if b then new else Ident) ≡ new
is_new true b new h = cc
is_new false true new h = refl
is_new false false new h = cc

is_neither : (a b : Bool) (new : Class) → (a || b) ≡ false → (if a then Keyword else if b then new else Ident) ≡ Ident
is_neither true b new h = cc
is_neither false true new h = cc
is_neither false false new h = refl

-- ---- a word of the table

reached : (since e : Edition) (t : List ℕ) → is_listed_from since t ≡ true → year since ≤ year e → class_of e t ≡ Keyword
unfolding class_of
reached E2015 e t listed at = is_always (is_among always t) (is_among from_2018 t) (class_of_new e t) listed
reached E2018 E2015 t listed at = absurd (omega arith)
reached E2018 E2018 t listed at = is_new (is_among always t) (is_among from_2018 t) Keyword listed
reached E2018 E2021 t listed at = is_new (is_among always t) (is_among from_2018 t) Keyword listed
reached E2021 e t listed at = cc

before : (since e : Edition) (t : List ℕ) → is_listed_from since t ≡ true → year e < year since → class_of e t ≡ class_of_new E2015 t
unfolding class_of
before E2015 E2015 t listed at = absurd (omega arith)
before E2015 E2018 t listed at = absurd (omega arith)
before E2015 E2021 t listed at = absurd (omega arith)
before E2018 E2015 t listed at = is_new (is_among always t) (is_among from_2018 t) (class_of_new E2015 t) listed
before E2018 E2018 t listed at = absurd (omega arith)
before E2018 E2021 t listed at = absurd (omega arith)
before E2021 e t listed at = cc

pub class_reached : (e : Edition) (w : Word) → is_listed w ≡ true → year w.since ≤ year e → class_of e w.text.now ≡ Keyword
class_reached e w listed at = reached w.since e w.text.now listed at

pub class_before : (e : Edition) (w : Word) → is_listed w ≡ true → year e < year w.since → class_of e w.text.now ≡ class_of_new E2015 w.text.now
class_before e w listed at = before w.since e w.text.now listed at

-- ---- a word that is not in the table

among_either : (xs ys : List (List ℕ)) (t : List ℕ) → is_among (xs ++ ys) t ≡ (is_among xs t || is_among ys t)
among_either [] ys t = refl
among_either (x ∷ xs) ys t = ap (λ b. bytes_eq x t || b) (among_either xs ys t) ∙ either (bytes_eq x t) (is_among xs t) (is_among ys t)
  where
    either : (a b c : Bool) → (a || (b || c)) ≡ ((a || b) || c)
    either true b c = refl
    either false b c = refl

pub class_absent : (e : Edition) (t : List ℕ) → is_among (always ++ from_2018) t ≡ false → class_of e t ≡ Ident
unfolding class_of
class_absent e t none = is_neither (is_among always t) (is_among from_2018 t) (class_of_new e t) (sym (among_either always from_2018 t) ∙ none)

pub class_unfound : (ws : List Word) (e : Edition) (t : List ℕ) → list_all (is_among (texts ws)) (always ++ from_2018) ≡ true → (Contains (texts ws) t → ⊥) → class_of e t ≡ Ident
class_unfound ws e t whole absent =
    elim (cases_Bool (is_among (always ++ from_2018) t)) [
      | inl has ↦ let found = among_larger (always ++ from_2018) (texts ws) t whole has in let none = absent_among (texts ws) t absent in cc
      | inr none ↦ class_absent e t none
    ]
