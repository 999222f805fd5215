-- The words that tokens begin with.
use Rattle.std.proofs.Common.{◌≡◌, ◌<◌, ◌≤◌, ℕ, suc, ◌+◌, Bool, true, false, cond, not, List, [], ◌∷◌, length, map, drop, get_or, refl, sym, ap, ◌∙◌, arith, Bor}
use Rattle.std.specs.Prelude.{Some, None}
use Rattle.std.specs.Str.{bytes_eq}
use Rattle.std.proofs.lemmas.List.{at_drop_more, at_drop_all, length-drop}
use Rattle.em_base.specs.declared.token.Token.{Token}
use Rattle.em_first.specs.Form.{said}
use Rattle.em_first.specs.Reading.{behind}

-- the words from an index on
abbrev pub left : List (Bor (List ℕ)) → ℕ → List (List ℕ)
left words i = map (λ w. w.now) (drop i words)

empty : (ts : List Token) → length ts ≡ 0 → ts ≡ []
empty [] h = refl
empty (t ∷ ts) h = absurd (let k : suc (length ts) ≡ 0 = h in omega (arith, k))

-- the tokens end before the words do
pub ran_out : (words : List (Bor (List ℕ))) (i : ℕ) (ts : List Token) → i < length words → length ts ≡ 0 → behind (left words i) ts ≡ None
ran_out words i ts h e = ap (λ (x : List Token). behind (left words i) x) (empty ts e) ∙ here (drop i words) (let l = length-drop i words in omega (arith, l, h))
  where
    here : (ds : List (Bor (List ℕ))) → 0 < length ds → behind (map (λ w. w.now) ds) [] ≡ None
    here [] k = absurd (omega (arith, k))
    here (d ∷ ds) k = refl

-- a word and a token side by side
beside : (words : List (Bor (List ℕ))) (i : ℕ) (d : Bor (List ℕ)) (ts rest : List Token) (t : Token) → i < length words → ts ≡ t ∷ rest
    → behind (left words i) ts ≡ cond (bytes_eq (said t.kind t.text) (get_or words i d).now) (behind (left words (i + 1)) rest) None
beside words i d ts rest t h e = at_drop_more (λ (ds : List (Bor (List ℕ))). behind (map (λ w. w.now) ds) ts) words i d h ∙ ap (λ (x : List Token). behind ((get_or words i d).now ∷ left words (i + 1)) x) e

not_is : (a : Bool) → true ≡ not a → a ≡ false
not_is true h = h
not_is false h = refl

is_not : (a : Bool) → false ≡ not a → a ≡ true
is_not true h = refl
is_not false h = h

pub differs : (words : List (Bor (List ℕ))) (i : ℕ) (d : Bor (List ℕ)) (ts rest : List Token) (t : Token) (s : List ℕ) → i < length words → ts ≡ t ∷ rest → s ≡ said t.kind t.text → true ≡ not (bytes_eq s (get_or words i d).now)
    → behind (left words i) ts ≡ None
differs words i d ts rest t s h e n f = beside words i d ts rest t h e ∙ ap (λ c. cond c (behind (left words (i + 1)) rest) None) (ap (λ (x : List ℕ). bytes_eq x (get_or words i d).now) (sym n) ∙ not_is _ f)

pub agrees : (words : List (Bor (List ℕ))) (i : ℕ) (d : Bor (List ℕ)) (ts rest : List Token) (t : Token) (s : List ℕ) → i < length words → ts ≡ t ∷ rest → s ≡ said t.kind t.text → false ≡ not (bytes_eq s (get_or words i d).now)
    → behind (left words i) ts ≡ behind (left words (i + 1)) rest
agrees words i d ts rest t s h e n f = beside words i d ts rest t h e ∙ ap (λ c. cond c (behind (left words (i + 1)) rest) None) (ap (λ (x : List ℕ). bytes_eq x (get_or words i d).now) (sym n) ∙ is_not _ f)

-- no word is left
pub all_found : (words : List (Bor (List ℕ))) (i : ℕ) (ts : List Token) → length words ≤ i → behind (left words i) ts ≡ Some ts
all_found words i ts h = at_drop_all (λ (ds : List (Bor (List ℕ))). behind (map (λ w. w.now) ds) ts) words i h
