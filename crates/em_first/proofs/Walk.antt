-- The walk of a reader over statements.
use Rattle.std.proofs.Common.{◌≡◌, ◌<◌, ◌≤◌, ◌↔◌, IsTrue, ℕ, suc, Bool, true, false, ◌||◌, List, [], ◌∷◌, length, drop, get_or, codes, refl, subst, sym, ap, ◌∙◌, arith, Bor}
use Rattle.std.specs.Prelude.{Option, Some, None, ◌==◌}
use Rattle.std.specs.BTreeMap.{is_at}
use Rattle.std.specs.BTreeSet.{insert_key}
use Rattle.std.specs.Cmp.Lexicographic.{slice_cmp}
use Rattle.std.specs.List.{list_any}
use Rattle.std.specs.Option.{option_map_or}
use Rattle.std.specs.Ordering.{nat_cmp, is_eq, match_ordering}
use Rattle.std.specs.declared.cmp.Ordering.{Ordering}
use Rattle.std.specs.declared.cmp.Ordering.TheVariants.{Less, Equal, Greater}
use Rattle.std.specs.Str.{bytes_eq}
use Rattle.std.proofs.lemmas.Bool.Decides.{Decides-eqb}
use Rattle.std.proofs.lemmas.List.{length-map}
use Rattle.std.proofs.lemmas.Map.Text.{is_eq-slice_cmp}
use Rattle.std.proofs.lemmas.Slice.Eq.{bytes_eq-Decides}
use Rattle.em_base.specs.declared.edition.Edition.TheVariants.{E2015}
use Rattle.em_base.specs.declared.token.Token.{Token}
use Rattle.em_first.specs.Form.{Begins, LetFirst, PrintFirst, Statement, Let, Print, Body, latest}
use Rattle.em_first.specs.Reading.{behind, let_first, print_first, is_end, Reads}
use Rattle.em_first.proofs.One.{both, let_or_end, print_or_end, let_or_print, let_one, print_one}
use Rattle.em_first.proofs.Taken.{bytes_eq_sym}
use Rattle.em_first.proofs.Reading.{none_some, behind_is, behind_of, let_is, let_of, print_is, print_of, found, bound}

-- a set of texts has a text
abbrev pub has : List (Bor (List ℕ)) → List ℕ → Bool
has keys q = list_any (is_at (λ k. slice_cmp nat_cmp q k.now)) keys

tests_same : (q : List ℕ) (k : Bor (List ℕ)) → is_at (λ (x : Bor (List ℕ)). slice_cmp nat_cmp q x.now) k ≡ bytes_eq k.now q
tests_same q k = is_eq-slice_cmp q k.now ∙ bytes_eq_sym q k.now

swap : (a b c : Bool) → (a || (b || c)) ≡ (b || (a || c))
swap true true c = refl
swap true false c = refl
swap false true c = refl
swap false false c = refl

doubled : (a c : Bool) → (a || c) ≡ (a || (a || c))
doubled true c = refl
doubled false c = refl

has_insert : (keys : List (Bor (List ℕ))) (k : Bor (List ℕ)) (q : List ℕ) → has (insert_key (λ x y. slice_cmp nat_cmp x.now y.now) keys k) q ≡ (bytes_eq k.now q || has keys q)
has_insert [] k q = ap (λ c. c || false) (tests_same q k)
has_insert (x ∷ xs) k q = here (slice_cmp nat_cmp k.now x.now) (is_eq-slice_cmp k.now x.now) (has_insert xs k q)
  where
    here : (o : Ordering) → is_eq o ≡ bytes_eq k.now x.now → has (insert_key (λ x y. slice_cmp nat_cmp x.now y.now) xs k) q ≡ (bytes_eq k.now q || has xs q)
        → has (match_ordering o (k ∷ x ∷ xs) (x ∷ xs) (x ∷ insert_key (λ x y. slice_cmp nat_cmp x.now y.now) xs k)) q ≡ (bytes_eq k.now q || has (x ∷ xs) q)
    here Less e g = ap (λ c. c || has (x ∷ xs) q) (tests_same q k)
    here Equal e g =
        let same : k.now ≡ x.now = (bytes_eq-Decides k.now x.now).0 (sym e) in
        doubled (is_at (λ (y : Bor (List ℕ)). slice_cmp nat_cmp q y.now) x) (has xs q) ∙ ap (λ c. c || has (x ∷ xs) q) (tests_same q x ∙ ap (λ (z : List ℕ). bytes_eq z q) (sym same))
    here Greater e g = ap (λ c. is_at (λ (y : Bor (List ℕ)). slice_cmp nat_cmp q y.now) x || c) g ∙ swap (is_at (λ (y : Bor (List ℕ)). slice_cmp nat_cmp q y.now) x) (bytes_eq k.now q) (has xs q)

-- an equal text is asked for
pub asked : (keys : List (Bor (List ℕ))) (s name : List ℕ) (b : Bool) → s ≡ name → has keys s ≡ b → has keys name ≡ b
asked keys s name b e h = ap (has keys) (sym e) ∙ h

-- the set has the names of the `let`s, and as much can be read from here on as from the start
pub record Walked (keys : List (Bor (List ℕ))) (all rest : List Token) : Type 0 where
  pub names : List (List ℕ)
  pub known : (q : List ℕ) → has keys q ≡ list_any (λ b. bytes_eq b q) names
  pub onward : Reads names rest → Reads [] all
  pub back : Reads [] all → Reads names rest

pub started : (keys : List (Bor (List ℕ))) (all : List Token) → keys ≡ [] → Walked keys all all
started keys all e = record { names = []; known = λ q. ap (λ ks. has ks q) e; onward = λ r. r; back = λ r. r }

let_back : (names : List (List ℕ)) (name : List ℕ) (value : ℕ) (ts after : List Token) → LetFirst E2015 name value ts after → Reads names ts → Reads (name ∷ names) after
let_back names name value ts after l r = here r.0 r.1
  where
    here : (core : List Statement) → Body E2015 names ts core → Reads (name ∷ names) after
    here [] b = let_or_end _ ts l.behind_let [] l.is_let b
    here (Print i ∷ core) b = let_or_print _ ts l.behind_let b.2.behind_comma l.is_let b.2.is_print
    here (Let v ∷ core) b =
        let s = let_one E2015 b.0 name v value ts b.1 after b.2 l in
        (core, subst (λ x. Body E2015 (x ∷ names) after core) s.name (subst (λ x. Body E2015 (b.0 ∷ names) x core) s.rest b.3))

pub let_step : (keys more : List (Bor (List ℕ))) (all ts after : List Token) (k : Bor (List ℕ)) (name : List ℕ) → Walked keys all ts → Some (name, after) ≡ let_first ts → k.now ≡ name
    → more ≡ insert_key (λ x y. slice_cmp nat_cmp x.now y.now) keys k → Walked more all after
let_step keys more all ts after k name w h n e =
    let l = let_is ts (name, after) (sym h) in
    record {
      names = name ∷ w.names;
      known = λ q. ap (λ ks. has ks q) e ∙ has_insert keys k q ∙ ap (λ (x : List ℕ). bytes_eq x q || has keys q) n ∙ ap (λ c. bytes_eq name q || c) (w.known q);
      onward = λ r. w.onward (Let l.0 ∷ r.0, (name, after, l.1, r.1));
      back = λ r. let_back w.names name l.0 ts after l.1 (w.back r);
    }

print_back : (names : List (List ℕ)) (name : List ℕ) (ts after : List Token) → PrintFirst E2015 name ts after → Reads names ts → Reads names after × (list_any (λ b. bytes_eq b name) names ≡ true)
print_back names name ts after l r = here r.0 r.1
  where
    here : (core : List Statement) → Body E2015 names ts core → Reads names after × (list_any (λ b. bytes_eq b name) names ≡ true)
    here [] b = print_or_end _ ts l.behind_comma [] l.is_print b
    here (Let v ∷ core) b = let_or_print _ ts b.2.behind_let l.behind_comma b.2.is_let l.is_print
    here (Print i ∷ core) b =
        let s = print_one E2015 b.0 name ts b.1 after b.2 l in
        ((core, subst (λ x. Body E2015 names x core) s.rest b.4), bound name names i (ap (λ n. latest n names) (sym s.name) ∙ b.3))

pub print_step : (keys : List (Bor (List ℕ))) (all ts after : List Token) (name : List ℕ) → Walked keys all ts → Some (name, after) ≡ print_first ts → has keys name ≡ true → Walked keys all after
print_step keys all ts after name w h k =
    let l = print_is ts (name, after) (sym h) in
    let f = found name w.names (sym (w.known name) ∙ k) in
    record {
      names = w.names;
      known = w.known;
      onward = λ r. w.onward (Print f.0 ∷ r.0, (name, after, l, f.1, r.1));
      back = λ r. (print_back w.names name ts after l (w.back r)).0;
    }

-- a use of a name that no `let` binds
pub unbound : (keys : List (Bor (List ℕ))) (all ts after : List Token) (name : List ℕ) → Walked keys all ts → Some (name, after) ≡ print_first ts → has keys name ≡ false → IsTrue false ↔ Reads [] all
unbound keys all ts after name w h k = (λ (f : IsTrue false). both _ (sym f), λ r. both _ (sym (print_back w.names name ts after (print_is ts (name, after) (sym h)) (w.back r)).1 ∙ sym (w.known name) ∙ k))

zero_is : (n : ℕ) → (suc n == 0) ≡ true → ⊥
zero_is n h = let e : suc n ≡ 0 = (Decides-eqb (suc n) 0).0 h in omega (arith, e)

end_is : (ts : List Token) → is_end ts ≡ true → Begins (codes "}" ∷ []) ts []
end_is ts h = here (behind (codes "}" ∷ []) ts) refl h
  where
    here : (o : Option (List Token)) → behind (codes "}" ∷ []) ts ≡ o → option_map_or (λ (rest : List Token). length rest == 0) o false ≡ true → Begins (codes "}" ∷ []) ts []
    here None e k = both _ (sym k)
    here (Some []) e k = behind_is (codes "}" ∷ []) ts [] e
    here (Some (r ∷ rs)) e k = absurd (zero_is (length rs) k)

-- where no statement stands, only the `}` may be left
pub ended : (keys : List (Bor (List ℕ))) (all ts : List Token) (answer : Bool) → Walked keys all ts → None ≡ let_first ts → None ≡ print_first ts → answer ≡ is_end ts → IsTrue answer ↔ Reads [] all
ended keys all ts answer w h k e =
    (λ (t : IsTrue answer). w.onward ([], end_is ts (sym e ∙ t)), λ r. here (w.back r).0 (w.back r).1)
  where
    here : (core : List Statement) → Body E2015 w.names ts core → IsTrue answer
    here [] b = e ∙ ap (λ (o : Option (List Token)). option_map_or (λ (rest : List Token). length rest == 0) o false) (behind_of (codes "}" ∷ []) ts [] b)
    here (Let v ∷ core) b = none_some _ _ (h ∙ let_of b.0 v ts b.1 b.2)
    here (Print i ∷ core) b = none_some _ _ (k ∙ print_of b.0 ts b.1 b.2)

-- words take tokens
shorter : (ws : List (List ℕ)) (ts r : List Token) → Begins ws ts r → length r ≤ length ts
shorter [] ts r h = let e : length ts ≡ length r = ap length h in omega (arith, e)
shorter (w ∷ ws) ts r h =
    let e : length ts ≡ suc (length h.1) = ap length h.2 in
    let s = shorter ws h.1 r h.4 in
    omega (arith, e, s)

one_shorter : (w : List ℕ) (ws : List (List ℕ)) (ts r : List Token) → Begins (w ∷ ws) ts r → length r < length ts
one_shorter w ws ts r h =
    let e : length ts ≡ suc (length h.1) = ap length h.2 in
    let s = shorter ws h.1 r h.4 in
    omega (arith, e, s)

-- a statement has tokens
pub let_shorter : (ts after : List Token) (name : List ℕ) → Some (name, after) ≡ let_first ts → length after < length ts
let_shorter ts after name h =
    let l = (let_is ts (name, after) (sym h)).1 in
    let a = one_shorter (codes "let") [] ts l.behind_let l.is_let in
    let b : length l.behind_let ≡ suc (length l.behind_name) = ap length l.is_name.1 in
    let c = one_shorter (codes "=") [] l.behind_name l.behind_equals l.is_equals in
    let d : length l.behind_equals ≡ suc (length l.behind_int) = ap length l.is_int.1 in
    let e = one_shorter (codes ";") [] l.behind_int after l.ends in
    omega (arith, a, b, c, d, e)

pub print_shorter : (ts after : List Token) (name : List ℕ) → Some (name, after) ≡ print_first ts → length after < length ts
print_shorter ts after name h =
    let l = print_is ts (name, after) (sym h) in
    let a = one_shorter (codes "println") (codes "!" ∷ codes "(" ∷ codes "\"{}\"" ∷ codes "," ∷ []) ts l.behind_comma l.is_print in
    let b : length l.behind_comma ≡ suc (length l.behind_name) = ap length l.is_name.1 in
    let e = one_shorter (codes ")") (codes ";" ∷ []) l.behind_name after l.ends in
    omega (arith, a, b, e)
