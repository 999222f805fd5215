-- What filters of parts by their file keep.
use Rattle.std.proofs.Common.{inl, inr, ◌≡◌, ℕ, ◌+◌, ◌<◌, ◌≤◌, Bool, true, false, cond, eqb, leb, List, [], ◌∷◌, map, take, drop, refl, ap, sym, arith, Bor, one-add}
use Rattle.std.specs.Prelude.{All, AllPairs, filter}
use Rattle.std.specs.List.{prefix_len}
use Rattle.std.proofs.lemmas.Bool.{cases_Bool, cases_lt, eq-eqb, le-leb, lt-leb, ne_eqb}
use Rattle.std.proofs.lemmas.List.{take-map, drop-map}
use Rattle.std.proofs.lemmas.List.Elements.{All-head, All-tail, All-weaker}
use Rattle.em_base.specs.declared.edit.Part.{Part}
use Rattle.em_edit.specs.Order.{StartsNoLater}
use Rattle.em_edit.proofs.Pairs.{AllPairs-head, AllPairs-tail}

pub filter_all : {X : Type 0} (t : X → Bool) (xs : List X) → All (λ x. t x ≡ true) xs → filter t xs ≡ xs
filter_all t [] h = refl
filter_all t (x ∷ xs) h = rw (All-head (λ x. t x ≡ true) x xs h) (ap (λ ys. x ∷ ys) (filter_all t xs (All-tail (λ x. t x ≡ true) x xs h)))

pub filter_none : {X : Type 0} (t : X → Bool) (xs : List X) → All (λ x. t x ≡ false) xs → filter t xs ≡ []
filter_none t [] h = refl
filter_none t (x ∷ xs) h = rw (All-head (λ x. t x ≡ false) x xs h) (filter_none t xs (All-tail (λ x. t x ≡ false) x xs h))

-- a filter by a stronger test, of what a weaker one keeps
pub filter_both : {X : Type 0} (t u : X → Bool) → ((x : X) → t x ≡ true → u x ≡ true) → (xs : List X) → filter t (filter u xs) ≡ filter t xs
filter_both t u weaker [] = refl
filter_both t u weaker (x ∷ xs) = elim (cases_Bool (t x)) [
  | inl passes ↦ rw (weaker x passes, passes) (ap (λ ys. x ∷ ys) (filter_both t u weaker xs))
  | inr none ↦ elim (cases_Bool (u x)) [
    | inl kept ↦ rw (kept, none) (filter_both t u weaker xs)
    | inr lost ↦ rw (lost, none) (filter_both t u weaker xs)
  ]
]

pub prefix_len-behind : (f : ℕ) (refs : List (Bor Part)) → prefix_len (λ r. eqb r.now.span.file f) refs ≡ prefix_len (λ p. eqb p.span.file f) (map (λ r. r.now) refs)
prefix_len-behind f [] = refl
prefix_len-behind f (r ∷ rs) = ap (λ n. cond (eqb r.now.span.file f) (1 + n) 0) (prefix_len-behind f rs)

pub take-behind : (n : ℕ) (refs : List (Bor Part)) → map (λ r. r.now) (take n refs) ≡ take n (map (λ r. r.now) refs)
take-behind n refs = sym (take-map (λ r. r.now) n refs)

pub drop-behind : (n : ℕ) (refs : List (Bor Part)) → map (λ r. r.now) (drop n refs) ≡ drop n (map (λ r. r.now) refs)
drop-behind n refs = sym (drop-map (λ r. r.now) n refs)

-- the parts of a file stand first among those of this and the later files
pub record SplitAt (f : ℕ) (ps : List Part) : Type 0 where
  pub here : take (prefix_len (λ p. eqb p.span.file f) ps) ps ≡ filter (λ p. eqb p.span.file f) ps
  pub behind : drop (prefix_len (λ p. eqb p.span.file f) ps) ps ≡ filter (λ p. leb (f + 1) p.span.file) ps

later_file : (p q : Part) → StartsNoLater p q → p.span.file ≤ q.span.file
later_file p q h = omega (arith, h)

-- where the first part lies behind the file, all do
all_behind : (f : ℕ) (p : Part) (ps : List Part) → f < p.span.file → All (StartsNoLater p) ps → SplitAt f (p ∷ ps)
all_behind f p ps lt later =
    let off : eqb p.span.file f ≡ false = ne_eqb p.span.file f (λ e. omega arith) in
    let on : leb (f + 1) p.span.file ≡ true = le-leb (f + 1) p.span.file (omega arith) in
    let none = filter_none (λ q. eqb q.span.file f) ps (All-weaker (StartsNoLater p) (λ q. eqb q.span.file f ≡ false) (λ q l. ne_eqb q.span.file f (λ e. omega (arith, later_file p q l))) ps later) in
    let all = filter_all (λ q. leb (f + 1) q.span.file) ps (All-weaker (StartsNoLater p) (λ q. leb (f + 1) q.span.file ≡ true) (λ q l. le-leb (f + 1) q.span.file (omega (arith, later_file p q l))) ps later) in
    record { here = rw off (sym none); behind = rw (off, on) (ap (λ qs. p ∷ qs) (sym all)) }

one_more : (f : ℕ) (p : Part) (ps : List Part) → p.span.file ≡ f → SplitAt f ps → SplitAt f (p ∷ ps)
one_more f p ps is s =
    let on : eqb p.span.file f ≡ true = eq-eqb p.span.file f is in
    let off : leb (f + 1) p.span.file ≡ false = lt-leb (f + 1) p.span.file (omega arith) in
    record { here = rw (on, one-add) (ap (λ qs. p ∷ qs) s.here); behind = rw (on, off, one-add) s.behind }

pub split_at : (f : ℕ) (ps : List Part) → AllPairs StartsNoLater ps → All (λ p. f ≤ p.span.file) ps → SplitAt f ps
split_at f [] order from = record { here = refl; behind = refl }
split_at f (p ∷ ps) order from = elim (cases_lt f p.span.file) [
  | inl lt ↦ all_behind f p ps lt (AllPairs-head StartsNoLater p ps order)
  | inr le ↦
      let first : f ≤ p.span.file = All-head (λ q. f ≤ q.span.file) p ps from in
      one_more f p ps (omega arith) (split_at f ps (AllPairs-tail StartsNoLater p ps order) (All-tail (λ q. f ≤ q.span.file) p ps from))
]
