-- What holds of all sorts at once holds of each.
use Rattle.std.proofs.Common.{◌≡◌, ℕ, zero, suc, Bool, true, false, ◌&&◌, if◌then◌else◌, List, [], ◌∷◌, Some, refl, subst}
use Rattle.std.specs.Str.{bytes_eq}
use Rattle.em_tree.specs.declared.piece.FragmentKind.{FragmentKind}
use Rattle.em_tree.specs.declared.piece.FragmentKind.TheVariants as fk
use Rattle.em_grammar.specs.declared.sort.Written.{Written}
use Rattle.em_grammar.specs.declared.sort.Weak.TheVariants as weak
use Rattle.em_grammar.specs.declared.sort.Kind.{Kind}
use Rattle.em_grammar.specs.declared.sort.Kind.TheVariants as kind
use Rattle.em_grammar.specs.declared.sort.Sort.{Sort}
use Rattle.em_grammar.specs.declared.sort.Sort.TheVariants as sort
use Rattle.em_grammar.specs.Sorts.{text_of, first_written, written_of, the_written, the_kinds}
use Rattle.em_grammar.specs.Sets.{all, the_fragments, all_sorts, all_fragments}
use Rattle.em_grammar.proofs.Sorts.{finds_own}

pub and-left : (a b : Bool) → (a && b) ≡ true → a ≡ true
and-left true b is = refl
and-left false b is = cc

pub and-right : (a b : Bool) → (a && b) ≡ true → b ≡ true
and-right true b is = is
and-right false b is = cc

all_found : (f : Written → Bool) (text : List ℕ) (xs : List Written) (x : Written) → first_written text xs ≡ Some x → all f xs ≡ true → f x ≡ true
all_found f text [] x h every = cc
all_found f text (y ∷ ys) x h every = go (bytes_eq (text_of y) text) h (λ later. all_found f text ys x later (and-right (f y) (all f ys) every))
  where
    go : (b : Bool) → (if b then Some y else first_written text ys) ≡ Some x → (first_written text ys ≡ Some x → f x ≡ true) → f x ≡ true
    go true h later = let same : y ≡ x = cc in subst (λ z. f z ≡ true) same (and-left (f y) (all f ys) every)
    go false h later = later h

pub written_at : (f : Written → Bool) (x : Written) → all f the_written ≡ true → f x ≡ true
unfolding written_of
written_at f x every = all_found f (text_of x) the_written x (finds_own x) every

abbrev at : {K : Type 0} → ℕ → K → List K → K
at n x [] = x
at zero x (y ∷ r) = y
at (suc n) x (y ∷ r) = at n x r

all_at : {K : Type 0} (f : K → Bool) (x : K) → f x ≡ true → (n : ℕ) (l : List K) → all f l ≡ true → f (at n x l) ≡ true
all_at f x h n [] is = h
all_at f x h zero (y ∷ r) is = and-left (f y) (all f r) is
all_at f x h (suc n) (y ∷ r) is = all_at f x h n r (and-right (f y) (all f r) is)

pub kind_at : (f : Kind → Bool) (x : Kind) → all f the_kinds ≡ true → f x ≡ true
kind_at f kind.Name h = and-left (f kind.Name) _ h
kind_at f kind.Int h = all_at f kind.Name (and-left (f kind.Name) _ h) 1 the_kinds h
kind_at f kind.Literal h = all_at f kind.Name (and-left (f kind.Name) _ h) 2 the_kinds h
kind_at f kind.Lifetime h = all_at f kind.Name (and-left (f kind.Name) _ h) 3 the_kinds h
kind_at f kind.Other h = all_at f kind.Name (and-left (f kind.Name) _ h) 4 the_kinds h

five : (a b c d e : Bool) → (a && (b && (c && (d && e)))) ≡ true → (a ≡ true) × (b ≡ true) × (c ≡ true) × (d ≡ true) × (e ≡ true)
five true true true true e h = (refl, refl, refl, refl, h)
five true true true false e h = cc
five true true false d e h = cc
five true false c d e h = cc
five false b c d e h = cc

split_sorts : (f : Sort → Bool) → all_sorts f ≡ true
    → (all (λ x. f (sort.Written x)) the_written ≡ true) × (all (λ k. f (sort.Weak weak.Box k)) the_kinds ≡ true) × (all (λ k. f (sort.Weak weak.Dyn k)) the_kinds ≡ true)
    × (all (λ k. f (sort.Weak weak.MacroRules k)) the_kinds ≡ true) × (all (λ k. f (sort.Plain k)) the_kinds ≡ true)
split_sorts f h =
    five (all (λ x. f (sort.Written x)) the_written) (all (λ k. f (sort.Weak weak.Box k)) the_kinds) (all (λ k. f (sort.Weak weak.Dyn k)) the_kinds)
    (all (λ k. f (sort.Weak weak.MacroRules k)) the_kinds) (all (λ k. f (sort.Plain k)) the_kinds) h

pub sort_at : (f : Sort → Bool) (x : Sort) → all_sorts f ≡ true → f x ≡ true
sort_at f (sort.Written x) h = written_at (λ x. f (sort.Written x)) x (split_sorts f h).0
sort_at f (sort.Weak weak.Box k) h = kind_at (λ k. f (sort.Weak weak.Box k)) k (split_sorts f h).1
sort_at f (sort.Weak weak.Dyn k) h = kind_at (λ k. f (sort.Weak weak.Dyn k)) k (split_sorts f h).2
sort_at f (sort.Weak weak.MacroRules k) h = kind_at (λ k. f (sort.Weak weak.MacroRules k)) k (split_sorts f h).3
sort_at f (sort.Plain k) h = kind_at (λ k. f (sort.Plain k)) k (split_sorts f h).4

first_fragment : (f : FragmentKind → Bool) → all_fragments f ≡ true → f fk.Ident ≡ true
first_fragment f h = and-left (f fk.Ident) _ h

pub fragment_at : (f : FragmentKind → Bool) (x : FragmentKind) → all_fragments f ≡ true → f x ≡ true
fragment_at f fk.Ident h = first_fragment f h
fragment_at f fk.Tt h = all_at f fk.Ident (first_fragment f h) 1 the_fragments h
fragment_at f fk.Literal h = all_at f fk.Ident (first_fragment f h) 2 the_fragments h
fragment_at f fk.Block h = all_at f fk.Ident (first_fragment f h) 3 the_fragments h
fragment_at f fk.Expr h = all_at f fk.Ident (first_fragment f h) 4 the_fragments h
fragment_at f fk.Stmt h = all_at f fk.Ident (first_fragment f h) 5 the_fragments h
fragment_at f fk.Ty h = all_at f fk.Ident (first_fragment f h) 6 the_fragments h
fragment_at f fk.Path h = all_at f fk.Ident (first_fragment f h) 7 the_fragments h
fragment_at f fk.Pat h = all_at f fk.Ident (first_fragment f h) 8 the_fragments h
fragment_at f fk.PatParam h = all_at f fk.Ident (first_fragment f h) 9 the_fragments h
fragment_at f fk.Item h = all_at f fk.Ident (first_fragment f h) 10 the_fragments h
