-- Sets of what may stand next: the end, a token by its sort, a group by its kind.
use Rattle.std.specs.Prelude.{ℕ, zero, suc, Bool, true, false, ◌&&◌, ◌||◌, not, List, [], ◌∷◌}
use Rattle.std.specs.List.{list_any}
use Rattle.std.specs.Str.{bytes_eq}
use Rattle.em_base.specs.declared.token.Token.{Token}
use Rattle.em_tree.specs.declared.piece.FragmentKind.{FragmentKind}
use Rattle.em_tree.specs.declared.piece.FragmentKind.TheVariants as fk
use Rattle.em_tree.specs.declared.piece.Piece.TheVariants as p
use Rattle.em_tree.specs.Starts.{Pieces, kind_of, pieces_of}
use Rattle.em_grammar.specs.declared.sort.Written.{Written}
use Rattle.em_grammar.specs.declared.sort.Written.TheVariants as word
use Rattle.em_grammar.specs.declared.sort.Weak.{Weak}
use Rattle.em_grammar.specs.declared.sort.Weak.TheVariants as weak
use Rattle.em_grammar.specs.declared.sort.Kind.{Kind}
use Rattle.em_grammar.specs.declared.sort.Kind.TheVariants as kind
use Rattle.em_grammar.specs.declared.sort.Sort.{Sort}
use Rattle.em_grammar.specs.declared.sort.Sort.TheVariants as sort
use Rattle.em_grammar.specs.Sorts.{text_of, sort_of, the_written, the_kinds}

-- the pieces of each group among these satisfy a property
abbrev pub Inside : (Pieces → Type 0) → Pieces → Type 0
Inside H [] = Unit {0}
Inside H (p.Token t ∷ r) = Inside H r
Inside H (p.Group g ∷ r) = H (pieces_of g) × Inside H r

-- pieces of a group whose own groups nest in one another no more often than the number, less one
abbrev pub Nested : ℕ → Pieces → Type 0
Nested zero ys = ⊥
Nested (suc n) ys = Inside (Nested n) ys

pub record Set : Type 0 where
  pub end : Bool
  pub token : Sort → Bool
  pub group : FragmentKind → Bool

abbrev pub next : Set → Pieces → Bool
next s [] = s.end
next s (p.Token t ∷ r) = s.token (sort_of t)
next s (p.Group g ∷ r) = s.group (kind_of g)

abbrev pub all : {K : Type 0} → (K → Bool) → List K → Bool
all f [] = true
all f (x ∷ r) = f x && all f r

abbrev pub the_fragments : List FragmentKind
the_fragments = fk.Ident ∷ fk.Tt ∷ fk.Literal ∷ fk.Block ∷ fk.Expr ∷ fk.Stmt ∷ fk.Ty ∷ fk.Path ∷ fk.Pat ∷ fk.PatParam ∷ fk.Item ∷ []

abbrev pub all_sorts : (Sort → Bool) → Bool
all_sorts f =
    all (λ x. f (sort.Written x)) the_written && (all (λ k. f (sort.Weak weak.Box k)) the_kinds && (all (λ k. f (sort.Weak weak.Dyn k)) the_kinds
    && (all (λ k. f (sort.Weak weak.MacroRules k)) the_kinds && all (λ k. f (sort.Plain k)) the_kinds)))

abbrev pub all_fragments : (FragmentKind → Bool) → Bool
all_fragments f = all f the_fragments

abbrev pub implies : Bool → Bool → Bool
implies a b = not a || b

-- all of the first set is in the second
abbrev pub subset : Set → Set → Bool
subset a b = implies a.end b.end && (all_sorts (λ k. implies (a.token k) (b.token k)) && all_fragments (λ f. implies (a.group f) (b.group f)))

abbrev pub others : Set → Set
others a = record { end = not a.end; token = λ k. not (a.token k); group = λ f. not (a.group f) }

abbrev pub either : Set → Set → Set
either a b = record { end = a.end || b.end; token = λ k. a.token k || b.token k; group = λ f. a.group f || b.group f }

abbrev pub both : Set → Set → Set
both a b = record { end = a.end && b.end; token = λ k. a.token k && b.token k; group = λ f. a.group f && b.group f }

abbrev pub tokens : (Sort → Bool) → Set
tokens test = record { end = false; token = test; group = λ f. false }

abbrev pub groups : (FragmentKind → Bool) → Set
groups test = record { end = false; token = λ k. false; group = test }

abbrev pub anything : Set
anything = record { end = true; token = λ k. true; group = λ f. true }

-- without the end
abbrev pub unended : Set → Set
unended s = record { end = false; token = s.token; group = s.group }

-- ---- single sorts

-- the word or sign, and no other
abbrev pub only : Written → Sort → Bool
only x (sort.Written y) = bytes_eq (text_of x) (text_of y)
only x _ = false

-- one of these words and signs
abbrev pub any_of : List Written → Sort → Bool
any_of xs s = list_any (λ x. only x s) xs

-- no word or sign that is written out, and of a kind
abbrev pub by_kind : (Kind → Bool) → Sort → Bool
by_kind f (sort.Written x) = false
by_kind f (sort.Weak x k) = f k
by_kind f (sort.Plain k) = f k

abbrev pub is_name_kind : Kind → Bool
is_name_kind kind.Name = true
is_name_kind _ = false

abbrev pub is_int_kind : Kind → Bool
is_int_kind kind.Int = true
is_int_kind _ = false

abbrev pub is_literal_kind : Kind → Bool
is_literal_kind kind.Int = true
is_literal_kind kind.Literal = true
is_literal_kind _ = false

abbrev pub name_sort : Sort → Bool
name_sort s = by_kind is_name_kind s

abbrev pub int_sort : Sort → Bool
int_sort s = by_kind is_int_kind s

abbrev pub same_weak : Weak → Weak → Bool
same_weak weak.Box weak.Box = true
same_weak weak.Dyn weak.Dyn = true
same_weak weak.MacroRules weak.MacroRules = true
same_weak _ _ = false

-- this word, whether it is a name or not
abbrev pub weak_is : Weak → Sort → Bool
weak_is x (sort.Weak y k) = same_weak x y
weak_is x _ = false

-- the `dyn` that is no name
abbrev pub dyn_sort : Sort → Bool
dyn_sort s = weak_is weak.Dyn s && not (name_sort s)

abbrev pub literal_sort : Sort → Bool
literal_sort s = by_kind is_literal_kind s || any_of (word.True ∷ word.False ∷ []) s

-- the token is this word or sign
abbrev pub is_sign : Written → Token → Bool
is_sign x t = only x (sort_of t)
