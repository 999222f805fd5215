-- A token is a word or sign exactly where it is spelled so.
use Rattle.std.proofs.Common.{◌≡◌, false, refl, sym, ap, ◌∙◌, inl, inr, List, ℕ, length, Option, Some, None}
use Rattle.std.proofs.lemmas.Bool.{cases_Bool}
use Rattle.std.specs.Str.{bytes_eq}
use Rattle.std.specs.Cmp.Lexicographic.{bytes_decides}
use Rattle.em_base.specs.declared.token.Token.{Token}
use Rattle.em_tree.specs.Starts.{spelling}
use Rattle.em_grammar.specs.declared.sort.Kind.{Kind}
use Rattle.em_grammar.specs.declared.sort.Weak.{Weak}
use Rattle.em_grammar.specs.declared.sort.Written.{Written}
use Rattle.em_grammar.specs.Sets.{only, is_sign}
use Rattle.em_grammar.specs.Sorts.{text_of, written_of, weak_of, weak_sort, sort_named, sort_by, class_of, sort_of}
use Rattle.em_grammar.proofs.Sorts.{written_is_so, finds_so}

weak_apart : (x : Written) (y : Option Weak) (k : Kind) → only x (weak_sort y k) ≡ false
weak_apart x None k = refl
weak_apart x (Some y) k = refl

named : (x : Written) (s : List ℕ) (y : Option Weak) (k : Kind) → only x (sort_named (written_of s) y k) ≡ bytes_eq (text_of x) s
named x s y k = go (written_of s) refl
  where
    none_some : (x : Written) → None ≡ Some x → ⊥
    none_some x h = cc

    go : (m : Option Written) → written_of s ≡ m → only x (sort_named m y k) ≡ bytes_eq (text_of x) s
    go (Some w) h = ap (λ t. bytes_eq (text_of x) t) (written_is_so s w h)
    go None h =
        weak_apart x y k
        ∙ elim (cases_Bool (bytes_eq (text_of x) s)) [
          | inl alike ↦ absurd (none_some x (sym h ∙ finds_so s x ((bytes_decides (text_of x) s).0 alike)))
          | inr apart ↦ sym apart
        ]

pub spelled_sign : (x : Written) (t : Token) (s : List ℕ) → spelling t ≡ Some s → is_sign x t ≡ bytes_eq (text_of x) s
unfolding sort_of
spelled_sign x t s h = ap (λ o. only x (sort_by o (class_of t))) h ∙ named x s (weak_of s) (class_of t)

pub no_sign : (x : Written) (t : Token) → spelling t ≡ None → is_sign x t ≡ false
unfolding sort_of
no_sign x t h = ap (λ o. only x (sort_by o (class_of t))) h

pub lengths_apart : (a b : List ℕ) → (length a ≡ length b → ⊥) → bytes_eq a b ≡ false
lengths_apart a b h =
    elim (cases_Bool (bytes_eq a b)) [
      | inl same ↦ absurd (h (ap length ((bytes_decides a b).0 same)))
      | inr other ↦ other
    ]
