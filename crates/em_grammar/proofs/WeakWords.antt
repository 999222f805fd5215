-- The words that are keywords in some places alone have three bytes or eleven, and begin with `B`, `d` or `m`.
use Rattle.std.proofs.Common.{◌≡◌, ℕ, Bool, true, false, if◌then◌else◌, List, length, get_or, refl, sym, ap, ◌∙◌, subst, inl, inr, ◌⊎◌, Option, Some, None, codes}
use Rattle.std.proofs.lemmas.Bool.{cases_Bool}
use Rattle.std.specs.Str.{bytes_eq}
use Rattle.std.specs.Cmp.Lexicographic.{bytes_decides}
use Rattle.em_base.specs.declared.token.Token.{Token}
use Rattle.em_tree.specs.Starts.{spelling}
use Rattle.em_grammar.specs.declared.sort.Kind.{Kind}
use Rattle.em_grammar.specs.declared.sort.Weak.{Weak}
use Rattle.em_grammar.specs.declared.sort.Weak.TheVariants as weak
use Rattle.em_grammar.specs.declared.sort.Written.{Written}
use Rattle.em_grammar.specs.Sets.{weak_is}
use Rattle.em_grammar.specs.Sorts.{weak_of, written_of, sort_named, sort_by, class_of, sort_of}

-- what holds of each of them
of_weak : (P : List ℕ → Type 0) → P (codes "Box") → P (codes "dyn") → P (codes "macro_rules") → (text : List ℕ) (x : Weak) → weak_of text ≡ Some x → P text
of_weak P box dyn rules text x h =
    elim (cases_Bool (bytes_eq text (codes "Box"))) [
      | inl same ↦ subst P (sym ((bytes_decides text (codes "Box")).0 same)) box
      | inr no_box ↦
          elim (cases_Bool (bytes_eq text (codes "dyn"))) [
            | inl same ↦ subst P (sym ((bytes_decides text (codes "dyn")).0 same)) dyn
            | inr no_dyn ↦
                elim (cases_Bool (bytes_eq text (codes "macro_rules"))) [
                  | inl same ↦ subst P (sym ((bytes_decides text (codes "macro_rules")).0 same)) rules
                  | inr no_rules ↦ absurd (no x (sym (none no_box no_dyn no_rules) ∙ h))
                ]
          ]
    ]
  where
    no : (x : Weak) → None ≡ Some x → ⊥
    no x h = cc

    none : bytes_eq text (codes "Box") ≡ false → bytes_eq text (codes "dyn") ≡ false → bytes_eq text (codes "macro_rules") ≡ false → weak_of text ≡ None
    none a b c =
        ap (λ k. if k then Some weak.Box else (if bytes_eq text (codes "dyn") then Some weak.Dyn else (if bytes_eq text (codes "macro_rules") then Some weak.MacroRules else None))) a
        ∙ ap (λ k. if k then Some weak.Dyn else (if bytes_eq text (codes "macro_rules") then Some weak.MacroRules else None)) b
        ∙ ap (λ k. if k then Some weak.MacroRules else None) c

abbrev Alike : List ℕ → Type 0
Alike text = ((length text ≡ 3) ⊎ (length text ≡ 11)) × ((get_or text 0 0 ≡ 66) ⊎ ((get_or text 0 0 ≡ 100) ⊎ (get_or text 0 0 ≡ 109)))

pub weak_like : (text : List ℕ) (x : Weak) → weak_of text ≡ Some x → Alike text
weak_like = of_weak Alike (inl refl, inl refl) (inl refl, inr (inl refl)) (inr refl, inr (inr refl))

pub no_weak : (text : List ℕ) (may : Bool) → ((x : Weak) → weak_of text ≡ Some x → may ≡ true) → may ≡ false → weak_of text ≡ None
no_weak text may every h = go (weak_of text) refl
  where
    no : true ≡ false → ⊥
    no h = cc

    go : (m : Option Weak) → weak_of text ≡ m → m ≡ None
    go None is = refl
    go (Some x) is = absurd (no (sym (every x is) ∙ h))

not_named : (w : Weak) (m : Option Written) (k : Kind) → weak_is w (sort_named m None k) ≡ false
not_named w None k = refl
not_named w (Some x) k = refl

pub no_weak_token : (w : Weak) (t : Token) (text : List ℕ) (may : Bool) → spelling t ≡ Some text → ((x : Weak) → weak_of text ≡ Some x → may ≡ true) → may ≡ false → weak_is w (sort_of t) ≡ false
unfolding sort_of
no_weak_token w t text may is every h =
    ap (λ o. weak_is w (sort_by o (class_of t))) is
    ∙ ap (λ y. weak_is w (sort_named (written_of text) y (class_of t))) (no_weak text may every h)
    ∙ not_named w (written_of text) (class_of t)

pub unspelled : (w : Weak) (t : Token) → spelling t ≡ None → weak_is w (sort_of t) ≡ false
unfolding sort_of
unspelled w t is = ap (λ o. weak_is w (sort_by o (class_of t))) is
