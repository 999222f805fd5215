-- Sums over what is left of parts.
use Rattle.std.proofs.Common.{◌≡◌, ℕ, ◌+◌, ◌<◌, ◌≤◌, List, ◌++◌, length, get_or, drop, ap, sym, ◌∙◌}
use Rattle.std.specs.Prelude.{sum_by}
use Rattle.std.proofs.lemmas.List.{drop_more, drop_all}
use Rattle.std.proofs.lemmas.List.Sums.{sum_by-cons, sum_by-append}
use Rattle.em_base.specs.declared.edit.Part.{Part}
use Rattle.em_base.specs.declared.edit.Suggestion.{Suggestion}
use Rattle.em_edit.specs.Edited.{all_parts}

pub sum_next : {X : Type 0} (weight : X → ℕ) (xs : List X) (i : ℕ) (x : X) → i < length xs → x ≡ get_or xs i x → sum_by weight (drop i xs) ≡ weight x + sum_by weight (drop (i + 1) xs)
sum_next weight xs i x lt is =
    ap (sum_by weight) (drop_more xs i x lt)
    ∙ (sum_by-cons weight (get_or xs i x) (drop (i + 1) xs)
    ∙ ap (λ y. weight y + sum_by weight (drop (i + 1) xs)) (sym is))

pub sum_end : {X : Type 0} (weight : X → ℕ) (xs : List X) (i : ℕ) → length xs ≤ i → sum_by weight (drop i xs) ≡ 0
sum_end weight xs i le = ap (sum_by weight) (drop_all i xs le)

pub sum_next_suggestion : (weight : Part → ℕ) (taken : List Suggestion) (i : ℕ) (s : Suggestion) → i < length taken → s ≡ get_or taken i s → sum_by weight (all_parts (drop i taken)) ≡ sum_by weight s.parts + sum_by weight (all_parts (drop (i + 1) taken))
sum_next_suggestion weight taken i s lt is =
    ap (λ (ss : List Suggestion). sum_by weight (all_parts ss)) (drop_more taken i s lt)
    ∙ (ap (λ (x : Suggestion). sum_by weight (x.parts ++ all_parts (drop (i + 1) taken))) (sym is)
    ∙ sum_by-append weight s.parts (all_parts (drop (i + 1) taken)))

pub sum_end_suggestion : (weight : Part → ℕ) (taken : List Suggestion) (i : ℕ) → length taken ≤ i → sum_by weight (all_parts (drop i taken)) ≡ 0
sum_end_suggestion weight taken i le = ap (λ (ss : List Suggestion). sum_by weight (all_parts ss)) (drop_all i taken le)
