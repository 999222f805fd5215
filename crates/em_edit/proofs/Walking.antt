-- The walk over the findings: their turns, sorted.
use Rattle.std.proofs.Common.{inl, inr, ◌≡◌, ◌≢◌, ◌⊎◌, ℕ, zero, suc, ◌+◌, ◌<◌, ◌≤◌, false, List, [], ◌∷◌, ◌++◌, map, length, get_or, drop, refl, ap, sym, ◌∙◌, subst, arith, Ordering, nat_cmp, is_lt, Some}
use Rattle.std.specs.Prelude.{All, AllPairs, slice_get}
use Rattle.std.specs.Cmp.{IsTotalOrder}
use Rattle.std.specs.Ordering.{ordering_then}
use Rattle.std.specs.List.Sorted.{IsPermutation, IsSorted}
use Rattle.std.proofs.lemmas.Bool.Decides.{nat_tests}
use Rattle.std.proofs.lemmas.Cmp.{nat_cmp_total, on_total, then_total}
use Rattle.std.proofs.lemmas.List.{get_or-map, length-map, drop_more, drop_all, append_assoc, append-nil}
use Rattle.std.proofs.lemmas.List.Elements.{All-cons, All-nil, All-map}
use Rattle.std.proofs.lemmas.Option.{slice_get_read, slice_get_within}
use Rattle.std.proofs.lemmas.List.Kept.{AllPairs-cons}
use Rattle.std.proofs.lemmas.List.Sorted.{All-permutation, Contains-permutation, sorted_far, ranks_by}
use Rattle.em_base.specs.declared.edit.Part.{Part}
use Rattle.em_base.specs.declared.edit.Suggestion.{Suggestion}
use Rattle.em_base.specs.declared.place.Span.{Span}
use Rattle.em_edit.specs.Selected.{IsBefore, IsWalk, Takes, IsSelection, Turn, turn_of, turns_from}
use Rattle.em_edit.specs.Meet.{OneMeets}
use Rattle.em_edit.proofs.Pairs.{AllPairs-map, AllPairs-permutation}

-- a turn of a finding at its index, counted from a first one
record IsTurn (first : ℕ) (findings : List Suggestion) (t : Turn) : Type 0 where
  at : ℕ
  s : Suggestion
  index : t.1 ≡ first + at
  here : slice_get findings at ≡ Some s
  anchor : t.0 ≡ (s.anchor.file, s.anchor.start, s.anchor.end)

turn_later : (first : ℕ) (s : Suggestion) (ss : List Suggestion) (t : Turn) → IsTurn (first + 1) ss t → IsTurn first (s ∷ ss) t
turn_later first s ss t is = record { at = suc is.at; s = is.s; index = (let e = is.index in omega arith); here = is.here; anchor = is.anchor }

are_turns : (first : ℕ) (findings : List Suggestion) → All (IsTurn first findings) (turns_from first findings)
are_turns first [] = All-nil (IsTurn first [])
are_turns first (s ∷ ss) = All-cons (IsTurn first (s ∷ ss)) (turn_of s first) (turns_from (first + 1) ss)
    (record { at = 0; s = s; index = omega arith; here = refl; anchor = refl })
    (λ k d lt. turn_later first s ss (get_or (turns_from (first + 1) ss) k d) (are_turns (first + 1) ss k d lt))

abbrev OtherIndex : Turn → Turn → Type 0
OtherIndex t u = t.1 ≢ u.1

other_turns : (first : ℕ) (findings : List Suggestion) → AllPairs OtherIndex (turns_from first findings)
other_turns first [] = λ i j d lt l. absurd (omega arith)
other_turns first (s ∷ ss) = AllPairs-cons OtherIndex (turn_of s first) (turns_from (first + 1) ss)
    (λ k d lt e. let i = (are_turns (first + 1) ss k d lt).index in omega arith)
    (other_turns (first + 1) ss)

abbrev turn_cmp : Turn → Turn → Ordering
turn_cmp t u = ordering_then (ordering_then (ordering_then (nat_cmp t.0.0 u.0.0) (nat_cmp t.0.1 u.0.1)) (nat_cmp t.0.2 u.0.2)) (nat_cmp t.1 u.1)

turns_total : IsTotalOrder turn_cmp
turns_total = then_total (then_total (then_total (on_total (λ (t : Turn). t.0.0) nat_cmp_total) (on_total (λ (t : Turn). t.0.1) nat_cmp_total)) (on_total (λ (t : Turn). t.0.2) nat_cmp_total)) (on_total (λ (t : Turn). t.1) nat_cmp_total)

-- what isn't less in four numbers, and differs in the last, is greater
greater : (a b c d e f i j : ℕ) → is_lt (ordering_then (ordering_then (ordering_then (nat_cmp b a) (nat_cmp d c)) (nat_cmp f e)) (nat_cmp j i)) ≡ false → i ≢ j → ((a < b) ⊎ ((a ≡ b) × ((c < d) ⊎ ((c ≡ d) × (e < f))))) ⊎ (((a ≡ b) × (c ≡ d) × (e ≡ f)) × (i < j))
greater a b c d e f i j h ne = grind (arith, nat_tests)

abbrev span_of : ℕ → ℕ → ℕ → Span
span_of file start end = record { file = file; start = start; end = end }

pub same_span : (x y : Span) → x.file ≡ y.file → x.start ≡ y.start → x.end ≡ y.end → x ≡ y
same_span x y f s e =
    ap (λ (n : ℕ). span_of n x.start x.end) f
    ∙ (ap (λ (n : ℕ). span_of y.file n x.end) s
    ∙ ap (λ (n : ℕ). span_of y.file y.start n) e)

stands : (findings : List Suggestion) (t : Turn) (p : IsTurn 0 findings t) → slice_get findings t.1 ≡ Some p.s
stands findings t p = let same : t.1 ≡ p.at = omega (arith, p.index) in ap (slice_get findings) same ∙ p.here

is_before : (findings : List Suggestion) (t u : Turn) → IsTurn 0 findings t → IsTurn 0 findings u → t.1 ≢ u.1 → is_lt (turn_cmp u t) ≡ false → IsBefore findings t.1 u.1
is_before findings t u p q ne h =
    let order = greater t.0.0 u.0.0 t.0.1 u.0.1 t.0.2 u.0.2 t.1 u.1 h ne in
    let file : t.0.0 ≡ p.s.anchor.file = ap (λ (x : ℕ × ℕ × ℕ). x.0) p.anchor in
    let start : t.0.1 ≡ p.s.anchor.start = ap (λ (x : ℕ × ℕ × ℕ). x.1) p.anchor in
    let end : t.0.2 ≡ p.s.anchor.end = ap (λ (x : ℕ × ℕ × ℕ). x.2) p.anchor in
    let file' : u.0.0 ≡ q.s.anchor.file = ap (λ (x : ℕ × ℕ × ℕ). x.0) q.anchor in
    let start' : u.0.1 ≡ q.s.anchor.start = ap (λ (x : ℕ × ℕ × ℕ). x.1) q.anchor in
    let end' : u.0.2 ≡ q.s.anchor.end = ap (λ (x : ℕ × ℕ × ℕ). x.2) q.anchor in
    record {
      s = p.s;
      t = q.s;
      first = stands findings t p;
      second = stands findings u q;
      order = elim order [
        | inl less ↦ inl (rw (← file, ← start, ← end, ← file', ← start', ← end') less)
        | inr same ↦ inr (same_span p.s.anchor q.s.anchor (sym file ∙ (same.0.0 ∙ file')) (sym start ∙ (same.0.1 ∙ start')) (sym end ∙ (same.0.2 ∙ end')), same.1)
      ];
    }

has_turn : (first : ℕ) (findings : List Suggestion) (i : ℕ) → i < length findings → (k : ℕ) × (t : Turn) × (k < length (turns_from first findings)) × (get_or (turns_from first findings) k t ≡ t) × (t.1 ≡ first + i)
has_turn first [] i lt = absurd (omega arith)
has_turn first (s ∷ ss) zero lt = (0, turn_of s first, omega arith, refl, omega arith)
has_turn first (s ∷ ss) (suc i) lt =
    let h = has_turn (first + 1) ss i (omega arith) in
    (suc h.0, h.1, omega (arith, h.2), h.3, omega (arith, h.4))

pub is_walk : (findings : List Suggestion) (start ts : List Turn) → start ≡ turns_from 0 findings → IsPermutation start ts → IsSorted turn_cmp ts → IsWalk findings (map (λ t. t.1) ts)
is_walk findings start ts is moved sorted =
    let same : IsPermutation (turns_from 0 findings) ts = subst (λ (xs : List Turn). IsPermutation xs ts) is moved in
    let turns = All-permutation (IsTurn 0 findings) (turns_from 0 findings) ts same (are_turns 0 findings) in
    let others = AllPairs-permutation OtherIndex (λ t u ne e. ne (sym e)) (turns_from 0 findings) ts same (other_turns 0 findings) in
    record {
      within = All-map (λ i. i < length findings) (λ t. t.1) ts (λ k d lt. let t = turns k d lt in omega (arith, t.index, slice_get_within findings t.at t.s t.here));
      all = λ i lt.
          let h = has_turn 0 findings i lt in
          let at : h.1.1 ≡ i = omega (arith, h.4) in
          let c = Contains-permutation (turns_from 0 findings) ts h.1 same (h.0, h.2, h.3) in
          (c.0, omega (arith, c.1, length-map ts (λ (t : Turn). t.1)), get_or-map (λ (t : Turn). t.1) ts c.0 h.1 i c.1 ∙ (ap (λ (t : Turn). t.1) c.2 ∙ at));
      ordered = AllPairs-map (IsBefore findings) (λ t. t.1) ts (λ i j d lt l.
          is_before findings (get_or ts i d) (get_or ts j d) (turns i d (omega arith)) (turns j d l) (others i j d lt l)
          (sorted_far (λ a b. is_lt (turn_cmp a b)) (ranks_by turns_total (λ t. t)) ts sorted i j d (omega arith) l));
    }

-- what is taken of the findings left makes, behind what is taken, what is taken of all
abbrev pub Onward : List Suggestion → List Part → List ℕ → List ℕ → List ℕ → Type 0
Onward findings before left all taken = (rest : List ℕ) → Takes findings before left rest → Takes findings [] all (taken ++ rest)

pub onward_taken : (findings : List Suggestion) (before : List Part) (left all taken : List ℕ) (i : ℕ) (s : Suggestion) → slice_get findings i ≡ Some s → (OneMeets s.parts before → ⊥) → Onward findings before (i ∷ left) all taken → Onward findings (before ++ s.parts) left all (taken ++ i ∷ [])
onward_taken findings before left all taken i s is free onward rest h =
    subst (Takes findings [] all) (sym (append_assoc taken (i ∷ []) rest)) (onward (i ∷ rest) (s, is, inl (free, (rest, refl, h))))

pub onward_left : (findings : List Suggestion) (before : List Part) (left all taken : List ℕ) (i : ℕ) (s : Suggestion) → slice_get findings i ≡ Some s → OneMeets s.parts before → Onward findings before (i ∷ left) all taken → Onward findings before left all taken
onward_left findings before left all taken i s is met onward rest h = onward rest (s, is, inr (met, h))

-- the turn at an index is that of a finding
pub next_index : (items : List Turn) (k : ℕ) (d : Turn) → k < length items → map (λ t. t.1) (drop k items) ≡ (get_or items k d).1 ∷ map (λ t. t.1) (drop (k + 1) items)
next_index items k d lt = ap (map (λ t. t.1)) (drop_more items k d lt)

pub index_within : (findings : List Suggestion) (items : List Turn) (k : ℕ) (d : Turn) → IsWalk findings (map (λ t. t.1) items) → k < length items → (get_or items k d).1 < length findings
index_within findings items k d walk lt = subst (λ (n : ℕ). n < length findings) (get_or-map (λ (t : Turn). t.1) items k d 0 lt) (walk.within k 0 (omega (arith, length-map items (λ (t : Turn). t.1))))

pub is_selection : (findings : List Suggestion) (before : List Part) (items : List Turn) (k : ℕ) (taken : List ℕ) → IsWalk findings (map (λ t. t.1) items) → length items ≤ k → Onward findings before (map (λ t. t.1) (drop k items)) (map (λ t. t.1) items) taken → IsSelection findings taken
is_selection findings before items k taken walk end onward = record {
  order = map (λ t. t.1) items;
  walk = walk;
  takes = subst (Takes findings [] (map (λ t. t.1) items)) (append-nil taken) (onward [] (subst (λ (xs : List Turn). Takes findings before (map (λ t. t.1) xs) []) (sym (drop_all k items end)) refl));
}

-- the same of the slices that a function has of them
pub walk_at : (findings slice : List Suggestion) (items turns : List Turn) → slice ≡ findings → items ≡ turns → IsWalk slice (map (λ t. t.1) turns) → IsWalk findings (map (λ t. t.1) items)
walk_at findings slice items turns same is walk = subst (λ (fs : List Suggestion). IsWalk fs (map (λ t. t.1) items)) same (subst (λ (ts : List Turn). IsWalk slice (map (λ t. t.1) ts)) (sym is) walk)

pub finding_at : (findings slice : List Suggestion) (i : ℕ) (s : Suggestion) → slice ≡ findings → i < length findings → s ≡ get_or slice i s → slice_get findings i ≡ Some s
finding_at findings slice i s same lt is = slice_get_read findings (length findings) i s refl lt (is ∙ ap (λ (fs : List Suggestion). get_or fs i s) same)
