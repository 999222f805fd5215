-- Parts that meet and parts that are clear of one another.
use Rattle.std.proofs.Common.{inl, inr, ◌≡◌, ◌≢◌, ◌⊎◌, ℕ, ◌+◌, ◌<◌, ◌≤◌, max, List, [], ◌∷◌, ◌++◌, length, get_or, take, drop, refl, ap, sym, ◌∙◌, arith}
use Rattle.std.specs.Prelude.{Any}
use Rattle.std.proofs.lemmas.Bool.{cases_lt, cases_eq}
use Rattle.std.proofs.lemmas.List.{get_or_append_left, get_or-append-add, length_push, take_more, take_all, append_assoc, length-append, length-take, take-append-drop}
use Rattle.std.proofs.lemmas.Option.{slice_get_read}
use Rattle.em_base.specs.declared.edit.Part.{Part}
use Rattle.em_edit.specs.Ends.{last_of, AreClear}
use Rattle.em_edit.specs.Meet.{HaveCommonByte, IsPutInside, Meet, TwoMeet}

-- parts of one file, neither of which ends before the other's start, meet
pub meet_across : (p q : Part) → p.span.file ≡ q.span.file → q.span.start ≤ last_of p.span → p.span.start ≤ last_of q.span → Meet p q
meet_across p q file over under = record { file = file; meeting = across }
  where
    some : p.span.start ≢ q.span.start → HaveCommonByte p q ⊎ (IsPutInside p q ⊎ IsPutInside q p)
    some ne = elim (cases_lt p.span.start p.span.end) [
      | inl bytes ↦ elim (cases_lt q.span.start q.span.end) [
        | inl bytes' ↦ inl (record { offset = max p.span.start q.span.start; one = (omega arith, omega arith); other = (omega arith, omega arith) })
        | inr none' ↦ inr (inr (record { insertion = none'; behind = omega arith; before = omega arith }))
      ]
      | inr none ↦ inr (inl (record { insertion = none; behind = omega arith; before = omega arith }))
    ]

    across : (p.span.start ≡ q.span.start) ⊎ (HaveCommonByte p q ⊎ (IsPutInside p q ⊎ IsPutInside q p))
    across = elim (cases_eq p.span.start q.span.start) [
      | inl same ↦ inl same
      | inr ne ↦ inr (some ne)
    ]

-- parts that are clear of one another don't meet
pub clear_apart : (p q : Part) → AreClear p q → Meet p q → ⊥
clear_apart p q (inl files) m = files m.file
clear_apart p q (inr clear) m = away p q clear m.meeting
  where
    away : (p q : Part) → (last_of p.span < q.span.start) ⊎ (last_of q.span < p.span.start) → (p.span.start ≡ q.span.start) ⊎ (HaveCommonByte p q ⊎ (IsPutInside p q ⊎ IsPutInside q p)) → ⊥
    away p q clear (inl same) = omega (arith, clear, same)
    away p q clear (inr (inl b)) = omega (arith, clear, b.one.0, b.one.1, b.other.0, b.other.1)
    away p q clear (inr (inr (inl i))) = omega (arith, clear, i.insertion, i.behind, i.before)
    away p q clear (inr (inr (inr i))) = omega (arith, clear, i.insertion, i.behind, i.before)

pub clear_turned : (p q : Part) → AreClear p q → AreClear q p
clear_turned p q (inl files) = inl (λ e. files (sym e))
clear_turned p q (inr (inl a)) = inr (inr a)
clear_turned p q (inr (inr b)) = inr (inl b)

-- two parts meet or are clear of one another
pub meet_or_clear : (p q : Part) → Meet p q ⊎ AreClear p q
meet_or_clear p q = elim (cases_eq p.span.file q.span.file) [
  | inr files ↦ inr (inl files)
  | inl file ↦ elim (cases_lt (last_of p.span) q.span.start) [
    | inl before ↦ inr (inr (inl before))
    | inr over ↦ elim (cases_lt (last_of q.span) p.span.start) [
      | inl behind ↦ inr (inr (inr behind))
      | inr under ↦ inl (meet_across p q file over under)
    ]
  ]
]

-- an element of a list is one of a longer list
pub Any-longer : {X : Type 0} (P : X → Type 0) (xs : List X) (y : X) → Any P xs → Any P (xs ++ y ∷ [])
Any-longer P xs y found = (found.0, found.1, omega (arith, found.2, length_push xs y), get_or_append_left xs (y ∷ []) found.1 found.0 found.2 ∙ found.3, found.4)

-- ---- one part after another is put into the map

meet_turned : (p q : Part) → Meet p q → Meet q p
meet_turned p q m = record { file = sym m.file; meeting = turn p q m.meeting }
  where
    turn : (p q : Part) → (p.span.start ≡ q.span.start) ⊎ (HaveCommonByte p q ⊎ (IsPutInside p q ⊎ IsPutInside q p)) → (q.span.start ≡ p.span.start) ⊎ (HaveCommonByte q p ⊎ (IsPutInside q p ⊎ IsPutInside p q))
    turn p q (inl same) = inl (sym same)
    turn p q (inr (inl b)) = inr (inl (record { offset = b.offset; one = b.other; other = b.one }))
    turn p q (inr (inr (inl i))) = inr (inr (inr i))
    turn p q (inr (inr (inr i))) = inr (inr (inl i))

pub more_parts : (before parts : List Part) (i : ℕ) (p : Part) → i < length parts → p ≡ get_or parts i p → (before ++ take i parts) ++ p ∷ [] ≡ before ++ take (i + 1) parts
more_parts before parts i p lt is = append_assoc before (take i parts) (p ∷ []) ∙ ap (λ (xs : List Part). before ++ xs) (ap (λ (x : Part). take i parts ++ x ∷ []) is ∙ sym (take_more parts i p lt))

pub all_parts_put : (before parts : List Part) (i : ℕ) → length parts ≤ i → before ++ take i parts ≡ before ++ parts
all_parts_put before parts i le = ap (λ (xs : List Part). before ++ xs) (take_all i parts le)

-- a part that meets one of those before it
pub meets_earlier : (before parts : List Part) (i : ℕ) (p : Part) → i < length parts → p ≡ get_or parts i p → Any (Meet p) (before ++ take i parts) → TwoMeet (before ++ parts)
meets_earlier before parts i p lt is found =
    let q = found.1 in
    let short : found.0 < length before + i = omega (arith, found.2, length-append before (take i parts), length-take i parts) in
    let all : before ++ parts ≡ (before ++ take i parts) ++ drop i parts = ap (λ (xs : List Part). before ++ xs) (sym (take-append-drop i parts)) ∙ sym (append_assoc before (take i parts) (drop i parts)) in
    let there : q ≡ get_or (before ++ parts) found.0 q = sym (ap (λ (xs : List Part). get_or xs found.0 q) all ∙ (get_or_append_left (before ++ take i parts) (drop i parts) q found.0 found.2 ∙ found.3)) in
    let here : p ≡ get_or (before ++ parts) (length before + i) p = is ∙ sym (get_or-append-add before parts i p) in
    let long : length (before ++ parts) ≡ length before + length parts = length-append before parts in
    record {
      one = found.0;
      other = length before + i;
      order = short;
      p = q;
      q = p;
      first = slice_get_read (before ++ parts) (length (before ++ parts)) found.0 q refl (omega arith) there;
      second = slice_get_read (before ++ parts) (length (before ++ parts)) (length before + i) p refl (omega arith) here;
      meet = meet_turned p q found.4;
    }

Any-left : {X : Type 0} (P : X → Type 0) (xs ys : List X) → Any P xs → Any P (xs ++ ys)
Any-left P xs ys found = (found.0, found.1, omega (arith, found.2, length-append xs ys), get_or_append_left xs ys found.1 found.0 found.2 ∙ found.3, found.4)
