-- From the faults of one suggestion to why suggestions are refused.
use Rattle.std.proofs.Common.{inl, inr, ◌≡◌, ◌≢◌, ◌⊎◌, ℕ, ◌+◌, ◌<◌, ◌≤◌, List, [], ◌∷◌, ◌++◌, length, get_or, take, drop, refl, ap, sym, ◌∙◌, subst, arith, append-nil, zero, suc, Some}
use Rattle.std.specs.Prelude.{All, AllPairs, Any, slice_get}
use Rattle.std.proofs.lemmas.List.{take_more, take-append-drop, get_or_append_left, get_or-append-add, length-append}
use Rattle.std.proofs.lemmas.List.Concat.{flat_map-append}
use Rattle.std.proofs.lemmas.List.Elements.{All-append, All-weaker}
use Rattle.std.proofs.lemmas.Option.{slice_get_read, slice_get_within, get_or_from_slice_get}
use Rattle.em_base.specs.declared.edit.Part.{Part}
use Rattle.em_base.specs.declared.edit.Suggestion.{Suggestion}
use Rattle.em_edit.specs.declared.bad_edit.BadEdit.{BadEdit}
use Rattle.em_edit.specs.declared.bad_edit.BadEdit.TheVariants.{NoMemory, OutOfText, NotBoundary, Overlap}
use Rattle.em_edit.specs.Check.{IsFault}
use Rattle.em_edit.specs.Edited.{all_parts}
use Rattle.em_edit.specs.Ends.{Ends, last_of, AreClear, HoldsClear}
use Rattle.em_edit.specs.Faults.{StandsAt, IsInText, IsOnBoundaries, IsRefused}
use Rattle.em_edit.specs.Fit.{LiesIn, Apart, AreApplicable}
use Rattle.em_edit.specs.Meet.{HaveCommonByte, IsPutInside, Meet, TwoMeet}

pub apart_from_clear : (p q : Part) → AreClear p q → Apart p q
apart_from_clear p q (inl files) = inl files
apart_from_clear p q (inr clear) = inr (record { starts = differ p q clear; ranges = ends p q clear })
  where
    differ : (p q : Part) → (last_of p.span < q.span.start) ⊎ (last_of q.span < p.span.start) → p.span.start ≡ q.span.start → ⊥
    differ p q clear same = omega (arith, clear, same)

    ends : (p q : Part) → (last_of p.span < q.span.start) ⊎ (last_of q.span < p.span.start) → (p.span.end ≤ q.span.start) ⊎ (q.span.end ≤ p.span.start)
    ends p q (inl lt) = inl (omega arith)
    ends p q (inr lt) = inr (omega arith)

pub applicable : (sources : List (List ℕ)) (taken : List Suggestion) (m : Ends) → All (LiesIn sources) (all_parts taken) → HoldsClear m (all_parts taken) → AreApplicable sources taken
applicable sources taken m lie holds = record {
  lie = lie;
  apart = λ i j d lt l. apart_from_clear (get_or (all_parts taken) i d) (get_or (all_parts taken) j d) (holds.clear i j d lt l);
}

-- the parts of one suggestion more
pub all_parts-more : (taken : List Suggestion) (i : ℕ) (s : Suggestion) → i < length taken → s ≡ get_or taken i s → all_parts (take i taken) ++ s.parts ≡ all_parts (take (i + 1) taken)
all_parts-more taken i s lt is =
    sym (ap all_parts (take_more taken i s lt)
    ∙ (flat_map-append (λ (x : Suggestion). x.parts) (take i taken) (get_or taken i s ∷ [])
    ∙ (ap (λ (x : Suggestion). all_parts (take i taken) ++ (x.parts ++ [])) (sym is)
    ∙ ap (λ (ps : List Part). all_parts (take i taken) ++ ps) (append-nil s.parts))))

pub all_lie : (sources : List (List ℕ)) (taken : List Suggestion) (i : ℕ) (s : Suggestion) → i < length taken → s ≡ get_or taken i s → All (LiesIn sources) (all_parts (take i taken)) → All (LiesIn sources) s.parts → All (LiesIn sources) (all_parts (take (i + 1) taken))
all_lie sources taken i s lt is before here = subst (λ ps. All (LiesIn sources) ps) (all_parts-more taken i s lt is) (All-append (LiesIn sources) (all_parts (take i taken)) s.parts before here)

pub is_refused : (sources : List (List ℕ)) (taken : List Suggestion) (m : Ends) (i : ℕ) (s : Suggestion) (e : BadEdit) → i < length taken → s ≡ get_or taken i s → All (LiesIn sources) (all_parts (take i taken)) → HoldsClear m (all_parts (take i taken)) → IsFault sources (all_parts (take i taken)) s.parts i e → IsRefused sources taken e
is_refused sources taken m i s e lt is lie holds fault = refused e fault
  where
    stands : (w : ℕ) → w ≡ i → StandsAt sources taken w s
    stands w same = rw same (record { here = slice_get_read taken (length taken) i s refl lt is; before = applicable sources (take i taken) m lie holds })

    refused : (e : BadEdit) → IsFault sources (all_parts (take i taken)) s.parts i e → IsRefused sources taken e
    refused NoMemory f = f
    refused (OutOfText w) f = record { suggestion = s; stands = stands w f.0; out = f.1 }
    refused (NotBoundary w) f = record { suggestion = s; stands = stands w f.0; inside = f.1; cut = f.2 }
    refused (Overlap w) f = record { suggestion = s; stands = stands w f.0; lie = f.1; meet = rw f.0 (subst (λ (ps : List Part). TwoMeet ps) (all_parts-more taken i s lt is) f.2) }

-- ---- suggestions that can be applied have no fault

All-left : {X : Type 0} (P : X → Type 0) (xs ys : List X) → All P (xs ++ ys) → All P xs
All-left P xs ys h k d lt = subst P (get_or_append_left xs ys d k lt) (h k d (omega (arith, length-append xs ys)))

All-right : {X : Type 0} (P : X → Type 0) (xs ys : List X) → All P (xs ++ ys) → All P ys
All-right P xs ys h k d lt = subst P (get_or-append-add xs ys k d) (h (length xs + k) d (omega (arith, length-append xs ys)))

-- what holds of all parts holds of those of one suggestion
pub All-suggestion : (P : Part → Type 0) (taken : List Suggestion) (which : ℕ) (s : Suggestion) → slice_get taken which ≡ Some s → All P (all_parts taken) → All P s.parts
All-suggestion P [] which s is h = absurd (none_some is)
  where
    none_some : slice_get [] which ≡ Some s → ⊥
    none_some e = cc
All-suggestion P (t ∷ ts) zero s is h = subst (λ (x : Suggestion). All P x.parts) (same t s is) (All-left P t.parts (all_parts ts) h)
  where
    same : (t s : Suggestion) → Some t ≡ Some s → t ≡ s
    same t s e = cc
All-suggestion P (t ∷ ts) (suc which) s is h = All-suggestion P ts which s is (All-right P t.parts (all_parts ts) h)

-- some element fails what all meet
no_exception : {X : Type 0} (P : X → Type 0) (xs : List X) → All P xs → Any (λ x. P x → ⊥) xs → ⊥
no_exception P xs all found = found.4 (subst P found.3 (all found.0 found.1 found.2))

in_text : (sources : List (List ℕ)) (p : Part) → LiesIn sources p → IsInText sources p
in_text sources p lies = record { text = lies.text; file = lies.file; ordered = lies.ordered; within = lies.within }

on_boundaries : (sources : List (List ℕ)) (p : Part) → LiesIn sources p → IsOnBoundaries sources p
on_boundaries sources p lies = record { text = lies.text; file = lies.file; starts_whole = lies.starts_whole; ends_whole = lies.ends_whole }

-- parts that are apart don't meet
pub apart_no_meet : (p q : Part) → p.span.start ≤ p.span.end → q.span.start ≤ q.span.end → Apart p q → Meet p q → ⊥
apart_no_meet p q o o' (inl files) m = files m.file
apart_no_meet p q o o' (inr d) m = away p q o o' d.starts d.ranges m.meeting
  where
    away : (p q : Part) → p.span.start ≤ p.span.end → q.span.start ≤ q.span.end → p.span.start ≢ q.span.start → (p.span.end ≤ q.span.start) ⊎ (q.span.end ≤ p.span.start) → (p.span.start ≡ q.span.start) ⊎ (HaveCommonByte p q ⊎ (IsPutInside p q ⊎ IsPutInside q p)) → ⊥
    away p q o o' ne ranges (inl same) = ne same
    away p q o o' ne ranges (inr (inl b)) = omega (arith, ranges, b.one.0, b.one.1, b.other.0, b.other.1)
    away p q o o' ne ranges (inr (inr (inl i))) = omega (arith, ranges, i.insertion, i.behind, i.before)
    away p q o o' ne ranges (inr (inr (inr i))) = omega (arith, ranges, i.insertion, i.behind, i.before)

-- the parts of the first suggestions are the first parts
first_parts : (taken : List Suggestion) (n : ℕ) → all_parts taken ≡ all_parts (take n taken) ++ all_parts (drop n taken)
first_parts taken n = ap all_parts (sym (take-append-drop n taken)) ∙ flat_map-append (λ (x : Suggestion). x.parts) (take n taken) (drop n taken)

no_two : (sources : List (List ℕ)) (parts : List Part) → All (LiesIn sources) parts → AllPairs Apart parts → TwoMeet parts → ⊥
no_two sources parts lie apart two =
    let p_in = slice_get_within parts two.one two.p two.first in
    let q_in = slice_get_within parts two.other two.q two.second in
    let p_is = get_or_from_slice_get parts two.one two.p two.p two.first in
    let q_is = get_or_from_slice_get parts two.other two.q two.p two.second in
    let p_lies = subst (LiesIn sources) p_is (lie two.one two.p p_in) in
    let q_lies = subst (LiesIn sources) q_is (lie two.other two.p q_in) in
    let away = subst (λ (x : Part). Apart x two.q) p_is (subst (λ (x : Part). Apart (get_or parts two.one two.p) x) q_is (apart two.one two.other two.p two.order q_in)) in
    apart_no_meet two.p two.q p_lies.ordered q_lies.ordered away two.meet

AllPairs-left : {X : Type 0} (R : X → X → Type 0) (xs ys : List X) → AllPairs R (xs ++ ys) → AllPairs R xs
AllPairs-left R xs ys h i j d lt l =
    let long : j < length (xs ++ ys) = omega (arith, length-append xs ys) in
    subst (λ x. R x (get_or xs j d)) (get_or_append_left xs ys d i (omega arith)) (subst (λ x. R (get_or (xs ++ ys) i d) x) (get_or_append_left xs ys d j l) (h i j d lt long))

pub no_fault : (sources : List (List ℕ)) (taken : List Suggestion) → AreApplicable sources taken → (e : BadEdit) → IsRefused sources taken e → e ≡ NoMemory
no_fault sources taken fit NoMemory f = refl
no_fault sources taken fit (OutOfText w) f = absurd (no_exception (IsInText sources) f.suggestion.parts (All-weaker (LiesIn sources) (IsInText sources) (in_text sources) f.suggestion.parts (All-suggestion (LiesIn sources) taken w f.suggestion f.stands.here fit.lie)) f.out)
no_fault sources taken fit (NotBoundary w) f = absurd (no_exception (IsOnBoundaries sources) f.suggestion.parts (All-weaker (LiesIn sources) (IsOnBoundaries sources) (on_boundaries sources) f.suggestion.parts (All-suggestion (LiesIn sources) taken w f.suggestion f.stands.here fit.lie)) f.cut)
no_fault sources taken fit (Overlap w) f =
    let split = first_parts taken (w + 1) in
    let lie = subst (λ (ps : List Part). All (LiesIn sources) ps) split fit.lie in
    let apart = subst (λ (ps : List Part). AllPairs Apart ps) split fit.apart in
    absurd (no_two sources (all_parts (take (w + 1) taken)) (All-left (LiesIn sources) (all_parts (take (w + 1) taken)) (all_parts (drop (w + 1) taken)) lie) (AllPairs-left Apart (all_parts (take (w + 1) taken)) (all_parts (drop (w + 1) taken)) apart) f.meet)
