-- Laws of the findings that are taken and of moved places.
use Rattle.std.proofs.Common.{inl, inr, ◌≡◌, ◌⊎◌, ℕ, zero, suc, ◌+◌, ◌-◌, ◌<◌, ◌≤◌, Bool, true, false, cond, ◌&&◌, ◌||◌, eqb, ltb, leb, List, [], ◌∷◌, ◌++◌, length, get_or, take, drop, refl, ap, sym, ◌∙◌, subst, arith, append-nil, append_assoc, add-one, length-append}
use Rattle.std.specs.Prelude.{All, AllPairs}
use Rattle.std.proofs.lemmas.Bool.{cases_Bool, cases_eq, cases_lt, eq-eqb, ne_eqb, and_left, and_right, le-ltb, lt-leb}
use Rattle.std.proofs.lemmas.List.{get_or_default, drop_more, drop_at, take_at, length-take-le, length-drop}
use Rattle.std.proofs.lemmas.List.Elements.{All-nil, All-head, All-tail, All-append, All-filter}
use Rattle.em_base.specs.declared.edit.Part.{Part}
use Rattle.em_base.specs.declared.edit.Suggestion.{Suggestion}
use Rattle.em_edit.specs.Edited.{put_in, is_replaced, edited_on, all_parts, parts_of}
use Rattle.em_edit.specs.Fit.{LiesIn, Apart, AreApplicable}
use Rattle.em_edit.specs.Laws.{picked, TakenFit, NoneMoves, OrderStays, IsOutside, OutsideStays}
use Rattle.em_edit.specs.Meet.{OneMeets}
use Rattle.em_edit.specs.Moved.{kept_before, is_put_before, put_before, moved_offset, moved_span}
use Rattle.em_edit.specs.Selected.{Takes}
use Rattle.em_edit.proofs.AnyOrder.{in_file, turned}
use Rattle.em_edit.proofs.Clearance.{meet_or_clear}
use Rattle.em_edit.proofs.Pairs.{AllPairs-joined}
use Rattle.em_edit.proofs.Places.{put_cons, put_in_cons, put_least, put_step, put_zero, put_passing}
use Rattle.em_edit.proofs.Refusals.{apart_from_clear}
use Rattle.em_edit.proofs.Walking.{same_span}

-- ---- what is taken can be applied

-- parts of a finding that meet none before them are apart from them
apart_across : (before parts : List Part) → (OneMeets parts before → ⊥) → All (λ p. All (Apart p) before) parts
apart_across before parts free k d lt j e l =
    let p = get_or parts k d in
    let q = get_or before j e in
    elim (meet_or_clear p q) [
      | inr clear ↦ apart_from_clear p q clear
      | inl meet ↦ absurd (free (k, p, lt, get_or_default parts k p d lt, (j, q, l, get_or_default before j q e l, meet)))
    ]

all_apart : (sources : List (List ℕ)) (findings : List Suggestion) (before : List Part) (order taken : List ℕ) → Takes findings before order taken → All (λ s. AreApplicable sources (s ∷ [])) (picked findings taken) → AllPairs Apart before → AllPairs Apart (before ++ all_parts (picked findings taken))
all_apart sources findings before [] taken t alone apart = rw (t, append-nil before) apart
all_apart sources findings before (i ∷ is) taken (s, here, inr (met, rest)) alone apart = all_apart sources findings before is taken rest alone apart
all_apart sources findings before (i ∷ is) taken (s, here, inl (free, (others, same, rest))) alone apart =
    let split : picked findings taken ≡ s ∷ picked findings others = ap (λ (xs : List ℕ). picked findings xs) same ∙ rw here refl in
    let alone' = subst (λ ss. All (λ s. AreApplicable sources (s ∷ [])) ss) split alone in
    let own : AllPairs Apart s.parts = subst (λ (ps : List Part). AllPairs Apart ps) (append-nil s.parts) (All-head (λ s. AreApplicable sources (s ∷ [])) s (picked findings others) alone').apart in
    let joined = AllPairs-joined Apart turned before s.parts apart own (apart_across before s.parts free) in
    let later = all_apart sources findings (before ++ s.parts) is others rest (All-tail (λ s. AreApplicable sources (s ∷ [])) s (picked findings others) alone') joined in
    rw split (subst (λ (ps : List Part). AllPairs Apart ps) (append_assoc before s.parts (all_parts (picked findings others))) later)

all_lie : (sources : List (List ℕ)) (taken : List Suggestion) → All (λ s. AreApplicable sources (s ∷ [])) taken → All (LiesIn sources) (all_parts taken)
all_lie sources [] alone = All-nil (LiesIn sources)
all_lie sources (s ∷ ss) alone =
    All-append (LiesIn sources) s.parts (all_parts ss)
    (subst (λ (ps : List Part). All (LiesIn sources) ps) (append-nil s.parts) (All-head (λ s. AreApplicable sources (s ∷ [])) s ss alone).lie)
    (all_lie sources ss (All-tail (λ s. AreApplicable sources (s ∷ [])) s ss alone))

pub taken_fit : TakenFit
taken_fit sources findings taken selection alone = record {
  lie = all_lie sources (picked findings taken) alone;
  apart = all_apart sources findings [] selection.order taken selection.takes alone (λ i j d lt l. absurd (omega arith));
}

-- ---- moved places

kept_all : (x : ℕ) → kept_before [] x ≡ x
kept_all zero = refl
kept_all (suc x) = omega (arith, kept_all x)

pub none_moves : NoneMoves
none_moves span = same_span (moved_span [] span) span refl (omega (arith, kept_all span.start)) (omega (arith, kept_all span.end))

-- one offset further
moved_more : (ps : List Part) (x : ℕ) → moved_offset false ps (suc x) ≡ moved_offset false ps x + length (put_in ps x) + cond (is_replaced ps x) 0 1
moved_more ps x =
    let put : put_before false ps (suc x) ≡ put_before false ps x + length (put_in ps x) = ap (put_before false ps) (sym (add-one x)) ∙ put_step ps x in
    omega arith

-- what is kept and put in before an offset is no more than before a later one
not_less : (ps : List Part) (x y : ℕ) → x < y → moved_offset false ps x + length (put_in ps x) ≤ moved_offset false ps y
not_less ps x zero lt = absurd (omega arith)
not_less ps x (suc y) lt = elim (cases_lt x y) [
  | inl less ↦ omega (arith, moved_more ps y, not_less ps x y less)
  | inr le ↦
      let same : y ≡ x = omega arith in
      subst (λ (n : ℕ). moved_offset false ps x + length (put_in ps x) ≤ moved_offset false ps (suc n)) (sym same) (omega (arith, moved_more ps x))
]

-- passing an insertion adds its text
put_passed : (ps : List Part) (x : ℕ) → put_before false ps x ≤ put_before true ps x
put_passed [] x = omega arith
put_passed (p ∷ ps) x = elim (cases_Bool (ltb p.span.start x)) [
  | inl before ↦
      let a : is_put_before false x p ≡ true = rw before refl in
      let b : is_put_before true x p ≡ true = rw before refl in
      omega (arith, put_cons false p ps x true a, put_cons true p ps x true b, put_passed ps x)
  | inr late ↦
      let a : is_put_before false x p ≡ false = rw late refl in
      omega (arith, put_cons false p ps x false a, put_least true p ps x, put_passed ps x)
]

moved_mono : (ps : List Part) (b : Bool) (x y : ℕ) → x ≤ y → moved_offset b ps x ≤ moved_offset true ps y
moved_mono ps b x y le = elim (cases_lt x y) [
  | inl lt ↦ omega (arith, put_passing b ps x, not_less ps x y lt, put_passed ps y)
  | inr ge ↦
      let same : y ≡ x = omega arith in
      subst (λ (n : ℕ). moved_offset b ps x ≤ moved_offset true ps n) (sym same) (either b)
]
  where
    either : (b : Bool) → moved_offset b ps x ≤ moved_offset true ps x
    either true = omega arith
    either false = omega (arith, put_passed ps x)

pub order_stays : OrderStays
order_stays taken one other file ordered before =
    let same : parts_of one.file taken ≡ parts_of other.file taken = ap (λ (f : ℕ). parts_of f taken) file in
    subst (λ (ps : List Part). moved_offset (eqb one.start one.end) (parts_of one.file taken) one.end ≤ moved_offset true ps other.start) same
    (moved_mono (parts_of one.file taken) (eqb one.start one.end) one.end other.start before)

-- ---- what lies outside of all parts

-- what is made of the bytes before an offset
record IsFront (ps : List Part) (text : List ℕ) (x : ℕ) : Type 0 where
  front : List ℕ
  size : length front ≡ moved_offset false ps x
  made : edited_on ps 0 text ≡ front ++ edited_on ps x (drop x text)

-- what stands at an offset behind what is put in there
abbrev tail : List Part → ℕ → List ℕ → List ℕ
tail ps o [] = []
tail ps o (b ∷ bs) = (cond (is_replaced ps o) [] (b ∷ [])) ++ edited_on ps (o + 1) bs

is_front : (ps : List Part) (text : List ℕ) (x : ℕ) → x ≤ length text → IsFront ps text x
is_front ps text zero le = record { front = []; size = omega (arith, put_zero ps); made = refl }
is_front ps text (suc x) le =
    let f = is_front ps text x (omega arith) in
    let here : List ℕ = cond (is_replaced ps x) [] (get_or text x 0 ∷ []) in
    let next : drop x text ≡ get_or text x 0 ∷ drop (suc x) text = rw (sym (add-one x)) (drop_more text x 0 (omega arith)) in
    let long : length here ≡ cond (is_replaced ps x) 0 1 = byte (is_replaced ps x) (get_or text x 0) in
    record {
      front = f.front ++ (put_in ps x ++ here);
      size = omega (arith, f.size, length-append f.front (put_in ps x ++ here), length-append (put_in ps x) here, long, moved_more ps x);
      made = f.made
          ∙ (ap (λ (ys : List ℕ). f.front ++ edited_on ps x ys) next
          ∙ (grouped f.front (put_in ps x) here (edited_on ps (x + 1) (drop (suc x) text))
          ∙ ap (λ (n : ℕ). (f.front ++ (put_in ps x ++ here)) ++ edited_on ps n (drop (suc x) text)) (add-one x)));
    }
  where
    byte : (r : Bool) (b : ℕ) → length (cond r [] (b ∷ [])) ≡ cond r 0 1
    byte true b = refl
    byte false b = refl

    grouped : (a b c d : List ℕ) → a ++ (b ++ (c ++ d)) ≡ (a ++ (b ++ c)) ++ d
    grouped a b c d = simp append_assoc

abbrev IsClearOf : ℕ → ℕ → Part → Type 0
IsClearOf o n p = (p.span.start ≤ p.span.end) × ((p.span.end ≤ o) ⊎ (o + n ≤ p.span.start))

none_inside : (o n x : ℕ) (ps : List Part) → All (IsClearOf o n) ps → o < x → x < o + n → put_in ps x ≡ []
none_inside o n x [] h lt lt' = refl
none_inside o n x (p ∷ ps) h lt lt' =
    let first = All-head (IsClearOf o n) p ps h in
    let off : eqb p.span.start x ≡ false = ne_eqb p.span.start x (λ e. omega (arith, first.0, first.1)) in
    rw off (none_inside o n x ps (All-tail (IsClearOf o n) p ps h) lt lt')

none_replaced : (o n x : ℕ) (ps : List Part) → All (IsClearOf o n) ps → o ≤ x → x < o + n → is_replaced ps x ≡ false
none_replaced o n x [] h le lt = refl
none_replaced o n x (p ∷ ps) h le lt =
    let first = All-head (IsClearOf o n) p ps h in
    let out : (leb p.span.start x && ltb x p.span.end) ≡ false = outside p first.0 first.1 in
    rw out (none_replaced o n x ps (All-tail (IsClearOf o n) p ps h) le lt)
  where
    outside : (p : Part) → p.span.start ≤ p.span.end → (p.span.end ≤ o) ⊎ (o + n ≤ p.span.start) → (leb p.span.start x && ltb x p.span.end) ≡ false
    outside p w (inl e) = and_right (leb p.span.start x) (ltb x p.span.end) (le-ltb x p.span.end (omega arith))
    outside p w (inr s) = and_left (leb p.span.start x) (ltb x p.span.end) (lt-leb p.span.start x (omega arith))

record Runs (ps : List Part) (x n : ℕ) (text : List ℕ) : Type 0 where
  rest : List ℕ
  made : tail ps x text ≡ take n text ++ rest

-- where no part is, the bytes stand one after the other
run : (a n : ℕ) (ps : List Part) → All (IsClearOf a n) ps → (m x : ℕ) (text : List ℕ) → a ≤ x → x + suc m ≡ a + n → suc m ≤ length text → Runs ps x (suc m) text
run a n ps h m x [] le e long = absurd (omega arith)
run a n ps h zero x (b ∷ bs) le e long = record { rest = edited_on ps (x + 1) bs; made = rw (none_replaced a n x ps h le (omega arith)) refl }
run a n ps h (suc m) x (b ∷ []) le e long = absurd (omega arith)
run a n ps h (suc m) x (b ∷ (d ∷ ds)) le e long =
    let r = run a n ps h m (x + 1) (d ∷ ds) (omega arith) (omega arith) (omega arith) in
    let none : put_in ps (x + 1) ≡ [] = none_inside a n (x + 1) ps h (omega arith) (omega arith) in
    record { rest = r.rest; made = rw (none_replaced a n x ps h le (omega arith)) (ap (λ (ys : List ℕ). b ∷ ys) (ap (λ (ys : List ℕ). ys ++ tail ps (x + 1) (d ∷ ds)) none ∙ r.made)) }

unreplaced : (r : Bool) → r ≡ false → (cond {A = ℕ} r 0 1) ≡ 1
unreplaced r h = rw h refl

moved_run : (a n : ℕ) (ps : List Part) → All (IsClearOf a n) ps → (m y : ℕ) → y ≡ a + suc m → suc m ≤ n → moved_offset false ps y ≡ moved_offset false ps a + length (put_in ps a) + suc m
moved_run a n ps h zero y e le =
    let at : y ≡ suc a = omega arith in
    let kept = unreplaced (is_replaced ps a) (none_replaced a n a ps h (omega arith) (omega arith)) in
    ap (moved_offset false ps) at ∙ omega (arith, moved_more ps a, kept)
moved_run a n ps h (suc m) y e le =
    let x : ℕ = a + suc m in
    let at : y ≡ suc (a + suc m) = omega arith in
    let kept = unreplaced (is_replaced ps (a + suc m)) (none_replaced a n (a + suc m) ps h (omega arith) (omega arith)) in
    let none : length (put_in ps (a + suc m)) ≡ 0 = ap length (none_inside a n (a + suc m) ps h (omega arith) (omega arith)) in
    ap (moved_offset false ps) at ∙ omega (arith, moved_more ps (a + suc m), kept, none, moved_run a n ps h m (a + suc m) refl (omega arith))

-- where only insertions start, all that is put in is passed
put_all_passed : (ps : List Part) (a : ℕ) → All (λ p. p.span.start ≡ a → p.span.end ≡ a) ps → put_before true ps a ≡ put_before false ps a + length (put_in ps a)
put_all_passed [] a h = refl
put_all_passed (p ∷ ps) a h =
    let first = All-head (λ q. q.span.start ≡ a → q.span.end ≡ a) p ps h in
    let later = put_all_passed ps a (All-tail (λ q. q.span.start ≡ a → q.span.end ≡ a) p ps h) in
    elim (cases_eq p.span.start a) [
      | inl here ↦
          let late : ltb p.span.start a ≡ false = le-ltb p.span.start a (omega arith) in
          let on : eqb p.span.start a ≡ true = eq-eqb p.span.start a here in
          let ends : eqb p.span.end a ≡ true = eq-eqb p.span.end a (first here) in
          let u : is_put_before true a p ≡ true = rw (late, on, ends) refl in
          let v : is_put_before false a p ≡ false = rw late refl in
          omega (arith, put_cons true p ps a true u, put_cons false p ps a false v, put_in_cons p ps a true on, later)
      | inr ne ↦
          let off : eqb p.span.start a ≡ false = ne_eqb p.span.start a ne in
          let same : is_put_before true a p ≡ is_put_before false a p = either (ltb p.span.start a) (eqb p.span.end a) off in
          omega (arith, put_cons true p ps a (is_put_before false a p) same, put_cons false p ps a (is_put_before false a p) refl, put_in_cons p ps a false off, later)
    ]
  where
    either : (lt e : Bool) → eqb p.span.start a ≡ false → (lt || (true && (eqb p.span.start a && e))) ≡ (lt || (false && (eqb p.span.start a && e)))
    either true e off = refl
    either false e off = rw off refl

-- a range that isn't empty
stays : (ps : List Part) (text : List ℕ) (a m : ℕ) → All (IsClearOf a (suc m)) ps → a + suc m ≤ length text → take (moved_offset false ps (a + suc m) - moved_offset true ps a) (drop (moved_offset true ps a) (edited_on ps 0 text)) ≡ take (suc m) (drop a text)
stays ps text a m h long =
    let f = is_front ps text a (omega arith) in
    let t : List ℕ = drop a text in
    let enough : suc m ≤ length (drop a text) = omega (arith, length-drop a text) in
    let r = run a (suc m) ps h m a (drop a text) (omega arith) refl enough in
    let put = put_all_passed ps a (λ k d lt start. let c = h k d lt in omega (arith, start, c.0, c.1)) in
    let start : length (f.front ++ put_in ps a) ≡ moved_offset true ps a = omega (arith, length-append f.front (put_in ps a), f.size, put) in
    let moved = moved_run a (suc m) ps h m (a + suc m) refl (omega arith) in
    let size : moved_offset false ps (a + suc m) - moved_offset true ps a ≡ suc m = omega (arith, moved, put) in
    let made : edited_on ps 0 text ≡ (f.front ++ put_in ps a) ++ (take (suc m) (drop a text) ++ r.rest) =
    f.made ∙ (ap (λ (ys : List ℕ). f.front ++ ys) (whole (drop a text) enough ∙ ap (λ (ys : List ℕ). put_in ps a ++ ys) r.made) ∙ sym (append_assoc f.front (put_in ps a) (take (suc m) (drop a text) ++ r.rest))) in
    ap (λ (n : ℕ). take n (drop (moved_offset true ps a) (edited_on ps 0 text))) size
    ∙ (ap (λ (ys : List ℕ). take (suc m) (drop (moved_offset true ps a) ys)) made
    ∙ (ap (take (suc m)) (drop_at (f.front ++ put_in ps a) (take (suc m) (drop a text) ++ r.rest) (moved_offset true ps a) start)
    ∙ take_at (take (suc m) (drop a text)) r.rest (suc m) (length-take-le (suc m) (drop a text) enough)))
  where
    whole : (ys : List ℕ) → suc m ≤ length ys → edited_on ps a ys ≡ put_in ps a ++ tail ps a ys
    whole [] le = absurd (omega arith)
    whole (b ∷ bs) le = refl

pub outside_stays : OutsideStays
outside_stays sources taken span text fit source ordered within outside =
    let ps = parts_of span.file taken in
    let lie = All-filter (in_file span.file) (LiesIn sources) (all_parts taken) fit.lie in
    elim (cases_lt span.start span.end) [
      | inl bytes ↦ some ps (span.end - span.start) refl (λ k d lt. ((lie k d lt).ordered, outside k d lt)) bytes
      | inr none ↦ empty ps (omega arith)
    ]
  where
    some : (ps : List Part) (n : ℕ) → n ≡ span.end - span.start → ((k : ℕ) (d : Part) → k < length ps → ((get_or ps k d).span.start ≤ (get_or ps k d).span.end) × IsOutside span (get_or ps k d)) → span.start < span.end → take (moved_offset (eqb span.start span.end) ps span.end - moved_offset true ps span.start) (drop (moved_offset true ps span.start) (edited_on ps 0 text)) ≡ take (span.end - span.start) (drop span.start text)
    some ps zero e clear lt = absurd (omega arith)
    some ps (suc m) e clear lt =
        let other : eqb span.start span.end ≡ false = ne_eqb span.start span.end (λ s. omega arith) in
        let end : span.start + suc m ≡ span.end = omega arith in
        rw (other, ← e, ← end) (stays ps text span.start m (λ k d l. let c = clear k d l in (c.0, clear_of (get_or ps k d) c.1)) (omega arith))
      where
        clear_of : (p : Part) → IsOutside span p → (p.span.end ≤ span.start) ⊎ (span.start + suc m ≤ p.span.start)
        clear_of p (inl le) = inl le
        clear_of p (inr le) = inr (omega arith)

    empty : (ps : List Part) → span.start ≡ span.end → take (moved_offset (eqb span.start span.end) ps span.end - moved_offset true ps span.start) (drop (moved_offset true ps span.start) (edited_on ps 0 text)) ≡ take (span.end - span.start) (drop span.start text)
    empty ps e =
        let on : eqb span.start span.end ≡ true = eq-eqb span.start span.end e in
        let none : span.end - span.start ≡ 0 = omega arith in
        let same : moved_offset (eqb span.start span.end) ps span.end - moved_offset true ps span.start ≡ 0 = rw on (omega (arith, ap (moved_offset true ps) e)) in
        rw (same, none) refl
