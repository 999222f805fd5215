-- The place of an offset in an edited text.
use Rattle.std.proofs.Common.{inl, inr, ◌≡◌, ℕ, zero, suc, ◌+◌, ◌-◌, ◌^◌, ◌<◌, ◌≤◌, min, Bool, true, false, cond, ◌&&◌, eqb, ltb, leb, List, [], ◌∷◌, ◌++◌, length, get_or, drop, refl, ap, sym, ◌∙◌, arith, length-append, add-one}
use Rattle.std.specs.Prelude.{All, AllPairs, filter, sum_by}
use Rattle.std.specs.List.{list_any}
use Rattle.std.proofs.lemmas.Bool.{cases_Bool, cases_order, cases_lt, lt-ltb, le-ltb, eq-eqb, ne_eqb, le-leb, lt-leb, and_parts, eqb-true, leb-true, ltb-true}
use Rattle.std.proofs.lemmas.List.Elements.{All-head, All-tail, All-weaker}
use Rattle.std.proofs.lemmas.List.{drop_more}
use Rattle.std.proofs.lemmas.List.Sums.{sum_by-cons}
use Rattle.em_base.specs.declared.edit.Part.{Part}
use Rattle.em_base.specs.declared.edit.Suggestion.{Suggestion}
use Rattle.em_edit.specs.Edited.{put_in, is_replaced, edited_on, all_parts, parts_of}
use Rattle.em_edit.specs.Fit.{Apart, LiesIn}
use Rattle.em_edit.specs.Moved.{kept_before, is_put_before, put_before, moved_offset}
use Rattle.em_edit.specs.Shift.{put_by, removed_by, HasPlace}
use Rattle.em_edit.proofs.AnyOrder.{in_file, list_any-filter}
use Rattle.em_edit.proofs.Pairs.{AllPairs-head, AllPairs-tail}

-- ---- texts put in before an offset

pub put_cons : (b : Bool) (p : Part) (ps : List Part) (x : ℕ) (t : Bool) → is_put_before b x p ≡ t → put_before b (p ∷ ps) x ≡ (cond t (length p.text) 0) + put_before b ps x
put_cons b p ps x true h = rw h (sum_by-cons (λ q. length q.text) p (filter (is_put_before b x) ps))
put_cons b p ps x false h = rw h (omega arith)

pub put_in_cons : (p : Part) (ps : List Part) (x : ℕ) (t : Bool) → eqb p.span.start x ≡ t → length (put_in (p ∷ ps) x) ≡ (cond t (length p.text) 0) + length (put_in ps x)
put_in_cons p ps x true h = rw h (length-append p.text (put_in ps x))
put_in_cons p ps x false h = rw h (omega arith)

pub put_step : (ps : List Part) (x : ℕ) → put_before false ps (x + 1) ≡ put_before false ps x + length (put_in ps x)
put_step [] x = omega arith
put_step (p ∷ ps) x =
    let later = put_step ps x in
    elim (cases_order p.span.start x) [
      | inl here ↦
          let a : is_put_before false (x + 1) p ≡ true = rw (lt-ltb p.span.start (x + 1) (omega arith)) refl in
          let b : is_put_before false x p ≡ false = rw (le-ltb p.span.start x (omega arith)) refl in
          omega (arith, put_cons false p ps (x + 1) true a, put_cons false p ps x false b, put_in_cons p ps x true (eq-eqb p.span.start x here), later)
      | inr other ↦ elim other [
        | inl before ↦
            let a : is_put_before false (x + 1) p ≡ true = rw (lt-ltb p.span.start (x + 1) (omega arith)) refl in
            let b : is_put_before false x p ≡ true = rw (lt-ltb p.span.start x before) refl in
            omega (arith, put_cons false p ps (x + 1) true a, put_cons false p ps x true b, put_in_cons p ps x false (ne_eqb p.span.start x (λ e. omega arith)), later)
        | inr behind ↦
            let a : is_put_before false (x + 1) p ≡ false = rw (le-ltb p.span.start (x + 1) (omega arith)) refl in
            let b : is_put_before false x p ≡ false = rw (le-ltb p.span.start x (omega arith)) refl in
            omega (arith, put_cons false p ps (x + 1) false a, put_cons false p ps x false b, put_in_cons p ps x false (ne_eqb p.span.start x (λ e. omega arith)), later)
      ]
    ]

pub put_zero : (ps : List Part) → put_before false ps 0 ≡ 0
put_zero [] = refl
put_zero (p ∷ ps) = omega (arith, put_cons false p ps 0 false (rw (le-ltb p.span.start 0 (omega arith)) refl), put_zero ps)

-- at the next offset comes what is put in there, and the byte, unless it is replaced
pub one_more : (ps : List Part) (text : List ℕ) (x : ℕ) → suc x ≤ length text → length (edited_on ps x (drop x text)) ≡ length (put_in ps x) + ((cond (is_replaced ps x) 0 1) + length (edited_on ps (suc x) (drop (suc x) text)))
one_more ps text x le =
    let next : drop x text ≡ get_or text x 0 ∷ drop (suc x) text = rw (sym (add-one x)) (drop_more text x 0 (omega arith)) in
    ap (λ (ys : List ℕ). length (edited_on ps x ys)) next
    ∙ (length-append (put_in ps x) ((cond (is_replaced ps x) [] (get_or text x 0 ∷ [])) ++ edited_on ps (x + 1) (drop (suc x) text))
    ∙ (ap (λ (n : ℕ). length (put_in ps x) + n) (byte (is_replaced ps x) (get_or text x 0) (edited_on ps (x + 1) (drop (suc x) text)))
    ∙ ap (λ (n : ℕ). length (put_in ps x) + ((cond (is_replaced ps x) 0 1) + length (edited_on ps n (drop (suc x) text)))) (add-one x)))
  where
    byte : (r : Bool) (b : ℕ) (ys : List ℕ) → length ((cond r [] (b ∷ [])) ++ ys) ≡ (cond r 0 1) + length ys
    byte true b ys = omega arith
    byte false b ys = omega arith

-- the edited text is what is kept and put in before an offset, and what comes from there
pub edited_length : (ps : List Part) (text : List ℕ) (x : ℕ) → x ≤ length text → length (edited_on ps 0 text) ≡ (kept_before ps x + put_before false ps x) + length (edited_on ps x (drop x text))
edited_length ps text zero le = omega (arith, put_zero ps)
edited_length ps text (suc x) le =
    let put : put_before false ps (suc x) ≡ put_before false ps x + length (put_in ps x) = ap (put_before false ps) (sym (add-one x)) ∙ put_step ps x in
    omega (arith, edited_length ps text x (omega arith), put, one_more ps text x le)

-- a part more puts in no less
pub put_least : (b : Bool) (p : Part) (ps : List Part) (x : ℕ) → put_before b ps x ≤ put_before b (p ∷ ps) x
put_least b p ps x = elim (cases_Bool (is_put_before b x p)) [
  | inl in' ↦ omega (arith, put_cons b p ps x true in')
  | inr out ↦ omega (arith, put_cons b p ps x false out)
]

put_most : (b : Bool) (p : Part) (ps : List Part) (x : ℕ) → put_before b (p ∷ ps) x ≤ length p.text + put_before b ps x
put_most b p ps x = elim (cases_Bool (is_put_before b x p)) [
  | inl in' ↦ omega (arith, put_cons b p ps x true in')
  | inr out ↦ omega (arith, put_cons b p ps x false out)
]

not_passed : (b : Bool) (x : ℕ) (p : Part) → ltb p.span.start x ≡ false → eqb p.span.start x ≡ false → is_put_before b x p ≡ false
not_passed true x p lt eq = rw (lt, eq) refl
not_passed false x p lt eq = rw lt refl

pub put_first : (ps : List Part) (x : ℕ) (text : List ℕ) → length (put_in ps x) ≤ length (edited_on ps x text)
put_first ps x [] = omega arith
put_first ps x (b ∷ bs) = omega (arith, length-append (put_in ps x) ((cond (is_replaced ps x) [] (b ∷ [])) ++ edited_on ps (x + 1) bs))

-- what is put in before an offset that passes an insertion there is put in before it or at it
pub put_passing : (b : Bool) (ps : List Part) (x : ℕ) → put_before b ps x ≤ put_before false ps x + length (put_in ps x)
put_passing b [] x = omega arith
put_passing b (p ∷ ps) x =
    let later = put_passing b ps x in
    elim (cases_order p.span.start x) [
      | inl here ↦
          let c : is_put_before false x p ≡ false = rw (le-ltb p.span.start x (omega arith)) refl in
          let u = put_most b p ps x in
          omega (arith, u, put_cons false p ps x false c, put_in_cons p ps x true (eq-eqb p.span.start x here), later)
      | inr other ↦ elim other [
        | inl before ↦
            let c : is_put_before false x p ≡ true = rw (lt-ltb p.span.start x before) refl in
            let u = put_most b p ps x in
            omega (arith, u, put_cons false p ps x true c, put_in_cons p ps x false (ne_eqb p.span.start x (λ e. omega arith)), later)
        | inr behind ↦
            let c : is_put_before false x p ≡ false = rw (le-ltb p.span.start x (omega arith)) refl in
            let off : eqb p.span.start x ≡ false = ne_eqb p.span.start x (λ e. omega arith) in
            let a : is_put_before b x p ≡ false = not_passed b x p (le-ltb p.span.start x (omega arith)) off in
            omega (arith, put_cons b p ps x false a, put_cons false p ps x false c, put_in_cons p ps x false off, later)
      ]
    ]

-- a place in the edited text lies in it
pub place_within : (b : Bool) (ps : List Part) (text : List ℕ) (x : ℕ) → x ≤ length text → moved_offset b ps x ≤ length (edited_on ps 0 text)
place_within b ps text x le = omega (arith, edited_length ps text x le, put_passing b ps x, put_first ps x (drop x text))

-- ---- what the parts of a file replace before an offset

abbrev covers : ℕ → ℕ → Part → Bool
covers f x p = in_file f p && (leb p.span.start x && ltb x p.span.end)

abbrev covered_by : ℕ → ℕ → Part → ℕ
covered_by f x p = cond (covers f x p) 1 0

ends_step : (s e x : ℕ) → min e (x + 1) - min s (x + 1) ≡ (min e x - min s x) + cond (leb s x && ltb x e) 1 0
ends_step s e x = elim (cases_lt x s) [
  | inl early ↦ rw (lt-leb s x early) (omega arith)
  | inr from ↦ elim (cases_lt x e) [
    | inl in' ↦ rw (le-leb s x from, lt-ltb x e in') (omega arith)
    | inr past ↦ rw (le-leb s x from, le-ltb x e past) (omega arith)
  ]
]

removed_step : (f x : ℕ) (p : Part) → removed_by f (x + 1) p ≡ removed_by f x p + covered_by f x p
removed_step f x p = elim (cases_Bool (in_file f p)) [
  | inl here ↦ rw here (ends_step p.span.start p.span.end x)
  | inr other ↦ rw other refl
]

removed_sum : (f x : ℕ) (ps : List Part) → sum_by (removed_by f (x + 1)) ps ≡ sum_by (removed_by f x) ps + sum_by (covered_by f x) ps
removed_sum f x [] = refl
removed_sum f x (p ∷ ps) = omega (arith, removed_sum f x ps, removed_step f x p, sum_by-cons (removed_by f (x + 1)) p ps, sum_by-cons (removed_by f x) p ps, sum_by-cons (covered_by f x) p ps)

removed_none : (f : ℕ) (ps : List Part) → sum_by (removed_by f 0) ps ≡ 0
removed_none f [] = refl
removed_none f (p ∷ ps) = omega (arith, removed_none f ps, removed_zero f p, sum_by-cons (removed_by f 0) p ps)
  where
    removed_zero : (f : ℕ) (p : Part) → removed_by f 0 p ≡ 0
    removed_zero f p = elim (cases_Bool (in_file f p)) [
      | inl here ↦ rw here (omega arith)
      | inr other ↦ rw other refl
    ]

not_covered : (f x : ℕ) (ps : List Part) → All (λ p. covers f x p ≡ false) ps → sum_by (covered_by f x) ps ≡ 0
not_covered f x [] h = refl
not_covered f x (p ∷ ps) h =
    let first : covered_by f x p ≡ 0 = rw (All-head (λ q. covers f x q ≡ false) p ps h) refl in
    omega (arith, not_covered f x ps (All-tail (λ q. covers f x q ≡ false) p ps h), first, sum_by-cons (covered_by f x) p ps)

abbrev IsOrdered : Part → Type 0
IsOrdered p = p.span.start ≤ p.span.end

both : (f x : ℕ) (p q : Part) → IsOrdered p → IsOrdered q → (in_file f p ≡ true) × ((leb p.span.start x && ltb x p.span.end) ≡ true) → (in_file f q ≡ true) × ((leb q.span.start x && ltb x q.span.end) ≡ true) → Apart p q → ⊥
both f x p q o o' h h' (inl files) = files (eqb-true p.span.file f h.0 ∙ sym (eqb-true q.span.file f h'.0))
both f x p q o o' h h' (inr d) =
    let a = and_parts (leb p.span.start x) (ltb x p.span.end) h.1 in
    let b = and_parts (leb q.span.start x) (ltb x q.span.end) h'.1 in
    let ranges = d.ranges in
    omega (arith, leb-true p.span.start x a.0, ltb-true x p.span.end a.1, leb-true q.span.start x b.0, ltb-true x q.span.end b.1, ranges)

-- an offset in the range of a part is in none that it is apart from
covered_once : (f x : ℕ) (p q : Part) → IsOrdered p → IsOrdered q → Apart p q → covers f x p ≡ true → covers f x q ≡ false
covered_once f x p q o o' apart here = elim (cases_Bool (covers f x q)) [
  | inl there ↦ absurd (both f x p q o o' (and_parts (in_file f p) (leb p.span.start x && ltb x p.span.end) here) (and_parts (in_file f q) (leb q.span.start x && ltb x q.span.end) there) apart)
  | inr none ↦ none
]

sum_covered : (f x : ℕ) (ps : List Part) → All IsOrdered ps → AllPairs Apart ps → sum_by (covered_by f x) ps ≡ cond (list_any (covers f x) ps) 1 0
sum_covered f x [] ordered apart = refl
sum_covered f x (p ∷ ps) ordered apart = elim (cases_Bool (covers f x p)) [
  | inl here ↦
      let o = All-head IsOrdered p ps ordered in
      let others = All-tail IsOrdered p ps ordered in
      let away = AllPairs-head Apart p ps apart in
      let none = not_covered f x ps (λ k d lt. covered_once f x p (get_or ps k d) o (others k d lt) (away k d lt) here) in
      sum_by-cons (covered_by f x) p ps ∙ rw (here, none) refl
  | inr none ↦
      let rest = sum_covered f x ps (All-tail IsOrdered p ps ordered) (AllPairs-tail Apart p ps apart) in
      sum_by-cons (covered_by f x) p ps ∙ rw none (omega (arith, rest))
]

-- of the bytes before an offset each is kept or replaced
pub kept_and_removed : (f : ℕ) (all : List Part) → All IsOrdered all → AllPairs Apart all → (x : ℕ) → kept_before (filter (in_file f) all) x + sum_by (removed_by f x) all ≡ x
kept_and_removed f all ordered apart zero = omega (arith, removed_none f all)
kept_and_removed f all ordered apart (suc x) =
    let step : sum_by (removed_by f (suc x)) all ≡ sum_by (removed_by f x) all + sum_by (covered_by f x) all = ap (λ (n : ℕ). sum_by (removed_by f n) all) (sym (add-one x)) ∙ removed_sum f x all in
    let replaced = list_any-filter (λ p. leb p.span.start x && ltb x p.span.end) (in_file f) all in
    let count : sum_by (covered_by f x) all ≡ cond (is_replaced (filter (in_file f) all) x) 1 0 = sum_covered f x all ordered apart ∙ ap (λ (r : Bool). cond r 1 0) (sym replaced) in
    omega (arith, kept_and_removed f all ordered apart x, step, count, kept_or_not (is_replaced (filter (in_file f) all) x))
  where
    kept_or_not : (r : Bool) → cond r 0 1 + cond r 1 0 ≡ 1
    kept_or_not true = refl
    kept_or_not false = refl

-- the sum over all parts is that over the file's
pub put_sum : (b : Bool) (f x : ℕ) (all : List Part) → sum_by (put_by b f x) all ≡ put_before b (filter (in_file f) all) x
put_sum b f x [] = refl
put_sum b f x (p ∷ ps) = elim (cases_Bool (in_file f p)) [
  | inl here ↦ elim (cases_Bool (is_put_before b x p)) [
    | inl put ↦ sum_by-cons (put_by b f x) p ps ∙ rw (here, put) (ap (λ (n : ℕ). length p.text + n) (put_sum b f x ps) ∙ sym (sum_by-cons (λ q. length q.text) p (filter (is_put_before b x) (filter (in_file f) ps))))
    | inr none ↦ sum_by-cons (put_by b f x) p ps ∙ rw (here, none) (omega (arith, put_sum b f x ps))
  ]
  | inr other ↦ sum_by-cons (put_by b f x) p ps ∙ rw other (omega (arith, put_sum b f x ps))
]

-- what a body that sums over the parts needs and gives
pub record IsPlace (b : Bool) (taken : List Suggestion) (file offset : ℕ) : Type 0 where
  pub put : sum_by (put_by b file offset) (all_parts taken) < 2 ^ 32
  pub removed : sum_by (removed_by file offset) (all_parts taken) ≤ offset
  pub small : moved_offset b (parts_of file taken) offset < 2 ^ 32
  pub is : offset + sum_by (put_by b file offset) (all_parts taken) - sum_by (removed_by file offset) (all_parts taken) ≡ moved_offset b (parts_of file taken) offset

pub is_place : (b : Bool) (taken : List Suggestion) (file offset : ℕ) → HasPlace taken file offset → IsPlace b taken file offset
is_place b taken file offset has =
    let put = put_sum b file offset (all_parts taken) in
    let removed = kept_and_removed file (all_parts taken) (All-weaker (LiesIn has.sources) IsOrdered (λ p lies. lies.ordered) (all_parts taken) has.fit.lie) has.fit.apart offset in
    let short : moved_offset b (parts_of file taken) offset < 2 ^ 32 = omega (arith, place_within b (parts_of file taken) has.text offset has.within, has.short) in
    record { put = omega arith; removed = omega arith; small = short; is = omega arith }
