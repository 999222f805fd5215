-- The text after the findings.
use Rattle.std.proofs.Common.{◌≡◌, inl, inr, ℕ, ◌+◌, ◌-◌, ◌<◌, ◌≤◌, Bool, true, false, cond, ◌&&◌, not, List, [], ◌∷◌, ◌++◌, length, map, take, drop, codes, refl, subst, sym, ap, ◌∙◌, arith, append_assoc}
use Rattle.std.specs.Prelude.{All, AllPairs, filter, nat_le, ◌==◌, slice_get, slice_index}
use Rattle.std.specs.Str.{IsAscii}
use Rattle.std.proofs.Math.Seq.{take-add}
use Rattle.std.proofs.lemmas.Bool.Decides.{nat_tests, Decides-eqb}
use Rattle.std.proofs.lemmas.List.{drop-drop, length-drop, take-append-drop}
use Rattle.std.proofs.lemmas.List.Elements.{All-nil, All-cons}
use Rattle.std.proofs.lemmas.List.Kept.{AllPairs-cons}
use Rattle.em_base.specs.declared.edition.Edition.{Edition}
use Rattle.em_base.specs.declared.edition.Edition.TheVariants.{E2015, E2018}
use Rattle.em_base.specs.declared.edit.Part.{Part}
use Rattle.em_base.specs.declared.token.Token.{Token}
use Rattle.em_edit.specs.Edited.{edited_on, edited, all_parts}
use Rattle.em_edit.specs.Fit.{is_boundary, LiesIn, Apart}
use Rattle.em_edit.specs.Laws.{NoPartKeeps, StartFrom, FirstPartFirst}
use Rattle.em_lex.specs.Laws.{MarkedLexes, LieInOrder, TokensInText}
use Rattle.em_lex.specs.Lexing.{Lexes}
use Rattle.em_lex.specs.Marking.{marked, moved}
use Rattle.em_first.specs.Keyword.{is_found, finding, findings}
use Rattle.em_first.specs.Laws.{FindingsFit, EditedLexes}
use Rattle.em_first.proofs.Taken.{all_have_raw}

-- the part of a finding
abbrev part : Token → Part
part t = record { span = t.span; text = codes "r#" ++ t.text }

-- the parts of the findings
abbrev parts : List Token → List Part
parts [] = []
parts (t ∷ ts) = cond (is_found t) (part t ∷ parts ts) (parts ts)

all_parts_are : (ts : List Token) → all_parts (findings ts) ≡ parts ts
all_parts_are [] = refl
all_parts_are (t ∷ ts) = here (is_found t) (all_parts_are ts)
  where
    here : (c : Bool) → all_parts (findings ts) ≡ parts ts → all_parts (map finding (cond c (t ∷ filter is_found ts) (filter is_found ts))) ≡ cond c (part t ∷ parts ts) (parts ts)
    here true h = ap (λ (ps : List Part). part t ∷ ps) h
    here false h = h

parts_of_file : (file offset : ℕ) (edition : Edition) (text : List ℕ) (ts : List Token) → LieInOrder file edition offset text ts → filter (λ p. p.span.file == file) (parts ts) ≡ parts ts
parts_of_file file offset edition text [] h = refl
parts_of_file file offset edition text (t ∷ ts) h = here (is_found t) (parts_of_file file t.span.end edition text ts h.1)
  where
    here : (c : Bool) → filter (λ p. p.span.file == file) (parts ts) ≡ parts ts → filter (λ p. p.span.file == file) (cond c (part t ∷ parts ts) (parts ts)) ≡ cond c (part t ∷ parts ts) (parts ts)
    here true g = ap (λ b. cond b (part t ∷ filter (λ p. p.span.file == file) (parts ts)) (filter (λ p. p.span.file == file) (parts ts))) ((Decides-eqb t.span.file file).1 h.0.file_is) ∙ ap (λ (ps : List Part). part t ∷ ps) g
    here false g = g

-- parts that are not empty, each behind the one before it
abbrev Rising : ℕ → ℕ → List Part → Type 0
Rising from upto [] = Unit {0}
Rising from upto (p ∷ ps) = (from ≤ p.span.start) × (p.span.start < p.span.end) × (p.span.end ≤ upto) × Rising p.span.end upto ps

earlier : (n from upto : ℕ) (ps : List Part) → n ≤ from → Rising from upto ps → Rising n upto ps
earlier n from upto [] e h = tt
earlier n from upto (p ∷ ps) e h = (omega (arith, e, h.0), h.1, h.2, h.3)

rising : (file offset : ℕ) (edition : Edition) (text : List ℕ) (ts : List Token) → LieInOrder file edition offset text ts → Rising offset (length text) (parts ts)
rising file offset edition text [] h = tt
rising file offset edition text (t ∷ ts) h = here (is_found t) (rising file t.span.end edition text ts h.1)
  where
    here : (c : Bool) → Rising t.span.end (length text) (parts ts) → Rising offset (length text) (cond c (part t ∷ parts ts) (parts ts))
    here true g = (h.0.behind, h.0.some, h.0.within, g)
    here false g = earlier offset t.span.end (length text) (parts ts) (omega (arith, h.0.behind, h.0.some)) g

starts_from : (n upto : ℕ) (ps : List Part) → Rising n upto ps → StartFrom n ps
starts_from n upto [] h = All-nil (λ p. n ≤ p.span.start)
starts_from n upto (p ∷ ps) h = All-cons (λ p. n ≤ p.span.start) p ps h.0 (starts_from n upto ps (earlier n p.span.end upto ps (omega (arith, h.0, h.1)) h.3))

-- the first part
first : FirstPartFirst → (offset upto : ℕ) (p : Part) (ps : List Part) (text : List ℕ) → Rising offset upto (p ∷ ps) → upto ≤ offset + length text
    → edited_on (p ∷ ps) offset text ≡ take (p.span.start - offset) text ++ (p.text ++ edited_on ps p.span.end (drop (p.span.end - offset) text))
first law offset upto p ps text h w =
    law offset p ps text h.0 (omega (arith, h.1)) (omega (arith, h.2, w)) (starts_from p.span.end upto ps h.3)
    (starts_from (p.span.start + 1) upto ps (earlier (p.span.start + 1) p.span.end upto ps (omega (arith, h.1)) h.3))

-- the text before the first part is kept
kept : NoPartKeeps → FirstPartFirst → (offset n upto : ℕ) (ps : List Part) (text : List ℕ) → Rising (offset + n) upto ps → upto ≤ offset + length text → n ≤ length text
    → edited_on ps offset text ≡ take n text ++ edited_on ps (offset + n) (drop n text)
kept none law offset n upto [] text h w l = none offset text ∙ sym (take-append-drop n text) ∙ ap (λ (x : List ℕ). take n text ++ x) (sym (none (offset + n) (drop n text)))
kept none law offset n upto (p ∷ ps) text h w l =
    let len : length (drop n text) ≡ length text - n = length-drop n text in
    let k : ℕ = p.span.start - (offset + n) in
    let m : ℕ = p.span.end - (offset + n) in
    let starts : p.span.start - offset ≡ n + k = omega (arith, h.0) in
    let ends : p.span.end - offset ≡ n + m = omega (arith, h.0, h.1) in
    let front : take (p.span.start - offset) text ≡ take n text ++ take k (drop n text) = ap (λ i. take i text) starts ∙ take-add n k text in
    let back : drop (p.span.end - offset) text ≡ drop m (drop n text) = ap (λ i. drop i text) ends ∙ sym (drop-drop m n text) in
    first law offset upto p ps text (earlier offset (offset + n) upto (p ∷ ps) (omega arith) h) w
    ∙ ap (λ (x : List ℕ). x ++ (p.text ++ edited_on ps p.span.end (drop (p.span.end - offset) text))) front
    ∙ append_assoc (take n text) (take k (drop n text)) (p.text ++ edited_on ps p.span.end (drop (p.span.end - offset) text))
    ∙ ap (λ (x : List ℕ). take n text ++ (take k (drop n text) ++ (p.text ++ edited_on ps p.span.end x))) back
    ∙ ap (λ (x : List ℕ). take n text ++ x) (sym (first law (offset + n) upto p ps (drop n text) h (omega (arith, len, w, l))))

-- one token more
one_more : NoPartKeeps → FirstPartFirst → (file offset : ℕ) (edition : Edition) (whole : List ℕ) (t : Token) (ts : List Token) → offset ≤ length whole → LieInOrder file edition offset whole (t ∷ ts)
    → edited_on (parts ts) t.span.end (drop t.span.end whole) ≡ marked is_found t.span.end (drop t.span.end whole) ts
    → (c : Bool) → edited_on (cond c (part t ∷ parts ts) (parts ts)) offset (drop offset whole)
    ≡ take (t.span.start - offset) (drop offset whole) ++ (cond c (codes "r#" ++ t.text) t.text ++ marked is_found t.span.end (drop (t.span.end - offset) (drop offset whole)) ts)
one_more none law file offset edition whole t ts l h later c = here c
  where
    len : length (drop offset whole) ≡ length whole - offset
    len = length-drop offset whole

    rest : drop (t.span.end - offset) (drop offset whole) ≡ drop t.span.end whole
    rest = drop-drop (t.span.end - offset) offset whole ∙ ap (λ i. drop i whole) (let a = h.0.behind in let b = h.0.some in let e : offset + (t.span.end - offset) ≡ t.span.end = omega (arith, a, b) in e)

    then_marked : edited_on (parts ts) t.span.end (drop (t.span.end - offset) (drop offset whole)) ≡ marked is_found t.span.end (drop (t.span.end - offset) (drop offset whole)) ts
    then_marked = subst (λ (x : List ℕ). edited_on (parts ts) t.span.end x ≡ marked is_found t.span.end x ts) (sym rest) later

    rise : Rising t.span.end (length whole) (parts ts)
    rise = rising file t.span.end edition whole ts h.1

    word : take (t.span.end - t.span.start) (drop (t.span.start - offset) (drop offset whole)) ≡ t.text
    word = ap (take (t.span.end - t.span.start)) (drop-drop (t.span.start - offset) offset whole ∙ ap (λ i. drop i whole) (let a = h.0.behind in let e : offset + (t.span.start - offset) ≡ t.span.start = omega (arith, a) in e)) ∙ sym h.0.bytes

    front : take (t.span.end - offset) (drop offset whole) ≡ take (t.span.start - offset) (drop offset whole) ++ t.text
    front = ap (λ i. take i (drop offset whole)) (let a = h.0.behind in let b = h.0.some in let e : t.span.end - offset ≡ (t.span.start - offset) + (t.span.end - t.span.start) = omega (arith, a, b) in e)
        ∙ take-add (t.span.start - offset) (t.span.end - t.span.start) (drop offset whole) ∙ ap (λ (x : List ℕ). take (t.span.start - offset) (drop offset whole) ++ x) word

    upto : length whole ≤ offset + length (drop offset whole)
    upto = omega (arith, len, l)

    here : (c : Bool) → edited_on (cond c (part t ∷ parts ts) (parts ts)) offset (drop offset whole)
        ≡ take (t.span.start - offset) (drop offset whole) ++ (cond c (codes "r#" ++ t.text) t.text ++ marked is_found t.span.end (drop (t.span.end - offset) (drop offset whole)) ts)
    here true =
        first law offset (length whole) (part t) (parts ts) (drop offset whole) (h.0.behind, h.0.some, h.0.within, rise) upto
        ∙ ap (λ (x : List ℕ). take (t.span.start - offset) (drop offset whole) ++ ((codes "r#" ++ t.text) ++ x)) then_marked
    here false =
        let a = h.0.behind in let b = h.0.some in let d = h.0.within in
        let e : offset + (t.span.end - offset) ≡ t.span.end = omega (arith, a, b) in
        kept none law offset (t.span.end - offset) (length whole) (parts ts) (drop offset whole) (subst (λ i. Rising i (length whole) (parts ts)) (sym e) rise) upto (omega (arith, len, a, b, d))
        ∙ ap (λ i. take (t.span.end - offset) (drop offset whole) ++ edited_on (parts ts) i (drop (t.span.end - offset) (drop offset whole))) e
        ∙ ap (λ (x : List ℕ). take (t.span.end - offset) (drop offset whole) ++ x) then_marked
        ∙ ap (λ (x : List ℕ). x ++ marked is_found t.span.end (drop (t.span.end - offset) (drop offset whole)) ts) front
        ∙ append_assoc (take (t.span.start - offset) (drop offset whole)) t.text (marked is_found t.span.end (drop (t.span.end - offset) (drop offset whole)) ts)

-- the edited text is the marked one
marked_is : NoPartKeeps → FirstPartFirst → (file offset : ℕ) (edition : Edition) (whole : List ℕ) (ts : List Token) → offset ≤ length whole → LieInOrder file edition offset whole ts
    → edited_on (parts ts) offset (drop offset whole) ≡ marked is_found offset (drop offset whole) ts
marked_is none law file offset edition whole [] l h = none offset (drop offset whole)
marked_is none law file offset edition whole (t ∷ ts) l h = one_more none law file offset edition whole t ts l h (marked_is none law file t.span.end edition whole ts h.0.within h.1) (is_found t)

edited_is : NoPartKeeps → FirstPartFirst → (file : ℕ) (edition : Edition) (text : List ℕ) (ts : List Token) → LieInOrder file edition 0 text ts → edited file (findings ts) text ≡ marked is_found 0 text ts
edited_is none law file edition text ts h =
    ap (λ (ps : List Part). edited_on (filter (λ p. p.span.file == file) ps) 0 text) (all_parts_are ts)
    ∙ ap (λ (ps : List Part). edited_on ps 0 text) (parts_of_file file 0 edition text ts h)
    ∙ marked_is none law file 0 edition text ts (omega arith) h

pub edited_lexes : NoPartKeeps → FirstPartFirst → MarkedLexes → TokensInText → EditedLexes
edited_lexes none law lexed lie file text ts h =
    subst (λ (x : List ℕ). Lexes file E2018 x (moved is_found E2018 0 ts)) (sym (edited_is none law file E2015 text ts (lie file E2015 text ts h))) (lexed is_found file text ts (all_have_raw ts) h)

all_lie : (offset : ℕ) (text : List ℕ) (ts : List Token) → LieInOrder 0 E2015 offset text ts → All (LiesIn (text ∷ [])) (parts ts)
all_lie offset text [] h = All-nil (LiesIn (text ∷ []))
all_lie offset text (t ∷ ts) h = here (is_found t) (all_lie t.span.end text ts h.1)
  where
    here : (c : Bool) → All (LiesIn (text ∷ [])) (parts ts) → All (LiesIn (text ∷ [])) (cond c (part t ∷ parts ts) (parts ts))
    here true g = All-cons (LiesIn (text ∷ [])) (part t) (parts ts) (record {
      text = text;
      file = ap (λ (i : ℕ). slice_get (text ∷ []) i) h.0.file_is;
      ordered = (let b = h.0.some in let e : t.span.start ≤ t.span.end = omega (arith, b) in e);
      within = h.0.within;
      starts_whole = h.0.starts_whole;
      ends_whole = h.0.ends_whole;
    }) g
    here false g = g

apart_from : (p : Part) (from upto : ℕ) (ps : List Part) → p.span.start < p.span.end → p.span.end ≤ from → Rising from upto ps → All (Apart p) ps
apart_from p from upto [] s e h = All-nil (Apart p)
apart_from p from upto (q ∷ qs) s e h =
    let b = h.0 in let d = h.1 in
    All-cons (Apart p) q qs (inr (record { starts = λ (z : p.span.start ≡ q.span.start). (let x : ⊥ = omega (arith, z, s, e, b) in x); ranges = inl (omega (arith, e, b)) }))
    (apart_from p q.span.end upto qs s (omega (arith, e, b, d)) h.3)

all_apart : (from upto : ℕ) (ps : List Part) → Rising from upto ps → AllPairs Apart ps
all_apart from upto [] h = λ i j d a b. absurd (omega (arith, b))
all_apart from upto (p ∷ ps) h = AllPairs-cons Apart p ps (apart_from p p.span.end upto ps h.1 (omega arith) h.3) (all_apart p.span.end upto ps h.3)

pub findings_fit : TokensInText → FindingsFit
findings_fit lie text ts h =
    let t = lie 0 E2015 text ts h in
    record {
      lie = subst (All (LiesIn (text ∷ []))) (sym (all_parts_are ts)) (all_lie 0 text ts t);
      apart = subst (AllPairs Apart) (sym (all_parts_are ts)) (all_apart 0 (length text) (parts ts) (rising 0 0 E2015 text ts t));
    }
