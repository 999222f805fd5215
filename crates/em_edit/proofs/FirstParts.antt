-- What one part does to the text, with other parts behind it.
use Rattle.std.proofs.Common.{inl, inr, ◌≡◌, ℕ, suc, ◌+◌, ◌-◌, ◌<◌, ◌≤◌, true, false, eqb, ltb, leb, List, [], ◌∷◌, ◌++◌, length, take, drop, refl, ap, sym, ◌∙◌, arith, append-nil, append_assoc}
use Rattle.std.proofs.lemmas.Bool.{cases_lt, eq-eqb, ne_eqb, le-leb, lt-leb, lt-ltb, le-ltb}
use Rattle.std.proofs.lemmas.List.Elements.{All-head, All-tail}
use Rattle.em_base.specs.declared.edit.Part.{Part}
use Rattle.em_edit.specs.Edited.{put_in, is_replaced, edited_on}
use Rattle.em_edit.specs.Laws.{StartFrom, NoPartKeeps, FirstPartFirst}

pub no_part : NoPartKeeps
no_part offset [] = refl
no_part offset (b ∷ bs) = ap (λ (x : List ℕ). b ∷ x) (no_part (offset + 1) bs)

-- nothing is put in before the first start
none_put : (n o : ℕ) (ps : List Part) → StartFrom n ps → o < n → put_in ps o ≡ []
none_put n o [] h lt = refl
none_put n o (p ∷ ps) h lt =
    let first : n ≤ p.span.start = All-head (λ (q : Part). n ≤ q.span.start) p ps h in
    let off : eqb p.span.start o ≡ false = ne_eqb p.span.start o (λ e. omega arith) in
    rw off (none_put n o ps (All-tail (λ (q : Part). n ≤ q.span.start) p ps h) lt)

-- no byte is replaced before the first start
none_replaced : (n o : ℕ) (ps : List Part) → StartFrom n ps → o < n → is_replaced ps o ≡ false
none_replaced n o [] h lt = refl
none_replaced n o (p ∷ ps) h lt =
    let first : n ≤ p.span.start = All-head (λ (q : Part). n ≤ q.span.start) p ps h in
    let off : leb p.span.start o ≡ false = lt-leb p.span.start o (omega arith) in
    rw off (none_replaced n o ps (All-tail (λ (q : Part). n ≤ q.span.start) p ps h) lt)

-- behind its start and end a part does nothing
behind_it : (o : ℕ) (p : Part) (ps : List Part) (text : List ℕ) → p.span.start < o → p.span.end ≤ o → edited_on (p ∷ ps) o text ≡ edited_on ps o text
behind_it o p ps [] lt le =
    let off : eqb p.span.start o ≡ false = ne_eqb p.span.start o (λ e. omega arith) in
    rw off refl
behind_it o p ps (b ∷ bs) lt le =
    let off : eqb p.span.start o ≡ false = ne_eqb p.span.start o (λ e. omega arith) in
    let from : leb p.span.start o ≡ true = le-leb p.span.start o (omega arith) in
    let past : ltb o p.span.end ≡ false = le-ltb o p.span.end le in
    rw (off, from, past, behind_it (o + 1) p ps bs (omega arith) (omega arith)) refl

-- from its end on a part does nothing
at_end : (o : ℕ) (p : Part) (ps : List Part) (text : List ℕ) → p.span.start < o → p.span.end ≡ o → edited_on (p ∷ ps) o text ≡ edited_on ps p.span.end (drop (p.span.end - o) text)
at_end o p ps text lt e =
    let none : p.span.end - o ≡ 0 = omega arith in
    rw none (behind_it o p ps text lt (omega arith) ∙ ap (λ (n : ℕ). edited_on ps n text) (sym e))

-- inside of its range a part takes the bytes up to its end
inside_it : (o : ℕ) (p : Part) (ps : List Part) (text : List ℕ) → p.span.start < o → o ≤ p.span.end → p.span.end ≤ o + length text → StartFrom p.span.end ps → edited_on (p ∷ ps) o text ≡ edited_on ps p.span.end (drop (p.span.end - o) text)
inside_it o p ps [] lt le long h = at_end o p ps [] lt (omega arith)
inside_it o p ps (b ∷ bs) lt le long h =
    elim (cases_lt o p.span.end) [
      | inl in' ↦
          let off : eqb p.span.start o ≡ false = ne_eqb p.span.start o (λ e. omega arith) in
          let from : leb p.span.start o ≡ true = le-leb p.span.start o (omega arith) in
          let before : ltb o p.span.end ≡ true = lt-ltb o p.span.end in' in
          let less : p.span.end - o ≡ suc (p.span.end - (o + 1)) = omega arith in
          rw (off, from, before, none_put p.span.end o ps h in', less) (inside_it (o + 1) p ps bs (omega arith) (omega arith) (omega arith) h)
      | inr past ↦ at_end o p ps (b ∷ bs) lt (omega arith)
    ]

-- an insertion is put in, and the text stays
inserts_it : (o : ℕ) (p : Part) (ps : List Part) (text : List ℕ) → p.span.start ≡ o → p.span.end ≡ o → edited_on (p ∷ ps) o text ≡ p.text ++ edited_on ps o text
inserts_it o p ps [] is ends =
    let on : eqb p.span.start o ≡ true = eq-eqb p.span.start o is in
    rw on refl
inserts_it o p ps (b ∷ bs) is ends =
    let on : eqb p.span.start o ≡ true = eq-eqb p.span.start o is in
    let from : leb p.span.start o ≡ true = le-leb p.span.start o (omega arith) in
    let past : ltb o p.span.end ≡ false = le-ltb o p.span.end (omega arith) in
    rw (on, from, past, behind_it (o + 1) p ps bs (omega arith) (omega arith), append_assoc) refl

-- where a part with a range starts, its text takes the place of the bytes
replaces_it : (o : ℕ) (p : Part) (ps : List Part) (text : List ℕ) → p.span.start ≡ o → o < p.span.end → p.span.end ≤ o + length text → StartFrom p.span.end ps → edited_on (p ∷ ps) o text ≡ p.text ++ edited_on ps p.span.end (drop (p.span.end - o) text)
replaces_it o p ps [] is lt long h = absurd (omega arith)
replaces_it o p ps (b ∷ bs) is lt long h =
    let on : eqb p.span.start o ≡ true = eq-eqb p.span.start o is in
    let from : leb p.span.start o ≡ true = le-leb p.span.start o (omega arith) in
    let before : ltb o p.span.end ≡ true = lt-ltb o p.span.end lt in
    let less : p.span.end - o ≡ suc (p.span.end - (o + 1)) = omega arith in
    rw (on, from, before, none_put p.span.end o ps h lt, less, append-nil) (ap (λ (x : List ℕ). p.text ++ x) (inside_it (o + 1) p ps bs (omega arith) (omega arith) (omega arith) h))

-- where a part starts, its text is put in first
starts_it : (o : ℕ) (p : Part) (ps : List Part) (text : List ℕ) → p.span.start ≡ o → o ≤ p.span.end → p.span.end ≤ o + length text → StartFrom p.span.end ps → edited_on (p ∷ ps) o text ≡ p.text ++ edited_on ps p.span.end (drop (p.span.end - o) text)
starts_it o p ps text is le long h =
    elim (cases_lt o p.span.end) [
      | inl in' ↦ replaces_it o p ps text is in' long h
      | inr past ↦
          let e : p.span.end ≡ o = omega arith in
          let none : p.span.end - o ≡ 0 = omega arith in
          rw none (inserts_it o p ps text is e ∙ ap (λ (n : ℕ). p.text ++ edited_on ps n text) (sym e))
    ]

-- the text before its start stays
pub first_from : (o : ℕ) (p : Part) (ps : List Part) (text : List ℕ) → o ≤ p.span.start → p.span.start ≤ p.span.end → p.span.end ≤ o + length text → StartFrom p.span.end ps → edited_on (p ∷ ps) o text ≡ take (p.span.start - o) text ++ (p.text ++ edited_on ps p.span.end (drop (p.span.end - o) text))
first_from o p ps [] le ordered long h =
    let none : p.span.start - o ≡ 0 = omega arith in
    rw none (starts_it o p ps [] (omega arith) (omega arith) long h)
first_from o p ps (b ∷ bs) le ordered long h =
    elim (cases_lt o p.span.start) [
      | inl before ↦
          let off : eqb p.span.start o ≡ false = ne_eqb p.span.start o (λ e. omega arith) in
          let from : leb p.span.start o ≡ false = lt-leb p.span.start o before in
          let less : p.span.start - o ≡ suc (p.span.start - (o + 1)) = omega arith in
          let less_end : p.span.end - o ≡ suc (p.span.end - (o + 1)) = omega arith in
          rw (off, from, none_put p.span.end o ps h (omega arith), none_replaced p.span.end o ps h (omega arith), less, less_end) (ap (λ (x : List ℕ). b ∷ x) (first_from (o + 1) p ps bs (omega arith) ordered (omega arith) h))
      | inr here ↦
          let none : p.span.start - o ≡ 0 = omega arith in
          rw none (starts_it o p ps (b ∷ bs) (omega arith) (omega arith) long h)
    ]

pub first_part : FirstPartFirst
first_part offset p ps text from ordered long starts later = first_from offset p ps text from ordered long starts
