-- At a delimiter, punctuation, or a character that begins nothing.
use Rattle.std.proofs.Common.{◌≡◌, inl, inr, ℕ, ◌<◌, ◌≤◌, Bool, true, false, cond, ◌&&◌, ◌||◌, ◌==◌, List, [], ◌∷◌, ◌++◌, length, get_or, codes, Option, Some, None, refl, sym, ap, ◌∙◌, subst, arith}
use Rattle.std.specs.Prelude.{nat_eq}
use Rattle.std.proofs.lemmas.Bool.{and_parts, both_ways, or_cases, eqb-true}
use Rattle.std.proofs.lemmas.Bool.Decides.{nat_tests, Decides-eqb}
use Rattle.std.specs.Char.{is_ascii_digit, is_ascii_alphabetic}
use Rattle.std.specs.List.{list_any}
use Rattle.em_base.specs.Names.{is_start}
use Rattle.em_base.specs.declared.edition.Edition.{Edition}
use Rattle.em_base.specs.declared.token.TokenKind.{TokenKind}
use Rattle.em_base.specs.declared.token.TokenKind.TheVariants.{Open, Close, Punct}
use Rattle.em_lex.specs.declared.error.LexKind.TheVariants.{BadCharacter}
use Rattle.em_lex.specs.declared.piece.Piece.TheVariants.{Token as Took, Fault as Bad}
use Rattle.em_lex.specs.Characters.{Chars, starts, is_blank}
use Rattle.em_lex.specs.Spelling.{is_among, opening_delimiters, closing_delimiters, punctuation}
use Rattle.em_lex.specs.Faults.{unknown, is_mark, begins_nothing}
use Rattle.em_lex.specs.Scan.{first, is_punct1, is_punct2, is_punct3, takes_equals, is_pair, punct_len, is_open, is_close, mark_step, step, block_of, block_len}
use Rattle.em_lex.proofs.Base.{impossible, by_test, pick, not_true, or_false, any_of, no_start}
use Rattle.em_lex.proofs.Heads.{Mark, step_mark, step_line, step_block}
use Rattle.em_lex.proofs.WordLemmas.{under_covers}
use Rattle.em_lex.proofs.Pieces.{Holds, Covered, Told}

-- P holds of each character of a list
abbrev pub EachChar : (ℕ → Type 0) → List ℕ → Type 0
EachChar P [] = Unit {0}
EachChar P (x ∷ xs) = P x × EachChar P xs

pub any_char : (P : ℕ → Type 0) (c : ℕ) (xs : List ℕ) → EachChar P xs → list_any (nat_eq c) xs ≡ true → P c
any_char P c [] e h = impossible h
any_char P c (x ∷ xs) e h = elim (or_cases (nat_eq c x) (list_any (nat_eq c) xs) h) [
  | inl a ↦ subst P (sym ((Decides-eqb c x).0 a)) e.0
  | inr a ↦ any_char P c xs e.1 a
]

punct1 : (c : ℕ) → is_punct1 c ≡ true → list_any (nat_eq c) (codes "+-*/%^!&|=<>@.,;:#$?~") ≡ true
punct1 c h = grind (arith, nat_tests)

open1 : (c : ℕ) → is_open c ≡ true → list_any (nat_eq c) (codes "([{") ≡ true
open1 c h = grind (arith, nat_tests)

close1 : (c : ℕ) → is_close c ≡ true → list_any (nat_eq c) (codes ")]}") ≡ true
close1 c h = grind (arith, nat_tests)

equals1 : (c : ℕ) → takes_equals c ≡ true → list_any (nat_eq c) (codes "+-*/%^&|=!<>") ≡ true
equals1 c h = grind (arith, nat_tests)

-- ---- what is found is punctuation

one_punct : (a : ℕ) → is_punct1 a ≡ true → is_among punctuation (a ∷ []) ≡ true
one_punct a h = any_char (λ a. is_among punctuation (a ∷ []) ≡ true) a (codes "+-*/%^!&|=<>@.,;:#$?~") (refl, (refl, (refl, (refl, (refl, (refl, (refl, (refl, (refl, (refl, (refl, (refl, (refl, (refl, (refl, (refl, (refl, (refl, (refl, (refl, (refl, tt))))))))))))))))))))) (punct1 a h)

equals_punct : (a : ℕ) → takes_equals a ≡ true → is_among punctuation (a ∷ 61 ∷ []) ≡ true
equals_punct a h = any_char (λ a. is_among punctuation (a ∷ 61 ∷ []) ≡ true) a (codes "+-*/%^&|=!<>") (refl, (refl, (refl, (refl, (refl, (refl, (refl, (refl, (refl, (refl, (refl, (refl, tt)))))))))))) (equals1 a h)

pair_one : (P : ℕ → ℕ → Type 0) (a b x y : ℕ) → (a == x && b == y) ≡ true → P x y → P a b
pair_one P a b x y h p = let k = and_parts (a == x) (b == y) h in subst (λ a. P a b) (sym (eqb-true a x k.0)) (subst (λ b. P x b) (sym (eqb-true b y k.1)) p)

each_pair : (P : ℕ → ℕ → Type 0) (a b : ℕ) → P 38 38 → P 124 124 → P 60 60 → P 62 62 → P 46 46 → P 58 58 → P 45 62 → P 60 45 → P 61 62 → is_pair a b ≡ true → P a b
each_pair P a b p1 p2 p3 p4 p5 p6 p7 p8 p9 h =
    elim (or_cases ((a == 38 && b == 38) || (a == 124 && b == 124) || (a == 60 && b == 60) || (a == 62 && b == 62) || (a == 46 && b == 46) || (a == 58 && b == 58) || (a == 45 && b == 62) || (a == 60 && b == 45)) (a == 61 && b == 62) h) [
      | inr k ↦ pair_one P a b 61 62 k p9
      | inl h ↦ elim (or_cases ((a == 38 && b == 38) || (a == 124 && b == 124) || (a == 60 && b == 60) || (a == 62 && b == 62) || (a == 46 && b == 46) || (a == 58 && b == 58) || (a == 45 && b == 62)) (a == 60 && b == 45) h) [
        | inr k ↦ pair_one P a b 60 45 k p8
        | inl h ↦ elim (or_cases ((a == 38 && b == 38) || (a == 124 && b == 124) || (a == 60 && b == 60) || (a == 62 && b == 62) || (a == 46 && b == 46) || (a == 58 && b == 58)) (a == 45 && b == 62) h) [
          | inr k ↦ pair_one P a b 45 62 k p7
          | inl h ↦ elim (or_cases ((a == 38 && b == 38) || (a == 124 && b == 124) || (a == 60 && b == 60) || (a == 62 && b == 62) || (a == 46 && b == 46)) (a == 58 && b == 58) h) [
            | inr k ↦ pair_one P a b 58 58 k p6
            | inl h ↦ elim (or_cases ((a == 38 && b == 38) || (a == 124 && b == 124) || (a == 60 && b == 60) || (a == 62 && b == 62)) (a == 46 && b == 46) h) [
              | inr k ↦ pair_one P a b 46 46 k p5
              | inl h ↦ elim (or_cases ((a == 38 && b == 38) || (a == 124 && b == 124) || (a == 60 && b == 60)) (a == 62 && b == 62) h) [
                | inr k ↦ pair_one P a b 62 62 k p4
                | inl h ↦ elim (or_cases ((a == 38 && b == 38) || (a == 124 && b == 124)) (a == 60 && b == 60) h) [
                  | inr k ↦ pair_one P a b 60 60 k p3
                  | inl h ↦ elim (or_cases (a == 38 && b == 38) (a == 124 && b == 124) h) [
                    | inr k ↦ pair_one P a b 124 124 k p2
                    | inl k ↦ pair_one P a b 38 38 k p1
                  ]
                ]
              ]
            ]
          ]
        ]
      ]
    ]

two_punct : (a b : ℕ) → is_punct2 a b ≡ true → is_among punctuation (a ∷ b ∷ []) ≡ true
two_punct a b h = elim (or_cases (b == 61 && takes_equals a) (is_pair a b) h) [
  | inl k ↦ let p = and_parts (b == 61) (takes_equals a) k in subst (λ b. is_among punctuation (a ∷ b ∷ []) ≡ true) (sym (eqb-true b 61 p.0)) (equals_punct a p.1)
  | inr k ↦ each_pair (λ a b. is_among punctuation (a ∷ b ∷ []) ≡ true) a b refl refl refl refl refl refl refl refl refl k
]

three_punct : (a b c : ℕ) → is_punct3 a b c ≡ true → is_among punctuation (a ∷ b ∷ c ∷ []) ≡ true
three_punct a b c h = elim (or_cases ((a == 60 && b == 60 && c == 61) || (a == 62 && b == 62 && c == 61)) (a == 46 && b == 46 && (c == 46 || c == 61)) h) [
  | inr k ↦ let p = and_parts (a == 46 && b == 46) (c == 46 || c == 61) k in
      pair_one (λ a b. is_among punctuation (a ∷ b ∷ c ∷ []) ≡ true) a b 46 46 p.0 (elim (or_cases (c == 46) (c == 61) p.1) [
        | inl q ↦ subst (λ c. is_among punctuation (46 ∷ 46 ∷ c ∷ []) ≡ true) (sym (eqb-true c 46 q)) refl
        | inr q ↦ subst (λ c. is_among punctuation (46 ∷ 46 ∷ c ∷ []) ≡ true) (sym (eqb-true c 61 q)) refl
      ])
  | inl h ↦ elim (or_cases (a == 60 && b == 60 && c == 61) (a == 62 && b == 62 && c == 61) h) [
    | inl k ↦ let p = and_parts (a == 60 && b == 60) (c == 61) k in pair_one (λ a b. is_among punctuation (a ∷ b ∷ c ∷ []) ≡ true) a b 60 60 p.0 (subst (λ c. is_among punctuation (60 ∷ 60 ∷ c ∷ []) ≡ true) (sym (eqb-true c 61 p.1)) refl)
    | inr k ↦ let p = and_parts (a == 62 && b == 62) (c == 61) k in pair_one (λ a b. is_among punctuation (a ∷ b ∷ c ∷ []) ≡ true) a b 62 62 p.0 (subst (λ c. is_among punctuation (62 ∷ 62 ∷ c ∷ []) ≡ true) (sym (eqb-true c 61 p.1)) refl)
  ]
]

-- ---- the punctuation by its length

pub data Shape : Chars → Type 0 where
  under : Shape (95 ∷ [])
  one : {a : ℕ} → is_punct1 a ≡ true → Shape (a ∷ [])
  two : {a b : ℕ} → is_punct2 a b ≡ true → is_punct1 a ≡ true → Shape (a ∷ b ∷ [])
  three : {a b c : ℕ} → is_punct3 a b c ≡ true → is_punct1 a ≡ true → Shape (a ∷ b ∷ c ∷ [])

pub shape_of : (w : Chars) → is_among punctuation w ≡ true → Shape w
shape_of w h =
    any_of Shape w punctuation (
      one refl,
      (
        one refl,
        (
          one refl,
          (
            one refl,
            (
              one refl,
              (
                one refl,
                (
                  one refl,
                  (
                    one refl,
                    (
                      one refl,
                      (
                        two refl refl,
                        (
                          two refl refl,
                          (
                            two refl refl,
                            (
                              two refl refl,
                              (
                                two refl refl,
                                (
                                  two refl refl,
                                  (
                                    two refl refl,
                                    (
                                      two refl refl,
                                      (
                                        two refl refl,
                                        (
                                          two refl refl,
                                          (
                                            two refl refl,
                                            (
                                              two refl refl,
                                              (
                                                three refl refl,
                                                (
                                                  three refl refl,
                                                  (
                                                    one refl,
                                                    (
                                                      two refl refl,
                                                      (
                                                        two refl refl,
                                                        (
                                                          one refl,
                                                          (
                                                            one refl,
                                                            (
                                                              two refl refl,
                                                              (
                                                                two refl refl,
                                                                (
                                                                  one refl,
                                                                  (
                                                                    under,
                                                                    (
                                                                      one refl,
                                                                      (
                                                                        two refl refl,
                                                                        (
                                                                          three refl refl,
                                                                          (
                                                                            three refl refl,
                                                                            (
                                                                              one refl,
                                                                              (
                                                                                one refl,
                                                                                (
                                                                                  one refl,
                                                                                  (
                                                                                    two refl refl,
                                                                                    (
                                                                                      two refl refl,
                                                                                      (
                                                                                        two refl refl,
                                                                                        (
                                                                                          two refl refl,
                                                                                          (
                                                                                            one refl,
                                                                                            (one refl, (one refl, (one refl, tt))),
                                                                                          ),
                                                                                        ),
                                                                                      ),
                                                                                    ),
                                                                                  ),
                                                                                ),
                                                                              ),
                                                                            ),
                                                                          ),
                                                                        ),
                                                                      ),
                                                                    ),
                                                                  ),
                                                                ),
                                                              ),
                                                            ),
                                                          ),
                                                        ),
                                                      ),
                                                    ),
                                                  ),
                                                ),
                                              ),
                                            ),
                                          ),
                                        ),
                                      ),
                                    ),
                                  ),
                                ),
                              ),
                            ),
                          ),
                        ),
                      ),
                    ),
                  ),
                ),
              ),
            ),
          ),
        ),
      ),
    ) h

-- ---- the head

pub record Apart (c : ℕ) : Type 0 where
  pub word : is_start c ≡ false
  pub digit : is_ascii_digit c ≡ false
  pub quote : (c == 34) ≡ false
  pub single : (c == 39) ≡ false
  pub blank : is_blank c ≡ false

apart : (c : ℕ) → c < 128 → (c == 95 || is_ascii_alphabetic c) ≡ false → is_ascii_digit c ≡ false → (c == 34) ≡ false → (c == 39) ≡ false → is_blank c ≡ false → Apart c
apart c low w d q s b = record { word = no_start c low w; digit = d; quote = q; single = s; blank = b }

pub punct_apart : (c : ℕ) → is_punct1 c ≡ true → Apart c
punct_apart c h = apart c (grind (arith, nat_tests)) (grind (arith, nat_tests)) (grind (arith, nat_tests)) (grind (arith, nat_tests)) (grind (arith, nat_tests)) (grind (arith, nat_tests))

pub open_apart : (c : ℕ) → is_open c ≡ true → Apart c
open_apart c h = apart c (grind (arith, nat_tests)) (grind (arith, nat_tests)) (grind (arith, nat_tests)) (grind (arith, nat_tests)) (grind (arith, nat_tests)) (grind (arith, nat_tests))

pub close_apart : (c : ℕ) → is_close c ≡ true → Apart c
close_apart c h = apart c (grind (arith, nat_tests)) (grind (arith, nat_tests)) (grind (arith, nat_tests)) (grind (arith, nat_tests)) (grind (arith, nat_tests)) (grind (arith, nat_tests))

slashes : (c : ℕ) (cs : Chars) (d : ℕ) → (c == 47) ≡ true → (first cs == d) ≡ true → 0 < d → (rest : Chars) × (c ∷ cs ≡ 47 ∷ d ∷ rest)
slashes c [] d h k some = absurd (omega (arith, eqb-true 0 d k, some))
slashes c (x ∷ cs) d h k some = (cs, ap (λ c. c ∷ x ∷ cs) (eqb-true c 47 h) ∙ ap (λ x. 47 ∷ x ∷ cs) (eqb-true x d k))

-- what a mark covers, where a comment may begin too
mark_covers : (e : Edition) (dot : Bool) (c : ℕ) (cs : Chars) (kind : TokenKind) (m : ℕ) → Apart c → Covered (c ∷ cs) (mark_step (c ∷ cs)) kind m → Covered (c ∷ cs) (step e dot (c ∷ cs)) kind m
mark_covers e dot c cs kind m a g =
    by_test P (c == 47 && first cs == 47)
    (λ t. let k = and_parts (c == 47) (first cs == 47) t in let (rest, r) = slashes c cs 47 k.0 k.1 (omega arith) in
    subst (λ x. Covered x (step e dot x) kind m) (sym r) (subst (λ p. Covered (47 ∷ 47 ∷ rest) p kind m) (sym (step_line e dot rest)) refl))
    (λ t. by_test P (c == 47 && first cs == 42)
    (λ u. let k = and_parts (c == 47) (first cs == 42) u in let (rest, r) = slashes c cs 42 k.0 k.1 (omega arith) in
    subst (λ x. Covered x (step e dot x) kind m) (sym r) (subst (λ p. Covered (47 ∷ 42 ∷ rest) p kind m) (sym (step_block e dot rest)) (at_block rest (block_len 0 false rest))))
    (λ u. subst (λ p. Covered (c ∷ cs) p kind m) (sym (step_mark e dot c cs (record { word = a.word; digit = a.digit; quote = a.quote; single = a.single; blank = a.blank; line = t; block = u }))) g))
  where
    P : Type 0
    P = Covered (c ∷ cs) (step e dot (c ∷ cs)) kind m

    at_block : (rest : Chars) (o : Option ℕ) → Covered (47 ∷ 42 ∷ rest) (block_of (47 ∷ 42 ∷ rest) o) kind m
    at_block rest None = tt
    at_block rest (Some k) = refl

open_is : (c : ℕ) (cs : Chars) → is_open c ≡ true → mark_step (c ∷ cs) ≡ Took Open 1
unfolding mark_step
open_is c cs h = rw h

close_is : (c : ℕ) (cs : Chars) → is_close c ≡ true → mark_step (c ∷ cs) ≡ Took Close 1
unfolding mark_step
close_is c cs h = let o : is_open c ≡ false = grind (arith, nat_tests) in rw (o, h)

abbrev punct_at : Chars → ℕ
punct_at cs = punct_len (first cs) (get_or cs 1 0) (get_or cs 2 0)

punct_is : (c : ℕ) (cs : Chars) → is_open c ≡ false → is_close c ≡ false → mark_step (c ∷ cs) ≡ cond (punct_at (c ∷ cs) == 0) (Bad BadCharacter 0) (Took Punct (punct_at (c ∷ cs)))
unfolding mark_step
punct_is c cs h k = rw (h, k)

-- ---- what stands there is found

pub open_covers : (e : Edition) (dot : Bool) (w rest : Chars) → is_among opening_delimiters w ≡ true → Covered (w ++ rest) (step e dot (w ++ rest)) Open (length w)
open_covers e dot w rest h = any_of (λ w. Covered (w ++ rest) (step e dot (w ++ rest)) Open (length w)) w opening_delimiters (at 40 refl, (at 91 refl, (at 123 refl, tt))) h
  where
    at : (c : ℕ) → is_open c ≡ true → Covered (c ∷ rest) (step e dot (c ∷ rest)) Open 1
    at c o = mark_covers e dot c rest Open 1 (open_apart c o) (subst (λ p. Covered (c ∷ rest) p Open 1) (sym (open_is c rest o)) (omega arith, λ e. refl))

pub close_covers : (e : Edition) (dot : Bool) (w rest : Chars) → is_among closing_delimiters w ≡ true → Covered (w ++ rest) (step e dot (w ++ rest)) Close (length w)
close_covers e dot w rest h = any_of (λ w. Covered (w ++ rest) (step e dot (w ++ rest)) Close (length w)) w closing_delimiters (at 41 refl, (at 93 refl, (at 125 refl, tt))) h
  where
    at : (c : ℕ) → is_close c ≡ true → Covered (c ∷ rest) (step e dot (c ∷ rest)) Close 1
    at c o = mark_covers e dot c rest Close 1 (close_apart c o) (subst (λ p. Covered (c ∷ rest) p Close 1) (sym (close_is c rest o)) (omega arith, λ e. refl))

punct_closed : (c : ℕ) → is_punct1 c ≡ true → (is_open c ≡ false) × (is_close c ≡ false)
punct_closed c h = (grind (arith, nat_tests), grind (arith, nat_tests))

at_least : (c : ℕ) (cs : Chars) (m : ℕ) → is_punct1 c ≡ true → 1 ≤ m → m ≤ punct_at (c ∷ cs) → Covered (c ∷ cs) (mark_step (c ∷ cs)) Punct m
at_least c cs m h some most =
    let k = punct_closed c h in
    subst (λ p. Covered (c ∷ cs) p Punct m) (sym (punct_is c cs k.0 k.1))
    (pick (λ p. Covered (c ∷ cs) p Punct m) (punct_at (c ∷ cs) == 0) _ _ (λ t. tt) (λ t. (most, λ e. refl)))

three_len : (a b c : ℕ) → is_punct3 a b c ≡ true → 3 ≤ punct_len a b c
unfolding punct_len
three_len a b c h = rw h (omega arith)

two_len : (a b c : ℕ) → is_punct2 a b ≡ true → 2 ≤ punct_len a b c
unfolding punct_len
two_len a b c h = pick (λ n. 2 ≤ n) (is_punct3 a b c) _ _ (λ t. omega arith) (λ t. rw h (omega arith))

one_len : (a b c : ℕ) → is_punct1 a ≡ true → 1 ≤ punct_len a b c
unfolding punct_len
one_len a b c h = pick (λ n. 1 ≤ n) (is_punct3 a b c) _ _ (λ t. omega arith) (λ t. pick (λ n. 1 ≤ n) (is_punct2 a b) _ _ (λ u. omega arith) (λ u. rw h (omega arith)))

pub punct_covers : (e : Edition) (dot : Bool) (w rest : Chars) → is_among punctuation w ≡ true → Covered (w ++ rest) (step e dot (w ++ rest)) Punct (length w)
punct_covers e dot w rest h = here w (shape_of w h)
  where
    here : (w : Chars) → Shape w → Covered (w ++ rest) (step e dot (w ++ rest)) Punct (length w)
    here _ under = under_covers e dot rest
    here _ (one {a} p) = mark_covers e dot a rest Punct 1 (punct_apart a p) (at_least a rest 1 p (omega arith) (one_len a _ _ p))
    here _ (two {a} {b} p q) = mark_covers e dot a (b ∷ rest) Punct 2 (punct_apart a q) (at_least a (b ∷ rest) 2 q (omega arith) (two_len a b _ p))
    here _ (three {a} {b} {c} p q) = mark_covers e dot a (b ∷ c ∷ rest) Punct 3 (punct_apart a q) (at_least a (b ∷ c ∷ rest) 3 q (omega arith) (three_len a b c p))

-- ---- a character that begins nothing

abbrev Known : ℕ → Type 0
Known c = (is_open c || is_close c || is_punct1 c || c == 95) ≡ true

abbrev EachTo : (Chars → Bool) → Type 0 → List Chars → Type 0
EachTo p Q [] = Unit {0}
EachTo p Q (x ∷ xs) = (p x ≡ true → Q) × EachTo p Q xs

any_to : (p : Chars → Bool) (Q : Type 0) (xs : List Chars) → EachTo p Q xs → list_any p xs ≡ true → Q
any_to p Q [] e h = impossible h
any_to p Q (x ∷ xs) e h = elim (or_cases (p x) (list_any p xs) h) [ inl a ↦ e.0 a | inr a ↦ any_to p Q xs e.1 a ]

mark_known : (c : ℕ) → is_mark c ≡ true → Known c
mark_known c h =
    any_to (starts (λ d. d == c)) (Known c) (opening_delimiters ++ (closing_delimiters ++ punctuation))
    ((known 40 refl, (known 91 refl, (known 123 refl, (known 41 refl, (known 93 refl, (known 125 refl, (known 43 refl, (known 45 refl, (known 42 refl, (known 47 refl, (known 37 refl, (known 94 refl, (known 33 refl, (known 38 refl, (known 124 refl, (known 38 refl, (known 124 refl, (known 60 refl, (known 62 refl, (known 43 refl, (known 45 refl, (known 42 refl, (known 47 refl, (known 37 refl, (known 94 refl, (known 38 refl, (known 124 refl, (known 60 refl, (known 62 refl, (known 61 refl, (known 61 refl, (known 33 refl, (known 62 refl, (known 60 refl, (known 62 refl, (known 60 refl, (known 64 refl, (known 95 refl, (known 46 refl, (known 46 refl, (known 46 refl, (known 46 refl, (known 44 refl, (known 59 refl, (known 58 refl, (known 58 refl, (known 45 refl, (known 60 refl, (known 61 refl, (known 35 refl, (known 36 refl, (known 63 refl, (known 126 refl, tt)))))))))))))))))))))))))))))))))))))))))))))))))))))) h
  where
    known : (x : ℕ) → Known x → (x == c) ≡ true → Known c
    known x k t = subst Known (eqb-true x c t) k

open_mark : (c : ℕ) → is_open c ≡ true → is_mark c ≡ true
open_mark c h = any_char (λ c. is_mark c ≡ true) c (codes "([{") (refl, (refl, (refl, tt))) (open1 c h)

close_mark : (c : ℕ) → is_close c ≡ true → is_mark c ≡ true
close_mark c h = any_char (λ c. is_mark c ≡ true) c (codes ")]}") (refl, (refl, (refl, tt))) (close1 c h)

punct_mark : (c : ℕ) → is_punct1 c ≡ true → is_mark c ≡ true
punct_mark c h = any_char (λ a. is_mark a ≡ true) c (codes "+-*/%^!&|=<>@.,;:#$?~") ((refl, (refl, (refl, (refl, (refl, (refl, (refl, (refl, (refl, (refl, (refl, (refl, (refl, (refl, (refl, (refl, (refl, (refl, (refl, (refl, (refl, tt)))))))))))))))))))))) (punct1 c h)

none_len : (a b c : ℕ) → (punct_len a b c == 0) ≡ true → is_punct1 a ≡ false
none_len a b c h = by_test (is_punct1 a ≡ false) (is_punct1 a) (λ t. let l = one_len a b c t in absurd (omega (arith, l, eqb-true _ 0 h))) (λ t. t)

three_is : (a b c : ℕ) → is_punct3 a b c ≡ true → punct_len a b c ≡ 3
unfolding punct_len
three_is a b c h = rw h

two_is : (a b c : ℕ) → is_punct3 a b c ≡ false → is_punct2 a b ≡ true → punct_len a b c ≡ 2
unfolding punct_len
two_is a b c h k = rw (h, k)

one_is : (a b c : ℕ) → is_punct3 a b c ≡ false → is_punct2 a b ≡ false → is_punct1 a ≡ true → punct_len a b c ≡ 1
unfolding punct_len
one_is a b c h k l = rw (h, k, l)

zero_is : (a b c : ℕ) → is_punct3 a b c ≡ false → is_punct2 a b ≡ false → is_punct1 a ≡ false → punct_len a b c ≡ 0
unfolding punct_len
zero_is a b c h k l = rw (h, k, l)

three_some : (a b c : ℕ) → is_punct3 a b c ≡ true → (0 < b) × (0 < c)
three_some a b c h = (grind (arith, nat_tests), grind (arith, nat_tests))

two_some : (a b : ℕ) → is_punct2 a b ≡ true → 0 < b
two_some a b h = grind (arith, nat_tests)

first3 : (a b c : ℕ) → is_punct3 a b c ≡ true → is_punct1 a ≡ true
first3 a b c h = grind (arith, nat_tests)

first2 : (a b : ℕ) → is_punct2 a b ≡ true → is_punct1 a ≡ true
first2 a b h = grind (arith, nat_tests)

punct_found : (e : Edition) (dot : Bool) (text w left : Chars) (n : ℕ) → text ≡ w ++ left → n ≡ length w → is_among punctuation w ≡ true → Holds e dot text (Took Punct n)
punct_found e dot text w left n parts len among = (record { w = w; left = left; parts = parts; len = len }, among)

punct_front : (e : Edition) (dot : Bool) (c : ℕ) (cs : Chars) → (punct_at (c ∷ cs) == 0) ≡ false → Holds e dot (c ∷ cs) (Took Punct (punct_at (c ∷ cs)))
punct_front e dot c cs z =
    by_test (Holds e dot (c ∷ cs) (Took Punct (punct_at (c ∷ cs)))) (is_punct3 c (get_or cs 0 0) (get_or cs 1 0))
    (λ t. three_front cs t)
    (λ t. by_test (Holds e dot (c ∷ cs) (Took Punct (punct_at (c ∷ cs)))) (is_punct2 c (get_or cs 0 0))
    (λ u. two_front cs t u)
    (λ u. by_test (Holds e dot (c ∷ cs) (Took Punct (punct_at (c ∷ cs)))) (is_punct1 c)
    (λ v. punct_found e dot (c ∷ cs) (c ∷ []) cs (punct_at (c ∷ cs)) refl (one_is c _ _ t u v) (one_punct c v))
    (λ v. absurd (both_ways _ z (ap (λ n. n == 0) (zero_is c _ _ t u v))))))
  where
    three_front : (cs : Chars) → is_punct3 c (get_or cs 0 0) (get_or cs 1 0) ≡ true → Holds e dot (c ∷ cs) (Took Punct (punct_at (c ∷ cs)))
    three_front [] t = absurd (omega (arith, (three_some c 0 0 t).0))
    three_front (a ∷ []) t = absurd (omega (arith, (three_some c a 0 t).1))
    three_front (a ∷ b ∷ cs) t = punct_found e dot (c ∷ a ∷ b ∷ cs) (c ∷ a ∷ b ∷ []) cs (punct_at (c ∷ a ∷ b ∷ cs)) refl (three_is c a b t) (three_punct c a b t)

    two_front : (cs : Chars) → is_punct3 c (get_or cs 0 0) (get_or cs 1 0) ≡ false → is_punct2 c (get_or cs 0 0) ≡ true → Holds e dot (c ∷ cs) (Took Punct (punct_at (c ∷ cs)))
    two_front [] t u = absurd (omega (arith, two_some c 0 u))
    two_front (a ∷ cs) t u = punct_found e dot (c ∷ a ∷ cs) (c ∷ a ∷ []) cs (punct_at (c ∷ a ∷ cs)) refl (two_is c a _ t u) (two_punct c a u)

-- what is found at a mark holds
pub mark_holds : (e : Edition) (dot : Bool) (c : ℕ) (cs : Chars) → Mark c cs → Holds e dot (c ∷ cs) (mark_step (c ∷ cs))
mark_holds e dot c cs m =
    by_test (Holds e dot (c ∷ cs) (mark_step (c ∷ cs))) (is_open c)
    (λ o. subst (Holds e dot (c ∷ cs)) (sym (open_is c cs o)) (record { w = c ∷ []; left = cs; parts = refl; len = refl }, any_char (λ c. is_among opening_delimiters (c ∷ []) ≡ true) c (codes "([{") (refl, (refl, (refl, tt))) (open1 c o)))
    (λ o. by_test (Holds e dot (c ∷ cs) (mark_step (c ∷ cs))) (is_close c)
    (λ k. subst (Holds e dot (c ∷ cs)) (sym (close_is c cs k)) (record { w = c ∷ []; left = cs; parts = refl; len = refl }, any_char (λ c. is_among closing_delimiters (c ∷ []) ≡ true) c (codes ")]}") (refl, (refl, (refl, tt))) (close1 c k)))
    (λ k. subst (Holds e dot (c ∷ cs)) (sym (punct_is c cs o k))
    (pick (Holds e dot (c ∷ cs)) (punct_at (c ∷ cs) == 0) _ _
    (λ z. unknown c cs refl (nothing o k (none_len c _ _ z)) refl refl)
    (λ z. punct_front e dot c cs z))))
  where
    no_mark : is_open c ≡ false → is_close c ≡ false → is_punct1 c ≡ false → is_mark c ≡ false
    no_mark o k p = by_test (is_mark c ≡ false) (is_mark c) (λ t. absurd (both_ways _ (none (is_open c) (is_close c) (is_punct1 c) (c == 95) o k p (or_false (c == 95) _ m.word).0) (mark_known c t))) (λ t. t)
      where
        none : (a b c d : Bool) → a ≡ false → b ≡ false → c ≡ false → d ≡ false → (a || b || c || d) ≡ false
        none a b c d h i j k = rw (h, i, j, k)

    nothing : is_open c ≡ false → is_close c ≡ false → is_punct1 c ≡ false → begins_nothing c ≡ true
    nothing o k p = let a = m.blank in let b = m.word in let d = m.digit in let q = m.quote in let s = m.single in let z = no_mark o k p in rw (a, b, d, q, s, z)

-- and is found
pub unknown_told : (e : Edition) (dot : Bool) (c : ℕ) (cs : Chars) → begins_nothing c ≡ true → Told (step e dot (c ∷ cs)) BadCharacter 0
unknown_told e dot c cs h =
    let f1 = or_false (is_blank c || is_start c || is_ascii_digit c || c == 34 || c == 39) (is_mark c) (not_true _ h) in
    let f2 = or_false (is_blank c || is_start c || is_ascii_digit c || c == 34) (c == 39) f1.0 in
    let f3 = or_false (is_blank c || is_start c || is_ascii_digit c) (c == 34) f2.0 in
    let f4 = or_false (is_blank c || is_start c) (is_ascii_digit c) f3.0 in
    let f5 = or_false (is_blank c) (is_start c) f4.0 in
    let o : is_open c ≡ false = unmarked (is_open c) (open_mark c) f1.1 in
    let k : is_close c ≡ false = unmarked (is_close c) (close_mark c) f1.1 in
    let p : is_punct1 c ≡ false = unmarked (is_punct1 c) (punct_mark c) f1.1 in
    let s : (c == 47) ≡ false = unmarked (c == 47) (λ t. subst (λ c. is_mark c ≡ true) (sym (eqb-true c 47 t)) refl) f1.1 in
    let z : punct_at (c ∷ cs) ≡ 0 = zero_is c _ _ (unmarked _ (λ t. punct_mark c (first3 c _ _ t)) f1.1) (unmarked _ (λ t. punct_mark c (first2 c _ t)) f1.1) p in
    let step_is = step_mark e dot c cs (record { word = f5.1; digit = f4.1; quote = f3.1; single = f2.1; blank = f5.0; line = rw s; block = rw s }) ∙ punct_is c cs o k ∙ (ap (λ n. cond (n == 0) (Bad BadCharacter 0) (Took Punct n)) z) in
    subst (λ p. Told p BadCharacter 0) (sym step_is) (inr (refl, omega arith))
  where
    unmarked : (b : Bool) → (b ≡ true → is_mark c ≡ true) → is_mark c ≡ false → b ≡ false
    unmarked true f m = absurd (both_ways _ m (f refl))
    unmarked false f m = refl
