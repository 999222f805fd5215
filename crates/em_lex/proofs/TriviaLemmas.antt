-- Whitespace and comments.
use Rattle.std.proofs.Common.{◌≡◌, inr, ℕ, zero, suc, ◌+◌, ◌-◌, ◌<◌, Bool, true, false, cond, ◌&&◌, ◌==◌, [], ◌∷◌, ◌++◌, length, take, Option, Some, None, refl, sym, ap, ◌∙◌, subst, arith, length-append}
use Rattle.std.proofs.lemmas.Bool.{and_parts, eqb-true}
use Rattle.std.proofs.lemmas.Bool.Decides.{nat_tests}
use Rattle.std.specs.List.{prefix_len}
use Rattle.em_base.specs.declared.edition.Edition.{Edition}
use Rattle.em_lex.specs.declared.error.LexKind.TheVariants.{Unclosed}
use Rattle.em_lex.specs.declared.piece.Piece.TheVariants.{Trivia as Gap}
use Rattle.em_lex.specs.Characters.{Chars, starts, is_blank, not_line_feed}
use Rattle.em_lex.specs.Trivia.{is_comment_mark, Within, closes, lowers, raises, passes, is_doc, IsTrivia, blank, line, block}
use Rattle.em_lex.specs.Faults.{comment}
use Rattle.em_lex.specs.Scan.{first, after, block_len, doc_comment, trivia_of, block_of, step}
use Rattle.em_lex.proofs.Base.{pick, or_false, Passed, passed, prefix_all, take_front}
use Rattle.em_lex.proofs.Values.{none_some, some_same}
use Rattle.em_lex.proofs.Heads.{step_blank, step_line, step_block}
use Rattle.em_lex.proofs.Pieces.{Holds, Told}

starts_one : (x : ℕ) (cs : Chars) → (0 == x) ≡ false → starts (λ d. d == x) cs ≡ (first cs == x)
starts_one x [] h = sym h
starts_one x (c ∷ cs) h = refl

there : (cs : Chars) (c : ℕ) → (first cs == c) ≡ true → 0 < c → (rest : Chars) × (cs ≡ c ∷ rest)
there [] c h some = absurd (omega (arith, eqb-true 0 c h, some))
there (d ∷ rest) c h some = (rest, ap (λ x. x ∷ rest) (eqb-true d c h))

record BlockCut (d : ℕ) (cs : Chars) (k : ℕ) : Type 0 where
  front : Chars
  left : Chars
  parts : cs ≡ front ++ left
  len : k ≡ length front
  within : Within d cs left

abbrev BlockFrom : Bool → ℕ → Chars → ℕ → Type 0
BlockFrom true d cs k = (c : ℕ) × (r : Chars) × (j : ℕ) × (cs ≡ c ∷ r) × (k ≡ suc j) × BlockCut d r j
BlockFrom false d cs k = BlockCut d cs k

after_one : (o : Option ℕ) (k : ℕ) → after 1 o ≡ Some k → (j : ℕ) × (o ≡ Some j) × (k ≡ suc j)
after_one None k e = absurd (none_some e)
after_one (Some j) k e = let same : 1 + j ≡ k = some_same e in (j, refl, omega (arith, same))

marks : (c : ℕ) (cs : Chars) → (c == 42 && first cs == 47) ≡ false → (c == 47 && first cs == 42) ≡ false → is_comment_mark c cs ≡ false
marks c cs h k = let a = starts_one 47 cs refl in let b = starts_one 42 cs refl in rw (a, b, h, k)

no_marks : (c : ℕ) (cs : Chars) → is_comment_mark c cs ≡ false → ((c == 42 && first cs == 47) ≡ false) × ((c == 47 && first cs == 42) ≡ false)
no_marks c cs h =
    let a = starts_one 47 cs refl in let b = starts_one 42 cs refl in
    or_false (c == 42 && first cs == 47) (c == 47 && first cs == 42) (rw (a, b) at h)

lower_cut : (c : ℕ) (cs : Chars) (d k j : ℕ) → (c == 42 && first cs == 47) ≡ true → BlockFrom true d cs j → k ≡ suc j → BlockCut (suc d) (c ∷ cs) k
lower_cut c cs d k j t (b, r, i, e, up, w) more =
    let a = and_parts (c == 42) (first cs == 47) t in
    let second : b ≡ 47 = sym (ap first e) ∙ eqb-true (first cs) 47 a.1 in
    let text : c ∷ cs ≡ 42 ∷ 47 ∷ r = ap (λ x. x ∷ cs) (eqb-true c 42 a.0) ∙ ap (λ xs. 42 ∷ xs) (e ∙ ap (λ x. x ∷ r) second) in
    record { front = 42 ∷ 47 ∷ w.front; left = w.left; parts = text ∙ ap (λ xs. 42 ∷ 47 ∷ xs) w.parts; len = more ∙ ap (λ n. suc n) (up ∙ ap (λ n. suc n) w.len); within = lowers d r refl text w.within }

raise_cut : (c : ℕ) (cs : Chars) (d k j : ℕ) → (c == 47 && first cs == 42) ≡ true → BlockFrom true (d + 1) cs j → k ≡ suc j → BlockCut d (c ∷ cs) k
raise_cut c cs d k j t (b, r, i, e, up, w) more =
    let a = and_parts (c == 47) (first cs == 42) t in
    let second : b ≡ 42 = sym (ap first e) ∙ eqb-true (first cs) 42 a.1 in
    let deeper : d + 1 ≡ suc d = omega arith in
    let text : c ∷ cs ≡ 47 ∷ 42 ∷ r = ap (λ x. x ∷ cs) (eqb-true c 47 a.0) ∙ ap (λ xs. 47 ∷ xs) (e ∙ ap (λ x. x ∷ r) second) in
    record { front = 47 ∷ 42 ∷ w.front; left = w.left; parts = text ∙ ap (λ xs. 47 ∷ 42 ∷ xs) w.parts; len = more ∙ ap (λ n. suc n) (up ∙ ap (λ n. suc n) w.len); within = raises r text (subst (λ n. Within n r w.left) deeper w.within) }

close_cut : (c : ℕ) (cs : Chars) (k : ℕ) → (c == 42 && first cs == 47) ≡ true → 2 ≡ k → BlockCut 0 (c ∷ cs) k
close_cut c cs k t two =
    let a = and_parts (c == 42) (first cs == 47) t in
    let (r, e) = there cs 47 a.1 (omega arith) in
    let text : c ∷ cs ≡ 42 ∷ 47 ∷ r = ap (λ x. x ∷ cs) (eqb-true c 42 a.0) ∙ ap (λ xs. 42 ∷ xs) e in
    record { front = 42 ∷ 47 ∷ []; left = r; parts = text; len = omega (arith, two); within = closes refl text }

pass_cut : (c : ℕ) (cs : Chars) (d k j : ℕ) → (c == 42 && first cs == 47) ≡ false → (c == 47 && first cs == 42) ≡ false → BlockCut d cs j → k ≡ suc j → BlockCut d (c ∷ cs) k
pass_cut c cs d k j t u w more = record { front = c ∷ w.front; left = w.left; parts = ap (λ xs. c ∷ xs) w.parts; len = more ∙ ap (λ n. suc n) w.len; within = passes c cs refl (marks c cs t u) w.within }

suc_zero : (d : ℕ) → (suc d == 0) ≡ false
suc_zero d = grind (arith, nat_tests)

block_cut : (used : Bool) (d : ℕ) (cs : Chars) (k : ℕ) → block_len d used cs ≡ Some k → BlockFrom used d cs k
unfolding block_len
block_cut true d [] k e = absurd (none_some e)
block_cut false d [] k e = absurd (none_some e)
block_cut true d (c ∷ cs) k e = let (j, is, up) = after_one (block_len d false cs) k e in (c, cs, j, refl, up, block_cut false d cs j is)
block_cut false zero (c ∷ cs) k given =
    pick (λ (o : Option ℕ). o ≡ Some k → BlockCut 0 (c ∷ cs) k) (c == 42 && first cs == 47) _ _ (λ t e. close_cut c cs k t (some_same e))
    (λ t. pick (λ (o : Option ℕ). o ≡ Some k → BlockCut 0 (c ∷ cs) k) (c == 47 && first cs == 42) _ _
    (λ u e. let (j, is, up) = after_one (block_len (0 + 1) true cs) k e in raise_cut c cs 0 k j u (block_cut true (0 + 1) cs j is) up)
    (λ u e. let (j, is, up) = after_one (block_len 0 false cs) k e in pass_cut c cs 0 k j t u (block_cut false 0 cs j is) up)) given
block_cut false (suc d) (c ∷ cs) k given =
    pick (λ (o : Option ℕ). o ≡ Some k → BlockCut (suc d) (c ∷ cs) k) (c == 42 && first cs == 47) _ _
    (λ t e. let (j, is, up) = after_one (block_len (suc d - 1) true cs) k e in
    let less : suc d - 1 ≡ d = omega arith in
    lower_cut c cs d k j t (block_cut true d cs j (subst (λ n. block_len n true cs ≡ Some j) less is)) up)
    (λ t. pick (λ (o : Option ℕ). o ≡ Some k → BlockCut (suc d) (c ∷ cs) k) (c == 47 && first cs == 42) _ _
    (λ u e. let (j, is, up) = after_one (block_len (suc d + 1) true cs) k e in raise_cut c cs (suc d) k j u (block_cut true (suc d + 1) cs j is) up)
    (λ u e. let (j, is, up) = after_one (block_len (suc d) false cs) k e in pass_cut c cs (suc d) k j t u (block_cut false (suc d) cs j is) up))
    (subst (λ (b : Bool). cond (c == 42 && first cs == 47) (cond b (Some 2) (after 1 (block_len (suc d - 1) true cs))) (cond (c == 47 && first cs == 42) (after 1 (block_len (suc d + 1) true cs)) (after 1 (block_len (suc d) false cs))) ≡ Some k) (suc_zero d) given)

record BlockLen (d : ℕ) (cs left : Chars) : Type 0 where
  front : Chars
  parts : cs ≡ front ++ left
  len : block_len d false cs ≡ Some (length front)

closes_len : (left : Chars) → block_len 0 false (42 ∷ 47 ∷ left) ≡ Some 2
unfolding block_len
closes_len left = refl

lowers_len : (d : ℕ) (cs : Chars) → block_len (suc d) false (42 ∷ 47 ∷ cs) ≡ after 1 (after 1 (block_len d false cs))
unfolding block_len
lowers_len d cs = let less : suc d - 1 ≡ d = omega arith in let z = suc_zero d in rw (less, z)

raises_len : (d : ℕ) (cs : Chars) → block_len d false (47 ∷ 42 ∷ cs) ≡ after 1 (after 1 (block_len (suc d) false cs))
unfolding block_len
raises_len d cs = let more : d + 1 ≡ suc d = omega arith in rw more

passes_len : (d c : ℕ) (cs : Chars) → (c == 42 && first cs == 47) ≡ false → (c == 47 && first cs == 42) ≡ false → block_len d false (c ∷ cs) ≡ after 1 (block_len d false cs)
unfolding block_len
passes_len d c cs t u = rw (t, u)

two_more : (n : ℕ) → after 1 (after 1 (Some n)) ≡ Some (suc (suc n))
two_more n = ap (λ k. Some k) (omega arith)

one_more : (n : ℕ) → after 1 (Some n) ≡ Some (suc n)
one_more n = ap (λ k. Some k) (omega arith)

within_len : {d : ℕ} {cs left : Chars} → Within d cs left → BlockLen d cs left
within_len {d} {cs} {left} (closes z e) = record { front = 42 ∷ 47 ∷ []; parts = e; len = ap (λ n. block_len n false cs) z ∙ ap (block_len 0 false) e ∙ closes_len left }
within_len {d} {cs} {left} (lowers b xs z e w) =
    let r = within_len w in
    record { front = 42 ∷ 47 ∷ r.front; parts = e ∙ ap (λ x. 42 ∷ 47 ∷ x) r.parts; len = ap (λ n. block_len n false cs) z ∙ ap (block_len (suc b) false) e ∙ lowers_len b xs ∙ ap (λ o. after 1 (after 1 o)) r.len ∙ two_more (length r.front) }
within_len {d} {cs} {left} (raises xs e w) =
    let r = within_len w in
    record { front = 47 ∷ 42 ∷ r.front; parts = e ∙ ap (λ x. 47 ∷ 42 ∷ x) r.parts; len = ap (block_len d false) e ∙ raises_len d xs ∙ ap (λ o. after 1 (after 1 o)) r.len ∙ two_more (length r.front) }
within_len {d} {cs} {left} (passes c xs e m w) =
    let r = within_len w in
    let t = no_marks c xs m in
    record { front = c ∷ r.front; parts = e ∙ ap (λ x. c ∷ x) r.parts; len = ap (block_len d false) e ∙ passes_len d c xs t.0 t.1 ∙ ap (after 1) r.len ∙ one_more (length r.front) }

doc_same : (w : Chars) → doc_comment w ≡ is_doc w
doc_same w = refl

-- ---- what is found holds

pub blank_holds : (e : Edition) (dot : Bool) (c : ℕ) (cs : Chars) → is_blank c ≡ true → Holds e dot (c ∷ cs) (Gap 1 false)
blank_holds e dot c cs h = (record { w = c ∷ []; left = cs; parts = refl; len = refl }, blank c refl h refl)

pub line_holds : (e : Edition) (dot : Bool) (cs : Chars) → Holds e dot (47 ∷ 47 ∷ cs) (trivia_of (47 ∷ 47 ∷ cs) (prefix_len not_line_feed (47 ∷ 47 ∷ cs)))
line_holds e dot cs = whole (passed not_line_feed cs)
  where
    whole : Passed not_line_feed cs → Holds e dot (47 ∷ 47 ∷ cs) (trivia_of (47 ∷ 47 ∷ cs) (prefix_len not_line_feed (47 ∷ 47 ∷ cs)))
    whole p =
        let n : prefix_len not_line_feed (47 ∷ 47 ∷ cs) ≡ length (47 ∷ 47 ∷ p.front) = (let l = p.len in omega (arith, l)) in
        let text : 47 ∷ 47 ∷ cs ≡ (47 ∷ 47 ∷ p.front) ++ p.rest = ap (λ x. 47 ∷ 47 ∷ x) p.parts in
        let taken : take (prefix_len not_line_feed (47 ∷ 47 ∷ cs)) (47 ∷ 47 ∷ cs) ≡ 47 ∷ 47 ∷ p.front = ap (λ k. take k (47 ∷ 47 ∷ cs)) n ∙ ap (take (length (47 ∷ 47 ∷ p.front))) text ∙ take_front (47 ∷ 47 ∷ p.front) p.rest in
        (record { w = 47 ∷ 47 ∷ p.front; left = p.rest; parts = text; len = n }, line p.front refl p.all p.ends (ap doc_comment taken ∙ doc_same (47 ∷ 47 ∷ p.front)))

pub block_holds : (e : Edition) (dot : Bool) (cs : Chars) → Holds e dot (47 ∷ 42 ∷ cs) (block_of (47 ∷ 42 ∷ cs) (block_len 0 false cs))
block_holds e dot cs = here (block_len 0 false cs) refl
  where
    here : (o : Option ℕ) → block_len 0 false cs ≡ o → Holds e dot (47 ∷ 42 ∷ cs) (block_of (47 ∷ 42 ∷ cs) o)
    here None b = comment cs refl (λ left w. none_some (sym b ∙ (within_len w).len)) refl refl
    here (Some k) b =
        let r = block_cut false 0 cs k b in
        let n : 2 + k ≡ length (47 ∷ 42 ∷ r.front) = (let l = r.len in omega (arith, l)) in
        let text : 47 ∷ 42 ∷ cs ≡ (47 ∷ 42 ∷ r.front) ++ r.left = ap (λ x. 47 ∷ 42 ∷ x) r.parts in
        let taken : take (2 + k) (47 ∷ 42 ∷ cs) ≡ 47 ∷ 42 ∷ r.front = ap (λ k. take k (47 ∷ 42 ∷ cs)) n ∙ ap (take (length (47 ∷ 42 ∷ r.front))) text ∙ take_front (47 ∷ 42 ∷ r.front) r.left in
        (record { w = 47 ∷ 42 ∷ r.front; left = r.left; parts = text; len = n }, block r.front refl (subst (λ x. Within 0 x r.left) r.parts r.within) (ap doc_comment taken ∙ doc_same (47 ∷ 42 ∷ r.front)))

-- ---- what stands there is found

pub trivia_step : (e : Edition) (dot : Bool) (w : Chars) (doc : Bool) (left : Chars) → IsTrivia w doc left → step e dot (w ++ left) ≡ Gap (length w) doc
trivia_step e dot w doc left (blank c is h d) = rw (is, d) (step_blank e dot c left h)
trivia_step e dot w doc left (line cs is all ends d) =
    let n : prefix_len not_line_feed (47 ∷ 47 ∷ (cs ++ left)) ≡ length (47 ∷ 47 ∷ cs) = prefix_all not_line_feed (47 ∷ 47 ∷ cs) left all ends in
    let taken : take (length (47 ∷ 47 ∷ cs)) (47 ∷ 47 ∷ (cs ++ left)) ≡ 47 ∷ 47 ∷ cs = take_front (47 ∷ 47 ∷ cs) left in
    ap (λ x. step e dot (x ++ left)) is ∙ step_line e dot (cs ++ left) ∙ ap (trivia_of (47 ∷ 47 ∷ (cs ++ left))) n
    ∙ ap (λ x. Gap (length (47 ∷ 47 ∷ cs)) (doc_comment x)) taken ∙ ap (λ x. Gap (length x) (doc_comment x)) (sym is) ∙ ap (Gap (length w)) (doc_same w ∙ sym d)
trivia_step e dot w doc left (block cs is within d) =
    let r = within_len within in
    let fronts : cs ≡ r.front = same_left cs r.front left r.parts in
    let k : block_len 0 false (cs ++ left) ≡ Some (length cs) = r.len ∙ ap (λ x. Some (length x)) (sym fronts) in
    let two : 2 + length cs ≡ length (47 ∷ 42 ∷ cs) = omega arith in
    let taken : take (length (47 ∷ 42 ∷ cs)) (47 ∷ 42 ∷ (cs ++ left)) ≡ 47 ∷ 42 ∷ cs = take_front (47 ∷ 42 ∷ cs) left in
    ap (λ x. step e dot (x ++ left)) is ∙ step_block e dot (cs ++ left) ∙ ap (block_of (47 ∷ 42 ∷ (cs ++ left))) k ∙ ap (trivia_of (47 ∷ 42 ∷ (cs ++ left))) two
    ∙ ap (λ x. Gap (length (47 ∷ 42 ∷ cs)) (doc_comment x)) taken ∙ ap (λ x. Gap (length x) (doc_comment x)) (sym is) ∙ ap (Gap (length w)) (doc_same w ∙ sym d)
  where
    same_left : (v w left : Chars) → v ++ left ≡ w ++ left → v ≡ w
    same_left v w left e =
        let a = length-append v left in
        let b = length-append w left in
        let c = ap (λ x. length x) e in
        let l : length v ≡ length w = omega (arith, a, b, c) in
        sym (take_front v left) ∙ ap (take (length v)) e ∙ ap (λ n. take n (w ++ left)) l ∙ take_front w left

pub comment_told : (e : Edition) (dot : Bool) (text cs : Chars) → text ≡ 47 ∷ 42 ∷ cs → ((left : Chars) → Within 0 cs left → ⊥) → Told (step e dot text) Unclosed 0
comment_told e dot text cs is none = subst (λ p. Told p Unclosed 0) (sym (ap (step e dot) is ∙ step_block e dot cs)) (here (block_len 0 false cs) refl)
  where
    here : (o : Option ℕ) → block_len 0 false cs ≡ o → Told (block_of (47 ∷ 42 ∷ cs) o) Unclosed 0
    here None b = inr (refl, omega arith)
    here (Some k) b = let r = block_cut false 0 cs k b in absurd (none r.left r.within)
