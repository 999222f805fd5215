-- At a word, and at a `'`.
use Rattle.std.proofs.Common.{◌≡◌, ℕ, suc, ◌+◌, ◌<◌, ◌≤◌, Bool, true, false, not, cond, ◌&&◌, ◌||◌, ◌==◌, List, [], ◌∷◌, ◌++◌, length, take, drop, get_or, codes, Option, Some, None, refl, sym, ap, ◌∙◌, subst, arith, length-append, append_assoc}
use Rattle.std.proofs.lemmas.Bool.{and_parts, both_ways, eqb-true}
use Rattle.std.proofs.lemmas.Bool.Decides.{nat_tests}
use Rattle.std.specs.List.{list_all, prefix_len}
use Rattle.std.specs.Str.{bytes_eq}
use Rattle.unicode_ident.specs.Ident.{is_xid_continue}
use Rattle.em_base.specs.Names.{is_start, is_word, is_identifier}
use Rattle.em_base.specs.declared.edition.Edition.{Edition}
use Rattle.em_base.specs.declared.edition.Edition.TheVariants.{E2015, E2018, E2021}
use Rattle.em_base.specs.declared.token.TokenKind.{TokenKind}
use Rattle.em_base.specs.declared.token.TokenKind.TheVariants.{Ident, Lifetime, Punct}
use Rattle.em_lex.specs.declared.error.LexKind.TheVariants.{BadLifetime, BadRaw}
use Rattle.em_lex.specs.declared.piece.Form.{Form}
use Rattle.em_lex.specs.declared.piece.Form.TheVariants.{Quoted, Single, Raw}
use Rattle.em_lex.specs.declared.piece.Piece.{Piece}
use Rattle.em_lex.specs.declared.piece.Piece.TheVariants.{Trivia as Gap, Token as Took, Fault as Bad}
use Rattle.em_lex.specs.Characters.{Chars, starts, name_of}
use Rattle.em_lex.specs.Literals.{hashes, opening, Closed, OneCharacter, plain, escape, broken}
use Rattle.em_lex.specs.Spelling.{is_among, punctuation, is_never_raw, IsRawWord}
use Rattle.em_lex.specs.Faults.{prefix, hash_r, hash_br, lifetime, reserves, is_reserved, BeginsRawString, BeginsRawWord}
use Rattle.em_lex.specs.Scan.{first, run, starts_word, is_none, single_len, hash, close_len, closing_len, Reading, literal_read, literal_closed, literal_step, read, lifetime_step, quote_step, is_2021, not_raw, plain_word, prefixed, raw_word, hash_step, word_before_quote, word_before_hash, word_before, word_step, step}
use Rattle.em_lex.proofs.Base.{impossible, by_test, pick, both, not_true, or_false, same_text, Passed, passed, prefix_all, prefix_most, take_front, drop_front, index_front, same_front, no_start, no_continue, is_start-ascii}
use Rattle.em_lex.proofs.Values.{none_some}
use Rattle.em_lex.proofs.BodyLemmas.{hashes_len, all_hashes, close_cut, close_is}
use Rattle.em_lex.proofs.Heads.{step_word, step_single}
use Rattle.em_lex.proofs.Pieces.{Holds, Covered}
use Rattle.em_lex.proofs.LiteralLemmas.{literal_holds, literal_is}

index_past : (w rest : Chars) → get_or (w ++ rest) (length w) 0 ≡ get_or rest 0 0
index_past [] rest = refl
index_past (c ∷ w) rest = index_past w rest

-- a word up to its end
pub word_ends : (e : Edition) (c : ℕ) (w rest : Chars) → list_all is_xid_continue w ≡ true → starts is_xid_continue rest ≡ false → word_step e (c ∷ (w ++ rest)) ≡ word_before e (c ∷ w) (length (c ∷ w)) (first rest) rest
unfolding word_step
word_ends e c w rest h k =
    let n : run (c ∷ (w ++ rest)) ≡ length (c ∷ w) = ap (λ n. suc n) (prefix_all is_xid_continue w rest h k) in
    ap (λ n. word_before e (take n (c ∷ (w ++ rest))) n (get_or (c ∷ (w ++ rest)) n 0) (drop n (c ∷ (w ++ rest)))) n
    ∙ ap (λ w'. word_before e w' (length (c ∷ w)) (get_or (c ∷ (w ++ rest)) (length (c ∷ w)) 0) (drop (length (c ∷ w)) (c ∷ (w ++ rest)))) (take_front (c ∷ w) rest)
    ∙ ap (λ d'. word_before e (c ∷ w) (length (c ∷ w)) d' (drop (length (c ∷ w)) (c ∷ (w ++ rest)))) (index_past (c ∷ w) rest)
    ∙ ap (λ r. word_before e (c ∷ w) (length (c ∷ w)) (first rest) r) (drop_front (c ∷ w) rest)

there : (cs : Chars) (c : ℕ) → (first cs == c) ≡ true → 0 < c → (rest : Chars) × (cs ≡ c ∷ rest)
there [] c h some = absurd (omega (arith, eqb-true 0 c h, some))
there (d ∷ rest) c h some = (rest, ap (λ x. x ∷ rest) (eqb-true d c h))

-- ---- what is found holds

plain_holds : (e : Edition) (dot : Bool) (w rest : Chars) → is_word w ≡ true → Holds e dot (w ++ rest) (plain_word w (length w))
plain_holds e dot w rest h =
    pick (Holds e dot (w ++ rest)) (bytes_eq w (codes "_")) _ _
    (λ t. (record { w = w; left = rest; parts = refl; len = refl }, subst (λ w. is_among punctuation w ≡ true) (sym (same_text w (codes "_") t)) refl))
    (λ t. (record { w = w; left = rest; parts = refl; len = refl }, (both (is_word w) _ h (rw t), refl)))

pub same_edition : (e : Edition) → is_2021 e ≡ reserves e
same_edition E2015 = refl
same_edition E2018 = refl
same_edition E2021 = refl

prefixed_holds : (e : Edition) (dot : Bool) (w : Chars) (c : ℕ) (rest : Chars) → is_word w ≡ true → is_reserved w c ≡ true → Holds e dot (w ++ c ∷ rest) (prefixed e w (length w))
prefixed_holds e dot w c rest h r =
    pick (Holds e dot (w ++ c ∷ rest)) (is_2021 e) _ _ (λ t. prefix w c rest refl h (sym (same_edition e) ∙ t) r refl refl) (λ t. plain_holds e dot w (c ∷ rest) h)

quoted_single : ◌≡◌ {A = Form} Quoted Single → ⊥
quoted_single e = cc

raw_single : {n : ℕ} → ◌≡◌ {A = Form} (Raw n) Single → ⊥
raw_single e = cc

pub true_false : true ≡ false → ⊥
true_false e = impossible (sym e)

reserved34 : (w : Chars) → bytes_eq w (codes "b") ≡ false → bytes_eq w (codes "r") ≡ false → bytes_eq w (codes "br") ≡ false → is_reserved w 34 ≡ true
reserved34 w b r br = rw (b, r, br)

reserved39 : (w : Chars) → bytes_eq w (codes "b") ≡ false → is_reserved w 39 ≡ true
reserved39 w b = rw b

reserved35 : (w : Chars) → bytes_eq w (codes "r") ≡ false → bytes_eq w (codes "br") ≡ false → is_reserved w 35 ≡ true
reserved35 w r br = rw (r, br)

quote_holds : (e : Edition) (dot : Bool) (w rest : Chars) → is_word w ≡ true → Holds e dot (w ++ 34 ∷ rest) (word_before_quote e w (length w) (34 ∷ rest))
quote_holds e dot w rest h =
    pick (Holds e dot (w ++ 34 ∷ rest)) (bytes_eq w (codes "b")) _ _
    (λ b. literal_holds e dot true Quoted (w ++ 34 ∷ rest) rest (ap (λ w. w ++ 34 ∷ rest) (same_text w (codes "b") b)) (λ f k. absurd (quoted_single k)))
    (λ b. pick (Holds e dot (w ++ 34 ∷ rest)) (bytes_eq w (codes "r")) _ _
    (λ r. literal_holds e dot false (Raw 0) (w ++ 34 ∷ rest) rest (ap (λ w. w ++ 34 ∷ rest) (same_text w (codes "r") r)) (λ f k. absurd (raw_single k)))
    (λ r. pick (Holds e dot (w ++ 34 ∷ rest)) (bytes_eq w (codes "br")) _ _
    (λ br. literal_holds e dot true (Raw 0) (w ++ 34 ∷ rest) rest (ap (λ w. w ++ 34 ∷ rest) (same_text w (codes "br") br)) (λ f k. absurd (raw_single k)))
    (λ br. prefixed_holds e dot w 34 rest h (reserved34 w b r br))))

-- ---- at `#`

is_hashes : (cs : Chars) → list_all hash cs ≡ true → cs ≡ hashes (length cs)
is_hashes [] h = refl
is_hashes (c ∷ cs) h = let a = and_parts (hash c) (list_all hash cs) h in ap (λ c. c ∷ cs) (eqb-true c 35 a.0) ∙ ap (λ xs. 35 ∷ xs) (is_hashes cs a.1)

-- so many `#` and then a `"`
pub record HashQuote (cs : Chars) (n : ℕ) : Type 0 where
  pub rest : Chars
  pub parts : cs ≡ hashes n ++ 34 ∷ rest
  pub left : drop (n + 1) cs ≡ rest

pub hash_quote : (cs : Chars) → (get_or cs (prefix_len hash cs) 0 == 34) ≡ true → HashQuote cs (prefix_len hash cs)
hash_quote cs t = whole (passed hash cs)
  where
    whole : Passed hash cs → HashQuote cs (prefix_len hash cs)
    whole p =
        let index : get_or p.rest 0 0 ≡ 34 = sym (index_past p.front p.rest) ∙ ap (λ n. get_or (p.front ++ p.rest) n 0) (sym p.len) ∙ ap (λ xs. get_or xs (prefix_len hash cs) 0) (sym p.parts) ∙ eqb-true _ 34 t in
        let (rest, r) = there p.rest 34 (ap (λ x. x == 34) index) (omega arith) in
        let marks : p.front ≡ hashes (prefix_len hash cs) = is_hashes p.front p.all ∙ ap hashes (sym p.len) in
        let parts : cs ≡ hashes (prefix_len hash cs) ++ 34 ∷ rest = p.parts ∙ ap (λ x. x ++ p.rest) marks ∙ ap (λ x. hashes (prefix_len hash cs) ++ x) r in
        let cut : cs ≡ (hashes (prefix_len hash cs) ++ 34 ∷ []) ++ rest = parts ∙ sym (append_assoc (hashes (prefix_len hash cs)) (34 ∷ []) rest) in
        let len : prefix_len hash cs + 1 ≡ length (hashes (prefix_len hash cs) ++ 34 ∷ []) = (let a = length-append (hashes (prefix_len hash cs)) (34 ∷ []) in let b = hashes_len (prefix_len hash cs) in omega (arith, a, b)) in
        record {
          rest = rest;
          parts = parts;
          left = ap (drop (prefix_len hash cs + 1)) cut ∙ ap (λ n. drop n ((hashes (prefix_len hash cs) ++ 34 ∷ []) ++ rest)) len ∙ drop_front (hashes (prefix_len hash cs) ++ 34 ∷ []) rest;
        }

-- where there is no such `"`, no raw string begins
no_string : (cs : Chars) → (get_or cs (prefix_len hash cs) 0 == 34) ≡ false → BeginsRawString cs → ⊥
no_string cs t (n, rest, e) =
    let many : prefix_len hash cs ≡ length (hashes n) = ap (prefix_len hash) e ∙ prefix_all hash (hashes n) (34 ∷ rest) (all_hashes n) refl in
    let index : get_or cs (prefix_len hash cs) 0 ≡ 34 = ap (get_or cs (prefix_len hash cs)) refl ∙ ap (λ k. get_or cs k 0) many ∙ ap (λ xs. get_or xs (length (hashes n)) 0) e ∙ index_front (hashes n) 34 rest in
    both_ways _ t (ap (λ x. x == 34) index)

pub free_name : (name : List ℕ) → not_raw name ≡ false → is_never_raw name ≡ false
free_name name h = four (bytes_eq name (codes "crate")) (bytes_eq name (codes "self")) (bytes_eq name (codes "super")) (bytes_eq name (codes "Self")) h
  where
    four : (a b c d : Bool) → (a || b || c || d) ≡ false → (a || (b || (c || (d || false)))) ≡ false
    four true b c d h = h
    four false true c d h = h
    four false false true d h = h
    four false false false true h = h
    four false false false false h = h

pub name_free : (name : List ℕ) → is_never_raw name ≡ false → not_raw name ≡ false
name_free name h = four (bytes_eq name (codes "crate")) (bytes_eq name (codes "self")) (bytes_eq name (codes "super")) (bytes_eq name (codes "Self")) h
  where
    four : (a b c d : Bool) → (a || (b || (c || (d || false)))) ≡ false → (a || b || c || d) ≡ false
    four true b c d h = h
    four false true c d h = h
    four false false true d h = h
    four false false false true h = h
    four false false false false h = h

pub run_is : (c : ℕ) (w rest : Chars) → list_all is_xid_continue w ≡ true → starts is_xid_continue rest ≡ false → run (c ∷ (w ++ rest)) ≡ length (c ∷ w)
run_is c w rest h k = ap (λ n. suc n) (prefix_all is_xid_continue w rest h k)

-- the word behind `r#`
pub raw_is : (c : ℕ) (w rest : Chars) → list_all is_xid_continue w ≡ true → starts is_xid_continue rest ≡ false
    → raw_word (c ∷ (w ++ rest)) ≡ cond (is_start c && not (bytes_eq (c ∷ w) (codes "_") || not_raw (name_of (c ∷ w)))) (Took (Ident (name_of (c ∷ w)) true) (2 + length (c ∷ w))) (Bad BadRaw 0)
raw_is c w rest h k =
    let n = run_is c w rest h k in
    let t : take (run (c ∷ (w ++ rest))) (c ∷ (w ++ rest)) ≡ c ∷ w = ap (λ n. take n (c ∷ (w ++ rest))) n ∙ take_front (c ∷ w) rest in
    ap (λ x. cond (is_start c && not (bytes_eq x (codes "_") || not_raw (name_of x))) (Took (Ident (name_of x) true) (2 + run (c ∷ (w ++ rest)))) (Bad BadRaw 0)) t
    ∙ ap (λ n. cond (is_start c && not (bytes_eq (c ∷ w) (codes "_") || not_raw (name_of (c ∷ w)))) (Took (Ident (name_of (c ∷ w)) true) (2 + n)) (Bad BadRaw 0)) n

raw_holds : (e : Edition) (dot : Bool) (cs : Chars) → (BeginsRawString (35 ∷ cs) → ⊥) → Holds e dot (114 ∷ 35 ∷ cs) (raw_word cs)
raw_holds e dot [] none = hash_r [] refl none (λ b. no_words b) refl refl
  where
    no_words : BeginsRawWord [] → ⊥
    no_words ([], left, e, s, i, f) = impossible i
    no_words (c ∷ w, left, e, s, i, f) = cc
raw_holds e dot (c ∷ cs) none = whole (passed is_xid_continue cs)
  where
    whole : Passed is_xid_continue cs → Holds e dot (114 ∷ 35 ∷ c ∷ cs) (raw_word (c ∷ cs))
    whole p =
        let step_is = ap (λ xs. raw_word (c ∷ xs)) p.parts ∙ raw_is c p.front p.rest p.all p.ends in
        subst (Holds e dot (114 ∷ 35 ∷ c ∷ cs)) (sym step_is)
        (pick (Holds e dot (114 ∷ 35 ∷ c ∷ cs)) (is_start c && not (bytes_eq (c ∷ p.front) (codes "_") || not_raw (name_of (c ∷ p.front)))) _ _
        (λ t. let a = and_parts (is_start c) _ t in
        let b = or_false (bytes_eq (c ∷ p.front) (codes "_")) (not_raw (name_of (c ∷ p.front))) (not_true _ a.1) in (
          record { w = 114 ∷ 35 ∷ c ∷ p.front; left = p.rest; parts = ap (λ xs. 114 ∷ 35 ∷ c ∷ xs) p.parts; len = omega arith },
          record { word = c ∷ p.front; parts = refl; identifier = both (is_word (c ∷ p.front)) _ (both (is_start c) _ a.0 p.all) (ap not b.0); name_is = refl; free = free_name (name_of (c ∷ p.front)) b.1 },
        ))
        (λ t. hash_r (c ∷ cs) refl none (λ b. no_word p t b) refl refl))
      where
        same_words : (p : Passed is_xid_continue cs) (w left : Chars) → c ∷ cs ≡ w ++ left → starts is_xid_continue left ≡ false → is_identifier w ≡ true → c ∷ p.front ≡ w
        same_words p [] left parts s i = impossible i
        same_words p (d ∷ w) left parts s i =
            let a = and_parts (is_word (d ∷ w)) _ i in
            let b = and_parts (is_start d) (list_all is_xid_continue w) a.0 in
            let tail : cs ≡ w ++ left = cc in
            let head : c ≡ d = cc in
            let len : length p.front ≡ length w = sym p.len ∙ ap (prefix_len is_xid_continue) tail ∙ prefix_all is_xid_continue w left b.1 s in
            let fronts = same_front p.front w p.rest left (sym p.parts ∙ tail) len in
            ap (λ x. x ∷ p.front) head ∙ ap (λ x. d ∷ x) fronts.0

        no_word : (p : Passed is_xid_continue cs) → (is_start c && not (bytes_eq (c ∷ p.front) (codes "_") || not_raw (name_of (c ∷ p.front)))) ≡ false → BeginsRawWord (c ∷ cs) → ⊥
        no_word p t (w, left, parts, s, i, f) =
            let same = same_words p w left parts s i in
            let mine : is_identifier (c ∷ p.front) ≡ true = ap is_identifier same ∙ i in
            let a = and_parts (is_word (c ∷ p.front)) _ mine in
            let b = and_parts (is_start c) (list_all is_xid_continue p.front) a.0 in
            let u : bytes_eq (c ∷ p.front) (codes "_") ≡ false = not_true _ a.1 in
            let n : not_raw (name_of (c ∷ p.front)) ≡ false = name_free (name_of (c ∷ p.front)) (ap (λ w. is_never_raw (name_of w)) same ∙ f) in
            both_ways _ t (both (is_start c) _ b.0 (rw (u, n)))

hash_holds : (e : Edition) (dot : Bool) (w rest : Chars) → is_word w ≡ true → Holds e dot (w ++ 35 ∷ rest) (word_before_hash e w (length w) (35 ∷ rest))
hash_holds e dot w rest h =
    pick (Holds e dot (w ++ 35 ∷ rest)) (bytes_eq w (codes "r")) _ _
    (λ r. subst (λ x. Holds e dot x (hash_step false 1 (35 ∷ rest))) (ap (λ w. w ++ 35 ∷ rest) (sym (same_text w (codes "r") r))) (at_r (35 ∷ rest) refl))
    (λ r. pick (Holds e dot (w ++ 35 ∷ rest)) (bytes_eq w (codes "br")) _ _
    (λ br. subst (λ x. Holds e dot x (hash_step true 2 (35 ∷ rest))) (ap (λ w. w ++ 35 ∷ rest) (sym (same_text w (codes "br") br))) (at_br (35 ∷ rest) refl))
    (λ br. prefixed_holds e dot w 35 rest h (reserved35 w r br)))
  where
    at_r : (cs : Chars) → cs ≡ 35 ∷ rest → Holds e dot (114 ∷ cs) (hash_step false 1 cs)
    at_r cs is =
        pick (Holds e dot (114 ∷ cs)) (get_or cs (prefix_len hash cs) 0 == 34) _ _
        (λ t. let q = hash_quote cs t in
        let parts : 114 ∷ cs ≡ opening false (Raw (prefix_len hash cs)) ++ q.rest = ap (λ xs. 114 ∷ xs) (q.parts ∙ sym (append_assoc (hashes (prefix_len hash cs)) (34 ∷ []) q.rest)) in
        let len : length (opening false (Raw (prefix_len hash cs))) ≡ 1 + prefix_len hash cs + 1 = (let a = length-append (hashes (prefix_len hash cs)) (34 ∷ []) in let b = hashes_len (prefix_len hash cs) in omega (arith, a, b)) in
        subst (λ xs. Holds e dot (114 ∷ cs) (literal_step false (Raw (prefix_len hash cs)) (1 + prefix_len hash cs + 1) xs)) (sym q.left)
        (subst (λ k. Holds e dot (114 ∷ cs) (literal_step false (Raw (prefix_len hash cs)) k q.rest)) len (literal_holds e dot false (Raw (prefix_len hash cs)) (114 ∷ cs) q.rest parts (λ f k. absurd (raw_single k)))))
        (λ t. subst (λ xs. Holds e dot (114 ∷ xs) (raw_word (drop 1 xs))) (sym is) (raw_holds e dot rest (λ b. no_string (35 ∷ rest) (ap (λ xs. get_or xs (prefix_len hash xs) 0 == 34) (sym is) ∙ t) b)))

    at_br : (cs : Chars) → cs ≡ 35 ∷ rest → Holds e dot (98 ∷ 114 ∷ cs) (hash_step true 2 cs)
    at_br cs is =
        pick (Holds e dot (98 ∷ 114 ∷ cs)) (get_or cs (prefix_len hash cs) 0 == 34) _ _
        (λ t. let q = hash_quote cs t in
        let parts : 98 ∷ 114 ∷ cs ≡ opening true (Raw (prefix_len hash cs)) ++ q.rest = ap (λ xs. 98 ∷ 114 ∷ xs) (q.parts ∙ sym (append_assoc (hashes (prefix_len hash cs)) (34 ∷ []) q.rest)) in
        let len : length (opening true (Raw (prefix_len hash cs))) ≡ 2 + prefix_len hash cs + 1 = (let a = length-append (hashes (prefix_len hash cs)) (34 ∷ []) in let b = hashes_len (prefix_len hash cs) in omega (arith, a, b)) in
        subst (λ xs. Holds e dot (98 ∷ 114 ∷ cs) (literal_step true (Raw (prefix_len hash cs)) (2 + prefix_len hash cs + 1) xs)) (sym q.left)
        (subst (λ k. Holds e dot (98 ∷ 114 ∷ cs) (literal_step true (Raw (prefix_len hash cs)) k q.rest)) len (literal_holds e dot true (Raw (prefix_len hash cs)) (98 ∷ 114 ∷ cs) q.rest parts (λ f k. absurd (raw_single k)))))
        (λ t. hash_br rest (ap (λ xs. 98 ∷ 114 ∷ xs) is) (λ b. no_string (35 ∷ rest) (ap (λ xs. get_or xs (prefix_len hash xs) 0 == 34) (sym is) ∙ t) b) refl refl)

-- what is found at a word holds
before_holds : (e : Edition) (dot : Bool) (w rest : Chars) → is_word w ≡ true → Holds e dot (w ++ rest) (word_before e w (length w) (first rest) rest)
before_holds e dot w rest h =
    pick (Holds e dot (w ++ rest)) (first rest == 34) _ _
    (λ t. let (r, is) = there rest 34 t (omega arith) in subst (λ xs. Holds e dot (w ++ xs) (word_before_quote e w (length w) xs)) (sym is) (quote_holds e dot w r h))
    (λ t. pick (Holds e dot (w ++ rest)) (first rest == 35) _ _
    (λ t. let (r, is) = there rest 35 t (omega arith) in subst (λ xs. Holds e dot (w ++ xs) (word_before_hash e w (length w) xs)) (sym is) (hash_holds e dot w r h))
    (λ t. pick (Holds e dot (w ++ rest)) (first rest == 39) _ _
    (λ t. let (r, is) = there rest 39 t (omega arith) in
    subst (λ xs. Holds e dot (w ++ xs) (cond (bytes_eq w (codes "b")) (literal_step true Single 2 (drop 1 xs)) (prefixed e w (length w)))) (sym is)
    (pick (Holds e dot (w ++ 39 ∷ r)) (bytes_eq w (codes "b")) _ _
    (λ b. literal_holds e dot true Single (w ++ 39 ∷ r) r (ap (λ w. w ++ 39 ∷ r) (same_text w (codes "b") b)) (λ f k. absurd (true_false f)))
    (λ b. prefixed_holds e dot w 39 r h (reserved39 w b))))
    (λ t. plain_holds e dot w rest h)))

pub word_holds : (e : Edition) (dot : Bool) (c : ℕ) (cs : Chars) → is_start c ≡ true → Holds e dot (c ∷ cs) (word_step e (c ∷ cs))
word_holds e dot c cs h = whole (passed is_xid_continue cs)
  where
    whole : Passed is_xid_continue cs → Holds e dot (c ∷ cs) (word_step e (c ∷ cs))
    whole p =
        subst (λ xs. Holds e dot (c ∷ xs) (word_step e (c ∷ xs))) (sym p.parts)
        (subst (Holds e dot (c ∷ (p.front ++ p.rest))) (sym (word_ends e c p.front p.rest p.all p.ends)) (before_holds e dot (c ∷ p.front) p.rest (both (is_start c) _ h p.all)))

-- ---- what stands there is found

-- a token at the opening of a literal is longer than the opening
abbrev pub Far : ℕ → Piece → Type 0
Far at (Gap n doc) = ⊥
Far at (Took kind n) = at < n
Far at (Bad kind place) = Unit {0}

closing_some : (form : Form) → 0 < closing_len form
closing_some Quoted = omega arith
closing_some Single = omega arith
closing_some (Raw n) = omega arith

read_far : (least : ℕ) (byte : Bool) (form : Form) (at : ℕ) (body : Chars) (len : ℕ) (r : Reading) (o : Option ℕ) → least < len → Far least (literal_read byte form at body len r o)
read_far least byte form at body len r None h = h
read_far least byte form at body len r (Some p) h = tt

pub literal_far : (byte : Bool) (form : Form) (at : ℕ) (cs : Chars) → Far at (literal_step byte form at cs)
unfolding literal_step
literal_far byte form at cs = here (close_len byte form cs)
  where
    here : (o : Option ℕ) → Far at (literal_closed byte form at cs o)
    here None = tt
    here (Some n) =
        pick (Far at) (starts_word (drop (n + closing_len form) cs)) _ _ (λ t. tt)
        (λ t. read_far at byte form at (take n cs) (at + (n + closing_len form)) (read byte form 0 (take n cs)) (read byte form 0 (take n cs)).bad (let s = closing_some form in omega (arith, s)))

far_covers : (text : Chars) (at m : ℕ) (kind : TokenKind) (p : Piece) → m ≤ at → Far at p → Covered text p kind m
far_covers text at m kind (Gap n doc) h f = absurd f
far_covers text at m kind (Took other n) h f = (omega (arith, h, f), λ e. absurd (omega (arith, h, f, e)))
far_covers text at m kind (Bad fault place) h f = tt

raw_far : (cs : Chars) → Far 1 (raw_word cs)
raw_far cs =
    pick (Far 1) (starts_word cs && not (bytes_eq (take (run cs) cs) (codes "_") || not_raw (name_of (take (run cs) cs)))) _ _ (λ t. omega arith) (λ t. tt)

pub hash_far : (byte : Bool) (at : ℕ) (cs : Chars) → at ≤ 2 → (byte ≡ false → at ≡ 1) → Far at (hash_step byte at cs)
hash_far byte at cs h k =
    pick (Far at) (get_or cs (prefix_len hash cs) 0 == 34) _ _
    (λ t. nearer (literal_step byte (Raw (prefix_len hash cs)) (at + prefix_len hash cs + 1) (drop (prefix_len hash cs + 1) cs)) (literal_far byte (Raw (prefix_len hash cs)) (at + prefix_len hash cs + 1) (drop (prefix_len hash cs + 1) cs)))
    (λ t. rest byte k)
  where
    nearer : (p : Piece) → Far (at + prefix_len hash cs + 1) p → Far at p
    nearer (Gap n doc) f = f
    nearer (Took kind n) f = omega (arith, f)
    nearer (Bad kind place) f = tt

    rest : (byte : Bool) → (byte ≡ false → at ≡ 1) → Far at (cond byte (Bad BadRaw 0) (raw_word (drop 1 cs)))
    rest true k = tt
    rest false k = subst (λ n. Far n (raw_word (drop 1 cs))) (sym (k refl)) (raw_far (drop 1 cs))

-- a whole word w in front, of which v is the front
record WordFront (v w : Chars) : Type 0 where
  short : length v ≤ length w
  same : length v ≡ length w → v ≡ w

plain_covers : (text v w : Chars) → is_identifier v ≡ true → WordFront v w → Covered text (plain_word w (length w)) (Ident (name_of v) false) (length v)
plain_covers text v w i f =
    pick (λ p. Covered text p (Ident (name_of v) false) (length v)) (bytes_eq w (codes "_")) _ _
    (λ t. (f.short, λ e. absurd (both_ways (is_identifier (codes "_")) refl (ap is_identifier (sym (f.same e ∙ same_text w (codes "_") t)) ∙ i))))
    (λ t. (f.short, λ e. ap (λ x. Ident (name_of x) false) (f.same e)))

-- what a word in front covers, by what it does alone
pub before_covers : (e : Edition) (text w rest : Chars) (kind : TokenKind) (m : ℕ) → m ≤ length w → Covered text (plain_word w (length w)) kind m → Covered text (word_before e w (length w) (first rest) rest) kind m
before_covers e text w rest kind m short alone =
    pick P (first rest == 34) _ _
    (λ t. pick P (bytes_eq w (codes "b")) _ _ (λ b. far 2 (small w (codes "b") 2 b (omega arith)) (literal_step true Quoted 2 (drop 1 rest)) (literal_far true Quoted 2 (drop 1 rest)))
    (λ b. pick P (bytes_eq w (codes "r")) _ _ (λ r. far 2 (small w (codes "r") 2 r (omega arith)) (literal_step false (Raw 0) 2 (drop 1 rest)) (literal_far false (Raw 0) 2 (drop 1 rest)))
    (λ r. pick P (bytes_eq w (codes "br")) _ _ (λ br. far 3 (small w (codes "br") 3 br (omega arith)) (literal_step true (Raw 0) 3 (drop 1 rest)) (literal_far true (Raw 0) 3 (drop 1 rest)))
    (λ br. pre))))
    (λ t. pick P (first rest == 35) _ _
    (λ t. pick P (bytes_eq w (codes "r")) _ _ (λ r. far 1 (small w (codes "r") 1 r (omega arith)) (hash_step false 1 rest) (hash_far false 1 rest (omega arith) (λ e. refl)))
    (λ r. pick P (bytes_eq w (codes "br")) _ _ (λ br. far 2 (small w (codes "br") 2 br (omega arith)) (hash_step true 2 rest) (hash_far true 2 rest (omega arith) (λ e. absurd (true_false e))))
    (λ br. pre)))
    (λ t. pick P (first rest == 39) _ _
    (λ t. pick P (bytes_eq w (codes "b")) _ _ (λ b. far 2 (small w (codes "b") 2 b (omega arith)) (literal_step true Single 2 (drop 1 rest)) (literal_far true Single 2 (drop 1 rest)))
    (λ b. pre))
    (λ t. alone)))
  where
    P : Piece → Type 0
    P p = Covered text p kind m

    far : (at : ℕ) → length w ≤ at → (p : Piece) → Far at p → P p
    far at h p k = far_covers text at m kind p (omega (arith, h, short)) k

    pre : P (prefixed e w (length w))
    pre = pick P (is_2021 e) _ _ (λ t. tt) (λ t. alone)

    small : (w x : Chars) (at : ℕ) → bytes_eq w x ≡ true → length x ≤ at → length w ≤ at
    small w x at e h = subst (λ y. length y ≤ at) (sym (same_text w x e)) h

-- an identifier that is spelled in front is found, unless a longer token or a fault is
pub word_covers : (e : Edition) (dot : Bool) (v rest : Chars) → is_identifier v ≡ true → Covered (v ++ rest) (step e dot (v ++ rest)) (Ident (name_of v) false) (length v)
word_covers e dot [] rest i = impossible i
word_covers e dot (c ∷ v) rest i = whole (passed is_xid_continue (v ++ rest))
  where
    whole : Passed is_xid_continue (v ++ rest) → Covered ((c ∷ v) ++ rest) (step e dot ((c ∷ v) ++ rest)) (Ident (name_of (c ∷ v)) false) (length (c ∷ v))
    whole p =
        let a = and_parts (is_word (c ∷ v)) _ i in
        let b = and_parts (is_start c) (list_all is_xid_continue v) a.0 in
        let long : length v ≤ length p.front = (let m = prefix_most is_xid_continue v rest b.1 in let l = p.len in omega (arith, m, l)) in
        let found : step e dot (c ∷ (v ++ rest)) ≡ word_before e (c ∷ p.front) (length (c ∷ p.front)) (first p.rest) p.rest =
        step_word e dot c (v ++ rest) b.0 ∙ ap (λ xs. word_step e (c ∷ xs)) p.parts ∙ word_ends e c p.front p.rest p.all p.ends in
        subst (λ q. Covered ((c ∷ v) ++ rest) q (Ident (name_of (c ∷ v)) false) (length (c ∷ v))) (sym found)
        (before_covers e ((c ∷ v) ++ rest) (c ∷ p.front) p.rest (Ident (name_of (c ∷ v)) false) (length (c ∷ v)) (omega (arith, long))
        (plain_covers ((c ∷ v) ++ rest) (c ∷ v) (c ∷ p.front) i (record { short = omega (arith, long); same = λ e. ap (λ x. c ∷ x) (same_front v p.front rest p.rest p.parts (omega (arith, e))).0 })))

-- a character that begins a word is none that doesn't
pub apart : (c d : ℕ) → is_start c ≡ true → is_start d ≡ false → (c == d) ≡ false
apart c d h k = by_test _ (c == d) (λ t. absurd (both_ways _ k (subst (λ x. is_start x ≡ true) (eqb-true c d t) h))) (λ t. t)

-- `_` alone is found, unless a longer token or a fault is
pub under_covers : (e : Edition) (dot : Bool) (rest : Chars) → Covered (95 ∷ rest) (step e dot (95 ∷ rest)) Punct 1
under_covers e dot rest = whole (passed is_xid_continue rest)
  where
    longer : (f : Chars) → bytes_eq (95 ∷ f) (codes "_") ≡ false → 1 ≡ length (95 ∷ f) → ⊥
    longer [] t e = impossible (sym t)
    longer (c ∷ f) t e = omega (arith, e)

    alone : (f : Chars) → Covered (95 ∷ rest) (plain_word (95 ∷ f) (length (95 ∷ f))) Punct 1
    alone f = pick (λ q. Covered (95 ∷ rest) q Punct 1) (bytes_eq (95 ∷ f) (codes "_")) _ _ (λ t. (omega arith, λ e. refl)) (λ t. (omega arith, λ e. absurd (longer f t e)))

    whole : Passed is_xid_continue rest → Covered (95 ∷ rest) (step e dot (95 ∷ rest)) Punct 1
    whole p =
        let found : step e dot (95 ∷ rest) ≡ word_before e (95 ∷ p.front) (length (95 ∷ p.front)) (first p.rest) p.rest =
        step_word e dot 95 rest refl ∙ ap (λ xs. word_step e (95 ∷ xs)) p.parts ∙ word_ends e 95 p.front p.rest p.all p.ends in
        subst (λ q. Covered (95 ∷ rest) q Punct 1) (sym found)
        (before_covers e (95 ∷ rest) (95 ∷ p.front) p.rest Punct 1 (omega arith) (alone p.front))

-- a raw identifier that is spelled in front is found, unless a longer one or a fault is
pub raw_covers : (e : Edition) (dot : Bool) (v rest : Chars) (name : List ℕ) → IsRawWord v name → Covered (v ++ rest) (step e dot (v ++ rest)) (Ident name true) (length v)
raw_covers e dot v rest name r = subst (λ x. Covered (x ++ rest) (step e dot (x ++ rest)) (Ident name true) (length x)) (sym r.parts) (here r.word r.identifier r.name_is)
  where
    r_start : is_start 114 ≡ true
    r_start = is_start-ascii 114 (omega arith)

    here : (w : Chars) → is_identifier w ≡ true → name ≡ name_of w → Covered (114 ∷ 35 ∷ (w ++ rest)) (step e dot (114 ∷ 35 ∷ (w ++ rest))) (Ident name true) (suc (suc (length w)))
    here [] i n = impossible i
    here (c ∷ w) i n = whole (passed is_xid_continue (w ++ rest))
      where
        whole : Passed is_xid_continue (w ++ rest) → Covered (114 ∷ 35 ∷ c ∷ (w ++ rest)) (step e dot (114 ∷ 35 ∷ c ∷ (w ++ rest))) (Ident name true) (suc (suc (length (c ∷ w))))
        whole p =
            let a = and_parts (is_word (c ∷ w)) _ i in
            let b = and_parts (is_start c) (list_all is_xid_continue w) a.0 in
            let long : length w ≤ length p.front = (let m = prefix_most is_xid_continue w rest b.1 in let l = p.len in omega (arith, m, l)) in
            let no_hash : (c == 35) ≡ false = apart c 35 b.0 (no_start 35 (omega arith) refl) in
            let no_quote : (c == 34) ≡ false = apart c 34 b.0 (no_start 34 (omega arith) refl) in
            let found : step e dot (114 ∷ 35 ∷ c ∷ (w ++ rest)) ≡ raw_word (c ∷ (w ++ rest)) =
            step_word e dot 114 (35 ∷ c ∷ (w ++ rest)) r_start ∙ word_ends e 114 [] (35 ∷ c ∷ (w ++ rest)) refl (no_continue 35 (omega arith) refl) ∙ (rw (no_hash, no_quote)) in
            let raw : raw_word (c ∷ (w ++ rest)) ≡ _ = ap (λ xs. raw_word (c ∷ xs)) p.parts ∙ raw_is c p.front p.rest p.all p.ends in
            subst (λ q. Covered (114 ∷ 35 ∷ c ∷ (w ++ rest)) q (Ident name true) (suc (suc (length (c ∷ w))))) (sym (found ∙ raw))
            (pick (λ q. Covered (114 ∷ 35 ∷ c ∷ (w ++ rest)) q (Ident name true) (suc (suc (length (c ∷ w))))) (is_start c && not (bytes_eq (c ∷ p.front) (codes "_") || not_raw (name_of (c ∷ p.front)))) _ _
            (λ t. (omega (arith, long), λ e. ap (λ m. Ident m true) (n ∙ ap (λ x. name_of (c ∷ x)) (same_front w p.front rest p.rest p.parts (omega (arith, e))).0)))
            (λ t. tt))

-- ---- at a `'`

pub lifetime_is : (c : ℕ) (w rest : Chars) → list_all is_xid_continue w ≡ true → starts is_xid_continue rest ≡ false
    → lifetime_step (39 ∷ c ∷ (w ++ rest)) ≡ cond (first rest == 39 || first rest == 35) (Bad BadLifetime 0) (Took (Lifetime (name_of (c ∷ w))) (1 + length (c ∷ w)))
unfolding lifetime_step
lifetime_is c w rest h k =
    let n = run_is c w rest h k in
    let t : take (length (c ∷ w)) (c ∷ (w ++ rest)) ≡ c ∷ w = take_front (c ∷ w) rest in
    let i : get_or (c ∷ (w ++ rest)) (length (c ∷ w)) 0 ≡ first rest = index_past (c ∷ w) rest in
    ap (λ n. cond (get_or (c ∷ (w ++ rest)) n 0 == 39 || get_or (c ∷ (w ++ rest)) n 0 == 35) (Bad BadLifetime 0) (Took (Lifetime (name_of (take n (c ∷ (w ++ rest))))) (1 + n))) n
    ∙ ap (λ x. cond (get_or (c ∷ (w ++ rest)) (length (c ∷ w)) 0 == 39 || get_or (c ∷ (w ++ rest)) (length (c ∷ w)) 0 == 35) (Bad BadLifetime 0) (Took (Lifetime (name_of x)) (1 + length (c ∷ w)))) t
    ∙ ap (λ d. cond (d == 39 || d == 35) (Bad BadLifetime 0) (Took (Lifetime (name_of (c ∷ w))) (1 + length (c ∷ w)))) i

pub quote_if : (cs : Chars) (P : Piece → Type 0) → ((starts_word cs && is_none (single_len false cs)) ≡ true → P (lifetime_step (39 ∷ cs))) → ((starts_word cs && is_none (single_len false cs)) ≡ false → P (literal_step false Single 1 cs)) → P (quote_step (39 ∷ cs))
unfolding quote_step
quote_if cs P f g = pick P (starts_word cs && is_none (single_len false cs)) _ _ f g

is_none_not : (o : Option ℕ) (k : ℕ) → is_none o ≡ true → o ≡ Some k → ⊥
is_none_not None k t e = none_some e
is_none_not (Some n) k t e = impossible t

first_or : (c : ℕ) → (c == 39 || c == 35) ≡ true → 0 < c
first_or c h = grind (arith, nat_tests)

first_there : (cs : Chars) → 0 < first cs → (c : ℕ) × (rest : Chars) × (cs ≡ c ∷ rest)
first_there [] h = absurd (omega (arith, h))
first_there (c ∷ rest) h = (c, rest, refl)

pub single_holds : (e : Edition) (dot : Bool) (cs : Chars) → Holds e dot (39 ∷ cs) (quote_step (39 ∷ cs))
single_holds e dot cs =
    quote_if cs (Holds e dot (39 ∷ cs)) (λ t. let a = and_parts (starts_word cs) (is_none (single_len false cs)) t in named cs a.0 a.1)
    (λ t. literal_holds e dot false Single (39 ∷ cs) cs refl (λ f k. t))
  where
    named : (cs : Chars) → starts_word cs ≡ true → is_none (single_len false cs) ≡ true → Holds e dot (39 ∷ cs) (lifetime_step (39 ∷ cs))
    named [] s n = impossible s
    named (c ∷ cs) s n = whole (passed is_xid_continue cs)
      where
        whole : Passed is_xid_continue cs → Holds e dot (39 ∷ c ∷ cs) (lifetime_step (39 ∷ c ∷ cs))
        whole p =
            let found = ap (λ xs. lifetime_step (39 ∷ c ∷ xs)) p.parts ∙ lifetime_is c p.front p.rest p.all p.ends in
            let word : is_word (c ∷ p.front) ≡ true = both (is_start c) _ s p.all in
            subst (Holds e dot (39 ∷ c ∷ cs)) (sym found)
            (pick (Holds e dot (39 ∷ c ∷ cs)) (first p.rest == 39 || first p.rest == 35) _ _
            (λ t. let (d, rest, r) = first_there p.rest (first_or (first p.rest) t) in
            lifetime (c ∷ p.front) d rest (ap (λ xs. 39 ∷ c ∷ xs) (p.parts ∙ ap (λ x. p.front ++ x) r)) word (subst (λ xs. (first xs == 39 || first xs == 35) ≡ true) r t)
            (λ b after closed. is_none_not (single_len false (c ∷ cs)) (length b) n
            (ap (λ xs. single_len false (c ∷ xs)) (p.parts ∙ ap (λ x. p.front ++ x) r) ∙ close_is false Single (c ∷ (p.front ++ d ∷ rest)) b after closed)) refl refl)
            (λ t. (record { w = 39 ∷ c ∷ p.front; left = p.rest; parts = ap (λ xs. 39 ∷ c ∷ xs) p.parts; len = omega arith }, (c ∷ p.front, refl, word, refl))))

-- the body between two `'` that begins as a word is one character
short_body : (c : ℕ) (cs b after : Chars) → is_start c ≡ true → Closed false Single (c ∷ cs) b after → (ds : Chars) × (cs ≡ 39 ∷ ds)
short_body c cs b after s closed = here b closed.parts closed.is_body
  where
    use_slash : (c : ℕ) → is_start c ≡ true → c ≡ 92 → ⊥
    use_slash c s e = both_ways _ (no_start 92 (omega arith) refl) (subst (λ c. is_start c ≡ true) e s)

    here : (b : Chars) → c ∷ cs ≡ b ++ 39 ∷ after → OneCharacter false b after → (ds : Chars) × (cs ≡ 39 ∷ ds)
    here b e (plain d f t) = (after, (let g : c ∷ cs ≡ d ∷ 39 ∷ after = e ∙ ap (λ b. b ++ 39 ∷ after) f in cc))
    here b e (escape xs value f is) = absurd (use_slash c s (let g : c ∷ cs ≡ 92 ∷ (xs ++ 39 ∷ after) = e ∙ ap (λ b. b ++ 39 ∷ after) f in cc))
    here b e (broken d xs f all free) = absurd (use_slash c s (let g : c ∷ cs ≡ 92 ∷ d ∷ (xs ++ 39 ∷ after) = e ∙ ap (λ b. b ++ 39 ∷ after) f in cc))

one_some : (b after : Chars) → OneCharacter false b after → 1 ≤ length b
one_some b after (plain d f t) = rw f (omega arith)
one_some b after (escape xs value f is) = rw f (omega arith)
one_some b after (broken d xs f all free) = rw f (omega arith)

single_far : (cs b after : Chars) → Closed false Single cs b after → Far 2 (literal_step false Single 1 cs)
single_far cs b after closed =
    subst (Far 2) (sym (literal_is false Single 1 cs b after closed))
    (pick (Far 2) (starts is_start after) _ _ (λ t. tt) (λ t. read_far 2 false Single 1 b (1 + (length b + 1)) (read false Single 0 b) (read false Single 0 b).bad (let s = one_some b after closed.is_body in omega (arith, s))))

-- a lifetime that is spelled in front is found, unless a longer token or a fault is
pub lifetime_covers : (e : Edition) (dot : Bool) (w rest : Chars) → is_word w ≡ true → Covered (39 ∷ (w ++ rest)) (step e dot (39 ∷ (w ++ rest))) (Lifetime (name_of w)) (1 + length w)
lifetime_covers e dot [] rest h = impossible h
lifetime_covers e dot (c ∷ w) rest h =
    subst P (sym (step_single e dot (c ∷ (w ++ rest))))
    (quote_if (c ∷ (w ++ rest)) P (λ t. named (passed is_xid_continue (w ++ rest)))
    (λ t. letter (single_len false (c ∷ (w ++ rest))) refl t))
  where
    text : Chars
    text = 39 ∷ c ∷ (w ++ rest)

    P : Piece → Type 0
    P p = Covered (39 ∷ c ∷ (w ++ rest)) p (Lifetime (name_of (c ∷ w))) (1 + length (c ∷ w))

    named : Passed is_xid_continue (w ++ rest) → P (lifetime_step (39 ∷ c ∷ (w ++ rest)))
    named p =
        let a = and_parts (is_start c) (list_all is_xid_continue w) h in
        let long : length w ≤ length p.front = (let m = prefix_most is_xid_continue w rest a.1 in let l = p.len in omega (arith, m, l)) in
        let found = ap (λ xs. lifetime_step (39 ∷ c ∷ xs)) p.parts ∙ lifetime_is c p.front p.rest p.all p.ends in
        subst P (sym found)
        (pick P (first p.rest == 39 || first p.rest == 35) _ _ (λ t. tt)
        (λ t. (omega (arith, long), λ e. ap (λ x. Lifetime (name_of (c ∷ x))) (same_front w p.front rest p.rest p.parts (omega (arith, e))).0)))

    letter : (o : Option ℕ) → single_len false (c ∷ (w ++ rest)) ≡ o → (starts_word (c ∷ (w ++ rest)) && is_none (single_len false (c ∷ (w ++ rest)))) ≡ false → P (literal_step false Single 1 (c ∷ (w ++ rest)))
    letter None o t = absurd (both_ways _ t (rw o (both (is_start c) true (and_parts (is_start c) (list_all is_xid_continue w) h).0 refl)))
    letter (Some k) o t =
        let a = and_parts (is_start c) (list_all is_xid_continue w) h in
        let r = close_cut false Single (c ∷ (w ++ rest)) k o in
        let (ds, e) = short_body c (w ++ rest) r.body r.rest a.0 r.closed in
        far_covers (39 ∷ c ∷ (w ++ rest)) 2 (1 + length (c ∷ w)) (Lifetime (name_of (c ∷ w))) (literal_step false Single 1 (c ∷ (w ++ rest))) (empty w a.1 e) (single_far (c ∷ (w ++ rest)) r.body r.rest r.closed)
      where
        empty : (w : Chars) → list_all is_xid_continue w ≡ true → {ds : Chars} → w ++ rest ≡ 39 ∷ ds → 1 + length (c ∷ w) ≤ 2
        empty [] all e = omega arith
        empty (d ∷ w) all e =
            let b = and_parts (is_xid_continue d) (list_all is_xid_continue w) all in
            let same : d ≡ 39 = cc in
            absurd (both_ways _ (no_continue 39 (omega arith) refl) (subst (λ d. is_xid_continue d ≡ true) same b.0))
