-- Which step the code takes, by the first characters.
use Rattle.std.proofs.Common.{◌≡◌, ℕ, zero, suc, ◌+◌, Bool, true, false, ◌&&◌, ◌==◌, [], ◌∷◌, ◌++◌, length, take, drop, get_or, refl, sym, ap, ◌∙◌, subst, arith, length-append, append_assoc}
use Rattle.std.proofs.lemmas.Bool.Decides.{nat_tests}
use Rattle.std.specs.Char.{is_ascii_digit}
use Rattle.std.specs.List.{list_all, prefix_len}
use Rattle.unicode_ident.specs.Ident.{is_xid_continue}
use Rattle.unicode_ident.proofs.IdentLemmas.{is_xid_continue-ascii}
use Rattle.em_base.specs.Names.{is_start}
use Rattle.em_base.specs.declared.edition.Edition.{Edition}
use Rattle.em_lex.specs.declared.piece.Form.{Form}
use Rattle.em_lex.specs.declared.piece.Form.TheVariants.{Quoted, Single, Raw}
use Rattle.em_lex.specs.declared.piece.Piece.TheVariants.{Trivia as Gap}
use Rattle.em_lex.specs.Characters.{Chars, is_blank, not_line_feed}
use Rattle.em_lex.specs.Literals.{hashes, opening}
use Rattle.em_lex.specs.Scan.{first, run, starts_word, hash, trivia_of, block_of, block_len, literal_step, quote_step, is_none, single_len, word_before, hash_step, word_step, number_step, mark_step, step}
use Rattle.em_lex.proofs.Base.{no_start, no_continue, blank_start, prefix_all, index_front, take_front, drop_front, is_start-ascii}
use Rattle.em_lex.proofs.BodyLemmas.{hashes_len, all_hashes}

pub step_word : (e : Edition) (dot : Bool) (c : ℕ) (cs : Chars) → is_start c ≡ true → step e dot (c ∷ cs) ≡ word_step e (c ∷ cs)
unfolding step
step_word e dot c cs h = rw h

digit_start : (c : ℕ) → is_ascii_digit c ≡ true → is_start c ≡ false
digit_start c h = no_start c (grind (arith, nat_tests)) (grind (arith, nat_tests))

pub step_digit : (e : Edition) (dot : Bool) (c : ℕ) (cs : Chars) → is_ascii_digit c ≡ true → step e dot (c ∷ cs) ≡ number_step dot (c ∷ cs)
unfolding step
step_digit e dot c cs h = let s = digit_start c h in rw (s, h)

quote_start : is_start 34 ≡ false
quote_start = no_start 34 (omega arith) refl

pub step_quoted : (e : Edition) (dot : Bool) (cs : Chars) → step e dot (34 ∷ cs) ≡ literal_step false Quoted 1 cs
unfolding step
step_quoted e dot cs = let s = quote_start in rw s

single_start : is_start 39 ≡ false
single_start = no_start 39 (omega arith) refl

pub step_single : (e : Edition) (dot : Bool) (cs : Chars) → step e dot (39 ∷ cs) ≡ quote_step (39 ∷ cs)
unfolding step
step_single e dot cs = let s = single_start in rw s

pub step_blank : (e : Edition) (dot : Bool) (c : ℕ) (cs : Chars) → is_blank c ≡ true → step e dot (c ∷ cs) ≡ Gap 1 false
unfolding step
step_blank e dot c cs h =
    let s = blank_start c h in
    let d : is_ascii_digit c ≡ false = grind (arith, nat_tests) in
    let q : (c == 34) ≡ false = grind (arith, nat_tests) in
    let l : (c == 39) ≡ false = grind (arith, nat_tests) in
    rw (s, d, q, l, h)

slash_start : is_start 47 ≡ false
slash_start = no_start 47 (omega arith) refl

pub step_line : (e : Edition) (dot : Bool) (cs : Chars) → step e dot (47 ∷ 47 ∷ cs) ≡ trivia_of (47 ∷ 47 ∷ cs) (prefix_len not_line_feed (47 ∷ 47 ∷ cs))
unfolding step
step_line e dot cs = let s = slash_start in rw s

pub step_block : (e : Edition) (dot : Bool) (cs : Chars) → step e dot (47 ∷ 42 ∷ cs) ≡ block_of (47 ∷ 42 ∷ cs) (block_len 0 false cs)
unfolding step
step_block e dot cs = let s = slash_start in rw s

-- a character that begins no other form
pub record Mark (c : ℕ) (cs : Chars) : Type 0 where
  pub word : is_start c ≡ false
  pub digit : is_ascii_digit c ≡ false
  pub quote : (c == 34) ≡ false
  pub single : (c == 39) ≡ false
  pub blank : is_blank c ≡ false
  pub line : (c == 47 && first cs == 47) ≡ false
  pub block : (c == 47 && first cs == 42) ≡ false

pub step_mark : (e : Edition) (dot : Bool) (c : ℕ) (cs : Chars) → Mark c cs → step e dot (c ∷ cs) ≡ mark_step (c ∷ cs)
unfolding step
step_mark e dot c cs m =
    let a = m.word in let b = m.digit in let d = m.quote in let f = m.single in let g = m.blank in let h = m.line in let i = m.block in
    rw (a, b, d, f, g, h, i)

-- ---- openings of literals

pub r_starts : is_start 114 ≡ true
r_starts = is_start-ascii 114 (omega arith)

b_starts : is_start 98 ≡ true
b_starts = is_start-ascii 98 (omega arith)

stop34 : is_xid_continue 34 ≡ false
stop34 = no_continue 34 (omega arith) refl

stop35 : is_xid_continue 35 ≡ false
stop35 = no_continue 35 (omega arith) refl

stop39 : is_xid_continue 39 ≡ false
stop39 = no_continue 39 (omega arith) refl

r_goes : is_xid_continue 114 ≡ true
r_goes = is_xid_continue-ascii 114 (omega arith)

-- a word before a character
word_is : (e : Edition) (c : ℕ) (w : Chars) (d : ℕ) (rest : Chars) → list_all is_xid_continue w ≡ true → is_xid_continue d ≡ false → word_step e (c ∷ (w ++ d ∷ rest)) ≡ word_before e (c ∷ w) (length (c ∷ w)) d (d ∷ rest)
unfolding word_step
word_is e c w d rest h k =
    let n : run (c ∷ (w ++ d ∷ rest)) ≡ length (c ∷ w) = ap (λ n. suc n) (prefix_all is_xid_continue w (d ∷ rest) h k) in
    ap (λ n. word_before e (take n (c ∷ (w ++ d ∷ rest))) n (get_or (c ∷ (w ++ d ∷ rest)) n 0) (drop n (c ∷ (w ++ d ∷ rest)))) n
    ∙ ap (λ w'. word_before e w' (length (c ∷ w)) (get_or (c ∷ (w ++ d ∷ rest)) (length (c ∷ w)) 0) (drop (length (c ∷ w)) (c ∷ (w ++ d ∷ rest)))) (take_front (c ∷ w) (d ∷ rest))
    ∙ ap (λ d'. word_before e (c ∷ w) (length (c ∷ w)) d' (drop (length (c ∷ w)) (c ∷ (w ++ d ∷ rest)))) (index_front (c ∷ w) d rest)
    ∙ ap (λ r. word_before e (c ∷ w) (length (c ∷ w)) d r) (drop_front (c ∷ w) (d ∷ rest))

-- `#` before a `"`
hash_is : (byte : Bool) (at n : ℕ) (cs : Chars) → hash_step byte at (hashes n ++ 34 ∷ cs) ≡ literal_step byte (Raw n) (at + n + 1) cs
hash_is byte at n cs =
    let many : prefix_len hash (hashes n ++ 34 ∷ cs) ≡ n = prefix_all hash (hashes n) (34 ∷ cs) (all_hashes n) refl ∙ hashes_len n in
    let index : get_or (hashes n ++ 34 ∷ cs) n 0 ≡ 34 = subst (λ k. get_or (hashes n ++ 34 ∷ cs) k 0 ≡ 34) (hashes_len n) (index_front (hashes n) 34 cs) in
    let left : drop (n + 1) (hashes n ++ 34 ∷ cs) ≡ cs = drop_hashes n cs in
    rw (many, index, left)
  where
    drop_hashes : (n : ℕ) (cs : Chars) → drop (n + 1) (hashes n ++ 34 ∷ cs) ≡ cs
    drop_hashes n cs =
        let cut : hashes n ++ 34 ∷ cs ≡ (hashes n ++ 34 ∷ []) ++ cs = sym (append_assoc (hashes n) (34 ∷ []) cs) in
        let len : length (hashes n ++ 34 ∷ []) ≡ n + 1 = length-append (hashes n) (34 ∷ []) ∙ ap (λ k. k + 1) (hashes_len n) in
        ap (drop (n + 1)) cut ∙ ap (λ k. drop k ((hashes n ++ 34 ∷ []) ++ cs)) (sym len) ∙ drop_front (hashes n ++ 34 ∷ []) cs

abbrev pub IsLetter : Bool → Form → Chars → Type 0
IsLetter byte form cs = byte ≡ false → form ≡ Single → (starts_word cs && is_none (single_len false cs)) ≡ false

single_is : (cs : Chars) → (starts_word cs && is_none (single_len false cs)) ≡ false → quote_step (39 ∷ cs) ≡ literal_step false Single 1 cs
unfolding quote_step
single_is cs h = rw h

-- the step at the opening of a literal
pub step_opening : (e : Edition) (dot byte : Bool) (form : Form) (cs : Chars) → IsLetter byte form cs → step e dot (opening byte form ++ cs) ≡ literal_step byte form (length (opening byte form)) cs
step_opening e dot false Quoted cs h = step_quoted e dot cs
step_opening e dot false Single cs h = step_single e dot cs ∙ single_is cs (h refl refl)
step_opening e dot false (Raw zero) cs h = step_word e dot 114 (34 ∷ cs) r_starts ∙ word_is e 114 [] 34 cs refl stop34
step_opening e dot false (Raw (suc n)) cs h =
    let cut : (hashes (suc n) ++ 34 ∷ []) ++ cs ≡ hashes (suc n) ++ 34 ∷ cs = append_assoc (hashes (suc n)) (34 ∷ []) cs in
    let len : 1 + suc n + 1 ≡ length (114 ∷ (hashes (suc n) ++ 34 ∷ [])) = (let l = length-append (hashes (suc n)) (34 ∷ []) in let k = hashes_len (suc n) in omega (arith, l, k)) in
    ap (λ xs. step e dot (114 ∷ xs)) cut ∙ step_word e dot 114 (hashes (suc n) ++ 34 ∷ cs) r_starts ∙ word_is e 114 [] 35 (hashes n ++ 34 ∷ cs) refl stop35
    ∙ hash_is false 1 (suc n) cs ∙ ap (λ k. literal_step false (Raw (suc n)) k cs) len
step_opening e dot true Quoted cs h = step_word e dot 98 (34 ∷ cs) b_starts ∙ word_is e 98 [] 34 cs refl stop34
step_opening e dot true Single cs h = step_word e dot 98 (39 ∷ cs) b_starts ∙ word_is e 98 [] 39 cs refl stop39
step_opening e dot true (Raw zero) cs h = step_word e dot 98 (114 ∷ 34 ∷ cs) b_starts ∙ word_is e 98 (114 ∷ []) 34 cs (rw r_goes) stop34
step_opening e dot true (Raw (suc n)) cs h =
    let cut : (hashes (suc n) ++ 34 ∷ []) ++ cs ≡ hashes (suc n) ++ 34 ∷ cs = append_assoc (hashes (suc n)) (34 ∷ []) cs in
    let len : 2 + suc n + 1 ≡ length (98 ∷ 114 ∷ (hashes (suc n) ++ 34 ∷ [])) = (let l = length-append (hashes (suc n)) (34 ∷ []) in let k = hashes_len (suc n) in omega (arith, l, k)) in
    ap (λ xs. step e dot (98 ∷ 114 ∷ xs)) cut ∙ step_word e dot 98 (114 ∷ (hashes (suc n) ++ 34 ∷ cs)) b_starts ∙ word_is e 98 (114 ∷ []) 35 (hashes n ++ 34 ∷ cs) (rw r_goes) stop35
    ∙ hash_is true 2 (suc n) cs ∙ ap (λ k. literal_step true (Raw (suc n)) k cs) len
