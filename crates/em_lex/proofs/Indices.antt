-- The recursions of specs/Scan at an index.
use Rattle.std.proofs.Common.{◌≡◌, ◌≢◌, ℕ, zero, suc, ◌+◌, ◌-◌, ◌<◌, ◌≤◌, Bool, true, false, cond, ◌&&◌, ◌==◌, nat_le, [], ◌∷◌, ◌++◌, length, get_or, take, drop, Option, Some, None, refl, sym, ap, ◌∙◌, arith, add-zero, get_or-drop, append_assoc, append-nil}
use Rattle.std.proofs.lemmas.List.{drop_more, drop_all, take_more}
use Rattle.std.proofs.lemmas.Str.{encodes-append}
use Rattle.std.proofs.Common.{encode_utf8_all}
use Rattle.std.specs.Char.{encode_utf8}
use Rattle.std.specs.List.{prefix_len}
use Rattle.em_lex.specs.Characters.{Chars}
use Rattle.em_lex.specs.declared.piece.Form.{Form}
use Rattle.em_lex.specs.declared.piece.Unit.{Unit as Part}
use Rattle.em_lex.specs.Scan.{first, after, block_len, string_len, raw_len, hash, unit_at, Reading, ahead, listed, read, value_from, digit_after}

-- the first character of what follows i
pub first_drop : (cs : Chars) (i : ℕ) → first (drop i cs) ≡ get_or cs i 0
first_drop cs i = rw (get_or-drop i cs 0 0, add-zero)

pub after_after : (a b c : ℕ) (o : Option ℕ) → c ≡ a + b → after a (after b o) ≡ after c o
after_after a b c None e = refl
after_after a b c (Some n) e = let h : a + (b + n) ≡ c + n = omega arith in ap (λ k. Some k) h

pub after-zero : (o : Option ℕ) → after 0 o ≡ o
after-zero None = refl
after-zero (Some n) = let h : 0 + n ≡ n = omega arith in ap (λ k. Some k) h

-- the bytes of one character more
pub encode-more : (cs : Chars) (i : ℕ) → i < length cs → encode_utf8_all (take (i + 1) cs) ≡ encode_utf8_all (take i cs) ++ encode_utf8 (get_or cs i 0)
encode-more cs i h =
    ap encode_utf8_all (take_more cs i 0 h) ∙ encodes-append (take i cs) (get_or cs i 0 ∷ []) ∙ ap (λ l. encode_utf8_all (take i cs) ++ l) (append-nil (encode_utf8 (get_or cs i 0)))

-- ---- block comments

pub block_len-end : (d : ℕ) (cs : Chars) (i : ℕ) → length cs ≤ i → block_len d false (drop i cs) ≡ None
unfolding block_len
block_len-end d cs i h = rw (drop_all i cs h)

block_len-used : (d : ℕ) (cs : Chars) (i : ℕ) → i < length cs → block_len d true (drop i cs) ≡ after 1 (block_len d false (drop (i + 1) cs))
unfolding block_len
block_len-used d cs i h = rw (drop_more cs i 0 h)

block_len-at : (d : ℕ) (cs : Chars) (i : ℕ) → i < length cs
    → block_len d false (drop i cs) ≡ cond (get_or cs i 0 == 42 && get_or cs (i + 1) 0 == 47)
    (cond (d == 0) (Some 2) (after 1 (block_len (d - 1) true (drop (i + 1) cs))))
    (cond (get_or cs i 0 == 47 && get_or cs (i + 1) 0 == 42) (after 1 (block_len (d + 1) true (drop (i + 1) cs)))
    (after 1 (block_len d false (drop (i + 1) cs))))
unfolding block_len
block_len-at d cs i h =
    let next = first_drop cs (i + 1) in
    rw (drop_more cs i 0 h, next)

after_mark : (d : ℕ) (cs : Chars) (i : ℕ) → i + 1 < length cs → after i (after 1 (block_len d true (drop (i + 1) cs))) ≡ after (i + 2) (block_len d false (drop (i + 2) cs))
after_mark d cs i h =
    let two : i + 1 + 1 ≡ i + 2 = omega arith in
    let used = block_len-used d cs (i + 1) h in
    rw (used, two) (after_after i 1 (i + 1) _ refl ∙ after_after (i + 1) 1 (i + 2) _ (omega arith))

pub block_len-done : (cs : Chars) (i : ℕ) → i + 1 < length cs → (get_or cs i 0 == 42 && get_or cs (i + 1) 0 == 47) ≡ true → after i (block_len 0 false (drop i cs)) ≡ Some (i + 2)
block_len-done cs i h mark = let at = block_len-at 0 cs i (omega arith) in rw (at, mark)

pub block_len-close : (d : ℕ) (cs : Chars) (i : ℕ) → i + 1 < length cs → (get_or cs i 0 == 42 && get_or cs (i + 1) 0 == 47) ≡ true → (d == 0) ≡ false
    → after i (block_len d false (drop i cs)) ≡ after (i + 2) (block_len (d - 1) false (drop (i + 2) cs))
block_len-close d cs i h mark deep = let at = block_len-at d cs i (omega arith) in rw (at, mark, deep) (after_mark (d - 1) cs i h)

pub block_len-open : (d : ℕ) (cs : Chars) (i : ℕ) → i + 1 < length cs → (get_or cs i 0 == 42 && get_or cs (i + 1) 0 == 47) ≡ false → (get_or cs i 0 == 47 && get_or cs (i + 1) 0 == 42) ≡ true
    → after i (block_len d false (drop i cs)) ≡ after (i + 2) (block_len (d + 1) false (drop (i + 2) cs))
block_len-open d cs i h close mark = let at = block_len-at d cs i (omega arith) in rw (at, close, mark) (after_mark (d + 1) cs i h)

pub block_len-goes : (d : ℕ) (cs : Chars) (i : ℕ) → i < length cs → (get_or cs i 0 == 42 && get_or cs (i + 1) 0 == 47) ≡ false → (get_or cs i 0 == 47 && get_or cs (i + 1) 0 == 42) ≡ false
    → after i (block_len d false (drop i cs)) ≡ after (i + 1) (block_len d false (drop (i + 1) cs))
block_len-goes d cs i h close mark = let at = block_len-at d cs i h in rw (at, close, mark) (after_after i 1 (i + 1) _ refl)

-- ---- strings

pub string_len-end : (used : Bool) (cs : Chars) (i : ℕ) → length cs ≤ i → string_len used (drop i cs) ≡ None
unfolding string_len
string_len-end true cs i h = rw (drop_all i cs h)
string_len-end false cs i h = rw (drop_all i cs h)

pub string_len-used : (cs : Chars) (i : ℕ) → i < length cs → after i (string_len true (drop i cs)) ≡ after (i + 1) (string_len false (drop (i + 1) cs))
unfolding string_len
string_len-used cs i h = rw (drop_more cs i 0 h) (after_after i 1 (i + 1) _ refl)

pub string_len-done : (cs : Chars) (i : ℕ) → i < length cs → get_or cs i 0 ≡ 34 → after i (string_len false (drop i cs)) ≡ Some i
unfolding string_len
string_len-done cs i h is = rw (drop_more cs i 0 h, is, add-zero)

-- the next character is used exactly where this one is a backslash
pub string_len-goes : (cs : Chars) (i : ℕ) → i < length cs → get_or cs i 0 ≢ 34 → after i (string_len false (drop i cs)) ≡ after (i + 1) (string_len (get_or cs i 0 == 92) (drop (i + 1) cs))
unfolding string_len
string_len-goes cs i h other =
    let quote : (get_or cs i 0 == 34) ≡ false = grind arith in
    rw (drop_more cs i 0 h, quote) (after_after i 1 (i + 1) _ refl)

pub raw_len-end : (n : ℕ) (cs : Chars) (i : ℕ) → length cs ≤ i → raw_len n (drop i cs) ≡ None
unfolding raw_len
raw_len-end n cs i h = rw (drop_all i cs h)

pub raw_len-done : (n : ℕ) (cs : Chars) (i : ℕ) → i < length cs → get_or cs i 0 ≡ 34 → n ≤ prefix_len hash (drop (i + 1) cs) → after i (raw_len n (drop i cs)) ≡ Some i
unfolding raw_len
raw_len-done n cs i h is most =
    let enough : nat_le n (prefix_len hash (drop (i + 1) cs)) ≡ true = grind arith in
    rw (drop_more cs i 0 h, is, enough, add-zero)

pub raw_len-goes : (n : ℕ) (cs : Chars) (i : ℕ) → i < length cs → (get_or cs i 0 == 34 && nat_le n (prefix_len hash (drop (i + 1) cs))) ≡ false
    → after i (raw_len n (drop i cs)) ≡ after (i + 1) (raw_len n (drop (i + 1) cs))
unfolding raw_len
raw_len-goes n cs i h other = rw (drop_more cs i 0 h, other) (after_after i 1 (i + 1) _ refl)

pub ruleset steps = (after-zero, block_len-end, block_len-done, block_len-close, block_len-open, block_len-goes, string_len-end, string_len-used, string_len-done, string_len-goes, raw_len-end, raw_len-done, raw_len-goes)

-- ---- numbers

pub value_from-end : (base : ℕ) (some : Bool) (n : ℕ) (cs : Chars) (i : ℕ) → length cs ≤ i → value_from base some n (drop i cs) ≡ cond some (Some n) None
unfolding value_from
value_from-end base some n cs i h = rw (drop_all i cs h)

pub value_from-skip : (base : ℕ) (some : Bool) (n : ℕ) (cs : Chars) (i : ℕ) → i < length cs → get_or cs i 0 ≡ 95 → value_from base some n (drop i cs) ≡ value_from base some n (drop (i + 1) cs)
unfolding value_from
value_from-skip base some n cs i h is = rw (drop_more cs i 0 h, is)

pub value_from-none : (base : ℕ) (some : Bool) (n : ℕ) (cs : Chars) (i : ℕ) → i < length cs → get_or cs i 0 ≢ 95 → digit_after base n (get_or cs i 0) ≡ None → value_from base some n (drop i cs) ≡ None
unfolding value_from
value_from-none base some n cs i h other bad = let no : (get_or cs i 0 == 95) ≡ false = grind arith in rw (drop_more cs i 0 h, no, bad)

pub value_from-digit : (base : ℕ) (some : Bool) (n m : ℕ) (cs : Chars) (i : ℕ) → i < length cs → get_or cs i 0 ≢ 95 → digit_after base n (get_or cs i 0) ≡ Some m → value_from base some n (drop i cs) ≡ value_from base true m (drop (i + 1) cs)
unfolding value_from
value_from-digit base some n m cs i h other good = let no : (get_or cs i 0 == 95) ≡ false = grind arith in rw (drop_more cs i 0 h, no, good)

-- ---- bodies

pub ahead_ahead : (a b n : ℕ) (vs ws : Chars) (r : Reading) → n ≡ a + b → ahead a vs (ahead b ws r) ≡ ahead n (vs ++ ws) r
ahead_ahead a b n vs ws r e = let bads = after_after a b n r.bad e in let values = append_assoc vs ws r.value in rw (bads, values)

pub ahead-zero : (r : Reading) → ahead 0 [] r ≡ r
ahead-zero r = let bads = after-zero r.bad in rw bads

read-skip : (byte : Bool) (form : Form) (n : ℕ) (cs : Chars) (i : ℕ) → i + n ≤ length cs → read byte form n (drop i cs) ≡ ahead n [] (read byte form 0 (drop (i + n) cs))
unfolding read
read-skip byte form zero cs i h = rw (add-zero) (sym (ahead-zero _))
read-skip byte form (suc n) cs i h =
    let more : i + 1 + n ≡ i + suc n = omega arith in
    let rest = read-skip byte form n cs (i + 1) (omega arith) in
    rw (drop_more cs i 0 (omega arith), rest, more) (ahead_ahead 1 n (suc n) [] [] _ (omega arith))

pub read-end : (byte : Bool) (form : Form) (cs : Chars) (i : ℕ) → length cs ≤ i → read byte form 0 (drop i cs) ≡ record { bad = None; value = [] }
unfolding read
read-end byte form cs i h = rw (drop_all i cs h)

pub read-bad : (byte : Bool) (form : Form) (cs : Chars) (i : ℕ) → i < length cs → unit_at byte form (drop i cs) ≡ None → read byte form 0 (drop i cs) ≡ record { bad = Some 0; value = [] }
unfolding read
read-bad byte form cs i h is =
    let here : unit_at byte form (get_or cs i 0 ∷ drop (i + 1) cs) ≡ None = rw (drop_more cs i 0 h) at is in
    rw (drop_more cs i 0 h, here)

pub read-goes : (byte : Bool) (form : Form) (cs : Chars) (i : ℕ) (u : Part) → i < length cs → unit_at byte form (drop i cs) ≡ Some u → 1 ≤ u.len → i + u.len ≤ length cs
    → read byte form 0 (drop i cs) ≡ ahead u.len (listed u.value) (read byte form 0 (drop (i + u.len) cs))
unfolding read
read-goes byte form cs i u h is some fits =
    let here : unit_at byte form (get_or cs i 0 ∷ drop (i + 1) cs) ≡ Some u = rw (drop_more cs i 0 h) at is in
    let skip = read-skip byte form (u.len - 1) cs (i + 1) (omega (arith, some)) in
    let same : i + 1 + (u.len - 1) ≡ i + u.len = omega (arith, some) in
    rw (drop_more cs i 0 h, here, skip, same) (ahead_ahead 1 (u.len - 1) u.len (listed u.value) [] _ (omega (arith, some)) ∙ ap (λ (l : Chars). ahead u.len l (read byte form 0 (drop (i + u.len) cs))) (append-nil (listed u.value)))

-- at the front
pub read-front : (byte : Bool) (form : Form) (cs : Chars) (u : Part) → unit_at byte form cs ≡ Some u → 1 ≤ u.len → u.len ≤ length cs
    → read byte form 0 cs ≡ ahead u.len (listed u.value) (read byte form 0 (drop u.len cs))
read-front byte form cs u is some fits =
    let z : 0 + u.len ≡ u.len = omega arith in
    read-goes byte form cs 0 u (omega (arith, some, fits)) is some (omega (arith, fits)) ∙ ap (λ n. ahead u.len (listed u.value) (read byte form 0 (drop n cs))) z

pub ruleset value_steps = (value_from-end, value_from-skip, value_from-none, value_from-digit)

pub ruleset reading_steps = (ahead_ahead, ahead-zero, read-end, read-bad, read-goes)
