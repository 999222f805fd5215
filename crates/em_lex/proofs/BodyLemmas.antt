-- Bodies of literals, and where they end.
use Rattle.std.proofs.Common.{◌≡◌, ℕ, zero, suc, ◌+◌, ◌<◌, ◌≤◌, Bool, true, false, not, cond, ◌&&◌, ◌||◌, ◌==◌, nat_le, [], ◌∷◌, ◌++◌, length, drop, get_or, Option, Some, None, refl, sym, ap, ◌∙◌, subst, arith, length-append, append_assoc, append-nil}
use Rattle.std.proofs.lemmas.Bool.{and_parts, both_ways, eqb-true}
use Rattle.std.proofs.lemmas.Bool.Decides.{nat_tests}
use Rattle.std.specs.List.{list_all, prefix_len}
use Rattle.em_lex.specs.declared.piece.Form.{Form}
use Rattle.em_lex.specs.declared.piece.Form.TheVariants.{Quoted, Single, Raw}
use Rattle.em_lex.specs.declared.piece.Unit.{Unit as Part}
use Rattle.em_lex.specs.Characters.{Chars}
use Rattle.em_lex.specs.Literals.{hashes, closing, IsUnit, Units, none, more, Loose, plain, pair, NoUnit, OneCharacter, escape, broken, ClosesFirst, Closed}
use Rattle.em_lex.specs.Scan.{first, after, unit_at, Reading, ahead, listed, read, string_len, raw_len, hash, no_quote, single_len, one_len, some_if, close_len, closing_len}
use Rattle.em_lex.proofs.Base.{impossible, by_test, pick, both, not_true, or_false, Passed, passed, prefix_all, prefix_most, drop_front, index_front}
use Rattle.em_lex.proofs.Indices.{ahead_ahead, ahead-zero, read-bad, read-front, read-end}
use Rattle.em_lex.proofs.Values.{none_some, some_same}
use Rattle.em_lex.proofs.UnitLemmas.{unit_found, unit_split, no_unit, unit_none}

-- ---- what a body denotes

-- a unit in front of a text
read_on : (byte : Bool) (form : Form) (u v cs : Chars) → IsUnit byte form u v cs → read byte form 0 (u ++ cs) ≡ ahead (length u) v (read byte form 0 cs)
read_on byte form u v cs is =
    let f = unit_found byte form u v cs is in
    let s = unit_split byte form (u ++ cs) f.unit f.is in
    let len = length-append u cs in
    let goes = read-front byte form (u ++ cs) f.unit f.is s.some (omega (arith, len, f.len)) in
    goes ∙ ap (λ n. ahead n (listed f.unit.value) (read byte form 0 (drop n (u ++ cs)))) f.len
    ∙ ap (λ v. ahead (length u) v (read byte form 0 (drop (length u) (u ++ cs)))) f.value ∙ ap (λ xs. ahead (length u) v (read byte form 0 xs)) (drop_front u cs)

-- units are read
pub read_units : (byte : Bool) (form : Form) (body value left : Chars) → Units byte form body value left → read byte form 0 (body ++ left) ≡ ahead (length body) value (read byte form 0 left)
read_units byte form body value left (none e w) = rw (e, w) (sym (ahead-zero _))
read_units byte form body value left (more u v cs vs e w is us) =
    let here = read_on byte form u v (cs ++ left) is in
    let later = read_units byte form cs vs left us in
    let len = length-append u cs in
    ap (λ xs. read byte form 0 (xs ++ left)) e ∙ ap (read byte form 0) (append_assoc u cs left) ∙ here ∙ ap (ahead (length u) v) later
    ∙ ahead_ahead (length u) (length cs) (length body) v vs (read byte form 0 left) (ap (λ xs. length xs) e ∙ len) ∙ ap (λ v. ahead (length body) v (read byte form 0 left)) (sym w)

pub data BodyIs (byte : Bool) (form : Form) (body : Chars) (r : Reading) : Type 0 where
  whole : r.bad ≡ None → Units byte form body r.value [] → BodyIs byte form body r
  stops : (good bad : Chars) (c : ℕ) → body ≡ good ++ c ∷ bad → r.bad ≡ Some (length good) → Units byte form good r.value (c ∷ bad) → NoUnit byte form (c ∷ bad) → BodyIs byte form body r

-- a unit more
body_more : (byte : Bool) (form : Form) (u v cs : Chars) (r : Reading) → IsUnit byte form u v cs → BodyIs byte form cs r → BodyIs byte form (u ++ cs) (ahead (length u) v r)
body_more byte form u v cs r is (whole n us) = whole (rw n) (more u v cs r.value refl refl (subst (IsUnit byte form u v) (sym (append-nil cs)) is) us)
body_more byte form u v cs r is (stops good bad c e n us free) =
    let len = length-append u good in
    stops (u ++ good) bad c (ap (λ xs. u ++ xs) e ∙ sym (append_assoc u good (c ∷ bad))) (rw n (ap (λ k. Some k) (sym len))) (more u v good r.value refl refl (subst (IsUnit byte form u v) e is) us) free

read_one : (n : ℕ) (byte : Bool) (form : Form) (c : ℕ) (cs : Chars) → ((left : Chars) → length left ≤ n → BodyIs byte form left (read byte form 0 left)) → length (c ∷ cs) ≤ suc n
    → (o : Option Part) → unit_at byte form (c ∷ cs) ≡ o → BodyIs byte form (c ∷ cs) (read byte form 0 (c ∷ cs))
read_one n byte form c cs rec h None e =
    let r = read-bad byte form (c ∷ cs) 0 (omega arith) e in
    subst (BodyIs byte form (c ∷ cs)) (sym r) (stops [] cs c refl refl (none refl refl) (no_unit byte form (c ∷ cs) e))
read_one n byte form c cs rec h (Some unit) e =
    let s = unit_split byte form (c ∷ cs) unit e in
    let len = length-append s.u s.left in
    let all : length (c ∷ cs) ≡ length (s.u ++ s.left) = ap (λ xs. length xs) s.parts in
    let rest = rec s.left (omega (arith, len, all, s.len, s.some, h)) in
    let whole_is = ap (read byte form 0) s.parts ∙ read_on byte form s.u (listed unit.value) s.left s.is_unit in
    subst (BodyIs byte form (c ∷ cs)) (sym whole_is) (subst (λ xs. BodyIs byte form xs (ahead (length s.u) (listed unit.value) (read byte form 0 s.left))) (sym s.parts) (body_more byte form s.u (listed unit.value) s.left (read byte form 0 s.left) s.is_unit rest))

read_body : (n : ℕ) (byte : Bool) (form : Form) (body : Chars) → length body ≤ n → BodyIs byte form body (read byte form 0 body)
read_body n byte form [] h = let e = read-end byte form [] 0 (omega arith) in subst (BodyIs byte form []) (sym e) (whole refl (none refl refl))
read_body zero byte form (c ∷ cs) h = absurd (omega (arith, h))
read_body (suc n) byte form (c ∷ cs) h = read_one n byte form c cs (λ left fits. read_body n byte form left fits) h (unit_at byte form (c ∷ cs)) refl

-- what the reading of a body says
pub body_is : (byte : Bool) (form : Form) (body : Chars) → BodyIs byte form body (read byte form 0 body)
body_is byte form body = read_body (length body) byte form body (omega arith)

-- units to the end
pub read_whole : (byte : Bool) (form : Form) (body value : Chars) → Units byte form body value [] → read byte form 0 body ≡ record { bad = None; value = value }
read_whole byte form body value us =
    let e = read_units byte form body value [] us in
    let d = read-end byte form [] 0 (omega arith) in
    ap (read byte form 0) (sym (append-nil body)) ∙ e ∙ ap (ahead (length body) value) d ∙ ap (λ v. record { bad = None; value = v }) (append-nil value)

-- units up to where none begins
pub read_stops : (byte : Bool) (form : Form) (good value bad : Chars) (c : ℕ) → Units byte form good value (c ∷ bad) → NoUnit byte form (c ∷ bad) → (read byte form 0 (good ++ c ∷ bad)).bad ≡ Some (length good)
read_stops byte form good value bad c us free =
    let e = read_units byte form good value (c ∷ bad) us in
    let d = read-bad byte form (c ∷ bad) 0 (omega arith) (unit_none byte form (c ∷ bad) free) in
    let all = e ∙ ap (ahead (length good) value) d in
    ap (λ r. r.bad) all ∙ ap (λ n. Some n) (let z : length good + 0 ≡ length good = omega arith in z)

-- ---- strings

abbrev LooseFrom : Bool → Chars → Type 0
LooseFrom true b = (c : ℕ) × (cs : Chars) × (b ≡ c ∷ cs) × Loose cs
LooseFrom false b = Loose b

record Cut (used : Bool) (cs : Chars) (k : ℕ) : Type 0 where
  body : Chars
  rest : Chars
  parts : cs ≡ body ++ 34 ∷ rest
  len : k ≡ length body
  is_loose : LooseFrom used body

after_one : (o : Option ℕ) (k : ℕ) → after 1 o ≡ Some k → (j : ℕ) × (o ≡ Some j) × (k ≡ suc j)
after_one None k e = absurd (none_some e)
after_one (Some j) k e = let same : 1 + j ≡ k = some_same e in (j, refl, omega (arith, same))

cut_more : (c : ℕ) (cs : Chars) (k j : ℕ) (b : Bool) → (c == 92) ≡ b → (c == 34) ≡ false → Cut b cs j → k ≡ suc j → Cut false (c ∷ cs) k
cut_more c cs k j true u t r up =
    let (d, ds, e, l) = r.is_loose in
    record { body = c ∷ r.body; rest = r.rest; parts = ap (λ xs. c ∷ xs) r.parts; len = up ∙ ap (λ n. suc n) r.len; is_loose = pair d ds (ap (λ x. x ∷ r.body) (eqb-true c 92 u) ∙ ap (λ xs. 92 ∷ xs) e) l }
cut_more c cs k j false u t r up =
    record { body = c ∷ r.body; rest = r.rest; parts = ap (λ xs. c ∷ xs) r.parts; len = up ∙ ap (λ n. suc n) r.len; is_loose = plain c r.body refl (rw (t, u)) r.is_loose }

string_cut : (used : Bool) (cs : Chars) (k : ℕ) → string_len used cs ≡ Some k → Cut used cs k
unfolding string_len
string_cut true [] k e = absurd (none_some e)
string_cut false [] k e = absurd (none_some e)
string_cut true (c ∷ cs) k e =
    let (j, is, up) = after_one (string_len false cs) k e in
    let r = string_cut false cs j is in
    record { body = c ∷ r.body; rest = r.rest; parts = ap (λ xs. c ∷ xs) r.parts; len = up ∙ ap (λ n. suc n) r.len; is_loose = (c, r.body, refl, r.is_loose) }
string_cut false (c ∷ cs) k given =
    pick (λ (o : Option ℕ). o ≡ Some k → Cut false (c ∷ cs) k) (c == 34) (Some 0) (after 1 (string_len (c == 92) cs))
    (λ t e. let same : 0 ≡ k = some_same e in record { body = []; rest = cs; parts = ap (λ c. c ∷ cs) (eqb-true c 34 t); len = sym same; is_loose = none refl })
    (λ t e. let (j, is, up) = after_one (string_len (c == 92) cs) k e in cut_more c cs k j (c == 92) refl t (string_cut (c == 92) cs j is) up) given

string_loose : (body rest : Chars) → Loose body → string_len false (body ++ 34 ∷ rest) ≡ Some (length body)
unfolding string_len
string_loose body rest (none e) = rw e
string_loose body rest (plain c cs e t l) =
    let (a, b) = or_false (c == 34) (c == 92) t in
    let later = string_loose cs rest l in
    rw (e, a, b, later) (ap (λ n. Some n) (omega arith))
string_loose body rest (pair c cs e l) =
    let later = string_loose cs rest l in
    rw (e, later) (ap (λ n. Some n) (omega arith))

-- ---- raw strings

pub hashes_len : (n : ℕ) → length (hashes n) ≡ n
hashes_len zero = refl
hashes_len (suc n) = ap (λ k. suc k) (hashes_len n)

pub all_hashes : (n : ℕ) → list_all hash (hashes n) ≡ true
all_hashes zero = refl
all_hashes (suc n) = all_hashes n

-- so many `#` in front
pub hashed : (n : ℕ) (cs : Chars) → n ≤ prefix_len hash cs → (y : Chars) × (cs ≡ hashes n ++ y)
hashed zero cs h = (cs, refl)
hashed (suc n) [] h = absurd (omega (arith, h))
hashed (suc n) (c ∷ cs) h =
    by_test ((y : Chars) × (c ∷ cs ≡ hashes (suc n) ++ y)) (hash c)
    (λ t. let more : n ≤ prefix_len hash cs = omega (arith, subst (λ b. suc n ≤ cond b (1 + prefix_len hash cs) 0) t h) in
    let (y, e) = hashed n cs more in (y, ap (λ x. x ∷ cs) (eqb-true c 35 t) ∙ ap (λ xs. 35 ∷ xs) e))
    (λ t. absurd (omega (arith, subst (λ b. suc n ≤ cond b (1 + prefix_len hash cs) 0) t h)))

pub hashes_in : (n : ℕ) (y : Chars) → n ≤ prefix_len hash (hashes n ++ y)
hashes_in n y = let m = prefix_most hash (hashes n) y (all_hashes n) in let l = hashes_len n in omega (arith, m, l)

-- `#` that stand in the front of a text that is long enough stand in the front itself
front_hashed : (p y : Chars) (n : ℕ) → n ≤ length p → n ≤ prefix_len hash (p ++ y) → n ≤ prefix_len hash p
front_hashed [] y n h k = omega (arith, h)
front_hashed (c ∷ p) y zero h k = omega arith
front_hashed (c ∷ p) y (suc n) h k =
    by_test (suc n ≤ prefix_len hash (c ∷ p)) (hash c)
    (λ t. let more = front_hashed p y n (omega (arith, h)) (omega (arith, subst (λ b. suc n ≤ cond b (1 + prefix_len hash (p ++ y)) 0) t k)) in subst (λ b. suc n ≤ cond b (1 + prefix_len hash p) 0) (sym t) (omega (arith, more)))
    (λ t. absurd (omega (arith, subst (λ b. suc n ≤ cond b (1 + prefix_len hash (p ++ y)) 0) t k)))

closes_less : (n : ℕ) (c : ℕ) (b : Chars) → ClosesFirst n (c ∷ b) → ClosesFirst n b
closes_less n c b f x y e = let l = f (c ∷ x) y (ap (λ xs. c ∷ xs) e) in omega (arith, l)

-- inside such a body no closing begins
not_closed : (n : ℕ) (c : ℕ) (b after : Chars) → ClosesFirst n (c ∷ b) → (c == 34 && nat_le n (prefix_len hash (b ++ ((34 ∷ hashes n) ++ after)))) ≡ false
not_closed n c b after f =
    by_test _ (c == 34 && nat_le n (prefix_len hash (b ++ ((34 ∷ hashes n) ++ after))))
    (λ t. let a = and_parts (c == 34) _ t in
    let many : n ≤ prefix_len hash (b ++ ((34 ∷ hashes n) ++ after)) = grind (arith, nat_tests) in
    let cut : b ++ ((34 ∷ hashes n) ++ after) ≡ (b ++ (34 ∷ hashes n)) ++ after = sym (append_assoc b (34 ∷ hashes n) after) in
    let l = length-append b (34 ∷ hashes n) in
    let h = hashes_len n in
    let few = front_hashed (b ++ (34 ∷ hashes n)) after n (omega (arith, l, h)) (subst (λ xs. n ≤ prefix_len hash xs) cut many) in
    let (y, e) = hashed n (b ++ (34 ∷ hashes n)) few in
    let short = f [] y (ap (λ x. x ∷ (b ++ (34 ∷ hashes n))) (eqb-true c 34 a.0) ∙ ap (λ xs. 34 ∷ xs) e) in
    absurd (omega (arith, short)))
    (λ t. t)

raw_closed : (n : ℕ) (body rest : Chars) → ClosesFirst n body → raw_len n (body ++ ((34 ∷ hashes n) ++ rest)) ≡ Some (length body)
unfolding raw_len
raw_closed n [] rest f = let many : nat_le n (prefix_len hash (hashes n ++ rest)) ≡ true = (let h = hashes_in n rest in grind (arith, nat_tests, h)) in rw many
raw_closed n (c ∷ body) rest f =
    let t = not_closed n c body rest f in
    let later = raw_closed n body rest (closes_less n c body f) in
    rw (t, later) (ap (λ k. Some k) (omega arith))

record RawCut (n : ℕ) (cs : Chars) (k : ℕ) : Type 0 where
  body : Chars
  rest : Chars
  parts : cs ≡ body ++ ((34 ∷ hashes n) ++ rest)
  len : k ≡ length body
  first_is : ClosesFirst n body

raw_cut : (n : ℕ) (cs : Chars) (k : ℕ) → raw_len n cs ≡ Some k → RawCut n cs k
unfolding raw_len
raw_cut n [] k e = absurd (none_some e)
raw_cut n (c ∷ cs) k given =
    pick (λ (o : Option ℕ). o ≡ Some k → RawCut n (c ∷ cs) k) (c == 34 && nat_le n (prefix_len hash cs)) (Some 0) (after 1 (raw_len n cs))
    (λ t e. let a = and_parts (c == 34) (nat_le n (prefix_len hash cs)) t in
    let many : n ≤ prefix_len hash cs = grind (arith, nat_tests) in
    let (y, h) = hashed n cs many in
    let same : 0 ≡ k = some_same e in
    record { body = []; rest = y; parts = ap (λ c. c ∷ cs) (eqb-true c 34 a.0) ∙ ap (λ xs. 34 ∷ xs) h; len = sym same; first_is = λ x y e. omega arith })
    (λ t e. let (j, is, up) = after_one (raw_len n cs) k e in goes t (raw_cut n cs j is) up) given
  where
    goes : (c == 34 && nat_le n (prefix_len hash cs)) ≡ false → {j : ℕ} → RawCut n cs j → k ≡ suc j → RawCut n (c ∷ cs) k
    goes t r up = record { body = c ∷ r.body; rest = r.rest; parts = ap (λ xs. c ∷ xs) r.parts; len = up ∙ ap (λ n. suc n) r.len; first_is = first_one t r }
      where
        inside : (b rest y : Chars) → cs ≡ b ++ ((34 ∷ hashes n) ++ rest) → b ++ (34 ∷ hashes n) ≡ hashes n ++ y → n ≤ prefix_len hash cs
        inside b rest y e f =
            let cut : cs ≡ hashes n ++ (y ++ rest) = e ∙ sym (append_assoc b (34 ∷ hashes n) rest) ∙ ap (λ xs. xs ++ rest) f ∙ append_assoc (hashes n) y rest in
            subst (λ xs. n ≤ prefix_len hash xs) (sym cut) (hashes_in n (y ++ rest))

        first_one : (c == 34 && nat_le n (prefix_len hash cs)) ≡ false → {j : ℕ} (r : RawCut n cs j) → ClosesFirst n (c ∷ r.body)
        first_one t r [] y e =
            let head : c ≡ 34 = cc in
            let tail : r.body ++ (34 ∷ hashes n) ≡ hashes n ++ y = cc in
            let many = inside r.body r.rest y r.parts tail in
            let enough : nat_le n (prefix_len hash cs) ≡ true = grind (arith, nat_tests, many) in
            let quote : (c == 34) ≡ true = grind (arith, nat_tests) in
            absurd (both_ways _ t (both _ _ quote enough))
        first_one t r (d ∷ x) y e =
            let tail : r.body ++ (34 ∷ hashes n) ≡ x ++ ((34 ∷ hashes n) ++ y) = cc in
            let l = r.first_is x y tail in omega (arith, l)

-- ---- between `'`

closes_index : (body : Chars) (after : Chars) → (get_or (body ++ 39 ∷ after) (length body) 0 == 39) ≡ true
closes_index body after = let i = index_front body 39 after in rw i

one_unit : (byte : Bool) (cs : Chars) (unit : Part) (n : ℕ) → (first cs == 92) ≡ true → unit_at byte Single cs ≡ Some unit → unit.len ≡ n → (get_or cs n 0 == 39) ≡ true → single_len byte cs ≡ Some n
unfolding single_len
one_unit byte cs unit n b u l i = rw (b, u, l, i)

one_broken : (byte : Bool) (cs : Chars) (n : ℕ) → (first cs == 92) ≡ true → unit_at byte Single cs ≡ None → prefix_len no_quote (drop 2 cs) ≡ n → (get_or cs (2 + n) 0 == 39) ≡ true → single_len byte cs ≡ Some (2 + n)
unfolding single_len
one_broken byte cs n b u l i = rw (b, u, l, i)

one_plain : (byte : Bool) (c : ℕ) (rest : Chars) → (c == 39 || c == 92 || c == 10 || c == 9) ≡ false → single_len byte (c ∷ 39 ∷ rest) ≡ Some 1
unfolding single_len
one_plain byte c rest t =
    let a = or_false (c == 39 || c == 92 || c == 10) (c == 9) t in
    let b = or_false (c == 39 || c == 92) (c == 10) a.0 in
    let d = or_false (c == 39) (c == 92) b.0 in
    let q = d.0 in let e = d.1 in let l = b.1 in let z = a.1 in
    rw (e, q, l, z)

one_len_is : (byte : Bool) (body rest : Chars) → OneCharacter byte body rest → single_len byte (body ++ 39 ∷ rest) ≡ Some (length body)
one_len_is byte body rest (plain c e t) = rw e (one_plain byte c rest t)
one_len_is byte body rest (escape cs value e is) =
    let f = unit_found byte Single body value (39 ∷ rest) is in
    one_unit byte (body ++ 39 ∷ rest) f.unit (length body) (rw e) f.is f.len (closes_index body rest)
one_len_is byte body rest (broken c cs e all free) =
    let n : prefix_len no_quote (drop 2 (body ++ 39 ∷ rest)) ≡ length cs = rw e (prefix_all no_quote cs (39 ∷ rest) all refl) in
    let two : length body ≡ 2 + length cs = ap (λ xs. length xs) e ∙ (let z : length (92 ∷ c ∷ cs) ≡ 2 + length cs = omega arith in z) in
    let i : (get_or (body ++ 39 ∷ rest) (2 + length cs) 0 == 39) ≡ true = subst (λ n. (get_or (body ++ 39 ∷ rest) n 0 == 39) ≡ true) two (closes_index body rest) in
    one_broken byte (body ++ 39 ∷ rest) (length cs) (rw e) (unit_none byte Single (body ++ 39 ∷ rest) free) n i ∙ ap (λ n. Some n) (sym two)

record OneCut (byte : Bool) (cs : Chars) (k : ℕ) : Type 0 where
  body : Chars
  rest : Chars
  parts : cs ≡ body ++ 39 ∷ rest
  len : k ≡ length body
  is_one : OneCharacter byte body rest

index_rest : (front rest : Chars) (c : ℕ) → get_or (front ++ rest) (length front) 0 ≡ c → 0 < c → (left : Chars) × (rest ≡ c ∷ left)
index_rest [] [] c e some = absurd (omega (arith, e, some))
index_rest [] (d ∷ rest) c e some = (rest, ap (λ d. d ∷ rest) e)
index_rest (d ∷ front) rest c e some = index_rest front rest c e some

starts_slash : (u left xs : Chars) → 0 < length u → u ++ left ≡ 92 ∷ xs → (ys : Chars) × (u ≡ 92 ∷ ys)
starts_slash [] left xs some e = absurd (omega (arith, some))
starts_slash (c ∷ u) left xs some e = let same : c ≡ 92 = cc in (u, ap (λ c. c ∷ u) same)

unit_cut : (byte : Bool) (xs : Chars) (unit : Part) (k : ℕ) → unit_at byte Single (92 ∷ xs) ≡ Some unit → some_if (get_or (92 ∷ xs) unit.len 0 == 39) unit.len ≡ Some k → OneCut byte (92 ∷ xs) k
unit_cut byte xs unit k u =
    let s = unit_split byte Single (92 ∷ xs) unit u in
    pick (λ (o : Option ℕ). o ≡ Some k → OneCut byte (92 ∷ xs) k) (get_or (92 ∷ xs) unit.len 0 == 39) (Some unit.len) None
    (λ t e. let index : get_or (s.u ++ s.left) (length s.u) 0 ≡ 39 = subst (λ n. get_or (s.u ++ s.left) n 0 ≡ 39) s.len (subst (λ ys. get_or ys unit.len 0 ≡ 39) s.parts (eqb-true _ 39 t)) in
    let (left, l) = index_rest s.u s.left 39 index (omega arith) in
    let (ys, b) = starts_slash s.u s.left xs (omega (arith, s.some, s.len)) (sym s.parts) in
    let same : unit.len ≡ k = some_same e in
    record { body = s.u; rest = left; parts = s.parts ∙ ap (λ l. s.u ++ l) l; len = sym same ∙ s.len; is_one = escape ys (listed unit.value) b (subst (IsUnit byte Single s.u (listed unit.value)) l s.is_unit) })
    (λ t e. absurd (none_some e))

broken_cut : (byte : Bool) (xs : Chars) (k : ℕ) → unit_at byte Single (92 ∷ xs) ≡ None → some_if (get_or (92 ∷ xs) (2 + prefix_len no_quote (drop 2 (92 ∷ xs))) 0 == 39) (2 + prefix_len no_quote (drop 2 (92 ∷ xs))) ≡ Some k → OneCut byte (92 ∷ xs) k
broken_cut byte [] k u =
    pick (λ (o : Option ℕ). o ≡ Some k → OneCut byte (92 ∷ []) k) (get_or (92 ∷ []) (2 + prefix_len no_quote []) 0 == 39) (Some (2 + prefix_len no_quote [])) None
    (λ t e. impossible t) (λ t e. absurd (none_some e))
broken_cut byte (c ∷ xs) k u =
    let p = passed no_quote xs in
    pick (λ (o : Option ℕ). o ≡ Some k → OneCut byte (92 ∷ c ∷ xs) k) (get_or (92 ∷ c ∷ xs) (2 + prefix_len no_quote xs) 0 == 39) (Some (2 + prefix_len no_quote xs)) None
    (λ t e. found p (eqb-true _ 39 t) (some_same e))
    (λ t e. absurd (none_some e))
  where
    found : (p : Passed no_quote xs) → get_or (92 ∷ c ∷ xs) (2 + prefix_len no_quote xs) 0 ≡ 39 → 2 + prefix_len no_quote xs ≡ k → OneCut byte (92 ∷ c ∷ xs) k
    found p i same =
        let two : 2 + prefix_len no_quote xs ≡ suc (suc (length p.front)) = (let l = p.len in omega (arith, l)) in
        let index : get_or (p.front ++ p.rest) (length p.front) 0 ≡ 39 = subst (λ ys. get_or ys (length p.front) 0 ≡ 39) p.parts (subst (λ n. get_or (92 ∷ c ∷ xs) n 0 ≡ 39) two i) in
        let (left, l) = index_rest p.front p.rest 39 index (omega arith) in
        let parts : 92 ∷ c ∷ xs ≡ (92 ∷ c ∷ p.front) ++ 39 ∷ left = ap (λ ys. 92 ∷ c ∷ ys) (p.parts ∙ ap (λ l. p.front ++ l) l) in
        record { body = 92 ∷ c ∷ p.front; rest = left; parts = parts; len = sym same ∙ two; is_one = broken c p.front refl p.all (no_unit byte Single ((92 ∷ c ∷ p.front) ++ 39 ∷ left) (ap (unit_at byte Single) (sym parts) ∙ u)) }

plain_cut : (byte : Bool) (cs : Chars) (k : ℕ) → (first cs == 92) ≡ false → some_if (get_or cs 1 0 == 39 && not (first cs == 39 || first cs == 10 || first cs == 9)) 1 ≡ Some k → OneCut byte cs k
plain_cut byte [] k b e = absurd (none_some e)
plain_cut byte (c ∷ []) k b e = absurd (none_some e)
plain_cut byte (c ∷ d ∷ rest) k b given =
    pick (λ (o : Option ℕ). o ≡ Some k → OneCut byte (c ∷ d ∷ rest) k) (d == 39 && not (c == 39 || c == 10 || c == 9)) (Some 1) None
    (λ t e. let a = and_parts (d == 39) (not (c == 39 || c == 10 || c == 9)) t in
    let same : 1 ≡ k = some_same e in
    record { body = c ∷ []; rest = rest; parts = ap (λ d. c ∷ d ∷ rest) (eqb-true d 39 a.0); len = sym same; is_one = plain c refl (four (c == 39) (c == 92) (c == 10) (c == 9) b (not_true _ a.1)) })
    (λ t e. absurd (none_some e)) given
  where
    four : (p q r s : Bool) → q ≡ false → (p || r || s) ≡ false → (p || q || r || s) ≡ false
    four true q r s b h = impossible (sym h)
    four false true r s b h = impossible (sym b)
    four false false r s b h = h

slash_cut : (byte : Bool) (cs : Chars) (k : ℕ) → (first cs == 92) ≡ true → one_len cs (unit_at byte Single cs) ≡ Some k → OneCut byte cs k
slash_cut byte [] k b e = impossible b
slash_cut byte (c ∷ xs) k b e = subst (λ c. OneCut byte (c ∷ xs) k) (sym same) (here (unit_at byte Single (92 ∷ xs)) refl (subst (λ c. one_len (c ∷ xs) (unit_at byte Single (c ∷ xs)) ≡ Some k) same e))
  where
    same : c ≡ 92
    same = eqb-true c 92 b

    here : (o : Option Part) → unit_at byte Single (92 ∷ xs) ≡ o → one_len (92 ∷ xs) o ≡ Some k → OneCut byte (92 ∷ xs) k
    here None u e = broken_cut byte xs k u e
    here (Some unit) u e = unit_cut byte xs unit k u e

one_cut : (byte : Bool) (cs : Chars) (k : ℕ) → single_len byte cs ≡ Some k → OneCut byte cs k
unfolding single_len
one_cut byte cs k =
    pick (λ (o : Option ℕ). o ≡ Some k → OneCut byte cs k) (first cs == 92) _ _ (λ b e. slash_cut byte cs k b e) (λ b e. plain_cut byte cs k b e)

-- ---- where a literal ends

pub record CloseCut (byte : Bool) (form : Form) (cs : Chars) (k : ℕ) : Type 0 where
  pub body : Chars
  pub rest : Chars
  pub closed : Closed byte form cs body rest
  pub len : k ≡ length body

pub close_cut : (byte : Bool) (form : Form) (cs : Chars) (k : ℕ) → close_len byte form cs ≡ Some k → CloseCut byte form cs k
close_cut byte Quoted cs k e = let r = string_cut false cs k e in record { body = r.body; rest = r.rest; closed = record { parts = r.parts; is_body = r.is_loose }; len = r.len }
close_cut byte Single cs k e = let r = one_cut byte cs k e in record { body = r.body; rest = r.rest; closed = record { parts = r.parts; is_body = r.is_one }; len = r.len }
close_cut byte (Raw n) cs k e = let r = raw_cut n cs k e in record { body = r.body; rest = r.rest; closed = record { parts = r.parts; is_body = r.first_is }; len = r.len }

pub close_is : (byte : Bool) (form : Form) (cs body rest : Chars) → Closed byte form cs body rest → close_len byte form cs ≡ Some (length body)
close_is byte Quoted cs body rest c = ap (string_len false) c.parts ∙ string_loose body rest c.is_body
close_is byte Single cs body rest c = ap (single_len byte) c.parts ∙ one_len_is byte body rest c.is_body
close_is byte (Raw n) cs body rest c = ap (raw_len n) c.parts ∙ raw_closed n body rest c.is_body

pub closing_is : (form : Form) → length (closing form) ≡ closing_len form
closing_is Quoted = refl
closing_is Single = refl
closing_is (Raw n) = let h = hashes_len n in omega (arith, h)
