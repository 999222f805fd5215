-- The unit that the code finds is the one that stands there.
use Rattle.std.proofs.Common.{◌≡◌, ◌≢◌, inl, inr, ℕ, ◌+◌, ◌*◌, ◌^◌, ◌<◌, ◌≤◌, Bool, true, false, not, cond, ◌&&◌, ◌||◌, ◌==◌, nat_lt, nat_le, [], ◌∷◌, ◌++◌, length, filter, take, drop, get_or, Option, Some, None, refl, sym, ap, ◌∙◌, subst, arith, length-append, append_assoc}
use Rattle.std.proofs.lemmas.List.Recursion.{is_count_by}
use Rattle.std.proofs.lemmas.Bool.{and_parts, both_ways, or_cases, eqb-true}
use Rattle.std.proofs.lemmas.Bool.Decides.{nat_tests}
use Rattle.std.specs.Char.{is_digit, digit_value, is_ascii_hexdigit, IsScalar}
use Rattle.std.specs.List.{list_all, prefix_len, count_by}
use Rattle.em_lex.specs.declared.piece.Form.{Form}
use Rattle.em_lex.specs.declared.piece.Form.TheVariants.{Quoted, Single, Raw}
use Rattle.em_lex.specs.declared.piece.Unit.{Unit as Part}
use Rattle.em_lex.specs.Characters.{Chars, starts, not_underscore}
use Rattle.em_lex.specs.Literals.{is_raw, is_plain, fits, has_lines, Simple, newline, return, tab, backslash, null, quote, double, IsByteCode, is_code_part, digits_of, IsCode, is_skipped, IsLineEnd, IsUnit, plain, line, simple, code, unicode, skip, NoUnit}
use Rattle.em_lex.specs.Scan.{first, raw_form, quoted_form, single_form, stands, unit_of, simple_at, code_part, scalar_unit, unicode_at, code_at, skipped, is_line_end, other_escape, simple_or, escape_at, unit_at, listed, value_from}
use Rattle.em_lex.proofs.Base.{impossible, by_test, pick, not_true, passed, prefix_all, take_front, index_front}
use Rattle.em_lex.proofs.Values.{has_value, value_has, none_some, some_same}

-- the unit u with this value stands in front of cs
pub record Found (byte : Bool) (form : Form) (cs u v : Chars) : Type 0 where
  pub unit : Part
  pub is : unit_at byte form cs ≡ Some unit
  pub len : unit.len ≡ length u
  pub value : listed unit.value ≡ v

-- ---- from the definition to the code

record PlainTests (form : Form) (c : ℕ) : Type 0 where
  no_escape : (c == 92 && not (raw_form form)) ≡ false
  no_return : (c == 13) ≡ false
  stands_is : stands form c ≡ true

plain_tests : (form : Form) (c : ℕ) → is_plain form c ≡ true → PlainTests form c
plain_tests Quoted c h = record { no_escape = grind (arith, nat_tests); no_return = grind (arith, nat_tests); stands_is = h }
plain_tests Single c h = record { no_escape = grind (arith, nat_tests); no_return = grind (arith, nat_tests); stands_is = h }
plain_tests (Raw n) c h = record { no_escape = grind (arith, nat_tests); no_return = grind (arith, nat_tests); stands_is = h }

plain_found : (byte : Bool) (form : Form) (c : ℕ) (left : Chars) → is_plain form c ≡ true → fits byte c ≡ true → Found byte form (c ∷ left) (c ∷ []) (c ∷ [])
unfolding unit_at
plain_found byte form c left h k =
    let t = plain_tests form c h in
    let a = t.no_escape in let b = t.no_return in let d = t.stands_is in
    record { unit = record { len = 1; value = Some c }; is = rw (a, b, d, k); len = refl; value = refl }

line_found : (byte : Bool) (form : Form) (left : Chars) → has_lines form ≡ true → Found byte form (13 ∷ 10 ∷ left) (13 ∷ 10 ∷ []) (10 ∷ [])
unfolding unit_at
line_found byte Quoted left h = record { unit = record { len = 2; value = Some 10 }; is = refl; len = refl; value = refl }
line_found byte Single left h = impossible h
line_found byte (Raw n) left h = record { unit = record { len = 2; value = Some 10 }; is = refl; len = refl; value = refl }

escape_is : (byte : Bool) (form : Form) (cs : Chars) → is_raw form ≡ false → unit_at byte form (92 ∷ cs) ≡ escape_at byte form cs
unfolding unit_at
escape_is byte Quoted cs h = refl
escape_is byte Single cs h = refl
escape_is byte (Raw n) cs h = impossible (sym h)

simple_value : (c v : ℕ) → Simple c v → simple_at c ≡ Some v
simple_value c v (newline h k) = rw (h, k)
simple_value c v (return h k) = rw (h, k)
simple_value c v (tab h k) = rw (h, k)
simple_value c v (backslash h k) = rw (h, k)
simple_value c v (null h k) = rw (h, k)
simple_value c v (quote h k) = rw (h, k)
simple_value c v (double h k) = rw (h, k)

simple_found : (byte : Bool) (form : Form) (c v : ℕ) (left : Chars) → is_raw form ≡ false → Simple c v → Found byte form (92 ∷ c ∷ left) (92 ∷ c ∷ []) (v ∷ [])
simple_found byte form c v left h s =
    let e = escape_is byte form (c ∷ left) h in
    let k = simple_value c v s in
    record { unit = record { len = 2; value = Some v }; is = e ∙ (rw k); len = refl; value = refl }

code_found : (byte : Bool) (form : Form) (a b : ℕ) (left : Chars) → is_raw form ≡ false → IsByteCode byte a b → Found byte form (92 ∷ 120 ∷ a ∷ b ∷ left) (92 ∷ 120 ∷ a ∷ b ∷ []) ((digit_value a * 16 + digit_value b) ∷ [])
code_found byte form a b left h (ha, hb, low) =
    let e = escape_is byte form (120 ∷ a ∷ b ∷ left) h in
    record { unit = record { len = 4; value = Some (digit_value a * 16 + digit_value b) }; is = e ∙ (rw (ha, hb, low)); len = refl; value = refl }

filter_more : (c : ℕ) (part : Chars) → length (filter is_ascii_hexdigit (c ∷ part)) ≡ cond (is_ascii_hexdigit c) (1 + length (filter is_ascii_hexdigit part)) (length (filter is_ascii_hexdigit part))
filter_more c part = by_test _ (is_ascii_hexdigit c) (λ h. rw h (omega arith)) (λ h. rw h)

hex_filter : (part : Chars) → list_all is_code_part part ≡ true → filter is_ascii_hexdigit part ≡ digits_of part
hex_filter [] h = refl
hex_filter (c ∷ part) h =
    let a = and_parts (is_code_part c) (list_all is_code_part part) h in
    let more = hex_filter part a.1 in
    by_test _ (c == 95)
    (λ u. let none : is_ascii_hexdigit c ≡ false = grind (arith, nat_tests) in rw (u, none, more))
    (λ u. let hex : is_ascii_hexdigit c ≡ true = only (is_ascii_hexdigit c) (c == 95) a.0 u in rw (u, hex, more))
  where
    only : (a b : Bool) → (a || b) ≡ true → b ≡ false → a ≡ true
    only true b h k = refl
    only false b h k = absurd (both_ways b k h)

hex_count : (part : Chars) → list_all is_code_part part ≡ true → count_by is_ascii_hexdigit part ≡ length (digits_of part)
hex_count part h = sym (is_count_by (λ xs. length (filter is_ascii_hexdigit xs)) is_ascii_hexdigit refl filter_more part) ∙ ap (λ ds. length ds) (hex_filter part h)

scalar_test : (v : ℕ) → IsScalar v → (nat_lt v 0xD800 || (nat_le 0xE000 v && nat_lt v 0x11_0000)) ≡ true
scalar_test v h = by_test _ (nat_lt v 0xD800) (λ t. rw t) (λ t. rw t (rw t at h))

hex_digits : (part : Chars) → list_all is_code_part part ≡ true → list_all (λ c. is_digit c 16) (filter not_underscore part) ≡ true
hex_digits [] h = refl
hex_digits (c ∷ part) h =
    let a = and_parts (is_code_part c) (list_all is_code_part part) h in
    let more = hex_digits part a.1 in
    by_test _ (c == 95) (λ u. rw u more) (λ u. let d : is_digit c 16 ≡ true = hex_is c a.0 u in rw (u, d) more)
  where
    hex_is : (c : ℕ) → is_code_part c ≡ true → (c == 95) ≡ false → is_digit c 16 ≡ true
    hex_is c h u = grind (arith, nat_tests)

some_digits : (part : Chars) → starts is_ascii_hexdigit part ≡ true → 0 < length (filter not_underscore part)
some_digits [] h = impossible h
some_digits (c ∷ part) h = let u : (c == 95) ≡ false = grind (arith, nat_tests) in rw u (omega arith)

hex_first : (part rest : Chars) → starts is_ascii_hexdigit part ≡ true → is_ascii_hexdigit (first (part ++ rest)) ≡ true
hex_first [] rest h = impossible h
hex_first (c ∷ part) rest h = h

scalar_small : (v : ℕ) → IsScalar v → v < 0x11_0000
scalar_small v h = grind (arith, nat_tests)

unicode_is : (part left : Chars) (v : ℕ) → IsCode part v → unicode_at (part ++ 125 ∷ left) ≡ unit_of (length part + 4) v
unicode_is part left v h =
    let n : prefix_len code_part (part ++ 125 ∷ left) ≡ length part = prefix_all code_part part (125 ∷ left) h.digits refl in
    let brace = index_front part 125 left in
    let front = take_front part (125 ∷ left) in
    let hex = hex_first part (125 ∷ left) h.first in
    let few : nat_le (count_by is_ascii_hexdigit part) 6 ≡ true = (rw (hex_count part h.digits) (grind (arith, nat_tests, h.few))) in
    let small : v < 2 ^ 64 = omega (arith, scalar_small v h.scalar) in
    let value = has_value 16 part v (omega arith) (record { some = some_digits part h.first; good = hex_digits part h.digits; says = h.says; small = small }) in
    let scalar = scalar_test v h.scalar in
    rw (n, brace, hex, front, few, value, scalar)

unicode_found : (form : Form) (part left : Chars) (v : ℕ) → is_raw form ≡ false → IsCode part v → Found false form (92 ∷ 117 ∷ 123 ∷ (part ++ 125 ∷ left)) (92 ∷ 117 ∷ 123 ∷ (part ++ 125 ∷ [])) (v ∷ [])
unicode_found form part left v h k =
    let e = escape_is false form (117 ∷ 123 ∷ (part ++ 125 ∷ left)) h in
    let u = unicode_is part left v k in
    record { unit = record { len = length part + 4; value = Some v }; is = e ∙ u; len = (let l = length-append part (125 ∷ []) in omega (arith, l)); value = refl }

skip_found : (byte : Bool) (end blanks left : Chars) → IsLineEnd end → list_all is_skipped blanks ≡ true → starts is_skipped left ≡ false → Found byte Quoted (92 ∷ (end ++ (blanks ++ left))) (92 ∷ (end ++ blanks)) []
skip_found byte end blanks left (inl h) a s =
    let n = prefix_all skipped (10 ∷ blanks) left a s in
    rw h (record { unit = record { len = 1 + prefix_len skipped (10 ∷ (blanks ++ left)); value = None }; is = escape_is byte Quoted (10 ∷ (blanks ++ left)) refl; len = omega (arith, n); value = refl })
skip_found byte end blanks left (inr h) a s =
    let n = prefix_all skipped (13 ∷ 10 ∷ blanks) left a s in
    rw h (record { unit = record { len = 1 + prefix_len skipped (13 ∷ 10 ∷ (blanks ++ left)); value = None }; is = escape_is byte Quoted (13 ∷ 10 ∷ (blanks ++ left)) refl; len = omega (arith, n); value = refl })

-- a unit is found
pub unit_found : (byte : Bool) (form : Form) (u v left : Chars) → IsUnit byte form u v left → Found byte form (u ++ left) u v
unit_found byte form u v left (plain c e h k w) = rw (e, w) (plain_found byte form c left h k)
unit_found byte form u v left (line h e w) = rw (e, w) (line_found byte form left h)
unit_found byte form u v left (simple c d h e s w) = rw (e, w) (simple_found byte form c d left h s)
unit_found byte form u v left (code a b h e s w) = rw (e, w) (code_found byte form a b left h s)
unit_found byte form u v left (unicode part d h b e s w) =
    let cut : (part ++ 125 ∷ []) ++ left ≡ part ++ 125 ∷ left = append_assoc part (125 ∷ []) left in
    rw (e, w, b, cut) (unicode_found form part left d h s)
unit_found byte form u v left (skip end blanks f e l a s w) =
    let cut : (end ++ blanks) ++ left ≡ end ++ (blanks ++ left) = append_assoc end blanks left in
    rw (f, e, w, cut) (skip_found byte end blanks left l a s)

-- ---- from the code to the definition

pub record Split (byte : Bool) (form : Form) (cs : Chars) (unit : Part) : Type 0 where
  pub u : Chars
  pub left : Chars
  pub parts : cs ≡ u ++ left
  pub len : unit.len ≡ length u
  pub some : 0 < unit.len
  pub is_unit : IsUnit byte form u (listed unit.value) left

abbrev Splits : Bool → Form → Chars → Option Part → Type 0
Splits byte form cs o = (unit : Part) → o ≡ Some unit → Split byte form cs unit

no_part : {unit : Part} → ◌≡◌ {A = Option Part} None (Some unit) → ⊥
no_part e = cc

same_part : {a b : Part} → ◌≡◌ {A = Option Part} (Some a) (Some b) → a ≡ b
same_part e = cc

splits_none : (byte : Bool) (form : Form) (cs : Chars) → Splits byte form cs None
splits_none byte form cs unit e = absurd (no_part e)

splits_some : (byte : Bool) (form : Form) (cs : Chars) (unit : Part) → Split byte form cs unit → Splits byte form cs (Some unit)
splits_some byte form cs unit s other e = subst (λ x. Split byte form cs x) (same_part e) s

is_plain_stands : (form : Form) (c : ℕ) → stands form c ≡ true → is_plain form c ≡ true
is_plain_stands Quoted c h = h
is_plain_stands Single c h = h
is_plain_stands (Raw n) c h = h

lines_single : (form : Form) → not (single_form form) ≡ true → has_lines form ≡ true
lines_single Quoted h = refl
lines_single Single h = impossible h
lines_single (Raw n) h = refl

not_raw_form : (form : Form) → not (raw_form form) ≡ true → is_raw form ≡ false
not_raw_form Quoted h = refl
not_raw_form Single h = refl
not_raw_form (Raw n) h = impossible h

is_quoted_form : (form : Form) → quoted_form form ≡ true → form ≡ Quoted
is_quoted_form Quoted h = refl
is_quoted_form Single h = impossible h
is_quoted_form (Raw n) h = impossible h

-- a first character that is no 0 is there
there : (cs : Chars) (c : ℕ) → (first cs == c) ≡ true → c ≢ 0 → (rest : Chars) × (cs ≡ c ∷ rest)
there [] c h some = absurd (some (sym (eqb-true 0 c h)))
there (d ∷ rest) c h some = (rest, ap (λ x. x ∷ rest) (eqb-true d c h))

simple_split : (byte : Bool) (form : Form) (c : ℕ) (left : Chars) (v : ℕ) → is_raw form ≡ false → Simple c v → Split byte form (92 ∷ c ∷ left) (record { len = 2; value = Some v })
simple_split byte form c left v h s = record { u = 92 ∷ c ∷ []; left = left; parts = refl; len = refl; some = omega arith; is_unit = simple c v h refl s refl }

-- the escapes of one character
simple_one : (c : ℕ) (v : ℕ) → simple_at c ≡ Some v → Simple c v
simple_one c v =
    pick P (c == 110) _ _ (λ h e. newline (eqb-true c 110 h) (sym (some_same e)))
    (λ _. pick P (c == 114) _ _ (λ h e. return (eqb-true c 114 h) (sym (some_same e)))
    (λ _. pick P (c == 116) _ _ (λ h e. tab (eqb-true c 116 h) (sym (some_same e)))
    (λ _. pick P (c == 48) _ _ (λ h e. null (eqb-true c 48 h) (sym (some_same e)))
    (λ _. pick P (c == 92 || c == 39 || c == 34) _ _ (λ h e. self c v h (some_same e)) (λ _ e. absurd (none_some e))))))
  where
    P : Option ℕ → Type 0
    P o = o ≡ Some v → Simple c v

    self : (c v : ℕ) → (c == 92 || c == 39 || c == 34) ≡ true → c ≡ v → Simple c v
    self c v h e = elim (or_cases (c == 92 || c == 39) (c == 34) h) [
      | inl h ↦ elim (or_cases (c == 92) (c == 39) h) [
        | inl a ↦ backslash (eqb-true c 92 a) (sym e ∙ eqb-true c 92 a)
        | inr a ↦ quote (eqb-true c 39 a) (sym e ∙ eqb-true c 39 a)
      ]
      | inr a ↦ double (eqb-true c 34 a) (sym e ∙ eqb-true c 34 a)
    ]

code_split : (byte : Bool) (form : Form) (cs : Chars) → is_raw form ≡ false → (first cs == 120) ≡ true → Splits byte form (92 ∷ cs) (code_at byte (get_or cs 1 0) (get_or cs 2 0))
code_split byte form [] h x = impossible x
code_split byte form (c ∷ []) h x = splits_none byte form (92 ∷ c ∷ [])
code_split byte form (c ∷ a ∷ []) h x =
    pick (Splits byte form (92 ∷ c ∷ a ∷ [])) (is_ascii_hexdigit a && is_ascii_hexdigit 0 && (byte || nat_lt (digit_value a) 8)) _ _
    (λ t. absurd (both_ways _ (no_hex (is_ascii_hexdigit a) (byte || nat_lt (digit_value a) 8)) t)) (λ _. splits_none byte form (92 ∷ c ∷ a ∷ []))
  where
    no_hex : (a b : Bool) → (a && is_ascii_hexdigit 0 && b) ≡ false
    no_hex true b = refl
    no_hex false b = refl
code_split byte form (c ∷ a ∷ b ∷ left) h x =
    pick (Splits byte form (92 ∷ c ∷ a ∷ b ∷ left)) (is_ascii_hexdigit a && is_ascii_hexdigit b && (byte || nat_lt (digit_value a) 8)) _ _
    (λ t. splits_some byte form (92 ∷ c ∷ a ∷ b ∷ left) _
    (record { u = 92 ∷ c ∷ a ∷ b ∷ []; left = left; parts = refl; len = refl; some = omega arith; is_unit = code a b h (ap (λ x. 92 ∷ x ∷ a ∷ b ∷ []) (eqb-true c 120 x)) (three (is_ascii_hexdigit a) (is_ascii_hexdigit b) (byte || nat_lt (digit_value a) 8) t) refl }))
    (λ _. splits_none byte form (92 ∷ c ∷ a ∷ b ∷ left))
  where
    three : (a b c : Bool) → (a && b && c) ≡ true → (a ≡ true) × (b ≡ true) × (c ≡ true)
    three true true c t = (refl, refl, t)
    three true false c t = impossible t
    three false b c t = impossible t

scalar_of : (v : ℕ) → (nat_lt v 0xD800 || (nat_le 0xE000 v && nat_lt v 0x11_0000)) ≡ true → IsScalar v
scalar_of v h = by_test _ (nat_lt v 0xD800) (λ t. rw t) (λ t. rw t (rw t at h))

record Unicode (cs : Chars) (unit : Part) : Type 0 where
  part : Chars
  left : Chars
  code : ℕ
  parts : cs ≡ part ++ 125 ∷ left
  is_code : IsCode part code
  unit_is : unit ≡ record { len = length part + 4; value = Some code }

-- a value in braces
braced : (part left : Chars) (o : Option ℕ) → list_all is_code_part part ≡ true → starts is_ascii_hexdigit part ≡ true → length (digits_of part) ≤ 6 → value_from 16 false 0 part ≡ o
    → (unit : Part) → scalar_unit (length part + 4) o ≡ Some unit → Unicode (part ++ 125 ∷ left) unit
braced part left None all hex few value unit e = absurd (no_part e)
braced part left (Some v) all hex few value unit given =
    pick (λ (o : Option Part). o ≡ Some unit → Unicode (part ++ 125 ∷ left) unit) (nat_lt v 0xD800 || (nat_le 0xE000 v && nat_lt v 0x11_0000)) (unit_of (length part + 4) v) None
    (λ t e. record { part = part; left = left; code = v; parts = refl; is_code = record { first = hex; digits = all; few = few; says = (value_has 16 part v value).says; scalar = scalar_of v t }; unit_is = sym (same_part e) })
    (λ _ e. absurd (no_part e)) given

hex_start : (part rest : Chars) → (first (part ++ rest) == 125) ≡ false → is_ascii_hexdigit (first (part ++ rest)) ≡ true → get_or (part ++ rest) (length part) 0 ≡ 125 → starts is_ascii_hexdigit part ≡ true
hex_start [] rest n h e = absurd (both_ways _ n (subst (λ c. (c == 125) ≡ true) (sym (first_is rest e)) refl))
  where
    first_is : (rest : Chars) → get_or rest 0 0 ≡ 125 → first rest ≡ 125
    first_is rest e = e
hex_start (c ∷ part) rest n h e = h

unicode_split : (cs : Chars) (unit : Part) → unicode_at cs ≡ Some unit → Unicode cs unit
unicode_split cs unit =
    let p = passed code_part cs in
    let n : ℕ = prefix_len code_part cs in
    pick (λ (o : Option Part). o ≡ Some unit → Unicode cs unit) (get_or cs n 0 == 125 && is_ascii_hexdigit (first cs) && nat_le (count_by is_ascii_hexdigit (take n cs)) 6)
    (scalar_unit (n + 4) (value_from 16 false 0 (take n cs))) None
    (λ t e. let a = and_parts (get_or cs n 0 == 125 && is_ascii_hexdigit (first cs)) (nat_le (count_by is_ascii_hexdigit (take n cs)) 6) t in
    let b = and_parts (get_or cs n 0 == 125) (is_ascii_hexdigit (first cs)) a.0 in
    whole p.front p.rest p.parts p.len p.all (eqb-true _ 125 b.0) b.1 a.1 e)
    (λ _ e. absurd (no_part e))
  where
    rest_is : (front rest : Chars) → get_or (front ++ rest) (length front) 0 ≡ 125 → (left : Chars) × (rest ≡ 125 ∷ left)
    rest_is [] [] e = absurd (omega (arith, e))
    rest_is [] (c ∷ rest) e = (rest, ap (λ c. c ∷ rest) e)
    rest_is (c ∷ front) rest e = rest_is front rest e

    whole : (front rest : Chars) → cs ≡ front ++ rest → prefix_len code_part cs ≡ length front → list_all code_part front ≡ true
        → get_or cs (prefix_len code_part cs) 0 ≡ 125 → is_ascii_hexdigit (first cs) ≡ true → nat_le (count_by is_ascii_hexdigit (take (prefix_len code_part cs) cs)) 6 ≡ true
        → scalar_unit (prefix_len code_part cs + 4) (value_from 16 false 0 (take (prefix_len code_part cs) cs)) ≡ Some unit → Unicode cs unit
    whole front rest parts len all brace hex few e =
        let index : get_or (front ++ rest) (length front) 0 ≡ 125 = subst (λ n. get_or (front ++ rest) n 0 ≡ 125) len (subst (λ xs. get_or xs (prefix_len code_part cs) 0 ≡ 125) parts brace) in
        let (left, r) = rest_is front rest index in
        let taken : take (prefix_len code_part cs) cs ≡ front = ap (λ n. take n cs) len ∙ ap (take (length front)) parts ∙ take_front front rest in
        let is_hex : is_ascii_hexdigit (first (front ++ rest)) ≡ true = subst (λ xs. is_ascii_hexdigit (first xs) ≡ true) parts hex in
        let no_brace : (first (front ++ rest) == 125) ≡ false = not_brace (first (front ++ rest)) is_hex in
        let start = hex_start front rest no_brace is_hex index in
        let count : length (digits_of front) ≤ 6 = small (length (digits_of front)) (subst (λ k. nat_le k 6 ≡ true) (ap (count_by is_ascii_hexdigit) taken ∙ hex_count front all) few) in
        let given : scalar_unit (length front + 4) (value_from 16 false 0 front) ≡ Some unit = ap (λ n. scalar_unit (n + 4) (value_from 16 false 0 front)) (sym len) ∙ ap (λ xs. scalar_unit (prefix_len code_part cs + 4) (value_from 16 false 0 xs)) (sym taken) ∙ e in
        let u = braced front left (value_from 16 false 0 front) all start count refl unit given in
        subst (λ xs. Unicode xs unit) (ap (λ xs. front ++ xs) (sym r) ∙ sym parts) u
      where
        not_brace : (c : ℕ) → is_ascii_hexdigit c ≡ true → (c == 125) ≡ false
        not_brace c h = grind (arith, nat_tests)

        small : (n : ℕ) → nat_le n 6 ≡ true → n ≤ 6
        small n h = grind (arith, nat_tests)

unicode_cut : (byte : Bool) (form : Form) (cs : Chars) → is_raw form ≡ false → (first cs == 117 && get_or cs 1 0 == 123 && not byte) ≡ true → Splits byte form (92 ∷ cs) (unicode_at (drop 2 cs))
unicode_cut byte form cs h t unit e =
    let a = and_parts (first cs == 117 && get_or cs 1 0 == 123) (not byte) t in
    let b = and_parts (first cs == 117) (get_or cs 1 0 == 123) a.0 in
    whole cs (unicode_split (drop 2 cs) unit e) b.0 b.1 a.1
  where
    whole : (cs : Chars) → Unicode (drop 2 cs) unit → (first cs == 117) ≡ true → (get_or cs 1 0 == 123) ≡ true → not byte ≡ true → Split byte form (92 ∷ cs) unit
    whole [] u x y z = impossible x
    whole (c ∷ []) u x y z = impossible y
    whole (c ∷ d ∷ cs) u x y z =
        let len = length-append u.part (125 ∷ []) in
        let is : unit ≡ record { len = length u.part + 4; value = Some u.code } = u.unit_is in
        subst (λ r. Split byte form (92 ∷ c ∷ d ∷ cs) r) (sym is) (record {
          u = 92 ∷ 117 ∷ 123 ∷ (u.part ++ 125 ∷ []);
          left = u.left;
          parts = ap (λ c. 92 ∷ c ∷ d ∷ cs) (eqb-true c 117 x) ∙ ap (λ d. 92 ∷ 117 ∷ d ∷ cs) (eqb-true d 123 y)
              ∙ ap (λ cs. 92 ∷ 117 ∷ 123 ∷ cs) (u.parts ∙ sym (append_assoc u.part (125 ∷ []) u.left));
          len = omega (arith, len);
          some = omega arith;
          is_unit = unicode u.part u.code h (not_true byte z) refl u.is_code refl;
        })

skip_split : (byte : Bool) (cs : Chars) → is_line_end cs ≡ true → Split byte Quoted (92 ∷ cs) (record { len = 1 + prefix_len skipped cs; value = None })
skip_split byte [] t = impossible t
skip_split byte (c ∷ cs) t =
    elim (or_cases (c == 10) (c == 13 && get_or (c ∷ cs) 1 0 == 10) t) [
      | inl a ↦ lf cs (eqb-true c 10 a)
      | inr a ↦ let b = and_parts (c == 13) (get_or (c ∷ cs) 1 0 == 10) a in crlf cs (eqb-true c 13 b.0) b.1
    ]
  where
    lf : (cs : Chars) → c ≡ 10 → Split byte Quoted (92 ∷ c ∷ cs) (record { len = 1 + prefix_len skipped (c ∷ cs); value = None })
    lf cs e =
        let p = passed skipped cs in
        let n = p.len in
        rw e (record {
          u = 92 ∷ 10 ∷ p.front;
          left = p.rest;
          parts = ap (λ cs. 92 ∷ 10 ∷ cs) p.parts;
          len = omega (arith, n);
          some = omega arith;
          is_unit = skip (10 ∷ []) p.front refl refl (inl refl) p.all p.ends refl;
        })

    crlf : (cs : Chars) → c ≡ 13 → (get_or cs 0 0 == 10) ≡ true → Split byte Quoted (92 ∷ c ∷ cs) (record { len = 1 + prefix_len skipped (c ∷ cs); value = None })
    crlf [] e h = impossible h
    crlf (d ∷ cs) e h =
        let p = passed skipped cs in
        let n = p.len in
        let f = eqb-true d 10 h in
        rw (e, f) (record {
          u = 92 ∷ 13 ∷ 10 ∷ p.front;
          left = p.rest;
          parts = ap (λ cs. 92 ∷ 13 ∷ 10 ∷ cs) p.parts;
          len = omega (arith, n);
          some = omega arith;
          is_unit = skip (13 ∷ 10 ∷ []) p.front refl refl (inr refl) p.all p.ends refl;
        })

other_split : (byte : Bool) (form : Form) (cs : Chars) → is_raw form ≡ false → Splits byte form (92 ∷ cs) (other_escape byte form cs)
other_split byte form cs h =
    pick (Splits byte form (92 ∷ cs)) (first cs == 120) _ _ (λ x. code_split byte form cs h x)
    (λ _. pick (Splits byte form (92 ∷ cs)) (first cs == 117 && get_or cs 1 0 == 123 && not byte) _ _ (λ t. unicode_cut byte form cs h t)
    (λ _. pick (Splits byte form (92 ∷ cs)) (quoted_form form && is_line_end cs) _ _
    (λ t. let a = and_parts (quoted_form form) (is_line_end cs) t in
    splits_some byte form (92 ∷ cs) _ (subst (λ form. Split byte form (92 ∷ cs) (record { len = 1 + prefix_len skipped cs; value = None })) (sym (is_quoted_form form a.0)) (skip_split byte cs a.1)))
    (λ _. splits_none byte form (92 ∷ cs))))

escape_split : (byte : Bool) (form : Form) (cs : Chars) → is_raw form ≡ false → Splits byte form (92 ∷ cs) (escape_at byte form cs)
escape_split byte form cs h = here cs (simple_at (first cs)) refl
  where
    here : (cs : Chars) (o : Option ℕ) → simple_at (first cs) ≡ o → Splits byte form (92 ∷ cs) (simple_or o (other_escape byte form cs))
    here cs None e = other_split byte form cs h
    here [] (Some v) e = absurd (none_some e)
    here (c ∷ cs) (Some v) e = splits_some byte form (92 ∷ c ∷ cs) _ (simple_split byte form c cs v h (simple_one c v e))

-- what is found is a unit
pub unit_split : (byte : Bool) (form : Form) (cs : Chars) (unit : Part) → unit_at byte form cs ≡ Some unit → Split byte form cs unit
unfolding unit_at
unit_split byte form [] unit e = absurd (no_part e)
unit_split byte form (c ∷ cs) unit given =
    pick (Splits byte form (c ∷ cs)) (c == 92 && not (raw_form form)) _ _
    (λ t. let a = and_parts (c == 92) (not (raw_form form)) t in
    subst (λ c. Splits byte form (c ∷ cs) (escape_at byte form cs)) (sym (eqb-true c 92 a.0)) (escape_split byte form cs (not_raw_form form a.1)))
    (λ _. pick (Splits byte form (c ∷ cs)) (c == 13) _ _
    (λ r. pick (Splits byte form (c ∷ cs)) (not (single_form form) && first cs == 10) _ _
    (λ t. let a = and_parts (not (single_form form)) (first cs == 10) t in
    splits_some byte form (c ∷ cs) _ (line_split cs (eqb-true c 13 r) a.1 (lines_single form a.0)))
    (λ _. splits_none byte form (c ∷ cs)))
    (λ _. pick (Splits byte form (c ∷ cs)) (stands form c && (not byte || nat_lt c 128)) _ _
    (λ t. let a = and_parts (stands form c) (not byte || nat_lt c 128) t in
    splits_some byte form (c ∷ cs) _ (record { u = c ∷ []; left = cs; parts = refl; len = refl; some = omega arith; is_unit = plain c refl (is_plain_stands form c a.0) a.1 refl }))
    (λ _. splits_none byte form (c ∷ cs)))) unit given
  where
    line_split : (cs : Chars) → c ≡ 13 → (first cs == 10) ≡ true → has_lines form ≡ true → Split byte form (c ∷ cs) (record { len = 2; value = Some 10 })
    line_split [] e f h = impossible f
    line_split (d ∷ cs) e f h =
        let g = eqb-true d 10 f in
        rw (e, g) (record { u = 13 ∷ 10 ∷ []; left = cs; parts = refl; len = refl; some = omega arith; is_unit = line h refl refl })

-- no unit begins exactly where none is found
pub no_unit : (byte : Bool) (form : Form) (cs : Chars) → unit_at byte form cs ≡ None → NoUnit byte form cs
no_unit byte form cs none u v left parts unit =
    let f = unit_found byte form u v left unit in
    absurd (no_part (sym none ∙ ap (unit_at byte form) parts ∙ f.is))

pub unit_none : (byte : Bool) (form : Form) (cs : Chars) → NoUnit byte form cs → unit_at byte form cs ≡ None
unit_none byte form cs none = here (unit_at byte form cs) refl
  where
    here : (o : Option Part) → unit_at byte form cs ≡ o → o ≡ None
    here None e = refl
    here (Some unit) e = let s = unit_split byte form cs unit e in absurd (none s.u (listed unit.value) s.left s.parts s.is_unit)
