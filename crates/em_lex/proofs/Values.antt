-- The number that digits write.
use Rattle.std.proofs.Common.{◌≡◌, ℕ, zero, suc, ◌+◌, ◌*◌, ◌^◌, ◌<◌, ◌≤◌, Bool, true, false, ◌&&◌, ◌||◌, ◌==◌, nat_lt, [], ◌∷◌, length, filter, Option, Some, None, refl, sym, ap, ◌∙◌, subst, arith}
use Rattle.std.proofs.lemmas.Bool.{and_parts, ltb-true}
use Rattle.std.proofs.lemmas.Bool.Decides.{nat_tests}
use Rattle.std.specs.Char.{is_digit, digit_value}
use Rattle.std.specs.List.{list_all}
use Rattle.std.specs.Str.Parse.{digits_value_after}
use Rattle.em_lex.specs.Characters.{Chars, not_underscore}
use Rattle.em_lex.specs.Numbers.{HasValue}
use Rattle.em_lex.specs.Scan.{value_from, digit_after, and_then}
use Rattle.em_lex.proofs.Base.{impossible, by_test, both, pick}

abbrev pub digits : Chars → Chars
digits part = filter not_underscore part

abbrev pub all_digits : ℕ → Chars → Bool
all_digits base ds = list_all (λ c. is_digit c base) ds

abbrev pub some_after : Bool → Chars → Bool
some_after some ds = some || nat_lt 0 (length ds)

at_least : (base n : ℕ) (ds : Chars) → 1 ≤ base → n ≤ digits_value_after base n ds
at_least base n [] h = omega arith
at_least base n (c ∷ ds) h =
    let more = at_least base (n * base + digit_value c) ds h in
    let grows : n ≤ n * base = grows_by base n h in
    omega (arith, more, grows)
  where
    grows_by : (base n : ℕ) → 1 ≤ base → n ≤ n * base
    grows_by zero n h = absurd (omega (arith, h))
    grows_by (suc b) n h = grind arith

underscore : (c : ℕ) (part : Chars) → (c == 95) ≡ true → digits (c ∷ part) ≡ digits part
underscore c part h = rw h

other : (c : ℕ) (part : Chars) → (c == 95) ≡ false → digits (c ∷ part) ≡ c ∷ digits part
other c part h = rw h

small_digit : (base n : ℕ) (c : ℕ) → is_digit c base ≡ true → n * base + digit_value c < 2 ^ 64 → digit_after base n c ≡ Some (n * base + digit_value c)
small_digit base n c h k = let s : nat_lt (n * base + digit_value c) (2 ^ 64) ≡ true = grind arith in rw (h, s)

-- digits that fit are read
pub reads : (base : ℕ) (some : Bool) (n : ℕ) (part : Chars) → 1 ≤ base → all_digits base (digits part) ≡ true → digits_value_after base n (digits part) < 2 ^ 64 → some_after some (digits part) ≡ true
    → value_from base some n part ≡ Some (digits_value_after base n (digits part))
unfolding value_from
reads base true n [] h a s k = refl
reads base false n [] h a s k = impossible k
reads base some n (c ∷ part) h a s k =
    by_test _ (c == 95)
    (λ u. let same = underscore c part u in
    rw (u) (reads base some n part h (subst (λ ds. all_digits base ds ≡ true) same a) (subst (λ ds. digits_value_after base n ds < 2 ^ 64) same s) (subst (λ ds. some_after some ds ≡ true) same k)))
    (λ u. let same = other c part u in
    let parts = and_parts (is_digit c base) (all_digits base (digits part)) (subst (λ ds. all_digits base ds ≡ true) same a) in
    let fits : digits_value_after base (n * base + digit_value c) (digits part) < 2 ^ 64 = subst (λ ds. digits_value_after base n ds < 2 ^ 64) same s in
    let low = at_least base (n * base + digit_value c) (digits part) h in
    let here = small_digit base n c parts.0 (omega (arith, fits, low)) in
    rw (u, here) (reads base true (n * base + digit_value c) part h parts.1 fits refl))

pub record Read (base : ℕ) (some : Bool) (n : ℕ) (part : Chars) (v : ℕ) : Type 0 where
  pub all : all_digits base (digits part) ≡ true
  pub says : v ≡ digits_value_after base n (digits part)
  pub some_is : some_after some (digits part) ≡ true
  pub small : n < 2 ^ 64 → v < 2 ^ 64

pub some_same : {a b : ℕ} → Some a ≡ Some b → a ≡ b
some_same e = cc

pub none_some : {m : ℕ} → ◌≡◌ {A = Option ℕ} None (Some m) → ⊥
none_some e = cc

record Digit (base n c m : ℕ) : Type 0 where
  is : is_digit c base ≡ true
  says : m ≡ n * base + digit_value c
  small : m < 2 ^ 64

digit_found : (base n c m : ℕ) → digit_after base n c ≡ Some m → Digit base n c m
digit_found base n c m =
    pick (λ (o : Option ℕ). o ≡ Some m → Digit base n c m) (is_digit c base && nat_lt (n * base + digit_value c) (2 ^ 64)) (Some (n * base + digit_value c)) None
    (λ t e. let parts = and_parts (is_digit c base) (nat_lt (n * base + digit_value c) (2 ^ 64)) t in
    let same : n * base + digit_value c ≡ m = some_same e in
    record { is = parts.0; says = sym same; small = subst (λ x. x < 2 ^ 64) same (ltb-true _ _ parts.1) })
    (λ t e. absurd (none_some e))

and_then_some : (o : Option ℕ) (f : ℕ → Option ℕ) (v : ℕ) → and_then o f ≡ Some v → (m : ℕ) × (o ≡ Some m) × (f m ≡ Some v)
and_then_some None f v e = absurd (none_some e)
and_then_some (Some m) f v e = (m, refl, e)

-- what is read are digits that fit
pub found : (base : ℕ) (some : Bool) (n : ℕ) (part : Chars) (v : ℕ) → value_from base some n part ≡ Some v → Read base some n part v
unfolding value_from
found base true n [] v e = let same : n ≡ v = some_same e in record { all = refl; says = sym same; some_is = refl; small = λ h. subst (λ x. x < 2 ^ 64) same h }
found base false n [] v e = absurd (none_some e)
found base some n (c ∷ part) v given =
    pick (λ (o : Option ℕ). o ≡ Some v → Read base some n (c ∷ part) v) (c == 95) (value_from base some n part) (and_then (digit_after base n c) (λ m. value_from base true m part))
    (λ u e. let r = found base some n part v e in let same = underscore c part u in
    record { all = subst (λ ds. all_digits base ds ≡ true) (sym same) r.all; says = r.says ∙ ap (digits_value_after base n) (sym same); some_is = subst (λ ds. some_after some ds ≡ true) (sym same) r.some_is; small = r.small })
    (λ u e. let (m, is, more) = and_then_some (digit_after base n c) (λ m. value_from base true m part) v e in
    let d = digit_found base n c m is in
    let r = found base true m part v more in
    let same = other c part u in
    record {
      all = subst (λ ds. all_digits base ds ≡ true) (sym same) (both (is_digit c base) _ d.is r.all);
      says = r.says ∙ ap (λ m. digits_value_after base m (digits part)) d.says ∙ ap (digits_value_after base n) (sym same);
      some_is = subst (λ ds. some_after some ds ≡ true) (sym same) (some_more some c (digits part));
      small = λ h. r.small d.small;
    }) given
  where
    some_more : (some : Bool) (c : ℕ) (ds : Chars) → some_after some (c ∷ ds) ≡ true
    some_more true c ds = refl
    some_more false c ds = grind (arith, nat_tests)

-- digits have a value exactly where one is read
pub has_value : (base : ℕ) (part : Chars) (v : ℕ) → 1 ≤ base → HasValue base part v → value_from base false 0 part ≡ Some v
has_value base part v h has =
    reads base false 0 part h has.good (subst (λ v. v < 2 ^ 64) has.says has.small) (grind (arith, nat_tests, has.some)) ∙ ap (λ v. Some v) (sym has.says)

pub value_has : (base : ℕ) (part : Chars) (v : ℕ) → value_from base false 0 part ≡ Some v → HasValue base part v
value_has base part v e =
    let r = found base false 0 part v e in
    record { some = ltb-true 0 (length (digits part)) r.some_is; good = r.all; says = r.says; small = r.small (omega arith) }
