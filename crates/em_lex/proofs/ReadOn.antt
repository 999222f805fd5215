-- The reading of a body, a unit further.
use Rattle.std.proofs.Common.{◌≡◌, ℕ, suc, ◌+◌, ◌*◌, ◌<◌, ◌≤◌, Bool, true, [], ◌∷◌, ◌++◌, length, drop, Option, Some, None, refl, sym, ap, ◌∙◌, subst, arith, append-nil, length-append, length-drop}
use Rattle.std.specs.Prelude.{All, IfSome, not, ◌||◌, nat_lt}
use Rattle.std.proofs.lemmas.List.Elements.{All-cons}
use Rattle.std.proofs.lemmas.Bool.Decides.{nat_tests}
use Rattle.std.specs.Char.{digit_value, is_ascii_hexdigit}
use Rattle.em_lex.specs.declared.piece.Form.{Form}
use Rattle.em_lex.specs.declared.piece.Unit.{Unit as Part}
use Rattle.em_lex.specs.Characters.{Chars}
use Rattle.em_lex.specs.Literals.{Simple, newline, return, tab, backslash, null, quote, double, IsUnit, plain, line, simple, code, unicode, skip, Units, none, more}
use Rattle.em_lex.specs.Scan.{unit_at, Reading, ahead, listed, read}
use Rattle.em_lex.proofs.Base.{impossible}
use Rattle.em_lex.proofs.Indices.{ahead_ahead, read-bad, read-goes, read-end}
use Rattle.em_lex.proofs.UnitLemmas.{unit_split}
use Rattle.em_lex.proofs.BodyLemmas.{BodyIs, whole, stops, body_is}

pub record Further (byte : Bool) (form : Form) (cs : Chars) (at : ℕ) (value : Chars) (r : Reading) (len : ℕ) : Type 0 where
  pub goes : ahead (at + len) value (read byte form 0 (drop (at + len) cs)) ≡ r
  pub within : at + len ≤ length cs
  pub some : 1 ≤ len

pub reading_more : (byte : Bool) (form : Form) (cs : Chars) (at : ℕ) (value new : Chars) (r : Reading) (unit : Part) → at < length cs → unit_at byte form (drop at cs) ≡ Some unit
    → ahead at value (read byte form 0 (drop at cs)) ≡ r → new ≡ value ++ listed unit.value → Further byte form cs at new r unit.len
reading_more byte form cs at value new r unit h is far pushed =
    let s = unit_split byte form (drop at cs) unit is in
    let whole_len = ap (λ xs. length xs) s.parts ∙ length-append s.u s.left in
    let dropped = length-drop at cs in
    let fits : at + unit.len ≤ length cs = omega (arith, whole_len, dropped, s.len, h) in
    let goes = read-goes byte form cs at unit h is s.some fits in
    record {
      goes = sym (ahead_ahead at unit.len (at + unit.len) value (listed unit.value) (read byte form 0 (drop (at + unit.len) cs)) refl ∙ ap (λ v. ahead (at + unit.len) v (read byte form 0 (drop (at + unit.len) cs))) (sym pushed))
          ∙ ap (ahead at value) (sym goes) ∙ far;
      within = fits;
      some = s.some;
    }

pub record Ends (r : Reading) (bad : Option ℕ) (value : Chars) : Type 0 where
  pub bad_is : bad ≡ r.bad
  pub value_is : value ≡ r.value

pub reading_bad : (byte : Bool) (form : Form) (cs : Chars) (at : ℕ) (value : Chars) (r : Reading) → at < length cs → unit_at byte form (drop at cs) ≡ None → ahead at value (read byte form 0 (drop at cs)) ≡ r → Ends r (Some at) value
reading_bad byte form cs at value r h is far =
    let b = read-bad byte form cs at h is in
    let e = ap (ahead at value) (sym b) ∙ far in
    record { bad_is = ap (λ n. Some n) (let z : at ≡ at + 0 = omega arith in z) ∙ ap (λ r. r.bad) e; value_is = sym (append-nil value) ∙ ap (λ r. r.value) e }

pub reading_end : (byte : Bool) (form : Form) (cs : Chars) (at : ℕ) (value : Chars) (r : Reading) → length cs ≤ at → ahead at value (read byte form 0 (drop at cs)) ≡ r → Ends r None value
reading_end byte form cs at value r h far =
    let b = read-end byte form cs at h in
    let e = ap (ahead at value) (sym b) ∙ far in
    record { bad_is = ap (λ r. r.bad) e; value_is = sym (append-nil value) ∙ ap (λ r. r.value) e }

-- a unit is not empty, and ends in the text
pub unit_within : (byte : Bool) (form : Form) (cs : Chars) (o : Option Part) → o ≡ unit_at byte form cs → IfSome o (λ u. (1 ≤ u.len) × (u.len ≤ length cs))
unit_within byte form cs None e = tt
unit_within byte form cs (Some unit) e =
    let s = unit_split byte form cs unit (sym e) in
    let l = ap (λ xs. length xs) s.parts ∙ length-append s.u s.left in
    (s.some, omega (arith, l, s.len))

-- ---- literals of bytes denote bytes

small : (v : Chars) → Type 0
small v = All (λ c. c < 256) v

one_small : (c : ℕ) → c < 256 → All (λ c. c < 256) (c ∷ [])
one_small c h = All-cons (λ c. c < 256) c [] h (λ k d l. absurd (omega (arith, l)))

none_small : All (λ c. c < 256) []
none_small k d l = absurd (omega (arith, l))

append_small : (v w : Chars) → All (λ c. c < 256) v → All (λ c. c < 256) w → All (λ c. c < 256) (v ++ w)
append_small [] w h k = k
append_small (c ∷ v) w h k = All-cons (λ c. c < 256) c (v ++ w) (h 0 c (omega arith)) (append_small v w (λ i d l. h (suc i) d (omega (arith, l))) k)

simple_small : (c v : ℕ) → Simple c v → v < 256
simple_small c v (newline h k) = rw k (omega arith)
simple_small c v (return h k) = rw k (omega arith)
simple_small c v (tab h k) = rw k (omega arith)
simple_small c v (backslash h k) = rw k (omega arith)
simple_small c v (null h k) = rw k (omega arith)
simple_small c v (quote h k) = rw k (omega arith)
simple_small c v (double h k) = rw k (omega arith)

hex_small : (c : ℕ) → is_ascii_hexdigit c ≡ true → digit_value c < 16
hex_small c h = grind (arith, nat_tests)

ascii_small : (c : ℕ) → (not true || nat_lt c 128) ≡ true → c < 256
ascii_small c h = grind (arith, nat_tests)

unit_small : (form : Form) (u v left : Chars) → IsUnit true form u v left → All (λ c. c < 256) v
unit_small form u v left (plain c e h k w) = rw w (one_small c (ascii_small c k))
unit_small form u v left (line h e w) = rw w (one_small 10 (omega arith))
unit_small form u v left (simple c d h e s w) = rw w (one_small d (simple_small c d s))
unit_small form u v left (code a b h e (ha, hb, low) w) = rw w (one_small (digit_value a * 16 + digit_value b) (let x = hex_small a ha in let y = hex_small b hb in omega (arith, x, y)))
unit_small form u v left (unicode part d h b e s w) = impossible (sym b)
unit_small form u v left (skip end blanks f e l a s w) = rw w none_small

units_small : (byte : Bool) (form : Form) (body value left : Chars) → byte ≡ true → Units byte form body value left → All (λ c. c < 256) value
units_small byte form body value left b (none e w) = rw w none_small
units_small byte form body value left b (more u v cs vs e w is us) =
    rw w (append_small v vs (unit_small form u v (cs ++ left) (subst (λ byte. IsUnit byte form u v (cs ++ left)) b is)) (units_small byte form cs vs left b us))

pub read_small : (byte : Bool) (form : Form) (body : Chars) → byte ≡ true → All (λ c. c < 256) (read byte form 0 body).value
read_small byte form body b = here (body_is byte form body)
  where
    here : BodyIs byte form body (read byte form 0 body) → All (λ c. c < 256) (read byte form 0 body).value
    here (whole n us) = units_small byte form body _ [] b us
    here (stops good bad c e n us free) = units_small byte form good _ (c ∷ bad) b us
