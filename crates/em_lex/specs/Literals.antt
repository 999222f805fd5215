-- Literals of characters and strings, and of bytes (Reference, "Character and string literals" and "Byte and byte
-- string literals").
use Rattle.std.specs.Prelude.{◌≡◌, ◌≤◌, ◌⊎◌, ℕ, zero, suc, ◌+◌, ◌*◌, Bool, true, false, not, ◌||◌, ◌==◌, nat_lt, if◌then◌else◌, [], ◌∷◌, ◌++◌, length, filter}
use Rattle.std.specs.List.{list_all}
use Rattle.std.specs.Char.{is_ascii_hexdigit, digit_value, IsScalar}
use Rattle.std.specs.Str.Parse.{digits_value}
use Rattle.em_lex.specs.declared.piece.Form.{Form}
use Rattle.em_lex.specs.declared.piece.Form.TheVariants.{Quoted, Single, Raw}
use Rattle.em_lex.specs.Characters.{Chars, starts, not_underscore}

-- so many `#`, in this profile any number (the Reference has at most 255)
abbrev pub hashes : ℕ → Chars
hashes zero = []
hashes (suc n) = 35 ∷ hashes n

-- `b` before a literal of bytes
abbrev pub lead : Bool → Chars
lead byte = if byte then 98 ∷ [] else []

abbrev pub mark : Form → Chars
mark Quoted = 34 ∷ []
mark Single = 39 ∷ []
mark (Raw n) = 114 ∷ (hashes n ++ 34 ∷ [])

-- what stands before the body, and behind it
abbrev pub opening : Bool → Form → Chars
opening byte form = lead byte ++ mark form

abbrev pub closing : Form → Chars
closing Quoted = 34 ∷ []
closing Single = 39 ∷ []
closing (Raw n) = 34 ∷ hashes n

abbrev pub is_raw : Form → Bool
is_raw Quoted = false
is_raw Single = false
is_raw (Raw n) = true

-- a character that stands for itself in a literal of characters: neither the quote, nor a backslash, nor CR; between `'`
-- neither LF nor TAB
abbrev pub is_plain : Form → ℕ → Bool
is_plain Quoted c = not (c == 34 || c == 92 || c == 13)
is_plain Single c = not (c == 39 || c == 92 || c == 10 || c == 13 || c == 9)
is_plain (Raw n) c = not (c == 13)

-- a literal of bytes has ASCII characters alone
abbrev pub fits : Bool → ℕ → Bool
fits byte c = not byte || nat_lt c 128

-- CR LF is a line break, except between `'`
abbrev pub has_lines : Form → Bool
has_lines Quoted = true
has_lines Single = false
has_lines (Raw n) = true

-- a character behind a backslash, and what the two denote
pub data Simple (c value : ℕ) : Type 0 where
  newline : c ≡ 110 → value ≡ 10 → Simple c value
  return : c ≡ 114 → value ≡ 13 → Simple c value
  tab : c ≡ 116 → value ≡ 9 → Simple c value
  backslash : c ≡ 92 → value ≡ 92 → Simple c value
  null : c ≡ 48 → value ≡ 0 → Simple c value
  quote : c ≡ 39 → value ≡ 39 → Simple c value
  double : c ≡ 34 → value ≡ 34 → Simple c value

-- two hexadecimal digits: at most 7F outside of bytes
abbrev pub IsByteCode : Bool → ℕ → ℕ → Type 0
IsByteCode byte a b = (is_ascii_hexdigit a ≡ true) × (is_ascii_hexdigit b ≡ true) × ((byte || nat_lt (digit_value a) 8) ≡ true)

-- a digit, or a `_`
abbrev pub is_code_part : ℕ → Bool
is_code_part c = is_ascii_hexdigit c || c == 95

abbrev pub digits_of : Chars → Chars
digits_of part = filter not_underscore part

-- between the braces of `\u{..}`: one to six hexadecimal digits, where `_` may follow the first one, of a scalar value
pub record IsCode (part : Chars) (value : ℕ) : Type 0 where
  pub first : starts is_ascii_hexdigit part ≡ true
  pub digits : list_all is_code_part part ≡ true
  pub few : length (digits_of part) ≤ 6
  pub says : value ≡ digits_value 16 (digits_of part)
  pub scalar : IsScalar value

-- what a `\` before a line's end skips
abbrev pub is_skipped : ℕ → Bool
is_skipped c = c == 32 || c == 9 || c == 10 || c == 13

-- LF or CR LF
abbrev pub IsLineEnd : Chars → Type 0
IsLineEnd cs = (cs ≡ 10 ∷ []) ⊎ (cs ≡ 13 ∷ 10 ∷ [])

-- one piece of a literal's body, the characters that it denotes, and what is left of the body behind it
pub data IsUnit (byte : Bool) (form : Form) (u value left : Chars) : Type 0 where
  plain : (c : ℕ) → u ≡ c ∷ [] → is_plain form c ≡ true → fits byte c ≡ true → value ≡ c ∷ [] → IsUnit byte form u value left
  line : has_lines form ≡ true → u ≡ 13 ∷ 10 ∷ [] → value ≡ 10 ∷ [] → IsUnit byte form u value left
  simple : (c v : ℕ) → is_raw form ≡ false → u ≡ 92 ∷ c ∷ [] → Simple c v → value ≡ v ∷ [] → IsUnit byte form u value left
  code : (a b : ℕ) → is_raw form ≡ false → u ≡ 92 ∷ 120 ∷ a ∷ b ∷ [] → IsByteCode byte a b → value ≡ (digit_value a * 16 + digit_value b) ∷ [] → IsUnit byte form u value left
  unicode : (part : Chars) (v : ℕ) → is_raw form ≡ false → byte ≡ false → u ≡ 92 ∷ 117 ∷ 123 ∷ (part ++ 125 ∷ []) → IsCode part v → value ≡ v ∷ [] → IsUnit byte form u value left
  skip : (end blanks : Chars) → form ≡ Quoted → u ≡ 92 ∷ (end ++ blanks) → IsLineEnd end → list_all is_skipped blanks ≡ true → starts is_skipped left ≡ false → value ≡ [] → IsUnit byte form u value left

-- a body is a list of units, and denotes what these denote
pub data Units : Bool → Form → Chars → Chars → Chars → Type 0 where
  none : {byte : Bool} {form : Form} {body value left : Chars} → body ≡ [] → value ≡ [] → Units byte form body value left
  more : {byte : Bool} {form : Form} {body value left : Chars} (u v cs vs : Chars) → body ≡ u ++ cs → value ≡ v ++ vs → IsUnit byte form u v (cs ++ left)
      → Units byte form cs vs left → Units byte form body value left

-- the body of a literal between `"`, well formed or not: no `"` but behind a backslash, which takes one character with it
pub data Loose : Chars → Type 0 where
  none : {body : Chars} → body ≡ [] → Loose body
  plain : {body : Chars} (c : ℕ) (cs : Chars) → body ≡ c ∷ cs → (c == 34 || c == 92) ≡ false → Loose cs → Loose body
  pair : {body : Chars} (c : ℕ) (cs : Chars) → body ≡ 92 ∷ c ∷ cs → Loose cs → Loose body

-- no unit begins here
abbrev pub NoUnit : Bool → Form → Chars → Type 0
NoUnit byte form cs = (u value left : Chars) → cs ≡ u ++ left → IsUnit byte form u value left → ⊥

abbrev pub not_quote : ℕ → Bool
not_quote c = not (c == 39)

-- between `'`: one character, which may be one that a literal of this kind must not have; an escape; or a backslash with
-- which no escape begins, a character, and all up to the next `'`
pub data OneCharacter (byte : Bool) (body after : Chars) : Type 0 where
  plain : (c : ℕ) → body ≡ c ∷ [] → (c == 39 || c == 92 || c == 10 || c == 9) ≡ false → OneCharacter byte body after
  escape : (cs value : Chars) → body ≡ 92 ∷ cs → IsUnit byte Single body value (39 ∷ after) → OneCharacter byte body after
  broken : (c : ℕ) (cs : Chars) → body ≡ 92 ∷ c ∷ cs → list_all not_quote cs ≡ true → NoUnit byte Single (body ++ 39 ∷ after) → OneCharacter byte body after

-- no closing begins inside a raw body
abbrev pub ClosesFirst : ℕ → Chars → Type 0
ClosesFirst n body = (x y : Chars) → body ++ closing (Raw n) ≡ x ++ (closing (Raw n) ++ y) → length body ≤ length x

-- the body of a literal, well formed or not, before its closing and what is left
abbrev pub IsBody : Bool → Form → Chars → Chars → Type 0
IsBody byte Quoted body after = Loose body
IsBody byte Single body after = OneCharacter byte body after
IsBody byte (Raw n) body after = ClosesFirst n body

-- what follows a literal's opening is its body, the closing and what is left
pub record Closed (byte : Bool) (form : Form) (cs body after : Chars) : Type 0 where
  pub parts : cs ≡ body ++ (closing form ++ after)
  pub is_body : IsBody byte form body after

-- what a body denotes: what its units do, and between `'` what the one unit does that it is
abbrev pub Denotes : Bool → Form → Chars → Chars → Type 0
Denotes byte Quoted body value = Units byte Quoted body value []
Denotes byte Single body value = IsUnit byte Single body value []
Denotes byte (Raw n) body value = Units byte (Raw n) body value []

-- the spelling of a literal that denotes these characters
pub record IsLiteral (byte : Bool) (form : Form) (w value : Chars) : Type 0 where
  pub body : Chars
  pub parts : w ≡ opening byte form ++ (body ++ closing form)
  pub is_body : IsBody byte form body []
  pub denotes : Denotes byte form body value
