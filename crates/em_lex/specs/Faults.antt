-- What is wrong with a text at a place.
use Rattle.std.specs.Prelude.{◌≡◌, ◌<◌, ◌≤◌, ◌⊎◌, ℕ, ◌+◌, Bool, true, false, not, ◌&&◌, ◌||◌, ◌==◌, if◌then◌else◌, [], ◌∷◌, ◌++◌, length, codes}
use Rattle.std.specs.Char.{is_ascii_digit}
use Rattle.std.specs.List.{list_all, list_any}
use Rattle.std.specs.Str.{bytes_eq}
use Rattle.unicode_ident.specs.Ident.{is_xid_start, is_xid_continue}
use Rattle.em_base.specs.Names.{is_start, is_word, is_identifier}
use Rattle.em_base.specs.declared.edition.Edition.{Edition}
use Rattle.em_base.specs.declared.edition.Edition.TheVariants.{E2015, E2018, E2021}
use Rattle.em_lex.specs.declared.error.LexKind.{LexKind}
use Rattle.em_lex.specs.declared.error.LexKind.TheVariants.{NotUtf8, BadCharacter, Unclosed, ReservedPrefix, Float, BadNumber, LiteralSuffix, BadEscape, BadLifetime, BadRaw}
use Rattle.em_lex.specs.Characters.{Chars, is_blank, starts, name_of}
use Rattle.em_lex.specs.Trivia.{Within}
use Rattle.em_lex.specs.declared.piece.Form.{Form}
use Rattle.em_lex.specs.declared.piece.Form.TheVariants.{Quoted, Single, Raw}
use Rattle.em_lex.specs.Literals.{hashes, opening, Closed, Units, NoUnit}
use Rattle.em_lex.specs.Numbers.{base_of, Cut, HasValue, IsSuffix}
use Rattle.em_lex.specs.Spelling.{opening_delimiters, closing_delimiters, punctuation, is_never_raw}

-- some token of punctuation or delimiters begins with the character
abbrev pub is_mark : ℕ → Bool
is_mark c = list_any (starts (λ d. d == c)) (opening_delimiters ++ (closing_delimiters ++ punctuation))

-- a character with which no token begins, nor whitespace
abbrev pub begins_nothing : ℕ → Bool
begins_nothing c = not (is_blank c || is_start c || is_ascii_digit c || c == 34 || c == 39 || is_mark c)

-- the editions from 2021 on reserve prefixes
abbrev pub reserves : Edition → Bool
reserves E2015 = false
reserves E2018 = false
reserves E2021 = true

-- a word directly before this character is a reserved prefix (Reference, "Reserved prefixes"): before `"` unless it is
-- `b`, `r` or `br`, before `'` unless it is `b`, and before `#` unless it is `r` or `br`. The Reference also has `c` and
-- `cr`: this profile has no C strings
abbrev pub is_reserved : Chars → ℕ → Bool
is_reserved w c =
    (c == 34 && not (bytes_eq w (codes "b") || bytes_eq w (codes "r") || bytes_eq w (codes "br")))
    || (c == 39 && not (bytes_eq w (codes "b")))
    || (c == 35 && not (bytes_eq w (codes "r") || bytes_eq w (codes "br")))

-- a raw string begins with these characters, behind its `r`
abbrev pub BeginsRawString : Chars → Type 0
BeginsRawString cs = (n : ℕ) × (rest : Chars) × (cs ≡ hashes n ++ 34 ∷ rest)

-- a whole word stands in front, and it is the word of a raw identifier
abbrev pub BeginsRawWord : Chars → Type 0
BeginsRawWord cs =
    (w : Chars) × (left : Chars) × (cs ≡ w ++ left) × (starts is_xid_continue left ≡ false) × (is_identifier w ≡ true) × (is_never_raw (name_of w) ≡ false)

-- a whole number stands in front: all up to where a word with such characters ends
pub record NumberAt (text w left : Chars) : Type 0 where
  pub parts : text ≡ w ++ left
  pub digit : starts is_ascii_digit w ≡ true
  pub characters : list_all is_xid_continue w ≡ true
  pub ends : starts is_xid_continue left ≡ false

-- a `.` that no field, method or range follows
abbrev pub is_point : Chars → Bool
is_point [] = false
is_point (c ∷ cs) = c == 46 && not (starts (λ d. d == 46 || d == 95 || is_xid_start d) cs)

-- decimal digits are followed by an exponent, the suffix of a float, or a fraction
abbrev pub IsFloat : Chars → Chars → Type 0
IsFloat tail left =
    (starts (λ c. c == 101 || c == 69) tail ≡ true) ⊎ (tail ≡ codes "f32") ⊎ (tail ≡ codes "f64") ⊎ ((tail ≡ []) × (is_point left ≡ true))

-- what is wrong with a body where no unit begins
abbrev pub bad_unit : Form → ℕ → LexKind
bad_unit Quoted c = if c == 92 then BadEscape else BadCharacter
bad_unit Single c = if c == 92 then BadEscape else BadCharacter
bad_unit (Raw n) c = BadCharacter

-- a fault of the text that stands at its front, or, by its offset in characters, inside a literal that begins there;
-- the literal need not be well formed. A `#` directly behind a lifetime is a fault in each edition, since this profile
-- has no raw lifetimes; the Reference has it so from 2021 on
pub data Fault (edition : Edition) (dot : Bool) (text : Chars) (kind : LexKind) (at : ℕ) : Type 0 where
  unknown : (c : ℕ) (cs : Chars) → text ≡ c ∷ cs → begins_nothing c ≡ true → kind ≡ BadCharacter → at ≡ 0 → Fault edition dot text kind at
  comment : (cs : Chars) → text ≡ 47 ∷ 42 ∷ cs → ((left : Chars) → Within 0 cs left → ⊥) → kind ≡ Unclosed → at ≡ 0 → Fault edition dot text kind at
  prefix : (w : Chars) (c : ℕ) (cs : Chars) → text ≡ w ++ c ∷ cs → is_word w ≡ true → reserves edition ≡ true → is_reserved w c ≡ true → kind ≡ ReservedPrefix → at ≡ 0 → Fault edition dot text kind at
  hash_r : (cs : Chars) → text ≡ 114 ∷ 35 ∷ cs → (BeginsRawString (35 ∷ cs) → ⊥) → (BeginsRawWord cs → ⊥) → kind ≡ BadRaw → at ≡ 0 → Fault edition dot text kind at
  hash_br : (cs : Chars) → text ≡ 98 ∷ 114 ∷ 35 ∷ cs → (BeginsRawString (35 ∷ cs) → ⊥) → kind ≡ BadRaw → at ≡ 0 → Fault edition dot text kind at
  float : (w left part tail : Chars) → dot ≡ false → NumberAt text w left → base_of dot w ≡ 10 → Cut dot w part tail → IsFloat tail left → kind ≡ Float → at ≡ 0 → Fault edition dot text kind at
  number : (w left part tail : Chars) → NumberAt text w left → Cut dot w part tail → ((value : ℕ) → HasValue (base_of dot w) part value → ⊥) → kind ≡ BadNumber → at ≡ 0 → Fault edition dot text kind at
  number_suffix : (w left part tail : Chars) → NumberAt text w left → Cut dot w part tail → ((suffix : _) → IsSuffix dot tail suffix → ⊥) → kind ≡ LiteralSuffix → at ≡ 0 → Fault edition dot text kind at
  unclosed : (byte : Bool) (form : Form) (cs : Chars) → text ≡ opening byte form ++ cs → ((body after : Chars) → Closed byte form cs body after → ⊥)
      → (byte ≡ false → form ≡ Single → starts is_start cs ≡ false) → kind ≡ Unclosed → at ≡ 0 → Fault edition dot text kind at
  literal_suffix : (byte : Bool) (form : Form) (cs body after : Chars) → text ≡ opening byte form ++ cs → Closed byte form cs body after
      → starts is_start after ≡ true → kind ≡ LiteralSuffix → at ≡ 0 → Fault edition dot text kind at
  body : (byte : Bool) (form : Form) (cs body after : Chars) (good value bad : Chars) (c : ℕ) → text ≡ opening byte form ++ cs → Closed byte form cs body after
      → body ≡ good ++ c ∷ bad → Units byte form good value (c ∷ bad) → NoUnit byte form (c ∷ bad)
      → kind ≡ bad_unit form c → at ≡ length (opening byte form) + length good → Fault edition dot text kind at
  lifetime : (w : Chars) (c : ℕ) (cs : Chars) → text ≡ 39 ∷ (w ++ c ∷ cs) → is_word w ≡ true → (c == 39 || c == 35) ≡ true
      → ((body after : Chars) → Closed false Single (w ++ c ∷ cs) body after → ⊥) → kind ≡ BadLifetime → at ≡ 0 → Fault edition dot text kind at

-- the place of a kind among those that stand at one offset
abbrev pub rank : LexKind → ℕ
rank NotUtf8 = 0
rank BadCharacter = 1
rank Unclosed = 2
rank ReservedPrefix = 3
rank Float = 4
rank BadNumber = 5
rank LiteralSuffix = 6
rank BadEscape = 7
rank BadLifetime = 8
rank BadRaw = 9

-- a fault is told before another, or is this one
abbrev pub ToldBefore : LexKind → ℕ → LexKind → ℕ → Type 0
ToldBefore kind at other place = (at < place) ⊎ ((at ≡ place) × (rank kind ≤ rank other))

-- the first fault that stands here
pub record First (edition : Edition) (dot : Bool) (text : Chars) (kind : LexKind) (at : ℕ) : Type 0 where
  pub stands : Fault edition dot text kind at
  pub before : (other : LexKind) (place : ℕ) → Fault edition dot text other place → ToldBefore kind at other place
