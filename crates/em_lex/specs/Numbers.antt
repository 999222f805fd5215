-- Integer literals (Reference, "Integer literals").
use Rattle.std.specs.Prelude.{◌≡◌, ◌<◌, ◌^◌, ℕ, Bool, true, false, not, ◌&&◌, ◌||◌, ◌==◌, if◌then◌else◌, [], ◌++◌, length, filter, codes, Option, Some, None}
use Rattle.std.specs.Char.{is_ascii_digit, is_ascii_hexdigit, is_digit}
use Rattle.std.specs.List.{list_all}
use Rattle.std.specs.Str.Parse.{digits_value}
use Rattle.em_base.specs.declared.int_kind.IntKind.{IntKind}
use Rattle.em_base.specs.declared.int_kind.IntKind.TheVariants.{I8, I16, I32, I64, Isize, U8, U16, U32, U64, Usize}
use Rattle.em_lex.specs.Characters.{Chars, starts, begins, not_underscore}

-- the base that the front of a number tells; a number directly behind a `.` token is decimal
abbrev pub base_of : Bool → Chars → ℕ
base_of dot w =
    if dot then 10
    else (if begins (codes "0x") w then 16 else (if begins (codes "0o") w then 8 else (if begins (codes "0b") w then 2 else 10)))

abbrev pub base_mark : ℕ → Chars
base_mark base = if base == 16 then codes "0x" else (if base == 8 then codes "0o" else (if base == 2 then codes "0b" else []))

-- a character of the digits of a number; behind a `.` token there is no `_`
abbrev pub is_part : Bool → ℕ → ℕ → Bool
is_part dot base c = (not dot && c == 95) || (if base == 16 then is_ascii_hexdigit c else is_ascii_digit c)

-- a number is a mark of its base, digits, and what follows them
pub record Cut (dot : Bool) (w part tail : Chars) : Type 0 where
  pub parts : w ≡ base_mark (base_of dot w) ++ (part ++ tail)
  pub digits : list_all (is_part dot (base_of dot w)) part ≡ true
  pub ends : starts (is_part dot (base_of dot w)) tail ≡ false

-- the digits write this value: there is one, each is of the base, and the value fits 64 bits
pub record HasValue (base : ℕ) (part : Chars) (value : ℕ) : Type 0 where
  pub some : 0 < length (filter not_underscore part)
  pub good : list_all (λ c. is_digit c base) (filter not_underscore part) ≡ true
  pub says : value ≡ digits_value base (filter not_underscore part)
  pub small : value < 2 ^ 64

abbrev pub suffix_text : IntKind → Chars
suffix_text I8 = codes "i8"
suffix_text I16 = codes "i16"
suffix_text I32 = codes "i32"
suffix_text I64 = codes "i64"
suffix_text Isize = codes "isize"
suffix_text U8 = codes "u8"
suffix_text U16 = codes "u16"
suffix_text U32 = codes "u32"
suffix_text U64 = codes "u64"
suffix_text Usize = codes "usize"

-- no suffix, or that of a type; directly behind a `.` token there is none
abbrev pub IsSuffix : Bool → Chars → Option IntKind → Type 0
IsSuffix dot tail None = tail ≡ []
IsSuffix dot tail (Some kind) = (dot ≡ false) × (tail ≡ suffix_text kind)

-- the spelling of an integer of this value and suffix
pub record IsInt (dot : Bool) (w : Chars) (value : ℕ) (suffix : Option IntKind) : Type 0 where
  pub part : Chars
  pub tail : Chars
  pub digit : starts is_ascii_digit w ≡ true
  pub cut : Cut dot w part tail
  pub value_is : HasValue (base_of dot w) part value
  pub suffix_is : IsSuffix dot tail suffix
