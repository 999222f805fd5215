-- What the code does at the front of a text. No definition of what a token or a fault is rests on this.
use Rattle.std.specs.Prelude.{ℕ, zero, suc, ◌+◌, ◌-◌, ◌*◌, ◌^◌, Bool, true, false, not, ◌&&◌, ◌||◌, ◌==◌, nat_lt, nat_le, nat_eq, if◌then◌else◌, List, [], ◌∷◌, ◌++◌, length, take, drop, slice_index, Option, Some, None, codes, encode_utf8_all}
use Rattle.std.specs.Char.{is_ascii_digit, is_ascii_hexdigit, is_digit, digit_value}
use Rattle.std.specs.List.{prefix_len, starts_with, count_by}
use Rattle.std.specs.Str.{bytes_eq}
use Rattle.unicode_ident.specs.Ident.{is_xid_start, is_xid_continue}
use Rattle.em_base.specs.Names.{is_start}
use Rattle.em_base.specs.declared.edition.Edition.{Edition}
use Rattle.em_base.specs.declared.edition.Edition.TheVariants.{E2015, E2018, E2021}
use Rattle.em_base.specs.declared.int_kind.IntKind.{IntKind}
use Rattle.em_base.specs.declared.int_kind.IntKind.TheVariants.{I8, I16, I32, I64, Isize, U8, U16, U32, U64, Usize}
use Rattle.em_base.specs.declared.token.TokenKind.{TokenKind}
use Rattle.em_base.specs.declared.token.TokenKind.TheVariants.{Ident, Lifetime, Int, Char, Byte, Str, ByteStr, Open, Close, Punct}
use Rattle.em_lex.specs.declared.error.LexKind.{LexKind}
use Rattle.em_lex.specs.declared.error.LexKind.TheVariants.{BadCharacter, Unclosed, ReservedPrefix, Float, BadNumber, LiteralSuffix, BadEscape, BadLifetime, BadRaw}
use Rattle.em_lex.specs.declared.piece.Form.{Form}
use Rattle.em_lex.specs.declared.piece.Form.TheVariants.{Quoted, Single, Raw}
use Rattle.em_lex.specs.declared.piece.Piece.{Piece}
use Rattle.em_lex.specs.declared.piece.Piece.TheVariants.{Trivia, Token, Fault}
use Rattle.em_lex.specs.declared.piece.Unit.{Unit as Part}
use Rattle.em_lex.specs.Characters.{Chars, is_blank, name_of, not_line_feed}

-- the first character, or 0
abbrev pub first : Chars → ℕ
first cs = slice_index cs 0

-- a word is in front
abbrev pub starts_word : Chars → Bool
starts_word [] = false
starts_word (c ∷ cs) = is_start c

-- the first character and those of words behind it
abbrev pub run : Chars → ℕ
run [] = 0
run (c ∷ cs) = suc (prefix_len is_xid_continue cs)

-- the text has this in front
abbrev pub fronted : Chars → Chars → Bool
fronted front cs = starts_with nat_eq cs front

-- n characters before that
abbrev pub after : ℕ → Option ℕ → Option ℕ
after n None = None
after n (Some m) = Some (n + m)

-- ---- comments

-- The length of the rest of a block comment, in which `depth` more are open, with its `*/`.
-- `used` says that the first character belongs to the mark before it.
unfoldable pub block_len : ℕ → Bool → Chars → Option ℕ
block_len depth used [] = None
block_len depth true (c ∷ cs) = after 1 (block_len depth false cs)
block_len depth false (c ∷ cs) =
    if c == 42 && first cs == 47 then (if depth == 0 then Some 2 else after 1 (block_len (depth - 1) true cs))
    else (if c == 47 && first cs == 42 then after 1 (block_len (depth + 1) true cs)
    else after 1 (block_len depth false cs))

abbrev pub outer_line : Chars → Bool
outer_line w = fronted (codes "///") w && not (fronted (codes "////") w)

abbrev pub outer_block : Chars → Bool
outer_block w = fronted (codes "/**") w && not (fronted (codes "/***") w || fronted (codes "/**/") w)

abbrev pub doc_comment : Chars → Bool
doc_comment w = outer_line w || fronted (codes "//!") w || outer_block w || fronted (codes "/*!") w

abbrev pub trivia_of : Chars → ℕ → Piece
trivia_of cs n = Trivia n (doc_comment (take n cs))

abbrev pub block_of : Chars → Option ℕ → Piece
block_of cs None = Fault Unclosed 0
block_of cs (Some n) = trivia_of cs (2 + n)

-- ---- bodies of literals

abbrev pub raw_form : Form → Bool
raw_form Quoted = false
raw_form Single = false
raw_form (Raw n) = true

abbrev pub quoted_form : Form → Bool
quoted_form Quoted = true
quoted_form Single = false
quoted_form (Raw n) = false

abbrev pub single_form : Form → Bool
single_form Quoted = false
single_form Single = true
single_form (Raw n) = false

abbrev pub stands : Form → ℕ → Bool
stands Quoted c = not (c == 34 || c == 92 || c == 13)
stands Single c = not (c == 39 || c == 92 || c == 10 || c == 13 || c == 9)
stands (Raw n) c = not (c == 13)

abbrev pub unit_of : ℕ → ℕ → Option Part
unit_of n c = Some (record { len = n; value = Some c })

-- what a character behind a backslash denotes
abbrev pub simple_at : ℕ → Option ℕ
simple_at c =
    if c == 110 then Some 10 else (if c == 114 then Some 13 else (if c == 116 then Some 9 else (if c == 48 then Some 0
    else (if c == 92 || c == 39 || c == 34 then Some c else None))))

abbrev pub code_part : ℕ → Bool
code_part c = is_ascii_hexdigit c || c == 95

-- the number with one digit more, where it is a digit of the base and fits 64 bits
abbrev pub digit_after : ℕ → ℕ → ℕ → Option ℕ
digit_after base n c =
    if is_digit c base && nat_lt (n * base + digit_value c) (2 ^ 64) then Some (n * base + digit_value c) else None

abbrev pub and_then : Option ℕ → (ℕ → Option ℕ) → Option ℕ
and_then None f = None
and_then (Some n) f = f n

-- the number that the digits write after those that wrote n; `some` says that there were some
unfoldable pub value_from : ℕ → Bool → ℕ → Chars → Option ℕ
value_from base some n [] = if some then Some n else None
value_from base some n (c ∷ cs) =
    if c == 95 then value_from base some n cs
    else and_then (digit_after base n c) (λ m. value_from base true m cs)

-- a character of this code, where it is one
abbrev pub scalar_unit : ℕ → Option ℕ → Option Part
scalar_unit n None = None
scalar_unit n (Some v) = if nat_lt v 0xD800 || (nat_le 0xE000 v && nat_lt v 0x11_0000) then unit_of n v else None

abbrev pub unicode_at : Chars → Option Part
unicode_at cs =
    let n = prefix_len code_part cs in
    if slice_index cs n == 125 && is_ascii_hexdigit (first cs) && nat_le (count_by is_ascii_hexdigit (take n cs)) 6
    then scalar_unit (n + 4) (value_from 16 false 0 (take n cs)) else None

abbrev pub code_at : Bool → ℕ → ℕ → Option Part
code_at byte a b =
    if is_ascii_hexdigit a && is_ascii_hexdigit b && (byte || nat_lt (digit_value a) 8) then unit_of 4 (digit_value a * 16 + digit_value b) else None

abbrev pub skipped : ℕ → Bool
skipped c = c == 32 || c == 9 || c == 10 || c == 13

abbrev pub is_line_end : Chars → Bool
is_line_end cs = first cs == 10 || (first cs == 13 && slice_index cs 1 == 10)

abbrev pub other_escape : Bool → Form → Chars → Option Part
other_escape byte form cs =
    if first cs == 120 then code_at byte (slice_index cs 1) (slice_index cs 2)
    else (if first cs == 117 && slice_index cs 1 == 123 && not byte then unicode_at (drop 2 cs)
    else (if quoted_form form && is_line_end cs then Some (record { len = 1 + prefix_len skipped cs; value = None }) else None))

abbrev pub simple_or : Option ℕ → Option Part → Option Part
simple_or None other = other
simple_or (Some v) other = unit_of 2 v

-- behind a backslash
abbrev pub escape_at : Bool → Form → Chars → Option Part
escape_at byte form cs = simple_or (simple_at (first cs)) (other_escape byte form cs)

unfoldable pub unit_at : Bool → Form → Chars → Option Part
unit_at byte form [] = None
unit_at byte form (c ∷ cs) =
    if c == 92 && not (raw_form form) then escape_at byte form cs
    else (if c == 13 then (if not (single_form form) && first cs == 10 then unit_of 2 10 else None)
    else (if stands form c && (not byte || nat_lt c 128) then unit_of 1 c else None))

-- where no unit begins, and the characters that those before denote
pub record Reading : Type 0 where
  pub bad : Option ℕ
  pub value : Chars

abbrev pub ahead : ℕ → Chars → Reading → Reading
ahead n vs r = record { bad = after n r.bad; value = vs ++ r.value }

abbrev pub listed : Option ℕ → Chars
listed None = []
listed (Some c) = c ∷ []

abbrev pub read_unit : Option Part → (ℕ → Reading) → Reading
read_unit None f = record { bad = Some 0; value = [] }
read_unit (Some u) f = ahead 1 (listed u.value) (f (u.len - 1))

-- the number counts what is left of a unit
unfoldable pub read : Bool → Form → ℕ → Chars → Reading
read byte form left [] = record { bad = None; value = [] }
read byte form (suc left) (c ∷ cs) = ahead 1 [] (read byte form left cs)
read byte form zero (c ∷ cs) = read_unit (unit_at byte form (c ∷ cs)) (λ left. read byte form left cs)

-- ---- literals

-- the length of the rest of a string before its `"`; a backslash uses the character after it
unfoldable pub string_len : Bool → Chars → Option ℕ
string_len used [] = None
string_len true (c ∷ cs) = after 1 (string_len false cs)
string_len false (c ∷ cs) = if c == 34 then Some 0 else after 1 (string_len (c == 92) cs)

abbrev pub hash : ℕ → Bool
hash c = c == 35

unfoldable pub raw_len : ℕ → Chars → Option ℕ
raw_len n [] = None
raw_len n (c ∷ cs) = if c == 34 && nat_le n (prefix_len hash cs) then Some 0 else after 1 (raw_len n cs)

abbrev pub no_quote : ℕ → Bool
no_quote c = not (c == 39)

abbrev pub some_if : Bool → ℕ → Option ℕ
some_if closes n = if closes then Some n else None

abbrev pub one_len : Chars → Option Part → Option ℕ
one_len cs None =
    let n = prefix_len no_quote (drop 2 cs) in some_if (slice_index cs (2 + n) == 39) (2 + n)
one_len cs (Some u) = some_if (slice_index cs u.len == 39) u.len

unfoldable pub single_len : Bool → Chars → Option ℕ
single_len byte cs =
    let c = first cs in
    if c == 92 then one_len cs (unit_at byte Single cs)
    else some_if (slice_index cs 1 == 39 && not (c == 39 || c == 10 || c == 9)) 1

abbrev pub close_len : Bool → Form → Chars → Option ℕ
close_len byte Quoted cs = string_len false cs
close_len byte Single cs = single_len byte cs
close_len byte (Raw n) cs = raw_len n cs

abbrev pub closing_len : Form → ℕ
closing_len Quoted = 1
closing_len Single = 1
closing_len (Raw n) = 1 + n

abbrev pub body_fault : Form → ℕ → LexKind
body_fault form c = if c == 92 && not (raw_form form) then BadEscape else BadCharacter

abbrev pub literal_kind : Bool → Form → Chars → TokenKind
literal_kind byte form vs =
    if single_form form then (if byte then Byte (first vs) else Char (first vs))
    else (if byte then ByteStr vs else Str (encode_utf8_all vs))

abbrev pub literal_read : Bool → Form → ℕ → Chars → ℕ → Reading → Option ℕ → Piece
literal_read byte form at body len r None = Token (literal_kind byte form r.value) len
literal_read byte form at body len r (Some p) = Fault (body_fault form (slice_index body p)) (at + p)

abbrev pub literal_closed : Bool → Form → ℕ → Chars → Option ℕ → Piece
literal_closed byte form at cs None = Fault Unclosed 0
literal_closed byte form at cs (Some n) =
    let r = read byte form 0 (take n cs) in
    if starts_word (drop (n + closing_len form) cs) then Fault LiteralSuffix 0
    else literal_read byte form at (take n cs) (at + (n + closing_len form)) r r.bad

-- behind an opening of so many characters
unfoldable pub literal_step : Bool → Form → ℕ → Chars → Piece
literal_step byte form at cs = literal_closed byte form at cs (close_len byte form cs)

unfoldable pub lifetime_step : Chars → Piece
lifetime_step cs =
    let n = run (drop 1 cs) in
    let next = slice_index (drop 1 cs) n in
    if next == 39 || next == 35 then Fault BadLifetime 0 else Token (Lifetime (name_of (take n (drop 1 cs)))) (1 + n)

abbrev pub is_none : Option ℕ → Bool
is_none None = true
is_none (Some n) = false

unfoldable pub quote_step : Chars → Piece
quote_step cs =
    if starts_word (drop 1 cs) && is_none (single_len false (drop 1 cs)) then lifetime_step cs else literal_step false Single 1 (drop 1 cs)

-- ---- words

abbrev pub is_2021 : Edition → Bool
is_2021 E2015 = false
is_2021 E2018 = false
is_2021 E2021 = true

abbrev pub not_raw : List ℕ → Bool
not_raw name =
    bytes_eq name (codes "crate") || bytes_eq name (codes "self") || bytes_eq name (codes "super") || bytes_eq name (codes "Self")

abbrev pub plain_word : Chars → ℕ → Piece
plain_word w n = if bytes_eq w (codes "_") then Token Punct n else Token (Ident (name_of w) false) n

abbrev pub prefixed : Edition → Chars → ℕ → Piece
prefixed edition w n = if is_2021 edition then Fault ReservedPrefix 0 else plain_word w n

-- behind `r#`
abbrev pub raw_word : Chars → Piece
raw_word cs =
    let w = take (run cs) cs in
    if starts_word cs && not (bytes_eq w (codes "_") || not_raw (name_of w)) then Token (Ident (name_of w) true) (2 + run cs) else Fault BadRaw 0

-- behind `r` or `br`, at a `#`
abbrev pub hash_step : Bool → ℕ → Chars → Piece
hash_step byte at cs =
    let n = prefix_len hash cs in
    if slice_index cs n == 34 then literal_step byte (Raw n) (at + n + 1) (drop (n + 1) cs)
    else (if byte then Fault BadRaw 0 else raw_word (drop 1 cs))

abbrev pub word_before_quote : Edition → Chars → ℕ → Chars → Piece
word_before_quote edition w n cs =
    if bytes_eq w (codes "b") then literal_step true Quoted 2 (drop 1 cs)
    else (if bytes_eq w (codes "r") then literal_step false (Raw 0) 2 (drop 1 cs)
    else (if bytes_eq w (codes "br") then literal_step true (Raw 0) 3 (drop 1 cs)
    else prefixed edition w n))

abbrev pub word_before_hash : Edition → Chars → ℕ → Chars → Piece
word_before_hash edition w n cs =
    if bytes_eq w (codes "r") then hash_step false 1 cs
    else (if bytes_eq w (codes "br") then hash_step true 2 cs
    else prefixed edition w n)

abbrev pub word_before : Edition → Chars → ℕ → ℕ → Chars → Piece
word_before edition w n next cs =
    if next == 34 then word_before_quote edition w n cs
    else (if next == 35 then word_before_hash edition w n cs
    else (if next == 39 then (if bytes_eq w (codes "b") then literal_step true Single 2 (drop 1 cs) else prefixed edition w n)
    else plain_word w n))

unfoldable pub word_step : Edition → Chars → Piece
word_step edition cs =
    let n = run cs in
    word_before edition (take n cs) n (slice_index cs n) (drop n cs)

-- ---- numbers

abbrev pub radix_of : Bool → Chars → ℕ
radix_of dot w =
    if dot || not (first w == 48) then 10
    else (if slice_index w 1 == 120 then 16 else (if slice_index w 1 == 111 then 8 else (if slice_index w 1 == 98 then 2 else 10)))

abbrev pub digit_part : Bool → ℕ → ℕ → Bool
digit_part dot radix c = (not dot && c == 95) || (if radix == 16 then is_ascii_hexdigit c else is_ascii_digit c)

abbrev pub mark_len : ℕ → ℕ
mark_len radix = if radix == 10 then 0 else 2

abbrev pub suffix_of : Bool → Chars → Option (Option IntKind)
suffix_of dot tail =
    if bytes_eq tail [] then Some None else (if dot then None
    else (if bytes_eq tail (codes "i8") then Some (Some I8) else (if bytes_eq tail (codes "i16") then Some (Some I16)
    else (if bytes_eq tail (codes "i32") then Some (Some I32) else (if bytes_eq tail (codes "i64") then Some (Some I64)
    else (if bytes_eq tail (codes "isize") then Some (Some Isize) else (if bytes_eq tail (codes "u8") then Some (Some U8)
    else (if bytes_eq tail (codes "u16") then Some (Some U16) else (if bytes_eq tail (codes "u32") then Some (Some U32)
    else (if bytes_eq tail (codes "u64") then Some (Some U64) else (if bytes_eq tail (codes "usize") then Some (Some Usize)
    else None)))))))))))

abbrev pub point_at : Chars → Bool
point_at cs = first cs == 46 && not (slice_index cs 1 == 46 || slice_index cs 1 == 95 || is_xid_start (slice_index cs 1))

abbrev pub float_tail : Chars → Chars → Bool
float_tail tail cs =
    first tail == 101 || first tail == 69 || bytes_eq tail (codes "f32") || bytes_eq tail (codes "f64")
    || (bytes_eq tail [] && point_at cs)

abbrev pub number_end : ℕ → Option ℕ → Option (Option IntKind) → Piece
number_end n None suffix = Fault BadNumber 0
number_end n (Some v) None = Fault LiteralSuffix 0
number_end n (Some v) (Some suffix) = Token (Int v suffix) n

-- the number of this word, before what follows
unfoldable pub number_of : Bool → Chars → Chars → Piece
number_of dot w cs =
    let radix = radix_of dot w in
    let digits = drop (mark_len radix) w in
    let m = prefix_len (digit_part dot radix) digits in
    let tail = drop m digits in
    if not dot && radix == 10 && float_tail tail cs then Fault Float 0
    else number_end (length w) (value_from radix false 0 (take m digits)) (suffix_of dot tail)

unfoldable pub number_step : Bool → Chars → Piece
number_step dot cs = number_of dot (take (run cs) cs) (drop (run cs) cs)

-- ---- marks

abbrev pub is_punct3 : ℕ → ℕ → ℕ → Bool
is_punct3 a b c = (a == 60 && b == 60 && c == 61) || (a == 62 && b == 62 && c == 61) || (a == 46 && b == 46 && (c == 46 || c == 61))

abbrev pub takes_equals : ℕ → Bool
takes_equals a = a == 43 || a == 45 || a == 42 || a == 47 || a == 37 || a == 94 || a == 38 || a == 124 || a == 61 || a == 33 || a == 60 || a == 62

abbrev pub is_pair : ℕ → ℕ → Bool
is_pair a b =
    (a == 38 && b == 38) || (a == 124 && b == 124) || (a == 60 && b == 60) || (a == 62 && b == 62)
    || (a == 46 && b == 46) || (a == 58 && b == 58) || (a == 45 && b == 62) || (a == 60 && b == 45) || (a == 61 && b == 62)

abbrev pub is_punct2 : ℕ → ℕ → Bool
is_punct2 a b = (b == 61 && takes_equals a) || is_pair a b

abbrev pub is_punct1 : ℕ → Bool
is_punct1 a =
    a == 43 || a == 45 || a == 42 || a == 47 || a == 37 || a == 94 || a == 33 || a == 38 || a == 124 || a == 61 || a == 60 || a == 62
    || a == 64 || a == 46 || a == 44 || a == 59 || a == 58 || a == 35 || a == 36 || a == 63 || a == 126

unfoldable pub punct_len : ℕ → ℕ → ℕ → ℕ
punct_len a b c = if is_punct3 a b c then 3 else (if is_punct2 a b then 2 else (if is_punct1 a then 1 else 0))

abbrev pub is_open : ℕ → Bool
is_open c = c == 40 || c == 91 || c == 123

abbrev pub is_close : ℕ → Bool
is_close c = c == 41 || c == 93 || c == 125

unfoldable pub mark_step : Chars → Piece
mark_step cs =
    if is_open (first cs) then Token Open 1
    else (if is_close (first cs) then Token Close 1
    else (let n = punct_len (first cs) (slice_index cs 1) (slice_index cs 2) in if n == 0 then Fault BadCharacter 0 else Token Punct n))

-- ---- the place

unfoldable pub step : Edition → Bool → Chars → Piece
step edition dot cs =
    if is_start (first cs) then word_step edition cs
    else (if is_ascii_digit (first cs) then number_step dot cs
    else (if first cs == 34 then literal_step false Quoted 1 (drop 1 cs)
    else (if first cs == 39 then quote_step cs
    else (if is_blank (first cs) then Trivia 1 false
    else (if first cs == 47 && slice_index cs 1 == 47 then trivia_of cs (prefix_len not_line_feed cs)
    else (if first cs == 47 && slice_index cs 1 == 42 then block_of cs (block_len 0 false (drop 2 cs))
    else mark_step cs))))))
