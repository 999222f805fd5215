-- The spellings of each kind of token (Reference, "Tokens"), as sets.
use Rattle.std.specs.Prelude.{◌≡◌, ◌≤◌, ◌⊎◌, ℕ, Bool, true, false, List, [], ◌∷◌, ◌++◌, length, codes, encode_utf8_all}
use Rattle.std.specs.List.{list_any}
use Rattle.std.specs.Str.{bytes_eq}
use Rattle.em_base.specs.Names.{is_word, is_identifier}
use Rattle.em_base.specs.declared.token.TokenKind.{TokenKind}
use Rattle.em_base.specs.declared.token.TokenKind.TheVariants.{Ident, Lifetime, Int, Char, Byte, Str, ByteStr, Open, Close, Punct}
use Rattle.em_lex.specs.Characters.{Chars, name_of}
use Rattle.em_lex.specs.declared.piece.Form.TheVariants.{Quoted, Single, Raw}
use Rattle.em_lex.specs.Literals.{IsLiteral}
use Rattle.em_lex.specs.Numbers.{IsInt}

-- the names of which there is no raw form (Reference, "Raw identifiers")
abbrev pub never_raw : List (List ℕ)
never_raw = codes "crate" ∷ codes "self" ∷ codes "super" ∷ codes "Self" ∷ []

abbrev pub is_among : List (List ℕ) → List ℕ → Bool
is_among list w = list_any (bytes_eq w) list

abbrev pub is_never_raw : List ℕ → Bool
is_never_raw name = is_among never_raw name

abbrev pub opening_delimiters : List Chars
opening_delimiters = codes "(" ∷ codes "[" ∷ codes "{" ∷ []

abbrev pub closing_delimiters : List Chars
closing_delimiters = codes ")" ∷ codes "]" ∷ codes "}" ∷ []

-- Reference, "Punctuation". That `_` alone is one is this project's own choice: the Reference has it among the keywords
abbrev pub punctuation : List Chars
punctuation =
    codes "+" ∷ codes "-" ∷ codes "*" ∷ codes "/" ∷ codes "%" ∷ codes "^" ∷ codes "!" ∷ codes "&" ∷ codes "|"
    ∷ codes "&&" ∷ codes "||" ∷ codes "<<" ∷ codes ">>" ∷ codes "+=" ∷ codes "-=" ∷ codes "*=" ∷ codes "/="
    ∷ codes "%=" ∷ codes "^=" ∷ codes "&=" ∷ codes "|=" ∷ codes "<<=" ∷ codes ">>=" ∷ codes "=" ∷ codes "==" ∷ codes "!="
    ∷ codes ">" ∷ codes "<" ∷ codes ">=" ∷ codes "<=" ∷ codes "@" ∷ codes "_" ∷ codes "." ∷ codes ".." ∷ codes "..."
    ∷ codes "..=" ∷ codes "," ∷ codes ";" ∷ codes ":" ∷ codes "::" ∷ codes "->" ∷ codes "<-" ∷ codes "=>" ∷ codes "#"
    ∷ codes "$" ∷ codes "?" ∷ codes "~" ∷ []

-- the spelling of a raw identifier with this name
pub record IsRawWord (w : Chars) (name : List ℕ) : Type 0 where
  pub word : Chars
  pub parts : w ≡ 114 ∷ 35 ∷ word
  pub identifier : is_identifier word ≡ true
  pub name_is : name ≡ name_of word
  pub free : is_never_raw name ≡ false

-- a literal of a string, raw or not
abbrev pub IsString : Bool → Chars → Chars → Type 0
IsString byte w value = IsLiteral byte Quoted w value ⊎ ((n : ℕ) × IsLiteral byte (Raw n) w value)

-- the characters spell a token of the kind; `dot` says that they stand directly behind a `.` token
abbrev pub Spells : Bool → Chars → TokenKind → Type 0
Spells dot w (Ident name true) = IsRawWord w name
Spells dot w (Ident name false) = (is_identifier w ≡ true) × (name ≡ name_of w)
Spells dot w (Lifetime name) = (word : Chars) × (w ≡ 39 ∷ word) × (is_word word ≡ true) × (name ≡ name_of word)
Spells dot w (Int value suffix) = IsInt dot w value suffix
Spells dot w (Char value) = IsLiteral false Single w (value ∷ [])
Spells dot w (Byte value) = IsLiteral true Single w (value ∷ [])
Spells dot w (Str value) = (vs : Chars) × IsString false w vs × (value ≡ encode_utf8_all vs)
Spells dot w (ByteStr value) = IsString true w value
Spells dot w Open = is_among opening_delimiters w ≡ true
Spells dot w Close = is_among closing_delimiters w ≡ true
Spells dot w Punct = is_among punctuation w ≡ true

-- the token at the front of a text, which no other could be longer than
pub record Longest (dot : Bool) (w left : Chars) (kind : TokenKind) : Type 0 where
  pub spells : Spells dot w kind
  pub longest : (v rest : Chars) (other : TokenKind) → w ++ left ≡ v ++ rest → Spells dot v other → length v ≤ length w
