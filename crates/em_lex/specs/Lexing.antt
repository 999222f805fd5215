-- Which tokens a text has, and which is its first fault.
use Rattle.std.specs.Prelude.{◌≡◌, ◌⊎◌, ℕ, ◌+◌, Bool, true, false, ◌||◌, List, [], ◌∷◌, ◌++◌, take, sum_by, encode_utf8_all}
use Rattle.std.specs.Char.{len_utf8}
use Rattle.std.specs.Str.{all_scalars, IsUtf8, IsValidUpTo, bytes_eq}
use Rattle.em_base.specs.declared.token.Token.{Token}
use Rattle.em_base.specs.declared.token.TokenKind.{TokenKind}
use Rattle.em_base.specs.declared.edition.Edition.{Edition}
use Rattle.em_lex.specs.declared.error.LexKind.{LexKind}
use Rattle.em_lex.specs.declared.error.LexKind.TheVariants.{NotUtf8}
use Rattle.em_lex.specs.Characters.{Chars}
use Rattle.em_lex.specs.Trivia.{IsTrivia, begins_comment}
use Rattle.em_lex.specs.Spelling.{Longest}
use Rattle.em_lex.specs.Faults.{Fault, First}

-- a part of a text: whitespace or a comment, and whether it is a doc comment; or a token
pub data Part : Type 0 where
  trivia : Chars → Bool → Part
  token : Chars → TokenKind → Part

abbrev pub spelled : Part → Chars
spelled (trivia w doc) = w
spelled (token w kind) = w

abbrev pub is_dot : Part → Bool
is_dot (trivia w doc) = false
is_dot (token w kind) = bytes_eq w (46 ∷ [])

-- a token stands at the front of a text: the longest one, no comment begins there, and no fault stands there
pub record TokenAt (edition : Edition) (dot : Bool) (w left : Chars) (kind : TokenKind) : Type 0 where
  pub longest : Longest dot w left kind
  pub no_comment : begins_comment (w ++ left) ≡ false
  pub no_fault : (fault : LexKind) (at : ℕ) → Fault edition dot (w ++ left) fault at → ⊥

-- a part stands before what is left of the text
abbrev pub PartAt : Edition → Bool → Part → Chars → Type 0
PartAt edition dot (trivia w doc) left = IsTrivia w doc left
PartAt edition dot (token w kind) left = TokenAt edition dot w left kind

-- parts that tile a text in order, up to what is left of it; `dot` says that the text stands directly behind a `.` token,
-- `end` that what is left does
abbrev pub Tiles : Edition → Bool → Chars → List Part → Bool → Chars → Type 0
Tiles edition dot text [] end left = (dot ≡ end) × (text ≡ left)
Tiles edition dot text (p ∷ ps) end left = (rest : Chars) × (text ≡ spelled p ++ rest) × PartAt edition dot p rest × Tiles edition (is_dot p) rest ps end left

-- how many bytes the characters take
abbrev pub byte_len : Chars → ℕ
byte_len cs = sum_by len_utf8 cs

-- the tokens among the parts, from an offset of a file on; `doc` says that a doc comment stands in the trivia before
abbrev pub tokens_of : ℕ → Edition → ℕ → Bool → List Part → List Token
tokens_of file edition offset doc [] = []
tokens_of file edition offset doc (trivia w is ∷ ps) = tokens_of file edition (offset + byte_len w) (doc || is) ps
tokens_of file edition offset doc (token w kind ∷ ps) =
    record {
      kind = kind;
      text = encode_utf8_all w;
      span = record { file = file; start = offset; end = offset + byte_len w };
      edition = edition;
      marks = [];
      doc = doc;
    } ∷ tokens_of file edition (offset + byte_len w) false ps

-- the text that characters are, where a U+FEFF in front is no part of what is lexed (Reference, "Byte order mark removal")
pub record IsText (bytes : List ℕ) (mark text : Chars) : Type 0 where
  pub scalars : all_scalars (mark ++ text) ≡ true
  pub encoded : encode_utf8_all (mark ++ text) ≡ bytes
  pub marked : (mark ≡ 0xFEFF ∷ []) ⊎ ((mark ≡ []) × ((cs : Chars) → text ≡ 0xFEFF ∷ cs → ⊥))

-- tokens with trivia between them tile the text
pub record Lexes (file : ℕ) (edition : Edition) (bytes : List ℕ) (ts : List Token) : Type 0 where
  pub mark : Chars
  pub text : Chars
  pub parts : List Part
  pub dot : Bool
  pub is_text : IsText bytes mark text
  pub tiles : Tiles edition false text parts dot []
  pub tokens : ts ≡ tokens_of file edition (byte_len mark) false parts

-- the first fault of a text that is UTF-8, at a place that parts reach
pub record Fails (edition : Edition) (bytes : List ℕ) (kind : LexKind) (offset : ℕ) : Type 0 where
  pub mark : Chars
  pub text : Chars
  pub parts : List Part
  pub dot : Bool
  pub left : Chars
  pub at : ℕ
  pub is_text : IsText bytes mark text
  pub tiles : Tiles edition false text parts dot left
  pub first : First edition dot left kind at
  pub place : offset + byte_len left ≡ byte_len (mark ++ text) + byte_len (take at left)

-- the first fault of a text: that it is no UTF-8, at the end of its longest front that is, and else its first fault from the left
abbrev pub FirstFault : Edition → List ℕ → LexKind → ℕ → Type 0
FirstFault edition bytes kind offset = (¬ (IsUtf8 bytes) × (kind ≡ NotUtf8) × IsValidUpTo bytes offset) ⊎ Fails edition bytes kind offset
