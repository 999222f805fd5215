-- Programs of the first form, as lists of tokens.
use Rattle.std.specs.Prelude.{◌≡◌, ℕ, Bool, true, false, ◌||◌, not, nat_le, List, [], ◌∷◌, length, codes, if◌then◌else◌, Option, Some, None}
use Rattle.std.specs.Str.{bytes_eq}
use Rattle.em_base.specs.declared.edition.Edition.{Edition}
use Rattle.em_base.specs.declared.int_kind.IntKind.{IntKind}
use Rattle.em_base.specs.declared.int_kind.IntKind.TheVariants.{I8, I16, I32, I64, Isize, U8, U16, U32, U64, Usize}
use Rattle.em_base.specs.declared.token.Token.{Token}
use Rattle.em_base.specs.declared.token.TokenKind.{TokenKind}
use Rattle.em_base.specs.declared.token.TokenKind.TheVariants.{Ident, Int}
use Rattle.em_base.specs.declared.words.Class.{Class}
use Rattle.em_base.specs.declared.words.Class.TheVariants as class
use Rattle.em_base.specs.Words.{class_of}

abbrev pub is_keyword : Class → Bool
is_keyword class.Keyword = true
is_keyword class.Weak = false
is_keyword class.Ident = false

-- the name that a token names: it is an identifier that is raw or no keyword of the edition
abbrev pub name_in : Edition → TokenKind → Option (List ℕ)
name_in edition (Ident name raw) = if raw || not (is_keyword (class_of edition name)) then Some name else None
name_in edition kind = None

-- the greatest value of an integer literal of the form: an `i32` holds it, and so does the type that its suffix names
abbrev pub greatest : Option IntKind → ℕ
greatest (Some I8) = 127
greatest (Some U8) = 255
greatest (Some I16) = 32767
greatest (Some U16) = 65535
greatest suffix = 2147483647

-- the value of an integer literal of the form
abbrev pub int_in : TokenKind → Option ℕ
int_in (Int value suffix) = if nat_le value (greatest suffix) then Some value else None
int_in kind = None

-- what a token of a kind and a text says: an identifier that isn't raw its name, another token its text
abbrev pub said : TokenKind → List ℕ → List ℕ
said (Ident name raw) text = if raw then text else name
said kind text = text

-- the tokens say these words, and then come the others
abbrev pub Begins : List (List ℕ) → List Token → List Token → Type 0
Begins [] ts rest = ts ≡ rest
Begins (w ∷ ws) ts rest = (t : Token) × (us : List Token) × (ts ≡ t ∷ us) × (said t.kind t.text ≡ w) × Begins ws us rest

-- the tokens begin with a name
abbrev pub NameFirst : Edition → List ℕ → List Token → List Token → Type 0
NameFirst edition name ts rest = (t : Token) × (ts ≡ t ∷ rest) × (name_in edition t.kind ≡ Some name)

-- the tokens begin with an integer
abbrev pub IntFirst : ℕ → List Token → List Token → Type 0
IntFirst value ts rest = (t : Token) × (ts ≡ t ∷ rest) × (int_in t.kind ≡ Some value)

-- the tokens begin with `let name = value ;`
pub record LetFirst (edition : Edition) (name : List ℕ) (value : ℕ) (ts rest : List Token) : Type 0 where
  pub behind_let : List Token
  pub behind_name : List Token
  pub behind_equals : List Token
  pub behind_int : List Token
  pub is_let : Begins (codes "let" ∷ []) ts behind_let
  pub is_name : NameFirst edition name behind_let behind_name
  pub is_equals : Begins (codes "=" ∷ []) behind_name behind_equals
  pub is_int : IntFirst value behind_equals behind_int
  pub ends : Begins (codes ";" ∷ []) behind_int rest

-- the tokens begin with `println ! ( "{}" , name ) ;`
pub record PrintFirst (edition : Edition) (name : List ℕ) (ts rest : List Token) : Type 0 where
  pub behind_comma : List Token
  pub behind_name : List Token
  pub is_print : Begins (codes "println" ∷ codes "!" ∷ codes "(" ∷ codes "\"{}\"" ∷ codes "," ∷ []) ts behind_comma
  pub is_name : NameFirst edition name behind_comma behind_name
  pub ends : Begins (codes ")" ∷ codes ";" ∷ []) behind_name rest

-- a statement: it binds a value, or prints that of the `let` of a number
pub data Statement : Type 0 where
  Let : ℕ → Statement
  Print : ℕ → Statement

-- the number of the latest `let` of a name, where the names of the `let`s stand from the last to the first
abbrev pub latest : List ℕ → List (List ℕ) → Option ℕ
latest name [] = None
latest name (b ∷ bs) = if bytes_eq b name then Some (length bs) else latest name bs

-- the tokens are these statements and a `}`, behind `let`s of these names
abbrev pub Body : Edition → List (List ℕ) → List Token → List Statement → Type 0
Body edition names ts [] = Begins (codes "}" ∷ []) ts []
Body edition names ts (Let value ∷ core) =
    (name : List ℕ) × (rest : List Token) × LetFirst edition name value ts rest × Body edition (name ∷ names) rest core
Body edition names ts (Print which ∷ core) =
    (name : List ℕ) × (rest : List Token) × PrintFirst edition name ts rest × (latest name names ≡ Some which) × Body edition names rest core

-- `fn main ( ) {`
abbrev pub main_words : List (List ℕ)
main_words = codes "fn" ∷ codes "main" ∷ codes "(" ∷ codes ")" ∷ codes "{" ∷ []

-- the tokens are a program of the first form under an edition, and these are its statements
abbrev pub FirstCore : Edition → List Token → List Statement → Type 0
FirstCore edition ts core = (rest : List Token) × Begins main_words ts rest × Body edition [] rest core

-- the tokens are a program of the first form under an edition
abbrev pub FirstForm : Edition → List Token → Type 0
FirstForm edition ts = (core : List Statement) × FirstCore edition ts core
