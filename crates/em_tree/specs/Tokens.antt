-- Tests of single tokens, and lists with commas.
use Rattle.std.specs.Prelude.{◌≡◌, ◌⊎◌, ℕ, Bool, true, false, not, ◌&&◌, ◌||◌, List, [], ◌∷◌, ◌++◌, codes, Option, Some, None}
use Rattle.em_base.specs.declared.edition.Edition.{Edition}
use Rattle.em_base.specs.declared.edition.Edition.TheVariants.{E2015, E2021}
use Rattle.em_base.specs.declared.token.Token.{Token}
use Rattle.em_base.specs.declared.token.TokenKind.{TokenKind}
use Rattle.em_base.specs.declared.token.TokenKind.TheVariants as t
use Rattle.em_base.specs.Words.{strict}
use Rattle.em_tree.specs.declared.parts.Listed.{Listed}
use Rattle.em_tree.specs.declared.piece.Delimited.{Delimited}
use Rattle.em_tree.specs.declared.piece.Piece.{Piece}
use Rattle.em_tree.specs.declared.piece.Piece.TheVariants as p
use Rattle.em_tree.specs.Starts.{spelling, is_spelled, is_literal, is_name}

-- the token has this spelling
abbrev pub Is : List ℕ → Token → Type 0
Is text t = spelling t ≡ Some text

-- the token has one of these spellings
abbrev pub IsOneOf : List (List ℕ) → Token → Type 0
IsOneOf texts t = is_spelled texts t ≡ true

-- what may stand is absent or satisfies a property
abbrev pub Maybe : {A : Type 0} → (A → Type 0) → Option A → Type 0
Maybe P None = Unit {0}
Maybe P (Some a) = P a

-- each of a list satisfies a property
abbrev pub Each : {A : Type 0} → (A → Type 0) → List A → Type 0
Each P [] = Unit {0}
Each P (a ∷ as') = P a × Each P as'

-- a list with commas: after each item but maybe the last there is one
abbrev pub Commas : {A : Type 0} → (A → Type 0) → List (Listed A) → Type 0
Commas P [] = Unit {0}
Commas P (a ∷ []) = P a.item × Maybe (Is (codes ",")) a.comma
Commas P (a ∷ b ∷ rest) = P a.item × ((comma : Token) × (a.comma ≡ Some comma) × Is (codes ",") comma) × Commas P (b ∷ rest)

-- punctuation, with `_`, and delimiters (Reference, "Punctuation" and "Delimiters")
abbrev pub signs : List (List ℕ)
signs =
    codes "+" ∷ codes "-" ∷ codes "*" ∷ codes "/" ∷ codes "%" ∷ codes "^" ∷ codes "!" ∷ codes "&" ∷ codes "|" ∷ codes "&&" ∷ codes "||" ∷ codes "<<"
    ∷ codes ">>" ∷ codes "+=" ∷ codes "-=" ∷ codes "*=" ∷ codes "/=" ∷ codes "%=" ∷ codes "^=" ∷ codes "&=" ∷ codes "|=" ∷ codes "<<=" ∷ codes ">>="
    ∷ codes "=" ∷ codes "==" ∷ codes "!=" ∷ codes ">" ∷ codes "<" ∷ codes ">=" ∷ codes "<=" ∷ codes "@" ∷ codes "_" ∷ codes "." ∷ codes ".."
    ∷ codes "..." ∷ codes "..=" ∷ codes "," ∷ codes ";" ∷ codes ":" ∷ codes "::" ∷ codes "->" ∷ codes "<-" ∷ codes "=>" ∷ codes "#" ∷ codes "$"
    ∷ codes "?" ∷ codes "~" ∷ codes "(" ∷ codes ")" ∷ codes "[" ∷ codes "]" ∷ codes "{" ∷ codes "}" ∷ []

-- the words and signs that the grammar writes out. A token so spelled is no name and no literal, whatever its kind says
abbrev pub is_written : Token → Bool
is_written t = is_spelled (strict ++ signs) t

-- a name: an identifier that is raw or no keyword of its text's edition (Reference, "Identifiers" and "Keywords")
abbrev pub Name : Token → Type 0
Name t = (is_name t && not (is_written t)) ≡ true

-- the text of the token is older than 2018, and older than 2021
abbrev pub before_2018 : Edition → Bool
before_2018 E2015 = true
before_2018 _ = false

abbrev pub before_2021 : Edition → Bool
before_2021 E2021 = false
before_2021 _ = true

abbrev pub int_kind : TokenKind → Bool
int_kind (t.Int value suffix) = true
int_kind _ = false

-- a literal or `true` or `false` (Reference, "Literal expressions")
abbrev pub IsLiteralToken : Token → Type 0
IsLiteralToken t = ((is_literal t && not (is_written t)) || is_spelled (codes "true" ∷ codes "false" ∷ []) t) ≡ true

abbrev pub IsInt : Token → Type 0
IsInt t = (int_kind t.kind && not (is_written t)) ≡ true

-- an opening delimiter and the closing one that matches it
pub data Match (open' close : Token) : Type 0 where
  parens : Is (codes "(") open' → Is (codes ")") close → Match open' close
  brackets : Is (codes "[") open' → Is (codes "]") close → Match open' close
  braces : Is (codes "{") open' → Is (codes "}") close → Match open' close

abbrev pub delimiters : List (List ℕ)
delimiters = codes "(" ∷ codes ")" ∷ codes "[" ∷ codes "]" ∷ codes "{" ∷ codes "}" ∷ []

-- pieces whose delimiters match (Reference, "Macro invocation")
pub data Balanced : List Piece → Type 0 where
  nothing : {ys : List Piece} → ys ≡ [] → Balanced ys
  piece : {ys : List Piece} (y : Piece) (zs : List Piece) → ys ≡ y ∷ zs → ((t : Token) → y ≡ p.Token t → is_spelled delimiters t ≡ false) → Balanced zs → Balanced ys
  group : {ys : List Piece} (open' close : Token) (inner zs : List Piece) → ys ≡ p.Token open' ∷ (inner ++ p.Token close ∷ zs) → Match open' close → Balanced inner → Balanced zs → Balanced ys

-- a macro's text between its delimiters
pub record IsDelimited (d : Delimited) : Type 0 where
  pub ends : Match d.open d.close
  pub inside : Balanced d.text

-- after `( .. )` and `[ .. ]` stands a `;`, after `{ .. }` none
abbrev pub Ends : Delimited → Option Token → Type 0
Ends d semi = (Is (codes "{") d.open × (semi ≡ None)) ⊎ (((Is (codes "{") d.open) → ⊥) × ((t : Token) × (semi ≡ Some t) × Is (codes ";") t))
