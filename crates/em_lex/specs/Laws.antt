-- Laws of lexing.
use Rattle.std.specs.Prelude.{◌≡◌, ◌<◌, ◌≤◌, ◌⊎◌, ℕ, ◌-◌, Bool, true, not, ◌&&◌, nat_le, List, [], ◌∷◌, length, take, drop, slice_index, All}
use Rattle.em_base.specs.declared.edition.Edition.{Edition}
use Rattle.em_base.specs.declared.edition.Edition.TheVariants.{E2015, E2018}
use Rattle.em_base.specs.declared.token.Token.{Token}
use Rattle.em_lex.specs.declared.error.LexKind.{LexKind}
use Rattle.em_lex.specs.Lexing.{Lexes, FirstFault}
use Rattle.em_lex.specs.Marking.{HasRawForm, marked, moved}

-- a text has one list of tokens
abbrev pub OneLexing : Type 0
OneLexing = (file : ℕ) (edition : Edition) (text : List ℕ) (ts us : List Token) → Lexes file edition text ts → Lexes file edition text us → ts ≡ us

-- a text that has tokens has no fault
abbrev pub ListExcludesFault : Type 0
ListExcludesFault = (file : ℕ) (edition : Edition) (text : List ℕ) (ts : List Token) (kind : LexKind) (offset : ℕ) → Lexes file edition text ts → FirstFault edition text kind offset → ⊥

-- a text has one first fault
abbrev pub OneFault : Type 0
OneFault =
    (edition : Edition) (text : List ℕ) (kind other : LexKind) (offset place : ℕ) → FirstFault edition text kind offset → FirstFault edition text other place
    → (kind ≡ other) × (offset ≡ place)

-- a text has tokens or a first fault
abbrev pub ListOrFault : Type 0
ListOrFault =
    (file : ℕ) (edition : Edition) (text : List ℕ) → ((ts : List Token) × Lexes file edition text ts) ⊎ ((kind : LexKind) × (offset : ℕ) × FirstFault edition text kind offset)

-- the text with chosen words raw has the moved tokens
abbrev pub MarkedLexes : Type 0
MarkedLexes =
    (chosen : Token → Bool) (file : ℕ) (text : List ℕ) (ts : List Token) → All (HasRawForm chosen) ts → Lexes file E2015 text ts
    → Lexes file E2018 (marked chosen 0 text ts) (moved chosen E2018 0 ts)

-- no character of a UTF-8 text is cut at an offset: the byte there doesn't continue one
abbrev pub is_boundary : List ℕ → ℕ → Bool
is_boundary text offset = not (nat_le 128 (slice_index text offset) && nat_le (slice_index text offset) 191)

-- a token of the file and the edition, whose span is not empty, starts at an offset or behind it, lies in the text, cuts
-- no character, and has the token's bytes
pub record LiesIn (file : ℕ) (edition : Edition) (offset : ℕ) (text : List ℕ) (t : Token) : Type 0 where
  pub file_is : t.span.file ≡ file
  pub edition_is : t.edition ≡ edition
  pub behind : offset ≤ t.span.start
  pub some : t.span.start < t.span.end
  pub within : t.span.end ≤ length text
  pub bytes : t.text ≡ take (t.span.end - t.span.start) (drop t.span.start text)
  pub starts_whole : is_boundary text t.span.start ≡ true
  pub ends_whole : is_boundary text t.span.end ≡ true

-- tokens that lie in the text from an offset on, each behind the one before it
abbrev pub LieInOrder : ℕ → Edition → ℕ → List ℕ → List Token → Type 0
LieInOrder file edition offset text [] = Unit {0}
LieInOrder file edition offset text (t ∷ ts) = LiesIn file edition offset text t × LieInOrder file edition t.span.end text ts

-- the tokens of a text lie in it
abbrev pub TokensInText : Type 0
TokensInText = (file : ℕ) (edition : Edition) (text : List ℕ) (ts : List Token) → Lexes file edition text ts → LieInOrder file edition 0 text ts
