-- How the code walks through a text. No definition of what a token or a fault is rests on this.
use Rattle.std.specs.Prelude.{◌≡◌, ◌≤◌, ℕ, ◌+◌, Bool, false, ◌||◌, ◌==◌, slice_index, if◌then◌else◌, List, [], ◌∷◌, ◌++◌, length, take, encode_utf8_all}
use Rattle.std.specs.Str.{bytes_eq}
use Rattle.em_base.specs.declared.edition.Edition.{Edition}
use Rattle.em_base.specs.declared.token.Token.{Token}
use Rattle.em_base.specs.declared.token.TokenKind.{TokenKind}
use Rattle.em_lex.specs.declared.error.LexKind.{LexKind}
use Rattle.em_lex.specs.declared.error.LexError.{LexError}
use Rattle.em_lex.specs.declared.error.LexError.TheVariants.{NoMemory, At, Limit}
use Rattle.em_lex.specs.declared.piece.Piece.{Piece}
use Rattle.em_lex.specs.declared.piece.Piece.TheVariants.{Trivia, Token as Took, Fault}
use Rattle.em_lex.specs.declared.lexer.Place.{Place}
use Rattle.em_lex.specs.Characters.{Chars}
use Rattle.em_lex.specs.Faults.{First}
use Rattle.em_lex.specs.Lexing.{Part, Tiles, byte_len, tokens_of, Fails}

abbrev pub token_at : ℕ → Edition → ℕ → Bool → TokenKind → Chars → Token
token_at file edition start doc kind w = record {
  kind = kind;
  text = encode_utf8_all w;
  span = record { file = file; start = start; end = start + byte_len w };
  edition = edition;
  marks = [];
  doc = doc;
}

abbrev pub behind_trivia : Place → ℕ → Bool → Place
behind_trivia p n doc = record { file = p.file; edition = p.edition; start = p.start + n; doc = p.doc || doc; dot = false }

abbrev pub behind_token : Place → ℕ → Bool → Place
behind_token p n dot = record { file = p.file; edition = p.edition; start = p.start + n; doc = false; dot = dot }

-- the piece lies in the text
abbrev pub piece_within : Piece → Chars → Type 0
piece_within (Trivia n doc) rest = n ≤ length rest
piece_within (Took kind n) rest = n ≤ length rest
piece_within (Fault kind at) rest = at ≤ length rest

-- what a piece adds to the tokens, and the place behind it
abbrev pub Kept : List Token → List Token → Place → Piece → Chars → Place → ℕ → Type 0
Kept old new place (Trivia n doc) rest next len = (new ≡ old) × (next ≡ behind_trivia place (byte_len (take n rest)) doc) × (len ≡ n)
Kept old new place (Took kind n) rest next len =
    (new ≡ old ++ token_at place.file place.edition place.start place.doc kind (take n rest) ∷ [])
    × (next ≡ behind_token place (byte_len (take n rest)) (bytes_eq (take n rest) (46 ∷ []))) × (len ≡ n)
Kept old new place (Fault kind at) rest next len = ⊥

-- the fault that a piece is
abbrev pub FaultAt : Place → Piece → Chars → ℕ → LexKind → Type 0
FaultAt place (Trivia n doc) rest offset kind = ⊥
FaultAt place (Took k n) rest offset kind = ⊥
FaultAt place (Fault k at) rest offset kind = (k ≡ kind) × (offset ≡ place.start + byte_len (take at rest))

abbrev pub RefusedAt : Place → Piece → Chars → LexError → Type 0
RefusedAt place piece rest NoMemory = Unit {0}
RefusedAt place piece rest (At offset kind) = FaultAt place piece rest offset kind
RefusedAt place piece rest (Limit l) = ⊥

-- the tokens of characters from an offset on
abbrev pub LexesFrom : ℕ → Edition → ℕ → Chars → List Token → Type 0
LexesFrom file edition offset text ts = (ps : List Part) × (dot : Bool) × Tiles edition false text ps dot [] × (ts ≡ tokens_of file edition offset false ps)

-- their first fault
pub record FailsFrom (edition : Edition) (offset : ℕ) (text : Chars) (place : ℕ) (kind : LexKind) : Type 0 where
  pub parts : List Part
  pub dot : Bool
  pub left : Chars
  pub at : ℕ
  pub tiles : Tiles edition false text parts dot left
  pub first : First edition dot left kind at
  pub place_is : place + byte_len left ≡ offset + byte_len text + byte_len (take at left)

abbrev pub RefusedFrom : Edition → ℕ → Chars → LexError → Type 0
RefusedFrom edition offset text NoMemory = Unit {0}
RefusedFrom edition offset text (At place kind) = FailsFrom edition offset text place kind
RefusedFrom edition offset text (Limit l) = ⊥

-- how many characters a byte order mark in front is
abbrev pub mark_len : Chars → ℕ
mark_len cs = if slice_index cs 0 == 0xFEFF then 1 else 0

-- a text that is UTF-8 is refused at its first fault
abbrev pub RefusedText : Edition → List ℕ → LexError → Type 0
RefusedText edition bytes NoMemory = Unit {0}
RefusedText edition bytes (At place kind) = Fails edition bytes kind place
RefusedText edition bytes (Limit l) = ⊥
