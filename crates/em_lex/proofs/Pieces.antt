-- What a piece claims of a text.
use Rattle.std.proofs.Common.{◌≡◌, ℕ, ◌≤◌, Bool, true, ◌++◌, length}
use Rattle.em_base.specs.declared.edition.Edition.{Edition}
use Rattle.em_base.specs.declared.token.TokenKind.{TokenKind}
use Rattle.em_lex.specs.declared.error.LexKind.{LexKind}
use Rattle.em_lex.specs.declared.piece.Piece.{Piece}
use Rattle.em_lex.specs.declared.piece.Piece.TheVariants.{Trivia as Gap, Token as Took, Fault as Bad}
use Rattle.em_lex.specs.Characters.{Chars}
use Rattle.em_lex.specs.Trivia.{IsTrivia, begins_comment}
use Rattle.em_lex.specs.Spelling.{Spells}
use Rattle.em_lex.specs.Faults.{Fault as Stands, ToldBefore}

-- a front of a text, of so many characters
pub record Front (text : Chars) (n : ℕ) : Type 0 where
  pub w : Chars
  pub left : Chars
  pub parts : text ≡ w ++ left
  pub len : n ≡ length w

-- what the code finds stands there
abbrev pub Holds : Edition → Bool → Chars → Piece → Type 0
Holds e dot text (Gap n doc) = (f : Front text n) × IsTrivia f.w doc f.left
Holds e dot text (Took kind n) = (f : Front text n) × Spells dot f.w kind
Holds e dot text (Bad kind at) = Stands e dot text kind at

-- where m characters of the text spell a token of this kind, the piece is no shorter token, and this one if it is as long
abbrev pub Covered : Chars → Piece → TokenKind → ℕ → Type 0
Covered text (Gap n doc) kind m = begins_comment text ≡ true
Covered text (Took other n) kind m = (m ≤ n) × (m ≡ n → kind ≡ other)
Covered text (Bad fault at) kind m = Unit {0}

-- where a fault stands, the piece is one that is told before it, or this one
abbrev pub Told : Piece → LexKind → ℕ → Type 0
Told (Gap n doc) kind at = ⊥
Told (Took other n) kind at = ⊥
Told (Bad other place) kind at = ToldBefore other place kind at
