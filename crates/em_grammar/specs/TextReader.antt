-- How the text of a macro between its delimiters is read: with a list of the delimiters that are open, the innermost first.
use Rattle.std.specs.Prelude.{ℕ, Bool, true, false, if◌then◌else◌, List, [], ◌∷◌, ◌++◌}
use Rattle.em_base.specs.declared.token.Token.{Token}
use Rattle.em_tree.specs.declared.piece.Delimited.{Delimited}
use Rattle.em_tree.specs.declared.piece.Piece.TheVariants as p
use Rattle.em_tree.specs.Starts.{Pieces}
use Rattle.em_tree.specs.Yields.{piece}
use Rattle.em_tree.specs.Tokens.{IsDelimited}
use Rattle.em_grammar.specs.declared.sort.Written.TheVariants as word
use Rattle.em_grammar.specs.declared.sort.Sort.{Sort}
use Rattle.em_grammar.specs.declared.sort.Sort.TheVariants as sort
use Rattle.em_grammar.specs.Sorts.{sort_of}
use Rattle.em_grammar.specs.Sets.{tokens, Nested, anything, any_of}
use Rattle.em_grammar.specs.Reader.{Read, Found, Absent, token, chain, mapped}
use Rattle.em_grammar.specs.Pairs.{Pair}

pub data Shape : Type 0 where
  Round : Shape
  Square : Shape
  Curly : Shape

pub data Side : Type 0 where
  Opens : Shape → Side
  Closes : Shape → Side
  Neither : Side

abbrev pub side : Sort → Side
side (sort.Written word.OpenParen) = Opens Round
side (sort.Written word.OpenBracket) = Opens Square
side (sort.Written word.OpenBrace) = Opens Curly
side (sort.Written word.CloseParen) = Closes Round
side (sort.Written word.CloseBracket) = Closes Square
side (sort.Written word.CloseBrace) = Closes Curly
side _ = Neither

abbrev pub same_shape : Shape → Shape → Bool
same_shape Round Round = true
same_shape Square Square = true
same_shape Curly Curly = true
same_shape _ _ = false

abbrev pub shape_of : Sort → Shape
shape_of (sort.Written word.OpenBracket) = Square
shape_of (sort.Written word.OpenBrace) = Curly
shape_of _ = Round

abbrev pub opens_sort : Sort → Bool
opens_sort k = any_of (word.OpenParen ∷ word.OpenBracket ∷ word.OpenBrace ∷ []) k

-- what a token does, where `go` reads what is behind it
abbrev pub at_side : Side → Token → Shape → List Shape → Pieces → Pieces → (Shape → List Shape → Pieces → Read (Pieces × Token)) → Read (Pieces × Token)
at_side (Opens s) t inner outer found r go = go s (inner ∷ outer) (found ++ p.Token t ∷ [])
at_side Neither t inner outer found r go = go inner outer (found ++ p.Token t ∷ [])
at_side (Closes s) t inner [] found r go = if same_shape s inner then Found (found, t) r else Absent
at_side (Closes s) t inner (under ∷ outer) found r go = if same_shape s inner then go under outer (found ++ p.Token t ∷ []) else Absent

-- the text up to the delimiter that closes the outermost one, and that delimiter
unfoldable pub text_in : Shape → List Shape → Pieces → Pieces → Read (Pieces × Token)
text_in inner outer found [] = Absent
text_in inner outer found (p.Group g ∷ r) = text_in inner outer (found ++ p.Group g ∷ []) r
text_in inner outer found (p.Token t ∷ r) = at_side (side (sort_of t)) t inner outer found r (λ a b c. text_in a b c r)

abbrev pub opening : Token → Bool
opening t = opens_sort (sort_of t)

abbrev pub delimited_of : Token × (Pieces × Token) → Delimited
delimited_of t = record { «open» = t.0; text = t.1.0; close = t.1.1 }

abbrev pub delimited : Pieces → Read Delimited
delimited = mapped delimited_of (chain (token opening) (λ o. text_in (shape_of (sort_of o)) [] []))

abbrev pub delimited_pieces : Delimited → Pieces
delimited_pieces d = piece d.open ++ (d.text ++ piece d.close)

-- a macro's text between its delimiters is read
abbrev pub TextsRead : Type 0
TextsRead = (n depth : ℕ) → Pair (Nested n) depth (λ d. IsDelimited) delimited_pieces delimited (tokens opens_sort) (λ _. anything)
