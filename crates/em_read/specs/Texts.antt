-- The delimiters that are open in a text.
use Rattle.std.specs.Prelude.{◌≡◌, Bool, true, false, List, [], ◌∷◌, ◌++◌, Option, Some, None, Result, Ok, Err}
use Rattle.em_base.specs.declared.token.Token.{Token}
use Rattle.em_grammar.specs.declared.sort.Sort.{Sort}
use Rattle.em_grammar.specs.Sorts.{sort_of}
use Rattle.em_grammar.specs.Reader.{Found, Absent, Deep}
use Rattle.em_grammar.specs.TextReader as spec
use Rattle.em_tree.specs.Starts.{Pieces}
use Rattle.em_tree.specs.declared.piece.Piece.TheVariants as p
use Rattle.em_read.specs.declared.stop.Stop.{Stop}
use Rattle.em_read.specs.declared.stop.Stop.TheVariants as stop
use Rattle.em_read.specs.declared.text.Shape.{Shape}
use Rattle.em_read.specs.declared.text.Shape.TheVariants as shape
use Rattle.em_read.specs.declared.text.Side.{Side}
use Rattle.em_read.specs.declared.text.Side.TheVariants as side
use Rattle.em_read.specs.declared.text.Unclosed.{Unclosed}

abbrev pub shape_as : Shape → spec.Shape
shape_as shape.Round = spec.Round
shape_as shape.Square = spec.Square
shape_as shape.Curly = spec.Curly

abbrev pub side_as : Side → spec.Side
side_as (side.Opens s) = spec.Opens (shape_as s)
side_as (side.Closes s) = spec.Closes (shape_as s)
side_as side.Neither = spec.Neither

abbrev pub shape_from : spec.Shape → Shape
shape_from spec.Round = shape.Round
shape_from spec.Square = shape.Square
shape_from spec.Curly = shape.Curly

-- a delimiter that opens, and its shape
abbrev pub opened_as : Token → Token × Shape
opened_as t = (t, shape_from (spec.shape_of (sort_of t)))

-- the shape of a delimiter that opens, and nothing for another token
abbrev pub Opened : Sort → Option Shape → Type 0
Opened k None = spec.opens_sort k ≡ false
Opened k (Some s) = (spec.opens_sort k ≡ true) × (shape_from (spec.shape_of k) ≡ s)

-- the delimiters that are open, the innermost first
abbrev pub stacked : List Shape → List spec.Shape
stacked [] = []
stacked (s ∷ rest) = stacked rest ++ shape_as s ∷ []

-- what a delimiter that closes leaves open
abbrev pub Closed : Unclosed → Shape → Result Bool Stop → Unclosed → Type 0
Closed old s (Ok true) new = (spec.same_shape (shape_as s) (shape_as old.inner) ≡ true) × (stacked old.outer ≡ [])
Closed old s (Ok false) new = (spec.same_shape (shape_as s) (shape_as old.inner) ≡ true) × (stacked old.outer ≡ shape_as new.inner ∷ stacked new.outer)
Closed old s (Err stop.Absent) new = spec.same_shape (shape_as s) (shape_as old.inner) ≡ false
Closed old s (Err _) new = ⊥

-- what a token does to what is open: it closes the last delimiter, or it goes on with the text, or it closes another one
abbrev pub Turned : Token → Unclosed → Result Bool Stop → Unclosed → Type 0
Turned t old (Ok true) new =
    (found rest : Pieces) → spec.text_in (shape_as old.inner) (stacked old.outer) found (p.Token t ∷ rest) ≡ Found (found, t) rest
Turned t old (Ok false) new =
    (found rest : Pieces) → spec.text_in (shape_as old.inner) (stacked old.outer) found (p.Token t ∷ rest) ≡ spec.text_in (shape_as new.inner) (stacked new.outer) (found ++ p.Token t ∷ []) rest
Turned t old (Err stop.Absent) new = (found rest : Pieces) → spec.text_in (shape_as old.inner) (stacked old.outer) found (p.Token t ∷ rest) ≡ Absent
Turned t old (Err stop.Deep) new = (found rest : Pieces) → spec.text_in (shape_as old.inner) (stacked old.outer) found (p.Token t ∷ rest) ≡ Deep
Turned t old (Err stop.NoMemory) new = Unit {0}
