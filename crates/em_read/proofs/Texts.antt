-- Delimiters in a text.
use Rattle.std.proofs.Common.{◌≡◌, ◌∙◌, Bool, true, false, List, [], ◌∷◌, ◌++◌, Result, Ok, Err, refl, ap, rules, arith}
use Rattle.std.proofs.lemmas.Grind.{common_steps}
use Rattle.em_base.specs.declared.token.Token.{Token}
use Rattle.em_grammar.specs.Sorts.{sort_of}
use Rattle.em_grammar.specs.Reader.{Absent}
use Rattle.em_grammar.specs.TextReader as spec
use Rattle.em_grammar.specs.TextReader.{text_in}
use Rattle.em_tree.specs.Starts.{Pieces}
use Rattle.em_tree.specs.declared.piece.Piece.TheVariants as p
use Rattle.em_read.specs.declared.stop.Stop.{Stop}
use Rattle.em_read.specs.declared.stop.Stop.TheVariants as stop
use Rattle.em_read.specs.declared.text.Shape.{Shape}
use Rattle.em_read.specs.declared.text.Unclosed.{Unclosed}
use Rattle.em_read.specs.Texts.{stacked, shape_as, Turned, Closed}

pub stacked_last : (xs : List Shape) (x : Shape) → stacked (xs ++ x ∷ []) ≡ shape_as x ∷ stacked xs
stacked_last [] x = refl
stacked_last (y ∷ ys) x = ap (λ r. r ++ shape_as y ∷ []) (stacked_last ys x)

abbrev At : Shape → List spec.Shape → Pieces → Token → Pieces → spec.Side → Type 0
At inner outer found t rest side =
    text_in (shape_as inner) outer found (p.Token t ∷ rest) ≡ spec.at_side side t (shape_as inner) outer found rest (λ a b c. text_in a b c rest)

at : (inner : Shape) (outer : List spec.Shape) (found : Pieces) (t : Token) (rest : Pieces) (side : spec.Side) → spec.side (sort_of t) ≡ side → At inner outer found t rest side
unfolding text_in
at inner outer found t rest side is = ap (λ x. spec.at_side x t (shape_as inner) outer found rest (λ a b c. text_in a b c rest)) is

pub turn_neither : (t : Token) (u : Unclosed) → spec.side (sort_of t) ≡ spec.Neither → Turned t u (Ok false) u
turn_neither t u is found rest = at u.inner (stacked u.outer) found t rest _ is

pub turn_opens : (t : Token) (old new : Unclosed) (s : Shape) → spec.side (sort_of t) ≡ spec.Opens (shape_as s) → new.outer ≡ old.outer ++ old.inner ∷ [] → new.inner ≡ s → Turned t old (Ok false) new
turn_opens t old new s is outer inner found rest =
    at old.inner (stacked old.outer) found t rest _ is
    ∙ rw (inner, outer, stacked_last old.outer old.inner) refl

shut : (s inner : Shape) (t : Token) (outer : List spec.Shape) (found rest : Pieces) → spec.same_shape (shape_as s) (shape_as inner) ≡ false
    → spec.at_side (spec.Closes (shape_as s)) t (shape_as inner) outer found rest (λ a b c. text_in a b c rest) ≡ Absent
shut s inner t [] found rest e = rw (e) refl
shut s inner t (x ∷ xs) found rest e = rw (e) refl

pub turn_closes : (t : Token) (old new : Unclosed) (s : Shape) (r : Result Bool Stop) → spec.side (sort_of t) ≡ spec.Closes (shape_as s) → Closed old s r new → Turned t old r new
turn_closes t old new s (Ok true) is c = λ found rest. at old.inner (stacked old.outer) found t rest _ is ∙ rw (c.1, c.0) refl
turn_closes t old new s (Ok false) is c = λ found rest. at old.inner (stacked old.outer) found t rest _ is ∙ rw (c.1, c.0) refl
turn_closes t old new s (Err stop.Absent) is c = λ found rest. at old.inner (stacked old.outer) found t rest _ is ∙ shut s old.inner t (stacked old.outer) found rest c
turn_closes t old new s (Err stop.Deep) is c = absurd c
turn_closes t old new s (Err stop.NoMemory) is c = absurd c

pub closes_under : (xs ys : List Shape) (x : Shape) → xs ≡ ys ++ x ∷ [] → stacked xs ≡ shape_as x ∷ stacked ys
closes_under xs ys x is = ap stacked is ∙ stacked_last ys x
