-- How readers are put together.
use Rattle.std.specs.Prelude.{ℕ, zero, suc, Bool, if◌then◌else◌, List, [], ◌∷◌, ◌++◌, length, Option, Some, None}
use Rattle.em_base.specs.declared.token.Token.{Token}
use Rattle.em_tree.specs.declared.parts.Listed.{Listed}
use Rattle.em_tree.specs.declared.piece.Group.{Group}
use Rattle.em_tree.specs.declared.piece.Piece.TheVariants as p
use Rattle.em_tree.specs.Starts.{Pieces, pieces_of}
use Rattle.em_grammar.specs.declared.sort.Written.TheVariants as word
use Rattle.em_grammar.specs.Sets.{Set, next, is_sign}
use Rattle.em_grammar.specs.Lang.{listed}

-- what was read and what is left; that nothing is there to be read; or that it nests too deep to tell
pub data Read (T : Type 0) : Type 0 where
  Found : T → Pieces → Read T
  Absent : Read T
  Deep : Read T

abbrev pub and_then : {A B : Type 0} → Read A → (A → Pieces → Read B) → Read B
and_then (Found a r) f = f a r
and_then Absent f = Absent
and_then Deep f = Deep

-- goes on with `f` where something was read, and stays at `b` where nothing is there
abbrev pub or_stay : {A B : Type 0} → Read A → (A → Pieces → Read B) → Read B → Read B
or_stay (Found a r) f b = f a r
or_stay Absent f b = b
or_stay Deep f b = Deep

abbrev pub token : (Token → Bool) → Pieces → Read Token
token test [] = Absent
token test (p.Group g ∷ r) = Absent
token test (p.Token t ∷ r) = if test t then Found t r else Absent

-- what was read, if it is all that was there
abbrev pub entire : {A : Type 0} → Read A → Read A
entire (Found a []) = Found a []
entire (Found a (x ∷ r)) = Absent
entire Absent = Absent
entire Deep = Deep

-- a group, whose pieces are read by `R`
abbrev pub group : {A : Type 0} → (Group → Bool) → (Pieces → Read A) → Pieces → Read (Group × A)
group test R [] = Absent
group test R (p.Token t ∷ r) = Absent
group test R (p.Group g ∷ r) = if test g then and_then (entire (R (pieces_of g))) (λ a e. Found (g, a) r) else Absent

-- one after the other, which may depend on it
abbrev pub chain : {A B : Type 0} → (Pieces → Read A) → (A → Pieces → Read B) → Pieces → Read (A × B)
chain P Q i = and_then (P i) (λ a r. and_then (Q a r) (λ b s. Found (a, b) s))

abbrev pub seq : {A B : Type 0} → (Pieces → Read A) → (Pieces → Read B) → Pieces → Read (A × B)
seq P Q i = and_then (P i) (λ a r. and_then (Q r) (λ b s. Found (a, b) s))

abbrev pub mapped : {A B : Type 0} → (A → B) → (Pieces → Read A) → Pieces → Read B
mapped f P i = and_then (P i) (λ a r. Found (f a) r)

abbrev pub opt : {A : Type 0} → (Pieces → Read A) → Pieces → Read (Option A)
opt P i = or_stay (P i) (λ a r. Found (Some a) r) (Found None i)

-- by what stands next
abbrev pub choice : {A : Type 0} → Set → (Pieces → Read A) → (Pieces → Read A) → Pieces → Read A
choice s P Q i = if next s i then P i else Q i

-- the first, or where it isn't there the second
abbrev pub or_else : {A : Type 0} → (Pieces → Read A) → (Pieces → Read A) → Pieces → Read A
or_else P Q i = or_stay (P i) (λ a r. Found a r) (Q i)

-- only under a condition
abbrev pub when : {A : Type 0} → Bool → (Pieces → Read A) → Pieces → Read A
when b P i = if b then P i else Absent

unfoldable pub many : {A : Type 0} → (Pieces → Read A) → ℕ → List A → Pieces → Read (List A)
many P zero found i = Found found i
many P (suc n) found i = or_stay (P i) (λ a r. many P n (found ++ a ∷ []) r) (Found found i)

-- as many as there are
abbrev pub all_of : {A : Type 0} → (Pieces → Read A) → Pieces → Read (List A)
all_of P i = many P (length i) [] i

unfoldable pub commas : {A : Type 0} → (Pieces → Read A) → ℕ → List (Listed A) → Pieces → Read (List (Listed A))
commas P zero found i = Found found i
commas P (suc n) found i = or_stay (P i)
    (λ x r. or_stay (token (is_sign word.Comma) r) (λ c s. commas P n (found ++ listed x (Some c) ∷ []) s) (Found (found ++ listed x None ∷ []) r))
    (Found found i)

-- a list with commas, as long as it goes
abbrev pub list_of : {A : Type 0} → (Pieces → Read A) → Pieces → Read (List (Listed A))
list_of P i = commas P (length i) [] i
