-- A reading of fragments that the tests alone use: each is one piece. A `-` is broken, and a `~` nests too deep.
use Rattle.std.specs.Prelude.{◌≡◌, ◌<◌, ℕ, suc, Bool, true, false, not, List, [], ◌∷◌, length, codes}
use Rattle.std.proofs.Common.{refl, sym, ◌∙◌, ap, subst}
use Rattle.std.proofs.Math.Nat.{lt-suc_self}
use Rattle.em_tree.specs.declared.piece.PieceList.{roll-PieceList}
use Rattle.em_tree.specs.declared.piece.Piece.{Piece}
use Rattle.em_tree.specs.declared.piece.Piece.TheVariants as p
use Rattle.em_tree.specs.Starts.{Pieces, starts}
use Rattle.em_macro.specs.declared.matched.Taken.{Taken}
use Rattle.em_macro.specs.declared.rules.Specifier.{Specifier}
use Rattle.em_macro.specs.Form.{is_sign}
use Rattle.em_macro.specs.Match.{Reading, Outcome, Takes, CannotStart, NoPrefix, TooDeep, NeverEmpty, Starting, starts_at, cannot_start}

abbrev pub one : Specifier → Piece → Taken
one kind x = record { kind = kind.kind; edition = kind.edition; pieces = roll-PieceList (record { list = x ∷ [] }) }

abbrev pub is_sign_piece : List ℕ → Piece → Bool
is_sign_piece text (p.Token t) = is_sign text t
is_sign_piece text (p.Group g) = false

abbrev pub chosen : Bool → Bool → Specifier → Piece → Pieces → Outcome
chosen true deep kind x i = NoPrefix
chosen false true kind x i = TooDeep
chosen false false kind x i = Takes (one kind x) i

abbrev pub front : Specifier → Pieces → Outcome
front kind [] = CannotStart
front kind (x ∷ i) = chosen (is_sign_piece (codes "-") x) (is_sign_piece (codes "~") x) kind x i

abbrev pub started : Bool → Outcome → Outcome
started true o = o
started false o = CannotStart

abbrev pub reads : Reading
reads kind i = started (starts_at kind i) (front kind i)

-- ---- what a reading owes

abbrev IsTaken : Outcome → Pieces → Type 0
IsTaken (Takes f r) i = r ≡ i
IsTaken CannotStart i = ⊥
IsTaken NoPrefix i = ⊥
IsTaken TooDeep i = ⊥

taken_of : (o : Outcome) (f : Taken) (r i : Pieces) → o ≡ Takes f r → IsTaken (Takes f r) i → IsTaken o i
taken_of o f r i is h = subst (λ x. IsTaken x i) (sym is) h

shorter : (x : Piece) (i r : Pieces) → r ≡ i → length r < suc (length i)
shorter x i r is = subst (λ z. length z < suc (length i)) (sym is) (lt-suc_self (length i))

pub never_empty : NeverEmpty reads
never_empty kind i r f is = go (starts_at kind i) i is
  where
    piece : (broken deep : Bool) (x : Piece) (i : Pieces) → chosen broken deep kind x i ≡ Takes f r → length r < suc (length i)
    piece true deep x i is = absurd (taken_of NoPrefix f r r is refl)
    piece false true x i is = absurd (taken_of TooDeep f r r is refl)
    piece false false x i is = shorter x i r (sym (taken_of (Takes (one kind x) i) f r r is refl))

    go : (b : Bool) (i : Pieces) → started b (front kind i) ≡ Takes f r → length r < length i
    go false i is = absurd (taken_of CannotStart f r r is refl)
    go true [] is = absurd (taken_of CannotStart f r r is refl)
    go true (x ∷ i) is = piece (is_sign_piece (codes "-") x) (is_sign_piece (codes "~") x) x i is

none : (kind : Specifier) → starts_at kind [] ≡ false
unfolding starts
none kind = refl

pub starting : Starting reads
starting kind [] = none kind ∙ ap (λ b. not (cannot_start (started b CannotStart))) (sym (none kind))
starting kind (x ∷ i) = go (starts_at kind (x ∷ i)) (is_sign_piece (codes "-") x) (is_sign_piece (codes "~") x)
  where
    go : (s broken deep : Bool) → s ≡ not (cannot_start (started s (chosen broken deep kind x i)))
    go false broken deep = refl
    go true true deep = refl
    go true false true = refl
    go true false false = refl
