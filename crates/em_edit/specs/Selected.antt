-- Which findings are taken.
use Rattle.std.specs.Prelude.{◌≡◌, ◌⊎◌, ℕ, ◌+◌, ◌<◌, List, [], ◌∷◌, ◌++◌, length, Some, slice_get, All, AllPairs, Contains}
use Rattle.em_base.specs.declared.edit.Part.{Part}
use Rattle.em_base.specs.declared.edit.Suggestion.{Suggestion}
use Rattle.em_base.specs.declared.place.Span.{Span}
use Rattle.em_edit.specs.Meet.{OneMeets}

-- the order of ranges by file, start and end
abbrev pub Precedes : Span → Span → Type 0
Precedes a b = (a.file < b.file) ⊎ ((a.file ≡ b.file) × ((a.start < b.start) ⊎ ((a.start ≡ b.start) × (a.end < b.end))))

-- a finding is walked before another: by their anchors, and where these are equal by their places in the list
pub record IsBefore (findings : List Suggestion) (one other : ℕ) : Type 0 where
  pub s : Suggestion
  pub t : Suggestion
  pub first : slice_get findings one ≡ Some s
  pub second : slice_get findings other ≡ Some t
  pub order : Precedes s.anchor t.anchor ⊎ ((s.anchor ≡ t.anchor) × (one < other))

-- the indices of all findings in the order of their walk
pub record IsWalk (findings : List Suggestion) (order : List ℕ) : Type 0 where
  pub within : All (λ i. i < length findings) order
  pub all : (i : ℕ) → i < length findings → Contains order i
  pub ordered : AllPairs (IsBefore findings) order

-- of the findings that are left to walk these are taken, behind findings with these parts: each exactly if no part of it
-- meets one of a finding that is taken before
abbrev pub Takes : List Suggestion → List Part → List ℕ → List ℕ → Type 0
Takes findings before [] taken = taken ≡ []
Takes findings before (i ∷ is) taken =
    (s : Suggestion) × (slice_get findings i ≡ Some s)
    × (((OneMeets s.parts before → ⊥) × ((rest : List ℕ) × (taken ≡ i ∷ rest) × Takes findings (before ++ s.parts) is rest))
    ⊎ (OneMeets s.parts before × Takes findings before is taken))

-- these findings are taken, in this order
pub record IsSelection (findings : List Suggestion) (taken : List ℕ) : Type 0 where
  pub order : List ℕ
  pub walk : IsWalk findings order
  pub takes : Takes findings [] order taken

-- a finding's anchor and its index, as a walk is sorted by them
abbrev pub Turn : Type 0
Turn = (ℕ × ℕ × ℕ) × ℕ

abbrev pub turn_of : Suggestion → ℕ → Turn
turn_of s i = ((s.anchor.file, s.anchor.start, s.anchor.end), i)

abbrev pub turns_from : ℕ → List Suggestion → List Turn
turns_from i [] = []
turns_from i (s ∷ ss) = turn_of s i ∷ turns_from (i + 1) ss
