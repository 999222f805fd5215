-- When suggestions are refused: the first bad one and its first fault.
use Rattle.std.specs.Prelude.{◌≡◌, ℕ, ◌+◌, ◌≤◌, true, List, length, Some, slice_get, take, All, Any}
use Rattle.em_base.specs.declared.edit.Part.{Part}
use Rattle.em_base.specs.declared.edit.Suggestion.{Suggestion}
use Rattle.em_edit.specs.declared.bad_edit.BadEdit.{BadEdit}
use Rattle.em_edit.specs.declared.bad_edit.BadEdit.TheVariants.{NoMemory, OutOfText, NotBoundary, Overlap}
use Rattle.em_edit.specs.Edited.{all_parts}
use Rattle.em_edit.specs.Fit.{is_boundary, LiesIn, AreApplicable}
use Rattle.em_edit.specs.Meet.{TwoMeet}

-- a part is a range of a source: it ends in its text, and not before its start
pub record IsInText (sources : List (List ℕ)) (p : Part) : Type 0 where
  pub text : List ℕ
  pub file : slice_get sources p.span.file ≡ Some text
  pub ordered : p.span.start ≤ p.span.end
  pub within : p.span.end ≤ length text

-- no character of its source is cut at a part's start or end
pub record IsOnBoundaries (sources : List (List ℕ)) (p : Part) : Type 0 where
  pub text : List ℕ
  pub file : slice_get sources p.span.file ≡ Some text
  pub starts_whole : is_boundary text p.span.start ≡ true
  pub ends_whole : is_boundary text p.span.end ≡ true

-- a suggestion stands at an index, and those before it can be applied
pub record StandsAt (sources : List (List ℕ)) (taken : List Suggestion) (which : ℕ) (s : Suggestion) : Type 0 where
  pub here : slice_get taken which ≡ Some s
  pub before : AreApplicable sources (take which taken)

-- some part of it is in no text
pub record IsOutOfText (sources : List (List ℕ)) (taken : List Suggestion) (which : ℕ) : Type 0 where
  pub suggestion : Suggestion
  pub stands : StandsAt sources taken which suggestion
  pub out : Any (λ p. IsInText sources p → ⊥) suggestion.parts

-- all its parts are in texts, and some part cuts a character
pub record IsOffBoundary (sources : List (List ℕ)) (taken : List Suggestion) (which : ℕ) : Type 0 where
  pub suggestion : Suggestion
  pub stands : StandsAt sources taken which suggestion
  pub inside : All (IsInText sources) suggestion.parts
  pub cut : Any (λ p. IsOnBoundaries sources p → ⊥) suggestion.parts

-- all its parts are ranges of texts on boundaries, and one meets another of it or of those before
pub record IsOverlap (sources : List (List ℕ)) (taken : List Suggestion) (which : ℕ) : Type 0 where
  pub suggestion : Suggestion
  pub stands : StandsAt sources taken which suggestion
  pub lie : All (LiesIn sources) suggestion.parts
  pub meet : TwoMeet (all_parts (take (which + 1) taken))

-- why suggestions are refused
abbrev pub IsRefused : List (List ℕ) → List Suggestion → BadEdit → Type 0
IsRefused sources taken NoMemory = Unit {0}
IsRefused sources taken (OutOfText which) = IsOutOfText sources taken which
IsRefused sources taken (NotBoundary which) = IsOffBoundary sources taken which
IsRefused sources taken (Overlap which) = IsOverlap sources taken which
