-- Laws of edited texts.
use Rattle.std.specs.Prelude.{◌≡◌, ◌⊎◌, ℕ, ◌+◌, ◌-◌, ◌≤◌, List, [], ◌∷◌, ◌++◌, length, take, drop, Some, slice_get, All}
use Rattle.std.specs.List.{filter_map}
use Rattle.em_base.specs.declared.edit.Part.{Part}
use Rattle.em_base.specs.declared.edit.Suggestion.{Suggestion}
use Rattle.em_base.specs.declared.place.Span.{Span}
use Rattle.em_edit.specs.Edited.{parts_of, edited, edited_on}
use Rattle.em_edit.specs.Fit.{AreApplicable}
use Rattle.em_edit.specs.Moved.{moved_span}
use Rattle.em_edit.specs.Selected.{IsSelection}

-- with no part the text stays
abbrev pub NoPartKeeps : Type 0
NoPartKeeps = (offset : ℕ) (text : List ℕ) → edited_on [] offset text ≡ text

-- all parts start at an offset or behind it
abbrev pub StartFrom : ℕ → List Part → Type 0
StartFrom offset parts = All (λ p. offset ≤ p.span.start) parts

-- the part that comes before all others: the text before it is kept, its own text follows, and then the others are put into the rest
abbrev pub FirstPartFirst : Type 0
FirstPartFirst =
    (offset : ℕ) (p : Part) (ps : List Part) (text : List ℕ)
    → offset ≤ p.span.start → p.span.start ≤ p.span.end → p.span.end ≤ offset + length text
    → StartFrom p.span.end ps → StartFrom (p.span.start + 1) ps
    → edited_on (p ∷ ps) offset text ≡ take (p.span.start - offset) text ++ (p.text ++ edited_on ps p.span.end (drop (p.span.end - offset) text))

-- the findings at indices
abbrev pub picked : List Suggestion → List ℕ → List Suggestion
picked findings indices = filter_map (λ i. slice_get findings i) indices

-- the findings that are taken can be applied together, if each can be applied alone: its parts are ranges of the sources on
-- character boundaries, and no two of them meet
abbrev pub TakenFit : Type 0
TakenFit =
    (sources : List (List ℕ)) (findings : List Suggestion) (taken : List ℕ)
    → IsSelection findings taken
    → All (λ s. AreApplicable sources (s ∷ [])) (picked findings taken)
    → AreApplicable sources (picked findings taken)

-- no suggestion moves a range
abbrev pub NoneMoves : Type 0
NoneMoves = (span : Span) → moved_span [] span ≡ span

-- of two ranges of a file the one that ends before the other starts does so after the suggestions too
abbrev pub OrderStays : Type 0
OrderStays =
    (taken : List Suggestion) (one other : Span)
    → one.file ≡ other.file → one.start ≤ one.end → one.end ≤ other.start
    → (moved_span taken one).end ≤ (moved_span taken other).start

-- a part takes no byte of a range, and is put in at none of its inner offsets
abbrev pub IsOutside : Span → Part → Type 0
IsOutside span p = (p.span.end ≤ span.start) ⊎ (span.end ≤ p.span.start)

-- the bytes of a range that is outside of all parts are found again at its moved place
abbrev pub OutsideStays : Type 0
OutsideStays =
    (sources : List (List ℕ)) (taken : List Suggestion) (span : Span) (text : List ℕ)
    → AreApplicable sources taken → slice_get sources span.file ≡ Some text
    → span.start ≤ span.end → span.end ≤ length text
    → All (IsOutside span) (parts_of span.file taken)
    → take ((moved_span taken span).end - (moved_span taken span).start) (drop (moved_span taken span).start (edited span.file taken text))
    ≡ take (span.end - span.start) (drop span.start text)
