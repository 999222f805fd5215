-- Where a place of a text is found after the parts of suggestions are applied.
use Rattle.std.specs.Prelude.{◌≡◌, ℕ, zero, suc, ◌+◌, ◌^◌, ◌<◌, ◌≤◌, Bool, true, ◌&&◌, ◌||◌, nat_lt, ◌==◌, List, length, Some, slice_get, filter, sum_by, if◌then◌else◌}
use Rattle.em_base.specs.declared.edit.Part.{Part}
use Rattle.em_base.specs.declared.edit.Suggestion.{Suggestion}
use Rattle.em_base.specs.declared.place.Span.{Span}
use Rattle.em_edit.specs.Edited.{is_replaced, parts_of, edited}
use Rattle.em_edit.specs.Fit.{AreApplicable}

-- how many bytes before an offset no part replaces
abbrev pub kept_before : List Part → ℕ → ℕ
kept_before parts zero = 0
kept_before parts (suc offset) = kept_before parts offset + (if is_replaced parts offset then 0 else 1)

-- a part's text is put in before an offset: the part starts before it, or is an insertion there that the offset passes
abbrev pub is_put_before : Bool → ℕ → Part → Bool
is_put_before passes offset p = nat_lt p.span.start offset || (passes && (p.span.start == offset && p.span.end == offset))

-- how many bytes are put in before an offset
abbrev pub put_before : Bool → List Part → ℕ → ℕ
put_before passes parts offset = sum_by (λ p. length p.text) (filter (is_put_before passes offset) parts)

-- an offset's place in the edited text: behind what is kept and what is put in before it
abbrev pub moved_offset : Bool → List Part → ℕ → ℕ
moved_offset passes parts offset = kept_before parts offset + put_before passes parts offset

-- a range after the suggestions: its start passes an insertion there, its end doesn't, unless the range is empty
abbrev pub moved_span : List Suggestion → Span → Span
moved_span taken span =
    let parts = parts_of span.file taken in
    record {
      file = span.file;
      start = moved_offset true parts span.start;
      end = moved_offset (span.start == span.end) parts span.end;
    }

-- suggestions that can be applied to sources in which the range lies, whose text after them is shorter than 2^32 bytes
pub record IsMovable (taken : List Suggestion) (span : Span) : Type 0 where
  pub sources : List (List ℕ)
  pub text : List ℕ
  pub fit : AreApplicable sources taken
  pub file : slice_get sources span.file ≡ Some text
  pub ordered : span.start ≤ span.end
  pub within : span.end ≤ length text
  pub short : length (edited span.file taken text) < 2 ^ 32
