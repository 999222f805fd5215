-- Which suggestions can be applied.
use Rattle.std.specs.Prelude.{◌≡◌, ◌≢◌, ◌⊎◌, ℕ, ◌≤◌, Bool, true, not, ◌&&◌, nat_le, List, length, Some, slice_get, slice_index, All, AllPairs}
use Rattle.em_base.specs.declared.edit.Part.{Part}
use Rattle.em_base.specs.declared.edit.Suggestion.{Suggestion}
use Rattle.em_edit.specs.Edited.{all_parts}

-- no character of a UTF-8 text is cut at an offset: the byte there doesn't continue one
abbrev pub is_boundary : List ℕ → ℕ → Bool
is_boundary text offset = not (nat_le 128 (slice_index text offset) && nat_le (slice_index text offset) 191)

-- a part is a range of a source, on character boundaries
pub record LiesIn (sources : List (List ℕ)) (p : Part) : Type 0 where
  pub text : List ℕ
  pub file : slice_get sources p.span.file ≡ Some text
  pub ordered : p.span.start ≤ p.span.end
  pub within : p.span.end ≤ length text
  pub starts_whole : is_boundary text p.span.start ≡ true
  pub ends_whole : is_boundary text p.span.end ≡ true

-- two parts of one file have no byte in common, neither is an insertion inside the other, and they start at different offsets
pub record AreDisjoint (p q : Part) : Type 0 where
  pub starts : p.span.start ≢ q.span.start
  pub ranges : (p.span.end ≤ q.span.start) ⊎ (q.span.end ≤ p.span.start)

-- two parts don't meet
abbrev pub Apart : Part → Part → Type 0
Apart p q = (p.span.file ≢ q.span.file) ⊎ AreDisjoint p q

-- the suggestions can be applied to the sources
pub record AreApplicable (sources : List (List ℕ)) (taken : List Suggestion) : Type 0 where
  pub lie : All (LiesIn sources) (all_parts taken)
  pub apart : AllPairs Apart (all_parts taken)
