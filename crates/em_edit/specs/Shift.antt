-- How a part shifts what is behind it.
use Rattle.std.specs.Prelude.{◌≡◌, ℕ, ◌-◌, ◌^◌, ◌<◌, ◌≤◌, min, Bool, ◌&&◌, ◌==◌, List, length, Some, slice_get, if◌then◌else◌}
use Rattle.em_base.specs.declared.edit.Part.{Part}
use Rattle.em_base.specs.declared.edit.Suggestion.{Suggestion}
use Rattle.em_edit.specs.Edited.{edited}
use Rattle.em_edit.specs.Fit.{AreApplicable}
use Rattle.em_edit.specs.Moved.{is_put_before}

-- how many bytes a part puts in before an offset of a file
abbrev pub put_by : Bool → ℕ → ℕ → Part → ℕ
put_by passes file offset p = if p.span.file == file && is_put_before passes offset p then length p.text else 0

-- how many bytes before an offset of a file a part replaces
abbrev pub removed_by : ℕ → ℕ → Part → ℕ
removed_by file offset p = if p.span.file == file then min p.span.end offset - min p.span.start offset else 0

-- suggestions that can be applied to sources in which the offset lies, whose text after them is shorter than 2^32 bytes
pub record HasPlace (taken : List Suggestion) (file offset : ℕ) : Type 0 where
  pub sources : List (List ℕ)
  pub text : List ℕ
  pub fit : AreApplicable sources taken
  pub source : slice_get sources file ≡ Some text
  pub within : offset ≤ length text
  pub short : length (edited file taken text) < 2 ^ 32
