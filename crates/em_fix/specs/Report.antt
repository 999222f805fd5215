-- The report of a migration.
use Rattle.std.specs.Prelude.{ℕ, List, [], ◌∷◌, ◌++◌, codes}
use Rattle.std.specs.List.{flat_map}
use Rattle.std.specs.Fmt.{decimal}
use Rattle.em_base.specs.declared.edit.Lint.{Lint}
use Rattle.em_base.specs.declared.edit.Lint.TheVariants.{Keyword, Anonymous, CratePath, Prefix, Pat, Range, Dyn, Panic, Array, Prelude, Capture}
use Rattle.em_base.specs.declared.edit.Suggestion.{Suggestion}
use Rattle.em_fix.specs.Words.{source_name}

-- the printed name of a lint
abbrev pub lint_name : Lint → List ℕ
lint_name Keyword = codes "keyword"
lint_name Anonymous = codes "anonymous"
lint_name CratePath = codes "crate_path"
lint_name Prefix = codes "prefix"
lint_name Pat = codes "pat"
lint_name Range = codes "range"
lint_name Dyn = codes "dyn"
lint_name Panic = codes "panic"
lint_name Array = codes "array"
lint_name Prelude = codes "prelude"
lint_name Capture = codes "capture"

-- `fixed FILE:START: LINT` and a line feed
abbrev pub fixed_line : Suggestion → List ℕ
fixed_line s = codes "fixed " ++ (source_name ++ (codes ":" ++ (decimal s.anchor.start ++ (codes ": " ++ (lint_name s.lint ++ 10 ∷ [])))))

-- a line for each suggestion in order, and then that of the step
abbrev pub report_of : List Suggestion → List ℕ
report_of found = flat_map fixed_line found ++ (codes "migrated 2015 -> 2018" ++ 10 ∷ [])
