use Rattle.std.proofs.Common.{◌≡◌, take}
use Rattle.std.specs.List.{flat_map}
use Rattle.em_fix.specs.Report.{fixed_line}
use Rattle.em_fix.proofs.report.report_of.Given as goal

-- the lines of the suggestions so far
abbrev pub invariant-loop-suggestion : goal.invariant-loop-suggestion
invariant-loop-suggestion l = l.report ≡ flat_map fixed_line (take l.suggestion-index l.found)
