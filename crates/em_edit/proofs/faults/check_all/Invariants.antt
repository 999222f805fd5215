use Rattle.std.proofs.Common.{take}
use Rattle.std.specs.Prelude.{All}
use Rattle.em_edit.specs.Edited.{all_parts}
use Rattle.em_edit.specs.Ends.{HoldsClear}
use Rattle.em_edit.specs.Fit.{LiesIn}
use Rattle.em_edit.proofs.faults.check_all.Given as goal

abbrev pub invariant-loop-which : goal.invariant-loop-which
invariant-loop-which l = record {
  lie : All (LiesIn l.sources) (all_parts (take l.which l.taken));
  held : HoldsClear l.ends (all_parts (take l.which l.taken));
}
