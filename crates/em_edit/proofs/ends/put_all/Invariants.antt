use Rattle.std.proofs.Common.{◌++◌, List, take}
use Rattle.em_base.specs.declared.edit.Part.{Part}
use Rattle.em_edit.specs.Ends.{HoldsClear}
use Rattle.em_edit.proofs.ends.put_all.Given as goal

-- the parts so far are in the map
abbrev pub invariant-loop-part : goal.invariant-loop-part
invariant-loop-part l = (before : List Part) → HoldsClear l.fn.ends before → HoldsClear l.ends (before ++ take l.part-index l.parts)
