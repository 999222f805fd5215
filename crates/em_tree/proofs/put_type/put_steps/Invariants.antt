use Rattle.std.proofs.Common.{◌≡◌, ◌++◌, drop}
use Rattle.em_tree.specs.Parts.{each, path_step_parts}
use Rattle.em_tree.specs.Yields.{one, inside, opened}
use Rattle.em_tree.proofs.put_type.put_steps.Given as goal

abbrev pub invariant-loop-part : goal.invariant-loop-part
invariant-loop-part l = l.out ++ each (path_step_parts one inside opened) (drop l.part-index l.list) ≡ l.fn.out ++ each (path_step_parts one inside opened) l.list
