use Rattle.std.proofs.Common.{◌≡◌, ◌++◌, drop}
use Rattle.em_tree.specs.Parts.{closure_param_parts, each}
use Rattle.em_tree.specs.Yields.{one, inside, opened}
use Rattle.em_tree.proofs.put_parts.put_closure_params.Given as goal

abbrev pub invariant-loop-part : goal.invariant-loop-part
invariant-loop-part l = l.out ++ each (closure_param_parts one inside opened) (drop l.part-index l.list) ≡ l.fn.out ++ each (closure_param_parts one inside opened) l.list
