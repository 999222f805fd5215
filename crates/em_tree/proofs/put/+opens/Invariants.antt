use Rattle.std.proofs.Common.{◌≡◌, ◌++◌, drop}
use Rattle.em_tree.specs.Yields.{opened}
use Rattle.em_tree.proofs.put.+opens.Given as goal

abbrev pub invariant-put_text-loop-part : goal.invariant-put_text-loop-part
invariant-put_text-loop-part l = l.out ++ opened (drop l.part-index l.list) ≡ l.fn.out ++ opened l.list
