use Rattle.std.proofs.Common.{length}
use Rattle.em_parse.specs.Calls.{AreItems}
use Rattle.em_parse.proofs.calls.items.Given as goal

abbrev pub invariant-loop-alloc : goal.invariant-loop-alloc
invariant-loop-alloc g l = AreItems l.fn.input.rest.now l.found l.input.rest.now

abbrev pub decreases-loop-alloc : goal.decreases-loop-alloc
decreases-loop-alloc g l = length l.input.rest.now
