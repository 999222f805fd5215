use Rattle.std.proofs.Common.{rules}
use Rattle.em_read_nodes.proofs.Parts.{goes, ends}
use Rattle.em_read_nodes.proofs.branch.further_branches.Goals as goal

pub returns-then-not-goes_on : goal.returns-then-not-goes_on
returns-then-not-goes_on g c = ends _ _ _ _ _ _ _ _ _ c.loop-turn-test.true c.loop-turn.invariant c.in_ok-goes_on.ensures (search rules)

pub loop-turn-preserved : goal.loop-turn-preserved
loop-turn-preserved g c = goes _ _ _ _ _ _ _ _ _ c.loop-turn-test.true c.loop-turn.invariant c.in_ok-goes_on.ensures (search rules)
