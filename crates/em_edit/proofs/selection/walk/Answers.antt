use Rattle.em_edit.proofs.Walking.{is_walk}
use Rattle.em_edit.proofs.selection.walk.Goals as goal

pub returns : goal.returns
returns c = is_walk c.args.findings.now c.in_ok-turns.turns.items c.sort.new.self.items c.in_ok-turns.ensures c.in_ok-sort.ensures.permutation c.in_ok-sort.ensures.sorted
