use Rattle.em_read_exprs.proofs.Blanks.{of_name}
use Rattle.em_read_exprs.proofs.blank.seen_name.Goals as goal

pub returns : goal.returns
returns c = of_name _ _ _ _ _ _ _ _ c.seen_if-first.ensures c.seen_if-middle.ensures c.seen_shared-last.ensures c.both-rest.ensures c.both.ensures
