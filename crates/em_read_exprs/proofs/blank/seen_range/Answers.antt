use Rattle.em_read_exprs.proofs.Blanks.{of_range}
use Rattle.em_read_exprs.proofs.blank.seen_range.Goals as goal

pub returns : goal.returns
returns c = of_range _ _ _ _ _ _ _ _ c.seen_literal-first.ensures c.seen_shared-middle.ensures c.seen_literal-last.ensures c.both-rest.ensures c.both.ensures
