use Rattle.em_read_exprs.proofs.Blanks.{of_some}
use Rattle.em_read_exprs.proofs.blank.seen_if.Goals as goal

pub returns-in-Some : goal.returns-in-Some
returns-in-Some c = of_some _ _ _ c.in-Some.is c.seen_shared.ensures
