use Rattle.em_fix.proofs.Fixed.{refused_says}
use Rattle.em_fix.proofs.fix.fix.Goals as goal

pub returns-in-Err-clause-says : goal.returns-in-Err-clause-says
returns-in-Err-clause-says g c = refused_says _ _ _ _ _ _ _ c.prepare.ensures.kept c.in-Err.ensures.err
