use Rattle.em_lex.proofs.ReadOn.{unit_within}
use Rattle.em_lex.proofs.unit.unit_at.Goals as goal

pub returns-clause-within : goal.returns-clause-within
returns-clause-within c = unit_within c.args.byte c.args.form c.args.cs.now c.front_unit.result c.front_unit.ensures
