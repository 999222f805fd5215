use Rattle.em_first.proofs.Edits.{findings_fit}
use Rattle.em_first.proofs.laws.findings_fit.Goals as goal

pub returns : goal.returns
returns c = findings_fit c.tokens_lie_in_text.ensures
