use Rattle.std.proofs.Common.{◌∙◌}
use Rattle.em_base.specs.Words.{texts}
use Rattle.em_base.proofs.Tables.{searched}
use Rattle.em_base.proofs.words.has.Goals as goal

pub returns : goal.returns
returns c = c.is_some.ensures ∙ searched (texts c.args.table.now) c.args.text.now c.find.result c.find.ensures.found c.find.ensures.absent
