use Rattle.std.proofs.Common.{◌∙◌}
use Rattle.em_base.specs.Words.{texts, prefixes}
use Rattle.em_base.proofs.Tables.{among_same}
use Rattle.em_base.proofs.words.is_known_prefix.Goals as goal

pub returns : goal.returns
returns c =
    let table = c.known_prefixes in
    c.has.ensures ∙ among_same (texts table.result) prefixes c.args.text.now table.ensures.within table.ensures.whole
