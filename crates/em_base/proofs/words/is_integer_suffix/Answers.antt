use Rattle.std.proofs.Common.{◌∙◌}
use Rattle.em_base.specs.Words.{texts, integer_suffixes}
use Rattle.em_base.proofs.Tables.{among_same}
use Rattle.em_base.proofs.words.is_integer_suffix.Goals as goal

pub returns : goal.returns
returns c =
    let table = c.suffixes in
    c.has.ensures ∙ among_same (texts table.result) integer_suffixes c.args.text.now table.ensures.within table.ensures.whole
