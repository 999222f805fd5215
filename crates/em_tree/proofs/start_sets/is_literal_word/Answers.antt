use Rattle.std.proofs.Common.{◌∙◌}
use Rattle.em_base.specs.Words.{texts}
use Rattle.em_tree.specs.Starts.{spelling, literal_starts}
use Rattle.em_tree.proofs.Tables.{one_of_same}
use Rattle.em_tree.proofs.start_sets.is_literal_word.Goals as goal

pub returns : goal.returns
returns c =
    let table = c.literal_words in
    c.is_spelled.ensures ∙ one_of_same (texts table.result) literal_starts (spelling c.args.token.now) table.ensures.within table.ensures.whole
