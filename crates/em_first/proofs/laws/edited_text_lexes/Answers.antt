use Rattle.em_first.proofs.Edits.{edited_lexes}
use Rattle.em_first.proofs.laws.edited_text_lexes.Goals as goal

pub returns : goal.returns
returns c = edited_lexes c.no_part_keeps.ensures c.first_part_first.ensures c.marked_text_lexes.ensures c.tokens_lie_in_text.ensures
