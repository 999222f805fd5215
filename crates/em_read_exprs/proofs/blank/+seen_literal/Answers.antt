use Rattle.std.proofs.Common.{ap, ◌∙◌}
use Rattle.em_tree.specs.Parts.{literal_parts}
use Rattle.em_tree.specs.Yields.{as_it_is, opened, piece, whole}
use Rattle.em_read_exprs.specs.Blank.{told}
use Rattle.em_read_exprs.proofs.Blanks.{of_literal_token, of_literal_negative, of_literal_group}
use Rattle.em_read_exprs.proofs.blank.+seen_literal.Goals as goal

pub returns-in-Token : goal.returns-in-Token
returns-in-Token t c = of_literal_token _ _ _ c.in-Token.is c.seen_shared.ensures

pub returns-in-Negative : goal.returns-in-Negative
returns-in-Negative t c = of_literal_negative _ _ _ _ _ _ c.in-Negative.is c.seen_shared-in-Negative.ensures
    (c.seen_literal.ensures ∙ ap (λ k. told (opened (literal_parts piece whole as_it_is k))) c.get.ensures) c.both.ensures

pub returns-in-Group : goal.returns-in-Group
returns-in-Group t c = of_literal_group _ _ _ _ c.in-Group.is c.seen_group.ensures
