use Rattle.em_read_exprs.proofs.Blanks.{of_pat_wild, of_pat_name, of_pat_literal, of_pat_range, of_pat_path, of_pat_group}
use Rattle.em_read_exprs.proofs.blank.seen_pat.Goals as goal

pub returns-in-Wild : goal.returns-in-Wild
returns-in-Wild c = of_pat_wild _ _ _ c.in-Wild.is c.seen_shared.ensures

pub returns-in-Name : goal.returns-in-Name
returns-in-Name c = of_pat_name _ _ _ _ _ c.in-Name.is c.seen_name.ensures

pub returns-in-Literal : goal.returns-in-Literal
returns-in-Literal c = of_pat_literal _ _ _ c.in-Literal.is c.seen_literal.ensures

pub returns-in-Range : goal.returns-in-Range
returns-in-Range c = of_pat_range _ _ _ _ _ c.in-Range.is c.seen_range.ensures

pub returns-in-Path : goal.returns-in-Path
returns-in-Path c = of_pat_path _ _ _ c.in-Path.is c.seen_path.ensures

pub returns-in-Group : goal.returns-in-Group
returns-in-Group c = of_pat_group _ _ _ _ c.in-Group.is c.seen_group.ensures
