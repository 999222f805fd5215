use Rattle.em_read_exprs.proofs.Blanks.{of_path_plain, of_path_group}
use Rattle.em_read_exprs.proofs.blank.seen_path.Goals as goal

pub returns-in-Plain : goal.returns-in-Plain
returns-in-Plain c = of_path_plain _ _ _ c.in-Plain.is c.seen_segments.ensures

pub returns-in-Group : goal.returns-in-Group
returns-in-Group c = of_path_group _ _ _ _ c.in-Group.is c.seen_group.ensures
