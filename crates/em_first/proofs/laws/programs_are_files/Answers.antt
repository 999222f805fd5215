use Rattle.em_first.proofs.ProgramFiles.{programs_are_files}
use Rattle.em_first.proofs.laws.programs_are_files.Goals as goal

pub returns : goal.returns
returns c = programs_are_files
