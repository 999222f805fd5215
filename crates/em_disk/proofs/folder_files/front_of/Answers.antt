use Rattle.em_disk.proofs.Streams.{front_taken}
use Rattle.em_disk.proofs.folder_files.front_of.Goals as goal

pub returns-clause-front : goal.returns-clause-front
returns-clause-front g c =
    front_taken _ _ _ _ _ c.new-bytes.ensures.items c.in_ok-read_front.ensures.kept c.in_ok-read_front.ensures.short c.in_ok-read_front.ensures.end
