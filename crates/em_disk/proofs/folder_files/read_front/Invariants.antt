use Rattle.std.proofs.Common.{◌≤◌, ◌<◌, ◌-◌, length}
use Rattle.std.specs.Io.KnownBytes.{Keeps, prepend_known}
use Rattle.em_disk.proofs.folder_files.read_front.Given as goal

abbrev pub decreases-loop-bytes : goal.decreases-loop-bytes
decreases-loop-bytes g l = l.most - length l.bytes.items

-- what was read and what is left stay the same together
abbrev pub invariant-loop-bytes : goal.invariant-loop-bytes
invariant-loop-bytes g l =
    let remaining = g.T.Read.remaining in
    record {
      room : 0 < length l.buffer;
      short : length l.bytes.items ≤ l.most;
      kept : Keeps (prepend_known l.fn.bytes.items (remaining l.fn.reader)) (prepend_known l.bytes.items (remaining l.reader));
    }
