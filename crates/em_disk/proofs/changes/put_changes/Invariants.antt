use Rattle.std.proofs.Common.{◌≡◌, ◌≤◌, take}
use Rattle.em_disk.specs.Changes.{after}
use Rattle.em_disk.proofs.changes.put_changes.Given as goal

-- the changes before the index are done, and no fault came
abbrev pub invariant-loop-change : goal.invariant-loop-change
invariant-loop-change g l =
    let held = g.F.Files.held in
    record {
      counted : l.which ≡ l.change-index;
      done : held l.files ≡ after (take l.change-index l.changes) (held l.fn.files);
      later : g.F.Files.faults l.fn.files ≤ g.F.Files.faults l.files;
    }
