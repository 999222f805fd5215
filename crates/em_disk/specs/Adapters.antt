-- How many faults there were of the real files and of standard output.
use Rattle.std.specs.Prelude.{ℕ}
use Rattle.em_disk.specs.declared.folder_files.FolderFiles.{FolderFiles}
use Rattle.em_disk.specs.declared.stdout_sink.StdoutSink.{StdoutSink}

-- how many faults of the real files there were
abbrev pub folder_faults : {R File Dir : Type 0} → FolderFiles R File Dir → ℕ
folder_faults files = files.faults

-- how many faults of standard output there were
abbrev pub stdout_faults : {P : Type 0} → StdoutSink P → ℕ
stdout_faults sink = sink.faults
