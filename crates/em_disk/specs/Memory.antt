-- What files and a sink in memory hold, and which of their calls fail.
use Rattle.std.specs.Prelude.{ℕ, List}
use Rattle.std.specs.FinMap.{from_entries}
use Rattle.em_disk.specs.Held.{Held}
use Rattle.em_disk.specs.declared.memory_files.MemoryFiles.{MemoryFiles}
use Rattle.em_disk.specs.declared.memory_sink.MemorySink.{MemorySink}

-- what the files hold
abbrev pub held_of : MemoryFiles → Held
held_of files = from_entries files.entries.items

-- the numbers of the calls on the files that fail
abbrev pub fails_of : MemoryFiles → List ℕ
fails_of files = files.faults.fails

-- how many calls on the files there were, which is the next call's number
abbrev pub calls_of : MemoryFiles → ℕ
calls_of files = files.faults.calls

-- how many faults of the files there were
abbrev pub faults_of : MemoryFiles → ℕ
faults_of files = files.faults.count

-- the bytes that were written to the sink
abbrev pub written_of : MemorySink → List ℕ
written_of sink = sink.bytes

-- the numbers of the calls on the sink that fail
abbrev pub sink_fails : MemorySink → List ℕ
sink_fails sink = sink.faults.fails

-- how many calls on the sink there were, which is the next call's number
abbrev pub sink_calls : MemorySink → ℕ
sink_calls sink = sink.faults.calls

-- how many faults of the sink there were
abbrev pub sink_faults : MemorySink → ℕ
sink_faults sink = sink.faults.count
