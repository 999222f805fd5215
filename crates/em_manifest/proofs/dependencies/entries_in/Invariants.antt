use Rattle.std.proofs.Common.{◌≡◌}
use Rattle.toml.specs.View.{table_view, members_view}
use Rattle.em_manifest.specs.Values.{entries_in}
use Rattle.em_manifest.proofs.Entries.{behind}
use Rattle.em_manifest.proofs.dependencies.entries_in.Given as goal

abbrev pub invariant-loop-key : goal.invariant-loop-key
invariant-loop-key l = entries_in (table_view l.entries) ≡ behind l.found (entries_in (members_view l.key-iterator))
