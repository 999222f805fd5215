use Rattle.std.proofs.Common.{◌≡◌}
use Rattle.toml.specs.View.{table_view, members_view}
use Rattle.em_manifest.specs.Values.{has_known_keys}
use Rattle.em_manifest.proofs.dependencies.has_known_keys.Given as goal

abbrev pub invariant-loop-key : goal.invariant-loop-key
invariant-loop-key l = has_known_keys (table_view l.entry) ≡ has_known_keys (members_view l.key-iterator)
