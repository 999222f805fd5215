use Rattle.std.proofs.Common.{◌≡◌, ◌≤◌, ℕ, List, drop, length, is_some, true}
use Rattle.em_manifest.specs.Values.{have_own_names}
use Rattle.em_manifest.proofs.OwnNames.{has_name, finds}
use Rattle.em_manifest.proofs.dependencies.have_own_names.Given as goal

abbrev pub invariant-loop-at : goal.invariant-loop-at
invariant-loop-at l = record {
  within : l.at ≤ length l.dependencies;
  own : have_own_names (drop l.at l.dependencies) ≡ true;
  seen : (name : List ℕ) → is_some (finds name l.seen) ≡ has_name name (drop l.at l.dependencies);
}

abbrev pub decreases-loop-at : goal.decreases-loop-at
decreases-loop-at l = l.at
