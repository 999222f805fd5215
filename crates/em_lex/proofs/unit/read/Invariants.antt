use Rattle.std.proofs.Common.{◌≡◌, ◌≤◌, ◌-◌, length, drop}
use Rattle.em_lex.specs.Scan.{read, ahead}
use Rattle.em_lex.proofs.unit.read.Given as goal

abbrev pub invariant-units : goal.invariant-units
invariant-units l = (ahead l.at l.value.items (read l.byte l.form 0 (drop l.at l.cs)) ≡ read l.byte l.form 0 l.cs) × (l.at ≤ length l.cs)

abbrev pub decreases-units : goal.decreases-units
decreases-units l = length l.cs - l.at
