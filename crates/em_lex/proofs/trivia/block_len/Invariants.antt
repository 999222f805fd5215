use Rattle.std.proofs.Common.{◌≡◌, ◌-◌, ◌≤◌, length, drop, false}
use Rattle.em_lex.specs.Scan.{block_len, after}
use Rattle.em_lex.proofs.trivia.block_len.Given as goal

abbrev pub invariant-marks : goal.invariant-marks
invariant-marks l = (after l.at (block_len l.depth false (drop l.at l.cs)) ≡ block_len 0 false l.cs) × (l.at ≤ length l.cs) × (l.depth ≤ l.at)

abbrev pub decreases-marks : goal.decreases-marks
decreases-marks l = length l.cs - l.at
