use Rattle.std.proofs.Common.{◌≡◌, drop}
use Rattle.em_lex.specs.Scan.{raw_len, after}
use Rattle.em_lex.proofs.literal.raw_len.Given as goal

abbrev pub invariant-chars : goal.invariant-chars
invariant-chars l = after l.at (raw_len l.hashes (drop l.at l.cs)) ≡ raw_len l.hashes l.cs
