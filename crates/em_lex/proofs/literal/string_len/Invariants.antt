use Rattle.std.proofs.Common.{◌≡◌, drop, false}
use Rattle.em_lex.specs.Scan.{string_len, after}
use Rattle.em_lex.proofs.literal.string_len.Given as goal

abbrev pub invariant-chars : goal.invariant-chars
invariant-chars l = after l.at (string_len l.used (drop l.at l.cs)) ≡ string_len false l.cs
