use Rattle.std.proofs.Common.{◌≡◌, drop, false}
use Rattle.em_lex.specs.Scan.{value_from}
use Rattle.em_lex.proofs.number.number_value.Given as goal

abbrev pub invariant-digits : goal.invariant-digits
invariant-digits l = value_from l.base l.some l.value (drop l.c-index l.cs) ≡ value_from l.base false 0 l.cs
