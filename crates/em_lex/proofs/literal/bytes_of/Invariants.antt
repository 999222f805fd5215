use Rattle.std.proofs.Common.{◌≡◌, take}
use Rattle.em_lex.proofs.literal.bytes_of.Given as goal

abbrev pub invariant-loop-c : goal.invariant-loop-c
invariant-loop-c l = l.bytes.items ≡ take l.c-index l.cs
