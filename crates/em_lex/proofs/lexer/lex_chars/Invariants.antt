use Rattle.std.proofs.Common.{◌≤◌, ◌-◌, length, drop}
use Rattle.em_lex.proofs.WalkLemmas.{SoFar}
use Rattle.em_lex.proofs.lexer.lex_chars.Given as goal

abbrev pub invariant-pieces : goal.invariant-pieces
invariant-pieces l = SoFar l.file l.edition l.offset l.cs l.list l.place (drop l.at l.cs) × (l.at ≤ length l.cs)

abbrev pub decreases-pieces : goal.decreases-pieces
decreases-pieces l = length l.cs - l.at
