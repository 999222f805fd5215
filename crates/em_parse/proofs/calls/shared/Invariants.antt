use Rattle.std.proofs.Common.{◌≡◌, take}
use Rattle.em_parse.proofs.calls.shared.Given as goal

abbrev pub invariant-loop-piece : goal.invariant-loop-piece
invariant-loop-piece l = l.list ≡ take l.piece-index l.pieces
