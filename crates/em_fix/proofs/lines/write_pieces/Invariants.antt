use Rattle.em_fix.proofs.Written.{Going}
use Rattle.em_fix.proofs.lines.write_pieces.Given as goal

abbrev pub invariant-loop-piece : goal.invariant-loop-piece
invariant-loop-piece g l = Going (g.S.Sink.written l.initial.out) (g.S.Sink.written l.out) (g.S.Sink.faults l.initial.out) (g.S.Sink.faults l.out) l.pieces l.piece-index
