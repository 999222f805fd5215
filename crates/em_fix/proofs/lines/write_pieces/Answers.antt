use Rattle.em_fix.proofs.Written.{goes_in, goes_on, goes_wrong, all_gone, ends_later}
use Rattle.em_fix.proofs.lines.write_pieces.Goals as goal

pub loop-piece-init : goal.loop-piece-init
loop-piece-init g c = goes_in (g.S.Sink.written c.args.out.now) (g.S.Sink.faults c.args.out.now) c.args.pieces.now

pub returns-in-Err-clause-later : goal.returns-in-Err-clause-later
returns-in-Err-clause-later g c = ends_later _ _ _ _ _ c.args.pieces.now c.loop-piece.piece-index c.loop-piece.invariant c.in-Err.ensures.cause.later

pub returns-in-Err-clause-bytes : goal.returns-in-Err-clause-bytes
returns-in-Err-clause-bytes g c =
    goes_wrong _ _ _ _ _ _ c.args.pieces.now c.loop-piece.piece-index _ c.loop-piece.invariant c.loop-piece-test.true c.in-Err.ensures.bytes c.in-Err.ensures.cause.failed

pub loop-piece-preserved : goal.loop-piece-preserved
loop-piece-preserved g c = goes_on _ _ _ _ _ _ c.args.pieces.now c.loop-piece.piece-index _ c.loop-piece.invariant c.loop-piece-test.true c.in-Ok.ensures.bytes c.in-Ok.ensures.cause.later

pub returns-clause-later : goal.returns-clause-later
returns-clause-later g c = c.loop-piece.invariant.later

pub returns-clause-bytes : goal.returns-clause-bytes
returns-clause-bytes g c = all_gone _ _ _ _ c.args.pieces.now c.loop-piece.piece-index c.loop-piece.invariant c.loop-piece-test.false
