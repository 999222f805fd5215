use Rattle.std.proofs.Common.{◌≡◌, drop}
use Rattle.em_tree.specs.Yields.{opened}
use Rattle.em_read_exprs.specs.Blank.{both, told}
use Rattle.em_read_exprs.proofs.blank.+pieces.Given as goal

abbrev pub invariant-seen_pieces-loop-piece : goal.invariant-seen_pieces-loop-piece
invariant-seen_pieces-loop-piece l = told (opened l.pieces) ≡ both l.seen (told (opened (drop l.piece-index l.pieces)))
