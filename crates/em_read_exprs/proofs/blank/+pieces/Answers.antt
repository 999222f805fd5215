use Rattle.std.proofs.Common.{rules, ap, ◌∙◌}
use Rattle.em_tree.specs.declared.piece.PieceList.{out-PieceList}
use Rattle.em_tree.specs.Yields.{opened}
use Rattle.em_read_exprs.specs.Blank.{told}
use Rattle.em_read_exprs.proofs.Blanks.{one_more, no_more, of_token, of_group}
use Rattle.em_read_exprs.proofs.blank.+pieces.Goals as goal

pub seen_pieces-loop-piece-preserved : goal.seen_pieces-loop-piece-preserved
seen_pieces-loop-piece-preserved t c = one_more _ _ _ _ _ _ c.loop-piece-test.true (search rules) c.loop-piece.invariant c.seen_piece-next.ensures c.both-seen.ensures

pub seen_piece-returns-in-Token : goal.seen_piece-returns-in-Token
seen_piece-returns-in-Token t c = of_token _ _ _ c.in-Token.is c.seen_token.ensures

pub seen_piece-returns-in-Group : goal.seen_piece-returns-in-Group
seen_piece-returns-in-Group t c = of_group _ _ _ c.in-Group.is (c.seen_pieces.ensures ∙ ap (λ ys. told (opened ys)) (c.as_slice.ensures ∙ ap (λ l. (out-PieceList l).list) c.get.ensures))

pub seen_pieces-returns : goal.seen_pieces-returns
seen_pieces-returns t c = search (rules, no_more)
