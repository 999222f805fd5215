use Rattle.std.proofs.Common.{◌≡◌, drop}
use Rattle.std.specs.List.{list_any}
use Rattle.em_tree.specs.Starts.{is_bar}
use Rattle.em_tree.proofs.start_sets.+bars.Given as goal

abbrev pub invariant-has_bar-loop-piece : goal.invariant-has_bar-loop-piece
invariant-has_bar-loop-piece l = list_any is_bar l.pieces ≡ list_any is_bar (drop l.piece-index l.pieces)
