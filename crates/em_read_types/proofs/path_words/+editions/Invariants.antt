use Rattle.std.proofs.Common.{◌≡◌, drop}
use Rattle.em_tree.specs.Yields.{opened}
use Rattle.em_read_types.specs.TypeParts.{edition_of}
use Rattle.em_read_types.proofs.path_words.+editions.Given as goal

abbrev pub invariant-first_edition-loop-piece : goal.invariant-first_edition-loop-piece
invariant-first_edition-loop-piece l = edition_of (opened l.pieces) ≡ edition_of (opened (drop l.piece-index l.pieces))
