use Rattle.std.proofs.Common.{length, ap, arith}
use Rattle.std.proofs.lemmas.List.{nil_from_length}
use Rattle.em_read_exprs.proofs.Blanks.{of_one_segment}
use Rattle.em_read_exprs.proofs.blank.seen_segments.Goals as goal

pub returns-in-empty : goal.returns-in-empty
returns-in-empty c = of_one_segment _ _ _ _ (nil_from_length _ (omega (arith, c.in-empty.len_below, ap length c.as_slice.ensures))) c.seen_if.ensures c.seen_segment-first.ensures c.both.ensures
