use Rattle.std.proofs.Common.{rules, slice_index_or}
use Rattle.em_core.proofs.SlotLemmas.{twice}
use Rattle.em_core.proofs.typed.slots.all_different.Goals as goal

pub returns-then-not-branch : goal.returns-then-not-branch
returns-then-not-branch c = twice c.args.numbers.now c.loop-number.number-index (c.loop-number.invariant.1 (slice_index_or c.args.numbers.now c.loop-number.number-index 0) (search rules)) (search rules)
