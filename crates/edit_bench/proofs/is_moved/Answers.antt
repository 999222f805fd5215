use Rattle.std.proofs.Common.{refl, arith}
use Rattle.edit_bench.proofs.Movable.{movable}
use Rattle.edit_bench.proofs.is_moved.Goals as goal

pub moved-requires : goal.moved-requires
moved-requires c = movable c.args.sources.now c.args.taken.now c.args.new.now c.in-Some-Some.text.now c.in-Some-Some.edited.now _ c.requires.fit c.requires.edited c.in-Some-Some.ensures.value c.in-Some-Some.ensures'.value refl (omega (arith, c.saturating_add-end.ensures)) (omega (arith, c.if-end-len.false, c.len.ensures)) (omega (arith, c.if-len-ge4294967296.false, c.len-else-end-len.ensures))
