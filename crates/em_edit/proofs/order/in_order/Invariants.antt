use Rattle.std.proofs.Common.{◌≡◌, map, take}
use Rattle.em_edit.proofs.order.in_order.Given as goal

abbrev pub invariant-loop-part : goal.invariant-loop-part
invariant-loop-part l = map (λ p. p.now) l.all.items ≡ take l.part-index l.parts
