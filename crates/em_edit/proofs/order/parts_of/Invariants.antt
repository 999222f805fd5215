use Rattle.std.proofs.Common.{◌≡◌, ◌+◌, ◌++◌, map, drop}
use Rattle.em_edit.specs.Edited.{all_parts}
use Rattle.em_edit.proofs.order.parts_of.Given as goal

abbrev pub invariant-loop-suggestion : goal.invariant-loop-suggestion
invariant-loop-suggestion l = map (λ p. p.now) l.parts.items ++ all_parts (drop l.suggestion-index l.taken) ≡ all_parts l.taken

abbrev pub invariant-loop-part : goal.invariant-loop-part
invariant-loop-part l = map (λ p. p.now) l.parts.items ++ (drop l.part-index l.part-items ++ all_parts (drop (l.suggestion-index + 1) l.taken)) ≡ all_parts l.taken
