use Rattle.std.proofs.Common.{◌≡◌, drop, max}
use Rattle.em_tree.specs.Nesting.{greatest, type_nesting}
use Rattle.em_nesting.proofs.types.+types.Given as goal

abbrev pub invariant-types_within-loop-part : goal.invariant-types_within-loop-part
invariant-types_within-loop-part l = max l.most (greatest (λ x. type_nesting x.item) (drop l.part-index l.list)) ≡ max l.most (greatest (λ x. type_nesting x.item) l.list)
