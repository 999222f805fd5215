use Rattle.std.proofs.Common.{◌≡◌, drop, max}
use Rattle.em_tree.specs.Nesting.{greatest, pat_nesting}
use Rattle.em_nesting.specs.Depths.{field_nesting}
use Rattle.em_nesting.proofs.pats.+pats.Given as goal

abbrev pub invariant-pats_within-loop-part : goal.invariant-pats_within-loop-part
invariant-pats_within-loop-part l = max l.most (greatest (λ x. pat_nesting x.item) (drop l.part-index l.list)) ≡ max l.most (greatest (λ x. pat_nesting x.item) l.list)

abbrev pub invariant-fields_within-loop-part : goal.invariant-fields_within-loop-part
invariant-fields_within-loop-part l = max l.most (greatest (λ x. field_nesting x.item) (drop l.part-index l.list)) ≡ max l.most (greatest (λ x. field_nesting x.item) l.list)
