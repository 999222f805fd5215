use Rattle.std.proofs.Common.{◌≡◌, drop, max}
use Rattle.em_tree.specs.Nesting.{greatest, of_some, arm_depth, expr_nesting, stmt_nesting, branch_nesting}
use Rattle.em_nesting.proofs.exprs.+exprs.Given as goal

abbrev pub invariant-exprs_within-loop-part : goal.invariant-exprs_within-loop-part
invariant-exprs_within-loop-part l = max l.most (greatest (λ x. expr_nesting x.item) (drop l.part-index l.list)) ≡ max l.most (greatest (λ x. expr_nesting x.item) l.list)

abbrev pub invariant-fields_within-loop-part : goal.invariant-fields_within-loop-part
invariant-fields_within-loop-part l = max l.most (greatest (λ x. of_some expr_nesting x.item.value) (drop l.part-index l.list)) ≡ max l.most (greatest (λ x. of_some expr_nesting x.item.value) l.list)

abbrev pub invariant-arms_within-loop-part : goal.invariant-arms_within-loop-part
invariant-arms_within-loop-part l = max l.most (greatest (arm_depth expr_nesting) (drop l.part-index l.list)) ≡ max l.most (greatest (arm_depth expr_nesting) l.list)

abbrev pub invariant-branches_within-loop-part : goal.invariant-branches_within-loop-part
invariant-branches_within-loop-part l = max l.most (greatest branch_nesting (drop l.part-index l.list)) ≡ max l.most (greatest branch_nesting l.list)

abbrev pub invariant-stmts_within-loop-part : goal.invariant-stmts_within-loop-part
invariant-stmts_within-loop-part l = max l.most (greatest stmt_nesting (drop l.part-index l.list)) ≡ max l.most (greatest stmt_nesting l.list)
