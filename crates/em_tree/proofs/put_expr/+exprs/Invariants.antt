use Rattle.std.proofs.Common.{drop}
use Rattle.em_tree.specs.Parts.{arm_parts, each, else_if_parts, expr_parts, field_expr_parts, listed_parts, stmt_parts}
use Rattle.em_tree.specs.Yields.{one, inside, opened}
use Rattle.em_tree.specs.Adding.{Goes}
use Rattle.em_tree.proofs.put_expr.+exprs.Given as goal

abbrev pub invariant-add_exprs-loop-part : goal.invariant-add_exprs-loop-part
invariant-add_exprs-loop-part l = Goes l.fn.out l.out (each (listed_parts one inside opened (expr_parts one inside opened)) (drop l.part-index l.list)) (each (listed_parts one inside opened (expr_parts one inside opened)) l.list)

abbrev pub invariant-add_field_exprs-loop-part : goal.invariant-add_field_exprs-loop-part
invariant-add_field_exprs-loop-part l = Goes l.fn.out l.out (each (listed_parts one inside opened (field_expr_parts one inside opened (expr_parts one inside opened))) (drop l.part-index l.list)) (each (listed_parts one inside opened (field_expr_parts one inside opened (expr_parts one inside opened))) l.list)

abbrev pub invariant-add_arms-loop-part : goal.invariant-add_arms-loop-part
invariant-add_arms-loop-part l = Goes l.fn.out l.out (each (arm_parts one inside opened (expr_parts one inside opened)) (drop l.part-index l.list)) (each (arm_parts one inside opened (expr_parts one inside opened)) l.list)

abbrev pub invariant-add_branches-loop-part : goal.invariant-add_branches-loop-part
invariant-add_branches-loop-part l = Goes l.fn.out l.out (each (else_if_parts one inside opened) (drop l.part-index l.list)) (each (else_if_parts one inside opened) l.list)

abbrev pub invariant-add_stmts-loop-part : goal.invariant-add_stmts-loop-part
invariant-add_stmts-loop-part l = Goes l.fn.out l.out (each (stmt_parts one inside opened) (drop l.part-index l.list)) (each (stmt_parts one inside opened) l.list)
