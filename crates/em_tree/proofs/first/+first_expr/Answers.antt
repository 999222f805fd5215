use Rattle.em_tree.proofs.Edges.{first_expr_closure, first_expr_closure_to}
use Rattle.em_tree.proofs.first.+first_expr.Goals as goal

pub returns-in-Closure : goal.returns-in-Closure
returns-in-Closure t c = first_expr_closure c.args.tree.now c.in-Closure.word_move c.in-Closure.head _ _ c.in-Closure.is (c.first_closure.ensures _)

pub returns-in-ClosureTo : goal.returns-in-ClosureTo
returns-in-ClosureTo t c = first_expr_closure_to c.args.tree.now c.in-ClosureTo.word_move c.in-ClosureTo.head _ _ _ _ c.in-ClosureTo.is (c.first_closure-in-ClosureTo.ensures _)
