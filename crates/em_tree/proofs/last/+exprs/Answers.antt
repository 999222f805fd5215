use Rattle.std.proofs.Common.{rules}
use Rattle.em_tree.proofs.Ends.{last_expr_if}
use Rattle.em_tree.proofs.last.+exprs.Goals as goal

pub last_expr-returns-in-If : goal.last_expr-returns-in-If
last_expr-returns-in-If t c =
    last_expr_if c.args.tree.now c.in-If.word c.in-If.condition c.in-If.then c.in-If.branches c.in-If.word_else c.in-If.otherwise _ c.in-If.is (search rules)
