use Rattle.em_grammar.proofs.ExprKnot.{exprs_read}
use Rattle.em_grammar.proofs.ExprLaws.{exprs_exact, one_expr}
use Rattle.em_grammar.proofs.FirmKnot.{exprs_firm}
use Rattle.em_grammar.proofs.expr_laws.exprs.Goals as goal

pub returns : goal.returns
returns c = record { read = exprs_read; steady = exprs_firm; exact = exprs_exact; one = one_expr }
