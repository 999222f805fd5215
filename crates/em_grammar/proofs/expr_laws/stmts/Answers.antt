use Rattle.em_grammar.proofs.ExprLaws.{the_stmts, stmts_exact, one_stmt}
use Rattle.em_grammar.proofs.FirmKnot.{stmts_firm}
use Rattle.em_grammar.proofs.expr_laws.stmts.Goals as goal

pub returns : goal.returns
returns c = record { read = the_stmts; steady = stmts_firm; exact = stmts_exact; one = one_stmt }
