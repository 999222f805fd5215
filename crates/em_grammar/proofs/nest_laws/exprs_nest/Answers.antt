use Rattle.em_grammar.proofs.NestExprs.{expr_low, expr_within, stmt_low_at, stmt_within_at, fragment_low, fragment_within, block_low_at, block_within_at, body_low_at, body_within_at}
use Rattle.em_grammar.proofs.nest_laws.exprs_nest.Goals as goal

pub returns : goal.returns
returns c = record {
  exprs = λ b e d x m. (expr_low d b x, expr_within e d b x m);
  stmts = λ e d x m. (stmt_low_at d x, stmt_within_at e d x m);
  fragments = λ e d x m. (fragment_low d x, fragment_within e d x m);
  blocks = λ e d x m. (block_low_at d x, block_within_at e d x m);
  bodies = λ e d x m. (body_low_at d x, body_within_at e d x m);
}
