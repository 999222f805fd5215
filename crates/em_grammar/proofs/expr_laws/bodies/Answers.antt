use Rattle.em_grammar.proofs.ExprLaws.{bodies_found, bodies_read, one_body}
use Rattle.em_grammar.proofs.BodyLaws.{bodies_some, bodies_whole}
use Rattle.em_grammar.proofs.FirmKnot.{bodies_firm}
use Rattle.em_grammar.proofs.expr_laws.bodies.Goals as goal

pub returns : goal.returns
returns c = record { found = bodies_found; read = bodies_read; steady = bodies_firm; some = bodies_some; whole = bodies_whole; one = one_body }
