use Rattle.em_read_nodes.proofs.Branches.{if_reads}
use Rattle.em_read_nodes.proofs.branch.if_expr.Goals as goal

pub returns : goal.returns
returns g c = if_reads (g.I.Inside.readers c.args.inside.now) c.args.input.now.rest.now c.if_by_branches.result c.if_by_branches.new.input.rest.now c.if_by_branches.ensures
