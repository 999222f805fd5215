use Rattle.std.proofs.Common.{ap, sym}
use Rattle.std.proofs.Common.{Some}
use Rattle.em_tree.specs.Yields.{piece}
use Rattle.em_tree.proofs.Edges.{last_bound_call}
use Rattle.em_tree.proofs.last.+types.Goals as goal

pub last_bound-returns-in-Call : goal.last_bound-returns-in-Call
last_bound-returns-in-Call t c =
    last_bound_call c.args.tree.now c.in-Call.path c.in-Call.open c.in-Call.inputs c.in-Call.close c.in-Call.output _ c.in-Call.is
    (c.last_output.ensures (piece c.in-Call.close) (ap (λ u. Some u.span) (sym c.get.ensures)))
