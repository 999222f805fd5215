use Rattle.std.proofs.Common.{rules, arith}
use Rattle.em_core.specs.declared.expr.Expr.{out-Expr}
use Rattle.em_core.specs.Nodes.{children}
use Rattle.em_core.proofs.SlotLemmas.{walk_from, walk_step, walk_end}
use Rattle.em_core.proofs.typed.slots.+push_listed.Goals as goal

pub loop-child-init : goal.loop-child-init
loop-child-init t c = walk_from (children (out-Expr c.args.e.now)) _ _ (search rules)

pub loop-child-preserved : goal.loop-child-preserved
loop-child-preserved t c = walk_step (children (out-Expr c.args.e.now)) c.loop-child.at _ c.in-Some.child.now _ _ _ c.loop-child.invariant (search rules) (search rules) (grind arith)

pub returns : goal.returns
returns t c = walk_end c.args.e.now c.loop-child.at _ _ _ c.loop-child.invariant (search rules) (search rules)
