use Rattle.std.proofs.Common.{◌-◌, ◌++◌, length, take}
use Rattle.em_core.specs.declared.expr.Expr.{out-Expr, size-Expr}
use Rattle.em_core.specs.Nodes.{children}
use Rattle.em_core.specs.Deciding.{AddsAll}
use Rattle.em_core.specs.Typed.{own_slots}
use Rattle.em_core.proofs.typed.slots.+push_listed.Given as goal

abbrev pub decreases-push_listed : goal.decreases-push_listed
decreases-push_listed l = size-Expr l.e.now

abbrev pub invariant-loop-child : goal.invariant-loop-child
invariant-loop-child l = AddsAll (take l.at (children (out-Expr l.e))) (l.fn.listed.items ++ own_slots (out-Expr l.e)) l.listed.items

abbrev pub decreases-loop-child : goal.decreases-loop-child
decreases-loop-child l = length (children (out-Expr l.e)) - l.at
