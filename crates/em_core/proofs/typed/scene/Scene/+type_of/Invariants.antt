use Rattle.std.proofs.Common.{◌-◌, length, take}
use Rattle.em_core.specs.declared.expr.Expr.{out-Expr, size-Expr}
use Rattle.em_core.specs.Nodes.{children}
use Rattle.em_core.specs.Rules.{in_loop}
use Rattle.em_core.specs.Deciding.{FindsAll}
use Rattle.em_core.proofs.typed.scene.Scene.+type_of.Given as goal

abbrev pub decreases-type_of : goal.decreases-type_of
decreases-type_of l = size-Expr l.e.now

abbrev pub invariant-loop-child : goal.invariant-loop-child
invariant-loop-child l = FindsAll l.self.core.now l.self.slots.now l.self.roots.now l.self.result.now (in_loop l.looping (out-Expr l.e)) (take l.at (children (out-Expr l.e))) l.types l.ends

abbrev pub decreases-loop-child : goal.decreases-loop-child
decreases-loop-child l = length (children (out-Expr l.e)) - l.at
