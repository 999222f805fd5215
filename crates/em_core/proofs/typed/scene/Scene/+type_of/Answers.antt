use Rattle.std.proofs.Common.{rules, arith, refl}
use Rattle.em_core.specs.declared.expr.Expr.{out-Expr}
use Rattle.em_core.specs.Nodes.{children}
use Rattle.em_core.specs.Rules.{in_loop}
use Rattle.em_core.proofs.GivesLemmas.{by_operands_ok, start, step, none_by_operand, at_inside, fewer_types, other_ends, none_of}
use Rattle.em_core.proofs.typed.scene.Scene.+type_of.Goals as goal

pub loop-child-init : goal.loop-child-init
loop-child-init t c = fewer_types _ _ _ _ _ _ _ c.new-types.ensures (start _ _ _ _ (in_loop c.args.looping (out-Expr c.args.e.now)) (children (out-Expr c.args.e.now)))

pub returns-in_default-2 : goal.returns-in_default-2
returns-in_default-2 t c =
    none_by_operand _ _ _ _ c.args.looping c.args.e.now c.loop-child.at c.in-Some.child.now c.in_ok-given.field-0 _ (search rules) (at_inside _ _ _ _ _ _ _ _ c.in_loop-inside.ensures (search rules)) (none_of _ (λ x q. search rules)) refl

pub loop-child-preserved : goal.loop-child-preserved
loop-child-preserved t c =
    fewer_types _ _ _ _ _ _ _ (search rules) (other_ends _ _ _ _ _ _ _ c.either-ends.ensures
    (step _ _ _ _ _ _ c.loop-child.at _ c.in-Some.child.now _ _ c.in-Some-2.given c.in_ok-given.field-0 c.loop-child.invariant (search rules) (at_inside _ _ _ _ _ _ _ _ c.in_loop-inside.ensures (search rules)) (search rules) (grind arith)))

pub returns : goal.returns
returns t c = by_operands_ok _ _ _ _ c.args.looping c.args.e.now c.loop-child.at c.loop-child.types _ c.loop-child.ends c.by_operands.result (search rules) c.loop-child.invariant (search rules) c.by_operands.ensures
