use Rattle.std.proofs.Common.{refl}
use Rattle.em_core.proofs.laws.drops_in_order.Goals as goal

pub returns : goal.returns
unfolding Rattle.em_core.specs.declared.expr.Expr.TheBlock.hidden-the_row-Expr-0 Rattle.em_core.specs.declared.expr.Expr.TheBlock.shown-the_row-Expr-0
    Rattle.em_core.specs.declared.expr.Expr.TheBlock.hidden-the_row-Expr-1 Rattle.em_core.specs.declared.expr.Expr.TheBlock.shown-the_row-Expr-1
    Rattle.em_core.specs.declared.expr.Expr.TheBlock.hidden-the_row-Arm-2 Rattle.em_core.specs.declared.expr.Expr.TheBlock.shown-the_row-Arm-2
    Rattle.em_core.specs.declared.ty.Ty.TheBlock.hidden-the_row-Ty-0 Rattle.em_core.specs.declared.ty.Ty.TheBlock.shown-the_row-Ty-0
    Rattle.em_core.specs.declared.ty.Ty.TheBlock.hidden-the_row-Ty-1 Rattle.em_core.specs.declared.ty.Ty.TheBlock.shown-the_row-Ty-1
    Rattle.em_core.specs.declared.expr.Expr.TheViews.out-Expr Rattle.em_core.specs.declared.expr.Expr.TheViews.roll-Expr
    Rattle.em_core.specs.declared.ty.Ty.TheViews.out-Ty Rattle.em_core.specs.declared.ty.Ty.TheViews.roll-Ty
    denote.Hole.Carrier.out denote.Hole.Carrier.roll denote.Hole.Carrier.shown denote.Hole.Carrier.hidden Rattle.std.specs.Fmt.digits
returns c = record { fields = refl; moved_into_call = refl; locals = refl; assignment = refl; part_moved = refl; owner_first = refl; boxed = refl; dropped = refl; moved_value = refl }
