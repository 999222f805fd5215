use Rattle.std.proofs.Common.{refl}
use Rattle.em_core.proofs.laws.closures_in_order.Goals as goal

pub returns : goal.returns
unfolding Rattle.em_core.specs.declared.expr.Expr.TheBlock.hidden-the_row-Expr-0 Rattle.em_core.specs.declared.expr.Expr.TheBlock.shown-the_row-Expr-0
    Rattle.em_core.specs.declared.expr.Expr.TheBlock.hidden-the_row-Expr-1 Rattle.em_core.specs.declared.expr.Expr.TheBlock.shown-the_row-Expr-1
    Rattle.em_core.specs.declared.expr.Expr.TheBlock.hidden-the_row-Arm-2 Rattle.em_core.specs.declared.expr.Expr.TheBlock.shown-the_row-Arm-2
    Rattle.em_core.specs.declared.ty.Ty.TheBlock.hidden-the_row-Ty-0 Rattle.em_core.specs.declared.ty.Ty.TheBlock.shown-the_row-Ty-0
    Rattle.em_core.specs.declared.ty.Ty.TheBlock.hidden-the_row-Ty-1 Rattle.em_core.specs.declared.ty.Ty.TheBlock.shown-the_row-Ty-1
    Rattle.em_core.specs.declared.expr.Expr.TheViews.out-Expr Rattle.em_core.specs.declared.expr.Expr.TheViews.roll-Expr
    Rattle.em_core.specs.declared.ty.Ty.TheViews.out-Ty Rattle.em_core.specs.declared.ty.Ty.TheViews.roll-Ty
    denote.Hole.Carrier.out denote.Hole.Carrier.roll denote.Hole.Carrier.shown denote.Hole.Carrier.hidden Rattle.std.specs.Fmt.digits lib.Utf8.encode
returns c = record { nested_whole = refl; nested_field = refl; capture_order = refl }
