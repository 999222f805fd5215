use Rattle.std.proofs.Common.{rules, ap, sym, ◌∙◌, map}
use Rattle.std.specs.Prelude.{slice_get}
use Rattle.em_core.specs.declared.expr.Arm.{out-Arm}
use Rattle.em_core.specs.declared.expr.Expr.{out-Expr}
use Rattle.em_core.specs.declared.expr.Expr.TheViews as view
use Rattle.em_core.specs.Nodes.{children}
use Rattle.em_core.proofs.ChildLemmas.{arm_there, arm_past}
use Rattle.em_core.proofs.typed.children.child_at.Goals as goal

pub returns-then-at-arms-clause-child : goal.returns-then-at-arms-clause-child
returns-then-at-arms-clause-child c =
    arm_there c.as_slice-arms.result.now c.args.at _ (search rules) ∙ ap (λ arms. slice_get (map (λ x. (out-Arm x).body) arms) c.args.at) c.as_slice-arms.ensures
    ∙ ap (λ x. slice_get (children x) c.args.at) (sym (ap (λ e. out-Expr e) c.in-Match.is ∙ view.outs-Match c.in-Match.place c.in-Match.arms))

pub returns-else-at-arms-clause-child : goal.returns-else-at-arms-clause-child
returns-else-at-arms-clause-child c =
    arm_past c.as_slice-arms.result.now c.args.at (search rules) ∙ ap (λ arms. slice_get (map (λ x. (out-Arm x).body) arms) c.args.at) c.as_slice-arms.ensures
    ∙ ap (λ x. slice_get (children x) c.args.at) (sym (ap (λ e. out-Expr e) c.in-Match.is ∙ view.outs-Match c.in-Match.place c.in-Match.arms))
