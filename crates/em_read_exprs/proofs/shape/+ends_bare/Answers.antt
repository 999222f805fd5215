use Rattle.std.proofs.Common.{◌∙◌, ap, sym}
use Rattle.em_tree.specs.ExprShape as shape
use Rattle.em_read_exprs.proofs.Ends.{bare_closure, bare_unary, bare_ref, bare_ref_ref, bare_binary, bare_assign}
use Rattle.em_read_exprs.proofs.shape.+ends_bare.Goals as goal

pub returns-in-Closure : goal.returns-in-Closure
returns-in-Closure t c =
    c.ends_bare-in-Closure.ensures ∙ ap (λ x. shape.ends_bare x) c.get-in-Closure.ensures ∙ sym (bare_closure c.args.tree.now c.in-Closure.word_move c.in-Closure.head c.in-Closure.body c.in-Closure.is)

pub returns-in-Unary : goal.returns-in-Unary
returns-in-Unary t c =
    c.ends_bare-in-Unary.ensures ∙ ap (λ x. shape.ends_bare x) c.get-in-Unary.ensures ∙ sym (bare_unary c.args.tree.now c.in-Unary.operator c.in-Unary.operand c.in-Unary.is)

pub returns-in-Ref : goal.returns-in-Ref
returns-in-Ref t c =
    c.ends_bare-in-Ref.ensures ∙ ap (λ x. shape.ends_bare x) c.get-in-Ref.ensures ∙ sym (bare_ref c.args.tree.now c.in-Ref.amp c.in-Ref.word_mut c.in-Ref.operand c.in-Ref.is)

pub returns-in-RefRef : goal.returns-in-RefRef
returns-in-RefRef t c =
    c.ends_bare-in-RefRef.ensures ∙ ap (λ x. shape.ends_bare x) c.get-in-RefRef.ensures ∙ sym (bare_ref_ref c.args.tree.now c.in-RefRef.amps c.in-RefRef.word_mut c.in-RefRef.operand c.in-RefRef.is)

pub returns-in-Binary : goal.returns-in-Binary
returns-in-Binary t c =
    c.ends_bare-in-Binary.ensures ∙ ap (λ x. shape.ends_bare x) c.get-in-Binary.ensures ∙ sym (bare_binary c.args.tree.now c.in-Binary.left c.in-Binary.operator c.in-Binary.right c.in-Binary.is)

pub returns-in-Assign : goal.returns-in-Assign
returns-in-Assign t c =
    c.ends_bare-in-Assign.ensures ∙ ap (λ x. shape.ends_bare x) c.get-in-Assign.ensures ∙ sym (bare_assign c.args.tree.now c.in-Assign.left c.in-Assign.operator c.in-Assign.right c.in-Assign.is)
