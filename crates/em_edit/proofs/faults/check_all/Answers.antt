use Rattle.std.proofs.Common.{◌++◌, List, subst, take, ◌∙◌, ap}
use Rattle.std.specs.Prelude.{All}
use Rattle.std.proofs.lemmas.List.{take_all}
use Rattle.std.proofs.lemmas.Result.{err_from_is_err_and}
use Rattle.em_base.specs.declared.edit.Part.{Part}
use Rattle.em_base.specs.declared.edit.Suggestion.{Suggestion}
use Rattle.em_edit.specs.Check.{IsFault}
use Rattle.em_edit.specs.Edited.{all_parts}
use Rattle.em_edit.specs.Ends.{HoldsClear}
use Rattle.em_edit.specs.Fit.{LiesIn, AreApplicable}
use Rattle.em_edit.proofs.Refusals.{is_refused, applicable, all_lie, all_parts-more}
use Rattle.em_edit.proofs.faults.check_all.Goals as goal

pub returns-in_err-check_one-clause-refused : goal.returns-in_err-check_one-clause-refused
returns-in_err-check_one-clause-refused c =
    let held = c.loop-which.invariant.held in
    let fault = subst (λ (ps : List Part). IsFault c.args.sources.now (all_parts (take c.loop-which.which c.args.taken.now)) ps c.loop-which.which c.in_err-check_one.field-0.0) c.as_slice.ensures (c.in_err-check_one.ensures.fault (all_parts (take c.loop-which.which c.args.taken.now)) held) in
    let p = err_from_is_err_and c.from_residual.result c.from_residual.ensures.1 in
    rw (p.1, p.2) (is_refused c.args.sources.now c.args.taken.now c.loop-which.ends c.loop-which.which c.index-taken-which.result c.in_err-check_one.field-0.0 c.loop-which-test.true c.index-taken-which.is c.loop-which.invariant.lie held fault)

pub loop-which-preserved : goal.loop-which-preserved
loop-which-preserved c = record {
  lie = all_lie c.args.sources.now c.args.taken.now c.loop-which.which c.index-taken-which.result c.loop-which-test.true c.index-taken-which.is c.loop-which.invariant.lie
      (subst (λ (ps : List Part). All (LiesIn c.args.sources.now) ps) c.as_slice.ensures c.in_ok-check_one.ensures.lie);
  held = subst (λ (ps : List Part). HoldsClear c.check_one.new.ends ps)
      (ap (λ (ps : List Part). all_parts (take c.loop-which.which c.args.taken.now) ++ ps) c.as_slice.ensures ∙ all_parts-more c.args.taken.now c.loop-which.which c.index-taken-which.result c.loop-which-test.true c.index-taken-which.is)
      (c.in_ok-check_one.ensures.put (all_parts (take c.loop-which.which c.args.taken.now)) c.loop-which.invariant.held);
}

pub returns-clause-fit : goal.returns-clause-fit
returns-clause-fit c =
    subst (λ (ss : List Suggestion). AreApplicable c.args.sources.now ss) (take_all c.loop-which.which c.args.taken.now c.loop-which-test.false)
    (applicable c.args.sources.now (take c.loop-which.which c.args.taken.now) c.loop-which.ends c.loop-which.invariant.lie c.loop-which.invariant.held)
