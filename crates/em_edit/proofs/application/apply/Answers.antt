use Rattle.std.proofs.Common.{List, subst, refl, ℕ}
use Rattle.std.proofs.lemmas.Result.{err_from_is_err_and}
use Rattle.em_base.specs.declared.edit.Suggestion.{Suggestion}
use Rattle.em_edit.specs.Faults.{IsRefused}
use Rattle.em_edit.proofs.Refusals.{no_fault}
use Rattle.em_edit.proofs.application.apply.Goals as goal

pub returns-in_err-check_all-clause-only_memory : goal.returns-in_err-check_all-clause-only_memory
returns-in_err-check_all-clause-only_memory c = λ fit.
    let e = c.in_err-check_all.field-0.0 in
    let at_slices = c.in_err-check_all.ensures.refused in
    let at_taken = subst (λ (ss : List Suggestion). IsRefused c.as_slice.result.now ss e) c.as_slice-2.ensures at_slices in
    let refused = subst (λ (ts : List (List ℕ)). IsRefused ts c.args.taken.now e) c.as_slice.ensures at_taken in
    let none = no_fault c.args.sources.now c.args.taken.now fit e refused in
    let p = err_from_is_err_and c.from_residual.result c.from_residual.ensures.1 in
    rw (p.1, p.2, none) refl
