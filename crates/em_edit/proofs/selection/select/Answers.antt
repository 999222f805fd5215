use Rattle.std.proofs.Common.{ℕ, ◌++◌, ◌<◌, ◌+◌, List, map, drop, length, get_or, subst, sym, ◌∙◌, ap, MatchBool}
use Rattle.std.proofs.lemmas.Bool.{MatchBool-at_true, MatchBool-at_false}
use Rattle.em_base.specs.declared.edit.Part.{Part}
use Rattle.em_base.specs.declared.edit.Suggestion.{Suggestion}
use Rattle.em_edit.specs.Ends.{Holds}
use Rattle.em_edit.specs.Meet.{OneMeets}
use Rattle.em_edit.specs.Selected.{Turn}
use Rattle.em_edit.proofs.Walking.{Onward, onward_taken, onward_left, next_index, index_within, is_selection, walk_at, finding_at}
use Rattle.em_edit.proofs.selection.select.Goals as goal
use Rattle.em_edit.proofs.selection.select.Goals.{then-branch+in_ok-push, else-branch}

pub bounds-as_slice-turn : goal.bounds-as_slice-turn
bounds-as_slice-turn c =
    let walk = walk_at c.args.findings.now _ c.deref-turn-items.result.now _ c.as_slice.ensures c.deref-turn-items.ensures.value c.in_ok-turns.ensures in
    subst (λ (fs : List Suggestion). (get_or c.deref-turn-items.result.now c.loop-turn.turn-index ((0, 0, 0), 0)).1 < length fs) (sym c.as_slice-in-loop-turn.ensures)
    (index_within c.args.findings.now c.deref-turn-items.result.now c.loop-turn.turn-index ((0, 0, 0), 0) walk c.loop-turn-test.true)

pub loop-turn-preserved : goal.loop-turn-preserved
loop-turn-preserved c =
    let items = c.deref-turn-items.result.now in
    let s = c.index-as_slice-turn.result in
    let i : ℕ = (get_or items c.loop-turn.turn-index ((0, 0, 0), 0)).1 in
    let before = c.loop-turn.invariant.0 in
    let all = map (λ (t : Turn). t.1) items in
    let left = map (λ (t : Turn). t.1) (drop (c.loop-turn.turn-index + 1) items) in
    let walk = walk_at c.args.findings.now _ items _ c.as_slice.ensures c.deref-turn-items.ensures.value c.in_ok-turns.ensures in
    let lt = index_within c.args.findings.now items c.loop-turn.turn-index ((0, 0, 0), 0) walk c.loop-turn-test.true in
    let here = finding_at c.args.findings.now c.as_slice-in-loop-turn.result.now i s c.as_slice-in-loop-turn.ensures lt c.index-as_slice-turn.is in
    let onward = subst (λ (xs : List ℕ). Onward c.args.findings.now before xs all c.loop-turn.taken) (next_index items c.loop-turn.turn-index ((0, 0, 0), 0) c.loop-turn-test.true) c.loop-turn.invariant.2 in
    let told = subst (λ (ps : List Part). MatchBool c.in_ok-admit.field-0 ((OneMeets ps before → ⊥) × Holds c.admit.new.ends (before ++ ps)) (OneMeets ps before × Holds c.admit.new.ends before)) (c.as_slice-parts.ensures ∙ ap (λ (x : Suggestion). x.parts) (sym c.index-as_slice-turn.is)) (c.in_ok-admit.ensures before c.loop-turn.invariant.1) in
    elim c.if-branch.branch [
      | then-branch+in_ok-push w ↦
          let free = MatchBool-at_true ((OneMeets s.parts before → ⊥) × Holds c.admit.new.ends (before ++ s.parts)) (OneMeets s.parts before × Holds c.admit.new.ends before) w.if-branch.true told in
          (before ++ s.parts, free.1, subst (Onward c.args.findings.now (before ++ s.parts) left all) (sym (w.taken-is ∙ w.in_ok-push.ensures.ok)) (onward_taken c.args.findings.now before left all c.loop-turn.taken i s here free.0 onward))
      | else-branch w ↦
          let met = MatchBool-at_false ((OneMeets s.parts before → ⊥) × Holds c.admit.new.ends (before ++ s.parts)) (OneMeets s.parts before × Holds c.admit.new.ends before) w.if-branch.false told in
          (before, met.1, subst (Onward c.args.findings.now before left all) (sym w.taken-is) (onward_left c.args.findings.now before left all c.loop-turn.taken i s here met.0 onward))
    ]

pub returns : goal.returns
returns c =
    let walk = walk_at c.args.findings.now _ c.deref-turn-items.result.now _ c.as_slice.ensures c.deref-turn-items.ensures.value c.in_ok-turns.ensures in
    is_selection c.args.findings.now c.loop-turn.invariant.0 c.deref-turn-items.result.now c.loop-turn.turn-index c.loop-turn.taken walk c.loop-turn-test.false c.loop-turn.invariant.2
