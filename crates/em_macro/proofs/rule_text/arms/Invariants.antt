use Rattle.std.proofs.Common.{◌≡◌, ◌-◌, ◌++◌, suc, length}
use Rattle.em_macro.specs.Steps as spec
use Rattle.em_macro.proofs.rule_text.arms.Given as goal

abbrev pub invariant-loop-turn : goal.invariant-loop-turn
invariant-loop-turn l =
    spec.arms (suc (length l.fn.input.rest.now)) l.fn.input.rest.now
    ≡ spec.and_then (spec.arms (l._turn-end - l._turn) l.input.rest.now) (λ y s. spec.Done (l.found ++ y) s)
