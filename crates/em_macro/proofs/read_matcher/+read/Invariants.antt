use Rattle.std.proofs.Common.{◌≡◌, ◌+◌, ◌-◌, ◌*◌, ◌++◌, suc, length}
use Rattle.em_macro.specs.Steps as spec
use Rattle.em_macro.proofs.read_matcher.+read.Given as goal

abbrev pub decreases-read : goal.decreases-read
decreases-read l = 4 * l.depth

abbrev pub decreases-parts : goal.decreases-parts
decreases-parts l = 4 * l.depth + 3

abbrev pub decreases-part : goal.decreases-part
decreases-part l = 4 * l.depth + 2

abbrev pub decreases-dollar : goal.decreases-dollar
decreases-dollar l = 4 * l.depth + 1

abbrev pub invariant-parts-loop-turn : goal.invariant-parts-loop-turn
invariant-parts-loop-turn l =
    spec.parts (spec.matcher l.depth) (suc (length l.fn.input.rest.now)) l.fn.input.rest.now
    ≡ spec.and_then (spec.parts (spec.matcher l.depth) (l._turn-end - l._turn) l.input.rest.now) (λ y s. spec.Done (l.found ++ y) s)
