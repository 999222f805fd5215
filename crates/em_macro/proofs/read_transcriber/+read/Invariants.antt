use Rattle.std.proofs.Common.{◌≡◌, ◌+◌, ◌-◌, ◌*◌, ◌++◌, suc, length}
use Rattle.em_macro.specs.Steps as spec
use Rattle.em_macro.proofs.read_transcriber.+read.Given as goal

abbrev pub decreases-read : goal.decreases-read
decreases-read l = 4 * l.depth

abbrev pub decreases-copies : goal.decreases-copies
decreases-copies l = 4 * l.depth + 3

abbrev pub decreases-copy : goal.decreases-copy
decreases-copy l = 4 * l.depth + 2

abbrev pub decreases-dollar : goal.decreases-dollar
decreases-dollar l = 4 * l.depth + 1

abbrev pub invariant-copies-loop-turn : goal.invariant-copies-loop-turn
invariant-copies-loop-turn l =
    spec.copies (spec.transcriber l.depth) (suc (length l.fn.input.rest.now)) l.fn.input.rest.now
    ≡ spec.and_then (spec.copies (spec.transcriber l.depth) (l._turn-end - l._turn) l.input.rest.now) (λ y s. spec.Done (l.found ++ y) s)
