use Rattle.std.proofs.Common.{◌≡◌, ◌+◌, ◌*◌, drop}
use Rattle.em_macro.specs.Match as law
use Rattle.em_macro.specs.Starters as spec
use Rattle.em_macro.proofs.deciding.+decides.Given as goal

abbrev pub decreases-decides : goal.decreases-decides
decreases-decides l = 3 * l.depth

abbrev pub decreases-decides_all : goal.decreases-decides_all
decreases-decides_all l = 3 * l.depth + 2

abbrev pub decreases-decides_node : goal.decreases-decides_node
decreases-decides_node l = 3 * l.depth + 1

abbrev pub invariant-decides_all-loop-index : goal.invariant-decides_all-loop-index
invariant-decides_all-loop-index l =
    spec.decides_all (spec.firsts l.depth) (law.can_be_empty l.depth) (spec.decides l.depth) l.matchers l.follow
    ≡ spec.decides_all (spec.firsts l.depth) (law.can_be_empty l.depth) (spec.decides l.depth) (drop l.index l.matchers) l.follow
