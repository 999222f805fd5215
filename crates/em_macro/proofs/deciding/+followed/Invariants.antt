use Rattle.std.proofs.Common.{◌≡◌, ◌+◌, ◌*◌, drop}
use Rattle.em_macro.specs.Match as law
use Rattle.em_macro.specs.Starters as spec
use Rattle.em_macro.proofs.deciding.+followed.Given as goal

abbrev pub decreases-followed : goal.decreases-followed
decreases-followed l = 3 * l.depth

abbrev pub decreases-followed_all : goal.decreases-followed_all
decreases-followed_all l = 3 * l.depth + 2

abbrev pub decreases-followed_node : goal.decreases-followed_node
decreases-followed_node l = 3 * l.depth + 1

abbrev pub invariant-followed_all-loop-index : goal.invariant-followed_all-loop-index
invariant-followed_all-loop-index l =
    spec.followed_all (spec.firsts l.depth) (law.can_be_empty l.depth) (spec.followed l.depth) l.matchers l.follow
    ≡ spec.followed_all (spec.firsts l.depth) (law.can_be_empty l.depth) (spec.followed l.depth) (drop l.index l.matchers) l.follow
