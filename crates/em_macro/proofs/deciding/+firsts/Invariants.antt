use Rattle.std.proofs.Common.{◌≡◌, ◌+◌, ◌*◌, ◌++◌, drop}
use Rattle.em_macro.specs.Match as law
use Rattle.em_macro.specs.Starters as spec
use Rattle.em_macro.proofs.deciding.+firsts.Given as goal

abbrev pub decreases-firsts : goal.decreases-firsts
decreases-firsts l = 3 * l.depth

abbrev pub decreases-firsts_all : goal.decreases-firsts_all
decreases-firsts_all l = 3 * l.depth + 2

abbrev pub decreases-firsts_node : goal.decreases-firsts_node
decreases-firsts_node l = 3 * l.depth + 1

abbrev pub invariant-firsts_all-loop-matcher : goal.invariant-firsts_all-loop-matcher
invariant-firsts_all-loop-matcher l =
    l.fn.found ++ spec.firsts_all (law.can_be_empty l.depth) (spec.firsts l.depth) l.matchers
    ≡ l.found ++ spec.firsts_all (law.can_be_empty l.depth) (spec.firsts l.depth) (drop l.matcher-index l.matchers)
