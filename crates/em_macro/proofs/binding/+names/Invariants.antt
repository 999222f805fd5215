use Rattle.std.proofs.Common.{◌≡◌, ◌-◌, ◌<◌, ◌++◌, drop}
use Rattle.em_macro.specs.Match.{names, names_of_all}
use Rattle.em_macro.proofs.binding.+names.Given as goal

abbrev pub invariant-names-loop-matcher : goal.invariant-names-loop-matcher
invariant-names-loop-matcher l =
    (0 < l.depth) × (l.fn.found ++ names l.depth l.matchers ≡ l.found ++ names_of_all (names (l.depth - 1)) (drop l.matcher-index l.matchers))
