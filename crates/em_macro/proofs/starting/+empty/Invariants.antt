use Rattle.std.proofs.Common.{◌≡◌, ◌-◌, ◌<◌, drop}
use Rattle.em_macro.specs.Match.{can_be_empty, empty_all}
use Rattle.em_macro.proofs.starting.+empty.Given as goal

abbrev pub invariant-can_be_empty-loop-matcher : goal.invariant-can_be_empty-loop-matcher
invariant-can_be_empty-loop-matcher l = (0 < l.depth) × (can_be_empty l.depth l.fn.matchers ≡ empty_all (can_be_empty (l.depth - 1)) (drop l.matcher-index l.matchers))
