use Rattle.std.proofs.Common.{◌≡◌, drop}
use Rattle.em_macro.specs.Match as law
use Rattle.em_macro.proofs.deciding.are_empty.Given as goal

abbrev pub invariant-loop-matcher : goal.invariant-loop-matcher
invariant-loop-matcher l = law.empty_all (law.can_be_empty l.depth) l.matchers ≡ law.empty_all (law.can_be_empty l.depth) (drop l.matcher-index l.matchers)
