use Rattle.std.proofs.Common.{◌≡◌, ◌-◌, ◌<◌, drop}
use Rattle.em_macro.specs.Match.{can_be_empty, first, first_all}
use Rattle.em_macro.proofs.starting.+first.Given as goal

abbrev pub invariant-first-loop-matcher : goal.invariant-first-loop-matcher
invariant-first-loop-matcher l =
    (0 < l.depth) × (first l.depth l.fn.matchers l.pieces
    ≡ first_all (can_be_empty (l.depth - 1)) (first (l.depth - 1)) (drop l.matcher-index l.matchers) l.pieces)
