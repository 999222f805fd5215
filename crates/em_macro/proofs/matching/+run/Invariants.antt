use Rattle.std.proofs.Common.{◌≡◌, ◌-◌, ◌<◌, ◌++◌, [], suc, length, drop}
use Rattle.em_macro.specs.Match.{names, first}
use Rattle.em_macro.specs.Run.{and_then, Done, run, all, copies}
use Rattle.em_macro.specs.Reads.{fragments_of, log, log_all, log_copies}
use Rattle.em_macro.proofs.matching.+run.Given as goal

abbrev pub invariant-run-loop-matcher : goal.invariant-run-loop-matcher
invariant-run-loop-matcher g l =
    (0 < l.depth) × (run g.F.Fragments.reads l.depth l.matchers (drop l.fn.at l.pieces)
    ≡ and_then (all g.F.Fragments.reads (names (l.depth - 1)) (first (l.depth - 1)) (run g.F.Fragments.reads (l.depth - 1)) (drop l.matcher-index l.matchers) (drop l.at l.pieces)) (λ y s. Done (l.found ++ y) s))
    × (l.fn.read ++ fragments_of (log g.F.Fragments.reads l.depth l.matchers (drop l.fn.at l.pieces))
    ≡ l.read ++ fragments_of (log_all g.F.Fragments.reads (names (l.depth - 1)) (first (l.depth - 1)) (run g.F.Fragments.reads (l.depth - 1)) (log g.F.Fragments.reads (l.depth - 1)) (drop l.matcher-index l.matchers) (drop l.at l.pieces)))

abbrev pub invariant-copies-loop-turn : goal.invariant-copies-loop-turn
invariant-copies-loop-turn g l =
    (copies g.F.Fragments.reads (names l.depth) (first l.depth) (run g.F.Fragments.reads l.depth) (suc (length (drop l.fn.at l.pieces))) l.body l.separator [] (drop l.fn.at l.pieces)
    ≡ copies g.F.Fragments.reads (names l.depth) (first l.depth) (run g.F.Fragments.reads l.depth) (l._turn-end - l._turn) l.body l.separator l.found (drop l.at l.pieces))
    × (l.fn.read ++ fragments_of (log_copies g.F.Fragments.reads (names l.depth) (first l.depth) (run g.F.Fragments.reads l.depth) (log g.F.Fragments.reads l.depth) (suc (length (drop l.fn.at l.pieces))) l.body l.separator (drop l.fn.at l.pieces))
    ≡ l.read ++ fragments_of (log_copies g.F.Fragments.reads (names l.depth) (first l.depth) (run g.F.Fragments.reads l.depth) (log g.F.Fragments.reads l.depth) (l._turn-end - l._turn) l.body l.separator (drop l.at l.pieces)))
