use Rattle.std.proofs.Common.{◌≡◌, ◌-◌, [], Bool, length}
use Rattle.em_tree.specs.Starts.{Pieces}
use Rattle.em_grammar.specs.Reader.{Read}
use Rattle.em_grammar.specs.Rows as spec
use Rattle.em_read.specs.Parse.{Mirrors, Tests}
use Rattle.em_read.proofs.list.rows.Given as goal

abbrev pub invariant-loop-turn : goal.invariant-loop-turn
invariant-loop-turn g l =
    goal.C-IsAlwaysCallable g l.closed × goal.F-IsAlwaysCallable g l.one
    × ((test : g.row.T.Denot → Bool) (R : Pieces → Read g.row.T.Denot) → Tests (goal.C-post g l.closed) test → Mirrors (goal.F-post g l.one) R
    → spec.rows test R (length l.fn.input.rest.now) [] l.fn.input.rest.now ≡ spec.rows test R (l._turn-end - l._turn) l.found l.input.rest.now)
