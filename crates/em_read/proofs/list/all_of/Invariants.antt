use Rattle.std.proofs.Common.{◌≡◌, ◌-◌, [], Bool, length}
use Rattle.em_grammar.specs.Reader.{many}
use Rattle.em_tree.specs.Starts.{Pieces}
use Rattle.em_grammar.specs.Reader.{Read}
use Rattle.em_read.specs.Parse.{Mirrors}
use Rattle.em_read.proofs.list.all_of.Given as goal

abbrev pub invariant-loop-turn : goal.invariant-loop-turn
invariant-loop-turn g l =
    goal.F-IsAlwaysCallable g l.one × ((R : Pieces → Read g.row.T.Denot) → Mirrors (goal.F-post g l.one) R → many R (length l.fn.input.rest.now) [] l.fn.input.rest.now ≡ many R (l._turn-end - l._turn) l.found l.input.rest.now)
