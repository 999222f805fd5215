use Rattle.std.proofs.Common.{◌≡◌, ◌-◌, [], length}
use Rattle.em_grammar.specs.Reader.{many}
use Rattle.em_grammar.specs.PathReader.{step}
use Rattle.em_read.proofs.path.steps.Given as goal

abbrev pub invariant-loop-turn : goal.invariant-loop-turn
invariant-loop-turn l =
    many step (length l.fn.input.rest.now) [] l.fn.input.rest.now ≡ many step (l._turn-end - l._turn) l.found l.input.rest.now
