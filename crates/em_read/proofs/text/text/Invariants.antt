use Rattle.std.proofs.Common.{[], ◌≡◌, length}
use Rattle.em_grammar.specs.TextReader as spec
use Rattle.em_read.specs.Texts.{shape_as, stacked}
use Rattle.em_read.proofs.text.text.Given as goal

abbrev pub invariant-loop-input : goal.invariant-loop-input
invariant-loop-input l =
    spec.text_in (shape_as l.fn.shape) [] [] l.fn.input.rest.now ≡ spec.text_in (shape_as l.unclosed.inner) (stacked l.unclosed.outer) l.found l.input.rest.now

abbrev pub decreases-loop-input : goal.decreases-loop-input
decreases-loop-input l = length l.input.rest.now
