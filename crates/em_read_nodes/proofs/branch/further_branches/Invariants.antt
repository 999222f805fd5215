use Rattle.std.proofs.Common.{◌≡◌, ◌-◌, length}
use Rattle.em_grammar.specs.BranchReader.{else_part}
use Rattle.em_read_nodes.specs.Branches as part
use Rattle.em_read_nodes.proofs.branch.further_branches.Given as goal

abbrev pub invariant-loop-turn : goal.invariant-loop-turn
invariant-loop-turn g l =
    part.grow (else_part (g.I.Inside.readers l.inside)) (length l.fn.input.rest.now) part.nothing l.fn.input.rest.now
    ≡ part.grow (else_part (g.I.Inside.readers l.inside)) (l._turn-end - l._turn) l.found l.input.rest.now
