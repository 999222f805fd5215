use Rattle.std.proofs.Common.{◌≡◌, ◌-◌}
use Rattle.em_grammar.specs.ExprReader.{suffix, apply}
use Rattle.em_grammar.specs.ExprSets.{on}
use Rattle.em_grammar.specs.Levels.{climb}
use Rattle.em_read_exprs.specs.Exprs.{start_of}
use Rattle.em_read_nodes.proofs.level.climb.Given as goal

abbrev pub invariant-loop-turn : goal.invariant-loop-turn
invariant-loop-turn g l =
    climb (on (start_of l.start) l.least) (suffix (g.I.Inside.readers l.inside) l.no_struct) apply l.turns l.fn.first l.fn.input.rest.now
    ≡ climb (on (start_of l.start) l.least) (suffix (g.I.Inside.readers l.inside) l.no_struct) apply (l.turns - l._turn) l.left l.input.rest.now
