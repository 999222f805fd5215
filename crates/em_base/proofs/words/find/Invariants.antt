use Rattle.std.proofs.Common.{◌-◌}
use Rattle.em_base.specs.Words.{texts}
use Rattle.em_base.proofs.Tables.{Between}
use Rattle.em_base.proofs.words.find.Given as goal

abbrev pub invariant-halves : goal.invariant-halves
invariant-halves l = Between (texts l.table) l.text l.low l.high

abbrev pub decreases-halves : goal.decreases-halves
decreases-halves l = l.high - l.low
