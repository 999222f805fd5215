use Rattle.std.proofs.Common.{refl}
use Rattle.em_grammar.specs.Likely.{number_of}
use Rattle.em_grammar.proofs.likely.number_of.Goals as goal

pub returns-clause-is : goal.returns-clause-is
unfolding number_of
returns-clause-is c = rw c.byte_at.ensures.is (rw c.byte_at-2.ensures.is (rw c.byte_at-last.ensures.is refl))
