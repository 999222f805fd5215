use Rattle.em_macro.proofs.Arms.{one_match}
use Rattle.em_macro.proofs.choosing.one_match.Goals as goal

pub returns : goal.returns
returns g c = one_match g.F.Fragments.reads (g.met.F.Fragments.never_empty, g.met.F.Fragments.starting)
