use Rattle.em_first.proofs.Keeps.{keeps_events}
use Rattle.em_first.proofs.laws.events_are_kept.Goals as goal

pub returns : goal.returns
returns c = keeps_events
