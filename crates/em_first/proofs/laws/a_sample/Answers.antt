use Rattle.em_first.proofs.TheSample.{has_sample, keeps_sample, sample_begins, sample_prints}
use Rattle.em_first.proofs.laws.a_sample.Goals as goal

pub returns : goal.returns
returns c = record { core = has_sample; kept = keeps_sample; begins = sample_begins; prints = sample_prints }
