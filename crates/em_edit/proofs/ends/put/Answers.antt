use Rattle.em_edit.proofs.Reach.{put_span}
use Rattle.em_edit.proofs.ends.put.Goals as goal

pub returns : goal.returns
returns c = put_span c.args.ends.now c.insert.new.self c.args.span c.reach_of-reach.result c.reach_of-reach.ensures c.in_ok-insert.ensures.updates.0
