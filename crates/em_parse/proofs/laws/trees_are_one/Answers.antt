use Rattle.em_parse.proofs.OneTree.{files_one, lists_one, bodies_one, fragments_one}
use Rattle.em_parse.proofs.laws.trees_are_one.Goals as goal

pub returns : goal.returns
returns c = record {
  files = files_one c.files.ensures.read;
  lists = lists_one c.files.ensures.read;
  bodies = bodies_one c.bodies.ensures.one;
  fragments = fragments_one c.readings.ensures c.groups.ensures.nest;
}
