use Rattle.em_parse.proofs.ReadAgain.{files_again, lists_again, bodies_again, fragments_again}
use Rattle.em_parse.proofs.laws.trees_are_read_again.Goals as goal

pub returns : goal.returns
returns c = record {
  files = files_again c.answers_are_decided.ensures.files;
  lists = lists_again c.answers_are_decided.ensures.lists;
  bodies = bodies_again c.bodies.ensures.read c.bodies.ensures.one c.exprs_nest.ensures.bodies;
  fragments = fragments_again c.readings.ensures c.groups.ensures.nest c.fragments_nest.ensures.fragments;
}
