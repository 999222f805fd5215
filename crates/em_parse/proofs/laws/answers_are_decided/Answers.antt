use Rattle.em_parse.proofs.Decided.{lists_decided, files_decided}
use Rattle.em_parse.proofs.DecidedBodies.{bodies_decided, fragments_decided}
use Rattle.em_parse.proofs.laws.answers_are_decided.Goals as goal

pub returns : goal.returns
returns c = record {
  files = files_decided c.items.ensures.read c.items_nest.ensures.items c.attributes.ensures.files c.items.ensures.apart;
  lists = lists_decided c.items.ensures.read c.items_nest.ensures.items;
  bodies = bodies_decided c.bodies.ensures.one;
  fragments = fragments_decided c.readings.ensures c.groups.ensures.nest c.fragments_nest.ensures.fragments;
}
