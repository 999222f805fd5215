use Rattle.std.proofs.Common.{subst}
use Rattle.em_grammar.specs.Reader.{all_of}
use Rattle.em_grammar.specs.ItemReader.{attribute}
use Rattle.em_read.specs.Parse.{Reads}
use Rattle.em_read_items.proofs.item.item_attributes.Goals as goal

pub returns : goal.returns
returns g c =
    subst (λ n. Reads (all_of (attribute n) c.args.input.now.rest.now) c.attributes.result c.attributes.new.input.rest.now) c.groups.ensures c.attributes.ensures
