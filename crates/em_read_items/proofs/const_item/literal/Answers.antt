use Rattle.std.proofs.Common.{subst}
use Rattle.em_grammar.specs.LiteralReader.{signed_in}
use Rattle.em_read.specs.Parse.{Reads}
use Rattle.em_read_items.proofs.const_item.literal.Goals as goal

pub returns : goal.returns
returns g c = subst (λ n. Reads (signed_in n c.args.input.now.rest.now) c.signed.result c.signed.new.input.rest.now) c.groups.ensures c.signed.ensures
