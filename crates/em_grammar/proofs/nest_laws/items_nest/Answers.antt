use Rattle.em_grammar.proofs.NestItems.{item_low, item_within, file_low, file_within}
use Rattle.em_grammar.proofs.nest_laws.items_nest.Goals as goal

pub returns : goal.returns
returns c = record { items = λ e d x m. (item_low d x, item_within e d x m); files = λ e d x m. (file_low d x, file_within e d x m) }
