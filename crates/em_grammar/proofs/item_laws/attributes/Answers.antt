use Rattle.em_grammar.proofs.ItemLaws.{attributes_read, file_attributes_read, file_attributes_exact, file_attributes_end, vis_read}
use Rattle.em_grammar.proofs.item_laws.attributes.Goals as goal

pub returns : goal.returns
returns c = record { items = attributes_read; files = file_attributes_read; files_exact = file_attributes_exact; files_end = file_attributes_end; visibility = vis_read }
