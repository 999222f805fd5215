use Rattle.em_grammar.proofs.ItemLaws.{all_files_read, all_files_exact}
use Rattle.em_grammar.proofs.item_laws.files.Goals as goal

pub returns : goal.returns
returns c = record { read = all_files_read; exact = all_files_exact }
