use Rattle.em_grammar.proofs.ItemLaws.{all_items_read, all_lists_read, all_items_steady, all_items_exact, one_item, items_apart}
use Rattle.em_grammar.proofs.item_laws.items.Goals as goal

pub returns : goal.returns
returns c = record { read = all_items_read; lists = all_lists_read; steady = all_items_steady; exact = all_items_exact; one = one_item; apart = items_apart }
