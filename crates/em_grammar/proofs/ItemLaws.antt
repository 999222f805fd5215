-- Laws of items.
use Rattle.std.proofs.Common.{ℕ, zero, suc}
use Rattle.em_grammar.specs.Sets.{Nested}
use Rattle.em_grammar.specs.ExprKnot.{block_in}
use Rattle.em_grammar.specs.ItemLaws.{AttributesRead, FileAttributesRead, FileAttributesExact, FileAttributesEnd, ItemsApart, VisRead, ItemsRead, ItemListsRead, ItemsSteady, ItemsExact, OneItem, FilesRead, FilesExact}
use Rattle.em_grammar.proofs.ExprLaws.{the_blocks}
use Rattle.em_grammar.proofs.FirmKnot.{blocks_steady}
use Rattle.em_grammar.proofs.ItemPartPairs.{attribute_pair, file_attribute_pair, vis_pair}
use Rattle.em_grammar.proofs.ItemKnot.{items_read}
use Rattle.em_grammar.proofs.ItemFirm.{file_attribute_firm, items_firm}
use Rattle.em_grammar.proofs.Nesting.{exact_of}
use Rattle.std.proofs.Common.{refl}
use Rattle.em_tree.specs.declared.item.FileAttribute.{FileAttribute}
use Rattle.em_tree.specs.ItemGrammar.{IsFileAttribute, file_attribute_pieces}
use Rattle.em_grammar.specs.declared.sort.Written.TheVariants as word
use Rattle.em_grammar.specs.Sets.{anything}
use Rattle.em_grammar.specs.ItemReader.{at, file_attribute}
use Rattle.em_grammar.proofs.ItemFiles.{attributes_end, no_file_attribute, lists_read, items_exact, item_one, files_read, files_exact}

pub attributes_read : AttributesRead
attributes_read = attribute_pair

pub file_attributes_read : FileAttributesRead
file_attributes_read = file_attribute_pair

pub file_attributes_exact : FileAttributesExact
file_attributes_exact =
    exact_of FileAttribute (λ d. IsFileAttribute) file_attribute_pieces (λ n depth. file_attribute n) (at word.Pound) (λ _. anything) file_attribute_pair (λ d t m. refl) (λ n m d e h k. file_attribute_firm n m h)

pub file_attributes_end : FileAttributesEnd
file_attributes_end = attributes_end block_in the_blocks

pub items_apart : ItemsApart
items_apart = no_file_attribute block_in the_blocks

pub vis_read : VisRead
vis_read n depth = vis_pair (Nested n) depth

-- ---- items and files

pub all_items_read : ItemsRead
all_items_read = items_read block_in the_blocks

pub all_lists_read : ItemListsRead
all_lists_read = lists_read block_in the_blocks

pub all_items_steady : ItemsSteady
all_items_steady n m d e h k = items_firm block_in blocks_steady the_blocks n m h d e k

pub all_items_exact : ItemsExact
all_items_exact = items_exact block_in the_blocks blocks_steady

pub one_item : OneItem
one_item = item_one block_in the_blocks

pub all_files_read : FilesRead
all_files_read = files_read block_in the_blocks

pub all_files_exact : FilesExact
all_files_exact = files_exact block_in the_blocks blocks_steady
