-- What is read of an item where none may nest, and inside of one.
use Rattle.std.specs.Prelude.{ℕ, ◌-◌, if◌then◌else◌}
use Rattle.em_tree.specs.declared.item.Item.{Item}
use Rattle.em_tree.specs.Starts.{Pieces}
use Rattle.em_grammar.specs.Sets.{next}
use Rattle.em_grammar.specs.Reader.{Read, Absent, Deep}
use Rattle.em_grammar.specs.TypeReader.{plain_type_in}
use Rattle.em_grammar.specs.PatReader.{pat_in}
use Rattle.em_grammar.specs.ExprKnot.{block_in}
use Rattle.em_grammar.specs.ItemReader.{Inner, item_start, item_in}

-- where no item may nest
abbrev pub no_item : Pieces → Read Item
no_item i = if next item_start i then Deep else Absent

-- what an item is made of that is a node at a depth above 0: an impl begins with a type one node deeper than the others
abbrev pub inner_at : ℕ → ℕ → Inner
inner_at n depth = record {
  nested = n;
  types = plain_type_in n (depth - 1);
  heads = plain_type_in n depth;
  pats = pat_in n (depth - 1);
  blocks = block_in n (depth - 1);
  items = item_in n (depth - 1);
}
