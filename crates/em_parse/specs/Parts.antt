-- What only private functions and laws cite: it follows the code, and no public contract speaks of it.
use Rattle.std.specs.Prelude.{◌≡◌, List, []}
use Rattle.em_tree.specs.declared.fragment.FragError.{FragError}
use Rattle.em_tree.specs.declared.fragment.FragError.TheVariants as frag
use Rattle.em_tree.specs.declared.item.Item.{Item}
use Rattle.em_tree.specs.Starts.{Pieces}
use Rattle.em_grammar.specs.TextReader.{TextsRead}
use Rattle.em_grammar.specs.Laws.{LiteralsRead, PathsRead, TypesRead, PatsRead, TopPatsRead}
use Rattle.em_grammar.specs.ExprLaws.{ExprsRead, StmtsRead, BlocksRead}
use Rattle.em_grammar.specs.ItemLaws.{ItemsRead}
use Rattle.em_read.specs.declared.stop.Stop.{Stop}
use Rattle.em_read.specs.declared.stop.Stop.TheVariants as stop
use Rattle.em_parse.specs.Calls.{AreItems, NoItemStands, DeepItemStands}

-- why reading items stops before these pieces
abbrev pub Stops : Stop → Pieces → Type 0
Stops stop.NoMemory rest = Unit {0}
Stops stop.Absent rest = NoItemStands rest
Stops stop.Deep rest = DeepItemStands rest

-- after some items of the pieces
abbrev pub ItemsStop : Pieces → Stop → Pieces → Type 0
ItemsStop i stop.NoMemory rest = Unit {0}
ItemsStop i why rest = (items : List Item) × AreItems i items rest × (rest ≡ [] → ⊥) × Stops why rest

-- what a reader's stop answers
abbrev pub refusal_of : Stop → FragError
refusal_of stop.NoMemory = frag.NoMemory
refusal_of stop.Absent = frag.Broken
refusal_of stop.Deep = frag.Depth

-- how each category that a fragment may be is read
pub record Readings : Type 0 where
  pub texts : TextsRead
  pub literals : LiteralsRead
  pub types : TypesRead
  pub paths : PathsRead
  pub pats : PatsRead
  pub tops : TopPatsRead
  pub exprs : ExprsRead
  pub stmts : StmtsRead
  pub blocks : BlocksRead
  pub items : ItemsRead
