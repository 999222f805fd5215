-- What a function value that reads types promises.
use denote.Ref.{MutBor}
use Rattle.std.specs.Prelude.{ℕ, ◌+◌, ◌<◌, Bool, if◌then◌else◌, Result}
use Rattle.std.specs.declared.alloc.Global.{Global}
use Rattle.em_read.specs.declared.cursor.Cursor.{Cursor}
use Rattle.em_read.specs.declared.stop.Stop.{Stop}
use Rattle.em_tree.specs.declared.types.TypeTree.{TypeTree}
use Rattle.em_tree.specs.Starts.{Pieces}
use Rattle.em_grammar.specs.Sets.{next}
use Rattle.em_grammar.specs.Reader.{Read, Absent, Deep}
use Rattle.em_grammar.specs.TypeReader.{type_first, type_in}
use Rattle.em_read.specs.Parse.{Reads}

-- where groups and depth are less than the limit together, it may be called and reads as the definition does
pub record Knot (limit : ℕ) (pre : Global → MutBor Cursor → ℕ → ℕ → Bool → Type 0) (post : Global → MutBor Cursor → ℕ → ℕ → Bool → Result (TypeTree × Bool) Stop → MutBor Cursor → Type 0) : Type 0 where
  pub callable : (alloc : Global) (old : MutBor Cursor) (groups depth : ℕ) (may : Bool) → groups + depth < limit → pre alloc old groups depth may
  pub reads : (alloc : Global) (old new : MutBor Cursor) (groups depth : ℕ) (may : Bool) (r : Result (TypeTree × Bool) Stop) → groups + depth < limit
      → post alloc old groups depth may r new → Reads (type_in groups depth may old.now.rest.now) r new.now.rest.now

-- where no type may nest
abbrev pub no_type : Pieces → Read (TypeTree × Bool)
no_type i = if next type_first i then Deep else Absent
