-- What a function value that reads patterns promises.
use denote.Ref.{MutBor}
use Rattle.std.specs.Prelude.{ℕ, ◌+◌, ◌<◌, if◌then◌else◌, Result}
use Rattle.std.specs.declared.alloc.Global.{Global}
use Rattle.em_read.specs.declared.cursor.Cursor.{Cursor}
use Rattle.em_read.specs.declared.stop.Stop.{Stop}
use Rattle.em_tree.specs.declared.pat.Pat.{Pat}
use Rattle.em_tree.specs.Starts.{Pieces}
use Rattle.em_grammar.specs.Sets.{next}
use Rattle.em_grammar.specs.Reader.{Read, Absent, Deep}
use Rattle.em_grammar.specs.PatReader.{pat_first, pat_in}
use Rattle.em_read.specs.Parse.{Reads}

-- where groups and depth are less than the limit together, it may be called and reads as the definition does
pub record Knot (limit : ℕ) (pre : Global → MutBor Cursor → ℕ → ℕ → Type 0) (post : Global → MutBor Cursor → ℕ → ℕ → Result Pat Stop → MutBor Cursor → Type 0) : Type 0 where
  pub callable : (alloc : Global) (old : MutBor Cursor) (groups depth : ℕ) → groups + depth < limit → pre alloc old groups depth
  pub reads : (alloc : Global) (old new : MutBor Cursor) (groups depth : ℕ) (r : Result Pat Stop) → groups + depth < limit
      → post alloc old groups depth r new → Reads (pat_in groups depth old.now.rest.now) r new.now.rest.now

-- where no pattern may nest
abbrev pub no_pat : Pieces → Read Pat
no_pat i = if next pat_first i then Deep else Absent
