-- What the functions that read ensure.
use denote.Ref.{Bor, MutBor}
use Rattle.std.specs.Prelude.{◌≡◌, ℕ, zero, suc, Bool, Result, Ok, Err, []}
use Rattle.em_read.specs.declared.stop.Stop.{Stop}
use Rattle.em_read.specs.declared.stop.Stop.TheVariants as stop
use Rattle.em_tree.specs.Starts.{Pieces}
use Rattle.em_read.specs.declared.literal.Allowed.{Allowed}
use Rattle.em_read.specs.declared.literal.Allowed.TheVariants as a
use Rattle.em_grammar.specs.declared.sort.Sort.{Sort}
use Rattle.em_grammar.specs.Sets.{int_sort, literal_sort, name_sort, dyn_sort}
use Rattle.em_grammar.specs.PathReader.{root_sort}
use Rattle.em_read.specs.declared.cursor.Cursor.{Cursor}
use Rattle.em_read.specs.declared.cursor.Want.{Want}
use Rattle.em_read.specs.declared.cursor.Want.TheVariants as want
use Rattle.em_grammar.specs.Reader.{Read, Found, Absent, Deep}

-- what was read, and what is left. Want of memory says nothing
abbrev pub Reads : {T : Type 0} → Read T → Result T Stop → Pieces → Type 0
Reads out (Ok t) new = out ≡ Found t new
Reads out (Err stop.Absent) new = out ≡ Absent
Reads out (Err stop.Deep) new = out ≡ Deep
Reads out (Err stop.NoMemory) new = Unit {0}

-- the same of what is all of the pieces
abbrev pub ReadsHere : {T : Type 0} → Read T → Result T Stop → Type 0
ReadsHere out r = Reads out r []

-- a function value that reads as the definition does
abbrev pub Mirrors : {T : Type 0} → (MutBor Cursor → Result T Stop → MutBor Cursor → Type 0) → (Pieces → Read T) → Type 0
Mirrors {T} post R = (old new : MutBor Cursor) (r : Result T Stop) → post old r new → Reads (R old.now.rest.now) r new.now.rest.now

-- a function value that tests as the definition does
abbrev pub Tests : {T : Type 0} → (Bor T → Bool → Type 0) → (T → Bool) → Type 0
Tests {T} post test = (t : Bor T) (b : Bool) → post t b → b ≡ test t.now

-- what reads the pieces of a group, where groups stand in one another up to the number
abbrev pub opened_by : {T : Type 0} → (ℕ → Pieces → Read T) → ℕ → Pieces → Read T
opened_by R zero i = Deep
opened_by R (suc n) i = R n i

-- the sorts of the literals that may stand in a place
abbrev pub allowed : Allowed → Sort → Bool
allowed a.Integers = int_sort
allowed a.All = literal_sort

abbrev pub wants : Want → Sort → Bool
wants want.Name = name_sort
wants want.Root = root_sort
wants want.Dyn = dyn_sort
