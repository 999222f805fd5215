-- What a function that reads a part of the code's own ensures.
use Rattle.std.specs.Prelude.{◌≡◌, Result, Ok, Err}
use Rattle.em_read.specs.declared.stop.Stop.{Stop}
use Rattle.em_read.specs.declared.stop.Stop.TheVariants as stop
use Rattle.em_tree.specs.Starts.{Pieces}
use Rattle.em_grammar.specs.Reader.{Read, Found, Absent, Deep}

-- as `Reads`, where the definition has the value as the function gives it
abbrev pub Gives : {T U : Type 0} → (T → U) → Read U → Result T Stop → Pieces → Type 0
Gives f out (Ok t) new = out ≡ Found (f t) new
Gives f out (Err stop.Absent) new = out ≡ Absent
Gives f out (Err stop.Deep) new = out ≡ Deep
Gives f out (Err stop.NoMemory) new = Unit {0}
