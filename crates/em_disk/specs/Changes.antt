-- Changes of files in order: all of them, or those before the one that failed.
use Rattle.std.specs.Prelude.{◌≡◌, ◌⊎◌, ℕ, ◌+◌, ◌<◌, List, [], ◌∷◌, take, length, Option}
use Rattle.em_disk.specs.Held.{Held, with_file}
use Rattle.em_disk.specs.declared.changes.Change.{Change}

-- what is held after these changes, where that is told
abbrev pub after : List Change → Option Held → Option Held
after [] held = held
after (c ∷ cs) held = after cs (with_file held c.name c.new)

-- the changes before that of a number are done, that one is done or not, and nothing else has changed
abbrev pub PartDone : List Change → ℕ → Option Held → Option Held → Type 0
PartDone changes which old new = (which < length changes) × ((new ≡ after (take which changes) old) ⊎ (new ≡ after (take (which + 1) changes) old))
