-- What a program of the first form prints.
use Rattle.std.specs.Prelude.{ℕ, Bool, nat_le, List, [], ◌∷◌, length, take, slice_index}
use Rattle.std.specs.List.{flat_map}
use Rattle.em_first.specs.Form.{Statement, Let, Print}

-- the values of the `let`s in order
abbrev pub values : List Statement → List ℕ
values [] = []
values (Let value ∷ core) = value ∷ values core
values (Print which ∷ core) = values core

-- what a statement prints, where the `let`s bind these values
abbrev pub printed : List ℕ → Statement → List ℕ
printed numbers (Let value) = []
printed numbers (Print which) = slice_index numbers which ∷ []

-- numbers that were printed, and whether the program has ended
pub record Events : Type 0 where
  pub numbers : List ℕ
  pub ended : Bool

-- what the first n statements print, and whether these are all
abbrev pub first_events : List Statement → ℕ → Events
first_events core n = record { numbers = flat_map (printed (values core)) (take n core); ended = nat_le (length core) n }
