-- The faults of one suggestion, behind parts that have none.
use Rattle.std.specs.Prelude.{◌≡◌, ℕ, List, ◌++◌, All, Any}
use Rattle.em_base.specs.declared.edit.Part.{Part}
use Rattle.em_edit.specs.declared.bad_edit.BadEdit.{BadEdit}
use Rattle.em_edit.specs.declared.bad_edit.BadEdit.TheVariants.{NoMemory, OutOfText, NotBoundary, Overlap}
use Rattle.em_edit.specs.Faults.{IsInText, IsOnBoundaries}
use Rattle.em_edit.specs.Fit.{LiesIn}
use Rattle.em_edit.specs.Meet.{TwoMeet}

abbrev pub IsFault : List (List ℕ) → List Part → List Part → ℕ → BadEdit → Type 0
IsFault sources before parts which NoMemory = Unit {0}
IsFault sources before parts which (OutOfText w) = (w ≡ which) × Any (λ p. IsInText sources p → ⊥) parts
IsFault sources before parts which (NotBoundary w) = (w ≡ which) × All (IsInText sources) parts × Any (λ p. IsOnBoundaries sources p → ⊥) parts
IsFault sources before parts which (Overlap w) = (w ≡ which) × All (LiesIn sources) parts × TwoMeet (before ++ parts)
