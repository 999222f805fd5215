-- What a read answers, and why.
use Rattle.std.specs.Prelude.{◌≡◌, ℕ, ◌<◌, ◌≤◌, List, length, Option, Some, None, Result, Ok, Err}
use Rattle.em_disk.specs.declared.traits.ReadError.{ReadError}
use Rattle.em_disk.specs.declared.traits.ReadError.TheVariants.{NoMemory, Absent, TooLong, Failed}
use Rattle.em_disk.specs.Causes.{Rose, raised}

-- what a read of a name says of the bytes that are held there
abbrev pub ReadAnswers : Option (List ℕ) → ℕ → Result (List ℕ) ReadError → Type 0
ReadAnswers held most (Ok bytes) = (held ≡ Some bytes) × (length bytes ≤ most)
ReadAnswers held most (Err NoMemory) = Unit {0}
ReadAnswers held most (Err Absent) = held ≡ None
ReadAnswers held most (Err TooLong) = (bytes : List ℕ) × (held ≡ Some bytes) × (most < length bytes)
ReadAnswers held most (Err Failed) = Unit {0}

-- no fault is forgotten, and there is one where the read failed
pub record ReadHasCause {T : Type 0} (before now : ℕ) (result : Result T ReadError) : Type 0 where
  pub later : before ≤ now
  pub failed : result ≡ Err Failed → Rose before now

-- the count of faults after a read: one more where it failed
abbrev pub faults_after : {T : Type 0} → ℕ → Result T ReadError → ℕ
faults_after before (Err Failed) = raised before
faults_after before (Err NoMemory) = before
faults_after before (Err Absent) = before
faults_after before (Err TooLong) = before
faults_after before (Ok _) = before
