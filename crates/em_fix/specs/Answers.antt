-- What each answer says of the files and the sink, and why it comes.
use Rattle.std.specs.Prelude.{◌≡◌, ◌⊎◌, ℕ, List, Option, Some, None, IfSome, ◌++◌, slice_get}
use Rattle.std.specs.FinMap.{get}
use Rattle.std.specs.Option.{option_map}
use Rattle.em_base.specs.declared.limit.Limit.{Limit as LimitKind}
use Rattle.em_base.specs.declared.limit.Limit.TheVariants.{Nesting}
use Rattle.em_base.specs.declared.place.Place.{Place}
use Rattle.em_lex.specs.declared.error.LexKind.{LexKind}
use Rattle.em_disk.specs.Held.{Held, AppendedPart}
use Rattle.em_disk.specs.Causes.{Rose}
use Rattle.em_disk.specs.Changes.{after, PartDone}
use Rattle.em_disk.specs.declared.changes.Change.{Change}
use Rattle.em_fix.specs.Words.{manifest_name, source_name}
use Rattle.em_fix.specs.Lines.{Wrote, write_line}
use Rattle.em_fix.specs.Migration.{Migrates, HasManifest, HasProgram, IsTooLong, IsNotLexed, IsNotParsed, IsTooDeep, IsUnbuilt}
use Rattle.em_fix.specs.Source.{IsNoProgram, IsFault, IsNoFile, IsDeepFile}
use Rattle.em_fix.specs.declared.status.Phase.TheVariants.{Lex, Parse}
use Rattle.em_fix.specs.declared.status.Status.{Status}
use Rattle.em_fix.specs.declared.status.Status.TheVariants.{Done, Usage, ReadFault, WriteFault, SinkFault, NoMemory, NotAccepted, Limit, Unbuilt}

-- the fault that an answer tells came in this call
abbrev pub FaultRose : Status → ℕ → ℕ → ℕ → ℕ → Type 0
FaultRose (ReadFault name) files_before files_now out_before out_now = Rose files_before files_now
FaultRose (WriteFault which) files_before files_now out_before out_now = Rose files_before files_now
FaultRose SinkFault files_before files_now out_before out_now = Rose out_before out_now
FaultRose Done files_before files_now out_before out_now = Unit {0}
FaultRose Usage files_before files_now out_before out_now = Unit {0}
FaultRose NoMemory files_before files_now out_before out_now = Unit {0}
FaultRose (NotAccepted place phase) files_before files_now out_before out_now = Unit {0}
FaultRose (Limit which) files_before files_now out_before out_now = Unit {0}
FaultRose Unbuilt files_before files_now out_before out_now = Unit {0}

-- the name of the change of this number
abbrev pub IsNamed : List Change → ℕ → List ℕ → Type 0
IsNamed changes which name = (change : Change) × (slice_get changes which ≡ Some change) × (name ≡ change.name)

-- what carrying out changes and a report answers, leaves and writes
abbrev pub Carries : List Change → List ℕ → Option Held → Status → Option Held → Option (List ℕ) → Option (List ℕ) → ℕ → ℕ → Type 0
Carries changes report held Done left old new before now = (left ≡ after changes held) × (new ≡ option_map (λ written. written ++ report) old)
Carries changes report held SinkFault left old new before now = (left ≡ after changes held) × AppendedPart old report new
Carries changes report held (WriteFault which) left old new before now =
    PartDone changes which held left × ((name : List ℕ) × IsNamed changes which name × Wrote old (write_line name) new before now)
Carries changes report held Usage left old new before now = ⊥
Carries changes report held (ReadFault name) left old new before now = ⊥
Carries changes report held NoMemory left old new before now = ⊥
Carries changes report held (NotAccepted place phase) left old new before now = ⊥
Carries changes report held (Limit which) left old new before now = ⊥
Carries changes report held Unbuilt left old new before now = ⊥

-- why the bytes of a file can't be had
abbrev pub FetchRefuses : Option Held → List ℕ → Status → ℕ → ℕ → Type 0
FetchRefuses held name (ReadFault at) before now = (at ≡ name) × Rose before now
FetchRefuses held name NoMemory before now = Unit {0}
FetchRefuses held name Unbuilt before now = IfSome held (λ m. get m name ≡ None)
FetchRefuses held name Done before now = ⊥
FetchRefuses held name Usage before now = ⊥
FetchRefuses held name (WriteFault which) before now = ⊥
FetchRefuses held name SinkFault before now = ⊥
FetchRefuses held name (NotAccepted place phase) before now = ⊥
FetchRefuses held name (Limit which) before now = ⊥

-- why a source can't be moved
abbrev pub SourceRefuses : List ℕ → Status → Type 0
SourceRefuses text NoMemory = Unit {0}
SourceRefuses text (NotAccepted place (Lex kind)) = IsFault text place kind
SourceRefuses text (NotAccepted place Parse) = IsNoFile text place
SourceRefuses text (Limit which) = (which ≡ Nesting) × IsDeepFile text
SourceRefuses text Unbuilt = IsNoProgram text
SourceRefuses text Done = ⊥
SourceRefuses text Usage = ⊥
SourceRefuses text (ReadFault name) = ⊥
SourceRefuses text (WriteFault which) = ⊥
SourceRefuses text SinkFault = ⊥

-- an answer before any put, whose fault came in this call
abbrev pub IsRefusal : Status → ℕ → ℕ → Type 0
IsRefusal (ReadFault name) before now = Rose before now
IsRefusal NoMemory before now = Unit {0}
IsRefusal (NotAccepted place phase) before now = Unit {0}
IsRefusal (Limit which) before now = Unit {0}
IsRefusal Unbuilt before now = Unit {0}
IsRefusal Done before now = ⊥
IsRefusal Usage before now = ⊥
IsRefusal (WriteFault which) before now = ⊥
IsRefusal SinkFault before now = ⊥

-- why a migration can't begin
abbrev pub Refuses : Held → Status → Type 0
Refuses held (ReadFault name) = (name ≡ manifest_name) ⊎ ((name ≡ source_name) × HasManifest held)
Refuses held NoMemory = Unit {0}
Refuses held (NotAccepted place (Lex kind)) = IsNotLexed held place kind
Refuses held (NotAccepted place Parse) = IsNotParsed held place
Refuses held (Limit which) = (IsTooLong held which) ⊎ (IsTooDeep held which)
Refuses held Unbuilt = IsUnbuilt held
Refuses held Done = ⊥
Refuses held Usage = ⊥
Refuses held (WriteFault which) = ⊥
Refuses held SinkFault = ⊥

-- what an answer says where the files are told: the changes of a migration were carried out, or nothing has changed
abbrev pub Says : Held → Status → Option Held → Option (List ℕ) → Option (List ℕ) → ℕ → ℕ → Type 0
Says held Done left old new before now = (changes : List Change) × (report : List ℕ) × Migrates held changes report × Carries changes report (Some held) Done left old new before now
Says held SinkFault left old new before now = (changes : List Change) × (report : List ℕ) × Migrates held changes report × Carries changes report (Some held) SinkFault left old new before now
Says held (WriteFault which) left old new before now = (changes : List Change) × (report : List ℕ) × Migrates held changes report × Carries changes report (Some held) (WriteFault which) left old new before now
Says held (ReadFault name) left old new before now = (left ≡ Some held) × Refuses held (ReadFault name)
Says held (NotAccepted place phase) left old new before now = (left ≡ Some held) × Refuses held (NotAccepted place phase)
Says held (Limit which) left old new before now = (left ≡ Some held) × Refuses held (Limit which)
Says held Unbuilt left old new before now = (left ≡ Some held) × Refuses held Unbuilt
Says held Usage left old new before now = left ≡ Some held
Says held NoMemory left old new before now = left ≡ Some held

-- what a package is decides the answer, but for want of memory
pub record IsDecided (held : Held) (status : Status) : Type 0 where
  pub done : HasManifest held → HasProgram held → (status ≡ Done) ⊎ (status ≡ NoMemory)
  pub limit : (which : LimitKind) → IsTooLong held which → (status ≡ Limit which) ⊎ (status ≡ NoMemory)
  pub lex : (place : Place) (kind : LexKind) → IsNotLexed held place kind → (status ≡ NotAccepted place (Lex kind)) ⊎ (status ≡ NoMemory)
  pub parse : (place : Place) → IsNotParsed held place → (status ≡ NotAccepted place Parse) ⊎ (status ≡ NoMemory)
  pub nesting : (which : LimitKind) → IsTooDeep held which → (status ≡ Limit which) ⊎ (status ≡ NoMemory)
  pub unbuilt : IsUnbuilt held → (status ≡ Unbuilt) ⊎ (status ≡ NoMemory)

-- a refusal whose fault didn't come in this call is decided
abbrev pub RefusalsAreDecided : Type 0
RefusalsAreDecided = (held : Held) (s : Status) (before now : ℕ) → IsRefusal s before now → Refuses held s → (Rose before now → ⊥) → IsDecided held s

-- a migration is decided
abbrev pub MigrationsAreDecided : Type 0
MigrationsAreDecided = (held : Held) (changes : List Change) (report : List ℕ) → Migrates held changes report → IsDecided held Done
