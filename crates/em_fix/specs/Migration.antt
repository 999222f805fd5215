-- A package that can be migrated, and what its migration changes and reports.
use Rattle.std.specs.Prelude.{◌≡◌, ◌⊎◌, ℕ, ◌≤◌, ◌<◌, List, [], ◌∷◌, ◌++◌, Some, None, length, if◌then◌else◌}
use Rattle.std.specs.FinMap.{get}
use Rattle.std.specs.Str.{bytes_eq}
use Rattle.em_base.specs.declared.edit.Suggestion.{Suggestion}
use Rattle.em_base.specs.declared.edition.Edition.TheVariants.{E2015}
use Rattle.em_base.specs.declared.limit.Limit.{Limit}
use Rattle.em_base.specs.declared.limit.Limit.TheVariants.{FileBytes, Nesting}
use Rattle.em_base.specs.declared.place.Place.{Place}
use Rattle.em_base.specs.declared.token.Token.{Token}
use Rattle.em_disk.specs.Held.{Held}
use Rattle.em_disk.specs.declared.changes.Change.{Change}
use Rattle.em_first.specs.Form.{Statement}
use Rattle.em_lex.specs.declared.error.LexKind.{LexKind}
use Rattle.em_fix.specs.Words.{manifest_name, source_name}
use Rattle.em_fix.specs.Manifest.{IsManifest, MovesManifest}
use Rattle.em_fix.specs.Source.{IsProgram, IsNoProgram, IsFault, IsNoFile, IsDeepFile, MovesSource}
use Rattle.em_fix.specs.Report.{report_of}

-- the most bytes that a file may have
abbrev pub file_bytes : ℕ
file_bytes = 4194304

-- a file of these bytes is held, and isn't too long
pub record HoldsShort (held : Held) (name bytes : List ℕ) : Type 0 where
  pub at : get held name ≡ Some bytes
  pub short : length bytes ≤ file_bytes

-- the manifest is there, and is one of the first form
pub record HasManifest (held : Held) : Type 0 where
  pub bytes : List ℕ
  pub name : List ℕ
  pub there : HoldsShort held manifest_name bytes
  pub form : IsManifest bytes name

-- the source is there, and is a program of the first form
pub record HasProgram (held : Held) : Type 0 where
  pub bytes : List ℕ
  pub tokens : List Token
  pub core : List Statement
  pub there : HoldsShort held source_name bytes
  pub form : IsProgram E2015 bytes tokens core

-- a file is held, and is too long
pub record HoldsLong (held : Held) (name : List ℕ) : Type 0 where
  pub bytes : List ℕ
  pub at : get held name ≡ Some bytes
  pub long : file_bytes < length bytes

-- the manifest is of the first form, and the source is too long
pub record IsTooLong (held : Held) (limit : Limit) : Type 0 where
  pub manifest : HasManifest held
  pub source : HoldsLong held source_name
  pub which : limit ≡ FileBytes

-- the manifest is of the first form, and the source has no tokens: this is its first fault
pub record IsNotLexed (held : Held) (place : Place) (kind : LexKind) : Type 0 where
  pub manifest : HasManifest held
  pub bytes : List ℕ
  pub there : HoldsShort held source_name bytes
  pub fault : IsFault bytes place kind

-- the manifest is of the first form, and the source has tokens that are no file: this is the first place where no item stands
pub record IsNotParsed (held : Held) (place : Place) : Type 0 where
  pub manifest : HasManifest held
  pub bytes : List ℕ
  pub there : HoldsShort held source_name bytes
  pub no_file : IsNoFile bytes place

-- the manifest is of the first form, and an item of the source nests too deep
pub record IsTooDeep (held : Held) (limit : Limit) : Type 0 where
  pub manifest : HasManifest held
  pub bytes : List ℕ
  pub there : HoldsShort held source_name bytes
  pub deep : IsDeepFile bytes
  pub which : limit ≡ Nesting

-- the source is there and has tokens, which are a file and no program of the first form
pub record HasOther (held : Held) : Type 0 where
  pub bytes : List ℕ
  pub there : HoldsShort held source_name bytes
  pub other : IsNoProgram bytes

-- the package is of no form that is built: first its manifest, and then its source, which isn't there or is a file and no program
abbrev pub IsUnbuilt : Held → Type 0
IsUnbuilt held = (HasManifest held → ⊥) ⊎ (HasManifest held × ((get held source_name ≡ None) ⊎ HasOther held))

-- a change of a file
abbrev pub change : List ℕ → List ℕ → List ℕ → Change
change name old new = record { name = name; old = old; new = new }

-- each change is one of the source or of the manifest
abbrev pub AreOwn : List Change → Type 0
AreOwn [] = Unit {0}
AreOwn (c ∷ cs) = ((c.name ≡ source_name) ⊎ (c.name ≡ manifest_name)) × AreOwn cs

-- a change of a file, where its bytes differ
abbrev pub change_if : List ℕ → List ℕ → List ℕ → List Change
change_if name old new = if bytes_eq old new then [] else (change name old new ∷ [])

-- the package that is held, its new files, the changes that make them (the source, if it changes, and then the manifest), and the report
pub record Migrates (held : Held) (changes : List Change) (report : List ℕ) : Type 0 where
  pub manifest : List ℕ
  pub new_manifest : List ℕ
  pub source : List ℕ
  pub new_source : List ℕ
  pub found : List Suggestion
  pub manifest_held : HoldsShort held manifest_name manifest
  pub manifest_moves : MovesManifest manifest new_manifest
  pub source_held : HoldsShort held source_name source
  pub source_moves : MovesSource source new_source found
  pub changed : changes ≡ change_if source_name source new_source ++ (change manifest_name manifest new_manifest ∷ [])
  pub reported : report ≡ report_of found
