-- What a refusal writes.
use Rattle.std.specs.Prelude.{◌≡◌, ◌⊎◌, ℕ, List, [], ◌∷◌, ◌++◌, Option, codes}
use Rattle.std.specs.Option.{option_map}
use Rattle.std.specs.Fmt.{decimal}
use Rattle.em_base.specs.declared.limit.Limit.{Limit as LimitKind}
use Rattle.em_base.specs.declared.limit.Limit.TheVariants.{FileBytes, AllBytes, Files, Crates, Nesting, MacroDepth, Tokens, Findings}
use Rattle.em_base.specs.declared.place.Place.{Place}
use Rattle.em_lex.specs.declared.error.LexKind.{LexKind}
use Rattle.em_lex.specs.declared.error.LexKind.TheVariants.{NotUtf8, BadCharacter, Unclosed, ReservedPrefix, Float, BadNumber, LiteralSuffix, BadEscape, BadLifetime, BadRaw}
use Rattle.em_disk.specs.Causes.{Rose}
use Rattle.em_disk.specs.Held.{AppendedPart}
use Rattle.em_fix.specs.Words.{manifest_name, source_name}
use Rattle.em_fix.specs.declared.status.Phase.{Phase}
use Rattle.em_fix.specs.declared.status.Phase.TheVariants.{Lex, Parse}
use Rattle.em_fix.specs.declared.status.Status.{Status}
use Rattle.em_fix.specs.declared.status.Status.TheVariants.{Done, Usage, ReadFault, WriteFault, SinkFault, NoMemory, NotAccepted, Limit, Unbuilt}

-- a line of these bytes
abbrev pub line : List ℕ → List ℕ
line text = text ++ 10 ∷ []

-- the line of a file that can't be written
abbrev pub write_line : List ℕ → List ℕ
write_line name = line (codes "error[4]: cannot write " ++ name)

-- the printed name of what is wrong with a text's tokens
abbrev pub lex_kind_name : LexKind → List ℕ
lex_kind_name NotUtf8 = codes "NotUtf8"
lex_kind_name BadCharacter = codes "BadCharacter"
lex_kind_name Unclosed = codes "Unclosed"
lex_kind_name ReservedPrefix = codes "ReservedPrefix"
lex_kind_name Float = codes "Float"
lex_kind_name BadNumber = codes "BadNumber"
lex_kind_name LiteralSuffix = codes "LiteralSuffix"
lex_kind_name BadEscape = codes "BadEscape"
lex_kind_name BadLifetime = codes "BadLifetime"
lex_kind_name BadRaw = codes "BadRaw"

-- the printed name of a phase
abbrev pub phase_name : Phase → List ℕ
phase_name (Lex kind) = codes "lex " ++ lex_kind_name kind
phase_name Parse = codes "parse"

-- the line of the first place where a package isn't accepted
abbrev pub fault_line : Place → Phase → List ℕ
fault_line place phase =
    codes "error[8]: " ++ (source_name ++ (codes ":" ++ (decimal place.offset ++ (codes ": " ++ (phase_name phase ++ 10 ∷ [])))))

-- the printed name of a limit
abbrev pub limit_name : LimitKind → List ℕ
limit_name FileBytes = codes "FileBytes"
limit_name AllBytes = codes "AllBytes"
limit_name Files = codes "Files"
limit_name Crates = codes "Crates"
limit_name Nesting = codes "Nesting"
limit_name MacroDepth = codes "MacroDepth"
limit_name Tokens = codes "Tokens"
limit_name Findings = codes "Findings"

-- what a count may be
abbrev pub limit_number : LimitKind → ℕ
limit_number FileBytes = 4194304
limit_number AllBytes = 33554432
limit_number Files = 4096
limit_number Crates = 256
limit_number Nesting = 200
limit_number MacroDepth = 128
limit_number Tokens = 2000000
limit_number Findings = 65535

-- the line of a limit that is passed
abbrev pub limit_line : LimitKind → List ℕ
limit_line which = codes "error[10]: " ++ (limit_name which ++ (codes " " ++ (decimal (limit_number which) ++ 10 ∷ [])))

-- all of these bytes were appended, or a front of them and a fault came
abbrev pub Wrote : Option (List ℕ) → List ℕ → Option (List ℕ) → ℕ → ℕ → Type 0
Wrote old bytes new before now = (new ≡ option_map (λ written. written ++ bytes) old) ⊎ (AppendedPart old bytes new × Rose before now)

-- the line of a refusal
abbrev pub TellsRefusal : Status → Option (List ℕ) → Option (List ℕ) → ℕ → ℕ → Type 0
TellsRefusal Usage old new before now = Wrote old (line (codes "error[2]: usage")) new before now
TellsRefusal (ReadFault name) old new before now = Wrote old (line (codes "error[3]: cannot read " ++ name)) new before now
TellsRefusal NoMemory old new before now = Wrote old (line (codes "error[6]: out of memory")) new before now
TellsRefusal (NotAccepted place phase) old new before now = Wrote old (fault_line place phase) new before now
TellsRefusal (Limit which) old new before now = Wrote old (limit_line which) new before now
TellsRefusal Unbuilt old new before now = Wrote old (line (codes "error[15]: unbuilt")) new before now
TellsRefusal Done old new before now = Unit {0}
TellsRefusal SinkFault old new before now = Unit {0}
TellsRefusal (WriteFault which) old new before now = Unit {0}

-- the line of an answer whatever the files are; the report of a migration depends on them
abbrev pub Tells : Status → Option (List ℕ) → Option (List ℕ) → ℕ → ℕ → Type 0
Tells Usage old new before now = TellsRefusal Usage old new before now
Tells (ReadFault name) old new before now = TellsRefusal (ReadFault name) old new before now
Tells NoMemory old new before now = TellsRefusal NoMemory old new before now
Tells (NotAccepted place phase) old new before now = TellsRefusal (NotAccepted place phase) old new before now
Tells (Limit which) old new before now = TellsRefusal (Limit which) old new before now
Tells Unbuilt old new before now = TellsRefusal Unbuilt old new before now
Tells (WriteFault which) old new before now = (Wrote old (write_line source_name) new before now) ⊎ (Wrote old (write_line manifest_name) new before now)
Tells Done old new before now = Unit {0}
Tells SinkFault old new before now = Unit {0}
