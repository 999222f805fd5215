-- What the two calls answer.
use Rattle.std.specs.Prelude.{◌≡◌, ◌≢◌, ℕ, Bool, true, false, List, Option, Some, None, Result, Ok, Err, IsSome, ◌⊎◌}
use Rattle.em_base.specs.declared.edition.Edition.{Edition}
use Rattle.em_manifest.specs.Lines.{edited}
use Rattle.em_manifest.specs.Values.{manifest_of, has_edition}
use Rattle.em_manifest.specs.declared.manifest.Manifest.{Manifest}
use Rattle.em_manifest.specs.declared.manifest.ManifestKind.{ManifestKind}
use Rattle.em_manifest.specs.declared.manifest.ManifestKind.TheVariants.{NotToml, NoName, BadEdition, EditionLine}
use Rattle.em_manifest.specs.declared.manifest.ManifestError.{ManifestError}
use Rattle.em_manifest.specs.declared.manifest.ManifestError.TheVariants.{NoMemory, Bad}

-- The bytes have this fault, and none of an earlier kind. Memory may always be wanting.
abbrev pub IsFault : List ℕ → ManifestError → Type 0
IsFault bytes NoMemory = Unit {0}
IsFault bytes (Bad kind) = manifest_of bytes ≡ Err kind

-- The call answers what is expected, or that memory is wanting.
abbrev pub IsAnswer : Result Manifest ManifestKind → Result Manifest ManifestError → Type 0
IsAnswer expected (Ok manifest) = expected ≡ Ok manifest
IsAnswer expected (Err NoMemory) = Unit {0}
IsAnswer expected (Err (Bad kind)) = expected ≡ Err kind

-- the kinds that come before EditionLine
abbrev pub comes_before_line : ManifestKind → Bool
comes_before_line NotToml = true
comes_before_line NoName = true
comes_before_line BadEdition = true
comes_before_line _ = false

-- the manifest with another edition
abbrev pub with_edition : Edition → Manifest → Manifest
with_edition edition m = record m { edition = edition }

-- the bytes with the edition set, where the lines allow it
abbrev pub with_line : Edition → List ℕ → Option (List ℕ)
with_line edition bytes = edited edition (has_edition bytes) bytes

-- The old bytes are a manifest, and the new ones are that manifest with the edition.
pub record ReadsAs (edition : Edition) (old new : List ℕ) : Type 0 where
  pub manifest : Manifest
  pub before : manifest_of old ≡ Ok manifest
  pub after : manifest_of new ≡ Ok (with_edition edition manifest)

-- The old bytes are a manifest, and the new ones aren't that manifest with the edition.
pub record ReadsOtherwise (edition : Edition) (old : List ℕ) : Type 0 where
  pub manifest : Manifest
  pub new : List ℕ
  pub before : manifest_of old ≡ Ok manifest
  pub line : with_line edition old ≡ Some new
  pub after : manifest_of new ≢ Ok (with_edition edition manifest)

-- the manifest has a fault of a kind before EditionLine
abbrev pub has_earlier_fault : Result Manifest ManifestKind → Bool
has_earlier_fault (Ok m) = false
has_earlier_fault (Err kind) = comes_before_line kind

-- Why the edition can't be set. EditionLine: no earlier kind, and no line for it, or the new bytes read otherwise.
-- Another kind: it is the manifest's first fault, and stands before EditionLine, or the lines are in order.
abbrev pub IsNotSet : Edition → List ℕ → ManifestError → Type 0
IsNotSet edition bytes NoMemory = Unit {0}
IsNotSet edition bytes (Bad EditionLine) =
    (has_earlier_fault (manifest_of bytes) ≡ false) × ((with_line edition bytes ≡ None) ⊎ ReadsOtherwise edition bytes)
IsNotSet edition bytes (Bad kind) =
    (manifest_of bytes ≡ Err kind) × (comes_before_line kind ≡ false → IsSome (with_line edition bytes))

-- Why bytes aren't confirmed as the manifest: they read otherwise.
abbrev pub IsOtherwise : List ℕ → Manifest → ManifestError → Type 0
IsOtherwise bytes manifest NoMemory = Unit {0}
IsOtherwise bytes manifest (Bad EditionLine) = manifest_of bytes ≢ Ok manifest
IsOtherwise bytes manifest (Bad kind) = ⊥
