-- Why the edition isn't set, where the lines allow it.
use Rattle.std.proofs.Common.{◌≡◌, ◌∙◌, ℕ, List, Some, Result, Ok, Err, IfOk, IfErr, ap, sym, inr}
use Rattle.em_base.specs.declared.edition.Edition.{Edition}
use Rattle.em_manifest.specs.declared.manifest.Manifest.{Manifest}
use Rattle.em_manifest.specs.declared.manifest.ManifestKind.TheVariants.{NoFile, NotToml, NoName, BadEdition, EditionLine, BadDependency, Section, NoTarget, TwoTargets, Cycle}
use Rattle.em_manifest.specs.declared.manifest.ManifestError.{ManifestError}
use Rattle.em_manifest.specs.declared.manifest.ManifestError.TheVariants.{NoMemory, Bad}
use Rattle.em_manifest.specs.Answers.{IsNotSet, IsOtherwise, ReadsAs, with_line, with_edition, has_earlier_fault}
use Rattle.em_manifest.specs.Values.{manifest_of}

otherwise_is_fault : (edition : Edition) (bytes new : List ℕ) (manifest : Manifest) → manifest_of bytes ≡ Ok manifest → with_line edition bytes ≡ Some new
    → (e : ManifestError) → IsOtherwise new (with_edition edition manifest) e → IsNotSet edition bytes e
otherwise_is_fault edition bytes new manifest reads line NoMemory h = tt
otherwise_is_fault edition bytes new manifest reads line (Bad EditionLine) h =
    (ap has_earlier_fault reads, inr (record { manifest = manifest; new = new; before = reads; line = line; after = h }))
otherwise_is_fault edition bytes new manifest reads line (Bad NoFile) h = absurd h
otherwise_is_fault edition bytes new manifest reads line (Bad NotToml) h = absurd h
otherwise_is_fault edition bytes new manifest reads line (Bad NoName) h = absurd h
otherwise_is_fault edition bytes new manifest reads line (Bad BadEdition) h = absurd h
otherwise_is_fault edition bytes new manifest reads line (Bad BadDependency) h = absurd h
otherwise_is_fault edition bytes new manifest reads line (Bad Section) h = absurd h
otherwise_is_fault edition bytes new manifest reads line (Bad NoTarget) h = absurd h
otherwise_is_fault edition bytes new manifest reads line (Bad TwoTargets) h = absurd h
otherwise_is_fault edition bytes new manifest reads line (Bad Cycle) h = absurd h

-- the answer of the confirmation is the call's
pub is_fault : (edition : Edition) (bytes new : List ℕ) (manifest : Manifest) (result : Result (List ℕ) ManifestError) → manifest_of bytes ≡ Ok manifest → with_line edition bytes ≡ Some new
    → IfErr result (IsOtherwise new (with_edition edition manifest)) → IfErr result (IsNotSet edition bytes)
is_fault edition bytes new manifest (Ok written) reads line h = h
is_fault edition bytes new manifest (Err e) reads line h = otherwise_is_fault edition bytes new manifest reads line e h

-- the bytes that are confirmed are those of the line
pub is_line : (edition : Edition) (bytes new : List ℕ) (result : Result (List ℕ) ManifestError) → with_line edition bytes ≡ Some new → IfOk result (λ written. written ≡ new)
    → IfOk result (λ written. with_line edition bytes ≡ Some written)
is_line edition bytes new (Ok written) line same = line ∙ ap Some (sym same)
is_line edition bytes new (Err e) line same = tt

-- and they read as the manifest with the edition
pub reads_as : (edition : Edition) (bytes : List ℕ) (manifest : Manifest) (result : Result (List ℕ) ManifestError) → manifest_of bytes ≡ Ok manifest
    → IfOk result (λ written. manifest_of written ≡ Ok (with_edition edition manifest)) → IfOk result (ReadsAs edition bytes)
reads_as edition bytes manifest (Ok written) reads after = record { manifest = manifest; before = reads; after = after }
reads_as edition bytes manifest (Err e) reads after = tt
