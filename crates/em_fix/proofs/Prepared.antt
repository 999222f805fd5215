-- What the reads of a package say of its migration, where the held files may be told or not.
use Rattle.std.proofs.Common.{◌≡◌, inl, inr, refl, arith, length, Bool, true, false, cond, ℕ, List, [], ◌∷◌, ◌++◌, Option, Some, None, IfSome, subst, sym, ◌∙◌, ap}
use Rattle.std.specs.Str.{bytes_eq}
use Rattle.std.specs.Option.{unwrap_or}
use Rattle.em_base.specs.declared.edit.Suggestion.{Suggestion}
use Rattle.em_disk.specs.Held.{Held}
use Rattle.em_disk.specs.declared.changes.Change.{Change}
use Rattle.em_fix.specs.Words.{manifest_name, source_name}
use Rattle.em_fix.specs.Manifest.{IsManifest, IsNoManifest, MovesManifest}
use Rattle.em_fix.specs.Source.{MovesSource}
use Rattle.em_fix.specs.Report.{report_of}
use Rattle.em_fix.specs.Migration.{HoldsShort, HoldsLong, HasManifest, IsUnbuilt, Migrates, AreOwn, change, change_if}
use Rattle.em_fix.specs.Answers.{FetchRefuses, SourceRefuses, IsRefusal, Refuses}
use Rattle.em_fix.specs.declared.status.Status.{Status}
use Rattle.em_fix.specs.declared.status.Status.TheVariants.{Done, Usage, ReadFault, WriteFault, SinkFault, NoMemory, NotAccepted, Limit, Unbuilt}
use Rattle.em_fix.specs.declared.status.Phase.TheVariants.{Lex, Parse}
use Rattle.em_base.specs.declared.limit.Limit.TheVariants.{FileBytes}

pub none_some : (P : Type 0) (bytes : List ℕ) → None ≡ Some bytes → P
none_some P bytes h = cc

-- one name holds one list of bytes
pub same_bytes : (held : Held) (name xs ys : List ℕ) → HoldsShort held name xs → HoldsShort held name ys → xs ≡ ys
same_bytes held name xs ys p q = ap (λ o. unwrap_or o []) (sym p.at ∙ q.at)

-- a file isn't both long and short
pub long_short : (held : Held) (name : List ℕ) → HoldsLong held name → (bytes : List ℕ) → HoldsShort held name bytes → ⊥
long_short held name h bytes k = let e : length h.bytes ≡ length bytes = ap (λ o. length (unwrap_or o [])) (sym h.at ∙ k.at) in let a = h.long in let b = k.short in omega (arith, e, a, b)

-- the manifest can't be had
pub manifest_refuses : (old : Option Held) (before now : ℕ) (s : Status) → FetchRefuses old manifest_name s before now → IfSome old (λ held. Refuses held s)
manifest_refuses None before now s h = tt
manifest_refuses (Some held) before now (ReadFault at) h = inl h.0
manifest_refuses (Some held) before now NoMemory h = tt
manifest_refuses (Some held) before now Unbuilt h = inl (λ m. none_some _ _ (sym h ∙ m.there.at))
manifest_refuses (Some held) before now Done h = h
manifest_refuses (Some held) before now Usage h = h
manifest_refuses (Some held) before now (WriteFault which) h = h
manifest_refuses (Some held) before now SinkFault h = h
manifest_refuses (Some held) before now (NotAccepted place phase) h = absurd h
manifest_refuses (Some held) before now (Limit which) h = absurd h

-- the manifest is too long
pub manifest_long : (old : Option Held) → IfSome old (λ held. HoldsLong held manifest_name) → IfSome old IsUnbuilt
manifest_long None h = tt
manifest_long (Some held) h = inl (λ m. long_short held manifest_name h m.bytes m.there)

-- the manifest isn't of the form
pub manifest_unbuilt : (old : Option Held) (bytes : List ℕ) → IfSome old (λ held. HoldsShort held manifest_name bytes) → IsNoManifest bytes → IfSome old IsUnbuilt
manifest_unbuilt None bytes h none = tt
manifest_unbuilt (Some held) bytes h none = inl (λ m. none m.name (subst (λ xs. IsManifest xs m.name) (same_bytes held manifest_name _ _ m.there h) m.form))

has_manifest : (held : Held) (bytes new : List ℕ) → HoldsShort held manifest_name bytes → MovesManifest bytes new → HasManifest held
has_manifest held bytes new h m = record { bytes = bytes; name = m.name; there = h; form = m.manifest }

-- the source can't be had
pub source_refuses : (old mid : Option Held) (bytes new : List ℕ) (before now : ℕ) (s : Status) → mid ≡ old → IfSome old (λ held. HoldsShort held manifest_name bytes) → MovesManifest bytes new → FetchRefuses mid source_name s before now → IfSome old (λ held. Refuses held s)
source_refuses old mid bytes new before now s e h m f = here old s h (subst (λ o. FetchRefuses o source_name s before now) e f)
  where
    here : (o : Option Held) (s : Status) → IfSome o (λ held. HoldsShort held manifest_name bytes) → FetchRefuses o source_name s before now → IfSome o (λ held. Refuses held s)
    here None s h f = tt
    here (Some held) (ReadFault at) h f = inr (f.0, has_manifest held bytes new h m)
    here (Some held) NoMemory h f = tt
    here (Some held) Unbuilt h f = inr (has_manifest held bytes new h m, inl f)
    here (Some held) Done h f = f
    here (Some held) Usage h f = f
    here (Some held) (WriteFault which) h f = f
    here (Some held) SinkFault h f = f
    here (Some held) (NotAccepted place phase) h f = absurd f
    here (Some held) (Limit which) h f = absurd f

-- the source is too long
pub source_long : (old mid : Option Held) (bytes new : List ℕ) → mid ≡ old → IfSome old (λ held. HoldsShort held manifest_name bytes) → MovesManifest bytes new → IfSome mid (λ held. HoldsLong held source_name) → IfSome old (λ held. Refuses held (Limit FileBytes))
source_long old mid bytes new e h m there = here old h (subst (λ o. IfSome o (λ held. HoldsLong held source_name)) e there)
  where
    here : (o : Option Held) → IfSome o (λ held. HoldsShort held manifest_name bytes) → IfSome o (λ held. HoldsLong held source_name) → IfSome o (λ held. Refuses held (Limit FileBytes))
    here None h there = tt
    here (Some held) h there = inl (record { manifest = has_manifest held bytes new h m; source = there; which = refl })

-- the source can't be moved
pub source_stays : (old mid : Option Held) (bytes new source : List ℕ) (s : Status) → mid ≡ old → IfSome old (λ held. HoldsShort held manifest_name bytes) → MovesManifest bytes new → IfSome mid (λ held. HoldsShort held source_name source) → SourceRefuses source s → IfSome old (λ held. Refuses held s)
source_stays old mid bytes new source s e h m there r = here old s h (subst (λ o. IfSome o (λ held. HoldsShort held source_name source)) e there) r
  where
    here : (o : Option Held) (s : Status) → IfSome o (λ held. HoldsShort held manifest_name bytes) → IfSome o (λ held. HoldsShort held source_name source) → SourceRefuses source s → IfSome o (λ held. Refuses held s)
    here None s h there r = tt
    here (Some held) NoMemory h there r = tt
    here (Some held) (NotAccepted place (Lex kind)) h there r = record { manifest = has_manifest held bytes new h m; bytes = source; there = there; fault = r }
    here (Some held) (NotAccepted place Parse) h there r = record { manifest = has_manifest held bytes new h m; bytes = source; there = there; no_file = r }
    here (Some held) (Limit which) h there r = inr (record { manifest = has_manifest held bytes new h m; bytes = source; there = there; deep = r.1; which = r.0 })
    here (Some held) Unbuilt h there r = inr (has_manifest held bytes new h m, inr (record { bytes = source; there = there; other = r }))
    here (Some held) Done h there r = r
    here (Some held) Usage h there r = r
    here (Some held) (ReadFault name) h there r = absurd r
    here (Some held) (WriteFault which) h there r = r
    here (Some held) SinkFault h there r = r

-- such a refusal is one before any put
pub stays_refusal : (source : List ℕ) (s : Status) (before now : ℕ) → SourceRefuses source s → IsRefusal s before now
stays_refusal source NoMemory before now r = tt
stays_refusal source (NotAccepted place phase) before now r = tt
stays_refusal source Unbuilt before now r = tt
stays_refusal source Done before now r = r
stays_refusal source Usage before now r = r
stays_refusal source (ReadFault name) before now r = absurd r
stays_refusal source (WriteFault which) before now r = r
stays_refusal source SinkFault before now r = r
stays_refusal source (Limit which) before now r = tt

-- all is there
pub all_moved : (old mid : Option Held) (manifest new_manifest source old_source new_source : List ℕ) (found : List Suggestion) (changes : List Change) (report : List ℕ) → mid ≡ old → IfSome old (λ held. HoldsShort held manifest_name manifest) → MovesManifest manifest new_manifest → IfSome mid (λ held. HoldsShort held source_name source) → old_source ≡ source → MovesSource source new_source found → changes ≡ change_if source_name old_source new_source ++ (change manifest_name manifest new_manifest ∷ []) → report ≡ report_of found → IfSome old (λ held. Migrates held changes report)
all_moved old mid manifest new_manifest source old_source new_source found changes report e mh mm sh es sm ch rp = here old mh (subst (λ o. IfSome o (λ held. HoldsShort held source_name source)) e sh)
  where
    here : (o : Option Held) → IfSome o (λ held. HoldsShort held manifest_name manifest) → IfSome o (λ held. HoldsShort held source_name source) → IfSome o (λ held. Migrates held changes report)
    here None mh sh = tt
    here (Some held) mh sh = record {
      manifest = manifest;
      new_manifest = new_manifest;
      source = source;
      new_source = new_source;
      found = found;
      manifest_held = mh;
      manifest_moves = mm;
      source_held = sh;
      source_moves = sm;
      changed = ch ∙ ap (λ xs. change_if source_name xs new_source ++ (change manifest_name manifest new_manifest ∷ [])) es;
      reported = rp;
    }

-- the changes that are made are of the source and of the manifest
pub all_own : (source new_source manifest new_manifest : List ℕ) (changes : List Change) → changes ≡ change_if source_name source new_source ++ (change manifest_name manifest new_manifest ∷ []) → AreOwn changes
all_own source new_source manifest new_manifest changes e = subst AreOwn (sym e) (here (bytes_eq source new_source))
  where
    here : (c : Bool) → AreOwn (cond c [] (change source_name source new_source ∷ []) ++ (change manifest_name manifest new_manifest ∷ []))
    here true = (inr refl, tt)
    here false = (inl refl, (inr refl, tt))
