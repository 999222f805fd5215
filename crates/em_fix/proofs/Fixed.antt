-- What the answers of the parts say of the whole.
use Rattle.std.proofs.Common.{◌≡◌, ◌≢◌, ◌⊎◌, ◌<◌, inl, inr, ℕ, suc, zero, get_or, length, List, [], ◌∷◌, Option, Some, None, IfSome, refl, subst, sym}
use Rattle.std.proofs.lemmas.Option.{slice_get_read}
use Rattle.em_disk.specs.Held.{Held}
use Rattle.em_disk.specs.Changes.{PartDone}
use Rattle.em_disk.specs.Causes.{Rose}
use Rattle.em_disk.specs.declared.changes.Change.{Change}
use Rattle.em_fix.specs.Lines.{Tells, TellsRefusal, Wrote, write_line}
use Rattle.std.specs.Prelude.{slice_get}
use Rattle.em_fix.specs.Words.{source_name, manifest_name}
use Rattle.em_fix.specs.Migration.{AreOwn, Migrates}
use Rattle.em_fix.specs.Answers.{Carries, Refuses, IsRefusal, Says, FaultRose, IsDecided, RefusalsAreDecided, MigrationsAreDecided}
use Rattle.em_fix.specs.declared.status.Status.{Status}
use Rattle.em_fix.specs.declared.status.Status.TheVariants.{Done, Usage, ReadFault, WriteFault, SinkFault, NoMemory, NotAccepted, Limit, Unbuilt}

none_some : (P : Type 0) (c : Change) → None ≡ Some c → P
none_some P c h = cc

some_is : (a b : Change) → Some a ≡ Some b → a ≡ b
some_is a b h = cc

says_one : (held : Held) (left : Option Held) (changes : List Change) (report : List ℕ) (s : Status) (old new : Option (List ℕ)) (before now : ℕ) → Migrates held changes report → Carries changes report (Some held) s left old new before now → Says held s left old new before now
says_one held left changes report Done old new before now m h = (changes, report, m, h)
says_one held left changes report SinkFault old new before now m h = (changes, report, m, h)
says_one held left changes report (WriteFault which) old new before now m h = (changes, report, m, h)
says_one held left changes report Unbuilt old new before now m h = absurd h
says_one held left changes report (NotAccepted place phase) old new before now m h = absurd h
says_one held left changes report (Limit which) old new before now m h = absurd h
says_one held left changes report Usage old new before now m h = absurd h
says_one held left changes report (ReadFault name) old new before now m h = absurd h
says_one held left changes report NoMemory old new before now m h = absurd h

-- what was carried out is what the migration of the held package says
pub says_carried : (first mid left : Option Held) (changes : List Change) (report : List ℕ) (s : Status) (old new : Option (List ℕ)) (before now : ℕ) → mid ≡ first → IfSome first (λ held. Migrates held changes report) → Carries changes report mid s left old new before now → IfSome first (λ held. Says held s left old new before now)
says_carried first mid left changes report s old new before now e m h = here first m (subst (λ o. Carries changes report o s left old new before now) e h)
  where
    here : (o : Option Held) → IfSome o (λ held. Migrates held changes report) → Carries changes report o s left old new before now → IfSome o (λ held. Says held s left old new before now)
    here None m h = tt
    here (Some held) m h = says_one held left changes report s old new before now m h

-- carrying out answers no refusal
pub carried_not_usage : (changes : List Change) (report : List ℕ) (held left : Option Held) (s : Status) (old new : Option (List ℕ)) (before now : ℕ) → Carries changes report held s left old new before now → s ≢ Usage
carried_not_usage changes report held left s old new before now h e = subst (λ s. Carries changes report held s left old new before now) e h

own_named : (all : List Change) (which : ℕ) (change : Change) → AreOwn all → slice_get all which ≡ Some change → (change.name ≡ source_name) ⊎ (change.name ≡ manifest_name)
own_named [] which change own e = none_some _ _ e
own_named (c ∷ cs) zero change own e = subst (λ (x : Change). (x.name ≡ source_name) ⊎ (x.name ≡ manifest_name)) (some_is c change e) own.0
own_named (c ∷ cs) (suc n) change own e = own_named cs n change own.1 e

-- a change that can't be put is told by one of two names
pub write_fault_told : (all changes : List Change) (which : ℕ) (change : Change) (old new : Option (List ℕ)) (before now : ℕ) → AreOwn all → changes ≡ all → which < length changes → change ≡ get_or changes which change → Wrote old (write_line (get_or changes which change).name) new before now → Tells (WriteFault which) old new before now
write_fault_told all changes which change old new before now own e lt is w = here (own_named changes which change (subst AreOwn (sym e) own) (slice_get_read changes (length changes) which change refl lt is))
  where
    named : Wrote old (write_line change.name) new before now
    named = subst (λ (x : Change). Wrote old (write_line x.name) new before now) (sym is) w

    here : (change.name ≡ source_name) ⊎ (change.name ≡ manifest_name) → Tells (WriteFault which) old new before now
    here (inl s) = inl (subst (λ n. Wrote old (write_line n) new before now) s named)
    here (inr m) = inr (subst (λ n. Wrote old (write_line n) new before now) m named)

-- a fault or an end: what is carried out with no fault is done
pub carried_completes : (changes : List Change) (report : List ℕ) (held left : Option Held) (s : Status) (old new : Option (List ℕ)) (files_before files_now out_before out_now : ℕ) → Carries changes report held s left old new out_before out_now → FaultRose s files_before files_now out_before out_now → (Rose files_before files_now → ⊥) → (Rose out_before out_now → ⊥) → (s ≡ Done) ⊎ (s ≡ NoMemory)
carried_completes changes report held left Done old new fb fn ob on h r f o = inl refl
carried_completes changes report held left SinkFault old new fb fn ob on h r f o = absurd (o r)
carried_completes changes report held left (WriteFault which) old new fb fn ob on h r f o = absurd (f r)
carried_completes changes report held left Usage old new fb fn ob on h r f o = absurd h
carried_completes changes report held left (ReadFault name) old new fb fn ob on h r f o = absurd h
carried_completes changes report held left NoMemory old new fb fn ob on h r f o = absurd h
carried_completes changes report held left Unbuilt old new fb fn ob on h r f o = absurd h
carried_completes changes report held left (NotAccepted place phase) old new fb fn ob on h r f o = absurd h
carried_completes changes report held left (Limit which) old new fb fn ob on h r f o = absurd h

refused_one : (held : Held) (left : Option Held) (s : Status) (old new : Option (List ℕ)) (before now : ℕ) → left ≡ Some held → Refuses held s → Says held s left old new before now
refused_one held left (ReadFault name) old new before now e h = (e, h)
refused_one held left NoMemory old new before now e h = e
refused_one held left Unbuilt old new before now e h = (e, h)
refused_one held left (NotAccepted place phase) old new before now e h = (e, h)
refused_one held left (Limit which) old new before now e h = (e, h)
refused_one held left Done old new before now e h = absurd h
refused_one held left Usage old new before now e h = absurd h
refused_one held left (WriteFault which) old new before now e h = absurd h
refused_one held left SinkFault old new before now e h = absurd h

-- a refusal leaves the files
pub refused_says : (first left : Option Held) (s : Status) (old new : Option (List ℕ)) (before now : ℕ) → left ≡ first → IfSome first (λ held. Refuses held s) → IfSome first (λ held. Says held s left old new before now)
refused_says None left s old new before now e h = tt
refused_says (Some held) left s old new before now e h = refused_one held left s old new before now e h

-- a refusal's fault came in this call
pub refused_cause : (s : Status) (files_before files_now out_before out_now : ℕ) → IsRefusal s files_before files_now → FaultRose s files_before files_now out_before out_now
refused_cause (ReadFault name) fb fn ob on h = h
refused_cause NoMemory fb fn ob on h = tt
refused_cause Unbuilt fb fn ob on h = tt
refused_cause (NotAccepted place phase) fb fn ob on h = tt
refused_cause (Limit which) fb fn ob on h = tt
refused_cause Done fb fn ob on h = tt
refused_cause Usage fb fn ob on h = tt
refused_cause (WriteFault which) fb fn ob on h = absurd h
refused_cause SinkFault fb fn ob on h = absurd h

pub refusal_not_usage : (s : Status) (before now : ℕ) → IsRefusal s before now → s ≢ Usage
refusal_not_usage s before now h e = subst (λ s. IsRefusal s before now) e h

-- what was carried out with no fault is decided
pub carried_decides : MigrationsAreDecided → (first mid left : Option Held) (changes : List Change) (report : List ℕ) (s : Status) (old new : Option (List ℕ)) (files_before files_now out_before out_now : ℕ) → IfSome first (λ held. Migrates held changes report) → Carries changes report mid s left old new out_before out_now → FaultRose s files_before files_now out_before out_now → (Rose files_before files_now → ⊥) → (Rose out_before out_now → ⊥) → IfSome first (λ held. IsDecided held s)
carried_decides law first mid left changes report s old new fb fn ob on m h r f o = here first m (carried_completes changes report mid left s old new fb fn ob on h r f o)
  where
    here : (o : Option Held) → IfSome o (λ held. Migrates held changes report) → (s ≡ Done) ⊎ (s ≡ NoMemory) → IfSome o (λ held. IsDecided held s)
    here None m e = tt
    here (Some held) m (inl e) = subst (λ t. IsDecided held t) (sym e) (law held changes report m)
    here (Some held) m (inr e) = record { done = λ m p. inr e; limit = λ which t. inr e; lex = λ place kind t. inr e; parse = λ place t. inr e; nesting = λ which t. inr e; unbuilt = λ u. inr e }

-- a package that is refused with no fault decides the refusal
pub refused_decides : RefusalsAreDecided → (first : Option Held) (s : Status) (before now : ℕ) → IsRefusal s before now → IfSome first (λ held. Refuses held s) → (Rose before now → ⊥) → IfSome first (λ held. IsDecided held s)
refused_decides law None s before now h r f = tt
refused_decides law (Some held) s before now h r f = law held s before now h r f

pub unchanged_says_usage : (first left : Option Held) (old new : Option (List ℕ)) (before now : ℕ) → left ≡ first → IfSome first (λ held. Says held Usage left old new before now)
unchanged_says_usage None left old new before now e = tt
unchanged_says_usage (Some held) left old new before now e = e

-- a change that can't be put, told by its name
pub write_fault_carried : (all changes : List Change) (report : List ℕ) (held left : Option Held) (which : ℕ) (change : Change) (old new : Option (List ℕ)) (before now : ℕ) → changes ≡ all → PartDone changes which held left → change ≡ get_or changes which change → Wrote old (write_line (get_or changes which change).name) new before now → Carries all report held (WriteFault which) left old new before now
write_fault_carried all changes report held left which change old new before now e p is w =
    let named : Wrote old (write_line change.name) new before now = subst (λ (x : Change). Wrote old (write_line x.name) new before now) (sym is) w in
    subst (λ cs. Carries cs report held (WriteFault which) left old new before now) e (p, (change.name, (change, slice_get_read changes (length changes) which change refl p.0 is, refl), named))

-- a refusal that is told
pub refused_tells : (s : Status) (old new : Option (List ℕ)) (files_before files_now out_before out_now : ℕ) → IsRefusal s files_before files_now → TellsRefusal s old new out_before out_now → Tells s old new out_before out_now
refused_tells (ReadFault name) old new fb fn ob on r h = h
refused_tells NoMemory old new fb fn ob on r h = h
refused_tells Unbuilt old new fb fn ob on r h = h
refused_tells (NotAccepted place phase) old new fb fn ob on r h = h
refused_tells (Limit which) old new fb fn ob on r h = h
refused_tells Done old new fb fn ob on r h = tt
refused_tells Usage old new fb fn ob on r h = h
refused_tells (WriteFault which) old new fb fn ob on r h = absurd r
refused_tells SinkFault old new fb fn ob on r h = tt
