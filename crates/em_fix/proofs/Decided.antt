-- A package has at most one answer.
use Rattle.std.proofs.Common.{◌≡◌, inl, inr, ℕ, List, refl, subst, sym, ap, ◌∙◌}
use Rattle.em_base.specs.declared.edition.Edition.TheVariants.{E2015}
use Rattle.em_base.specs.declared.limit.Limit.{Limit as LimitKind}
use Rattle.em_base.specs.declared.place.Place.{Place}
use Rattle.em_base.specs.declared.token.Token.{Token}
use Rattle.em_disk.specs.Held.{Held}
use Rattle.em_first.specs.Form.{FirstCore}
use Rattle.em_first.specs.Laws.{ProgramsAreFiles}
use Rattle.em_lex.specs.declared.error.LexKind.{LexKind}
use Rattle.em_lex.specs.Laws.{OneLexing, ListExcludesFault, OneFault}
use Rattle.em_lex.specs.Lexing.{Lexes, FirstFault}
use Rattle.em_parse.specs.Calls.{IsWhole, NoItemAt, DeepItemAt}
use Rattle.em_parse.specs.Decided.{FilesAreDecided}
use Rattle.em_tree.specs.declared.item.FileTree.{FileTree}
use Rattle.em_fix.specs.Words.{source_name}
use Rattle.em_fix.specs.Migration.{HoldsShort, HasManifest, HasProgram, HasOther, IsTooLong, IsNotLexed, IsNotParsed, IsTooDeep, IsUnbuilt}
use Rattle.em_fix.specs.Answers.{IsDecided, RefusalsAreDecided, MigrationsAreDecided}
use Rattle.em_fix.specs.declared.status.Phase.{Phase}
use Rattle.em_fix.specs.declared.status.Phase.TheVariants.{Lex, Parse}
use Rattle.em_fix.specs.declared.status.Status.TheVariants.{Done, Usage, ReadFault, WriteFault, SinkFault, NoMemory, NotAccepted, Limit, Unbuilt}
use Rattle.em_fix.proofs.Prepared.{none_some, same_bytes, long_short}

-- the laws of the crates below
pub record Laws : Type 0 where
  pub lexing : OneLexing
  pub excludes : ListExcludesFault
  pub fault : OneFault
  pub files : FilesAreDecided
  pub programs : ProgramsAreFiles

abbrev name : List ℕ
name = source_name

-- ---- sources with tokens

record HasTokens (held : Held) (tokens : List Token) : Type 0 where
  bytes : List ℕ
  there : HoldsShort held name bytes
  lexes : Lexes 0 E2015 bytes tokens

same_tokens : OneLexing → (held : Held) (ts us : List Token) → HasTokens held ts → HasTokens held us → ts ≡ us
same_tokens one held ts us a b = one 0 E2015 b.bytes ts us (subst (λ bytes. Lexes 0 E2015 bytes ts) (same_bytes held name _ _ a.there b.there) a.lexes) b.lexes

tokens_or_fault : ListExcludesFault → (held : Held) (ts : List Token) (place : Place) (kind : LexKind) → HasTokens held ts → IsNotLexed held place kind → ⊥
tokens_or_fault law held ts place kind h n =
    law 0 E2015 h.bytes ts kind place.offset h.lexes (subst (λ bytes. FirstFault E2015 bytes kind place.offset) (same_bytes held name _ _ n.there h.there) n.fault.first)

program_tokens : (held : Held) (p : HasProgram held) → HasTokens held p.tokens
program_tokens held p = record { bytes = p.bytes; there = p.there; lexes = p.form.lexes }

other_tokens : (held : Held) (o : HasOther held) → HasTokens held o.other.tokens
other_tokens held o = record { bytes = o.bytes; there = o.there; lexes = o.other.lexes }

none_tokens : (held : Held) (place : Place) (n : IsNotParsed held place) → HasTokens held n.no_file.tokens
none_tokens held place n = record { bytes = n.bytes; there = n.there; lexes = n.no_file.lexes }

deep_tokens : (held : Held) (which : LimitKind) (d : IsTooDeep held which) → HasTokens held d.deep.tokens
deep_tokens held which d = record { bytes = d.bytes; there = d.there; lexes = d.deep.lexes }

-- ---- a file, a place where no item stands, and an item that nests too deep

record HasFile (held : Held) : Type 0 where
  tokens : List Token
  source : HasTokens held tokens
  tree : FileTree
  whole : IsWhole tokens tree

program_file : ProgramsAreFiles → (held : Held) → HasProgram held → HasFile held
program_file law held p =
    let file = law p.bytes p.tokens p.form.lexes (p.core, p.form.form) in
    record { tokens = p.tokens; source = program_tokens held p; tree = file.0; whole = record { tree = file.1; yields = file.2 } }

other_file : (held : Held) → HasOther held → HasFile held
other_file held o = record { tokens = o.other.tokens; source = other_tokens held o; tree = o.other.tree; whole = o.other.whole }

file_or_none : Laws → (held : Held) (place : Place) → HasFile held → IsNotParsed held place → ⊥
file_or_none laws held place f n =
    let same = same_tokens laws.lexing held n.no_file.tokens f.tokens (none_tokens held place n) f.source in
    (laws.files f.tokens).no_item f.tree place.offset f.whole (subst (λ ts. NoItemAt ts place.offset) same n.no_file.none)

file_or_deep : Laws → (held : Held) (which : LimitKind) → HasFile held → IsTooDeep held which → ⊥
file_or_deep laws held which f d =
    let same = same_tokens laws.lexing held d.deep.tokens f.tokens (deep_tokens held which d) f.source in
    (laws.files f.tokens).not_deep f.tree d.deep.offset f.whole (subst (λ ts. DeepItemAt ts d.deep.offset) same d.deep.deep)

none_or_deep : Laws → (held : Held) (place : Place) (which : LimitKind) → IsNotParsed held place → IsTooDeep held which → ⊥
none_or_deep laws held place which n d =
    let same = same_tokens laws.lexing held d.deep.tokens n.no_file.tokens (deep_tokens held which d) (none_tokens held place n) in
    (laws.files n.no_file.tokens).either place.offset d.deep.offset n.no_file.none (subst (λ ts. DeepItemAt ts d.deep.offset) same d.deep.deep)

-- ---- programs, faults, and packages of no form

program_or_other : OneLexing → (held : Held) → HasProgram held → HasOther held → ⊥
program_or_other one held p o =
    let same = same_tokens one held p.tokens o.other.tokens (program_tokens held p) (other_tokens held o) in
    o.other.no_form (p.core, subst (λ ts. FirstCore E2015 ts p.core) same p.form.form)

program_or_fault : ListExcludesFault → (held : Held) (place : Place) (kind : LexKind) → HasProgram held → IsNotLexed held place kind → ⊥
program_or_fault law held place kind p n = tokens_or_fault law held p.tokens place kind (program_tokens held p) n

-- an unbuilt package has no other answer
unbuilt_or : (held : Held) (bytes : List ℕ) → IsUnbuilt held → HasManifest held → HoldsShort held name bytes → (HasOther held → ⊥) → ⊥
unbuilt_or held bytes (inl lacks) m there no_other = lacks m
unbuilt_or held bytes (inr (m, inl absent)) n there no_other = none_some _ _ (sym absent ∙ there.at)
unbuilt_or held bytes (inr (m, inr other)) n there no_other = no_other other

unbuilt_or_program : OneLexing → (held : Held) → IsUnbuilt held → HasManifest held → HasProgram held → ⊥
unbuilt_or_program one held u m p = unbuilt_or held p.bytes u m p.there (λ o. program_or_other one held p o)

unbuilt_or_fault : ListExcludesFault → (held : Held) (place : Place) (kind : LexKind) → IsUnbuilt held → IsNotLexed held place kind → ⊥
unbuilt_or_fault law held place kind u n =
    unbuilt_or held n.bytes u n.manifest n.there (λ o. tokens_or_fault law held o.other.tokens place kind (other_tokens held o) n)

unbuilt_or_none : Laws → (held : Held) (place : Place) → IsUnbuilt held → IsNotParsed held place → ⊥
unbuilt_or_none laws held place u n = unbuilt_or held n.bytes u n.manifest n.there (λ o. file_or_none laws held place (other_file held o) n)

unbuilt_or_deep : Laws → (held : Held) (which : LimitKind) → IsUnbuilt held → IsTooDeep held which → ⊥
unbuilt_or_deep laws held which u d = unbuilt_or held d.bytes u d.manifest d.there (λ o. file_or_deep laws held which (other_file held o) d)

unbuilt_or_long : (held : Held) (which : LimitKind) → IsUnbuilt held → IsTooLong held which → ⊥
unbuilt_or_long held which (inl lacks) t = lacks t.manifest
unbuilt_or_long held which (inr (m, inl absent)) t = none_some _ _ (sym absent ∙ t.source.at)
unbuilt_or_long held which (inr (m, inr other)) t = long_short held name t.source other.bytes other.there

-- ---- a source has one first fault, and one place where no item stands

same_refusal : (p q : Place) (phase : Phase) → p.file ≡ 0 → q.file ≡ 0 → p.offset ≡ q.offset → NotAccepted p phase ≡ NotAccepted q phase
same_refusal p q phase f g o = ap (λ (place : Place). NotAccepted place phase) same
  where
    same : p ≡ q
    same = ap (λ (file : ℕ). record { file = file; offset = p.offset }) (f ∙ sym g) ∙ ap (λ (offset : ℕ). record { file = q.file; offset = offset }) o

same_fault : OneFault → (held : Held) (p q : Place) (k l : LexKind) → IsNotLexed held p k → IsNotLexed held q l → NotAccepted p (Lex k) ≡ NotAccepted q (Lex l)
same_fault law held p q k l h n =
    let e = same_bytes held name _ _ n.there h.there in
    let o = law E2015 h.bytes k l p.offset q.offset h.fault.first (subst (λ bytes. FirstFault E2015 bytes l q.offset) e n.fault.first) in
    ap (λ (kind : LexKind). NotAccepted p (Lex kind)) o.0 ∙ same_refusal p q (Lex l) h.fault.file n.fault.file o.1

same_none : Laws → (held : Held) (p q : Place) → IsNotParsed held p → IsNotParsed held q → NotAccepted p Parse ≡ NotAccepted q Parse
same_none laws held p q h n =
    let same = same_tokens laws.lexing held n.no_file.tokens h.no_file.tokens (none_tokens held q n) (none_tokens held p h) in
    same_refusal p q Parse h.no_file.file n.no_file.file ((laws.files h.no_file.tokens).once p.offset q.offset h.no_file.none (subst (λ ts. NoItemAt ts q.offset) same n.no_file.none))

-- ---- answers

decided_program : Laws → (held : Held) → HasManifest held → HasProgram held → IsDecided held Done
decided_program laws held m p = record {
  done = λ n q. inl refl;
  limit = λ which t. absurd (long_short held name t.source p.bytes p.there);
  lex = λ place kind n. absurd (program_or_fault laws.excludes held place kind p n);
  parse = λ place n. absurd (file_or_none laws held place (program_file laws.programs held p) n);
  nesting = λ which d. absurd (file_or_deep laws held which (program_file laws.programs held p) d);
  unbuilt = λ u. absurd (unbuilt_or_program laws.lexing held u m p);
}

pub migrations : Laws → MigrationsAreDecided
migrations laws held changes report m = decided_program laws held
    (record { bytes = m.manifest; name = m.manifest_moves.name; there = m.manifest_held; form = m.manifest_moves.manifest })
    (record { bytes = m.source; tokens = m.source_moves.tokens; core = m.source_moves.core; there = m.source_held; form = m.source_moves.program })

pub refusals : Laws → RefusalsAreDecided
refusals laws held (ReadFault at) before now h r f = absurd (f h)
refusals laws held NoMemory before now h r f = record {
  done = λ m p. inr refl;
  limit = λ which t. inr refl;
  lex = λ place kind n. inr refl;
  parse = λ place n. inr refl;
  nesting = λ which d. inr refl;
  unbuilt = λ u. inr refl;
}
refusals laws held (NotAccepted p (Lex k)) before now h r f = record {
  done = λ m q. absurd (program_or_fault laws.excludes held p k q r);
  limit = λ which t. absurd (long_short held name t.source r.bytes r.there);
  lex = λ place kind n. inl (same_fault laws.fault held p place k kind r n);
  parse = λ place n. absurd (tokens_or_fault laws.excludes held n.no_file.tokens p k (none_tokens held place n) r);
  nesting = λ which d. absurd (tokens_or_fault laws.excludes held d.deep.tokens p k (deep_tokens held which d) r);
  unbuilt = λ u. absurd (unbuilt_or_fault laws.excludes held p k u r);
}
refusals laws held (NotAccepted p Parse) before now h r f = record {
  done = λ m q. absurd (file_or_none laws held p (program_file laws.programs held q) r);
  limit = λ which t. absurd (long_short held name t.source r.bytes r.there);
  lex = λ place kind n. absurd (tokens_or_fault laws.excludes held r.no_file.tokens place kind (none_tokens held p r) n);
  parse = λ place n. inl (same_none laws held p place r n);
  nesting = λ which d. absurd (none_or_deep laws held p which r d);
  unbuilt = λ u. absurd (unbuilt_or_none laws held p u r);
}
refusals laws held (Limit l) before now h (inl r) f = record {
  done = λ m q. absurd (long_short held name r.source q.bytes q.there);
  limit = λ which t. inl (ap (λ (x : LimitKind). Limit x) (r.which ∙ sym t.which));
  lex = λ place kind n. absurd (long_short held name r.source n.bytes n.there);
  parse = λ place n. absurd (long_short held name r.source n.bytes n.there);
  nesting = λ which d. absurd (long_short held name r.source d.bytes d.there);
  unbuilt = λ u. absurd (unbuilt_or_long held l u r);
}
refusals laws held (Limit l) before now h (inr r) f = record {
  done = λ m q. absurd (file_or_deep laws held l (program_file laws.programs held q) r);
  limit = λ which t. absurd (long_short held name t.source r.bytes r.there);
  lex = λ place kind n. absurd (tokens_or_fault laws.excludes held r.deep.tokens place kind (deep_tokens held l r) n);
  parse = λ place n. absurd (none_or_deep laws held place l n r);
  nesting = λ which d. inl (ap (λ (x : LimitKind). Limit x) (r.which ∙ sym d.which));
  unbuilt = λ u. absurd (unbuilt_or_deep laws held l u r);
}
refusals laws held Unbuilt before now h r f = record {
  done = λ m p. absurd (unbuilt_or_program laws.lexing held r m p);
  limit = λ which t. absurd (unbuilt_or_long held which r t);
  lex = λ place kind n. absurd (unbuilt_or_fault laws.excludes held place kind r n);
  parse = λ place n. absurd (unbuilt_or_none laws held place r n);
  nesting = λ which d. absurd (unbuilt_or_deep laws held which r d);
  unbuilt = λ u. inl refl;
}
refusals laws held Done before now h r f = absurd h
refusals laws held Usage before now h r f = absurd h
refusals laws held (WriteFault which) before now h r f = absurd h
refusals laws held SinkFault before now h r f = absurd h
