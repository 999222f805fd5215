-- The name of a text whose dashes are underscores.
use Rattle.std.proofs.Common.{◌≡◌, ◌↔◌, ◌==◌, ℕ, List, [], ◌∷◌, true, Option, Some, None, IsSome, IfSome, Result, Ok, Err, IfOk, map, chars, encode_utf8_all, ◌∙◌, ap, refl, inl, inr}
use Rattle.std.proofs.lemmas.Bool.{cases_Bool, and_parts, and_from, false_from_ne_true, false≢true}
use Rattle.std.proofs.lemmas.Str.{chars-encodes, scalars-chars}
use lib.Utf8.{scalar}
use Rattle.std.specs.Str.{IsUtf8, all_scalars}
use Rattle.unicode_normalization.specs.Forms.{nfc}
use Rattle.em_base.specs.Names.{is_identifier}
use Rattle.em_base.specs.declared.memory.NoMemory.{NoMemory}
use Rattle.em_manifest.specs.Values.{underscore, underscored, name_of, crate_name}

scalars-underscored : (cs : List ℕ) → all_scalars cs ≡ true → all_scalars (map underscore cs) ≡ true
scalars-underscored [] h = refl
scalars-underscored (c ∷ cs) h =
    let (here, later) = and_parts (scalar c) (all_scalars cs) h in
    elim (cases_Bool (c == 45)) [
      | inl same ↦ rw same (scalars-underscored cs later)
      | inr other ↦ rw other (and_from (scalar c) (all_scalars (map underscore cs)) here (scalars-underscored cs later))
    ]

by_cases : (cs : List ℕ) (name : Option (List ℕ)) → IfSome name (λ n. n ≡ encode_utf8_all (nfc cs)) → (IsSome name ↔ (is_identifier cs ≡ true)) → name ≡ name_of cs
by_cases cs None normal exact = rw (false_from_ne_true (is_identifier cs) (λ h. false≢true (exact.1 h)))
by_cases cs (Some n) normal exact = rw (exact.0 refl, normal)

named : (text key : List ℕ) → IsUtf8 key → text ≡ encode_utf8_all (underscored key) → (name : Option (List ℕ)) → IfSome name (λ n. n ≡ encode_utf8_all (nfc (chars text)))
    → (IsSome name ↔ (is_identifier (chars text) ≡ true)) → name ≡ crate_name key
named text key utf8 is name normal exact =
    let cs : chars text ≡ underscored key = ap chars is ∙ chars-encodes (underscored key) (scalars-underscored (chars key) (scalars-chars key utf8)) in
    by_cases (underscored key) name (rw cs at normal) (rw cs at exact)

-- the same of a call's answer
pub named_ok : (text key : List ℕ) → IsUtf8 key → text ≡ encode_utf8_all (underscored key) → (result : Result (Option (List ℕ)) NoMemory) → IfOk result (λ name. IfSome name (λ n. n ≡ encode_utf8_all (nfc (chars text))))
    → IfOk result (λ name. IsSome name ↔ (is_identifier (chars text) ≡ true)) → IfOk result (λ name. name ≡ crate_name key)
named_ok text key utf8 is (Ok name) normal exact = named text key utf8 is name normal exact
named_ok text key utf8 is (Err e) normal exact = tt
