-- Entries that are read one by one.
use Rattle.std.proofs.Common.{◌≡◌, List, [], ◌∷◌, ◌++◌, Option, Some, None, true, String, Global, string_bytes, sym, ◌∙◌, ap, refl}
use Rattle.std.specs.List.Sorted.{IsStrictlySortedBy}
use Rattle.std.specs.Map.{keys_of}
use Rattle.std.specs.String.{string_cmp}
use Rattle.toml.proofs.Views.{is_before-sorted}
use Rattle.toml.specs.View.{view, members_view}
use Rattle.toml.specs.declared.value.Value.{Value}
use Rattle.std.proofs.lemmas.List.{append_assoc, append-nil}
use Rattle.em_manifest.specs.declared.manifest.Dependency.{Dependency}
use Rattle.em_manifest.specs.Values.{with_front, dependency_in, entries_in, keys_ascend}

-- those found, and then these
abbrev pub behind : List Dependency → Option (List Dependency) → Option (List Dependency)
behind found None = None
behind found (Some more) = Some (found ++ more)

pub behind_none : (found : List Dependency) (rest : Option (List Dependency)) → behind found (with_front None rest) ≡ None
behind_none found None = refl
behind_none found (Some more) = refl

pub behind_one : (found : List Dependency) (d : Dependency) (rest : Option (List Dependency)) → behind found (with_front (Some d) rest) ≡ behind (found ++ d ∷ []) rest
behind_one found d None = refl
behind_one found d (Some more) = ap Some (sym (append_assoc found (d ∷ []) more))

pub behind_all : (found : List Dependency) → behind found (Some []) ≡ Some found
behind_all found = ap Some (append-nil found)

-- one entry more
pub entries_more : (key : String Global) (value : Value) (es : List (String Global × Value)) (found : List Dependency) (d : Dependency) → dependency_in (string_bytes key) (view value) ≡ Some d
    → behind found (entries_in (members_view ((key, value) ∷ es))) ≡ behind (found ++ d ∷ []) (entries_in (members_view es))
entries_more key value es found d is = ap (λ x. behind found (with_front x (entries_in (members_view es)))) is ∙ behind_one found d (entries_in (members_view es))

-- the entries of a map in order have ascending keys
pub entries_ascend : (es : List (String Global × Value)) → IsStrictlySortedBy string_cmp (keys_of es) → keys_ascend (members_view es) ≡ true
unfolding IsStrictlySortedBy
entries_ascend [] h = refl
entries_ascend (e ∷ es) h = rw (is_before-sorted e.0 es h.0, entries_ascend es h.1)
