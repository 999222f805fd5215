-- What a manifest's table says of the package, and the first kind of fault where it says nothing.
use Rattle.std.specs.Prelude.{◌≡◌, ℕ, chars, encode_utf8_all, Bool, true, false, not, ◌&&◌, ◌||◌, ◌==◌, nat_le, if◌then◌else◌, List, [], ◌∷◌, map, codes, Option, Some, None, IfSome, is_some, option_and_then, Result, Ok, Err}
use Rattle.std.specs.List.{list_any, list_all, find}
use Rattle.std.specs.Str.{bytes_eq, is_utf8}
use Rattle.toml.specs.Data.{Data, Members, no_members, member, get, get_member, as_str, as_table, is_before}
use Rattle.toml.specs.Parse.{parse_document}
use Rattle.unicode_normalization.specs.Forms.{nfc}
use Rattle.em_base.specs.Names.{is_identifier}
use Rattle.em_base.specs.declared.edition.Edition.{Edition}
use Rattle.em_base.specs.declared.edition.Edition.TheVariants.{E2015}
use Rattle.em_manifest.specs.Lines.{year_of, editions}
use Rattle.em_manifest.specs.declared.manifest.Dependency.{Dependency}
use Rattle.em_manifest.specs.declared.manifest.Manifest.{Manifest}
use Rattle.em_manifest.specs.declared.manifest.ManifestKind.{ManifestKind}
use Rattle.em_manifest.specs.declared.manifest.ManifestKind.TheVariants.{NotToml, NoName, BadEdition, BadDependency, Section}

-- the value at a key of the table `package`
abbrev pub package_value : List ℕ → Members → Option Data
package_value key doc = option_and_then (get key) (get_member (codes "package") doc)

-- an ASCII letter, a digit, a dash or an underscore
abbrev pub is_package_byte : ℕ → Bool
is_package_byte b = ((nat_le 97 b && nat_le b 122) || (nat_le 65 b && nat_le b 90)) || (nat_le 48 b && nat_le b 57) || (b == 45) || (b == 95)

-- an underscore for a dash
abbrev pub underscore : ℕ → ℕ
underscore c = if c == 45 then 95 else c

-- the characters of the text with underscores for dashes
abbrev pub underscored : List ℕ → List ℕ
underscored text = map underscore (chars text)

-- the name that characters spell, in Unicode Normalization Form C
abbrev pub name_of : List ℕ → Option (List ℕ)
name_of cs = if is_identifier cs then Some (encode_utf8_all (nfc cs)) else None

-- the crate's name that a key gives
abbrev pub crate_name : List ℕ → Option (List ℕ)
crate_name text = name_of (underscored text)

-- the crate's name that a package's name gives
abbrev pub package_name : List ℕ → Option (List ℕ)
package_name text = if list_all is_package_byte text then crate_name text else None

-- `package.name`
abbrev pub name_in : Members → Option (List ℕ)
name_in doc = option_and_then package_name (option_and_then as_str (package_value (codes "name") doc))

-- the edition that a year names
abbrev pub edition_named : List ℕ → Option Edition
edition_named text = find (λ edition. bytes_eq text (year_of edition)) editions

-- An edition that isn't told is the first.
abbrev pub edition_of : Option Data → Option Edition
edition_of None = Some E2015
edition_of (Some value) = option_and_then edition_named (as_str value)

abbrev pub edition_key : List ℕ
edition_key = codes "edition"

-- `package.edition`
abbrev pub edition_in : Members → Option Edition
edition_in doc = edition_of (package_value edition_key doc)

abbrev pub is_known_key : List ℕ → Bool
is_known_key key = bytes_eq key (codes "path") || bytes_eq key (codes "version")

-- the only keys are `path` and `version`
abbrev pub has_known_keys : Members → Bool
has_known_keys no_members = true
has_known_keys (member key value rest) = is_known_key key && has_known_keys rest

-- the path of a dependency's table
abbrev pub path_in : Members → Option (List ℕ)
path_in entry = if has_known_keys entry then option_and_then as_str (get_member (codes "path") entry) else None

abbrev pub is_std : List ℕ → Bool
is_std name = bytes_eq name (codes "std")

-- the name that a dependency's key gives
abbrev pub dependency_name : List ℕ → Option (List ℕ)
dependency_name key = option_and_then (λ name. if is_std name then None else Some name) (crate_name key)

-- a dependency of this name and path, where there are both
abbrev pub dependency : Option (List ℕ) → Option (List ℕ) → Option Dependency
dependency (Some name) (Some path) = Some (record { name = name; path = path })
dependency _ _ = None

-- the entry's dependency
abbrev pub dependency_in : List ℕ → Data → Option Dependency
dependency_in key value = dependency (dependency_name key) (option_and_then path_in (as_table value))

-- a list and one more at its front, where there are both
abbrev pub with_front : {A : Type 0} → Option A → Option (List A) → Option (List A)
with_front (Some x) (Some xs) = Some (x ∷ xs)
with_front _ _ = None

-- the dependencies of all entries, in the order of their keys
abbrev pub entries_in : Members → Option (List Dependency)
entries_in no_members = Some []
entries_in (member key value rest) = with_front (dependency_in key value) (entries_in rest)

-- no two of them have one name
abbrev pub have_own_names : List Dependency → Bool
have_own_names [] = true
have_own_names (d ∷ ds) = not (list_any (λ other. bytes_eq d.name other.name) ds) && have_own_names ds

-- the dependencies, where no two have one name
abbrev pub own_dependencies : Option (List Dependency) → Option (List Dependency)
own_dependencies found = option_and_then (λ ds. if have_own_names ds then Some ds else None) found

-- the dependencies of a table, or none where there is no value
abbrev pub dependencies_of : Option Data → Option (List Dependency)
dependencies_of None = Some []
dependencies_of (Some value) = option_and_then (λ entries. own_dependencies (entries_in entries)) (as_table value)

-- `dependencies`
abbrev pub dependencies_in : Members → Option (List Dependency)
dependencies_in doc = dependencies_of (get_member (codes "dependencies") doc)

-- the keys ascend in byte order
abbrev pub keys_ascend : Members → Bool
keys_ascend no_members = true
keys_ascend (member key value rest) = is_before key rest && keys_ascend rest

-- the entries of `dependencies` stand in byte order of their keys
abbrev pub HasOrderedEntries : Members → Type 0
HasOrderedEntries doc = IfSome (option_and_then as_table (get_member (codes "dependencies") doc)) (λ entries. keys_ascend entries ≡ true)

-- a key of the top that stands for what isn't accepted
abbrev pub top_sections : List (List ℕ)
top_sections = codes "lib" ∷ codes "bin" ∷ codes "target" ∷ codes "workspace" ∷ codes "build-dependencies" ∷ []

-- a key of `package` that does
abbrev pub package_sections : List (List ℕ)
package_sections = codes "build" ∷ codes "links" ∷ []

abbrev pub has_top_section : Members → Bool
has_top_section doc = list_any (λ key. is_some (get_member key doc)) top_sections

abbrev pub has_section : Members → Bool
has_section doc = has_top_section doc || list_any (λ key. is_some (package_value key doc)) package_sections

-- the table that the bytes are: they are UTF-8, and a TOML document
abbrev pub document : List ℕ → Option Members
document bytes = if is_utf8 bytes then parse_document bytes else None

-- the manifest of these values, or the first fault in the order of the kinds
abbrev pub judged : Option (List ℕ) → Option Edition → Option (List Dependency) → Bool → Result Manifest ManifestKind
judged None edition dependencies section = Err NoName
judged (Some name) None dependencies section = Err BadEdition
judged (Some name) (Some edition) None section = Err BadDependency
judged (Some name) (Some edition) (Some dependencies) true = Err Section
judged (Some name) (Some edition) (Some dependencies) false = Ok (record { name = name; edition = edition; dependencies = dependencies })

abbrev pub manifest_from : Option Members → Result Manifest ManifestKind
manifest_from None = Err NotToml
manifest_from (Some doc) = judged (name_in doc) (edition_in doc) (dependencies_in doc) (has_section doc)

-- what the bytes say as a manifest
abbrev pub manifest_of : List ℕ → Result Manifest ManifestKind
manifest_of bytes = manifest_from (document bytes)

-- whether the bytes tell the edition
abbrev pub tells_edition : Option Members → Bool
tells_edition None = false
tells_edition (Some doc) = is_some (package_value edition_key doc)

abbrev pub has_edition : List ℕ → Bool
has_edition bytes = tells_edition (document bytes)
