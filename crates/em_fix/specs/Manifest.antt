-- Manifests of the first form: a package's name and its edition.
use Rattle.std.specs.Prelude.{◌≡◌, ℕ, Bool, true, ◌||◌, ◌&&◌, nat_le, ◌==◌, nat_lt, List, [], ◌∷◌, ◌++◌, length, codes}
use Rattle.std.specs.List.{list_all}

-- an ASCII letter, a digit or an underscore
abbrev pub is_name_byte : ℕ → Bool
is_name_byte b = (nat_le 97 b && nat_le b 122) || (nat_le 65 b && nat_le b 90) || (nat_le 48 b && nat_le b 57) || (b == 95)

abbrev pub is_package_name : List ℕ → Bool
is_package_name name = nat_lt 0 (length name) && list_all is_name_byte name

-- the text before the package's name
abbrev pub manifest_head : List ℕ
manifest_head = codes "[package]" ++ 10 ∷ codes "name = \""

-- the text behind the package's name, with this year in the edition line
abbrev pub manifest_tail : List ℕ → List ℕ
manifest_tail year = codes "\"" ++ 10 ∷ codes "edition = \"" ++ year ++ codes "\"" ++ 10 ∷ []

-- the manifest of a package of this name and edition
abbrev pub manifest_of : List ℕ → List ℕ → List ℕ
manifest_of name year = manifest_head ++ (name ++ manifest_tail year)

-- a manifest of the edition 2015 of a package of this name
pub record IsManifest (bytes name : List ℕ) : Type 0 where
  pub is_name : is_package_name name ≡ true
  pub form : bytes ≡ manifest_of name (codes "2015")

-- the old text is a manifest of the edition 2015, and the new one is the same with 2018 in its edition line
pub record MovesManifest (old new : List ℕ) : Type 0 where
  pub name : List ℕ
  pub manifest : IsManifest old name
  pub moved : new ≡ manifest_of name (codes "2018")

-- no package's name makes this text a manifest of the edition 2015
abbrev pub IsNoManifest : List ℕ → Type 0
IsNoManifest bytes = (name : List ℕ) → IsManifest bytes name → ⊥
