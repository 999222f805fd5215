-- The words that the program takes, and the names of the files that it reads.
use Rattle.std.specs.Prelude.{ℕ, List, [], ◌∷◌, codes}

abbrev pub the_words : List (List ℕ)
the_words = codes "fix" ∷ codes "--edition" ∷ codes "." ∷ []

abbrev pub manifest_name : List ℕ
manifest_name = codes "Cargo.toml"

abbrev pub source_name : List ℕ
source_name = codes "src/main.rs"
