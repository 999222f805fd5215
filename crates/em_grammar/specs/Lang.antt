-- Small languages: which values they have, by depth, and the pieces of each.
use Rattle.std.specs.Prelude.{◌≡◌, ℕ, zero, suc, Bool, true, List, [], ◌∷◌, ◌++◌, Option, ◌⊎◌}
use Rattle.em_base.specs.declared.token.Token.{Token}
use Rattle.em_tree.specs.declared.parts.Listed.{Listed}
use Rattle.em_tree.specs.declared.piece.Group.{Group}
use Rattle.em_tree.specs.declared.piece.Piece.TheVariants as p
use Rattle.em_tree.specs.Starts.{Pieces, pieces_of}
use Rattle.em_tree.specs.Tokens.{Maybe, Each, Commas}
use Rattle.em_tree.specs.Parts.{maybe}
use Rattle.em_tree.specs.Yields.{piece}

-- the first, and the second, which may depend on it
abbrev pub Chain : {A B : Type 0} → (ℕ → A → Type 0) → (A → ℕ → B → Type 0) → ℕ → A × B → Type 0
Chain M N d t = M d t.0 × N t.0 d t.1

abbrev pub Seq : {A B : Type 0} → (ℕ → A → Type 0) → (ℕ → B → Type 0) → ℕ → A × B → Type 0
Seq M N d t = M d t.0 × N d t.1

abbrev pub joined : {A B : Type 0} → (A → Pieces) → (B → Pieces) → A × B → Pieces
joined y z t = y t.0 ++ z t.1

-- a group, with the value that its pieces are
abbrev pub Grp : {A : Type 0} → (Group → Bool) → (ℕ → A → Type 0) → (A → Pieces) → ℕ → Group × A → Type 0
Grp test M z d t = (test t.0 ≡ true) × (pieces_of t.0 ≡ z t.1) × M d t.1

abbrev pub grouped : {A : Type 0} → Group × A → Pieces
grouped t = p.Group t.0 ∷ []

abbrev pub Opt : {A : Type 0} → (ℕ → A → Type 0) → ℕ → Option A → Type 0
Opt M d t = Maybe (M d) t

abbrev pub Many : {A : Type 0} → (ℕ → A → Type 0) → ℕ → List A → Type 0
Many M d t = Each (M d) t

abbrev pub Lists : {A : Type 0} → (ℕ → A → Type 0) → ℕ → List (Listed A) → Type 0
Lists M d t = Commas (M d) t

abbrev pub listed : {A : Type 0} → A → Option Token → Listed A
listed x c = record { item = x; comma = c }

abbrev pub with_comma : {A : Type 0} → (A → Pieces) → Listed A → Pieces
with_comma z x = z x.item ++ maybe piece x.comma

pub data Sum (A B : Type 0) : Type 0 where
  one : A → Sum A B
  two : B → Sum A B

abbrev pub Image : {A B : Type 0} → (A → B) → (ℕ → A → Type 0) → ℕ → B → Type 0
Image {A} f M d u = (t : A) × M d t × (u ≡ f t)

abbrev pub Or : {A : Type 0} → (ℕ → A → Type 0) → (ℕ → A → Type 0) → ℕ → A → Type 0
Or M N d t = M d t ⊎ N d t

-- one node more around it
abbrev pub Shift : {A : Type 0} → (ℕ → A → Type 0) → ℕ → A → Type 0
Shift M zero t = ⊥
Shift M (suc d) t = M d t
