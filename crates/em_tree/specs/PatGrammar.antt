-- Patterns (Reference, "Patterns"), as far as the profile has them.
use Rattle.std.specs.Prelude.{◌≡◌, ◌⊎◌, ℕ, zero, suc, Bool, true, false, List, [], ◌∷◌, codes, Option, Some, None}
use Rattle.std.specs.List.{list_any}
use Rattle.em_base.specs.declared.token.Token.{Token}
use Rattle.em_tree.specs.declared.parts.Listed.{Listed}
use Rattle.em_tree.specs.declared.piece.FragmentKind.TheVariants as f
use Rattle.em_tree.specs.declared.piece.Group.{Group}
use Rattle.em_tree.specs.declared.piece.Piece.{Piece}
use Rattle.em_tree.specs.declared.piece.Piece.TheVariants as p
use Rattle.em_tree.specs.declared.literal.Literal.{Literal}
use Rattle.em_tree.specs.declared.types.Path.{Path}
use Rattle.em_tree.specs.declared.pat.FieldPat.{FieldPat}
use Rattle.em_tree.specs.declared.pat.FieldPat.TheVariants as field
use Rattle.em_tree.specs.declared.pat.Pat.{Pat, out-Pat}
use Rattle.em_tree.specs.declared.pat.Pat.TheOpen.{Pat-F}
use Rattle.em_tree.specs.declared.pat.Alternative.{Alternative}
use Rattle.em_tree.specs.declared.pat.TopPat.{TopPat, out-TopPat}
use Rattle.em_tree.specs.declared.pat.TopPat.TheOpen.{TopPat-F}
use Rattle.em_tree.specs.Parts.{pat_parts, top_pat_parts}
use Rattle.em_tree.specs.Starts.{kind_of, pieces_of, is_bar}
use Rattle.em_tree.specs.Tokens.{Is, Maybe, Each, Commas, Name, before_2021}
use Rattle.em_tree.specs.Yields.{piece, whole, as_it_is}
use Rattle.em_tree.specs.PathGrammar.{path_pieces, IsLiteral, PathWithin}

abbrev pub pat_pieces : Pat → List Piece
pat_pieces x = pat_parts piece whole as_it_is x

abbrev pub top_pieces : TopPat → List Piece
top_pieces x = top_pat_parts piece whole as_it_is x

-- `..=`, or in text before 2021 `...` (Reference, "Range patterns")
abbrev pub IsDots : Token → Type 0
IsDots t = Is (codes "..=") t ⊎ (Is (codes "...") t × (before_2021 t.edition ≡ true))

-- the path isn't one name token alone, which binds a variable (a fragment of the kind `path` is a path)
abbrev pub IsNoName : Path → Type 0
IsNoName x = (t : Token) → path_pieces x ≡ p.Token t ∷ [] → Name t → ⊥

-- a list whose items all have a comma
abbrev pub HasCommas : {A : Type 0} → List (Listed A) → Type 0
HasCommas xs = Each (λ a. (t : Token) × (a.comma ≡ Some t)) xs

-- over the patterns inside, and the paths
module _ (Inner : Pat → Type 0) (IsPath : Path → Type 0) where
  -- a field of a struct pattern
  abbrev pub IsField : FieldPat Pat → Type 0
  IsField (field.Full name colon x) = Name name × Is (codes ":") colon × Inner x
  IsField (field.Short word_ref word_mut name) = Maybe (Is (codes "ref")) word_ref × Maybe (Is (codes "mut")) word_mut × Name name

  -- `..` stands behind the last field, whose comma is there (Reference, "Struct patterns")
  abbrev pub IsRest : List (Listed (FieldPat Pat)) → Option Token → Type 0
  IsRest fields None = Unit {0}
  IsRest fields (Some dots) = Is (codes "..") dots × HasCommas fields

  -- one node
  pub data PatNode : Pat → Type 0 where
    wild : {x : Pat} {t : Token} → out-Pat x ≡ Pat-F.Wild t → Is (codes "_") t → PatNode x
    name : {x : Pat} {word_ref word_mut : Option Token} {t : Token} → out-Pat x ≡ Pat-F.Name word_ref word_mut t
        → Maybe (Is (codes "ref")) word_ref → Maybe (Is (codes "mut")) word_mut → Name t → PatNode x
    literal : {x : Pat} {l : Literal} → out-Pat x ≡ Pat-F.Literal l → IsLiteral true l → PatNode x
    range : {x : Pat} {start end : Literal} {dots : Token} → out-Pat x ≡ Pat-F.Range start dots end → IsLiteral true start → IsDots dots → IsLiteral true end → PatNode x
    path : {x : Pat} {y : Path} → out-Pat x ≡ Pat-F.Path y → IsPath y → IsNoName y → PatNode x
    tuple : {x : Pat} {y : Path} {open' close : Token} {fields : List (Listed Pat)} → out-Pat x ≡ Pat-F.Tuple y open' fields close
        → IsPath y → Is (codes "(") open' → Commas Inner fields → Is (codes ")") close → PatNode x
    struct : {x : Pat} {y : Path} {open' close : Token} {fields : List (Listed (FieldPat Pat))} {rest : Option Token} → out-Pat x ≡ Pat-F.Struct y open' fields rest close
        → IsPath y → Is (codes "{") open' → Commas IsField fields → IsRest fields rest → Is (codes "}") close → PatNode x
    -- a group of a `pat` without a bar, or of a `pat_param`
    group : {x y : Pat} {g : Group} → out-Pat x ≡ Pat-F.Group g y → ((kind_of g ≡ f.Pat) × (list_any is_bar (pieces_of g) ≡ false)) ⊎ (kind_of g ≡ f.PatParam) → pieces_of g ≡ pat_pieces y → PatNode y → PatNode x

-- the patterns that nest no deeper than the number
unfoldable pub IsPat : ℕ → Pat → Type 0
IsPat zero x = ⊥
IsPat (suc depth) x = PatNode (IsPat depth) (PathWithin depth) x

-- alternatives: the first may have a bar before it, the others have one (Reference, "Or-patterns")
abbrev pub Others : ℕ → List Alternative → Type 0
Others depth xs = Each (λ a. ((t : Token) × (a.bar ≡ Some t) × Is (codes "|") t) × IsPat depth a.pat) xs

abbrev pub Alternatives : ℕ → List Alternative → Type 0
Alternatives depth [] = ⊥
Alternatives depth (a ∷ more) = Maybe (Is (codes "|")) a.bar × IsPat depth a.pat × Others depth more

-- a pattern with its alternatives; a group of a `pat` with a bar is one. It adds no node
pub data IsTopPat (depth : ℕ) : TopPat → Type 0 where
  alternatives : {x : TopPat} {list : List Alternative} → out-TopPat x ≡ TopPat-F.Alternatives list → Alternatives depth list → IsTopPat depth x
  group : {x y : TopPat} {g : Group} → out-TopPat x ≡ TopPat-F.Group g y → kind_of g ≡ f.Pat → list_any is_bar (pieces_of g) ≡ true → pieces_of g ≡ top_pieces y → IsTopPat depth y → IsTopPat depth x
