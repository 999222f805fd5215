-- Paths and types (Reference, "Paths", "Types"), as far as the profile has them. A tree is of the grammar if its tokens and its
-- parts are; its yield is the list of its pieces.
use Rattle.std.specs.Prelude.{◌≡◌, ◌≢◌, ◌⊎◌, ℕ, zero, suc, Bool, true, false, List, [], ◌∷◌, codes, Option, Some, None}
use Rattle.em_base.specs.declared.token.Token.{Token}
use Rattle.em_tree.specs.declared.parts.Listed.{Listed}
use Rattle.em_tree.specs.declared.piece.FragmentKind.TheVariants as f
use Rattle.em_tree.specs.declared.piece.Group.{Group}
use Rattle.em_tree.specs.declared.piece.Piece.{Piece}
use Rattle.em_tree.specs.declared.piece.Piece.TheVariants as p
use Rattle.em_tree.specs.declared.literal.Literal.{Literal, out-Literal}
use Rattle.em_tree.specs.declared.literal.Literal.TheOpen.{Literal-F}
use Rattle.em_tree.specs.declared.types.Segment.{Segment}
use Rattle.em_tree.specs.declared.types.PathStep.{PathStep}
use Rattle.em_tree.specs.declared.types.Segments.{Segments}
use Rattle.em_tree.specs.declared.types.Path.{Path, out-Path}
use Rattle.em_tree.specs.declared.types.Qualified.{Qualified, out-Qualified}
use Rattle.em_tree.specs.declared.types.Output.{Output, out-Output}
use Rattle.em_tree.specs.declared.types.Bound.{Bound, out-Bound}
use Rattle.em_tree.specs.declared.types.TypeTree.{TypeTree, out-TypeTree}
use Rattle.em_tree.specs.declared.types.Bound.TheOpen.{Bound-F, Output-F, Path-F, TypeTree-F, Qualified-F}
use Rattle.em_tree.specs.Parts.{literal_parts, path_parts, type_tree_parts, bound_parts}
use Rattle.em_tree.specs.Starts.{kind_of, pieces_of}
use Rattle.em_tree.specs.Tokens.{Is, IsOneOf, Maybe, Each, Commas, Name, IsLiteralToken, IsInt, before_2021}
use Rattle.em_tree.specs.Yields.{piece, whole, as_it_is, opened}

-- ---- yields

abbrev pub literal_pieces : Literal → List Piece
literal_pieces x = literal_parts piece whole as_it_is x

abbrev pub path_pieces : Path → List Piece
path_pieces x = path_parts piece whole as_it_is x

abbrev pub type_pieces : TypeTree → List Piece
type_pieces x = type_tree_parts piece whole as_it_is x

-- ---- literals

-- a literal, where `signed` says that a `-` may stand before it; a group of the kind `literal` is what its pieces are
pub data IsLiteral : (signed : Bool) → Literal → Type 0 where
  token : {signed : Bool} {x : Literal} {t : Token} → out-Literal x ≡ Literal-F.Token t → IsLiteralToken t → IsLiteral signed x
  negative : {x y : Literal} {minus : Token} → out-Literal x ≡ Literal-F.Negative minus y → Is (codes "-") minus → IsLiteral false y → IsLiteral true x
  group : {signed : Bool} {x y : Literal} {g : Group} → out-Literal x ≡ Literal-F.Group g y → kind_of g ≡ f.Literal → pieces_of g ≡ literal_pieces y → IsLiteral signed y → IsLiteral signed x

-- an integer literal without a sign
pub data IsIntLiteral : Literal → Type 0 where
  token : {x : Literal} {t : Token} → out-Literal x ≡ Literal-F.Token t → IsInt t → IsIntLiteral x
  group : {x y : Literal} {g : Group} → out-Literal x ≡ Literal-F.Group g y → kind_of g ≡ f.Literal → pieces_of g ≡ literal_pieces y → IsIntLiteral y → IsIntLiteral x

-- ---- segments

-- a name, `crate`, `self`, `super`, `Self`, or `$crate` (Reference, "Path qualifiers")
abbrev pub NameOrRoot : Option Token → Token → Type 0
NameOrRoot None name = Name name ⊎ IsOneOf (codes "crate" ∷ codes "self" ∷ codes "super" ∷ codes "Self" ∷ []) name
NameOrRoot (Some dollar) name = Is (codes "$") dollar × Is (codes "crate") name

abbrev pub IsSegment : Segment → Type 0
IsSegment s = NameOrRoot s.dollar s.name

abbrev pub IsStep : PathStep → Type 0
IsStep s = Is (codes "::") s.separator × IsSegment s.segment

pub record AreSegments (s : Segments) : Type 0 where
  pub lead : Maybe (Is (codes "::")) s.lead
  pub first : IsSegment s.first
  pub more : Each IsStep s.more

-- ---- paths

-- a path without `<`
pub data IsPlainPath : Path → Type 0 where
  plain : {x : Path} {s : Segments} → out-Path x ≡ Path-F.Plain s → AreSegments s → IsPlainPath x
  group : {x y : Path} {g : Group} → out-Path x ≡ Path-F.Path::Group g y → kind_of g ≡ f.Path → pieces_of g ≡ path_pieces y → IsPlainPath y → IsPlainPath x

-- over what its types are
module _ (Inner : TypeTree → Type 0) where
  pub data IsPath : Path → Type 0 where
    -- `a::b`
    plain : {x : Path} {s : Segments} → out-Path x ≡ Path-F.Plain s → AreSegments s → IsPath x
    -- `<T as Trait>::name`, whose trait is a path without `<` (Reference, "Qualified paths")
    qualified : {x : Path} {q : Qualified} → out-Path x ≡ Path-F.Qualified q → Is (codes "<") (out-Qualified q).open → Inner (out-Qualified q).self_type → Is (codes "as") (out-Qualified q).word
        → IsPlainPath (out-Qualified q).of_trait → Is (codes ">") (out-Qualified q).close → Is (codes "::") (out-Qualified q).separator → Name (out-Qualified q).name → IsPath x
    -- a group adds no node: it counts by the tree that its pieces are
    group : {x y : Path} {g : Group} → out-Path x ≡ Path-F.Path::Group g y → kind_of g ≡ f.Path → pieces_of g ≡ path_pieces y → IsPath y → IsPath x

-- ---- types

-- what a bound begins with behind the word `dyn` of 2015: a path that begins with neither `::` nor `<` (Reference, "Weak
-- keywords"). Before a lifetime, `?`, `for` and `(` it is the keyword too, but no bound of the profile begins so
abbrev pub FollowsDyn : List Piece → Type 0
FollowsDyn [] = ⊥
FollowsDyn (p.Token t ∷ ys) = Name t ⊎ IsOneOf (codes "crate" ∷ codes "self" ∷ codes "super" ∷ codes "Self" ∷ codes "$" ∷ []) t
FollowsDyn (p.Group g ∷ ys) = kind_of g ≡ f.Path

-- the keyword `dyn` before these pieces: from 2018 on always, in 2015, where it is a name, by what follows it
abbrev pub IsDyn : Token → List Piece → Type 0
IsDyn word ys = Is (codes "dyn") word × (Name word → FollowsDyn ys)

-- the first token of pieces with their groups opened is older than 2021
abbrev pub StartsBefore2021 : List Token → Type 0
StartsBefore2021 [] = ⊥
StartsBefore2021 (t ∷ ts) = before_2021 t.edition ≡ true

-- `owes` says that the `>` which closes the type's last part is missing, since a `>>` further on closes two
module _ (Inner Deeper : (owes : Bool) → TypeTree → Type 0) where
  -- how a `Box<T>` ends: by a `>`, by a `>>` that closes `T` too, or by the `>>` of an outer one
  pub data Closes (owes : Bool) (close : Option Token) (x : TypeTree) : Type 0 where
    alone : {t : Token} → close ≡ Some t → Is (codes ">") t → Inner false x → owes ≡ false → Closes owes close x
    with_inner : {t : Token} → close ≡ Some t → Is (codes ">>") t → Inner true x → owes ≡ false → Closes owes close x
    by_outer : close ≡ None → Inner false x → owes ≡ true → Closes owes close x

  pub data IsOutput (owes : Bool) (o : Output) : Type 0 where
    nothing : out-Output o ≡ Output-F.Output::Unit → owes ≡ false → IsOutput owes o
    type : {arrow : Token} {x : TypeTree} → out-Output o ≡ Output-F.Type arrow x → Is (codes "->") arrow → Inner owes x → IsOutput owes o

  -- `Fn(A, B) -> C`, as a bound
  pub record IsCallBound (owes : Bool) (path : Path) (open' : Token) (inputs : List (Listed TypeTree)) (close : Token) (output : Output) : Type 0 where
    pub is_path : IsPath (Inner false) path
    pub opens : Is (codes "(") open'
    pub inside : Commas (Inner false) inputs
    pub closes : Is (codes ")") close
    pub result : IsOutput owes output

  pub data IsBound (owes : Bool) (b : Bound) : Type 0 where
    path : {x : Path} → out-Bound b ≡ Bound-F.Bound::Path x → IsPath (Inner false) x → owes ≡ false → IsBound owes b
    call : {x : Path} {open' close : Token} {inputs : List (Listed TypeTree)} {output : Output} → out-Bound b ≡ Bound-F.Call x open' inputs close output
        → IsCallBound owes x open' inputs close output → IsBound owes b

  -- one node
  pub data TypeNode : Bool → TypeTree → Type 0 where
    path : {x : TypeTree} {y : Path} → out-TypeTree x ≡ TypeTree-F.TypeTree::Path y → IsPath (Inner false) y → TypeNode false x
    boxed : {owes : Bool} {x y : TypeTree} {word open' : Token} {close : Option Token} → out-TypeTree x ≡ TypeTree-F.Boxed word open' y close
        → Is (codes "Box") word → Name word → Is (codes "<") open' → Closes owes close y → TypeNode owes x
    ref : {owes : Bool} {x y : TypeTree} {amp : Token} {word_mut : Option Token} → out-TypeTree x ≡ TypeTree-F.Ref amp word_mut y
        → Is (codes "&") amp → Maybe (Is (codes "mut")) word_mut → Inner owes y → TypeNode owes x
    -- two references, which count as two nodes
    ref_ref : {owes : Bool} {x y : TypeTree} {amps : Token} {word_mut : Option Token} → out-TypeTree x ≡ TypeTree-F.RefRef amps word_mut y
        → Is (codes "&&") amps → Maybe (Is (codes "mut")) word_mut → Deeper owes y → TypeNode owes x
    array : {x y : TypeTree} {open' semi close : Token} {length : Literal} → out-TypeTree x ≡ TypeTree-F.Array open' y semi length close
        → Is (codes "[") open' → Inner false y → Is (codes ";") semi → IsIntLiteral length → Is (codes "]") close → TypeNode false x
    slice : {x y : TypeTree} {open' close : Token} → out-TypeTree x ≡ TypeTree-F.Slice open' y close → Is (codes "[") open' → Inner false y → Is (codes "]") close → TypeNode false x
    unit : {x : TypeTree} {open' close : Token} → out-TypeTree x ≡ TypeTree-F.TypeTree::Unit open' close → Is (codes "(") open' → Is (codes ")") close → TypeNode false x
    dyn : {owes : Bool} {x : TypeTree} {word : Token} {b : Bound} → out-TypeTree x ≡ TypeTree-F.Dyn word b → IsDyn word (bound_parts piece whole as_it_is b) → IsBound owes b → TypeNode owes x
    -- without `dyn` (before 2021); that of a path alone is a path. The word `dyn` of 2015 before a `(` is the keyword, and no path
    bare : {owes : Bool} {x : TypeTree} {b : Bound} {y : Path} {open' close : Token} {inputs : List (Listed TypeTree)} {output : Output} → out-TypeTree x ≡ TypeTree-F.Bare b
        → out-Bound b ≡ Bound-F.Call y open' inputs close output → IsCallBound owes y open' inputs close output
        → StartsBefore2021 (opened (type_pieces x)) → ((t : Token) → path_pieces y ≡ p.Token t ∷ [] → Is (codes "dyn") t → ⊥) → TypeNode owes x
    group : {x y : TypeTree} {g : Group} → out-TypeTree x ≡ TypeTree-F.TypeTree::Group g y → kind_of g ≡ f.Ty → pieces_of g ≡ type_pieces y → TypeNode false y → TypeNode false x

-- the types that nest no deeper than the number. `str` is a path of one name
unfoldable pub IsType : ℕ → Bool → TypeTree → Type 0
IsType zero owes x = ⊥
IsType (suc zero) owes x = TypeNode (λ owes x. ⊥) (λ owes x. ⊥) owes x
IsType (suc (suc depth)) owes x = TypeNode (IsType (suc depth)) (IsType depth) owes x

-- a type that owes nothing, and a path, within a depth
abbrev pub TypeWithin : ℕ → TypeTree → Type 0
TypeWithin depth x = IsType depth false x

abbrev pub PathWithin : ℕ → Path → Type 0
PathWithin depth x = IsPath (TypeWithin depth) x
