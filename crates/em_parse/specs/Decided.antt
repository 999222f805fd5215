-- That the answers exclude one another.
use Rattle.std.specs.Prelude.{◌≡◌, ℕ, false, List, []}
use Rattle.em_base.specs.declared.edition.Edition.{Edition}
use Rattle.em_base.specs.declared.token.Token.{Token}
use Rattle.em_tree.specs.declared.expr.Body.{Body}
use Rattle.em_tree.specs.declared.fragment.Fragment.{Fragment}
use Rattle.em_tree.specs.declared.item.FileTree.{FileTree}
use Rattle.em_tree.specs.declared.item.Item.{Item}
use Rattle.em_tree.specs.declared.piece.FragmentKind.{FragmentKind}
use Rattle.em_tree.specs.Starts.{Pieces, starts}
use Rattle.em_grammar.specs.Sets.{Inside, Nested}
use Rattle.em_parse.specs.Calls.{most, AreItems, AreNoItems, AreDeepItems, IsWhole, NoItemAt, DeepItemAt, IsWholeBody, IsDeepBody, IsNoBody, IsLongest, IsBroken, IsDeepFragment}

-- of pieces in which fragments stand in one another no more often than the limit
pub record ItemsDecided (i : Pieces) : Type 0 where
  pub one : (xs ys : List Item) → AreItems i xs [] → AreItems i ys [] → xs ≡ ys
  pub not_broken : (xs : List Item) → AreItems i xs [] → AreNoItems i → ⊥
  pub not_deep : (xs : List Item) → AreItems i xs [] → AreDeepItems i → ⊥
  pub either : AreNoItems i → AreDeepItems i → ⊥

abbrev pub ListsAreDecided : Type 0
ListsAreDecided = (i : Pieces) → Inside (Nested most) i → ItemsDecided i

-- of the tokens of a file
pub record FileDecided (tokens : List Token) : Type 0 where
  pub one : (x y : FileTree) → IsWhole tokens x → IsWhole tokens y → x ≡ y
  pub no_item : (x : FileTree) (offset : ℕ) → IsWhole tokens x → NoItemAt tokens offset → ⊥
  pub not_deep : (x : FileTree) (offset : ℕ) → IsWhole tokens x → DeepItemAt tokens offset → ⊥
  pub either : (offset other : ℕ) → NoItemAt tokens offset → DeepItemAt tokens other → ⊥
  pub once : (offset other : ℕ) → NoItemAt tokens offset → NoItemAt tokens other → offset ≡ other
  pub deep_once : (offset other : ℕ) → DeepItemAt tokens offset → DeepItemAt tokens other → offset ≡ other

abbrev pub FilesAreDecided : Type 0
FilesAreDecided = (tokens : List Token) → FileDecided tokens

-- of any pieces
pub record BodyDecided (i : Pieces) : Type 0 where
  pub one : (x y : Body) → IsWholeBody i x → IsWholeBody i y → x ≡ y
  pub not_broken : (x : Body) → IsWholeBody i x → IsNoBody i → ⊥
  pub not_deep : (x : Body) → IsWholeBody i x → IsDeepBody i → ⊥
  pub either : IsNoBody i → IsDeepBody i → ⊥

abbrev pub BodiesAreDecided : Type 0
BodiesAreDecided = (i : Pieces) → BodyDecided i

-- of any pieces
pub record FragmentDecided (kind : FragmentKind) (edition : Edition) (i : Pieces) : Type 0 where
  pub one : (x y : Fragment) → IsLongest kind edition i x → IsLongest kind edition i y → x ≡ y
  pub can_start : (x : Fragment) → IsLongest kind edition i x → starts kind edition i ≡ false → ⊥
  pub not_broken : (x : Fragment) → IsLongest kind edition i x → IsBroken kind edition i → ⊥
  pub not_deep : (x : Fragment) → IsLongest kind edition i x → IsDeepFragment kind edition i → ⊥
  pub starts_not_broken : starts kind edition i ≡ false → IsBroken kind edition i → ⊥
  pub starts_not_deep : starts kind edition i ≡ false → IsDeepFragment kind edition i → ⊥
  pub either : IsBroken kind edition i → IsDeepFragment kind edition i → ⊥

abbrev pub FragmentsAreDecided : Type 0
FragmentsAreDecided = (kind : FragmentKind) (edition : Edition) (i : Pieces) → FragmentDecided kind edition i
