-- How types are read. `may` says that the `>` which closes the last part may be missing, since a `>>` behind it closes two. What is
-- read tells whether it is missing.
use Rattle.std.specs.Prelude.{ℕ, zero, suc, Bool, true, false, not, ◌&&◌, ◌||◌, if◌then◌else◌, List, [], ◌∷◌, Option, Some, None}
use Rattle.em_base.specs.declared.token.Token.{Token}
use Rattle.em_tree.specs.declared.parts.Listed.{Listed}
use Rattle.em_tree.specs.declared.piece.FragmentKind.{FragmentKind}
use Rattle.em_tree.specs.declared.piece.FragmentKind.TheVariants as fk
use Rattle.em_tree.specs.declared.piece.Group.{Group}
use Rattle.em_tree.specs.declared.literal.Literal.{Literal}
use Rattle.em_tree.specs.declared.types.PathStep.{PathStep}
use Rattle.em_tree.specs.declared.types.Path.{Path, out-Path}
use Rattle.em_tree.specs.declared.types.Output.{Output}
use Rattle.em_tree.specs.declared.types.Output.TheVariants as output
use Rattle.em_tree.specs.declared.types.Bound.{Bound}
use Rattle.em_tree.specs.declared.types.Bound.TheVariants as bound
use Rattle.em_tree.specs.declared.types.Bound.TheOpen.{Path-F}
use Rattle.em_tree.specs.declared.types.Qualified.{Qualified}
use Rattle.em_tree.specs.declared.types.TypeTree.{TypeTree}
use Rattle.em_tree.specs.declared.types.TypeTree.TheVariants as ty
use Rattle.em_tree.specs.Starts.{Pieces, kind_of}
use Rattle.em_tree.specs.Tokens.{before_2021}
use Rattle.em_tree.specs.Yields.{opened}
use Rattle.em_tree.specs.PathGrammar.{path_pieces}
use Rattle.em_grammar.specs.declared.sort.Weak.{Weak}
use Rattle.em_grammar.specs.declared.sort.Weak.TheVariants as weak
use Rattle.em_grammar.specs.declared.sort.Written.TheVariants as word
use Rattle.em_grammar.specs.declared.sort.Sort.{Sort}
use Rattle.em_grammar.specs.Sorts.{sort_of}
use Rattle.em_grammar.specs.Sets.{Set, next, either, tokens, groups, others, only, is_sign, any_of, name_sort, weak_is, dyn_sort}
use Rattle.em_grammar.specs.Lang.{Sum, one, two}
use Rattle.em_grammar.specs.Reader.{Read, Found, Absent, Deep, token, seq, chain, mapped, choice, opt, or_else, when, list_of, group}
use Rattle.em_grammar.specs.LiteralReader.{int_in}
use Rattle.em_grammar.specs.PathReader.{path_kind, path_first, plain_path_in, path_node}

-- ---- what types begin with, and what may follow them

abbrev pub type_kind : FragmentKind → Bool
type_kind fk.Ty = true
type_kind _ = false

abbrev pub is_type_group : Group → Bool
is_type_group g = type_kind (kind_of g)

abbrev pub node_first : Set
node_first =
    either (tokens (only word.And)) (either (tokens (only word.AndAnd)) (either (tokens (only word.OpenBracket)) (either (tokens (only word.OpenParen))
    (either (tokens dyn_sort) path_first))))

abbrev pub type_first : Set
type_first = either node_first (groups type_kind)

-- behind the `dyn` of 2015 these begin a bound
abbrev pub dyn_follow_sort : Sort → Bool
dyn_follow_sort s = name_sort s || any_of (word.Crate ∷ word.SelfValue ∷ word.Super ∷ word.SelfType ∷ word.Dollar ∷ []) s

abbrev pub dyn_follow : Set
dyn_follow = either (tokens dyn_follow_sort) (groups path_kind)

-- what no type goes on with
abbrev pub type_clear : Set
type_clear = others (either (tokens (λ s. any_of (word.PathSep ∷ word.Lt ∷ word.OpenParen ∷ word.RArrow ∷ []) s)) dyn_follow)

-- behind a type that owes its `>`, the `>>`
abbrev pub clear_by : Bool → Set
clear_by true = tokens (only word.Shr)
clear_by false = type_clear

-- ---- paths of one name

abbrev pub alone_segments : Option Token → Option Token → Token → List PathStep → Option Token
alone_segments None None name [] = Some name
alone_segments _ _ name _ = None

abbrev pub alone_layer : Path-F Bound Output Path TypeTree Qualified → Option Token
alone_layer (Path-F.Plain s) = alone_segments s.lead s.first.dollar s.first.name s.more
alone_layer _ = None

-- the token of a path of one token
unfoldable pub alone : Path → Option Token
alone x = alone_layer (out-Path x)

-- a path of this one word
abbrev pub is_lone : Weak → Option Token → Bool
is_lone x None = false
is_lone x (Some t) = weak_is x (sort_of t)

-- ---- bounds without `dyn`

abbrev pub starts_old : List Token → Bool
starts_old [] = false
starts_old (t ∷ ts) = before_2021 t.edition

-- a path that begins before 2021, and isn't the word `dyn` alone
unfoldable pub callable : Path → Bool
callable x = not (is_lone weak.Dyn (alone x)) && starts_old (opened (path_pieces x))

-- ---- what stands behind the path that a type begins with

pub data Suffix : Type 0 where
  nothing : Suffix
  -- of `Box`
  angle : Token → TypeTree → Option Token → Suffix
  -- of the `dyn` of 2015
  object : Bound → Suffix
  call : Token → List (Listed TypeTree) → Token → Output → Suffix

abbrev pub CallParts : Type 0
CallParts = Token × (List (Listed TypeTree) × (Token × (Output × Bool)))

abbrev pub angle_of : Token × ((TypeTree × Bool) × (Option Token × Bool)) → Suffix × Bool
angle_of t = (angle t.0 t.1.0.0 t.1.1.0, t.1.1.1)

abbrev pub object_of : Bound × Bool → Suffix × Bool
object_of t = (object t.0, t.1)

abbrev pub call_of : CallParts → Suffix × Bool
call_of t = (call t.0 t.1.0 t.1.1.0 t.1.1.1.0, t.1.1.1.1)

abbrev pub or_nothing : Option (Suffix × Bool) → Suffix × Bool
or_nothing None = (nothing, false)
or_nothing (Some t) = t

abbrev pub output_of : Option (Token × (TypeTree × Bool)) → Output × Bool
output_of None = (output.Unit, false)
output_of (Some t) = (output.Type t.0 t.1.0, t.1.1)

abbrev pub bound_of : Path × Option CallParts → Bound × Bool
bound_of t = elim t.1 [ None ↦ (bound.Path t.0, false) | Some c ↦ (bound.Call t.0 c.0 c.1.0 c.1.1.0 c.1.1.1.0, c.1.1.1.1) ]

-- the type of a path and what stands behind it
abbrev pub with_suffix : Suffix → Option Token → Path → TypeTree
with_suffix nothing w x = ty.Path x
with_suffix (angle o y c) (Some w) x = ty.Boxed w o y c
with_suffix (angle o y c) None x = ty.Path x
with_suffix (object b) (Some w) x = ty.Dyn w b
with_suffix (object b) None x = ty.Path x
with_suffix (call o i c out) w x = ty.Bare (bound.Call x o i c out)

abbrev pub path_type_of : Path × (Suffix × Bool) → TypeTree × Bool
path_type_of t = (with_suffix t.1.0 (alone t.0) t.0, t.1.1)

-- ---- other types

abbrev pub ref_of : Token × (Option Token × (TypeTree × Bool)) → TypeTree × Bool
ref_of t = (ty.Ref t.0 t.1.0 t.1.1.0, t.1.1.1)

abbrev pub ref_ref_of : Token × (Option Token × (TypeTree × Bool)) → TypeTree × Bool
ref_ref_of t = (ty.RefRef t.0 t.1.0 t.1.1.0, t.1.1.1)

-- behind the element of a slice, and of an array
abbrev pub Bracket : Type 0
Bracket = Sum Token (Token × (Literal × Token))

abbrev pub in_brackets : Token → TypeTree → Bracket → TypeTree
in_brackets o x (one c) = ty.Slice o x c
in_brackets o x (two t) = ty.Array o x t.0 t.1.0 t.1.1

abbrev pub bracket_of : Token × (TypeTree × Bracket) → TypeTree × Bool
bracket_of t = (in_brackets t.0 t.1.0 t.1.1, false)

abbrev pub unit_of : Token × Token → TypeTree × Bool
unit_of t = (ty.Unit t.0 t.1, false)

abbrev pub dyn_of : Token × (Bound × Bool) → TypeTree × Bool
dyn_of t = (ty.Dyn t.0 t.1.0, t.1.1)

abbrev pub type_group_of : Group × TypeTree → TypeTree × Bool
type_group_of t = (ty.Group t.0 t.1, false)

abbrev pub tree_of : TypeTree × Bool → TypeTree
tree_of t = t.0

-- ---- readers

abbrev pub closed : Token → Option Token × Bool
closed t = (Some t, false)

-- what closes a `Box<T`, where the flags say that it may owe its `>`, and that `T` does
abbrev pub closing : Bool → Bool → Pieces → Read (Option Token × Bool)
closing may true i = mapped closed (token (is_sign word.Shr)) i
closing may false i = if may && next (tokens (only word.Shr)) i then Found (None, true) i else mapped closed (token (is_sign word.Gt)) i

-- types in here and one node deeper, and paths
module _ (inner : Bool → Pieces → Read (TypeTree × Bool)) (path : Pieces → Read Path) where
  -- a type that owes nothing
  abbrev pub plain_type : Pieces → Read TypeTree
  plain_type = mapped tree_of (inner false)

  abbrev pub angle_suffix : Bool → Pieces → Read (Suffix × Bool)
  angle_suffix may = mapped angle_of (seq (token (is_sign word.Lt)) (chain (inner true) (λ t. closing may t.1)))

  abbrev pub output_part : Bool → Pieces → Read (Output × Bool)
  output_part may = mapped output_of (opt (seq (token (is_sign word.RArrow)) (inner may)))

  abbrev pub call_parts : Bool → Pieces → Read CallParts
  call_parts may = seq (token (is_sign word.OpenParen)) (seq (list_of plain_type) (seq (token (is_sign word.CloseParen)) (output_part may)))

  unfoldable pub bound_node : Bool → Pieces → Read (Bound × Bool)
  bound_node may i = mapped bound_of (seq path (opt (call_parts may))) i

  abbrev pub object_suffix : Bool → Pieces → Read (Suffix × Bool)
  object_suffix may = mapped object_of (choice dyn_follow (bound_node may) (λ i. Absent))

  abbrev pub call_suffix : Bool → Pieces → Read (Suffix × Bool)
  call_suffix may = mapped call_of (call_parts may)

  abbrev pub suffix : Bool → Path → Pieces → Read (Suffix × Bool)
  suffix may x =
      or_else (when (is_lone weak.Box (alone x)) (angle_suffix may))
      (or_else (when (is_lone weak.Dyn (alone x)) (object_suffix may)) (mapped or_nothing (opt (when (callable x) (call_suffix may)))))

  unfoldable pub path_type : Bool → Pieces → Read (TypeTree × Bool)
  path_type may i = mapped path_type_of (chain path (λ x. suffix may x)) i

abbrev pub ref : (Pieces → Read (TypeTree × Bool)) → Pieces → Read (TypeTree × Bool)
ref inner = mapped ref_of (seq (token (is_sign word.And)) (seq (opt (token (is_sign word.Mut))) inner))

abbrev pub ref_ref : (Pieces → Read (TypeTree × Bool)) → Pieces → Read (TypeTree × Bool)
ref_ref deeper = mapped ref_ref_of (seq (token (is_sign word.AndAnd)) (seq (opt (token (is_sign word.Mut))) deeper))

abbrev pub after_element : ℕ → Pieces → Read Bracket
after_element n =
    choice (tokens (only word.CloseBracket)) (mapped one (token (is_sign word.CloseBracket)))
    (mapped two (seq (token (is_sign word.Semi)) (seq (int_in n) (token (is_sign word.CloseBracket)))))

abbrev pub bracket : ℕ → (Pieces → Read TypeTree) → Pieces → Read (TypeTree × Bool)
bracket n element = mapped bracket_of (seq (token (is_sign word.OpenBracket)) (seq element (after_element n)))

abbrev pub unit : Pieces → Read (TypeTree × Bool)
unit = mapped unit_of (seq (token (is_sign word.OpenParen)) (token (is_sign word.CloseParen)))

abbrev pub dyn : (Pieces → Read (Bound × Bool)) → Pieces → Read (TypeTree × Bool)
dyn bound = mapped dyn_of (seq (token (λ t. dyn_sort (sort_of t))) bound)

abbrev pub type_group : (Pieces → Read TypeTree) → Pieces → Read (TypeTree × Bool)
type_group opened = mapped type_group_of (group is_type_group opened)

-- by the first piece
module _ (n : ℕ) (inner deeper : Bool → Pieces → Read (TypeTree × Bool)) (path : Pieces → Read Path) where
  unfoldable pub type_token : Bool → Pieces → Read (TypeTree × Bool)
  type_token may i =
      choice (tokens (only word.And)) (ref (inner may)) (choice (tokens (only word.AndAnd)) (ref_ref (deeper may)) (choice (tokens (only word.OpenBracket)) (bracket n (plain_type inner path))
      (choice (tokens (only word.OpenParen)) unit (choice (tokens dyn_sort) (dyn (bound_node inner path may)) (path_type inner path may))))) i

  unfoldable pub type_node : (Pieces → Read TypeTree) → Bool → Pieces → Read (TypeTree × Bool)
  type_node opened may i = choice node_first (type_token may) (type_group opened) i

-- ---- depths and groups

-- a path, whose types are read by `inner`
abbrev pub path_over : ℕ → (Bool → Pieces → Read (TypeTree × Bool)) → (Pieces → Read Path) → Pieces → Read Path
path_over n inner opened = path_node (mapped tree_of (inner false)) (plain_path_in n) opened

-- types that nest no deeper than the number, where the pieces of groups are read by `types` and `paths`
unfoldable pub type_by : ℕ → (ℕ → Pieces → Read TypeTree) → (ℕ → Pieces → Read Path) → ℕ → Bool → Pieces → Read (TypeTree × Bool)
type_by n types paths zero may i = if next type_first i then Deep else Absent
type_by n types paths (suc zero) may i =
    type_node n (type_by n types paths zero) (type_by n types paths zero) (path_over n (type_by n types paths zero) (paths zero)) (types (suc zero)) may i
type_by n types paths (suc (suc depth)) may i =
    type_node n (type_by n types paths (suc depth)) (type_by n types paths depth) (path_over n (type_by n types paths (suc depth)) (paths (suc depth))) (types (suc (suc depth))) may i

pub record Readers : Type 0 where
  pub types : ℕ → Bool → Pieces → Read (TypeTree × Bool)
  pub paths : ℕ → Pieces → Read Path

-- groups in one another up to the number
unfoldable pub readers_in : ℕ → Readers
readers_in zero = record {
  types = type_by 0 (λ depth i. Deep) (λ depth i. Deep);
  paths = λ depth. path_over 0 (type_by 0 (λ depth i. Deep) (λ depth i. Deep) depth) (λ i. Deep);
}
readers_in (suc n) = record {
  types = type_by (suc n) (λ depth. mapped tree_of ((readers_in n).types depth false)) (readers_in n).paths;
  paths = λ depth. path_over (suc n) (type_by (suc n) (λ depth. mapped tree_of ((readers_in n).types depth false)) (readers_in n).paths depth) ((readers_in n).paths depth);
}

-- a type, with groups in one another and nodes in one another up to these numbers
abbrev pub type_in : ℕ → ℕ → Bool → Pieces → Read (TypeTree × Bool)
type_in n depth may = (readers_in n).types depth may

abbrev pub path_in : ℕ → ℕ → Pieces → Read Path
path_in n depth = (readers_in n).paths depth

-- a type that owes nothing
abbrev pub plain_type_in : ℕ → ℕ → Pieces → Read TypeTree
plain_type_in n depth = mapped tree_of (type_in n depth false)
