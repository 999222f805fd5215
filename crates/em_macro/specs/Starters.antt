-- First and following sets as lists, and the tests that the code makes with them.
use Rattle.std.specs.Prelude.{ℕ, zero, suc, ◌&&◌, ◌||◌, Bool, true, false, not, List, [], ◌∷◌, ◌++◌, Option, Some, None}
use Rattle.em_base.specs.declared.edition.Edition.TheVariants.{E2015}
use Rattle.em_base.specs.declared.token.Token.{Token}
use Rattle.em_tree.specs.declared.piece.FragmentKind.{FragmentKind}
use Rattle.em_tree.specs.declared.piece.FragmentKind.TheVariants as f
use Rattle.em_tree.specs.Starts.{Pieces, starts_token, is_name, is_close}
use Rattle.em_macro.specs.declared.rules.Specifier.{Specifier}
use Rattle.em_macro.specs.declared.rules.Matcher.{out-Matcher}
use Rattle.em_macro.specs.declared.rules.Matcher.TheOpen.{Matcher-F}
use Rattle.em_macro.specs.declared.starters.Starter.{Starter}
use Rattle.em_macro.specs.declared.starters.Starter.TheVariants as s
use Rattle.em_macro.specs.Match.{Matchers, Node, same, is_next, starts_at, at_end, empty_node, empty_all, can_be_empty}
use Rattle.em_macro.specs.Sound.{token_follows, is_block}

abbrev pub Starters : Type 0
Starters = List Starter

abbrev pub begins : Starter → Pieces → Bool
begins (s.Next t) i = is_next t i
begins (s.Begins kind) i = starts_at kind i
begins s.End i = at_end i

abbrev pub begins_any : Starters → Pieces → Bool
begins_any [] i = false
begins_any (x ∷ xs) i = begins x i || begins_any xs i

-- ---- whether two starters have pieces in common

-- an identifier that is a name in some edition
abbrev pub is_old_name : Token → Bool
is_old_name t = is_name (record t { edition = E2015 })

-- fragments that start with each name
abbrev pub starts_name : FragmentKind → Bool
starts_name f.Literal = false
starts_name f.Block = false
starts_name _ = true

-- fragments that start with `true`
abbrev pub starts_true : FragmentKind → Bool
starts_true f.Block = false
starts_true f.Ty = false
starts_true _ = true

-- fragments that start with `{`
abbrev pub starts_brace : FragmentKind → Bool
starts_brace f.Tt = true
starts_brace f.Block = true
starts_brace f.Expr = true
starts_brace f.Stmt = true
starts_brace f.Item = true
starts_brace _ = false

abbrev pub kinds_meet : FragmentKind → FragmentKind → Bool
kinds_meet k l = (starts_name k && starts_name l) || ((starts_true k && starts_true l) || (starts_brace k && starts_brace l))

-- a token of this one's spelling starts the fragment, whatever its edition
abbrev pub token_meets : Token → Specifier → Bool
token_meets t k = starts_token k.kind k.edition t || (is_old_name t && starts_name k.kind)

abbrev pub overlaps : Starter → Starter → Bool
overlaps (s.Next t) (s.Next u) = same t u
overlaps (s.Next t) (s.Begins l) = token_meets t l
overlaps (s.Next t) s.End = false
overlaps (s.Begins k) (s.Next u) = token_meets u k
overlaps (s.Begins k) (s.Begins l) = kinds_meet k.kind l.kind
overlaps (s.Begins k) s.End = false
overlaps s.End (s.Next u) = false
overlaps s.End (s.Begins l) = false
overlaps s.End s.End = true

abbrev pub apart_from : Starter → Starters → Bool
apart_from x [] = true
apart_from x (y ∷ ys) = not (overlaps x y) && apart_from x ys

abbrev pub apart : Starters → Starters → Bool
apart [] ys = true
apart (x ∷ xs) ys = apart_from x ys && apart xs ys

-- ---- whether what follows a fragment may follow it

-- whether everything may follow, a block alone, or no fragment
abbrev pub kind_follows : FragmentKind → FragmentKind → Bool
kind_follows f.Expr l = false
kind_follows f.Stmt l = false
kind_follows f.Ty l = is_block l
kind_follows f.Path l = is_block l
kind_follows f.Pat l = false
kind_follows f.PatParam l = false
kind_follows _ l = true

abbrev pub follows : Specifier → Starter → Bool
follows kind (s.Next t) = is_close t || token_follows kind.kind kind.edition t
follows kind (s.Begins l) = kind_follows kind.kind l.kind
follows kind s.End = true

abbrev pub all_follow : Specifier → Starters → Bool
all_follow kind [] = true
all_follow kind (x ∷ xs) = follows kind x && all_follow kind xs

-- ---- what can stand first

abbrev pub when : Bool → Starters → Starters
when true xs = xs
when false xs = []

abbrev pub sep_list : Option Token → Starters
sep_list None = []
sep_list (Some t) = s.Next t ∷ []

abbrev pub continuing : Starters → Option Token → Starters
continuing xs None = xs
continuing xs (Some t) = s.Next t ∷ []

module _ (empty : Matchers → Bool) (inner : Matchers → Starters) where
  abbrev pub firsts_node : Node → Starters
  firsts_node (Matcher-F.Token t) = s.Next t ∷ []
  firsts_node (Matcher-F.Fragment n kind) = s.Begins kind ∷ []
  firsts_node (Matcher-F.Delimited o body c) = s.Next o ∷ []
  firsts_node (Matcher-F.Repeat body sep plus) = inner body ++ when (empty body) (sep_list sep)

  abbrev pub firsts_all : Matchers → Starters
  firsts_all [] = []
  firsts_all (m ∷ ms) = firsts_node (out-Matcher m) ++ when (empty_node empty (out-Matcher m)) (firsts_all ms)

unfoldable pub firsts : ℕ → Matchers → Starters
firsts zero ms = []
firsts (suc depth) ms = firsts_all (can_be_empty depth) (firsts depth) ms

-- ---- the tests

abbrev pub is_solid : Option Token → Bool → Bool → Bool
is_solid (Some t) true empty = true
is_solid (Some t) false empty = not empty
is_solid None plus empty = not empty

module _ (firsts_in : Matchers → Starters) (empty_in : Matchers → Bool) (inner : Matchers → Starters → Bool) where
  abbrev pub decides_node : Node → Starters → Bool
  decides_node (Matcher-F.Token t) follow = true
  decides_node (Matcher-F.Fragment n kind) follow = true
  decides_node (Matcher-F.Delimited o body c) follow = inner body (s.Next c ∷ [])
  decides_node (Matcher-F.Repeat body sep plus) follow =
      apart (continuing (firsts_in body) sep) follow && ((plus || apart (firsts_in body) follow)
      && (is_solid sep plus (empty_in body) && inner body (continuing (firsts_in body) sep ++ follow)))

  abbrev pub decides_all : Matchers → Starters → Bool
  decides_all [] follow = true
  decides_all (m ∷ ms) follow =
      decides_node (out-Matcher m) (firsts_all empty_in firsts_in ms ++ when (empty_all empty_in ms) follow) && decides_all ms follow

unfoldable pub decides : ℕ → Matchers → Starters → Bool
decides zero ms follow = true
decides (suc depth) ms follow = decides_all (firsts depth) (can_be_empty depth) (decides depth) ms follow

module _ (inner : Matchers → Starters → Bool) where
  abbrev pub followed_node : Node → Starters → Bool
  followed_node (Matcher-F.Token t) follow = true
  followed_node (Matcher-F.Fragment n kind) follow = all_follow kind follow
  followed_node (Matcher-F.Delimited o body c) follow = inner body (s.Next c ∷ [])
  followed_node (Matcher-F.Repeat body sep plus) follow = inner body (sep_list sep ++ follow)

module _ (firsts_in : Matchers → Starters) (empty_in : Matchers → Bool) (inner : Matchers → Starters → Bool) where
  abbrev pub followed_all : Matchers → Starters → Bool
  followed_all [] follow = true
  followed_all (m ∷ ms) follow =
      followed_node inner (out-Matcher m) (firsts_all empty_in firsts_in ms ++ when (empty_all empty_in ms) follow) && followed_all ms follow

unfoldable pub followed : ℕ → Matchers → Starters → Bool
followed zero ms follow = true
followed (suc depth) ms follow = followed_all (firsts depth) (can_be_empty depth) (followed depth) ms follow
