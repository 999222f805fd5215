-- Which pieces a matcher matches, and what it binds (Reference, "Macros by example"). Nothing here says how that is found.
use Rattle.std.specs.Prelude.{◌≡◌, ℕ, zero, suc, ◌<◌, nat_eq, ◌&&◌, ◌||◌, ◌⊎◌, Bool, true, false, not, if◌then◌else◌, List, [], ◌∷◌, ◌++◌, length, map, Option, Some, None}
use Rattle.std.specs.Str.{bytes_eq}
use Rattle.em_base.specs.declared.token.Token.{Token}
use Rattle.em_base.specs.declared.token.TokenKind.{TokenKind}
use Rattle.em_base.specs.declared.token.TokenKind.TheVariants as t
use Rattle.em_tree.specs.declared.piece.Piece.TheVariants as p
use Rattle.em_macro.specs.declared.matched.Taken.{Taken}
use Rattle.em_tree.specs.Starts.{Pieces, starts}
use Rattle.em_macro.specs.declared.rules.Specifier.{Specifier}
use Rattle.em_macro.specs.declared.rules.Matcher.{Matcher, out-Matcher}
use Rattle.em_macro.specs.declared.rules.Matcher.TheOpen.{Matcher-F}
use Rattle.em_macro.specs.declared.matched.Bound.{Bound}
use Rattle.em_macro.specs.declared.matched.Bound.TheVariants as b
use Rattle.em_macro.specs.declared.matched.Binding.{Binding}

abbrev pub Name : Type 0
Name = List ℕ

abbrev pub Matchers : Type 0
Matchers = List Matcher

abbrev pub Bindings : Type 0
Bindings = List Binding

-- one node of a matcher
abbrev pub Node : Type 0
Node = Matcher-F Matcher

-- what stands at the front of the pieces: the longest prefix of a kind and what is left; no piece that can start the kind;
-- one that can, and no prefix of the kind; or a prefix that nests too deep
pub data Outcome : Type 0 where
  Takes : Taken → Pieces → Outcome
  CannotStart : Outcome
  NoPrefix : Outcome
  TooDeep : Outcome

-- how fragments are read: the kind with the edition of its word, and the pieces
abbrev pub Reading : Type 0
Reading = Specifier → Pieces → Outcome

-- ---- tokens

abbrev pub same_bool : Bool → Bool → Bool
same_bool true b = b
same_bool false b = not b

-- tokens of a class are told apart by their spelling
abbrev pub class : TokenKind → ℕ
class (t.Ident name raw) = 0
class (t.Lifetime name) = 1
class (t.Int value suffix) = 2
class (t.Char value) = 2
class (t.Byte value) = 2
class (t.Str value) = 2
class (t.ByteStr value) = 2
class t.Open = 3
class t.Close = 4
class t.Punct = 5

-- identifiers are equal where their names are and both or none are raw, other tokens where their spellings are
abbrev pub same_as : TokenKind → List ℕ → TokenKind → List ℕ → Bool
same_as (t.Ident name raw) x (t.Ident other its) y = bytes_eq name other && same_bool raw its
same_as k x l y = nat_eq (class k) (class l) && bytes_eq x y

unfoldable pub same : Token → Token → Bool
same t u = same_as t.kind t.text u.kind u.text

-- whether the next piece is this token
abbrev pub is_next : Token → Pieces → Bool
is_next t [] = false
is_next t (p.Token u ∷ i) = same t u
is_next t (x ∷ i) = false

abbrev pub binding : Name → Bound → Binding
binding n x = record { name = n; bound = x }

-- what a name is bound to
abbrev pub bound_to : Name → Bindings → Bound
bound_to n [] = b.Many []
bound_to n (x ∷ xs) = if bytes_eq n x.name then x.bound else bound_to n xs

-- each variable of a copy is bound to the list of what the copies bind it to
abbrev pub gather : List Name → List Bindings → Bindings
gather [] copies = []
gather (n ∷ ns) copies = binding n (b.Many (map (bound_to n) copies)) ∷ gather ns copies

module _ (inner : Matchers → List Name) where
  abbrev pub names_of : Node → List Name
  names_of (Matcher-F.Token t) = []
  names_of (Matcher-F.Fragment n kind) = n ∷ []
  names_of (Matcher-F.Delimited o body c) = inner body
  names_of (Matcher-F.Repeat body sep plus) = inner body

  abbrev pub names_of_all : Matchers → List Name
  names_of_all [] = []
  names_of_all (m ∷ ms) = names_of (out-Matcher m) ++ names_of_all ms

unfoldable pub names : ℕ → Matchers → List Name
names zero ms = []
names (suc depth) ms = names_of_all (names depth) ms

-- the token stands at the front of the first pieces, the second are behind it
abbrev pub After : Token → Pieces → Pieces → Type 0
After t [] r = ⊥
After t (p.Token u ∷ i) r = (same t u ≡ true) × (i ≡ r)
After t (x ∷ i) r = ⊥

abbrev pub Between : Option Token → Pieces → Pieces → Type 0
Between None i r = i ≡ r
Between (Some s) i r = After s i r

module _ (reads : Reading) (vars : Matchers → List Name) (Inner : Matchers → Pieces → Bindings → Pieces → Type 0) where
  -- at least one copy, with the separator between any two
  abbrev pub Copies : Matchers → Option Token → Pieces → List Bindings → Pieces → Type 0
  Copies body sep i [] r = ⊥
  Copies body sep i (a ∷ []) r = Inner body i a r
  Copies body sep i (a ∷ c ∷ cs) r = (j : Pieces) × (k : Pieces) × Inner body i a j × Between sep j k × Copies body sep k (c ∷ cs) r

  -- one node of a matcher takes the pieces between the first list and the last
  abbrev pub MatchNode : Node → Pieces → Bindings → Pieces → Type 0
  MatchNode (Matcher-F.Token t) i bs r = After t i r × (bs ≡ [])
  MatchNode (Matcher-F.Fragment n kind) i bs r = (f : Taken) × (reads kind i ≡ Takes f r) × (bs ≡ binding n (b.One f) ∷ [])
  MatchNode (Matcher-F.Delimited o body c) i bs r = (j : Pieces) × (k : Pieces) × After o i j × Inner body j bs k × After c k r
  MatchNode (Matcher-F.Repeat body sep plus) i bs r =
      ((plus ≡ false) × (i ≡ r) × (bs ≡ gather (vars body) [])) ⊎ ((cs : List Bindings) × Copies body sep i cs r × (bs ≡ gather (vars body) cs))

  abbrev pub MatchAll : Matchers → Pieces → Bindings → Pieces → Type 0
  MatchAll [] i bs r = (i ≡ r) × (bs ≡ [])
  MatchAll (m ∷ ms) i bs r = (x : Bindings) × (y : Bindings) × (j : Pieces) × MatchNode (out-Matcher m) i x j × MatchAll ms j y r × (bs ≡ x ++ y)

  -- everything before a fragment of this kind matched; the last pieces are left
  module _ (Reach : Matchers → Pieces → Specifier → Pieces → Type 0) where
    abbrev pub BeforeNode : Node → Pieces → Specifier → Pieces → Type 0
    BeforeNode (Matcher-F.Token t) i kind r = ⊥
    BeforeNode (Matcher-F.Fragment n other) i kind r = (other ≡ kind) × (i ≡ r)
    BeforeNode (Matcher-F.Delimited o body c) i kind r = (j : Pieces) × After o i j × Reach body j kind r
    BeforeNode (Matcher-F.Repeat body sep plus) i kind r =
        Reach body i kind r ⊎ ((cs : List Bindings) × (j : Pieces) × (k : Pieces) × Copies body sep i cs j × Between sep j k × Reach body k kind r)

    abbrev pub BeforeAll : Matchers → Pieces → Specifier → Pieces → Type 0
    BeforeAll [] i kind r = ⊥
    BeforeAll (m ∷ ms) i kind r =
        BeforeNode (out-Matcher m) i kind r ⊎ ((x : Bindings) × (j : Pieces) × MatchNode (out-Matcher m) i x j × BeforeAll ms j kind r)

module _ (reads : Reading) where
  -- the matcher, nested no deeper than the number, matches the pieces before the last
  unfoldable pub Match : ℕ → Matchers → Pieces → Bindings → Pieces → Type 0
  Match zero ms i bs r = ⊥
  Match (suc depth) ms i bs r = MatchAll reads (names depth) (Match depth) ms i bs r

  unfoldable pub Before : ℕ → Matchers → Pieces → Specifier → Pieces → Type 0
  Before zero ms i kind r = ⊥
  Before (suc depth) ms i kind r = BeforeAll reads (names depth) (Match depth) (Before depth) ms i kind r

  -- the arm is broken, or too deep
  abbrev pub Stops : Outcome → ℕ → Matchers → Pieces → Type 0
  Stops out depth ms i = (kind : Specifier) × (r : Pieces) × Before depth ms i kind r × (reads kind r ≡ out)

-- ---- what a matcher can start with, and which matchers are decidable with one piece

-- the next piece can start a fragment
abbrev pub starts_at : Specifier → Pieces → Bool
starts_at kind i = starts kind.kind kind.edition i

abbrev pub is_sep : Option Token → Pieces → Bool
is_sep None i = false
is_sep (Some s) i = is_next s i

module _ (inner : Matchers → Bool) where
  abbrev pub empty_node : Node → Bool
  empty_node (Matcher-F.Token t) = false
  empty_node (Matcher-F.Fragment n kind) = false
  empty_node (Matcher-F.Delimited o body c) = false
  empty_node (Matcher-F.Repeat body sep plus) = if plus then inner body else true

  abbrev pub empty_all : Matchers → Bool
  empty_all [] = true
  empty_all (m ∷ ms) = empty_node (out-Matcher m) && empty_all ms

-- whether it can match nothing
unfoldable pub can_be_empty : ℕ → Matchers → Bool
can_be_empty zero ms = false
can_be_empty (suc depth) ms = empty_all (can_be_empty depth) ms

module _ (empty : Matchers → Bool) (inner : Matchers → Pieces → Bool) where
  abbrev pub first_node : Node → Pieces → Bool
  first_node (Matcher-F.Token t) i = is_next t i
  first_node (Matcher-F.Fragment n kind) i = starts_at kind i
  first_node (Matcher-F.Delimited o body c) i = is_next o i
  first_node (Matcher-F.Repeat body sep plus) i = inner body i || (empty body && is_sep sep i)

  abbrev pub first_all : Matchers → Pieces → Bool
  first_all [] i = false
  first_all (m ∷ ms) i = first_node (out-Matcher m) i || (empty_node empty (out-Matcher m) && first_all ms i)

-- whether the next piece can be the first of a match
unfoldable pub first : ℕ → Matchers → Pieces → Bool
first zero ms i = false
first (suc depth) ms i = first_all (can_be_empty depth) (first depth) ms i

-- no piece is in both
abbrev pub Disjoint : (Pieces → Bool) → (Pieces → Bool) → Type 0
Disjoint f g = (i : Pieces) → f i ≡ true → g i ≡ true → ⊥

-- what continues a repetition after a copy
abbrev pub continues : (Pieces → Bool) → Option Token → Pieces → Bool
continues starts None i = starts i
continues starts (Some s) i = is_next s i

-- a copy isn't empty, unless there is at least one and a separator
abbrev pub Solid : Option Token → Bool → Bool → Type 0
Solid (Some s) true empty = Unit {0}
Solid (Some s) false empty = empty ≡ false
Solid None plus empty = empty ≡ false

module _ (first_in : Matchers → Pieces → Bool) (empty_in : Matchers → Bool) (Inner : Matchers → (Pieces → Bool) → Type 0) where
  -- what follows is `follow`
  abbrev pub DecidableNode : Node → (Pieces → Bool) → Type 0
  DecidableNode (Matcher-F.Token t) follow = Unit {0}
  DecidableNode (Matcher-F.Fragment n kind) follow = Unit {0}
  DecidableNode (Matcher-F.Delimited o body c) follow = Inner body (is_next c)
  DecidableNode (Matcher-F.Repeat body sep plus) follow =
      Inner body (λ i. continues (first_in body) sep i || follow i) × Disjoint (continues (first_in body) sep) follow
      × (plus ≡ false → Disjoint (first_in body) follow) × Solid sep plus (empty_in body)

  abbrev pub DecidableAll : Matchers → (Pieces → Bool) → Type 0
  DecidableAll [] follow = Unit {0}
  DecidableAll (m ∷ ms) follow = DecidableNode (out-Matcher m) (λ i. first_all empty_in first_in ms i || (empty_all empty_in ms && follow i)) × DecidableAll ms follow

-- the matcher is decidable with one piece, where what follows it is `follow`
unfoldable pub Decidable : ℕ → Matchers → (Pieces → Bool) → Type 0
Decidable zero ms follow = Unit {0}
Decidable (suc depth) ms follow = DecidableAll (first depth) (can_be_empty depth) (Decidable depth) ms follow

-- nothing follows an arm
abbrev pub at_end : Pieces → Bool
at_end [] = true
at_end (x ∷ i) = false

-- a matcher, and what its delimiters and repetitions hold, which nest 200 deep
abbrev pub levels : ℕ
levels = 201

-- ---- what the reading of fragments owes

-- a fragment is never empty
abbrev pub NeverEmpty : Reading → Type 0
NeverEmpty reads = (kind : Specifier) (i r : Pieces) (f : Taken) → reads kind i ≡ Takes f r → length r < length i

-- where the next piece starts none of a kind, no fragment of the kind is read, and it isn't broken either; elsewhere it is read or broken
abbrev pub cannot_start : Outcome → Bool
cannot_start (Takes f r) = false
cannot_start CannotStart = true
cannot_start NoPrefix = false
cannot_start TooDeep = false

abbrev pub Starting : Reading → Type 0
Starting reads = (kind : Specifier) (i : Pieces) → starts_at kind i ≡ not (cannot_start (reads kind i))

abbrev pub Owes : Reading → Type 0
Owes reads = NeverEmpty reads × Starting reads
