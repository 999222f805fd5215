-- How a matcher is matched in one pass: the steps that the code takes.
use Rattle.std.specs.Prelude.{ℕ, zero, suc, ◌||◌, Bool, if◌then◌else◌, List, [], ◌∷◌, ◌++◌, length, Option, Some, None}
use Rattle.em_base.specs.declared.token.Token.{Token}
use Rattle.em_tree.specs.declared.piece.Piece.TheVariants as p
use Rattle.em_macro.specs.declared.rules.Matcher.{out-Matcher}
use Rattle.em_macro.specs.declared.rules.Matcher.TheOpen.{Matcher-F}
use Rattle.em_macro.specs.declared.matched.Bound.TheVariants as b
use Rattle.em_tree.specs.Starts.{Pieces}
use Rattle.em_macro.specs.Match.{Name, Reading, Matchers, Bindings, Node, Outcome, Takes, CannotStart, NoPrefix, TooDeep, same, binding, gather, names, first, continues}

pub data Out (T : Type 0) : Type 0 where
  Done : T → Pieces → Out T
  Fails : Out T
  Breaks : Out T
  Deep : Out T

abbrev pub and_then : {A B : Type 0} → Out A → (A → Pieces → Out B) → Out B
and_then (Done a r) f = f a r
and_then Fails f = Fails
and_then Breaks f = Breaks
and_then Deep f = Deep

abbrev pub token : Token → Pieces → Out (Unit {0})
token t [] = Fails
token t (p.Token u ∷ i) = if same t u then Done tt i else Fails
token t (x ∷ i) = Fails

abbrev pub fragment : Name → Outcome → Out Bindings
fragment n (Takes f r) = Done (binding n (b.One f) ∷ []) r
fragment n CannotStart = Fails
fragment n NoPrefix = Breaks
fragment n TooDeep = Deep

-- behind the separator
abbrev pub behind : Option Token → Pieces → Pieces
behind None i = i
behind (Some s) [] = []
behind (Some s) (x ∷ i) = i

module _ (reads : Reading) (vars : Matchers → List Name) (starts : Matchers → Pieces → Bool) (inner : Matchers → Pieces → Out Bindings) where
  unfoldable pub copies : ℕ → Matchers → Option Token → List Bindings → Pieces → Out (List Bindings)
  copies zero body sep found i = Fails
  copies (suc n) body sep found i = and_then (inner body i) (λ a r.
      if continues (starts body) sep r then copies n body sep (found ++ a ∷ []) (behind sep r) else Done (found ++ a ∷ []) r)

  unfoldable pub node : Node → Pieces → Out Bindings
  node (Matcher-F.Token t) i = and_then (token t i) (λ u r. Done [] r)
  node (Matcher-F.Fragment n kind) i = fragment n (reads kind i)
  node (Matcher-F.Delimited o body c) i = and_then (token o i) (λ u r. and_then (inner body r) (λ a s. and_then (token c s) (λ v z. Done a z)))
  node (Matcher-F.Repeat body sep plus) i =
      if plus || starts body i then and_then (copies (suc (length i)) body sep [] i) (λ cs r. Done (gather (vars body) cs) r)
      else Done (gather (vars body) []) i

  unfoldable pub all : Matchers → Pieces → Out Bindings
  all [] i = Done [] i
  all (m ∷ ms) i = and_then (node (out-Matcher m) i) (λ x r. and_then (all ms r) (λ y s. Done (x ++ y) s))

module _ (reads : Reading) where
  unfoldable pub run : ℕ → Matchers → Pieces → Out Bindings
  run zero ms i = Fails
  run (suc depth) ms i = all reads (names depth) (first depth) (run depth) ms i
