-- A match is what the pass finds, where the matcher is decidable and what follows is allowed.
use Rattle.std.proofs.Common.{◌≡◌, ℕ, zero, suc, ◌<◌, ◌&&◌, ◌||◌, inl, inr, Bool, true, false, if◌then◌else◌, List, [], ◌∷◌, ◌++◌, length, Option, Some, None, refl, sym, ◌∙◌, ap, append_assoc, arith}
use Rattle.em_base.specs.declared.token.Token.{Token}
use Rattle.em_tree.specs.declared.piece.Piece.TheVariants as p
use Rattle.em_macro.specs.declared.rules.Matcher.{out-Matcher}
use Rattle.em_macro.specs.declared.rules.Matcher.TheOpen.{Matcher-F}
use Rattle.em_tree.specs.Starts.{Pieces}
use Rattle.em_macro.specs.Match.{Name, Reading, Matchers, Bindings, Node, is_next, gather, names, first, continues, After, Between, Copies, MatchNode, MatchAll, Match, Owes, empty_all, can_be_empty, first_all, Disjoint, Solid, DecidableNode, DecidableAll, Decidable, at_end}
use Rattle.em_macro.specs.Run.{Out, Done, Fails, Breaks, Deep, and_then, token, fragment, behind, copies, node, all, run}
use Rattle.em_macro.proofs.Start.{Starts, or-left, or-right, and-both, not_longer, after_next, begin_all, begin_run}

pub not_true : (b : Bool) → (b ≡ true → ⊥) → b ≡ false
not_true true h = absurd (h refl)
not_true false h = refl

pub true_not_false : (b : Bool) → b ≡ true → b ≡ false → ⊥
true_not_false true is is2 = cc
true_not_false false is is2 = cc

pub token_there : (t : Token) (i r : Pieces) → After t i r → (u : Unit {0}) × (token t i ≡ Done u r)
token_there t [] r h = absurd h
token_there t (p.Token u ∷ i) r h = (tt, ap (λ b. if b then Done tt i else Fails) h.0 ∙ ap (λ l. Done tt l) h.1)
token_there t (x ∷ i) r h = absurd h

pub behind_is : (sep : Option Token) (j k : Pieces) → Between sep j k → behind sep j ≡ k
behind_is None j k t = t
behind_is (Some s) [] k t = absurd t
behind_is (Some s) (p.Token u ∷ j) k t = t.1
behind_is (Some s) (x ∷ j) k t = absurd t

-- a copy that isn't the last leaves less
pub progress : (sep : Option Token) (plus a e : Bool) (i j k : Pieces) → Solid sep plus e → Starts a e i j → Between sep j k → length k < length i
progress None plus a e i j k solid (inl h) t = let l : length j ≡ length k = ap (λ l. length l) t in omega (arith, h.1, l)
progress None plus a e i j k solid (inr h) t = absurd (true_not_false e h.0 solid)
progress (Some s) plus a e i j k solid h t = omega (arith, not_longer a e i j h, (after_next s j k t).1)

-- where a copy of this kind begins, and it can't be empty, the test says so
pub surely : (a e : Bool) (i r : Pieces) → e ≡ false → Starts a e i r → a ≡ true
surely a e i r is (inl h) = h.0
surely a e i r is (inr h) = absurd (true_not_false e h.0 is)

pub on : (starts : Pieces → Bool) (sep : Option Token) (plus e : Bool) (j k r : Pieces) → Solid sep plus e → Between sep j k → Starts (starts k) e k r → continues starts sep j ≡ true
on starts None plus e j k r solid t h = ap (λ l. starts l) t ∙ surely (starts k) e k r solid h
on starts (Some s) plus e j k r solid t h = (after_next s j k t).0

pub solid_star : (sep : Option Token) (e : Bool) → Solid sep false e → e ≡ false
solid_star None e h = h
solid_star (Some s) e h = h

module _ (reads : Reading) (owes : Owes reads) (vars : Matchers → List Name) (empty : Matchers → Bool) (starts : Matchers → Pieces → Bool)
    (inner : Matchers → Pieces → Out Bindings) (I : Matchers → Pieces → Bindings → Pieces → Type 0) (Dec : Matchers → (Pieces → Bool) → Type 0)
    (begin : (ms : Matchers) (i r : Pieces) (bs : Bindings) → I ms i bs r → Starts (starts ms i) (empty ms) i r)
    (found_in : (ms : Matchers) (follow : Pieces → Bool) → Dec ms follow → (i r : Pieces) (bs : Bindings) → I ms i bs r → follow r ≡ true → inner ms i ≡ Done bs r) where
  abbrev DecNode : Node → (Pieces → Bool) → Type 0
  DecNode l follow = DecidableNode starts empty Dec l follow

  abbrev DecAll : Matchers → (Pieces → Bool) → Type 0
  DecAll ms follow = DecidableAll starts empty Dec ms follow

  pub first_copy : (body : Matchers) (sep : Option Token) (i r : Pieces) (cs : List Bindings) → Copies reads vars I body sep i cs r → (j : Pieces) × Starts (starts body i) (empty body) i j
  first_copy body sep i r [] c = absurd c
  first_copy body sep i r (a ∷ []) c = (r, begin body i r a c)
  first_copy body sep i r (a ∷ b ∷ cs) c = (c.0, begin body i c.0 a c.2)

  -- one more turn
  pub turn : (n : ℕ) (body : Matchers) (sep : Option Token) (found : List Bindings) (i j k : Pieces) (a : Bindings) → inner body i ≡ Done a j → continues (starts body) sep j ≡ true
      → Between sep j k → copies reads vars starts inner (suc n) body sep found i ≡ copies reads vars starts inner n body sep (found ++ a ∷ []) k
  unfolding copies
  turn n body sep found i j k a is go t =
      ap (λ o. and_then o (λ a r. if continues (starts body) sep r then copies reads vars starts inner n body sep (found ++ a ∷ []) (behind sep r) else Done (found ++ a ∷ []) r)) is
      ∙ ap (λ b. if b then copies reads vars starts inner n body sep (found ++ a ∷ []) (behind sep j) else Done (found ++ a ∷ []) j) go
      ∙ ap (λ l. copies reads vars starts inner n body sep (found ++ a ∷ []) l) (behind_is sep j k t)

  pub found_copies : (cs : List Bindings) (n : ℕ) (body : Matchers) (sep : Option Token) (plus : Bool) (follow : Pieces → Bool) (found : List Bindings) (i r : Pieces) → length i < n
      → Dec body (λ j. continues (starts body) sep j || follow j) → Disjoint (continues (starts body) sep) follow → Solid sep plus (empty body)
      → Copies reads vars I body sep i cs r → follow r ≡ true → copies reads vars starts inner n body sep found i ≡ Done (found ++ cs) r
  unfolding copies
  found_copies cs zero body sep plus follow found i r fuel dec apart solid c end = absurd (omega (arith, fuel))
  found_copies [] (suc n) body sep plus follow found i r fuel dec apart solid c end = absurd c
  found_copies (a ∷ []) (suc n) body sep plus follow found i r fuel dec apart solid c end =
      let is : inner body i ≡ Done a r = found_in body (λ j. continues (starts body) sep j || follow j) dec i r a c (or-right (continues (starts body) sep r) (follow r) end) in
      ap (λ o. and_then o (λ a r. if continues (starts body) sep r then copies reads vars starts inner n body sep (found ++ a ∷ []) (behind sep r) else Done (found ++ a ∷ []) r)) is
      ∙ ap (λ b. if b then copies reads vars starts inner n body sep (found ++ a ∷ []) (behind sep r) else Done (found ++ a ∷ []) r)
      (not_true (continues (starts body) sep r) (λ go. apart r go end))
  found_copies (a ∷ b ∷ cs) (suc n) body sep plus follow found i r fuel dec apart solid c end =
      let next : (j : Pieces) × Starts (starts body c.1) (empty body) c.1 j = first_copy body sep c.1 r (b ∷ cs) c.4 in
      let go : continues (starts body) sep c.0 ≡ true = on (starts body) sep plus (empty body) c.0 c.1 next.0 solid c.3 next.1 in
      let is : inner body i ≡ Done a c.0 = found_in body (λ j. continues (starts body) sep j || follow j) dec i c.0 a c.2 (or-left (continues (starts body) sep c.0) (follow c.0) go) in
      turn n body sep found i c.0 c.1 a is go c.3
      ∙ found_copies (b ∷ cs) n body sep plus follow (found ++ a ∷ []) c.1 r
      (omega (arith, fuel, progress sep plus (starts body i) (empty body) i c.0 c.1 solid (begin body i c.0 a c.2) c.3)) dec apart solid c.4 end
      ∙ ap (λ l. Done l r) (append_assoc found (a ∷ []) (b ∷ cs))

  pub found_node : (l : Node) (follow : Pieces → Bool) → DecNode l follow → (i r : Pieces) (bs : Bindings) → MatchNode reads vars I l i bs r → follow r ≡ true
      → node reads vars starts inner l i ≡ Done bs r
  unfolding node
  found_node (Matcher-F.Token t) follow dec i r bs h end =
      ap (λ o. and_then o (λ u r. Done [] r)) (token_there t i r h.0).1 ∙ ap (λ l. Done l r) (sym h.1)
  found_node (Matcher-F.Fragment n kind) follow dec i r bs h end = ap (λ o. fragment n o) h.1 ∙ ap (λ l. Done l r) (sym h.2)
  found_node (Matcher-F.Delimited o body c) follow dec i r bs h end =
      ap (λ x. and_then x (λ u r. and_then (inner body r) (λ a s. and_then (token c s) (λ v z. Done a z)))) (token_there o i h.0 h.2).1
      ∙ ap (λ x. and_then x (λ a s. and_then (token c s) (λ v z. Done a z))) (found_in body (is_next c) dec h.0 h.1 bs h.3 (after_next c h.1 r h.4).0)
      ∙ ap (λ x. and_then x (λ v z. Done bs z)) (token_there c h.1 r h.4).1
  found_node (Matcher-F.Repeat body sep plus) follow dec i r bs (inl h) end =
      let none : starts body i ≡ false = not_true (starts body i) (λ is. dec.2 h.0 i is (ap (λ l. follow l) h.1 ∙ end)) in
      ap (λ b. if b then and_then (copies reads vars starts inner (suc (length i)) body sep [] i) (λ cs r. Done (gather (vars body) cs) r) else Done (gather (vars body) []) i)
      (ap (λ b. b || starts body i) h.0 ∙ none)
      ∙ ap (λ l. Done (gather (vars body) []) l) h.1 ∙ ap (λ l. Done l r) (sym h.2)
  found_node (Matcher-F.Repeat body sep plus) follow dec i r bs (inr h) end =
      ap (λ b. if b then and_then (copies reads vars starts inner (suc (length i)) body sep [] i) (λ cs r. Done (gather (vars body) cs) r) else Done (gather (vars body) []) i)
      (some plus dec.3)
      ∙ ap (λ x. and_then x (λ cs r. Done (gather (vars body) cs) r))
      (found_copies h.0 (suc (length i)) body sep plus follow [] i r (omega arith) dec.0 dec.1 dec.3 h.1 end)
      ∙ ap (λ l. Done l r) (sym h.2)
    where
      some : (plus : Bool) → Solid sep plus (empty body) → (plus || starts body i) ≡ true
      some true solid = refl
      some false solid = let f : (j : Pieces) × Starts (starts body i) (empty body) i j = first_copy body sep i r h.0 h.1 in
          surely (starts body i) (empty body) i f.0 (solid_star sep (empty body) solid) f.1

  pub found_all : (ms : Matchers) (follow : Pieces → Bool) → DecAll ms follow → (i r : Pieces) (bs : Bindings) → MatchAll reads vars I ms i bs r → follow r ≡ true
      → all reads vars starts inner ms i ≡ Done bs r
  unfolding all
  found_all [] follow dec i r bs h end = ap (λ l. Done [] l) h.0 ∙ ap (λ l. Done l r) (sym h.1)
  found_all (m ∷ ms) follow dec i r bs h end =
      ap (λ o. and_then o (λ x r. and_then (all reads vars starts inner ms r) (λ y s. Done (x ++ y) s)))
      (found_node (out-Matcher m) (λ j. first_all empty starts ms j || (empty_all empty ms && follow j)) dec.0 i h.2 h.0 h.3
      (allowed (begin_all reads owes vars empty starts I begin ms h.2 r h.1 h.4)))
      ∙ ap (λ o. and_then o (λ y s. Done (h.0 ++ y) s)) (found_all ms follow dec.1 h.2 r h.1 h.4 end)
      ∙ ap (λ l. Done l r) (sym h.5)
    where
      allowed : Starts (first_all empty starts ms h.2) (empty_all empty ms) h.2 r → (first_all empty starts ms h.2 || (empty_all empty ms && follow h.2)) ≡ true
      allowed (inl a) = or-left (first_all empty starts ms h.2) (empty_all empty ms && follow h.2) a.0
      allowed (inr a) = or-right (first_all empty starts ms h.2) (empty_all empty ms && follow h.2) (and-both (empty_all empty ms) (follow h.2) a.0 (ap (λ l. follow l) a.1 ∙ end))

pub found_run : (reads : Reading) → Owes reads → (depth : ℕ) (ms : Matchers) (follow : Pieces → Bool) → Decidable depth ms follow
    → (i r : Pieces) (bs : Bindings) → Match reads depth ms i bs r → follow r ≡ true → run reads depth ms i ≡ Done bs r
unfolding Match run Decidable
found_run reads owes zero ms follow dec i r bs h end = absurd h
found_run reads owes (suc depth) ms follow dec i r bs h end =
    found_all reads owes (names depth) (can_be_empty depth) (first depth) (run reads depth) (Match reads depth) (Decidable depth)
    (begin_run reads owes depth) (found_run reads owes depth) ms follow dec i r bs h end

-- ---- a matcher that is decidable binds in one way

abbrev pub bound_by : Out Bindings → Bindings
bound_by (Done bs r) = bs
bound_by Fails = []
bound_by Breaks = []
bound_by Deep = []

pub one_binding : (reads : Reading) → Owes reads → (depth : ℕ) (ms : Matchers) → Decidable depth ms at_end
    → (i : Pieces) (bs cs : Bindings) → Match reads depth ms i bs [] → Match reads depth ms i cs [] → bs ≡ cs
one_binding reads owes depth ms dec i bs cs a b =
    ap (λ o. bound_by o) (sym (found_run reads owes depth ms at_end dec i [] bs a refl) ∙ found_run reads owes depth ms at_end dec i [] cs b refl)
