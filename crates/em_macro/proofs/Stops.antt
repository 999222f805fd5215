-- The pass stops at a broken fragment, or one that is too deep, exactly where everything before it matched.
use Rattle.std.proofs.Common.{◌≡◌, ℕ, zero, suc, ◌<◌, ◌&&◌, ◌||◌, inl, inr, Bool, true, false, not, if◌then◌else◌, List, [], ◌∷◌, ◌++◌, length, Option, Some, None, refl, ◌∙◌, ap, arith}
use Rattle.em_macro.specs.declared.rules.Specifier.{Specifier}
use Rattle.em_base.specs.declared.token.Token.{Token}
use Rattle.em_tree.specs.declared.piece.Piece.TheVariants as p
use Rattle.em_macro.specs.declared.rules.Matcher.{out-Matcher}
use Rattle.em_macro.specs.declared.rules.Matcher.TheOpen.{Matcher-F}
use Rattle.em_tree.specs.Starts.{Pieces}
use Rattle.em_macro.specs.Match.{Name, Reading, Matchers, Bindings, Node, Outcome, Takes, CannotStart, NoPrefix, TooDeep, same, is_next, gather, names, first, continues, Between, Copies, MatchNode, MatchAll, Match, Owes, starts_at, cannot_start, is_sep, empty_node, empty_all, can_be_empty, first_node, first_all, Solid, DecidableNode, DecidableAll, Decidable, BeforeNode, BeforeAll, Before}
use Rattle.em_macro.specs.Run.{Out, Done, Fails, Breaks, Deep, and_then, token, fragment, behind, copies, node, all, run}
use Rattle.em_macro.proofs.Start.{Starts, or-left, or-right, and-both, after_next, begin_copies, begin_node, begin_run}
use Rattle.em_macro.proofs.Sound.{Sound, IsToken, sound_token, between, sound_all, sound_node, sound_run}
use Rattle.em_macro.proofs.Complete.{token_there, progress, surely, on, solid_star, found_node, found_run, first_copy, turn}

-- true: broken, false: too deep
abbrev pub why : Bool → Outcome
why true = NoPrefix
why false = TooDeep

abbrev pub stop : {T : Type 0} → Bool → Out T
stop true = Breaks
stop false = Deep

pub stop_then : {A B : Type 0} (b : Bool) (f : A → Pieces → Out B) → and_then (stop b) f ≡ stop b
stop_then true f = refl
stop_then false f = refl

pub stop_fragment : (b : Bool) (n : Name) → fragment n (why b) ≡ stop b
stop_fragment true n = refl
stop_fragment false n = refl

pub why_starts : (b : Bool) → not (cannot_start (why b)) ≡ true
why_starts true = refl
why_starts false = refl

module _ (reads : Reading) (owes : Owes reads) (vars : Matchers → List Name) (empty : Matchers → Bool) (starts : Matchers → Pieces → Bool)
    (I : Matchers → Pieces → Bindings → Pieces → Type 0)
    (begin : (ms : Matchers) (i r : Pieces) (bs : Bindings) → I ms i bs r → Starts (starts ms i) (empty ms) i r)
    (Reach : Matchers → Pieces → Specifier → Pieces → Type 0)
    (begin_reach : (ms : Matchers) (i r : Pieces) (kind : Specifier) → Reach ms i kind r → starts_at kind r ≡ true → starts ms i ≡ true) where
  -- ---- what is reached begins with a piece that can start it

  pub reach_node : (l : Node) (i r : Pieces) (kind : Specifier) → BeforeNode reads vars I Reach l i kind r → starts_at kind r ≡ true → first_node empty starts l i ≡ true
  reach_node (Matcher-F.Token t) i r kind h is = absurd h
  reach_node (Matcher-F.Fragment n other) i r kind h is = ap (λ l. starts_at other l) h.1 ∙ ap (λ x. starts_at x r) h.0 ∙ is
  reach_node (Matcher-F.Delimited o body c) i r kind h is = (after_next o i h.0 h.1).0
  reach_node (Matcher-F.Repeat body sep plus) i r kind (inl h) is = or-left (starts body i) (empty body && is_sep sep i) (begin_reach body i r kind h is)
  reach_node (Matcher-F.Repeat body sep plus) i r kind (inr h) is =
      go sep (begin_copies reads owes vars empty starts I begin body sep h.0 i h.1 h.3) h.4
    where
      go : (sep : Option Token) → Starts (starts body i || (empty body && is_sep sep i)) (empty body) i h.1 → Between sep h.1 h.2 → (starts body i || (empty body && is_sep sep i)) ≡ true
      go sep (inl a) t = a.0
      go None (inr a) t = or-left (starts body i) (empty body && false) (ap (λ l. starts body l) (a.1 ∙ t) ∙ begin_reach body h.2 r kind h.5 is)
      go (Some s) (inr a) t = or-right (starts body i) (empty body && is_next s i) (and-both (empty body) (is_next s i) a.0 (ap (λ l. is_next s l) a.1 ∙ (after_next s h.1 h.2 t).0))

  pub reach_all : (ms : Matchers) (i r : Pieces) (kind : Specifier) → BeforeAll reads vars I Reach ms i kind r → starts_at kind r ≡ true → first_all empty starts ms i ≡ true
  reach_all [] i r kind h is = absurd h
  reach_all (m ∷ ms) i r kind (inl h) is =
      or-left (first_node empty starts (out-Matcher m) i) (empty_node empty (out-Matcher m) && first_all empty starts ms i) (reach_node (out-Matcher m) i r kind h is)
  reach_all (m ∷ ms) i r kind (inr h) is = go (begin_node reads owes vars empty starts I begin (out-Matcher m) i h.1 h.0 h.2) (reach_all ms h.1 r kind h.3 is)
    where
      go : Starts (first_node empty starts (out-Matcher m) i) (empty_node empty (out-Matcher m)) i h.1 → first_all empty starts ms h.1 ≡ true
          → first_all empty starts (m ∷ ms) i ≡ true
      go (inl a) s = or-left (first_node empty starts (out-Matcher m) i) (empty_node empty (out-Matcher m) && first_all empty starts ms i) a.0
      go (inr a) s = or-right (first_node empty starts (out-Matcher m) i) (empty_node empty (out-Matcher m) && first_all empty starts ms i)
          (and-both (empty_node empty (out-Matcher m)) (first_all empty starts ms i) a.0 (ap (λ l. first_all empty starts ms l) a.1 ∙ s))

module _ (reads : Reading) (owes : Owes reads) (vars : Matchers → List Name) (empty : Matchers → Bool) (starts : Matchers → Pieces → Bool)
    (inner : Matchers → Pieces → Out Bindings) (I : Matchers → Pieces → Bindings → Pieces → Type 0) (Dec : Matchers → (Pieces → Bool) → Type 0)
    (begin : (ms : Matchers) (i r : Pieces) (bs : Bindings) → I ms i bs r → Starts (starts ms i) (empty ms) i r)
    (found_in : (ms : Matchers) (follow : Pieces → Bool) → Dec ms follow → (i r : Pieces) (bs : Bindings) → I ms i bs r → follow r ≡ true → inner ms i ≡ Done bs r)
    (Reach : Matchers → Pieces → Specifier → Pieces → Type 0)
    (begin_reach : (ms : Matchers) (i r : Pieces) (kind : Specifier) → Reach ms i kind r → starts_at kind r ≡ true → starts ms i ≡ true)
    (stop_in : (ms : Matchers) (follow : Pieces → Bool) → Dec ms follow → (i r : Pieces) (kind : Specifier) (b : Bool) → Reach ms i kind r → reads kind r ≡ why b → inner ms i ≡ stop b) where
  abbrev DecNode : Node → (Pieces → Bool) → Type 0
  DecNode l follow = DecidableNode starts empty Dec l follow

  abbrev DecAll : Matchers → (Pieces → Bool) → Type 0
  DecAll ms follow = DecidableAll starts empty Dec ms follow

  starts_why : (kind : Specifier) (r : Pieces) (b : Bool) → reads kind r ≡ why b → starts_at kind r ≡ true
  starts_why kind r b is = owes.1 kind r ∙ ap (λ o. not (cannot_start o)) is ∙ why_starts b

  -- ---- the pass stops there

  on_reach : (body : Matchers) (sep : Option Token) (j k r : Pieces) (kind : Specifier) (b : Bool) → Between sep j k → Reach body k kind r → reads kind r ≡ why b
      → continues (starts body) sep j ≡ true
  on_reach body None j k r kind b t h is = ap (λ l. starts body l) t ∙ begin_reach body k r kind h (starts_why kind r b is)
  on_reach body (Some s) j k r kind b t h is = (after_next s j k t).0

  stop_first : (n : ℕ) (body : Matchers) (sep : Option Token) (found : List Bindings) (i : Pieces) (b : Bool) → inner body i ≡ stop b
      → copies reads vars starts inner (suc n) body sep found i ≡ stop b
  unfolding copies
  stop_first n body sep found i b is =
      ap (λ o. and_then o (λ a r. if continues (starts body) sep r then copies reads vars starts inner n body sep (found ++ a ∷ []) (behind sep r) else Done (found ++ a ∷ []) r)) is
      ∙ stop_then b (λ a r. if continues (starts body) sep r then copies reads vars starts inner n body sep (found ++ a ∷ []) (behind sep r) else Done (found ++ a ∷ []) r)

  pub stop_copies : (cs : List Bindings) (n : ℕ) (body : Matchers) (sep : Option Token) (plus : Bool) (follow : Pieces → Bool) (found : List Bindings) (i j k r : Pieces) (kind : Specifier)
      (b : Bool) → length i < n → Dec body (λ j. continues (starts body) sep j || follow j) → Solid sep plus (empty body)
      → Copies reads vars I body sep i cs j → Between sep j k → Reach body k kind r → reads kind r ≡ why b → copies reads vars starts inner n body sep found i ≡ stop b
  stop_copies cs zero body sep plus follow found i j k r kind b fuel dec solid c t h is = absurd (omega (arith, fuel))
  stop_copies [] (suc n) body sep plus follow found i j k r kind b fuel dec solid c t h is = absurd c
  stop_copies (a ∷ []) (suc zero) body sep plus follow found i j k r kind b fuel dec solid c t h is =
      absurd (omega (arith, fuel, progress sep plus (starts body i) (empty body) i j k solid (begin body i j a c) t))
  stop_copies (a ∷ []) (suc (suc n)) body sep plus follow found i j k r kind b fuel dec solid c t h is =
      let go : continues (starts body) sep j ≡ true = on_reach body sep j k r kind b t h is in
      turn reads owes vars empty starts inner I Dec begin found_in (suc n) body sep found i j k a
      (found_in body (λ j. continues (starts body) sep j || follow j) dec i j a c (or-left (continues (starts body) sep j) (follow j) go)) go t
      ∙ stop_first n body sep (found ++ a ∷ []) k b (stop_in body (λ j. continues (starts body) sep j || follow j) dec k r kind b h is)
  stop_copies (a ∷ d ∷ cs) (suc n) body sep plus follow found i j k r kind b fuel dec solid c t h is =
      let next : (j : Pieces) × Starts (starts body c.1) (empty body) c.1 j = first_copy reads owes vars empty starts inner I Dec begin found_in body sep c.1 j (d ∷ cs) c.4 in
      let go : continues (starts body) sep c.0 ≡ true = on (starts body) sep plus (empty body) c.0 c.1 next.0 solid c.3 next.1 in
      turn reads owes vars empty starts inner I Dec begin found_in n body sep found i c.0 c.1 a
      (found_in body (λ j. continues (starts body) sep j || follow j) dec i c.0 a c.2 (or-left (continues (starts body) sep c.0) (follow c.0) go)) go c.3
      ∙ stop_copies (d ∷ cs) n body sep plus follow (found ++ a ∷ []) c.1 j k r kind b
      (omega (arith, fuel, progress sep plus (starts body i) (empty body) i c.0 c.1 solid (begin body i c.0 a c.2) c.3)) dec solid c.4 t h is

  pub stop_node : (l : Node) (follow : Pieces → Bool) → DecNode l follow → (i r : Pieces) (kind : Specifier) (b : Bool) → BeforeNode reads vars I Reach l i kind r → reads kind r ≡ why b
      → node reads vars starts inner l i ≡ stop b
  unfolding node
  stop_node (Matcher-F.Token t) follow dec i r kind b h is = absurd h
  stop_node (Matcher-F.Fragment n other) follow dec i r kind b h is =
      ap (λ l. fragment n (reads other l)) h.1 ∙ ap (λ x. fragment n (reads x r)) h.0 ∙ ap (λ o. fragment n o) is ∙ stop_fragment b n
  stop_node (Matcher-F.Delimited o body c) follow dec i r kind b h is =
      ap (λ x. and_then x (λ u r. and_then (inner body r) (λ a s. and_then (token c s) (λ v z. Done a z)))) (token_there o i h.0 h.1).1
      ∙ ap (λ x. and_then x (λ a s. and_then (token c s) (λ v z. Done a z))) (stop_in body (is_next c) dec h.0 r kind b h.2 is)
      ∙ stop_then b (λ a s. and_then (token c s) (λ v z. Done a z))
  stop_node (Matcher-F.Repeat body sep plus) follow dec i r kind b h is =
      ap (λ b. if b then and_then (copies reads vars starts inner (suc (length i)) body sep [] i) (λ cs r. Done (gather (vars body) cs) r) else Done (gather (vars body) []) i)
      (some plus dec.3 h)
      ∙ ap (λ x. and_then x (λ cs r. Done (gather (vars body) cs) r)) (go h)
      ∙ stop_then b (λ cs r. Done (gather (vars body) cs) r)
    where
      some : (plus : Bool) → Solid sep plus (empty body) → BeforeNode reads vars I Reach (Matcher-F.Repeat body sep plus) i kind r → (plus || starts body i) ≡ true
      some true solid h = refl
      some false solid (inl h) = begin_reach body i r kind h (starts_why kind r b is)
      some false solid (inr h) = let f : (j : Pieces) × Starts (starts body i) (empty body) i j = first_copy reads owes vars empty starts inner I Dec begin found_in body sep i h.1 h.0 h.3 in
          surely (starts body i) (empty body) i f.0 (solid_star sep (empty body) solid) f.1

      go : BeforeNode reads vars I Reach (Matcher-F.Repeat body sep plus) i kind r → copies reads vars starts inner (suc (length i)) body sep [] i ≡ stop b
      go (inl h) = stop_first (length i) body sep [] i b (stop_in body (λ j. continues (starts body) sep j || follow j) dec.0 i r kind b h is)
      go (inr h) = stop_copies h.0 (suc (length i)) body sep plus follow [] i h.1 h.2 r kind b (omega arith) dec.0 dec.3 h.3 h.4 h.5 is

  pub stop_all : (ms : Matchers) (follow : Pieces → Bool) → DecAll ms follow → (i r : Pieces) (kind : Specifier) (b : Bool) → BeforeAll reads vars I Reach ms i kind r → reads kind r ≡ why b
      → all reads vars starts inner ms i ≡ stop b
  unfolding all
  stop_all [] follow dec i r kind b h is = absurd h
  stop_all (m ∷ ms) follow dec i r kind b (inl h) is =
      ap (λ o. and_then o (λ x r. and_then (all reads vars starts inner ms r) (λ y s. Done (x ++ y) s)))
      (stop_node (out-Matcher m) (λ j. first_all empty starts ms j || (empty_all empty ms && follow j)) dec.0 i r kind b h is)
      ∙ stop_then b (λ x r. and_then (all reads vars starts inner ms r) (λ y s. Done (x ++ y) s))
  stop_all (m ∷ ms) follow dec i r kind b (inr h) is =
      ap (λ o. and_then o (λ x r. and_then (all reads vars starts inner ms r) (λ y s. Done (x ++ y) s)))
      (found_node reads owes vars empty starts inner I Dec begin found_in (out-Matcher m) (λ j. first_all empty starts ms j || (empty_all empty ms && follow j)) dec.0 i h.1 h.0 h.2
      (or-left (first_all empty starts ms h.1) (empty_all empty ms && follow h.1) (reach_all reads owes vars empty starts I begin Reach begin_reach ms h.1 r kind h.3 (starts_why kind r b is))))
      ∙ ap (λ o. and_then o (λ y s. Done (h.0 ++ y) s)) (stop_all ms follow dec.1 h.1 r kind b h.3 is)
      ∙ stop_then b (λ y s. Done (h.0 ++ y) s)

pub reach_run : (reads : Reading) → Owes reads → (depth : ℕ) (ms : Matchers) (i r : Pieces) (kind : Specifier) → Before reads depth ms i kind r
    → starts_at kind r ≡ true → first depth ms i ≡ true
unfolding Before first
reach_run reads owes zero ms i r kind h is = absurd h
reach_run reads owes (suc depth) ms i r kind h is =
    reach_all reads owes (names depth) (can_be_empty depth) (first depth) (Match reads depth) (begin_run reads owes depth) (Before reads depth) (reach_run reads owes depth) ms i r kind h is

pub stop_run : (reads : Reading) → Owes reads → (depth : ℕ) (ms : Matchers) (follow : Pieces → Bool) → Decidable depth ms follow
    → (i r : Pieces) (kind : Specifier) (b : Bool) → Before reads depth ms i kind r → reads kind r ≡ why b → run reads depth ms i ≡ stop b
unfolding Before run Decidable
stop_run reads owes zero ms follow dec i r kind b h is = absurd h
stop_run reads owes (suc depth) ms follow dec i r kind b h is =
    stop_all reads owes (names depth) (can_be_empty depth) (first depth) (run reads depth) (Match reads depth) (Decidable depth) (begin_run reads owes depth)
    (found_run reads owes depth) (Before reads depth) (reach_run reads owes depth) (stop_run reads owes depth) ms follow dec i r kind b h is

-- ---- where the pass stops, a fragment stands to which everything before it leads

abbrev pub Stopped : {T : Type 0} → (Bool → Type 0) → Out T → Type 0
Stopped P (Done t r) = Unit {0}
Stopped P Fails = Unit {0}
Stopped P Breaks = P true
Stopped P Deep = P false

abbrev pub Here : {T : Type 0} → (Pieces → T → Pieces → Type 0) → (Bool → Type 0) → Out T → Pieces → Type 0
Here L P (Done t r) i = L i t r
Here L P Fails i = Unit {0}
Here L P Breaks i = P true
Here L P Deep i = P false

pub both : {T : Type 0} (L : Pieces → T → Pieces → Type 0) (P : Bool → Type 0) (m : Out T) (i : Pieces) → Sound L m i → Stopped P m → Here L P m i
both L P (Done t r) i a b = a
both L P Fails i a b = tt
both L P Breaks i a b = b
both L P Deep i a b = b

pub stopped_then : {A B : Type 0} (L : Pieces → A → Pieces → Type 0) (P Q : Bool → Type 0) (m : Out A) (f : A → Pieces → Out B) (i : Pieces) → Here L P m i
    → ((b : Bool) → P b → Q b) → ((a : A) (r : Pieces) → L i a r → Stopped Q (f a r)) → Stopped Q (and_then m f)
stopped_then L P Q (Done a r) f i h s k = k a r h
stopped_then L P Q Fails f i h s k = tt
stopped_then L P Q Breaks f i h s k = s true h
stopped_then L P Q Deep f i h s k = s false h

abbrev pub Never : Bool → Type 0
Never b = ⊥

pub token_goes_on : (t : Token) (i : Pieces) → Stopped Never (token t i)
token_goes_on t [] = tt
token_goes_on t (p.Token u ∷ i) = go (same t u)
  where
    go : (b : Bool) → Stopped {T = Unit {0}} Never (if b then Done tt i else Fails)
    go true = tt
    go false = tt
token_goes_on t (x ∷ i) = tt

pub no_token : (t : Token) (i : Pieces) → Here (IsToken t) Never (token t i) i
no_token t i = both (IsToken t) Never (token t i) i (sound_token t i) (token_goes_on t i)

module _ (reads : Reading) (vars : Matchers → List Name) (starts : Matchers → Pieces → Bool) (inner : Matchers → Pieces → Out Bindings)
    (I : Matchers → Pieces → Bindings → Pieces → Type 0) (sound : (ms : Matchers) (i : Pieces) → Sound (I ms) (inner ms i) i)
    (Reach : Matchers → Pieces → Specifier → Pieces → Type 0)
    (stopped : (ms : Matchers) (i : Pieces) → Stopped (λ b. (kind : Specifier) × (r : Pieces) × Reach ms i kind r × (reads kind r ≡ why b)) (inner ms i)) where
  abbrev At : Matchers → Pieces → Bool → Type 0
  At ms i b = (kind : Specifier) × (r : Pieces) × Reach ms i kind r × (reads kind r ≡ why b)

  abbrev AtNode : Node → Pieces → Bool → Type 0
  AtNode l i b = (kind : Specifier) × (r : Pieces) × BeforeNode reads vars I Reach l i kind r × (reads kind r ≡ why b)

  abbrev AtAll : Matchers → Pieces → Bool → Type 0
  AtAll ms i b = (kind : Specifier) × (r : Pieces) × BeforeAll reads vars I Reach ms i kind r × (reads kind r ≡ why b)

  here : (ms : Matchers) (i : Pieces) → Here (I ms) (At ms i) (inner ms i) i
  here ms i = both (I ms) (At ms i) (inner ms i) i (sound ms i) (stopped ms i)

  -- one more copy in front
  push : (body : Matchers) (sep : Option Token) (plus : Bool) (i j k : Pieces) (a : Bindings) (b : Bool) → I body i a j → Between sep j k
      → AtNode (Matcher-F.Repeat body sep plus) k b → AtNode (Matcher-F.Repeat body sep plus) i b
  push body sep plus i j k a b h t s = (s.0, s.1, go s.2, s.3)
    where
      go : BeforeNode reads vars I Reach (Matcher-F.Repeat body sep plus) k s.0 s.1 → BeforeNode reads vars I Reach (Matcher-F.Repeat body sep plus) i s.0 s.1
      go (inl r) = inr (a ∷ [], j, k, h, t, r)
      go (inr r) = inr (a ∷ r.0, r.1, r.2, cons r.0 r.3, r.4, r.5)
        where
          cons : (cs : List Bindings) → Copies reads vars I body sep k cs r.1 → Copies reads vars I body sep i (a ∷ cs) r.1
          cons [] c = absurd c
          cons (d ∷ cs) c = (j, k, h, t, c)

  pub stopped_copies : (n : ℕ) (body : Matchers) (sep : Option Token) (plus : Bool) (found : List Bindings) (i : Pieces)
      → Stopped (AtNode (Matcher-F.Repeat body sep plus) i) (copies reads vars starts inner n body sep found i)
  unfolding copies
  stopped_copies zero body sep plus found i = tt
  stopped_copies (suc n) body sep plus found i =
      stopped_then (I body) (At body i) (AtNode (Matcher-F.Repeat body sep plus) i) (inner body i) _ i (here body i) (λ b s. (s.0, s.1, inl s.2, s.3)) (λ a r h.
      go a r h (stopped_copies n body sep plus (found ++ a ∷ []) (behind sep r)) (continues (starts body) sep r) refl)
    where
      map : (m : Out (List Bindings)) (a : Bindings) (r : Pieces) → I body i a r → Between sep r (behind sep r) → Stopped (AtNode (Matcher-F.Repeat body sep plus) (behind sep r)) m
          → Stopped (AtNode (Matcher-F.Repeat body sep plus) i) m
      map (Done t z) a r h t2 s = tt
      map Fails a r h t2 s = tt
      map Breaks a r h t2 s = push body sep plus i r (behind sep r) a true h t2 s
      map Deep a r h t2 s = push body sep plus i r (behind sep r) a false h t2 s

      go : (a : Bindings) (r : Pieces) → I body i a r
          → Stopped (AtNode (Matcher-F.Repeat body sep plus) (behind sep r)) (copies reads vars starts inner n body sep (found ++ a ∷ []) (behind sep r))
          → (b : Bool) → continues (starts body) sep r ≡ b
          → Stopped (AtNode (Matcher-F.Repeat body sep plus) i) (if b then copies reads vars starts inner n body sep (found ++ a ∷ []) (behind sep r) else Done (found ++ a ∷ []) r)
      go a r h s true is = map (copies reads vars starts inner n body sep (found ++ a ∷ []) (behind sep r)) a r h (between (starts body) sep r is) s
      go a r h s false is = tt

  pub stopped_node : (l : Node) (i : Pieces) → Stopped (AtNode l i) (node reads vars starts inner l i)
  unfolding node
  stopped_node (Matcher-F.Token t) i = stopped_then (IsToken t) Never (AtNode (Matcher-F.Token t) i) (token t i) _ i (no_token t i) (λ b s. absurd s) (λ u r h. tt)
  stopped_node (Matcher-F.Fragment n kind) i = go (reads kind i) refl
    where
      go : (o : Outcome) → reads kind i ≡ o → Stopped (AtNode (Matcher-F.Fragment n kind) i) (fragment n o)
      go (Takes f r) is = tt
      go CannotStart is = tt
      go NoPrefix is = (kind, i, (refl, refl), is)
      go TooDeep is = (kind, i, (refl, refl), is)
  stopped_node (Matcher-F.Delimited o body c) i =
      stopped_then (IsToken o) Never (AtNode (Matcher-F.Delimited o body c) i) (token o i) _ i (no_token o i) (λ b s. absurd s) (λ u j h.
      stopped_then (I body) (At body j) (AtNode (Matcher-F.Delimited o body c) i) (inner body j) _ j (here body j) (λ b s. (s.0, s.1, (j, h, s.2), s.3)) (λ a k h2.
      stopped_then (IsToken c) Never (AtNode (Matcher-F.Delimited o body c) i) (token c k) _ k (no_token c k) (λ b s. absurd s) (λ v z h3. tt)))
  stopped_node (Matcher-F.Repeat body sep plus) i = go (plus || starts body i)
    where
      any : List Bindings → Pieces → Type 0
      any cs r = Unit {0}

      end : (m : Out (List Bindings)) → Stopped (AtNode (Matcher-F.Repeat body sep plus) i) m → Stopped (AtNode (Matcher-F.Repeat body sep plus) i) (and_then m (λ cs r. Done (gather (vars body) cs) r))
      end (Done t r) s = tt
      end Fails s = tt
      end Breaks s = s
      end Deep s = s

      go : (b : Bool) → Stopped (AtNode (Matcher-F.Repeat body sep plus) i)
          (if b then and_then (copies reads vars starts inner (suc (length i)) body sep [] i) (λ cs r. Done (gather (vars body) cs) r) else Done (gather (vars body) []) i)
      go true = end (copies reads vars starts inner (suc (length i)) body sep [] i) (stopped_copies (suc (length i)) body sep plus [] i)
      go false = tt

  pub stopped_all : (ms : Matchers) (i : Pieces) → Stopped (AtAll ms i) (all reads vars starts inner ms i)
  unfolding all
  stopped_all [] i = tt
  stopped_all (m ∷ ms) i =
      stopped_then (MatchNode reads vars I (out-Matcher m)) (AtNode (out-Matcher m) i) (AtAll (m ∷ ms) i) (node reads vars starts inner (out-Matcher m) i) _ i
      (both (MatchNode reads vars I (out-Matcher m)) (AtNode (out-Matcher m) i) (node reads vars starts inner (out-Matcher m) i) i
      (sound_node reads vars starts inner I sound (out-Matcher m) i) (stopped_node (out-Matcher m) i))
      (λ b s. (s.0, s.1, inl s.2, s.3)) (λ x r h.
      stopped_then (MatchAll reads vars I ms) (AtAll ms r) (AtAll (m ∷ ms) i) (all reads vars starts inner ms r) _ r
      (both (MatchAll reads vars I ms) (AtAll ms r) (all reads vars starts inner ms r) r (sound_all reads vars starts inner I sound ms r) (stopped_all ms r))
      (λ b s. (s.0, s.1, inr (x, r, h, s.2), s.3)) (λ y z h2. tt))

abbrev pub AtRun : (Reading) → ℕ → Matchers → Pieces → Bool → Type 0
AtRun reads depth ms i b = (kind : Specifier) × (r : Pieces) × Before reads depth ms i kind r × (reads kind r ≡ why b)

pub stopped_run : (reads : Reading) (depth : ℕ) (ms : Matchers) (i : Pieces) → Stopped (AtRun reads depth ms i) (run reads depth ms i)
unfolding Before run
stopped_run reads zero ms i = tt
stopped_run reads (suc depth) ms i =
    stopped_all reads (names depth) (first depth) (run reads depth) (Match reads depth) (sound_run reads depth) (Before reads depth) (stopped_run reads depth) ms i
