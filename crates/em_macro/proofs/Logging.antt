-- What the pass reads is what everything before it leads to.
use Rattle.std.proofs.Common.{◌≡◌, ℕ, zero, suc, ◌<◌, ◌&&◌, ◌||◌, inl, inr, Bool, true, false, if◌then◌else◌, List, [], ◌∷◌, ◌++◌, length, Option, Some, None, refl, sym, ◌∙◌, ap, subst, arith}
use Rattle.em_base.specs.declared.token.Token.{Token}
use Rattle.em_macro.specs.declared.rules.Specifier.{Specifier}
use Rattle.em_macro.specs.declared.rules.Matcher.{out-Matcher}
use Rattle.em_macro.specs.declared.rules.Matcher.TheOpen.{Matcher-F}
use Rattle.em_macro.specs.declared.matched.Taken.{Taken}
use Rattle.em_tree.specs.Starts.{Pieces}
use Rattle.em_macro.specs.Match.{Name, Reading, Matchers, Bindings, Node, Outcome, Takes, CannotStart, NoPrefix, TooDeep, Owes, names, first, continues, first_all, starts_at, empty_all, can_be_empty, Between, Copies, MatchNode, Match, Solid, DecidableNode, DecidableAll, Decidable, BeforeNode, BeforeAll, Before}
use Rattle.em_macro.specs.Run.{Out, Done, Fails, Breaks, Deep, token, behind, node, run}
use Rattle.em_macro.specs.Reads.{Read, In, Reads, after, taken, log_copies, log_node, log_all, log}
use Rattle.em_macro.proofs.Start.{Starts, or-left, after_next, taken_starts, begin_run}
use Rattle.em_macro.proofs.Sound.{Sound, IsToken, sound_token, between, sound_node, sound_run}
use Rattle.em_macro.proofs.Complete.{token_there, behind_is, progress, surely, on, solid_star, found_node, found_run, first_copy}
use Rattle.em_macro.proofs.Stops.{reach_all, reach_run}

-- ---- lists

abbrev pub AllIn : (Read → Type 0) → List Read → Type 0
AllIn P [] = Unit {0}
AllIn P (x ∷ xs) = P x × AllIn P xs

all_append : (P : Read → Type 0) (xs ys : List Read) → AllIn P xs → AllIn P ys → AllIn P (xs ++ ys)
all_append P [] ys a b = b
all_append P (x ∷ xs) ys a b = (a.0, all_append P xs ys a.1 b)

all_map : (P Q : Read → Type 0) (xs : List Read) → ((x : Read) → P x → Q x) → AllIn P xs → AllIn Q xs
all_map P Q [] f a = tt
all_map P Q (x ∷ xs) f a = (f x a.0, all_map P Q xs f a.1)

pub all_in : (P : Read → Type 0) (xs : List Read) (x : Read) → AllIn P xs → In x xs → P x
all_in P [] x a h = absurd h
all_in P (y ∷ ys) x a (inl is) = subst P is a.0
all_in P (y ∷ ys) x a (inr h) = all_in P ys x a.1 h

in_left : (x : Read) (xs ys : List Read) → In x xs → In x (xs ++ ys)
in_left x [] ys h = absurd h
in_left x (y ∷ xs) ys (inl is) = inl is
in_left x (y ∷ xs) ys (inr h) = inr (in_left x xs ys h)

in_right : (x : Read) (xs ys : List Read) → In x ys → In x (xs ++ ys)
in_right x [] ys h = h
in_right x (y ∷ xs) ys h = inr (in_right x xs ys h)

all_after : {A : Type 0} (L : Pieces → A → Pieces → Type 0) (P : Read → Type 0) (m : Out A) (f : A → Pieces → List Read) (i : Pieces) → Sound L m i
    → ((a : A) (r : Pieces) → L i a r → AllIn P (f a r)) → AllIn P (after m f)
all_after L P (Done a r) f i s k = k a r s
all_after L P Fails f i s k = tt
all_after L P Breaks f i s k = tt
all_after L P Deep f i s k = tt

in_after : {A : Type 0} (x : Read) (m : Out A) (f : A → Pieces → List Read) (a : A) (r : Pieces) → m ≡ Done a r → In x (f a r) → In x (after m f)
in_after x m f a r is h = subst (λ o. In x (after o f)) (sym is) h

-- ---- each fragment that the pass reads is reached

module _ (reads : Reading) (vars : Matchers → List Name) (starts : Matchers → Pieces → Bool) (inner : Matchers → Pieces → Out Bindings)
    (I : Matchers → Pieces → Bindings → Pieces → Type 0) (sound : (ms : Matchers) (i : Pieces) → Sound (I ms) (inner ms i) i)
    (Reach : Matchers → Pieces → Specifier → Pieces → Type 0) (log_in : Matchers → Pieces → List Read)
    (reached : (ms : Matchers) (i : Pieces) → AllIn (λ x. (kind : Specifier) × (r : Pieces) × (z : Pieces) × Reach ms i kind r × (reads kind r ≡ Takes x.0 z) × (x.1 ≡ length r)) (log_in ms i)) where
  abbrev At : Matchers → Pieces → Read → Type 0
  At ms i x = (kind : Specifier) × (r : Pieces) × (z : Pieces) × Reach ms i kind r × (reads kind r ≡ Takes x.0 z) × (x.1 ≡ length r)

  abbrev AtNode : Node → Pieces → Read → Type 0
  AtNode l i x = (kind : Specifier) × (r : Pieces) × (z : Pieces) × BeforeNode reads vars I Reach l i kind r × (reads kind r ≡ Takes x.0 z) × (x.1 ≡ length r)

  abbrev AtAll : Matchers → Pieces → Read → Type 0
  AtAll ms i x = (kind : Specifier) × (r : Pieces) × (z : Pieces) × BeforeAll reads vars I Reach ms i kind r × (reads kind r ≡ Takes x.0 z) × (x.1 ≡ length r)

  -- one more copy in front
  push : (body : Matchers) (sep : Option Token) (plus : Bool) (i j k : Pieces) (a : Bindings) (x : Read) → I body i a j → Between sep j k
      → AtNode (Matcher-F.Repeat body sep plus) k x → AtNode (Matcher-F.Repeat body sep plus) i x
  push body sep plus i j k a x h t s = (s.0, s.1, s.2, go s.3, s.4, s.5)
    where
      go : BeforeNode reads vars I Reach (Matcher-F.Repeat body sep plus) k s.0 s.1 → BeforeNode reads vars I Reach (Matcher-F.Repeat body sep plus) i s.0 s.1
      go (inl r) = inr (a ∷ [], j, k, h, t, r)
      go (inr r) = inr (a ∷ r.0, r.1, r.2, cons r.0 r.3, r.4, r.5)
        where
          cons : (cs : List Bindings) → Copies reads vars I body sep k cs r.1 → Copies reads vars I body sep i (a ∷ cs) r.1
          cons [] c = absurd c
          cons (d ∷ cs) c = (j, k, h, t, c)

  reached_copies : (n : ℕ) (body : Matchers) (sep : Option Token) (plus : Bool) (i : Pieces)
      → AllIn (AtNode (Matcher-F.Repeat body sep plus) i) (log_copies reads vars starts inner log_in n body sep i)
  unfolding log_copies
  reached_copies zero body sep plus i = tt
  reached_copies (suc n) body sep plus i =
      all_append (AtNode (Matcher-F.Repeat body sep plus) i) (log_in body i) _
      (all_map (At body i) (AtNode (Matcher-F.Repeat body sep plus) i) (log_in body i) (λ x s. (s.0, s.1, s.2, inl s.3, s.4, s.5)) (reached body i))
      (all_after (I body) (AtNode (Matcher-F.Repeat body sep plus) i) (inner body i) _ i (sound body i)
      (λ a r h. go a r h (continues (starts body) sep r) refl (reached_copies n body sep plus (behind sep r))))
    where
      go : (a : Bindings) (r : Pieces) → I body i a r → (b : Bool) → continues (starts body) sep r ≡ b
          → AllIn (AtNode (Matcher-F.Repeat body sep plus) (behind sep r)) (log_copies reads vars starts inner log_in n body sep (behind sep r))
          → AllIn (AtNode (Matcher-F.Repeat body sep plus) i) (if b then log_copies reads vars starts inner log_in n body sep (behind sep r) else [])
      go a r h true is s = all_map (AtNode (Matcher-F.Repeat body sep plus) (behind sep r)) (AtNode (Matcher-F.Repeat body sep plus) i)
          (log_copies reads vars starts inner log_in n body sep (behind sep r)) (λ x t. push body sep plus i r (behind sep r) a x h (between (starts body) sep r is) t) s
      go a r h false is s = tt

  reached_node : (l : Node) (i : Pieces) → AllIn (AtNode l i) (log_node reads vars starts inner log_in l i)
  unfolding log_node
  reached_node (Matcher-F.Token t) i = tt
  reached_node (Matcher-F.Fragment n kind) i = go (reads kind i) refl
    where
      go : (o : Outcome) → reads kind i ≡ o → AllIn (AtNode (Matcher-F.Fragment n kind) i) (taken i o)
      go (Takes f r) is = ((kind, i, r, (refl, refl), is, refl), tt)
      go CannotStart is = tt
      go NoPrefix is = tt
      go TooDeep is = tt
  reached_node (Matcher-F.Delimited o body c) i =
      all_after (IsToken o) (AtNode (Matcher-F.Delimited o body c) i) (token o i) (λ u r. log_in body r) i (sound_token o i)
      (λ u j h. all_map (At body j) (AtNode (Matcher-F.Delimited o body c) i) (log_in body j) (λ x s. (s.0, s.1, s.2, (j, h, s.3), s.4, s.5)) (reached body j))
  reached_node (Matcher-F.Repeat body sep plus) i = go (plus || starts body i)
    where
      go : (b : Bool) → AllIn (AtNode (Matcher-F.Repeat body sep plus) i) (if b then log_copies reads vars starts inner log_in (suc (length i)) body sep i else [])
      go true = reached_copies (suc (length i)) body sep plus i
      go false = tt

  pub reached_all : (ms : Matchers) (i : Pieces) → AllIn (AtAll ms i) (log_all reads vars starts inner log_in ms i)
  unfolding log_all
  reached_all [] i = tt
  reached_all (m ∷ ms) i =
      all_append (AtAll (m ∷ ms) i) (log_node reads vars starts inner log_in (out-Matcher m) i) _
      (all_map (AtNode (out-Matcher m) i) (AtAll (m ∷ ms) i) (log_node reads vars starts inner log_in (out-Matcher m) i) (λ x s. (s.0, s.1, s.2, inl s.3, s.4, s.5)) (reached_node (out-Matcher m) i))
      (all_after (MatchNode reads vars I (out-Matcher m)) (AtAll (m ∷ ms) i) (node reads vars starts inner (out-Matcher m) i) (λ x r. log_all reads vars starts inner log_in ms r) i
      (sound_node reads vars starts inner I sound (out-Matcher m) i)
      (λ b r h. all_map (AtAll ms r) (AtAll (m ∷ ms) i) (log_all reads vars starts inner log_in ms r) (λ x s. (s.0, s.1, s.2, inr (b, r, h, s.3), s.4, s.5)) (reached_all ms r)))

pub reached_run : (reads : Reading) (depth : ℕ) (ms : Matchers) (i : Pieces) → AllIn (Reads reads depth ms i) (log reads depth ms i)
unfolding log Before
reached_run reads zero ms i = tt
reached_run reads (suc depth) ms i =
    reached_all reads (names depth) (first depth) (run reads depth) (Match reads depth) (sound_run reads depth) (Before reads depth) (log reads depth) (reached_run reads depth) ms i

-- ---- each fragment that is reached is read

module _ (reads : Reading) (owes : Owes reads) (vars : Matchers → List Name) (empty : Matchers → Bool) (starts : Matchers → Pieces → Bool)
    (inner : Matchers → Pieces → Out Bindings) (I : Matchers → Pieces → Bindings → Pieces → Type 0) (Dec : Matchers → (Pieces → Bool) → Type 0)
    (begin : (ms : Matchers) (i r : Pieces) (bs : Bindings) → I ms i bs r → Starts (starts ms i) (empty ms) i r)
    (found_in : (ms : Matchers) (follow : Pieces → Bool) → Dec ms follow → (i r : Pieces) (bs : Bindings) → I ms i bs r → follow r ≡ true → inner ms i ≡ Done bs r)
    (Reach : Matchers → Pieces → Specifier → Pieces → Type 0)
    (begin_reach : (ms : Matchers) (i r : Pieces) (kind : Specifier) → Reach ms i kind r → starts_at kind r ≡ true → starts ms i ≡ true)
    (log_in : Matchers → Pieces → List Read)
    (read_in : (ms : Matchers) (follow : Pieces → Bool) → Dec ms follow → (i r z : Pieces) (kind : Specifier) (f : Taken) → Reach ms i kind r → reads kind r ≡ Takes f z → In (f, length r) (log_in ms i)) where
  abbrev DecNode : Node → (Pieces → Bool) → Type 0
  DecNode l follow = DecidableNode starts empty Dec l follow

  abbrev DecAll : Matchers → (Pieces → Bool) → Type 0
  DecAll ms follow = DecidableAll starts empty Dec ms follow

  starts_taken : (kind : Specifier) (r z : Pieces) (f : Taken) → reads kind r ≡ Takes f z → starts_at kind r ≡ true
  starts_taken kind r z f is = taken_starts reads owes kind r z f is

  on_reach : (body : Matchers) (sep : Option Token) (j k r z : Pieces) (kind : Specifier) (f : Taken) → Between sep j k → Reach body k kind r → reads kind r ≡ Takes f z
      → continues (starts body) sep j ≡ true
  on_reach body None j k r z kind f t h is = ap (λ l. starts body l) t ∙ begin_reach body k r kind h (starts_taken kind r z f is)
  on_reach body (Some s) j k r z kind f t h is = (after_next s j k t).0

  log_turn : (n : ℕ) (body : Matchers) (sep : Option Token) (i j k : Pieces) (a : Bindings) (x : Read) → inner body i ≡ Done a j → continues (starts body) sep j ≡ true → Between sep j k
      → In x (log_copies reads vars starts inner log_in n body sep k) → In x (log_copies reads vars starts inner log_in (suc n) body sep i)
  unfolding log_copies
  log_turn n body sep i j k a x is go t h =
      in_right x (log_in body i) _ (in_after x (inner body i) (λ a r. if continues (starts body) sep r then log_copies reads vars starts inner log_in n body sep (behind sep r) else []) a j is
      (subst (λ b. In x (if b then log_copies reads vars starts inner log_in n body sep (behind sep j) else [])) (sym go)
      (subst (λ l. In x (log_copies reads vars starts inner log_in n body sep l)) (sym (behind_is sep j k t)) h)))

  log_first : (n : ℕ) (body : Matchers) (sep : Option Token) (i : Pieces) (x : Read) → In x (log_in body i) → In x (log_copies reads vars starts inner log_in (suc n) body sep i)
  unfolding log_copies
  log_first n body sep i x h = in_left x (log_in body i) _ h

  read_copies : (cs : List Bindings) (n : ℕ) (body : Matchers) (sep : Option Token) (plus : Bool) (follow : Pieces → Bool) (i j k r z : Pieces) (kind : Specifier) (f : Taken)
      → length i < n → Dec body (λ j. continues (starts body) sep j || follow j) → Solid sep plus (empty body)
      → Copies reads vars I body sep i cs j → Between sep j k → Reach body k kind r → reads kind r ≡ Takes f z → In (f, length r) (log_copies reads vars starts inner log_in n body sep i)
  read_copies cs zero body sep plus follow i j k r z kind f fuel dec solid c t h is = absurd (omega (arith, fuel))
  read_copies [] (suc n) body sep plus follow i j k r z kind f fuel dec solid c t h is = absurd c
  read_copies (a ∷ []) (suc zero) body sep plus follow i j k r z kind f fuel dec solid c t h is =
      absurd (omega (arith, fuel, progress sep plus (starts body i) (empty body) i j k solid (begin body i j a c) t))
  read_copies (a ∷ []) (suc (suc n)) body sep plus follow i j k r z kind f fuel dec solid c t h is =
      let go : continues (starts body) sep j ≡ true = on_reach body sep j k r z kind f t h is in
      log_turn (suc n) body sep i j k a (f, length r)
      (found_in body (λ j. continues (starts body) sep j || follow j) dec i j a c (or-left (continues (starts body) sep j) (follow j) go)) go t
      (log_first n body sep k (f, length r) (read_in body (λ j. continues (starts body) sep j || follow j) dec k r z kind f h is))
  read_copies (a ∷ d ∷ cs) (suc n) body sep plus follow i j k r z kind f fuel dec solid c t h is =
      let next : (j : Pieces) × Starts (starts body c.1) (empty body) c.1 j = first_copy reads owes vars empty starts inner I Dec begin found_in body sep c.1 j (d ∷ cs) c.4 in
      let go : continues (starts body) sep c.0 ≡ true = on (starts body) sep plus (empty body) c.0 c.1 next.0 solid c.3 next.1 in
      log_turn n body sep i c.0 c.1 a (f, length r)
      (found_in body (λ j. continues (starts body) sep j || follow j) dec i c.0 a c.2 (or-left (continues (starts body) sep c.0) (follow c.0) go)) go c.3
      (read_copies (d ∷ cs) n body sep plus follow c.1 j k r z kind f
      (omega (arith, fuel, progress sep plus (starts body i) (empty body) i c.0 c.1 solid (begin body i c.0 a c.2) c.3)) dec solid c.4 t h is)

  read_node : (l : Node) (follow : Pieces → Bool) → DecNode l follow → (i r z : Pieces) (kind : Specifier) (f : Taken) → BeforeNode reads vars I Reach l i kind r → reads kind r ≡ Takes f z
      → In (f, length r) (log_node reads vars starts inner log_in l i)
  unfolding log_node
  read_node (Matcher-F.Token t) follow dec i r z kind f h is = absurd h
  read_node (Matcher-F.Fragment n other) follow dec i r z kind f h is =
      subst (λ o. In (f, length r) (taken i o)) (sym (ap (λ l. reads other l) h.1 ∙ ap (λ x. reads x r) h.0 ∙ is)) (inl (ap (λ l. (f, length l)) h.1))
  read_node (Matcher-F.Delimited o body c) follow dec i r z kind f h is =
      in_after (f, length r) (token o i) (λ u r. log_in body r) (token_there o i h.0 h.1).0 h.0 (token_there o i h.0 h.1).1 (read_in body _ dec h.0 r z kind f h.2 is)
  read_node (Matcher-F.Repeat body sep plus) follow dec i r z kind f h is =
      subst (λ b. In (f, length r) (if b then log_copies reads vars starts inner log_in (suc (length i)) body sep i else [])) (sym (some plus dec.3 h)) (go h)
    where
      some : (plus : Bool) → Solid sep plus (empty body) → BeforeNode reads vars I Reach (Matcher-F.Repeat body sep plus) i kind r → (plus || starts body i) ≡ true
      some true solid h = refl
      some false solid (inl h) = begin_reach body i r kind h (starts_taken kind r z f is)
      some false solid (inr h) = let f : (j : Pieces) × Starts (starts body i) (empty body) i j = first_copy reads owes vars empty starts inner I Dec begin found_in body sep i h.1 h.0 h.3 in
          surely (starts body i) (empty body) i f.0 (solid_star sep (empty body) solid) f.1

      go : BeforeNode reads vars I Reach (Matcher-F.Repeat body sep plus) i kind r → In (f, length r) (log_copies reads vars starts inner log_in (suc (length i)) body sep i)
      go (inl h) = log_first (length i) body sep i (f, length r) (read_in body (λ j. continues (starts body) sep j || follow j) dec.0 i r z kind f h is)
      go (inr h) = read_copies h.0 (suc (length i)) body sep plus follow i h.1 h.2 r z kind f (omega arith) dec.0 dec.3 h.3 h.4 h.5 is

  pub read_all : (ms : Matchers) (follow : Pieces → Bool) → DecAll ms follow → (i r z : Pieces) (kind : Specifier) (f : Taken) → BeforeAll reads vars I Reach ms i kind r → reads kind r ≡ Takes f z
      → In (f, length r) (log_all reads vars starts inner log_in ms i)
  unfolding log_all
  read_all [] follow dec i r z kind f h is = absurd h
  read_all (m ∷ ms) follow dec i r z kind f (inl h) is =
      in_left (f, length r) (log_node reads vars starts inner log_in (out-Matcher m) i) _
      (read_node (out-Matcher m) (λ j. first_all empty starts ms j || (empty_all empty ms && follow j)) dec.0 i r z kind f h is)
  read_all (m ∷ ms) follow dec i r z kind f (inr h) is =
      in_right (f, length r) (log_node reads vars starts inner log_in (out-Matcher m) i) _
      (in_after (f, length r) (node reads vars starts inner (out-Matcher m) i) (λ x r. log_all reads vars starts inner log_in ms r) h.0 h.1
      (found_node reads owes vars empty starts inner I Dec begin found_in (out-Matcher m) (λ j. first_all empty starts ms j || (empty_all empty ms && follow j)) dec.0 i h.1 h.0 h.2
      (or-left (first_all empty starts ms h.1) (empty_all empty ms && follow h.1) (reach_all reads owes vars empty starts I begin Reach begin_reach ms h.1 r kind h.3 (starts_taken kind r z f is))))
      (read_all ms follow dec.1 h.1 r z kind f h.3 is))

pub read_run : (reads : Reading) → Owes reads → (depth : ℕ) (ms : Matchers) (follow : Pieces → Bool) → Decidable depth ms follow
    → (i r z : Pieces) (kind : Specifier) (f : Taken) → Before reads depth ms i kind r → reads kind r ≡ Takes f z → In (f, length r) (log reads depth ms i)
unfolding Before log Decidable
read_run reads owes zero ms follow dec i r z kind f h is = absurd h
read_run reads owes (suc depth) ms follow dec i r z kind f h is =
    read_all reads owes (names depth) (can_be_empty depth) (first depth) (run reads depth) (Match reads depth) (Decidable depth) (begin_run reads owes depth)
    (found_run reads owes depth) (Before reads depth) (reach_run reads owes depth) (log reads depth) (read_run reads owes depth) ms follow dec i r z kind f h is
