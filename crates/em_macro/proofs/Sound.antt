-- What the pass binds is a match.
use Rattle.std.proofs.Common.{◌≡◌, ℕ, zero, suc, ◌||◌, inl, inr, Bool, true, false, if◌then◌else◌, List, [], ◌∷◌, ◌++◌, length, Option, Some, None, refl, ◌∙◌, ap, append_assoc}
use Rattle.em_base.specs.declared.token.Token.{Token}
use Rattle.em_tree.specs.declared.piece.Piece.TheVariants as p
use Rattle.em_macro.specs.declared.rules.Matcher.{out-Matcher}
use Rattle.em_macro.specs.declared.rules.Matcher.TheOpen.{Matcher-F}
use Rattle.em_tree.specs.Starts.{Pieces}
use Rattle.em_macro.specs.Match.{Name, Reading, Matchers, Bindings, Node, Outcome, Takes, CannotStart, NoPrefix, TooDeep, same, gather, names, first, continues, After, Between, Copies, MatchNode, MatchAll, Match}
use Rattle.em_macro.specs.Run.{Out, Done, Fails, Breaks, Deep, and_then, token, fragment, behind, copies, node, all, run}

abbrev pub Sound : {T : Type 0} → (Pieces → T → Pieces → Type 0) → Out T → Pieces → Type 0
Sound L (Done t r) i = L i t r
Sound L Fails i = Unit {0}
Sound L Breaks i = Unit {0}
Sound L Deep i = Unit {0}

pub sound_then : {A B : Type 0} (L : Pieces → A → Pieces → Type 0) (M : Pieces → B → Pieces → Type 0) (m : Out A) (f : A → Pieces → Out B) (i j : Pieces)
    → Sound L m j → ((a : A) (r : Pieces) → L j a r → Sound M (f a r) i) → Sound M (and_then m f) i
sound_then L M (Done a r) f i j s k = k a r s
sound_then L M Fails f i j s k = tt
sound_then L M Breaks f i j s k = tt
sound_then L M Deep f i j s k = tt

pub sound_map : {T : Type 0} (L M : Pieces → T → Pieces → Type 0) (m : Out T) (i j : Pieces)
    → ((t : T) (r : Pieces) → L j t r → M i t r) → Sound L m j → Sound M m i
sound_map L M (Done a r) i j k s = k a r s
sound_map L M Fails i j k s = tt
sound_map L M Breaks i j k s = tt
sound_map L M Deep i j k s = tt

abbrev pub IsToken : Token → Pieces → Unit {0} → Pieces → Type 0
IsToken t i u r = After t i r

pub sound_token : (t : Token) (i : Pieces) → Sound (IsToken t) (token t i) i
sound_token t [] = tt
sound_token t (p.Token u ∷ i) = go (same t u) refl
  where
    go : (b : Bool) → same t u ≡ b → Sound (IsToken t) (if b then Done tt i else Fails) (p.Token u ∷ i)
    go true is = (is, refl)
    go false is = tt
sound_token t (x ∷ i) = tt

pub between : (starts : Pieces → Bool) (sep : Option Token) (r : Pieces) → continues starts sep r ≡ true → Between sep r (behind sep r)
between starts None r is = refl
between starts (Some s) [] is = cc
between starts (Some s) (p.Token u ∷ r) is = (is, refl)
between starts (Some s) (x ∷ r) is = cc

pub or_false : (a b : Bool) → (a || b) ≡ false → a ≡ false
or_false false b is = refl
or_false true b is = cc

module _ (reads : Reading) (vars : Matchers → List Name) (starts : Matchers → Pieces → Bool) (inner : Matchers → Pieces → Out Bindings)
    (I : Matchers → Pieces → Bindings → Pieces → Type 0) (sound : (ms : Matchers) (i : Pieces) → Sound (I ms) (inner ms i) i) where
  cons_copy : (body : Matchers) (sep : Option Token) (i j k r : Pieces) (a : Bindings) (more : List Bindings) → I body i a j → Between sep j k
      → Copies reads vars I body sep k more r → Copies reads vars I body sep i (a ∷ more) r
  cons_copy body sep i j k r a [] h t c = absurd c
  cons_copy body sep i j k r a (c ∷ cs) h t rest = (j, k, h, t, rest)

  abbrev AppendsCopies : Matchers → Option Token → List Bindings → Pieces → List Bindings → Pieces → Type 0
  AppendsCopies body sep found i cs r = (more : List Bindings) × Copies reads vars I body sep i more r × (cs ≡ found ++ more)

  pub sound_copies : (n : ℕ) (body : Matchers) (sep : Option Token) (found : List Bindings) (i : Pieces)
      → Sound (AppendsCopies body sep found) (copies reads vars starts inner n body sep found i) i
  unfolding copies
  sound_copies zero body sep found i = tt
  sound_copies (suc n) body sep found i =
      sound_then (I body) (AppendsCopies body sep found) (inner body i) _ i i (sound body i) (λ a r h.
      go a r h (sound_copies n body sep (found ++ a ∷ []) (behind sep r)) (continues (starts body) sep r) refl)
    where
      go : (a : Bindings) (r : Pieces) → I body i a r
          → Sound (AppendsCopies body sep (found ++ a ∷ [])) (copies reads vars starts inner n body sep (found ++ a ∷ []) (behind sep r)) (behind sep r)
          → (b : Bool) → continues (starts body) sep r ≡ b
          → Sound (AppendsCopies body sep found) (if b then copies reads vars starts inner n body sep (found ++ a ∷ []) (behind sep r) else Done (found ++ a ∷ []) r) i
      go a r h s true is = sound_map (AppendsCopies body sep (found ++ a ∷ [])) (AppendsCopies body sep found) _ i (behind sep r)
          (λ cs z c. (a ∷ c.0, cons_copy body sep i r (behind sep r) z a c.0 h (between (starts body) sep r is) c.1, c.2 ∙ append_assoc found (a ∷ []) c.0)) s
      go a r h s false is = (a ∷ [], h, refl)

  pub sound_node : (l : Node) (i : Pieces) → Sound (MatchNode reads vars I l) (node reads vars starts inner l i) i
  unfolding node
  sound_node (Matcher-F.Token t) i = sound_then (IsToken t) (MatchNode reads vars I (Matcher-F.Token t)) (token t i) _ i i (sound_token t i) (λ u r h. (h, refl))
  sound_node (Matcher-F.Fragment n kind) i = go (reads kind i) refl
    where
      go : (o : Outcome) → reads kind i ≡ o → Sound (MatchNode reads vars I (Matcher-F.Fragment n kind)) (fragment n o) i
      go (Takes f r) is = (f, is, refl)
      go CannotStart is = tt
      go NoPrefix is = tt
      go TooDeep is = tt
  sound_node (Matcher-F.Delimited o body c) i =
      sound_then (IsToken o) (MatchNode reads vars I (Matcher-F.Delimited o body c)) (token o i) _ i i (sound_token o i) (λ u j h.
      sound_then (I body) (MatchNode reads vars I (Matcher-F.Delimited o body c)) (inner body j) _ i j (sound body j) (λ a k h2.
      sound_then (IsToken c) (MatchNode reads vars I (Matcher-F.Delimited o body c)) (token c k) _ i k (sound_token c k) (λ v z h3. (j, k, h, h2, h3))))
  sound_node (Matcher-F.Repeat body sep plus) i = go (plus || starts body i) refl
    where
      go : (b : Bool) → (plus || starts body i) ≡ b → Sound (MatchNode reads vars I (Matcher-F.Repeat body sep plus))
          (if b then and_then (copies reads vars starts inner (suc (length i)) body sep [] i) (λ cs r. Done (gather (vars body) cs) r) else Done (gather (vars body) []) i) i
      go true is = sound_then (AppendsCopies body sep []) (MatchNode reads vars I (Matcher-F.Repeat body sep plus)) _ _ i i (sound_copies (suc (length i)) body sep [] i)
          (λ cs r c. inr (c.0, c.1, ap (λ l. gather (vars body) l) c.2))
      go false is = inl (or_false plus (starts body i) is, refl, refl)

  pub sound_all : (ms : Matchers) (i : Pieces) → Sound (MatchAll reads vars I ms) (all reads vars starts inner ms i) i
  unfolding all
  sound_all [] i = (refl, refl)
  sound_all (m ∷ ms) i =
      sound_then (MatchNode reads vars I (out-Matcher m)) (MatchAll reads vars I (m ∷ ms)) (node reads vars starts inner (out-Matcher m) i) _ i i (sound_node (out-Matcher m) i) (λ x r h.
      sound_then (MatchAll reads vars I ms) (MatchAll reads vars I (m ∷ ms)) (all reads vars starts inner ms r) _ i r (sound_all ms r) (λ y s h2. (x, y, r, h, h2, refl)))

pub sound_run : (reads : Reading) (depth : ℕ) (ms : Matchers) (i : Pieces) → Sound (Match reads depth ms) (run reads depth ms i) i
unfolding Match run
sound_run reads zero ms i = tt
sound_run reads (suc depth) ms i = sound_all reads (names depth) (first depth) (run reads depth) (Match reads depth) (sound_run reads depth) ms i
