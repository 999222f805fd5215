-- A match takes pieces that the first test knows, or none.
use Rattle.std.proofs.Common.{◌≡◌, ℕ, zero, suc, ◌≤◌, ◌<◌, ◌&&◌, ◌||◌, ◌⊎◌, inl, inr, Bool, true, false, not, if◌then◌else◌, List, [], ◌∷◌, length, Option, Some, None, refl, sym, ◌∙◌, ap, subst, arith}
use Rattle.em_macro.specs.declared.rules.Specifier.{Specifier}
use Rattle.em_base.specs.declared.token.Token.{Token}
use Rattle.em_tree.specs.declared.piece.Piece.TheVariants as p
use Rattle.em_macro.specs.declared.matched.Taken.{Taken}
use Rattle.em_macro.specs.declared.rules.Matcher.{out-Matcher}
use Rattle.em_macro.specs.declared.rules.Matcher.TheOpen.{Matcher-F}
use Rattle.em_tree.specs.Starts.{Pieces}
use Rattle.em_macro.specs.Match.{Name, Reading, Matchers, Bindings, Node, Takes, is_next, names, first, After, Between, Copies, MatchNode, MatchAll, Match, Owes, starts_at, cannot_start, is_sep, empty_node, empty_all, can_be_empty, first_node, first_all}

-- a match begins with a piece that can start it and takes at least that, or the matcher can be empty and takes none
abbrev pub Starts : Bool → Bool → Pieces → Pieces → Type 0
Starts first_is empty_is i r = ((first_is ≡ true) × (length r < length i)) ⊎ ((empty_is ≡ true) × (i ≡ r))

pub or-left : (a b : Bool) → a ≡ true → (a || b) ≡ true
or-left true b is = refl
or-left false b is = cc

pub or-right : (a b : Bool) → b ≡ true → (a || b) ≡ true
or-right true b is = refl
or-right false b is = is

pub and-both : (a b : Bool) → a ≡ true → b ≡ true → (a && b) ≡ true
and-both true b is is2 = is2
and-both false b is is2 = cc

pub not_longer : (a b : Bool) (i r : Pieces) → Starts a b i r → length r ≤ length i
not_longer a b i r (inl h) = omega (arith, h.1)
not_longer a b i r (inr h) = let e : length i ≡ length r = ap (λ l. length l) h.1 in omega (arith, e)

pub after_next : (t : Token) (i r : Pieces) → After t i r → (is_next t i ≡ true) × (length i ≡ suc (length r))
after_next t [] r h = absurd h
after_next t (p.Token u ∷ i) r h = (h.0, ap (λ l. suc (length l)) h.1)
after_next t (x ∷ i) r h = absurd h

pub taken_starts : (reads : Reading) → Owes reads → (kind : Specifier) (i r : Pieces) (f : Taken) → reads kind i ≡ Takes f r → starts_at kind i ≡ true
taken_starts reads owes kind i r f is = owes.1 kind i ∙ ap (λ o. not (cannot_start o)) is

module _ (reads : Reading) (owes : Owes reads) (vars : Matchers → List Name) (empty : Matchers → Bool) (starts : Matchers → Pieces → Bool)
    (I : Matchers → Pieces → Bindings → Pieces → Type 0)
    (begin : (ms : Matchers) (i r : Pieces) (bs : Bindings) → I ms i bs r → Starts (starts ms i) (empty ms) i r) where
  abbrev rep : Matchers → Option Token → Pieces → Bool
  rep body sep i = starts body i || (empty body && is_sep sep i)

  -- one copy, and what comes behind the separator
  more : (body : Matchers) (sep : Option Token) (i j k r : Pieces) → Starts (starts body i) (empty body) i j → Between sep j k
      → Starts (rep body sep k) (empty body) k r → Starts (rep body sep i) (empty body) i r
  more body sep i j k r (inl a) t s = inl (or-left (starts body i) (empty body && is_sep sep i) a.0, omega (arith, a.1, below sep j k t, not_longer (rep body sep k) (empty body) k r s))
    where
      below : (sep : Option Token) (j k : Pieces) → Between sep j k → length k ≤ length j
      below None j k t = let e : length j ≡ length k = ap (λ l. length l) t in omega (arith, e)
      below (Some s) j k t = omega (arith, (after_next s j k t).1)
  more body None i j k r (inr a) t s = subst (λ l. Starts (rep body None l) (empty body) l r) (sym (a.1 ∙ t)) s
  more body (Some x) i j k r (inr a) t s =
      let next : (is_next x j ≡ true) × (length j ≡ suc (length k)) = after_next x j k t in
      let e : length i ≡ length j = ap (λ l. length l) a.1 in
      inl (
        or-right (starts body i) (empty body && is_next x i) (and-both (empty body) (is_next x i) a.0 (ap (λ l. is_next x l) a.1 ∙ next.0)),
        omega (arith, next.1, e, not_longer (rep body (Some x) k) (empty body) k r s),
      )

  last : (body : Matchers) (sep : Option Token) (i r : Pieces) → Starts (starts body i) (empty body) i r → Starts (rep body sep i) (empty body) i r
  last body sep i r (inl a) = inl (or-left (starts body i) (empty body && is_sep sep i) a.0, a.1)
  last body sep i r (inr a) = inr a

  pub begin_copies : (body : Matchers) (sep : Option Token) (cs : List Bindings) (i r : Pieces) → Copies reads vars I body sep i cs r → Starts (rep body sep i) (empty body) i r
  begin_copies body sep [] i r c = absurd c
  begin_copies body sep (a ∷ []) i r c = last body sep i r (begin body i r a c)
  begin_copies body sep (a ∷ b ∷ cs) i r c = more body sep i c.0 c.1 r (begin body i c.0 a c.2) c.3 (begin_copies body sep (b ∷ cs) c.1 r c.4)

  pub begin_node : (l : Node) (i r : Pieces) (bs : Bindings) → MatchNode reads vars I l i bs r → Starts (first_node empty starts l i) (empty_node empty l) i r
  begin_node (Matcher-F.Token t) i r bs h = let a : (is_next t i ≡ true) × (length i ≡ suc (length r)) = after_next t i r h.0 in inl (a.0, omega (arith, a.1))
  begin_node (Matcher-F.Fragment n kind) i r bs h = inl (taken_starts reads owes kind i r h.0 h.1, owes.0 kind i r h.0 h.1)
  begin_node (Matcher-F.Delimited o body c) i r bs h =
      let a : (is_next o i ≡ true) × (length i ≡ suc (length h.0)) = after_next o i h.0 h.2 in
      let z : (is_next c h.1 ≡ true) × (length h.1 ≡ suc (length r)) = after_next c h.1 r h.4 in
      let m : length h.1 ≤ length h.0 = not_longer (starts body h.0) (empty body) h.0 h.1 (begin body h.0 h.1 bs h.3) in
      inl (a.0, omega (arith, a.1, z.1, m))
  begin_node (Matcher-F.Repeat body sep false) i r bs (inl h) = inr (refl, h.1)
  begin_node (Matcher-F.Repeat body sep true) i r bs (inl h) = cc
  begin_node (Matcher-F.Repeat body sep plus) i r bs (inr h) = maybe plus (begin_copies body sep h.0 i r h.1)
    where
      maybe : (plus : Bool) → Starts (rep body sep i) (empty body) i r → Starts (rep body sep i) (if plus then empty body else true) i r
      maybe plus (inl a) = inl a
      maybe true (inr a) = inr a
      maybe false (inr a) = inr (refl, a.1)

  pub begin_all : (ms : Matchers) (i r : Pieces) (bs : Bindings) → MatchAll reads vars I ms i bs r → Starts (first_all empty starts ms i) (empty_all empty ms) i r
  begin_all [] i r bs h = inr (refl, h.0)
  begin_all (m ∷ ms) i r bs h = join (begin_node (out-Matcher m) i h.2 h.0 h.3) (begin_all ms h.2 r h.1 h.4)
    where
      join : Starts (first_node empty starts (out-Matcher m) i) (empty_node empty (out-Matcher m)) i h.2
          → Starts (first_all empty starts ms h.2) (empty_all empty ms) h.2 r → Starts (first_all empty starts (m ∷ ms) i) (empty_all empty (m ∷ ms)) i r
      join (inl a) s = inl (
        or-left (first_node empty starts (out-Matcher m) i) (empty_node empty (out-Matcher m) && first_all empty starts ms i) a.0,
        omega (arith, a.1, not_longer (first_all empty starts ms h.2) (empty_all empty ms) h.2 r s),
      )
      join (inr a) (inl s) =
          let e : length i ≡ length h.2 = ap (λ l. length l) a.1 in
          inl (
            or-right (first_node empty starts (out-Matcher m) i) (empty_node empty (out-Matcher m) && first_all empty starts ms i)
                (and-both (empty_node empty (out-Matcher m)) (first_all empty starts ms i) a.0 (ap (λ l. first_all empty starts ms l) a.1 ∙ s.0)),
            omega (arith, e, s.1),
          )
      join (inr a) (inr s) = inr (and-both (empty_node empty (out-Matcher m)) (empty_all empty ms) a.0 s.0, a.1 ∙ s.1)

pub begin_run : (reads : Reading) → Owes reads → (depth : ℕ) (ms : Matchers) (i r : Pieces) (bs : Bindings)
    → Match reads depth ms i bs r → Starts (first depth ms i) (can_be_empty depth ms) i r
unfolding Match first can_be_empty
begin_run reads owes zero ms i r bs h = absurd h
begin_run reads owes (suc depth) ms i r bs h =
    begin_all reads owes (names depth) (can_be_empty depth) (first depth) (Match reads depth) (begin_run reads owes depth) ms i r bs h
