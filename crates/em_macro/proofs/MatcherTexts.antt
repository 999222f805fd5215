-- What the steps read of a matcher is its text, and a text of a matcher is read as that.
use Rattle.std.proofs.Common.{◌≡◌, ℕ, zero, suc, ◌<◌, ◌≤◌, ◌⊎◌, inl, inr, true, false, if◌then◌else◌, [], ◌∷◌, length, Option, Some, None, refl, sym, ◌∙◌, ap, subst, arith, codes}
use Rattle.em_base.specs.declared.token.Token.{Token}
use Rattle.em_macro.specs.declared.signs.Role.{Role}
use Rattle.em_macro.specs.declared.signs.Role.TheVariants as role
use Rattle.em_macro.specs.declared.reading.Operator.{Operator}
use Rattle.em_macro.specs.declared.rules.Specifier.{Specifier}
use Rattle.em_macro.specs.declared.rules.Matcher.{Matcher, out-Matcher}
use Rattle.em_macro.specs.declared.rules.Matcher.TheViews.{roll-Matcher, out-roll-Matcher, roll-out-Matcher}
use Rattle.em_macro.specs.declared.rules.Matcher.TheVariants as m
use Rattle.em_macro.specs.declared.rules.Matcher.TheOpen.{Matcher-F}
use Rattle.em_macro.specs.Match.{Name, Matchers, Node}
use Rattle.em_macro.specs.Form as law
use Rattle.em_macro.specs.Form.{Tokens, role_at, is_sign, is_paren, name_of, specified, PartText, PartsText, MatcherText}
use Rattle.em_macro.specs.Steps.{Read, Done, and_then, sign, closing, is_close, at_close, operator, fragment, kind_of, variable, repeat, delimited, dollar, part_as, part, parts, matcher}
use Rattle.em_macro.proofs.TokenTexts.{bound, then_is, chosen, same_done, sign_form, sign_reads, closing_form, closing_reads, close_ends, word_no_paren, op, operator_form, operator_reads, operator_shorter}

-- the tree of a node
abbrev pub tree : Node → Matcher
tree (Matcher-F.Token t) = m.Token t
tree (Matcher-F.Fragment n kind) = m.Fragment n kind
tree (Matcher-F.Delimited o body c) = m.Delimited o body c
tree (Matcher-F.Repeat body sep plus) = m.Repeat body sep plus

backs : (l : Node) → tree l ≡ roll-Matcher l
backs (Matcher-F.Token t) = sym (m.rolls-Token t)
backs (Matcher-F.Fragment n kind) = sym (m.rolls-Fragment n kind)
backs (Matcher-F.Delimited o body c) = sym (m.rolls-Delimited o body c)
backs (Matcher-F.Repeat body sep plus) = sym (m.rolls-Repeat body sep plus)

-- ---- what is read has the form

named_form : (n : Name) (i : Tokens) (o : Option Specifier) (x : Matcher) (r : Tokens) → fragment n i o ≡ Done x r
    → (kind : Specifier) × (o ≡ Some kind) × (x ≡ m.Fragment n kind) × (i ≡ r)
named_form n i None x r h = cc
named_form n i (Some kind) x r h = let (a, b) = same_done (m.Fragment n kind) x i r h in (kind, refl, sym a, b)

kind_form : (n : Name) (i : Tokens) (x : Matcher) (r : Tokens) → kind_of n i ≡ Done x r
    → (y : Token) × (kind : Specifier) × (i ≡ y ∷ r) × (specified y ≡ Some kind) × (x ≡ m.Fragment n kind)
kind_form n [] x r h = cc
kind_form n (y ∷ i) x r h =
    let a : (kind : Specifier) × (specified y ≡ Some kind) × (x ≡ m.Fragment n kind) × (i ≡ r) = named_form n i (specified y) x r h in
    (y, a.0, ap (λ l. y ∷ l) a.3, a.1, a.2)

variable_form : (i : Tokens) (o : Option Name) (x : Matcher) (r : Tokens) → variable i o ≡ Done x r
    → (n : Name) × (c : Token) × (y : Token) × (kind : Specifier) × (o ≡ Some n) × (i ≡ c ∷ y ∷ r) × (is_sign (codes ":") c ≡ true) × (specified y ≡ Some kind) × (x ≡ m.Fragment n kind)
unfolding variable
variable_form i None x r h = cc
variable_form i (Some n) x r h =
    let a : (u : Unit {0}) × (j : Tokens) × (sign (codes ":") i ≡ Done u j) × (kind_of n j ≡ Done x r) = bound (sign (codes ":") i) (λ u r. kind_of n r) x r h in
    let b : (c : Token) × (i ≡ c ∷ a.1) × (is_sign (codes ":") c ≡ true) = sign_form (codes ":") i a.0 a.1 a.2 in
    let c : (y : Token) × (kind : Specifier) × (a.1 ≡ y ∷ r) × (specified y ≡ Some kind) × (x ≡ m.Fragment n kind) = kind_form n a.1 x r a.3 in
    (n, b.0, c.0, c.1, refl, b.1 ∙ ap (λ l. b.0 ∷ l) c.2, b.2, c.3, c.4)

module _ (inner : Tokens → Read Matchers) (Inner : Matchers → Tokens → Tokens → Type 0)
    (formed : (i : Tokens) (ms : Matchers) (r : Tokens) → inner i ≡ Done ms r → Inner ms i r) where
  abbrev IsPart : Tokens → Matcher → Tokens → Type 0
  IsPart i x r = (l : Node) × (x ≡ tree l) × PartText Inner l i r

  repeat_form : (d o : Token) (j : Tokens) (body : Matchers) (i : Tokens) (x : Matcher) (r : Tokens) → role_at d ≡ role.Dollar → is_paren o ≡ true
      → Inner body j i → repeat o body i ≡ Done x r → IsPart (d ∷ o ∷ j) x r
  unfolding repeat
  repeat_form d o j body i x r a b f h =
      let w : (c : Token) × (k : Tokens) × (closing o i ≡ Done c k) × (and_then (operator k) (λ op s. Done (m.Repeat body op.separator op.plus) s) ≡ Done x r)
      = bound (closing o i) (λ c r. and_then (operator r) (λ op s. Done (m.Repeat body op.separator op.plus) s)) x r h in
      let v : (p : Operator) × (s : Tokens) × (operator w.1 ≡ Done p s) × (Done (m.Repeat body p.separator p.plus) s ≡ Done x r)
      = bound (operator w.1) (λ op s. Done (m.Repeat body op.separator op.plus) s) x r w.3 in
      let g : (i ≡ w.0 ∷ w.1) × law.Closes o w.0 = closing_form o i w.0 w.1 w.2 in
      let (e, q) = same_done (m.Repeat body v.0.separator v.0.plus) x v.1 r v.3 in (
        Matcher-F.Repeat body v.0.separator v.0.plus,
        sym e,
        (d, o, w.0, j, w.1, refl, a, b, subst (λ l. Inner body j l) g.0 f, g.1, subst (λ l. law.Operator v.0.separator v.0.plus w.1 l) q (operator_form w.1 v.0 v.1 v.2)),
      )

  delimited_form : (o : Token) (j : Tokens) (body : Matchers) (i : Tokens) (x : Matcher) (r : Tokens) → role_at o ≡ role.Open
      → Inner body j i → delimited o body i ≡ Done x r → IsPart (o ∷ j) x r
  unfolding delimited
  delimited_form o j body i x r a f h =
      let w : (c : Token) × (k : Tokens) × (closing o i ≡ Done c k) × (Done (m.Delimited o body c) k ≡ Done x r) = bound (closing o i) (λ c r. Done (m.Delimited o body c) r) x r h in
      let g : (i ≡ w.0 ∷ w.1) × law.Closes o w.0 = closing_form o i w.0 w.1 w.2 in
      let (e, q) = same_done (m.Delimited o body w.0) x w.1 r w.3 in
      (Matcher-F.Delimited o body w.0, sym e, (j, refl, a, subst (λ l. Inner body j l) (g.0 ∙ ap (λ l. w.0 ∷ l) q) f, g.1))

  dollar_form : (d : Token) (i : Tokens) (x : Matcher) (r : Tokens) → role_at d ≡ role.Dollar → dollar inner i ≡ Done x r → IsPart (d ∷ i) x r
  unfolding dollar
  dollar_form d [] x r a h = cc
  dollar_form d (t ∷ i) x r a h =
      elim (chosen (is_paren t) (and_then (inner i) (λ body r. repeat t body r)) (variable i (name_of t)) (Done x r) h) [
        | inl p ↦
            let w : (body : Matchers) × (j : Tokens) × (inner i ≡ Done body j) × (repeat t body j ≡ Done x r) = bound (inner i) (λ body r. repeat t body r) x r p.1 in
            repeat_form d t i w.0 w.1 x r a p.0 (formed i w.0 w.1 w.2) w.3
        | inr p ↦
            let v : (n : Name) × (c : Token) × (y : Token) × (kind : Specifier) × (name_of t ≡ Some n) × (i ≡ c ∷ y ∷ r) × (is_sign (codes ":") c ≡ true) × (specified y ≡ Some kind)
            × (x ≡ m.Fragment n kind) = variable_form i (name_of t) x r p.1 in
            (Matcher-F.Fragment v.0 v.3, v.8, (d, t, v.1, v.2, ap (λ l. d ∷ t ∷ l) v.5, a, v.4, v.6, v.7))
      ]

  part_form : (t : Token) (i : Tokens) (x : Matcher) (r : Tokens) → part inner (t ∷ i) ≡ Done x r → IsPart (t ∷ i) x r
  unfolding part
  part_form t i x r h = go (role_at t) refl h
    where
      go : (y : Role) → role_at t ≡ y → part_as inner t i y ≡ Done x r → IsPart (t ∷ i) x r
      go role.Dollar is e = dollar_form t i x r is e
      go role.Open is e =
          let w : (body : Matchers) × (j : Tokens) × (inner i ≡ Done body j) × (delimited t body j ≡ Done x r) = bound (inner i) (λ body r. delimited t body r) x r e in
          delimited_form t i w.0 w.1 x r is (formed i w.0 w.1 w.2) w.3
      go role.Close is e = cc
      go role.Other is e = let (a, b) = same_done (m.Token t) x i r e in (Matcher-F.Token t, sym a, (ap (λ l. t ∷ l) b, is))

  parts_form : (n : ℕ) (i : Tokens) (ms : Matchers) (r : Tokens) → parts inner n i ≡ Done ms r → PartsText Inner ms i r
  unfolding parts
  parts_form zero i ms r h = cc
  parts_form (suc n) [] ms r h = let (a, b) = same_done [] ms [] r h in subst (λ l. PartsText Inner l [] r) a b
  parts_form (suc n) (t ∷ i) ms r h =
      step (λ j xs s e. parts_form n j xs s e) (chosen (is_close (role_at t)) (Done [] (t ∷ i)) (and_then (part inner (t ∷ i)) (λ x r. and_then (parts inner n r) (λ xs s. Done (x ∷ xs) s))) (Done ms r) h)
    where
      step : ((j : Tokens) (xs : Matchers) (s : Tokens) → parts inner n j ≡ Done xs s → PartsText Inner xs j s)
          → ((is_close (role_at t) ≡ true) × (Done [] (t ∷ i) ≡ Done ms r))
          ⊎ ((is_close (role_at t) ≡ false) × (and_then (part inner (t ∷ i)) (λ x r. and_then (parts inner n r) (λ xs s. Done (x ∷ xs) s)) ≡ Done ms r))
          → PartsText Inner ms (t ∷ i) r
      step go (inl a) = let (p, q) = same_done [] ms (t ∷ i) r a.1 in subst (λ l. PartsText Inner l (t ∷ i) r) p q
      step go (inr a) =
          let w : (x : Matcher) × (j : Tokens) × (part inner (t ∷ i) ≡ Done x j) × (and_then (parts inner n j) (λ xs s. Done (x ∷ xs) s) ≡ Done ms r)
          = bound (part inner (t ∷ i)) (λ x r. and_then (parts inner n r) (λ xs s. Done (x ∷ xs) s)) ms r a.1 in
          let v : (xs : Matchers) × (s : Tokens) × (parts inner n w.1 ≡ Done xs s) × (Done (w.0 ∷ xs) s ≡ Done ms r) = bound (parts inner n w.1) (λ xs s. Done (w.0 ∷ xs) s) ms r w.3 in
          let f : PartsText Inner v.0 w.1 v.1 = go w.1 v.0 v.1 v.2 in
          let g : IsPart (t ∷ i) w.0 w.1 = part_form t i w.0 w.1 w.2 in
          let (p, q) = same_done (w.0 ∷ v.0) ms v.1 r v.3 in
          let back : out-Matcher w.0 ≡ g.0 = ap (λ x. out-Matcher x) (g.1 ∙ backs g.0) ∙ out-roll-Matcher g.0 in
          let one : PartText Inner (out-Matcher w.0) (t ∷ i) w.1 = subst (λ l. PartText Inner l (t ∷ i) w.1) (sym back) g.2 in
          let whole : PartsText Inner (w.0 ∷ v.0) (t ∷ i) v.1 = (w.1, one, f) in
          subst (λ l. PartsText Inner ms (t ∷ i) l) q (subst (λ l. PartsText Inner l (t ∷ i) v.1) p whole)

pub matcher_form : (depth : ℕ) (i : Tokens) (ms : Matchers) (r : Tokens) → matcher depth i ≡ Done ms r → MatcherText depth ms i r
unfolding matcher MatcherText
matcher_form zero i ms r h = cc
matcher_form (suc depth) i ms r h = parts_form (matcher depth) (MatcherText depth) (matcher_form depth) (suc (length i)) i ms r h

-- ---- what has the form is read

module _ (Inner : Matchers → Tokens → Tokens → Type 0) (shorter : (ms : Matchers) (i r : Tokens) → Inner ms i r → length r ≤ length i) where
  part_shorter : (l : Node) (i r : Tokens) → PartText Inner l i r → length r < length i
  part_shorter (Matcher-F.Token t) i r h = let e : length i ≡ suc (length r) = ap (λ l. length l) h.0 in omega (arith, e)
  part_shorter (Matcher-F.Fragment n kind) i r h = let e : length i ≡ suc (suc (suc (suc (length r)))) = ap (λ l. length l) h.4 in omega (arith, e)
  part_shorter (Matcher-F.Delimited o body c) i r h =
      let e : length i ≡ suc (length h.0) = ap (λ l. length l) h.1 in
      let s : suc (length r) ≤ length h.0 = shorter body h.0 (c ∷ r) h.3 in omega (arith, e, s)
  part_shorter (Matcher-F.Repeat body sep plus) i r h =
      let e : length i ≡ suc (suc (length h.3)) = ap (λ l. length l) h.5 in
      let s : suc (length h.4) ≤ length h.3 = shorter body h.3 (h.2 ∷ h.4) h.8 in
      let o : length r < length h.4 = operator_shorter sep plus h.4 r h.10 in omega (arith, e, s, o)

  parts_shorter : (ms : Matchers) (i r : Tokens) → PartsText Inner ms i r → length r ≤ length i
  parts_shorter [] i r h = let e : length i ≡ length r = ap (λ l. length l) h in omega (arith, e)
  parts_shorter (x ∷ xs) i r h = omega (arith, part_shorter (out-Matcher x) i h.0 h.1, parts_shorter xs h.0 r h.2)

opened : (i : Tokens) (t : Token) (j : Tokens) (x : Role) → i ≡ t ∷ j → role_at t ≡ x → at_close i ≡ is_close x
opened i t j x is e = ap (λ l. at_close l) is ∙ ap (λ y. is_close y) e

module _ (inner : Tokens → Read Matchers) (Inner : Matchers → Tokens → Tokens → Type 0)
    (found : (ms : Matchers) (i r : Tokens) → Inner ms i r → at_close r ≡ true → inner i ≡ Done ms r)
    (shorter : (ms : Matchers) (i r : Tokens) → Inner ms i r → length r ≤ length i) where
  part_reads : (l : Node) (i r : Tokens) → PartText Inner l i r → part inner i ≡ Done (tree l) r
  unfolding part dollar variable repeat delimited
  part_reads (Matcher-F.Token t) i r h = ap (λ l. part inner l) h.0 ∙ ap (λ x. part_as inner t r x) h.1
  part_reads (Matcher-F.Fragment n kind) i r h =
      let tail : Tokens = h.2 ∷ h.3 ∷ r in
      ap (λ l. part inner l) h.4 ∙ ap (λ x. part_as inner h.0 (h.1 ∷ tail) x) h.5
      ∙ ap (λ b. if b then and_then (inner tail) (λ body r. repeat h.1 body r) else variable tail (name_of h.1)) (word_no_paren h.1 n h.6)
      ∙ ap (λ o. variable tail o) h.6 ∙ then_is (sign (codes ":") tail) (λ u r. kind_of n r) tt (h.3 ∷ r) (sign_reads (codes ":") h.2 (h.3 ∷ r) h.7)
      ∙ ap (λ o. fragment n r o) h.8
  part_reads (Matcher-F.Delimited o body c) i r h =
      let is : inner h.0 ≡ Done body (c ∷ r) = found body h.0 (c ∷ r) h.3 (close_ends o c r h.4) in
      ap (λ l. part inner l) h.1 ∙ ap (λ x. part_as inner o h.0 x) h.2 ∙ then_is (inner h.0) (λ body r. delimited o body r) body (c ∷ r) is
      ∙ then_is (closing o (c ∷ r)) (λ c r. Done (m.Delimited o body c) r) c r (closing_reads o c r h.4)
  part_reads (Matcher-F.Repeat body sep plus) i r h =
      let is : inner h.3 ≡ Done body (h.2 ∷ h.4) = found body h.3 (h.2 ∷ h.4) h.8 (close_ends h.1 h.2 h.4 h.9) in
      ap (λ l. part inner l) h.5 ∙ ap (λ x. part_as inner h.0 (h.1 ∷ h.3) x) h.6
      ∙ ap (λ b. if b then and_then (inner h.3) (λ body r. repeat h.1 body r) else variable h.3 (name_of h.1)) h.7
      ∙ then_is (inner h.3) (λ body r. repeat h.1 body r) body (h.2 ∷ h.4) is
      ∙ then_is (closing h.1 (h.2 ∷ h.4)) (λ c r. and_then (operator r) (λ op s. Done (m.Repeat body op.separator op.plus) s)) h.2 h.4 (closing_reads h.1 h.2 h.4 h.9)
      ∙ then_is (operator h.4) (λ op s. Done (m.Repeat body op.separator op.plus) s) (op sep plus) r (operator_reads sep plus h.4 r h.10)

  part_opens : (l : Node) (i r : Tokens) → PartText Inner l i r → at_close i ≡ false
  part_opens (Matcher-F.Token t) i r h = opened i t r role.Other h.0 h.1
  part_opens (Matcher-F.Fragment n kind) i r h = opened i h.0 (h.1 ∷ h.2 ∷ h.3 ∷ r) role.Dollar h.4 h.5
  part_opens (Matcher-F.Delimited o body c) i r h = opened i o h.0 role.Open h.1 h.2
  part_opens (Matcher-F.Repeat body sep plus) i r h = opened i h.0 (h.1 ∷ h.3) role.Dollar h.5 h.6

  parts_reads : (ms : Matchers) (n : ℕ) (i r : Tokens) → length i < n → PartsText Inner ms i r → at_close r ≡ true → parts inner n i ≡ Done ms r
  unfolding parts
  parts_reads ms zero i r fuel h end = absurd (omega (arith, fuel))
  parts_reads [] (suc n) i r fuel h end =
      ap (λ b. if b then Done [] i else and_then (part inner i) (λ x r. and_then (parts inner n r) (λ xs s. Done (x ∷ xs) s))) (ap (λ l. at_close l) h ∙ end)
      ∙ ap (λ l. Done [] l) h
  parts_reads (x ∷ xs) (suc n) i r fuel h end =
      let s : length h.0 < length i = part_shorter Inner shorter (out-Matcher x) i h.0 h.1 in
      let one : part inner i ≡ Done x h.0 = part_reads (out-Matcher x) i h.0 h.1 ∙ ap (λ y. Done y h.0) (backs (out-Matcher x) ∙ roll-out-Matcher x) in
      ap (λ b. if b then Done [] i else and_then (part inner i) (λ x r. and_then (parts inner n r) (λ xs s. Done (x ∷ xs) s))) (part_opens (out-Matcher x) i h.0 h.1)
      ∙ then_is (part inner i) (λ x r. and_then (parts inner n r) (λ xs s. Done (x ∷ xs) s)) x h.0 one
      ∙ then_is (parts inner n h.0) (λ xs s. Done (x ∷ xs) s) xs r (parts_reads xs n h.0 r (omega (arith, fuel, s)) h.2 end)

pub text_shorter : (depth : ℕ) (ms : Matchers) (i r : Tokens) → MatcherText depth ms i r → length r ≤ length i
unfolding MatcherText
text_shorter zero ms i r h = absurd h
text_shorter (suc depth) ms i r h = parts_shorter (MatcherText depth) (text_shorter depth) ms i r h

pub matcher_reads : (depth : ℕ) (ms : Matchers) (i r : Tokens) → MatcherText depth ms i r → at_close r ≡ true → matcher depth i ≡ Done ms r
unfolding MatcherText matcher
matcher_reads zero ms i r h end = absurd h
matcher_reads (suc depth) ms i r h end =
    parts_reads (matcher depth) (MatcherText depth) (matcher_reads depth) (text_shorter depth) ms (suc (length i)) i r (omega arith) h end
