-- The tokens that the parts of rules have in common: what is read is what stands there.
use Rattle.std.proofs.Common.{◌≡◌, ℕ, suc, ◌<◌, ◌⊎◌, inl, inr, ◌&&◌, Bool, true, false, if◌then◌else◌, List, [], ◌∷◌, length, Option, Some, None, refl, ◌∙◌, ap, subst, arith, codes}
use Rattle.std.specs.Str.{bytes_eq}
use Rattle.em_base.specs.declared.token.Token.{Token}
use Rattle.em_base.specs.declared.token.TokenKind.{TokenKind}
use Rattle.em_base.specs.declared.token.TokenKind.TheVariants as t
use Rattle.em_macro.specs.declared.signs.Role.{Role}
use Rattle.em_macro.specs.declared.signs.Role.TheVariants as role
use Rattle.em_macro.specs.declared.reading.Operator.{Operator}
use Rattle.em_macro.specs.Match.{Name}
use Rattle.em_macro.specs.Form as law
use Rattle.em_macro.specs.Form.{Tokens, role_at, is_sign, is_paren, name_of, pairs, plus_of}
use Rattle.em_macro.specs.Steps.{Read, Done, Bad, and_then, sign, opens, opening, closed, closing, is_close, at_close, with_plus, after_separator, separated, with_operator, operator}

pub bound : {A B : Type 0} (o : Read A) (f : A → Tokens → Read B) (b : B) (r : Tokens) → and_then o f ≡ Done b r → (a : A) × (j : Tokens) × (o ≡ Done a j) × (f a j ≡ Done b r)
bound (Done a j) f b r h = (a, j, refl, h)
bound Bad f b r h = cc

pub then_is : {A B : Type 0} (o : Read A) (f : A → Tokens → Read B) (a : A) (j : Tokens) → o ≡ Done a j → and_then o f ≡ f a j
then_is o f a j h = ap (λ x. and_then x f) h

pub chosen : {T : Type 0} (b : Bool) (x y v : Read T) → (if b then x else y) ≡ v → ((b ≡ true) × (x ≡ v)) ⊎ ((b ≡ false) × (y ≡ v))
chosen true x y v h = inl (refl, h)
chosen false x y v h = inr (refl, h)

pub only : {T : Type 0} (b : Bool) (x : Read T) (t : T) (r : Tokens) → (if b then x else Bad) ≡ Done t r → (b ≡ true) × (x ≡ Done t r)
only true x t r h = (refl, h)
only false x t r h = cc

pub unless : {T : Type 0} (b : Bool) (x : Read T) (t : T) (r : Tokens) → (if b then Bad else x) ≡ Done t r → (b ≡ false) × (x ≡ Done t r)
unless true x t r h = cc
unless false x t r h = (refl, h)

pub same_done : {T : Type 0} (a b : T) (i r : Tokens) → ◌≡◌ {A = Read T} (Done a i) (Done b r) → (a ≡ b) × (i ≡ r)
same_done a b i r h = (cc, cc)

-- ---- single tokens

pub sign_form : (text : List ℕ) (i : Tokens) (u : Unit {0}) (r : Tokens) → sign text i ≡ Done u r → (t : Token) × (i ≡ t ∷ r) × (is_sign text t ≡ true)
unfolding sign
sign_form text [] u r h = cc
sign_form text (t ∷ i) u r h =
    let w : (is_sign text t ≡ true) × (Done tt i ≡ Done u r) = only (is_sign text t) (Done tt i) u r h in
    (t, ap (λ l. t ∷ l) (same_done tt u i r w.1).1, w.0)

pub sign_reads : (text : List ℕ) (t : Token) (r : Tokens) → is_sign text t ≡ true → sign text (t ∷ r) ≡ Done tt r
unfolding sign
sign_reads text t r h = ap (λ b. if b then Done tt r else Bad) h

pub opening_form : (i : Tokens) (o : Token) (r : Tokens) → opening i ≡ Done o r → (i ≡ o ∷ r) × (role_at o ≡ role.Open)
unfolding opening
opening_form [] o r h = cc
opening_form (t ∷ i) o r h = go (role_at t) refl h
  where
    go : (x : Role) → role_at t ≡ x → opens t i x ≡ Done o r → (t ∷ i ≡ o ∷ r) × (role_at o ≡ role.Open)
    go role.Open is e =
        let (a, b) = same_done t o i r e in
        (ap (λ l. t ∷ l) b ∙ ap (λ x. x ∷ r) a, subst (λ x. role_at x ≡ role.Open) a is)
    go role.Dollar is e = cc
    go role.Close is e = cc
    go role.Other is e = cc

pub opening_reads : (o : Token) (r : Tokens) → role_at o ≡ role.Open → opening (o ∷ r) ≡ Done o r
unfolding opening
opening_reads o r h = ap (λ x. opens o r x) h

pub closing_form : (o : Token) (i : Tokens) (c : Token) (r : Tokens) → closing o i ≡ Done c r → (i ≡ c ∷ r) × law.Closes o c
unfolding closing
closing_form o [] c r h = cc
closing_form o (t ∷ i) c r h = go (role_at t) refl h
  where
    go : (x : Role) → role_at t ≡ x → closed o t i x ≡ Done c r → (t ∷ i ≡ c ∷ r) × law.Closes o c
    go role.Close is e =
        let w : (pairs o t ≡ true) × (Done t i ≡ Done c r) = only (pairs o t) (Done t i) c r e in
        let (a, b) = same_done t c i r w.1 in
        (ap (λ l. t ∷ l) b ∙ ap (λ x. x ∷ r) a, subst (λ x. law.Closes o x) a (is, w.0))
    go role.Dollar is e = cc
    go role.Open is e = cc
    go role.Other is e = cc

pub closing_reads : (o c : Token) (r : Tokens) → law.Closes o c → closing o (c ∷ r) ≡ Done c r
unfolding closing
closing_reads o c r h = ap (λ x. closed o c r x) h.0 ∙ ap (λ b. if b then Done c r else Bad) h.1

pub close_ends : (o c : Token) (r : Tokens) → law.Closes o c → at_close (c ∷ r) ≡ true
close_ends o c r h = ap (λ x. is_close x) h.0

pub word_no_paren : (w : Token) (n : Name) → name_of w ≡ Some n → is_paren w ≡ false
unfolding name_of is_paren
word_no_paren w n h = go w.kind h
  where
    go : (k : TokenKind) → law.name_in k ≡ Some n → (law.is_open k && bytes_eq w.text (codes "(")) ≡ false
    go (t.Ident name raw) is = refl
    go (t.Lifetime name) is = refl
    go (t.Int value suffix) is = refl
    go (t.Char value) is = refl
    go (t.Byte value) is = refl
    go (t.Str value) is = refl
    go (t.ByteStr value) is = refl
    go t.Open is = cc
    go t.Close is = refl
    go t.Punct is = refl

pub crate_no_paren : (w : Token) → law.is_crate w ≡ true → is_paren w ≡ false
unfolding law.is_crate is_paren
crate_no_paren w h = go w.kind h
  where
    go : (k : TokenKind) → law.is_crate_kind k ≡ true → (law.is_open k && bytes_eq w.text (codes "(")) ≡ false
    go (t.Ident name raw) is = refl
    go (t.Lifetime name) is = refl
    go (t.Int value suffix) is = refl
    go (t.Char value) is = refl
    go (t.Byte value) is = refl
    go (t.Str value) is = refl
    go (t.ByteStr value) is = refl
    go t.Open is = cc
    go t.Close is = refl
    go t.Punct is = refl

-- ---- the operator of a repetition

abbrev pub op : Option Token → Bool → Operator
op sep plus = record { separator = sep; plus = plus }

plus_form : (sep : Option Token) (i : Tokens) (o : Option Bool) (x : Operator) (r : Tokens) → with_plus sep i o ≡ Done x r
    → (plus : Bool) × (o ≡ Some plus) × (op sep plus ≡ x) × (i ≡ r)
plus_form sep i None x r h = cc
plus_form sep i (Some plus) x r h = let (a, b) = same_done (op sep plus) x i r h in (plus, refl, a, b)

after_form : (s : Token) (i : Tokens) (x : Operator) (r : Tokens) → law.CanSeparate s → after_separator s i ≡ Done x r → law.Operator x.separator x.plus (s ∷ i) r
after_form s [] x r can h = cc
after_form s (t ∷ i) x r can h =
    let w : (plus : Bool) × (plus_of t ≡ Some plus) × (op (Some s) plus ≡ x) × (i ≡ r) = plus_form (Some s) i (plus_of t) x r h in
    subst (λ y. law.Operator y.separator y.plus (s ∷ t ∷ i) r) w.2 (t, ap (λ l. s ∷ t ∷ l) w.3, can, w.1)

pub operator_form : (i : Tokens) (x : Operator) (r : Tokens) → operator i ≡ Done x r → law.Operator x.separator x.plus i r
unfolding operator
operator_form [] x r h = cc
operator_form (t ∷ i) x r h = go (plus_of t) refl h
  where
    behind : (y : Role) → role_at t ≡ y → plus_of t ≡ None → separated t i y ≡ Done x r → law.Operator x.separator x.plus (t ∷ i) r
    behind role.Other is none e =
        let w : (is_sign (codes "?") t ≡ false) × (after_separator t i ≡ Done x r) = unless (is_sign (codes "?") t) (after_separator t i) x r e in
        after_form t i x r (is, none, w.0) w.1
    behind role.Dollar is none e = cc
    behind role.Open is none e = cc
    behind role.Close is none e = cc

    go : (o : Option Bool) → plus_of t ≡ o → with_operator t i o ≡ Done x r → law.Operator x.separator x.plus (t ∷ i) r
    go None is e = behind (role_at t) refl is e
    go (Some plus) is e =
        let (a, b) = same_done (op None plus) x i r e in
        subst (λ y. law.Operator y.separator y.plus (t ∷ i) r) a (t, ap (λ l. t ∷ l) b, is)

pub operator_reads : (sep : Option Token) (plus : Bool) (i r : Tokens) → law.Operator sep plus i r → operator i ≡ Done (op sep plus) r
unfolding operator
operator_reads None plus i r h = ap (λ l. operator l) h.1 ∙ ap (λ o. with_operator h.0 r o) h.2
operator_reads (Some s) plus i r h =
    ap (λ l. operator l) h.1 ∙ ap (λ o. with_operator s (h.0 ∷ r) o) h.2.1 ∙ ap (λ x. separated s (h.0 ∷ r) x) h.2.0
    ∙ ap (λ b. if b then Bad else after_separator s (h.0 ∷ r)) h.2.2 ∙ ap (λ o. with_plus (Some s) r o) h.3

pub operator_shorter : (sep : Option Token) (plus : Bool) (i r : Tokens) → law.Operator sep plus i r → length r < length i
operator_shorter None plus i r h = let e : length i ≡ suc (length r) = ap (λ l. length l) h.1 in omega (arith, e)
operator_shorter (Some s) plus i r h = let e : length i ≡ suc (suc (length r)) = ap (λ l. length l) h.1 in omega (arith, e)
