-- The text of a macro is read.
use Rattle.std.proofs.lemmas.List.{append-nil}
use Rattle.std.proofs.Common.{◌≡◌, ℕ, Bool, true, false, if◌then◌else◌, List, [], ◌∷◌, ◌++◌, refl, sym, ◌∙◌, ap, subst, append_assoc}
use Rattle.std.specs.Prelude.{codes}
use Rattle.em_base.specs.declared.token.Token.{Token}
use Rattle.em_tree.specs.declared.piece.Delimited.{Delimited}
use Rattle.em_tree.specs.declared.piece.Piece.{Piece}
use Rattle.em_tree.specs.declared.piece.Piece.TheVariants as p
use Rattle.em_tree.specs.Starts.{Pieces, is_spelled}
use Rattle.em_tree.specs.Tokens as tk
use Rattle.em_tree.specs.Tokens.{Is, IsOneOf, Match, Balanced, IsDelimited, delimiters}
use Rattle.em_tree.specs.Yields.{piece}
use Rattle.em_grammar.specs.declared.sort.Written.{Written}
use Rattle.em_grammar.specs.declared.sort.Written.TheVariants as word
use Rattle.em_grammar.specs.declared.sort.Sort.{Sort}
use Rattle.em_grammar.specs.declared.sort.Sort.TheVariants as sort
use Rattle.em_grammar.specs.Sorts.{text_of, sort_of}
use Rattle.em_grammar.specs.Sets.{Set, next, tokens, anything, only, any_of, Nested}
use Rattle.em_grammar.specs.Lang.{Chain, Image}
use Rattle.em_grammar.specs.Reader.{Found, Absent}
use Rattle.em_grammar.specs.TextReader.{Shape, Round, Square, Curly, Side, Opens, Closes, Neither, side, same_shape, shape_of, opens_sort, at_side, text_in, delimited_of, delimited, delimited_pieces, TextsRead}
use Rattle.em_grammar.specs.Pairs.{Pair, Sound, Begins}
use Rattle.em_grammar.proofs.Pairs.{tok, chain_of, tail_of, exactly}
use Rattle.em_grammar.proofs.Forms.{image_of, same_of}
use Rattle.em_grammar.proofs.Tests.{sign, several, any_sort}

-- ---- delimiters

abbrev opener : Shape → Written
opener Round = word.OpenParen
opener Square = word.OpenBracket
opener Curly = word.OpenBrace

abbrev closer : Shape → Written
closer Round = word.CloseParen
closer Square = word.CloseBracket
closer Curly = word.CloseBrace

opens_only : (s : Shape) (k : Sort) → side k ≡ Opens s → only (opener s) k ≡ true
opens_only s (sort.Written word.OpenParen) h = let is : Round ≡ s = cc in subst (λ s. only (opener s) (sort.Written word.OpenParen) ≡ true) is refl
opens_only s (sort.Written word.OpenBracket) h = let is : Square ≡ s = cc in subst (λ s. only (opener s) (sort.Written word.OpenBracket) ≡ true) is refl
opens_only s (sort.Written word.OpenBrace) h = let is : Curly ≡ s = cc in subst (λ s. only (opener s) (sort.Written word.OpenBrace) ≡ true) is refl
opens_only s _ h = cc

closes_only : (s : Shape) (k : Sort) → side k ≡ Closes s → only (closer s) k ≡ true
closes_only s (sort.Written word.CloseParen) h = let is : Round ≡ s = cc in subst (λ s. only (closer s) (sort.Written word.CloseParen) ≡ true) is refl
closes_only s (sort.Written word.CloseBracket) h = let is : Square ≡ s = cc in subst (λ s. only (closer s) (sort.Written word.CloseBracket) ≡ true) is refl
closes_only s (sort.Written word.CloseBrace) h = let is : Curly ≡ s = cc in subst (λ s. only (closer s) (sort.Written word.CloseBrace) ≡ true) is refl
closes_only s _ h = cc

only_opens : (s : Shape) (k : Sort) → only (opener s) k ≡ true → side k ≡ Opens s
only_opens Round (sort.Written word.OpenParen) h = refl
only_opens Round _ h = cc
only_opens Square (sort.Written word.OpenBracket) h = refl
only_opens Square _ h = cc
only_opens Curly (sort.Written word.OpenBrace) h = refl
only_opens Curly _ h = cc

only_closes : (s : Shape) (k : Sort) → only (closer s) k ≡ true → side k ≡ Closes s
only_closes Round (sort.Written word.CloseParen) h = refl
only_closes Round _ h = cc
only_closes Square (sort.Written word.CloseBracket) h = refl
only_closes Square _ h = cc
only_closes Curly (sort.Written word.CloseBrace) h = refl
only_closes Curly _ h = cc

opens_shape : (s : Shape) (k : Sort) → side k ≡ Opens s → (shape_of k ≡ s) × (opens_sort k ≡ true)
opens_shape s (sort.Written word.OpenParen) h = (cc, refl)
opens_shape s (sort.Written word.OpenBracket) h = (cc, refl)
opens_shape s (sort.Written word.OpenBrace) h = (cc, refl)
opens_shape s _ h = cc

shape_opens : (k : Sort) → opens_sort k ≡ true → side k ≡ Opens (shape_of k)
shape_opens (sort.Written word.OpenParen) h = refl
shape_opens (sort.Written word.OpenBracket) h = refl
shape_opens (sort.Written word.OpenBrace) h = refl
shape_opens _ h = cc

abbrev all_sides : List Written
all_sides = word.OpenParen ∷ word.CloseParen ∷ word.OpenBracket ∷ word.CloseBracket ∷ word.OpenBrace ∷ word.CloseBrace ∷ []

neither_sort : (k : Sort) → any_of all_sides k ≡ false → side k ≡ Neither
neither_sort (sort.Written word.OpenParen) h = cc
neither_sort (sort.Written word.OpenBracket) h = cc
neither_sort (sort.Written word.OpenBrace) h = cc
neither_sort (sort.Written word.CloseParen) h = cc
neither_sort (sort.Written word.CloseBracket) h = cc
neither_sort (sort.Written word.CloseBrace) h = cc
neither_sort _ h = refl

sort_neither : (k : Sort) → side k ≡ Neither → any_of all_sides k ≡ false
sort_neither (sort.Written word.OpenParen) h = cc
sort_neither (sort.Written word.OpenBracket) h = cc
sort_neither (sort.Written word.OpenBrace) h = cc
sort_neither (sort.Written word.CloseParen) h = cc
sort_neither (sort.Written word.CloseBracket) h = cc
sort_neither (sort.Written word.CloseBrace) h = cc
sort_neither _ h = refl

plain_token : (t : Token) → side (sort_of t) ≡ Neither → is_spelled delimiters t ≡ false
plain_token t h = sym (any_sort all_sides t) ∙ sort_neither (sort_of t) h

token_plain : (t : Token) → is_spelled delimiters t ≡ false → side (sort_of t) ≡ Neither
token_plain t h = neither_sort (sort_of t) (any_sort all_sides t ∙ h)

abbrev IsOpener : Shape → Token → Type 0
IsOpener s t = Is (text_of (opener s)) t

abbrev IsCloser : Shape → Token → Type 0
IsCloser s t = Is (text_of (closer s)) t

open_is : (s : Shape) (t : Token) → side (sort_of t) ≡ Opens s → IsOpener s t
open_is s t h = (sign (opener s)).holds t (opens_only s (sort_of t) h)

close_is : (s : Shape) (t : Token) → side (sort_of t) ≡ Closes s → IsCloser s t
close_is s t h = (sign (closer s)).holds t (closes_only s (sort_of t) h)

is_open : (s : Shape) (t : Token) → IsOpener s t → side (sort_of t) ≡ Opens s
is_open s t h = only_opens s (sort_of t) ((sign (opener s)).told t h)

is_close : (s : Shape) (t : Token) → IsCloser s t → side (sort_of t) ≡ Closes s
is_close s t h = only_closes s (sort_of t) ((sign (closer s)).told t h)

match_of : (s : Shape) (o c : Token) → IsOpener s o → IsCloser s c → Match o c
match_of Round o c a b = tk.Match.parens a b
match_of Square o c a b = tk.Match.brackets a b
match_of Curly o c a b = tk.Match.braces a b

matches : (o c : Token) → Match o c → (s : Shape) × IsOpener s o × IsCloser s c
matches o c (tk.Match.parens a b) = (Round, a, b)
matches o c (tk.Match.brackets a b) = (Square, a, b)
matches o c (tk.Match.braces a b) = (Curly, a, b)

same : (s u : Shape) → same_shape s u ≡ true → s ≡ u
same Round Round h = refl
same Square Square h = refl
same Curly Curly h = refl
same Round Square h = cc
same Round Curly h = cc
same Square Round h = cc
same Square Curly h = cc
same Curly Round h = cc
same Curly Square h = cc

same_self : (s : Shape) → same_shape s s ≡ true
same_self Round = refl
same_self Square = refl
same_self Curly = refl

-- ---- balanced pieces

both_balanced : (xs ys : Pieces) → Balanced xs → Balanced ys → Balanced (xs ++ ys)
both_balanced _ ys (tk.Balanced.nothing {ys = xs} is) b = subst (λ k. Balanced (k ++ ys)) (sym is) b
both_balanced _ ys (tk.Balanced.piece {ys = xs} y zs is n a) b = tk.Balanced.piece y (zs ++ ys) (ap (λ k. k ++ ys) is) n (both_balanced zs ys a b)
both_balanced _ ys (tk.Balanced.group {ys = xs} o c inner zs is m a e) b =
    tk.Balanced.group o c inner (zs ++ ys) (ap (λ k. k ++ ys) is ∙ ap (λ k. p.Token o ∷ k) (append_assoc inner (p.Token c ∷ zs) ys)) m a (both_balanced zs ys e b)

one_balanced : (y : Piece) → ((t : Token) → y ≡ p.Token t → is_spelled delimiters t ≡ false) → Balanced (y ∷ [])
one_balanced y n = tk.Balanced.piece y [] refl n (tk.Balanced.nothing refl)

-- what was read so far, where these delimiters are open
abbrev Pending : Shape → List Shape → Pieces → Type 0
Pending inner [] ys = Balanced ys
Pending inner (under ∷ outer) ys = (xs : Pieces) × (o : Token) × (zs : Pieces) × Pending under outer xs × IsOpener inner o × Balanced zs × (ys ≡ xs ++ p.Token o ∷ zs)

longer : (inner : Shape) (outer : List Shape) (ys ws : Pieces) → Pending inner outer ys → Balanced ws → Pending inner outer (ys ++ ws)
longer inner [] ys ws a b = both_balanced ys ws a b
longer inner (under ∷ outer) ys ws a b = (a.0, a.1, a.2 ++ ws, a.3, a.4, both_balanced a.2 ws a.5 b, ap (λ k. k ++ ws) a.6 ∙ append_assoc a.0 (p.Token a.1 ∷ a.2) ws)

-- a delimiter closes
closed : (inner under : Shape) (outer : List Shape) (ys : Pieces) (t : Token) → Pending inner (under ∷ outer) ys → IsCloser inner t → Pending under outer (ys ++ p.Token t ∷ [])
closed inner under outer ys t a c =
    subst (λ k. Pending under outer k) (sym (ap (λ k. k ++ p.Token t ∷ []) a.6 ∙ append_assoc a.0 (p.Token a.1 ∷ a.2) (p.Token t ∷ [])))
    (longer under outer a.0 (p.Token a.1 ∷ (a.2 ++ p.Token t ∷ [])) a.3 (tk.Balanced.group a.1 t a.2 [] refl (match_of inner a.1 t a.4 c) a.5 (tk.Balanced.nothing refl)))

abbrev bottom : Shape → List Shape → Shape
bottom s [] = s
bottom s (under ∷ outer) = bottom under outer

abbrev Closed : Shape → ℕ → Pieces × Token → Type 0
Closed s d t = Balanced t.0 × IsCloser s t.1

abbrev closed_pieces : Pieces × Token → Pieces
closed_pieces t = t.0 ++ piece t.1

sound_text : (inner : Shape) (outer : List Shape) (found i j : Pieces) → Pending inner outer found → j ≡ found ++ i → Sound (Closed (bottom inner outer)) closed_pieces (text_in inner outer found i) j
unfolding text_in
sound_text inner outer found [] j a eq = tt
sound_text inner outer found (p.Group g ∷ r) j a eq =
    sound_text inner outer (found ++ p.Group g ∷ []) r j (longer inner outer found (p.Group g ∷ []) a (one_balanced (p.Group g) (λ t is. cc))) (eq ∙ sym (append_assoc found (p.Group g ∷ []) r))
sound_text inner outer found (p.Token t ∷ r) j a eq =
    go (side (sort_of t)) refl outer a (λ x y z b. sound_text x y z r j b)
  where
    cut : j ≡ (found ++ p.Token t ∷ []) ++ r
    cut = eq ∙ sym (append_assoc found (p.Token t ∷ []) r)

    go : (s : Side) → side (sort_of t) ≡ s → (outer : List Shape) → Pending inner outer found
        → ((x : Shape) (y : List Shape) (z : Pieces) → Pending x y z → j ≡ z ++ r → Sound (Closed (bottom x y)) closed_pieces (text_in x y z r) j)
        → Sound (Closed (bottom inner outer)) closed_pieces (at_side s t inner outer found r (λ a b c. text_in a b c r)) j
    go (Opens s) is outer a ih = ih s (inner ∷ outer) (found ++ p.Token t ∷ []) (found, t, [], a, open_is s t is, tk.Balanced.nothing refl, refl) cut
    go Neither is outer a ih =
        ih inner outer (found ++ p.Token t ∷ [])
        (longer inner outer found (p.Token t ∷ []) a (one_balanced (p.Token t) (λ u is2. let e : t ≡ u = cc in subst (λ u. is_spelled delimiters u ≡ false) e (plain_token t is)))) cut
    go (Closes s) is [] a ih = last (same_shape s inner) refl
      where
        last : (b : Bool) → same_shape s inner ≡ b → Sound (Closed inner) closed_pieces (if b then Found (found, t) r else Absent) j
        last true e = ((0, (a, close_is inner t (is ∙ ap (λ k. Closes k) (same s inner e)))), cut)
        last false e = tt
    go (Closes s) is (under ∷ outer) a ih = back (same_shape s inner) refl
      where
        back : (b : Bool) → same_shape s inner ≡ b → Sound (Closed (bottom under outer)) closed_pieces (if b then text_in under outer (found ++ p.Token t ∷ []) r else Absent) j
        back true e = ih under outer (found ++ p.Token t ∷ []) (closed inner under outer found t a (close_is inner t (is ∙ ap (λ k. Closes k) (same s inner e)))) cut
        back false e = tt

-- one token, by what it does
at_token : (inner : Shape) (outer : List Shape) (found r : Pieces) (t : Token) (s : Side) → side (sort_of t) ≡ s
    → text_in inner outer found (p.Token t ∷ r) ≡ at_side s t inner outer found r (λ a b c. text_in a b c r)
unfolding text_in
at_token inner outer found r t s is = ap (λ s. at_side s t inner outer found r (λ a b c. text_in a b c r)) is

at_group : (inner : Shape) (outer : List Shape) (found r : Pieces) (y : Piece) → ((t : Token) → y ≡ p.Token t → is_spelled delimiters t ≡ false)
    → text_in inner outer found (y ∷ r) ≡ text_in inner outer (found ++ y ∷ []) r
unfolding text_in
at_group inner outer found r (p.Group g) n = refl
at_group inner outer found r (p.Token t) n = ap (λ s. at_side s t inner outer found r (λ a b c. text_in a b c r)) (token_plain t (n t refl))

balanced_read : (ys : Pieces) → Balanced ys → (inner : Shape) (outer : List Shape) (found i : Pieces) → text_in inner outer found (ys ++ i) ≡ text_in inner outer (found ++ ys) i
balanced_read _ (tk.Balanced.nothing {ys} is) inner outer found i =
    ap (λ k. text_in inner outer found (k ++ i)) is ∙ ap (λ k. text_in inner outer k i) (sym (append-nil found) ∙ ap (λ k. found ++ k) (sym is))
balanced_read _ (tk.Balanced.piece {ys} y zs is n b) inner outer found i =
    ap (λ k. text_in inner outer found (k ++ i)) is ∙ at_group inner outer found (zs ++ i) y n ∙ balanced_read zs b inner outer (found ++ y ∷ []) i
    ∙ ap (λ k. text_in inner outer k i) (append_assoc found (y ∷ []) zs ∙ ap (λ k. found ++ k) (sym is))
balanced_read _ (tk.Balanced.group {ys} o c xs zs is m a b) inner outer found i =
    let q = matches o c m in
    let f1 : Pieces = found ++ p.Token o ∷ [] in
    let f2 : Pieces = f1 ++ xs in
    ap (λ k. text_in inner outer found (k ++ i)) is
    ∙ at_token inner outer found ((xs ++ p.Token c ∷ zs) ++ i) o (Opens q.0) (is_open q.0 o q.1)
    ∙ ap (λ k. text_in q.0 (inner ∷ outer) f1 k) (append_assoc xs (p.Token c ∷ zs) i)
    ∙ balanced_read xs a q.0 (inner ∷ outer) f1 (p.Token c ∷ (zs ++ i))
    ∙ at_token q.0 (inner ∷ outer) f2 (zs ++ i) c (Closes q.0) (is_close q.0 c q.2)
    ∙ ap (λ b. if b then text_in inner outer (f2 ++ p.Token c ∷ []) (zs ++ i) else Absent) (same_self q.0)
    ∙ balanced_read zs b inner outer (f2 ++ p.Token c ∷ []) i
    ∙ ap (λ k. text_in inner outer k i)
    (append_assoc f2 (p.Token c ∷ []) zs ∙ append_assoc f1 xs (p.Token c ∷ zs) ∙ append_assoc found (p.Token o ∷ []) (xs ++ p.Token c ∷ zs) ∙ ap (λ k. found ++ k) (sym is))

abbrev some : Set
some = record { end = false; token = λ k. true; group = λ f. true }

module _ (H : Pieces → Type 0) (depth : ℕ) (s : Shape) where
  whole_text : (t : Pieces × Token) (r : Pieces) → Closed s depth t → text_in s [] [] (closed_pieces t ++ r) ≡ Found t r
  whole_text t r m =
      ap (λ k. text_in s [] [] k) (append_assoc t.0 (piece t.1) r) ∙ balanced_read t.0 m.0 s [] [] (p.Token t.1 ∷ r)
      ∙ at_token s [] t.0 r t.1 (Closes s) (is_close s t.1 m.1) ∙ ap (λ b. if b then Found (t.0, t.1) r else Absent) (same_self s)

  some_begins : (xs : Pieces) (t : Token) → Begins some (xs ++ piece t)
  some_begins [] t = refl
  some_begins (p.Token u ∷ xs) t = refl
  some_begins (p.Group g ∷ xs) t = refl

  nothing_absent : (i : Pieces) → next some i ≡ false → text_in s [] [] i ≡ Absent
  unfolding text_in
  nothing_absent [] h = refl
  nothing_absent (p.Token t ∷ r) h = cc
  nothing_absent (p.Group g ∷ r) h = cc

  text_pair : Pair H depth (Closed s) closed_pieces (text_in s [] []) some (λ _. anything)
  text_pair = record {
    grows = λ d t m. m;
    sound = λ i. sound_text s [] [] i i (tk.Balanced.nothing refl) refl;
    begins = λ d t h m. some_begins t.0 t.1;
    whole = λ d t r h w m cl. whole_text t r m;
    longest = λ d t r h w m en. exactly (text_in s [] [] (closed_pieces t ++ r)) t r (whole_text t r m);
    absent = nothing_absent;
  }

abbrev openers : List Written
openers = word.OpenParen ∷ word.OpenBracket ∷ word.OpenBrace ∷ []

abbrev Parts : ℕ → Token × (Pieces × Token) → Type 0
Parts = Chain (λ d. IsOneOf (codes "(" ∷ codes "[" ∷ codes "{" ∷ [])) (λ o. Closed (shape_of (sort_of o)))

to_delimited : (d : ℕ) (x : Delimited) → Image delimited_of Parts d x → IsDelimited x
to_delimited d x m =
    let o : Token = m.0.0 in
    let is : side (sort_of o) ≡ Opens (shape_of (sort_of o)) = shape_opens (sort_of o) ((several openers).sorted o m.1.0) in
    subst (λ x. IsDelimited x) (sym m.2)
    (record { ends = match_of (shape_of (sort_of o)) o m.0.1.1 (open_is (shape_of (sort_of o)) o is) m.1.1.1; inside = m.1.1.0 })

of_delimited : (d : ℕ) (x : Delimited) → IsDelimited x → Image delimited_of Parts d x
of_delimited d x m =
    let q = matches x.open x.close m.ends in
    let is = opens_shape q.0 (sort_of x.open) (is_open q.0 x.open q.1) in
    ((x.open, (x.text, x.close)), ((several openers).holds x.open is.1, (m.inside, subst (λ s. IsCloser s x.close) (sym is.0) q.2)), refl)

pub delimited_pair : (H : Pieces → Type 0) (depth : ℕ) → Pair H depth (λ d. IsDelimited) delimited_pieces delimited (tokens opens_sort) (λ _. anything)
delimited_pair H depth =
    same_of to_delimited of_delimited
    (image_of delimited_of delimited_pieces (λ d t m. refl) (λ _. refl) (chain_of (tok (several openers)) (λ o. tail_of (text_pair H depth (shape_of (sort_of o)))) (λ _. refl)))

pub texts_read : TextsRead
texts_read n depth = delimited_pair (Nested n) depth
