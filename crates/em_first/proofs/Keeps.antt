-- The first form is kept.
use Rattle.std.proofs.Common.{◌≡◌, ℕ, ◌+◌, Bool, true, false, cond, ◌&&◌, not, List, [], ◌∷◌, ◌++◌, map, codes, refl, subst, sym, ap, ◌∙◌}
use Rattle.std.specs.Prelude.{Option, Some, None, filter}
use Rattle.em_base.specs.declared.edition.Edition.TheVariants.{E2015, E2018}
use Rattle.em_base.specs.declared.token.Token.{Token}
use Rattle.em_base.specs.declared.token.TokenKind.{TokenKind}
use Rattle.em_base.specs.declared.token.TokenKind.TheVariants.{Ident, Lifetime, Int, Char, Byte, Str, ByteStr, Open, Close, Punct}
use Rattle.em_base.specs.Words.{class_of}
use Rattle.em_lex.specs.Marking.{moved, moved_token, raw_kind, growth}
use Rattle.em_first.specs.Keyword.{is_taken, is_taken_kind, is_found, findings, finding}
use Rattle.em_first.specs.Form.{is_keyword, said, name_in, int_in, Begins, NameFirst, IntFirst, LetFirst, PrintFirst, Statement, Let, Print, Body, main_words}
use Rattle.em_first.specs.Events.{first_events}
use Rattle.em_first.specs.Laws.{KeepsCore, NothingLeft, KeepsEvents}
use Rattle.em_first.proofs.One.{both, one_core}
use Rattle.em_first.proofs.Taken.{taken_is, taken_or, taken_kind}

-- the kind of a token, raw where 2018 takes it
abbrev kept_kind : TokenKind → TokenKind
kept_kind kind = cond (is_taken_kind kind) (raw_kind kind) kind

-- a word that isn't taken is said as before
said_kept : (kind : TokenKind) (text w : List ℕ) → is_taken w ≡ false → said kind text ≡ w → said (kept_kind kind) (cond (is_taken_kind kind) (codes "r#" ++ text) text) ≡ w
said_kept kind text w n h = taken_or (λ c. said (cond c (raw_kind kind) kind) (cond c (codes "r#" ++ text) text) ≡ w) kind
    (λ y. let k = taken_kind kind y in both _ (sym k.new ∙ ap is_taken (ap (λ x. said x text) (sym k.is) ∙ h) ∙ n))
    (λ y. h)

-- what is no keyword before and not taken is none of 2018
not_keyword : (w : List ℕ) → is_keyword (class_of E2015 w) ≡ false → is_taken w ≡ false → is_keyword (class_of E2018 w) ≡ false
not_keyword w h k = here (is_keyword (class_of E2018 w)) (is_keyword (class_of E2015 w)) h (taken_is w ∙ k)
  where
    here : (a b : Bool) → b ≡ false → (a && not b) ≡ false → a ≡ false
    here true true e f = both _ e
    here true false e f = f
    here false b e f = refl

name_kept : (kind : TokenKind) (name : List ℕ) → name_in E2015 kind ≡ Some name → name_in E2018 (kept_kind kind) ≡ Some name
name_kept (Ident n true) name h = h
name_kept (Ident n false) name h = here (is_taken n) (is_keyword (class_of E2015 n)) refl refl h
  where
    here : (c k : Bool) → is_taken n ≡ c → is_keyword (class_of E2015 n) ≡ k → cond (not k) (Some n) None ≡ Some name → name_in E2018 (cond c (Ident n true) (Ident n false)) ≡ Some name
    here c true e f g = (cc)
    here true false e f g = g
    here false false e f g = ap (λ k. cond (not k) (Some n) None) (not_keyword n f e) ∙ g
name_kept (Lifetime n) name h = h
name_kept (Int value suffix) name h = h
name_kept (Char value) name h = h
name_kept (Byte value) name h = h
name_kept (Str value) name h = h
name_kept (ByteStr value) name h = h
name_kept Open name h = h
name_kept Close name h = h
name_kept Punct name h = h

int_kept : (kind : TokenKind) (value : ℕ) → int_in kind ≡ Some value → int_in (kept_kind kind) ≡ Some value
int_kept (Ident n raw) value h = (cc)
int_kept (Lifetime n) value h = h
int_kept (Int v suffix) value h = h
int_kept (Char v) value h = h
int_kept (Byte v) value h = h
int_kept (Str v) value h = h
int_kept (ByteStr v) value h = h
int_kept Open value h = h
int_kept Close value h = h
int_kept Punct value h = h

-- none of the words is taken
abbrev AreFree : List (List ℕ) → Type 0
AreFree [] = Unit {0}
AreFree (w ∷ ws) = (is_taken w ≡ false) × AreFree ws

abbrev later : ℕ → List Token → List Token
later by ts = moved is_found E2018 by ts

begins_kept : (by : ℕ) (ws : List (List ℕ)) (ts r : List Token) → AreFree ws → Begins ws ts r → (n : ℕ) × Begins ws (later by ts) (later n r)
begins_kept by [] ts r f h = (by, ap (later by) h)
begins_kept by (w ∷ ws) ts r f h =
    let l = begins_kept (by + growth is_found h.0) ws h.1 r f.1 h.4 in
    (l.0, (moved_token is_found E2018 by h.0, later (by + growth is_found h.0) h.1, ap (later by) h.2, said_kept h.0.kind h.0.text w f.0 h.3, l.1))

names_kept : (by : ℕ) (name : List ℕ) (ts r : List Token) → NameFirst E2015 name ts r → (n : ℕ) × NameFirst E2018 name (later by ts) (later n r)
names_kept by name ts r h = (by + growth is_found h.0, (moved_token is_found E2018 by h.0, ap (later by) h.1, name_kept h.0.kind name h.2))

ints_kept : (by value : ℕ) (ts r : List Token) → IntFirst value ts r → (n : ℕ) × IntFirst value (later by ts) (later n r)
ints_kept by value ts r h = (by + growth is_found h.0, (moved_token is_found E2018 by h.0, ap (later by) h.1, int_kept h.0.kind value h.2))

let_kept : (by : ℕ) (name : List ℕ) (value : ℕ) (ts r : List Token) → LetFirst E2015 name value ts r → (n : ℕ) × LetFirst E2018 name value (later by ts) (later n r)
let_kept by name value ts r h =
    let a = begins_kept by (codes "let" ∷ []) ts h.behind_let (refl, tt) h.is_let in
    let b = names_kept a.0 name h.behind_let h.behind_name h.is_name in
    let c = begins_kept b.0 (codes "=" ∷ []) h.behind_name h.behind_equals (refl, tt) h.is_equals in
    let d = ints_kept c.0 value h.behind_equals h.behind_int h.is_int in
    let e = begins_kept d.0 (codes ";" ∷ []) h.behind_int r (refl, tt) h.ends in (
      e.0,
      record {
        behind_let = later a.0 h.behind_let;
        behind_name = later b.0 h.behind_name;
        behind_equals = later c.0 h.behind_equals;
        behind_int = later d.0 h.behind_int;
        is_let = a.1;
        is_name = b.1;
        is_equals = c.1;
        is_int = d.1;
        ends = e.1;
      },
    )

print_kept : (by : ℕ) (name : List ℕ) (ts r : List Token) → PrintFirst E2015 name ts r → (n : ℕ) × PrintFirst E2018 name (later by ts) (later n r)
print_kept by name ts r h =
    let a = begins_kept by (codes "println" ∷ codes "!" ∷ codes "(" ∷ codes "\"{}\"" ∷ codes "," ∷ []) ts h.behind_comma (refl, (refl, (refl, (refl, (refl, tt))))) h.is_print in
    let b = names_kept a.0 name h.behind_comma h.behind_name h.is_name in
    let c = begins_kept b.0 (codes ")" ∷ codes ";" ∷ []) h.behind_name r (refl, (refl, tt)) h.ends in
    (c.0, record { behind_comma = later a.0 h.behind_comma; behind_name = later b.0 h.behind_name; is_print = a.1; is_name = b.1; ends = c.1 })

body_kept : (by : ℕ) (names : List (List ℕ)) (ts : List Token) (core : List Statement) → Body E2015 names ts core → Body E2018 names (later by ts) core
body_kept by names ts [] h = (begins_kept by (codes "}" ∷ []) ts [] (refl, tt) h).1
body_kept by names ts (Let value ∷ core) h =
    let l = let_kept by h.0 value ts h.1 h.2 in
    (h.0, later l.0 h.1, l.1, body_kept l.0 (h.0 ∷ names) h.1 core h.3)
body_kept by names ts (Print which ∷ core) h =
    let l = print_kept by h.0 ts h.1 h.2 in
    (h.0, later l.0 h.1, l.1, h.3, body_kept l.0 names h.1 core h.4)

pub keeps_core : KeepsCore
keeps_core by ts core h =
    let l = begins_kept by main_words ts h.0 (refl, (refl, (refl, (refl, (refl, tt))))) h.1 in
    (later l.0 h.0, l.1, body_kept l.0 [] h.0 core h.2)

-- a raw word isn't taken again
not_again : (kind : TokenKind) → is_taken_kind (kept_kind kind) ≡ false
not_again kind = taken_or (λ c. is_taken_kind (cond c (raw_kind kind) kind) ≡ false) kind
    (λ y. ap (λ k. is_taken_kind (raw_kind k)) (taken_kind kind y).is)
    (λ n. n)

pub nothing_left : NothingLeft
nothing_left by [] = refl
nothing_left by (t ∷ ts) = none (is_taken_kind (kept_kind t.kind)) (not_again t.kind) (nothing_left (by + growth is_found t) ts)
  where
    none : (c : Bool) → c ≡ false → findings (later (by + growth is_found t) ts) ≡ []
        → map finding (cond c (moved_token is_found E2018 by t ∷ filter is_found (later (by + growth is_found t) ts)) (filter is_found (later (by + growth is_found t) ts))) ≡ []
    none true e h = both _ e
    none false e h = h

pub keeps_events : KeepsEvents
keeps_events by ts old new h k n = ap (λ c. first_events c n) (one_core E2018 (later by ts) old new (keeps_core by ts old h) k)
