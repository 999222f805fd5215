-- Tokens that are the same are alike: what one token starts or may follow, the other does too, whatever the editions.
use Rattle.std.proofs.Common.{◌≡◌, ℕ, zero, suc, ◌+◌, ◌<◌, nat_eq, length, map, drop, get_or, arith, ◌&&◌, ◌||◌, ◌⊎◌, inl, inr, Bool, true, false, not, List, [], ◌∷◌, Option, Some, None, refl, sym, ◌∙◌, ap, subst}
use Rattle.std.specs.Str.{bytes_eq}
use Rattle.std.specs.Cmp.Lexicographic.{bytes_decides}
use Rattle.std.proofs.lemmas.Bool.Decides.{Decides-eqb}
use Rattle.em_base.specs.declared.token.Token.{Token}
use Rattle.em_base.specs.declared.token.TokenKind.{TokenKind}
use Rattle.em_base.specs.declared.token.TokenKind.TheVariants as t
use Rattle.em_tree.specs.Starts.{is_word, is_literal, is_lifetime, is_close, spelling}
use Rattle.em_macro.specs.Match.{same, same_as, same_bool, class}
use Rattle.em_base.specs.Words.{is_among}
use Rattle.em_macro.specs.Starters.{is_old_name}
use Rattle.em_macro.proofs.Turns.{next_item}

pub clash : (b : Bool) → b ≡ true → b ≡ false → ⊥
clash true is is2 = cc
clash false is is2 = cc

pub is_false : (b : Bool) → (b ≡ true → ⊥) → b ≡ false
is_false true h = absurd (h refl)
is_false false h = refl

pub not_true : (b : Bool) → not b ≡ true → b ≡ false
not_true true h = cc
not_true false h = refl

pub not_false : (b : Bool) → b ≡ false → not b ≡ true
not_false true h = cc
not_false false h = refl

pub and_left : (a b : Bool) → (a && b) ≡ true → a ≡ true
and_left true b h = refl
and_left false b h = cc

pub and_right : (a b : Bool) → (a && b) ≡ true → b ≡ true
and_right true b h = h
and_right false b h = cc

pub and_both : (a b : Bool) → a ≡ true → b ≡ true → (a && b) ≡ true
and_both true b h h2 = h2
and_both false b h h2 = cc

pub or_left : (a b : Bool) → a ≡ true → (a || b) ≡ true
or_left true b h = refl
or_left false b h = cc

pub or_right : (a b : Bool) → b ≡ true → (a || b) ≡ true
or_right true b h = refl
or_right false b h = h

pub or_cases : (a b : Bool) → (a || b) ≡ true → (a ≡ true) ⊎ (b ≡ true)
or_cases true b h = inl refl
or_cases false b h = inr h

-- ---- tokens that are the same

bytes_same : (x y : List ℕ) → bytes_eq x y ≡ true → x ≡ y
bytes_same x y h = (bytes_decides x y).0 h

same_bytes : (x : List ℕ) → bytes_eq x x ≡ true
same_bytes x = (bytes_decides x x).1 refl

bools_same : (a b : Bool) → same_bool a b ≡ true → a ≡ b
bools_same true b h = sym h
bools_same false b h = sym (not_true b h)

same_bools : (b : Bool) → same_bool b b ≡ true
same_bools true = refl
same_bools false = refl

same_number : (n : ℕ) → nat_eq n n ≡ true
same_number n = (Decides-eqb n n).1 refl

-- a token is the same as itself, whatever the edition
as_itself : (k : TokenKind) (x : List ℕ) → same_as k x k x ≡ true
as_itself (t.Ident name raw) x = and_both (bytes_eq name name) (same_bool raw raw) (same_bytes name) (same_bools raw)
as_itself (t.Lifetime name) x = same_bytes x
as_itself (t.Int value suffix) x = same_bytes x
as_itself (t.Char value) x = same_bytes x
as_itself (t.Byte value) x = same_bytes x
as_itself (t.Str value) x = same_bytes x
as_itself (t.ByteStr value) x = same_bytes x
as_itself t.Open x = same_bytes x
as_itself t.Close x = same_bytes x
as_itself t.Punct x = same_bytes x

pub same_itself : (u v : Token) → u.kind ≡ v.kind → u.text ≡ v.text → same u v ≡ true
unfolding same
same_itself u v a b = ap (λ k. same_as u.kind u.text k v.text) (sym a) ∙ ap (λ x. same_as u.kind u.text u.kind x) (sym b) ∙ as_itself u.kind u.text

-- ---- what two tokens that are the same have in common

abbrev of_kind : Token → TokenKind → Token
of_kind u k = record u { kind = k }

abbrev pub Alike : Token → Token → Type 0
Alike u v =
    (is_word u ≡ is_word v) × (is_close u ≡ is_close v) × (is_literal u ≡ is_literal v) × (is_lifetime u ≡ is_lifetime v)
    × (spelling u ≡ spelling v) × (is_old_name u ≡ is_old_name v)

abbrev shown : ℕ → List ℕ → Option (List ℕ)
shown zero x = None
shown (suc zero) x = None
shown (suc (suc zero)) x = None
shown _ x = Some x

-- what a token is that is no word, by its class
abbrev Plain : Token → ℕ → Type 0
Plain u n =
    (is_word u ≡ false) × (is_close u ≡ nat_eq n 4) × (is_literal u ≡ nat_eq n 2) × (is_lifetime u ≡ nat_eq n 1) × (spelling u ≡ shown n u.text) × (is_old_name u ≡ false)

plain : (u : Token) (k : TokenKind) → nat_eq (class k) 0 ≡ false → Plain (of_kind u k) (class k)
plain u (t.Ident name raw) h = cc
plain u (t.Lifetime name) h = (refl, refl, refl, refl, refl, refl)
plain u (t.Int value suffix) h = (refl, refl, refl, refl, refl, refl)
plain u (t.Char value) h = (refl, refl, refl, refl, refl, refl)
plain u (t.Byte value) h = (refl, refl, refl, refl, refl, refl)
plain u (t.Str value) h = (refl, refl, refl, refl, refl, refl)
plain u (t.ByteStr value) h = (refl, refl, refl, refl, refl, refl)
plain u t.Open h = (refl, refl, refl, refl, refl, refl)
plain u t.Close h = (refl, refl, refl, refl, refl, refl)
plain u t.Punct h = (refl, refl, refl, refl, refl, refl)

plain_alike : (u v : Token) (n m : ℕ) → n ≡ m → u.text ≡ v.text → Plain u n → Plain v m → Alike u v
plain_alike u v n m e x a b = (
  a.0 ∙ sym b.0,
  a.1 ∙ ap (λ c. nat_eq c 4) e ∙ sym b.1,
  a.2 ∙ ap (λ c. nat_eq c 2) e ∙ sym b.2,
  a.3 ∙ ap (λ c. nat_eq c 1) e ∙ sym b.3,
  a.4 ∙ ap (λ c. shown c u.text) e ∙ ap (λ y. shown m y) x ∙ sym b.4,
  a.5 ∙ sym b.5,
)

by_class : (k l : TokenKind) (x y : List ℕ) → nat_eq (class k) 0 ≡ false → same_as k x l y ≡ true → (nat_eq (class k) (class l) && bytes_eq x y) ≡ true
by_class (t.Ident name raw) l x y h is = cc
by_class (t.Lifetime name) l x y h is = is
by_class (t.Int value suffix) l x y h is = is
by_class (t.Char value) l x y h is = is
by_class (t.Byte value) l x y h is = is
by_class (t.Str value) l x y h is = is
by_class (t.ByteStr value) l x y h is = is
by_class t.Open l x y h is = is
by_class t.Close l x y h is = is
by_class t.Punct l x y h is = is

number_same : (n m : ℕ) → nat_eq n m ≡ true → n ≡ m
number_same n m h = (Decides-eqb n m).0 h

plain_kinds : (u v : Token) (k l : TokenKind) → nat_eq (class k) 0 ≡ false → same_as k u.text l v.text ≡ true → Alike (of_kind u k) (of_kind v l)
plain_kinds u v k l h is =
    let both : (nat_eq (class k) (class l) && bytes_eq u.text v.text) ≡ true = by_class k l u.text v.text h is in
    let e : class k ≡ class l = number_same (class k) (class l) (and_left (nat_eq (class k) (class l)) (bytes_eq u.text v.text) both) in
    plain_alike (of_kind u k) (of_kind v l) (class k) (class l) e (bytes_same u.text v.text (and_right (nat_eq (class k) (class l)) (bytes_eq u.text v.text) both))
    (plain u k h) (plain v l (ap (λ n. nat_eq n 0) (sym e) ∙ h))

word_alike : (u v : Token) (name other : List ℕ) (raw its : Bool) → (bytes_eq name other && same_bool raw its) ≡ true
    → Alike (of_kind u (t.Ident name raw)) (of_kind v (t.Ident other its))
word_alike u v name other raw its h =
    let n : name ≡ other = bytes_same name other (and_left (bytes_eq name other) (same_bool raw its) h) in
    let r : raw ≡ its = bools_same raw its (and_right (bytes_eq name other) (same_bool raw its) h) in
    subst (λ y. Alike (of_kind u (t.Ident name raw)) (of_kind v (t.Ident other y))) r
    (subst (λ y. Alike (of_kind u (t.Ident name raw)) (of_kind v (t.Ident y raw))) n (itself raw))
  where
    itself : (raw : Bool) → Alike (of_kind u (t.Ident name raw)) (of_kind v (t.Ident name raw))
    itself true = (refl, refl, refl, refl, refl, refl)
    itself false = (refl, refl, refl, refl, refl, refl)

kinds_alike : (u v : Token) (k l : TokenKind) → same_as k u.text l v.text ≡ true → Alike (of_kind u k) (of_kind v l)
kinds_alike u v (t.Ident name raw) l h = word l h
  where
    word : (l : TokenKind) → same_as (t.Ident name raw) u.text l v.text ≡ true → Alike (of_kind u (t.Ident name raw)) (of_kind v l)
    word (t.Ident other its) h = word_alike u v name other raw its h
    word (t.Lifetime other) h = cc
    word (t.Int value suffix) h = cc
    word (t.Char value) h = cc
    word (t.Byte value) h = cc
    word (t.Str value) h = cc
    word (t.ByteStr value) h = cc
    word t.Open h = cc
    word t.Close h = cc
    word t.Punct h = cc
kinds_alike u v (t.Lifetime name) l h = plain_kinds u v (t.Lifetime name) l refl h
kinds_alike u v (t.Int value suffix) l h = plain_kinds u v (t.Int value suffix) l refl h
kinds_alike u v (t.Char value) l h = plain_kinds u v (t.Char value) l refl h
kinds_alike u v (t.Byte value) l h = plain_kinds u v (t.Byte value) l refl h
kinds_alike u v (t.Str value) l h = plain_kinds u v (t.Str value) l refl h
kinds_alike u v (t.ByteStr value) l h = plain_kinds u v (t.ByteStr value) l refl h
kinds_alike u v t.Open l h = plain_kinds u v t.Open l refl h
kinds_alike u v t.Close l h = plain_kinds u v t.Close l refl h
kinds_alike u v t.Punct l h = plain_kinds u v t.Punct l refl h

pub alike : (u v : Token) → same u v ≡ true → Alike u v
unfolding same
alike u v h = kinds_alike u v u.kind v.kind h

-- what tokens that are the same share
abbrev key : TokenKind → List ℕ → ℕ × List ℕ × Bool
key (t.Ident name raw) x = (0, name, raw)
key (t.Lifetime name) x = (1, x, false)
key (t.Int value suffix) x = (2, x, false)
key (t.Char value) x = (2, x, false)
key (t.Byte value) x = (2, x, false)
key (t.Str value) x = (2, x, false)
key (t.ByteStr value) x = (2, x, false)
key t.Open x = (3, x, false)
key t.Close x = (4, x, false)
key t.Punct x = (5, x, false)

plain_key : (k : TokenKind) (x : List ℕ) → nat_eq (class k) 0 ≡ false → key k x ≡ (class k, x, false)
plain_key (t.Ident name raw) x h = cc
plain_key (t.Lifetime name) x h = refl
plain_key (t.Int value suffix) x h = refl
plain_key (t.Char value) x h = refl
plain_key (t.Byte value) x h = refl
plain_key (t.Str value) x h = refl
plain_key (t.ByteStr value) x h = refl
plain_key t.Open x h = refl
plain_key t.Close x h = refl
plain_key t.Punct x h = refl

class_key : (k : TokenKind) (x : List ℕ) → (key k x).0 ≡ class k
class_key (t.Ident name raw) x = refl
class_key (t.Lifetime name) x = refl
class_key (t.Int value suffix) x = refl
class_key (t.Char value) x = refl
class_key (t.Byte value) x = refl
class_key (t.Str value) x = refl
class_key (t.ByteStr value) x = refl
class_key t.Open x = refl
class_key t.Close x = refl
class_key t.Punct x = refl

plain_to_key : (k l : TokenKind) (x y : List ℕ) → nat_eq (class k) 0 ≡ false → same_as k x l y ≡ true → key k x ≡ key l y
plain_to_key k l x y h is =
    let both : (nat_eq (class k) (class l) && bytes_eq x y) ≡ true = by_class k l x y h is in
    let e : class k ≡ class l = number_same (class k) (class l) (and_left (nat_eq (class k) (class l)) (bytes_eq x y) both) in
    let q : x ≡ y = bytes_same x y (and_right (nat_eq (class k) (class l)) (bytes_eq x y) both) in
    plain_key k x h ∙ ap (λ n. (n, x, false)) e ∙ ap (λ z. (class l, z, false)) q ∙ sym (plain_key l y (ap (λ n. nat_eq n 0) (sym e) ∙ h))

to_key : (k l : TokenKind) (x y : List ℕ) → same_as k x l y ≡ true → key k x ≡ key l y
to_key (t.Ident name raw) l x y h = word l h
  where
    word : (l : TokenKind) → same_as (t.Ident name raw) x l y ≡ true → (0, name, raw) ≡ key l y
    word (t.Ident other its) h =
        ap (λ n. (0, n, raw)) (bytes_same name other (and_left (bytes_eq name other) (same_bool raw its) h))
        ∙ ap (λ r. (0, other, r)) (bools_same raw its (and_right (bytes_eq name other) (same_bool raw its) h))
    word (t.Lifetime other) h = cc
    word (t.Int value suffix) h = cc
    word (t.Char value) h = cc
    word (t.Byte value) h = cc
    word (t.Str value) h = cc
    word (t.ByteStr value) h = cc
    word t.Open h = cc
    word t.Close h = cc
    word t.Punct h = cc
to_key (t.Lifetime name) l x y h = plain_to_key (t.Lifetime name) l x y refl h
to_key (t.Int value suffix) l x y h = plain_to_key (t.Int value suffix) l x y refl h
to_key (t.Char value) l x y h = plain_to_key (t.Char value) l x y refl h
to_key (t.Byte value) l x y h = plain_to_key (t.Byte value) l x y refl h
to_key (t.Str value) l x y h = plain_to_key (t.Str value) l x y refl h
to_key (t.ByteStr value) l x y h = plain_to_key (t.ByteStr value) l x y refl h
to_key t.Open l x y h = plain_to_key t.Open l x y refl h
to_key t.Close l x y h = plain_to_key t.Close l x y refl h
to_key t.Punct l x y h = plain_to_key t.Punct l x y refl h

by_classes : (k l : TokenKind) (x y : List ℕ) → nat_eq (class k) 0 ≡ false → (nat_eq (class k) (class l) && bytes_eq x y) ≡ true → same_as k x l y ≡ true
by_classes (t.Ident name raw) l x y h is = cc
by_classes (t.Lifetime name) l x y h is = is
by_classes (t.Int value suffix) l x y h is = is
by_classes (t.Char value) l x y h is = is
by_classes (t.Byte value) l x y h is = is
by_classes (t.Str value) l x y h is = is
by_classes (t.ByteStr value) l x y h is = is
by_classes t.Open l x y h is = is
by_classes t.Close l x y h is = is
by_classes t.Punct l x y h is = is

plain_from_key : (k l : TokenKind) (x y : List ℕ) → nat_eq (class k) 0 ≡ false → key k x ≡ key l y → same_as k x l y ≡ true
plain_from_key k l x y h is =
    let e : class k ≡ class l = sym (class_key k x) ∙ ap (λ z. z.0) is ∙ class_key l y in
    let q : x ≡ y = ap (λ z. z.1) (sym (plain_key k x h) ∙ is ∙ plain_key l y (ap (λ n. nat_eq n 0) (sym e) ∙ h)) in
    by_classes k l x y h
    (and_both (nat_eq (class k) (class l)) (bytes_eq x y) (subst (λ n. nat_eq (class k) n ≡ true) e (same_number (class k))) (subst (λ z. bytes_eq x z ≡ true) q (same_bytes x)))

from_key : (k l : TokenKind) (x y : List ℕ) → key k x ≡ key l y → same_as k x l y ≡ true
from_key (t.Ident name raw) l x y h = word l h
  where
    word : (l : TokenKind) → ◌≡◌ {A = ℕ × List ℕ × Bool} (0, name, raw) (key l y) → same_as (t.Ident name raw) x l y ≡ true
    word (t.Ident other its) h =
        and_both (bytes_eq name other) (same_bool raw its) (subst (λ z. bytes_eq name z ≡ true) (ap (λ z. z.1) h) (same_bytes name))
        (subst (λ z. same_bool raw z ≡ true) (ap (λ z. z.2) h) (same_bools raw))
    word (t.Lifetime other) h = let e : ◌≡◌ {A = ℕ} 0 1 = ap (λ z. z.0) h in cc
    word (t.Int value suffix) h = let e : ◌≡◌ {A = ℕ} 0 2 = ap (λ z. z.0) h in cc
    word (t.Char value) h = let e : ◌≡◌ {A = ℕ} 0 2 = ap (λ z. z.0) h in cc
    word (t.Byte value) h = let e : ◌≡◌ {A = ℕ} 0 2 = ap (λ z. z.0) h in cc
    word (t.Str value) h = let e : ◌≡◌ {A = ℕ} 0 2 = ap (λ z. z.0) h in cc
    word (t.ByteStr value) h = let e : ◌≡◌ {A = ℕ} 0 2 = ap (λ z. z.0) h in cc
    word t.Open h = let e : ◌≡◌ {A = ℕ} 0 3 = ap (λ z. z.0) h in cc
    word t.Close h = let e : ◌≡◌ {A = ℕ} 0 4 = ap (λ z. z.0) h in cc
    word t.Punct h = let e : ◌≡◌ {A = ℕ} 0 5 = ap (λ z. z.0) h in cc
from_key (t.Lifetime name) l x y h = plain_from_key (t.Lifetime name) l x y refl h
from_key (t.Int value suffix) l x y h = plain_from_key (t.Int value suffix) l x y refl h
from_key (t.Char value) l x y h = plain_from_key (t.Char value) l x y refl h
from_key (t.Byte value) l x y h = plain_from_key (t.Byte value) l x y refl h
from_key (t.Str value) l x y h = plain_from_key (t.Str value) l x y refl h
from_key (t.ByteStr value) l x y h = plain_from_key (t.ByteStr value) l x y refl h
from_key t.Open l x y h = plain_from_key t.Open l x y refl h
from_key t.Close l x y h = plain_from_key t.Close l x y refl h
from_key t.Punct l x y h = plain_from_key t.Punct l x y refl h

-- tokens that are both the same as a third one
pub same_shared : (u v w : Token) → same u w ≡ true → same v w ≡ true → same u v ≡ true
unfolding same
same_shared u v w a b = from_key u.kind v.kind u.text v.text (to_key u.kind w.kind u.text w.text a ∙ sym (to_key v.kind w.kind v.text w.text b))

-- ---- lists of words

any_default : {A : Type 0} (xs : List A) (at : ℕ) (d e : A) → at < length xs → get_or xs at d ≡ get_or xs at e
any_default [] at d e below = absurd (omega (arith, below))
any_default (x ∷ xs) zero d e below = refl
any_default (x ∷ xs) (suc at) d e below = any_default xs at d e (omega (arith, below))

pub among_next : {A : Type 0} (f : A → List ℕ) (xs : List A) (at : ℕ) (d : A) (text : List ℕ) (found : Bool) → at < length xs → bytes_eq (f (get_or xs at d)) text ≡ found
    → is_among (map f (drop at xs)) text ≡ (found || is_among (map f (drop (at + 1) xs)) text)
among_next f xs at d text found below same =
    ap (λ l. is_among (map f l) text) (next_item xs at (get_or xs at d) below (any_default xs at d (get_or xs at d) below))
    ∙ ap (λ b. b || is_among (map f (drop (at + 1) xs)) text) same
