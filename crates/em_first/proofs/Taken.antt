-- What holds of each word that 2018 takes.
use Rattle.std.proofs.Common.{◌≡◌, ℕ, Bool, true, false, cond, not, ◌&&◌, ◌||◌, List, [], ◌∷◌, ◌++◌, map, codes, refl, subst, sym, ap, ◌∙◌, Bor}
use Rattle.std.specs.Prelude.{All}
use Rattle.std.specs.List.{list_any}
use Rattle.std.specs.Str.{bytes_eq}
use Rattle.std.proofs.lemmas.List.Elements.{All-nil, All-cons}
use Rattle.std.proofs.lemmas.Slice.Eq.{bytes_eq-Decides}
use Rattle.em_base.specs.declared.edition.Edition.TheVariants.{E2015, E2018}
use Rattle.em_base.specs.declared.token.Token.{Token}
use Rattle.em_base.specs.declared.token.TokenKind.{TokenKind}
use Rattle.em_base.specs.declared.token.TokenKind.TheVariants.{Ident, Lifetime, Int, Char, Byte, Str, ByteStr, Open, Close, Punct}
use Rattle.em_base.specs.declared.words.Class.TheVariants as class
use Rattle.em_base.specs.Words.{always, from_2018, is_among, class_of, class_of_new}
use Rattle.em_lex.specs.Spelling.{is_never_raw}
use Rattle.em_lex.specs.Marking.{HasRawForm}
use Rattle.em_first.specs.Form.{is_keyword}
use Rattle.em_first.specs.Keyword.{is_taken, is_taken_kind, is_found}
use Rattle.em_first.proofs.One.{both}

-- the equality of texts is symmetric
pub bytes_eq_sym : (xs ys : List ℕ) → bytes_eq xs ys ≡ bytes_eq ys xs
bytes_eq_sym xs ys = here (bytes_eq xs ys) (bytes_eq ys xs) (λ h. (bytes_eq-Decides ys xs).1 (sym ((bytes_eq-Decides xs ys).0 h))) (λ h. (bytes_eq-Decides xs ys).1 (sym ((bytes_eq-Decides ys xs).0 h)))
  where
    here : (a b : Bool) → (a ≡ true → b ≡ true) → (b ≡ true → a ≡ true) → a ≡ b
    here true b f g = sym (f refl)
    here false true f g = g refl
    here false false f g = refl

either : (P : Type 0) (a b : Bool) → (a ≡ true → P) → (b ≡ true → P) → (a || b) ≡ true → P
either P true b f g h = f refl
either P false b f g h = g h

-- what holds of the four words holds of each taken name
pub each_taken : (P : List ℕ → Type 0) → P (codes "async") → P (codes "await") → P (codes "dyn") → P (codes "try") → (w : List ℕ) → is_taken w ≡ true → P w
each_taken P a b c d w h =
    either _ (bytes_eq (codes "async") w) _ (is (codes "async") a)
    (either _ (bytes_eq (codes "await") w) _ (is (codes "await") b)
    (either _ (bytes_eq (codes "dyn") w) _ (is (codes "dyn") c)
    (either _ (bytes_eq (codes "try") w) _ (is (codes "try") d) (λ f. both _ (sym f))))) h
  where
    is : (v : List ℕ) → P v → bytes_eq v w ≡ true → P w
    is v p e = subst P ((bytes_eq-Decides v w).0 e) p

-- a taken name is no keyword of every edition
not_always : (w : List ℕ) → is_taken w ≡ true → is_among always w ≡ false
not_always = each_taken (λ w. is_among always w ≡ false) refl refl refl refl

-- in 2015 a new keyword is none
none_before : (w : List ℕ) → is_keyword (class_of_new E2015 w) ≡ false
none_before w = here (bytes_eq w (codes "dyn"))
  where
    here : (c : Bool) → is_keyword (cond c class.Weak class.Ident) ≡ false
    here true = refl
    here false = refl

-- the taken names are the keywords of 2018 that are none of 2015
pub taken_is : (w : List ℕ) → (is_keyword (class_of E2018 w) && not (is_keyword (class_of E2015 w))) ≡ is_taken w
unfolding class_of
taken_is w = here (is_among always w) (is_among from_2018 w) (not_always w)
  where
    here : (a b : Bool) → (b ≡ true → a ≡ false) → (is_keyword (cond a class.Keyword (cond b class.Keyword class.Ident)) && not (is_keyword (cond a class.Keyword (cond b (class_of_new E2015 w) class.Ident)))) ≡ b
    here true true f = both _ (f refl)
    here true false f = refl
    here false true f = ap not (none_before w)
    here false false f = refl

-- a word is taken or not
pub taken_or : (P : Bool → Type 0) (kind : TokenKind) → (is_taken_kind kind ≡ true → P true) → (is_taken_kind kind ≡ false → P false) → P (is_taken_kind kind)
taken_or P kind y n = here (is_taken_kind kind) refl
  where
    here : (c : Bool) → is_taken_kind kind ≡ c → P c
    here true h = y h
    here false h = n h

-- a taken kind is an identifier that isn't raw
pub record Taken (kind : TokenKind) : Type 0 where
  pub name : List ℕ
  pub is : kind ≡ Ident name false
  pub new : is_taken name ≡ true

pub taken_kind : (kind : TokenKind) → is_taken_kind kind ≡ true → Taken kind
taken_kind (Ident name true) h = both _ (sym h)
taken_kind (Ident name false) h = record { name = name; is = refl; new = h }
taken_kind (Lifetime name) h = both _ (sym h)
taken_kind (Int value suffix) h = both _ (sym h)
taken_kind (Char value) h = both _ (sym h)
taken_kind (Byte value) h = both _ (sym h)
taken_kind (Str value) h = both _ (sym h)
taken_kind (ByteStr value) h = both _ (sym h)
taken_kind Open h = both _ (sym h)
taken_kind Close h = both _ (sym h)
taken_kind Punct h = both _ (sym h)

-- each found word has a raw form
pub all_have_raw : (ts : List Token) → All (HasRawForm is_found) ts
all_have_raw [] = All-nil (HasRawForm is_found)
all_have_raw (t ∷ ts) = All-cons (HasRawForm is_found) t ts raw (all_have_raw ts)
  where
    raw : HasRawForm is_found t
    raw h = let k = taken_kind t.kind h in (k.name, k.is, each_taken (λ (w : List ℕ). is_never_raw w ≡ false) refl refl refl refl k.name k.new)

-- the code's two ways to tell it
pub first_no : (w : List ℕ) (a : Bool) → a ≡ is_keyword (class_of E2018 w) → a ≡ false → a ≡ is_taken w
first_no w a h n = n ∙ sym (sym (taken_is w) ∙ ap (λ c. c && not (is_keyword (class_of E2015 w))) (sym h ∙ n))

pub first_yes : (w : List ℕ) (a b : Bool) → a ≡ is_keyword (class_of E2018 w) → a ≡ true → b ≡ is_keyword (class_of E2015 w) → not b ≡ is_taken w
first_yes w a b h y k = ap not k ∙ ap (λ c. c && not (is_keyword (class_of E2015 w))) (sym (sym h ∙ y)) ∙ taken_is w
