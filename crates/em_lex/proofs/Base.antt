-- Tests, cuts of lists, and classes of characters.
use Rattle.std.proofs.Common.{◌≡◌, ◌⊎◌, inl, inr, ℕ, ◌<◌, ◌≤◌, Bool, true, false, not, cond, ◌&&◌, ◌||◌, ◌==◌, nat_lt, List, [], ◌∷◌, ◌++◌, length, take, drop, get_or, refl, sym, ap, ◌∙◌, subst, arith, take-append-drop}
use Rattle.std.specs.Prelude.{nat_eq}
use Rattle.std.proofs.lemmas.Bool.{and_parts, or_cases}
use Rattle.std.proofs.lemmas.Bool.Decides.{nat_tests}
use Rattle.std.proofs.lemmas.Slice.Eq.{bytes_eq-Decides}
use Rattle.std.proofs.lemmas.List.{length-take-le}
use Rattle.std.specs.Char.{is_ascii_digit, is_ascii_alphabetic, is_ascii_alphanumeric}
use Rattle.std.specs.List.{list_all, list_any, prefix_len}
use Rattle.std.specs.Str.{bytes_eq}
use Rattle.unicode_ident.specs.Ident.{is_xid_continue}
use Rattle.unicode_ident.proofs.IdentLemmas.{is_xid_start-ascii, is_xid_continue-ascii}
use Rattle.unicode_ident.proofs.Computing.{unicode_ident}
use Rattle.em_base.specs.Names.{is_start}
use Rattle.em_lex.specs.Characters.{Chars, starts, is_blank}

pub impossible : {A : Type 0} → false ≡ true → A
impossible h = absurd (subst (λ c. cond c ⊥ (Unit {0})) h tt)

pub by_test : (P : Type 0) (c : Bool) → (c ≡ true → P) → (c ≡ false → P) → P
by_test P true f g = f refl
by_test P false f g = g refl

-- what holds of both branches holds of the one that a test chooses
pub pick : {A : Type 0} (P : A → Type 0) (b : Bool) (p q : A) → (b ≡ true → P p) → (b ≡ false → P q) → P (cond b p q)
pick P true p q f g = f refl
pick P false p q f g = g refl

pub both : (a b : Bool) → a ≡ true → b ≡ true → (a && b) ≡ true
both true b h k = k
both false b h k = h

pub not_true : (a : Bool) → not a ≡ true → a ≡ false
not_true false h = refl
not_true true h = impossible h

pub or_false : (a b : Bool) → (a || b) ≡ false → (a ≡ false) × (b ≡ false)
or_false true b h = impossible (sym h)
or_false false b h = (refl, h)

pub and_false : (a b : Bool) → a ≡ true → (a && b) ≡ false → b ≡ false
and_false true b h k = k
and_false false b h k = impossible h

-- P holds of each text of a list
abbrev pub EachOf : (Chars → Type 0) → List Chars → Type 0
EachOf P [] = Unit {0}
EachOf P (x ∷ xs) = P x × EachOf P xs

pub any_of : (P : Chars → Type 0) (w : Chars) (xs : List Chars) → EachOf P xs → list_any (bytes_eq w) xs ≡ true → P w
any_of P w [] e h = impossible h
any_of P w (x ∷ xs) e h = elim (or_cases (bytes_eq w x) (list_any (bytes_eq w) xs) h) [
  | inl a ↦ subst P (sym ((bytes_eq-Decides w x).0 a)) e.0
  | inr a ↦ any_of P w xs e.1 a
]

pub same_text : (w x : Chars) → bytes_eq w x ≡ true → w ≡ x
same_text w x h = (bytes_eq-Decides w x).0 h

pub text_same : (w : Chars) → bytes_eq w w ≡ true
text_same [] = refl
text_same (c ∷ cs) = both (nat_eq c c) (bytes_eq cs cs) (grind (arith, nat_tests)) (text_same cs)

-- ---- cuts

pub record Cut (n : ℕ) (cs : Chars) : Type 0 where
  pub front : Chars
  pub rest : Chars
  pub parts : cs ≡ front ++ rest
  pub len : length front ≡ n
  pub front_is : take n cs ≡ front
  pub rest_is : drop n cs ≡ rest

pub cut : (n : ℕ) (cs : Chars) → n ≤ length cs → Cut n cs
cut n cs h = record { front = take n cs; rest = drop n cs; parts = sym (take-append-drop n cs); len = length-take-le n cs h; front_is = refl; rest_is = refl }

pub take_front : (w rest : Chars) → take (length w) (w ++ rest) ≡ w
take_front [] rest = refl
take_front (c ∷ w) rest = ap (λ l. c ∷ l) (take_front w rest)

pub drop_front : (w rest : Chars) → drop (length w) (w ++ rest) ≡ rest
drop_front [] rest = refl
drop_front (c ∷ w) rest = drop_front w rest

pub index_front : (w : Chars) (c : ℕ) (rest : Chars) → get_or (w ++ c ∷ rest) (length w) 0 ≡ c
index_front [] c rest = refl
index_front (d ∷ w) c rest = index_front w c rest

-- fronts of the same length are the same
pub same_front : (v w x y : Chars) → v ++ x ≡ w ++ y → length v ≡ length w → (v ≡ w) × (x ≡ y)
same_front v w x y e l =
    let a : v ≡ w = sym (take_front v x) ∙ ap (take (length v)) e ∙ ap (λ n. take n (w ++ y)) l ∙ take_front w y in
    let b : x ≡ y = sym (drop_front v x) ∙ ap (drop (length v)) e ∙ ap (λ n. drop n (w ++ y)) l ∙ drop_front w y in
    (a, b)

-- ---- runs

pub starts_first : (p : ℕ → Bool) (cs : Chars) → starts p cs ≡ false → prefix_len p cs ≡ 0
starts_first p [] h = refl
starts_first p (c ∷ cs) h = rw h

pub prefix_all : (p : ℕ → Bool) (w rest : Chars) → list_all p w ≡ true → starts p rest ≡ false → prefix_len p (w ++ rest) ≡ length w
prefix_all p [] rest h s = starts_first p rest s
prefix_all p (c ∷ w) rest h s = let a = and_parts (p c) (list_all p w) h in let more = prefix_all p w rest a.1 s in rw (a.0, more) (omega arith)

pub prefix_most : (p : ℕ → Bool) (w rest : Chars) → list_all p w ≡ true → length w ≤ prefix_len p (w ++ rest)
prefix_most p [] rest h = omega arith
prefix_most p (c ∷ w) rest h = let a = and_parts (p c) (list_all p w) h in let more = prefix_most p w rest a.1 in rw a.0 (omega (arith, more))

-- the front that passes a test, and what follows
pub record Passed (p : ℕ → Bool) (cs : Chars) : Type 0 where
  pub front : Chars
  pub rest : Chars
  pub parts : cs ≡ front ++ rest
  pub len : prefix_len p cs ≡ length front
  pub all : list_all p front ≡ true
  pub ends : starts p rest ≡ false

pub passed : (p : ℕ → Bool) (cs : Chars) → Passed p cs
passed p [] = record { front = []; rest = []; parts = refl; len = refl; all = refl; ends = refl }
passed p (c ∷ cs) =
    by_test (Passed p (c ∷ cs)) (p c)
    (λ h. let r = passed p cs in record { front = c ∷ r.front; rest = r.rest; parts = ap (λ l. c ∷ l) r.parts; len = (let l = r.len in rw (h, l) (omega arith)); all = both (p c) _ h r.all; ends = r.ends })
    (λ h. record { front = []; rest = c ∷ cs; parts = refl; len = rw h; all = refl; ends = h })

-- ---- classes

pub is_start-ascii : (c : ℕ) → c < 128 → is_start c ≡ (c == 95 || is_ascii_alphabetic c)
is_start-ascii c h = ap (λ b. c == 95 || b) (is_xid_start-ascii c h)

-- an ASCII character that is no letter and no `_` starts no word
pub no_start : (c : ℕ) → c < 128 → (c == 95 || is_ascii_alphabetic c) ≡ false → is_start c ≡ false
no_start c h k = is_start-ascii c h ∙ k

pub no_continue : (c : ℕ) → c < 128 → (is_ascii_alphanumeric c || (c == 95)) ≡ false → is_xid_continue c ≡ false
no_continue c h k = is_xid_continue-ascii c h ∙ k

pub digit_continues : (c : ℕ) → is_ascii_digit c ≡ true → is_xid_continue c ≡ true
digit_continues c h = is_xid_continue-ascii c (grind (arith, nat_tests)) ∙ (grind (arith, nat_tests))

far : (c : ℕ) → is_blank c ≡ true → 128 ≤ c → (c ≡ 0x85) ⊎ ((c ≡ 0x200E) ⊎ ((c ≡ 0x200F) ⊎ ((c ≡ 0x2028) ⊎ (c ≡ 0x2029))))
far c h k = grind (arith, nat_tests)

far_start : (c : ℕ) → (c ≡ 0x85) ⊎ ((c ≡ 0x200E) ⊎ ((c ≡ 0x200F) ⊎ ((c ≡ 0x2028) ⊎ (c ≡ 0x2029)))) → is_start c ≡ false
unfolding unicode_ident
far_start c (inl h) = subst (λ c. is_start c ≡ false) (sym h) refl
far_start c (inr (inl h)) = subst (λ c. is_start c ≡ false) (sym h) refl
far_start c (inr (inr (inl h))) = subst (λ c. is_start c ≡ false) (sym h) refl
far_start c (inr (inr (inr (inl h)))) = subst (λ c. is_start c ≡ false) (sym h) refl
far_start c (inr (inr (inr (inr h)))) = subst (λ c. is_start c ≡ false) (sym h) refl

-- whitespace starts no word
pub blank_start : (c : ℕ) → is_blank c ≡ true → is_start c ≡ false
blank_start c h =
    by_test (is_start c ≡ false) (nat_lt c 128)
    (λ low. no_start c (grind (arith, nat_tests)) (grind (arith, nat_tests)))
    (λ high. far_start c (far c h (grind (arith, nat_tests))))

pub ruleset ascii = (is_start-ascii, is_xid_continue-ascii)
