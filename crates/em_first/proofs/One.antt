-- A program has one list of statements.
use Rattle.std.proofs.Common.{◌≡◌, ℕ, true, false, List, [], ◌∷◌, drop, get_or, codes, refl, subst, sym, ap, ◌∙◌}
use Rattle.std.specs.Prelude.{Option, Some, None}
use Rattle.std.specs.Str.{bytes_eq}
use Rattle.std.proofs.lemmas.Slice.Eq.{bytes_eq-Decides}
use Rattle.em_base.specs.declared.edition.Edition.{Edition}
use Rattle.em_base.specs.declared.token.Token.{Token}
use Rattle.em_first.specs.Form.{said, name_in, int_in, latest, Begins, NameFirst, IntFirst, LetFirst, PrintFirst, Statement, Let, Print, Body, main_words}
use Rattle.em_first.specs.Laws.{OneCore}

pub both : (P : Type 0) → true ≡ false → P
both P h = (cc)

some_is : {A : Type 0} (a b : A) → Some a ≡ Some b → a ≡ b
some_is a b h = cc

first_is : (t u : Token) (ts us : List Token) → t ∷ ts ≡ u ∷ us → t ≡ u
first_is t u ts us h = cc

pub begins_one : (ws : List (List ℕ)) (ts a b : List Token) → Begins ws ts a → Begins ws ts b → a ≡ b
begins_one [] ts a b h k = sym h ∙ k
begins_one (w ∷ ws) ts a b h k =
    let e : h.1 ≡ k.1 = ap (drop 1) (sym h.2 ∙ k.2) in
    begins_one ws h.1 a b h.4 (subst (λ us. Begins ws us b) (sym e) k.4)

-- what two tokens' words say stands behind an equal front
record Same {A : Type 0} (x y : A) (a b : List Token) : Type 0 where
  value : x ≡ y
  rest : a ≡ b

name_one : (edition : Edition) (m n : List ℕ) (ts a b : List Token) → NameFirst edition m ts a → NameFirst edition n ts b → Same m n a b
name_one edition m n ts a b h k =
    let e : h.0 ∷ a ≡ k.0 ∷ b = sym h.1 ∙ k.1 in
    record { value = some_is m n (sym h.2 ∙ ap (λ (t : Token). name_in edition t.kind) (first_is _ _ _ _ e) ∙ k.2); rest = ap (drop 1) e }

int_one : (u v : ℕ) (ts a b : List Token) → IntFirst u ts a → IntFirst v ts b → Same u v a b
int_one u v ts a b h k =
    let e : h.0 ∷ a ≡ k.0 ∷ b = sym h.1 ∙ k.1 in
    record { value = some_is u v (sym h.2 ∙ ap (λ (t : Token). int_in t.kind) (first_is _ _ _ _ e) ∙ k.2); rest = ap (drop 1) e }

-- two readings of a `let`
pub record SameLet (m n : List ℕ) (u v : ℕ) (a b : List Token) : Type 0 where
  pub name : m ≡ n
  pub value : u ≡ v
  pub rest : a ≡ b

pub let_one : (edition : Edition) (m n : List ℕ) (u v : ℕ) (ts a b : List Token) → LetFirst edition m u ts a → LetFirst edition n v ts b → SameLet m n u v a b
let_one edition m n u v ts a b h k =
    let e = begins_one (codes "let" ∷ []) ts h.behind_let k.behind_let h.is_let k.is_let in
    let f = name_one edition m n h.behind_let h.behind_name k.behind_name h.is_name (subst (λ x. NameFirst edition n x k.behind_name) (sym e) k.is_name) in
    let g = begins_one (codes "=" ∷ []) h.behind_name h.behind_equals k.behind_equals h.is_equals (subst (λ x. Begins (codes "=" ∷ []) x k.behind_equals) (sym f.rest) k.is_equals) in
    let i = int_one u v h.behind_equals h.behind_int k.behind_int h.is_int (subst (λ x. IntFirst v x k.behind_int) (sym g) k.is_int) in
    record { name = f.value; value = i.value; rest = begins_one (codes ";" ∷ []) h.behind_int a b h.ends (subst (λ x. Begins (codes ";" ∷ []) x b) (sym i.rest) k.ends) }

-- two readings of a `println!`
pub record SamePrint (m n : List ℕ) (a b : List Token) : Type 0 where
  pub name : m ≡ n
  pub rest : a ≡ b

pub print_one : (edition : Edition) (m n : List ℕ) (ts a b : List Token) → PrintFirst edition m ts a → PrintFirst edition n ts b → SamePrint m n a b
print_one edition m n ts a b h k =
    let e = begins_one (codes "println" ∷ codes "!" ∷ codes "(" ∷ codes "\"{}\"" ∷ codes "," ∷ []) ts h.behind_comma k.behind_comma h.is_print k.is_print in
    let f = name_one edition m n h.behind_comma h.behind_name k.behind_name h.is_name (subst (λ x. NameFirst edition n x k.behind_name) (sym e) k.is_name) in
    record { name = f.value; rest = begins_one (codes ")" ∷ codes ";" ∷ []) h.behind_name a b h.ends (subst (λ x. Begins (codes ")" ∷ codes ";" ∷ []) x b) (sym f.rest) k.ends) }

-- tokens don't begin with two different words
pub alike : (P : Type 0) (v w : List ℕ) (vs ws : List (List ℕ)) (ts a b : List Token) → Begins (v ∷ vs) ts a → Begins (w ∷ ws) ts b → bytes_eq v w ≡ false → P
alike P v w vs ws ts a b h k n =
    let e : v ≡ w = sym h.3 ∙ ap (λ (t : Token). said t.kind t.text) (first_is _ _ _ _ (sym h.2 ∙ k.2)) ∙ k.3 in
    both P (sym ((bytes_eq-Decides v w).1 e) ∙ n)

-- how a `let`, a `println!` and the end begin
abbrev pub IsLet : List Token → List Token → Type 0
IsLet ts a = Begins (codes "let" ∷ []) ts a

abbrev pub IsPrint : List Token → List Token → Type 0
IsPrint ts a = Begins (codes "println" ∷ codes "!" ∷ codes "(" ∷ codes "\"{}\"" ∷ codes "," ∷ []) ts a

abbrev pub IsEnd : List Token → List Token → Type 0
IsEnd ts a = Begins (codes "}" ∷ []) ts a

pub let_or_end : (P : Type 0) (ts a b : List Token) → IsLet ts a → IsEnd ts b → P
let_or_end P ts a b h k = alike P (codes "let") (codes "}") [] [] ts a b h k refl

pub print_or_end : (P : Type 0) (ts a b : List Token) → IsPrint ts a → IsEnd ts b → P
print_or_end P ts a b h k = alike P (codes "println") (codes "}") (codes "!" ∷ codes "(" ∷ codes "\"{}\"" ∷ codes "," ∷ []) [] ts a b h k refl

pub let_or_print : (P : Type 0) (ts a b : List Token) → IsLet ts a → IsPrint ts b → P
let_or_print P ts a b h k = alike P (codes "let") (codes "println") [] (codes "!" ∷ codes "(" ∷ codes "\"{}\"" ∷ codes "," ∷ []) ts a b h k refl

one_body : (edition : Edition) (names : List (List ℕ)) (ts : List Token) (c d : List Statement) → Body edition names ts c → Body edition names ts d → c ≡ d
one_body edition names ts [] [] h k = refl
one_body edition names ts [] (Let v ∷ d) h k = let_or_end _ ts k.2.behind_let [] k.2.is_let h
one_body edition names ts [] (Print i ∷ d) h k = print_or_end _ ts k.2.behind_comma [] k.2.is_print h
one_body edition names ts (Let v ∷ c) [] h k = let_or_end _ ts h.2.behind_let [] h.2.is_let k
one_body edition names ts (Print i ∷ c) [] h k = print_or_end _ ts h.2.behind_comma [] h.2.is_print k
one_body edition names ts (Let v ∷ c) (Print i ∷ d) h k = let_or_print _ ts h.2.behind_let k.2.behind_comma h.2.is_let k.2.is_print
one_body edition names ts (Print i ∷ c) (Let v ∷ d) h k = let_or_print _ ts k.2.behind_let h.2.behind_comma k.2.is_let h.2.is_print
one_body edition names ts (Let v ∷ c) (Let u ∷ d) h k =
    let s = let_one edition h.0 k.0 v u ts h.1 k.1 h.2 k.2 in
    let rest : Body edition (h.0 ∷ names) h.1 d = subst (λ x. Body edition (x ∷ names) h.1 d) (sym s.name) (subst (λ x. Body edition (k.0 ∷ names) x d) (sym s.rest) k.3) in
    ap (λ (x : ℕ). Let x ∷ c) s.value ∙ ap (λ (x : List Statement). Let u ∷ x) (one_body edition (h.0 ∷ names) h.1 c d h.3 rest)
one_body edition names ts (Print i ∷ c) (Print j ∷ d) h k =
    let s = print_one edition h.0 k.0 ts h.1 k.1 h.2 k.2 in
    let n : i ≡ j = some_is i j (sym h.3 ∙ ap (λ x. latest x names) s.name ∙ k.3) in
    ap (λ (x : ℕ). Print x ∷ c) n ∙ ap (λ (x : List Statement). Print j ∷ x) (one_body edition names h.1 c d h.4 (subst (λ x. Body edition names x d) (sym s.rest) k.4))

pub one_core : OneCore
one_core edition ts c d h k =
    let r : h.0 ≡ k.0 = begins_one main_words ts h.0 k.0 h.1 k.1 in
    one_body edition [] h.0 c d h.2 (subst (λ x. Body edition [] x d) (sym r) k.2)
