-- What a reader of statements finds at the front.
use Rattle.std.proofs.Common.{◌≡◌, ℕ, Bool, true, false, cond, ◌||◌, List, [], ◌∷◌, length, codes, refl, subst, sym, ap, ◌∙◌}
use Rattle.std.specs.Prelude.{Option, Some, None, option_and_then}
use Rattle.std.specs.List.{list_any}
use Rattle.std.specs.Option.{option_map}
use Rattle.std.specs.Str.{bytes_eq}
use Rattle.std.proofs.lemmas.Slice.Eq.{bytes_eq-Decides}
use Rattle.em_base.specs.declared.edition.Edition.TheVariants.{E2015}
use Rattle.em_base.specs.declared.token.Token.{Token}
use Rattle.em_first.specs.Form.{said, name_in, int_in, Begins, NameFirst, IntFirst, LetFirst, PrintFirst, latest}
use Rattle.em_first.specs.Reading.{behind, name_first, behind_int, let_first, print_first}
use Rattle.em_first.proofs.One.{both}

pub none_some : {A : Type 0} (P : Type 0) (a : A) → None ≡ Some a → P
none_some P a h = (cc)

-- what stands behind words
pub behind_is : (ws : List (List ℕ)) (ts r : List Token) → behind ws ts ≡ Some r → Begins ws ts r
behind_is [] ts r h = (cc)
behind_is (w ∷ ws) [] r h = none_some _ r h
behind_is (w ∷ ws) (t ∷ ts) r h = here (bytes_eq (said t.kind t.text) w) (bytes_eq-Decides (said t.kind t.text) w).0 (λ k. behind_is ws ts r k) h
  where
    here : (c : Bool) → (c ≡ true → said t.kind t.text ≡ w) → (behind ws ts ≡ Some r → Begins ws ts r) → cond c (behind ws ts) None ≡ Some r → Begins (w ∷ ws) (t ∷ ts) r
    here true f g k = (t, ts, refl, f refl, g k)
    here false f g k = none_some _ r k

pub behind_of : (ws : List (List ℕ)) (ts r : List Token) → Begins ws ts r → behind ws ts ≡ Some r
behind_of [] ts r h = ap (λ (x : List Token). Some x) h
behind_of (w ∷ ws) ts r h =
    ap (behind (w ∷ ws)) h.2 ∙ ap (λ c. cond c (behind ws h.1) None) ((bytes_eq-Decides (said h.0.kind h.0.text) w).1 h.3) ∙ behind_of ws h.1 r h.4

-- a chain that ends has both its links
linked : {A B : Type 0} (f : A → Option B) (o : Option A) (b : B) → option_and_then f o ≡ Some b → (a : A) × (o ≡ Some a) × (f a ≡ Some b)
linked f None b h = none_some _ b h
linked f (Some a) b h = (a, refl, h)

mapped : {A B : Type 0} (f : A → B) (o : Option A) (b : B) → option_map f o ≡ Some b → (a : A) × (o ≡ Some a) × (f a ≡ b)
mapped f None b h = none_some _ b h
mapped f (Some a) b h = (a, refl, (cc))

-- a name stands first
name_is : (ts : List Token) (p : List ℕ × List Token) → name_first ts ≡ Some p → NameFirst E2015 p.0 ts p.1
name_is [] p h = none_some _ p h
name_is (t ∷ ts) p h =
    let m = mapped (λ (name : List ℕ). (name, ts)) (name_in E2015 t.kind) p h in
    (t, ap (λ (q : List ℕ × List Token). t ∷ q.1) m.2, m.1 ∙ ap (λ (q : List ℕ × List Token). Some q.0) m.2)

name_of : (name : List ℕ) (ts r : List Token) → NameFirst E2015 name ts r → name_first ts ≡ Some (name, r)
name_of name ts r h = ap name_first h.1 ∙ ap (option_map (λ (n : List ℕ). (n, r))) h.2

-- an integer stands first
int_is : (ts r : List Token) → behind_int ts ≡ Some r → (value : ℕ) × IntFirst value ts r
int_is [] r h = none_some _ r h
int_is (t ∷ ts) r h =
    let m = mapped (λ (value : ℕ). ts) (int_in t.kind) r h in
    (m.0, (t, ap (λ (x : List Token). t ∷ x) m.2, m.1))

int_of : (value : ℕ) (ts r : List Token) → IntFirst value ts r → behind_int ts ≡ Some r
int_of value ts r h = ap behind_int h.1 ∙ ap (option_map (λ (v : ℕ). r)) h.2

-- a `let` stands first
pub let_is : (ts : List Token) (p : List ℕ × List Token) → let_first ts ≡ Some p → (value : ℕ) × LetFirst E2015 p.0 value ts p.1
let_is ts p h =
    let a = linked _ (behind (codes "let" ∷ []) ts) p h in
    let n = linked _ (name_first a.0) p a.2 in
    let b = linked _ (behind (codes "=" ∷ []) n.0.1) p n.2 in
    let c = linked _ (behind_int b.0) p b.2 in
    let d = mapped _ (behind (codes ";" ∷ []) c.0) p c.2 in
    let i = int_is b.0 c.0 c.1 in
    let r : d.0 ≡ p.1 = ap (λ (q : List ℕ × List Token). q.1) d.2 in
    let e : n.0.0 ≡ p.0 = ap (λ (q : List ℕ × List Token). q.0) d.2 in (
      i.0,
      record {
        behind_let = a.0;
        behind_name = n.0.1;
        behind_equals = b.0;
        behind_int = c.0;
        is_let = behind_is (codes "let" ∷ []) ts a.0 a.1;
        is_name = subst (λ x. NameFirst E2015 x a.0 n.0.1) e (name_is a.0 n.0 n.1);
        is_equals = behind_is (codes "=" ∷ []) n.0.1 b.0 b.1;
        is_int = i.1;
        ends = subst (λ x. Begins (codes ";" ∷ []) c.0 x) r (behind_is (codes ";" ∷ []) c.0 d.0 d.1);
      },
    )

abbrev let_end : List ℕ → List Token → Option (List ℕ × List Token)
let_end name c = option_map (λ (d : List Token). (name, d)) (behind (codes ";" ∷ []) c)

abbrev let_int : List ℕ → List Token → Option (List ℕ × List Token)
let_int name b = option_and_then (let_end name) (behind_int b)

abbrev let_equals : List ℕ × List Token → Option (List ℕ × List Token)
let_equals n = option_and_then (let_int n.0) (behind (codes "=" ∷ []) n.1)

abbrev let_name : List Token → Option (List ℕ × List Token)
let_name a = option_and_then let_equals (name_first a)

pub let_of : (name : List ℕ) (value : ℕ) (ts r : List Token) → LetFirst E2015 name value ts r → let_first ts ≡ Some (name, r)
let_of name value ts r h =
    ap (option_and_then let_name) (behind_of (codes "let" ∷ []) ts h.behind_let h.is_let)
    ∙ ap (option_and_then let_equals) (name_of name h.behind_let h.behind_name h.is_name)
    ∙ ap (option_and_then (let_int name)) (behind_of (codes "=" ∷ []) h.behind_name h.behind_equals h.is_equals)
    ∙ ap (option_and_then (let_end name)) (int_of value h.behind_equals h.behind_int h.is_int)
    ∙ ap (option_map (λ (d : List Token). (name, d))) (behind_of (codes ";" ∷ []) h.behind_int r h.ends)

-- a `println!` stands first
abbrev print_words : List (List ℕ)
print_words = codes "println" ∷ codes "!" ∷ codes "(" ∷ codes "\"{}\"" ∷ codes "," ∷ []

pub print_is : (ts : List Token) (p : List ℕ × List Token) → print_first ts ≡ Some p → PrintFirst E2015 p.0 ts p.1
print_is ts p h =
    let a = linked _ (behind print_words ts) p h in
    let n = linked _ (name_first a.0) p a.2 in
    let d = mapped _ (behind (codes ")" ∷ codes ";" ∷ []) n.0.1) p n.2 in
    let r : d.0 ≡ p.1 = ap (λ (q : List ℕ × List Token). q.1) d.2 in
    let e : n.0.0 ≡ p.0 = ap (λ (q : List ℕ × List Token). q.0) d.2 in
    record {
      behind_comma = a.0;
      behind_name = n.0.1;
      is_print = behind_is print_words ts a.0 a.1;
      is_name = subst (λ x. NameFirst E2015 x a.0 n.0.1) e (name_is a.0 n.0 n.1);
      ends = subst (λ x. Begins (codes ")" ∷ codes ";" ∷ []) n.0.1 x) r (behind_is (codes ")" ∷ codes ";" ∷ []) n.0.1 d.0 d.1);
    }

abbrev print_end : List ℕ × List Token → Option (List ℕ × List Token)
print_end n = option_map (λ (d : List Token). (n.0, d)) (behind (codes ")" ∷ codes ";" ∷ []) n.1)

abbrev print_name : List Token → Option (List ℕ × List Token)
print_name a = option_and_then print_end (name_first a)

pub print_of : (name : List ℕ) (ts r : List Token) → PrintFirst E2015 name ts r → print_first ts ≡ Some (name, r)
print_of name ts r h =
    ap (option_and_then print_name) (behind_of print_words ts h.behind_comma h.is_print)
    ∙ ap (option_and_then print_end) (name_of name h.behind_comma h.behind_name h.is_name)
    ∙ ap (option_map (λ (d : List Token). (name, d))) (behind_of (codes ")" ∷ codes ";" ∷ []) h.behind_name r h.ends)

-- a bound name has a latest `let`
pub found : (name : List ℕ) (names : List (List ℕ)) → list_any (λ b. bytes_eq b name) names ≡ true → (which : ℕ) × (latest name names ≡ Some which)
found name [] h = both _ (sym h)
found name (b ∷ bs) h = here (bytes_eq b name) (λ k. found name bs k) h
  where
    here : (c : Bool) → (list_any (λ b. bytes_eq b name) bs ≡ true → (which : ℕ) × (latest name bs ≡ Some which)) → (c || list_any (λ b. bytes_eq b name) bs) ≡ true → (which : ℕ) × (cond c (Some (length bs)) (latest name bs) ≡ Some which)
    here true f k = (length bs, refl)
    here false f k = f k

pub bound : (name : List ℕ) (names : List (List ℕ)) (which : ℕ) → latest name names ≡ Some which → list_any (λ b. bytes_eq b name) names ≡ true
bound name [] which h = none_some _ _ h
bound name (b ∷ bs) which h = here (bytes_eq b name) (λ k. bound name bs which k) h
  where
    here : (c : Bool) → (latest name bs ≡ Some which → list_any (λ b. bytes_eq b name) bs ≡ true) → cond c (Some (length bs)) (latest name bs) ≡ Some which → (c || list_any (λ b. bytes_eq b name) bs) ≡ true
    here true f k = refl
    here false f k = f k
