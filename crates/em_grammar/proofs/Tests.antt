-- What the grammar asks of single tokens is told by their sorts.
use Rattle.std.proofs.Common.{◌≡◌, ℕ, Bool, true, false, not, ◌&&◌, ◌||◌, if◌then◌else◌, List, [], ◌∷◌, ◌++◌, Option, Some, None, refl, sym, ap, ◌∙◌, subst, inl, inr, ◌⊎◌, map, codes}
use Rattle.std.specs.Option.{is_some}
use Rattle.std.specs.Str.{bytes_eq}
use Rattle.std.specs.Cmp.Lexicographic.{bytes_decides}
use Rattle.em_base.specs.declared.token.Token.{Token}
use Rattle.em_base.specs.declared.token.TokenKind.{TokenKind}
use Rattle.em_base.specs.declared.token.TokenKind.TheVariants as made
use Rattle.em_base.specs.Words.{strict, is_among}
use Rattle.em_tree.specs.Starts.{spelling, is_name, is_literal, is_spelled, is_one_of}
use Rattle.em_tree.specs.Tokens.{Is, IsOneOf, Name, IsInt, IsLiteralToken, is_written, int_kind, signs}
use Rattle.em_grammar.specs.declared.sort.Written.{Written}
use Rattle.em_grammar.specs.declared.sort.Written.TheVariants as word
use Rattle.em_grammar.specs.declared.sort.Weak.{Weak}
use Rattle.em_grammar.specs.declared.sort.Weak.TheVariants as weak
use Rattle.em_grammar.specs.declared.sort.Kind.{Kind}
use Rattle.em_grammar.specs.declared.sort.Kind.TheVariants as kind
use Rattle.em_grammar.specs.declared.sort.Sort.{Sort}
use Rattle.em_grammar.specs.Sorts.{text_of, written_of, weak_of, class_of, weak_sort, sort_named, sort_by, sort_of}
use Rattle.em_grammar.specs.Sets.{only, is_sign, all, by_kind, any_of, is_name_kind, is_int_kind, is_literal_kind, name_sort, int_sort, literal_sort, weak_is, dyn_sort}
use Rattle.em_grammar.specs.Pairs.{Test}
use Rattle.em_grammar.proofs.AllSorts.{written_at, and-left, and-right}
use Rattle.em_grammar.proofs.Sorts.{written_is_so, finds_so}

same_bytes : (xs : List ℕ) → bytes_eq xs xs ≡ true
same_bytes xs = (bytes_decides xs xs).1 refl

-- ---- words and signs

not_weak : (x : Written) (y : Option Weak) (k : Kind) → only x (weak_sort y k) ≡ false
not_weak x None k = refl
not_weak x (Some y) k = refl

-- whether a token is a word or sign goes by its spelling
only_spelled : (x : Written) (o : Option (List ℕ)) (k : Kind) → only x (sort_by o k) ≡ is_one_of (text_of x ∷ []) o
only_spelled x None k = refl
only_spelled x (Some text) k = go (written_of text) refl
  where
    other : (b : Bool) → bytes_eq (text_of x) text ≡ b → written_of text ≡ None → false ≡ (b || false)
    other true is none = let found : written_of text ≡ Some x = finds_so text x ((bytes_decides (text_of x) text).0 is) in cc
    other false is none = refl

    or_false : (b : Bool) → b ≡ (b || false)
    or_false true = refl
    or_false false = refl

    go : (m : Option Written) → written_of text ≡ m → only x (sort_named m (weak_of text) k) ≡ (bytes_eq (text_of x) text || false)
    go (Some y) at = ap (λ u. bytes_eq (text_of x) u) (written_is_so text y at) ∙ or_false (bytes_eq (text_of x) text)
    go None at = not_weak x (weak_of text) k ∙ other (bytes_eq (text_of x) text) refl at

pub one_spelled : (text : List ℕ) (o : Option (List ℕ)) → is_one_of (text ∷ []) o ≡ true → o ≡ Some text
one_spelled text None h = cc
one_spelled text (Some u) h = go (bytes_eq text u) refl h
  where
    go : (b : Bool) → bytes_eq text u ≡ b → (b || false) ≡ true → Some u ≡ Some text
    go true is h = ap (λ k. Some k) (sym ((bytes_decides text u).0 is))
    go false is h = cc

not_true : (b : Bool) → not b ≡ true → b ≡ false
not_true true h = sym h
not_true false h = refl

-- an equation of texts, turned round
turned : (a b : List ℕ) → bytes_eq b a ≡ (bytes_eq a b || false)
turned a b = go (bytes_eq b a) (bytes_eq a b) refl refl
  where
    go : (x y : Bool) → bytes_eq b a ≡ x → bytes_eq a b ≡ y → x ≡ (y || false)
    go true true h k = refl
    go false false h k = refl
    go true false h k = let other : bytes_eq a b ≡ true = (bytes_decides a b).1 (sym ((bytes_decides b a).0 h)) in cc
    go false true h k = let other : bytes_eq b a ≡ true = (bytes_decides b a).1 (sym ((bytes_decides a b).0 k)) in cc

-- the sort tells each word and sign
pub sign : (x : Written) → Test (Is (text_of x)) (is_sign x) (only x)
unfolding sort_of
sign x = record { holds = λ t h. one_spelled (text_of x) (spelling t) (sym (only_spelled x (spelling t) (class_of t)) ∙ h); told = told; sorted = told }
  where
    told : (t : Token) → Is (text_of x) t → is_sign x t ≡ true
    told t is = only_spelled x (spelling t) (class_of t) ∙ ap (λ o. is_one_of (text_of x ∷ []) o) is ∙ ap (λ b. b || false) (same_bytes (text_of x))

-- one of several words and signs
any_spelled : (xs : List Written) (o : Option (List ℕ)) (k : Kind) → any_of xs (sort_by o k) ≡ is_one_of (map text_of xs) o
any_spelled [] None k = refl
any_spelled [] (Some text) k = refl
any_spelled (x ∷ xs) None k = any_spelled xs None k
any_spelled (x ∷ xs) (Some text) k = ap (λ b. b || any_of xs (sort_by (Some text) k)) (only_spelled x (Some text) k ∙ drop_false (bytes_eq (text_of x) text)) ∙ ap (λ b. bytes_eq (text_of x) text || b) (any_spelled xs (Some text) k)
  where
    drop_false : (b : Bool) → (b || false) ≡ b
    drop_false true = refl
    drop_false false = refl

pub any_sort : (xs : List Written) (t : Token) → any_of xs (sort_of t) ≡ is_spelled (map text_of xs) t
unfolding sort_of
any_sort xs t = any_spelled xs (spelling t) (class_of t)

pub several : (xs : List Written) → Test (IsOneOf (map text_of xs)) (λ t. any_of xs (sort_of t)) (any_of xs)
several xs = record { holds = λ t h. sym (any_sort xs t) ∙ h; told = λ t h. any_sort xs t ∙ h; sorted = λ t h. any_sort xs t ∙ h }

-- ---- what a token is by its kind

-- the table of the grammar's words and signs is the definition's
each_written : (x : Written) → is_among (strict ++ signs) (text_of x) ≡ true
each_written x = written_at (λ x. is_among (strict ++ signs) (text_of x)) x refl

each_found : all (λ text. is_some (written_of text)) (strict ++ signs) ≡ true
unfolding written_of
each_found = refl

found_among : (f : List ℕ → Bool) (xs : List (List ℕ)) (text : List ℕ) → all f xs ≡ true → is_among xs text ≡ true → f text ≡ true
found_among f [] text every h = cc
found_among f (x ∷ xs) text every h = go (bytes_eq x text) refl h (λ more. found_among f xs text (and-right (f x) (all f xs) every) more)
  where
    go : (b : Bool) → bytes_eq x text ≡ b → (b || is_among xs text) ≡ true → (is_among xs text ≡ true → f text ≡ true) → f text ≡ true
    go true is h later = subst (λ u. f u ≡ true) ((bytes_decides x text).0 is) (and-left (f x) (all f xs) every)
    go false is h later = later h

unwritten : (text : List ℕ) → written_of text ≡ None → is_among (strict ++ signs) text ≡ false
unwritten text none = go (is_among (strict ++ signs) text) refl
  where
    go : (b : Bool) → is_among (strict ++ signs) text ≡ b → b ≡ false
    go true is = let found : is_some (written_of text) ≡ true = found_among (λ text. is_some (written_of text)) (strict ++ signs) text each_found is in cc
    go false is = refl

by_weak : (f : Kind → Bool) (y : Option Weak) (k : Kind) → by_kind f (weak_sort y k) ≡ f k
by_weak f None k = refl
by_weak f (Some y) k = refl

and_true : (b : Bool) → b ≡ (b && true)
and_true true = refl
and_true false = refl

and_false : (b : Bool) → false ≡ (b && false)
and_false true = refl
and_false false = refl

kind_spelled : (f : Kind → Bool) (o : Option (List ℕ)) (k : Kind) → by_kind f (sort_by o k) ≡ (f k && not (is_one_of (strict ++ signs) o))
kind_spelled f None k = and_true (f k)
kind_spelled f (Some text) k = go (written_of text) refl
  where
    go : (m : Option Written) → written_of text ≡ m → by_kind f (sort_named m (weak_of text) k) ≡ (f k && not (is_among (strict ++ signs) text))
    go (Some y) at = and_false (f k) ∙ ap (λ b. f k && not b) (sym (each_written y) ∙ ap (λ u. is_among (strict ++ signs) u) (written_is_so text y at))
    go None at = by_weak f (weak_of text) k ∙ and_true (f k) ∙ ap (λ b. f k && not b) (sym (unwritten text at))

kind_sort : (f : Kind → Bool) (t : Token) → by_kind f (sort_of t) ≡ (f (class_of t) && not (is_written t))
unfolding sort_of
kind_sort f t = kind_spelled f (spelling t) (class_of t)

-- the classes by the kinds of tokens
name_class : (t : Token) → is_name_kind (class_of t) ≡ is_name t
name_class t = go (is_name t) (int_kind t.kind) (is_literal t) _
  where
    go : (a b c d : Bool) → is_name_kind (if a then kind.Name else (if b then kind.Int else (if c then kind.Literal else (if d then kind.Lifetime else kind.Other)))) ≡ a
    go true b c d = refl
    go false true c d = refl
    go false false true d = refl
    go false false false true = refl
    go false false false false = refl

int_class : (t : Token) (k : TokenKind) → is_int_kind (class_of (record t { kind = k })) ≡ int_kind k
int_class t (made.Ident name raw) = named (is_name (record t { kind = made.Ident name raw }))
  where
    named : (b : Bool) → is_int_kind (if b then kind.Name else kind.Other) ≡ false
    named true = refl
    named false = refl
int_class t (made.Lifetime name) = refl
int_class t (made.Int value suffix) = refl
int_class t (made.Char value) = refl
int_class t (made.Byte value) = refl
int_class t (made.Str value) = refl
int_class t (made.ByteStr value) = refl
int_class t made.Open = refl
int_class t made.Close = refl
int_class t made.Punct = refl

literal_class : (t : Token) (k : TokenKind) → is_literal_kind (class_of (record t { kind = k })) ≡ is_literal (record t { kind = k })
literal_class t (made.Ident name raw) = named (is_name (record t { kind = made.Ident name raw }))
  where
    named : (b : Bool) → is_literal_kind (if b then kind.Name else kind.Other) ≡ false
    named true = refl
    named false = refl
literal_class t (made.Lifetime name) = refl
literal_class t (made.Int value suffix) = refl
literal_class t (made.Char value) = refl
literal_class t (made.Byte value) = refl
literal_class t (made.Str value) = refl
literal_class t (made.ByteStr value) = refl
literal_class t made.Open = refl
literal_class t made.Close = refl
literal_class t made.Punct = refl

-- a test that is an equation
by_equation : (f : Token → Bool) (s : Sort → Bool) → ((t : Token) → s (sort_of t) ≡ f t) → Test (λ t. f t ≡ true) (λ t. s (sort_of t)) s
by_equation f s same = record { holds = λ t h. sym (same t) ∙ h; told = λ t h. same t ∙ h; sorted = λ t h. same t ∙ h }

pub name : Test Name (λ t. name_sort (sort_of t)) name_sort
name = by_equation (λ t. is_name t && not (is_written t)) name_sort (λ t. kind_sort is_name_kind t ∙ ap (λ b. b && not (is_written t)) (name_class t))

pub int : Test IsInt (λ t. int_sort (sort_of t)) int_sort
int = by_equation (λ t. int_kind t.kind && not (is_written t)) int_sort (λ t. kind_sort is_int_kind t ∙ ap (λ b. b && not (is_written t)) (int_class t t.kind))

pub literal : Test IsLiteralToken (λ t. literal_sort (sort_of t)) literal_sort
literal = by_equation (λ t. (is_literal t && not (is_written t)) || is_spelled (codes "true" ∷ codes "false" ∷ []) t) literal_sort (λ t.
    ap (λ b. b || any_of (word.True ∷ word.False ∷ []) (sort_of t)) (kind_sort is_literal_kind t ∙ ap (λ b. b && not (is_written t)) (literal_class t t.kind))
    ∙ ap (λ b. (is_literal t && not (is_written t)) || b) (any_sort (word.True ∷ word.False ∷ []) t))

-- either of two properties
or_true : (a b : Bool) → (a || b) ≡ true → (a ≡ true) ⊎ (b ≡ true)
or_true true b h = inl refl
or_true false b h = inr h

or_first : (a b : Bool) → a ≡ true → (a || b) ≡ true
or_first true b h = refl
or_first false b h = cc

or_second : (a b : Bool) → b ≡ true → (a || b) ≡ true
or_second true b h = refl
or_second false b h = h

pub either_test : {Q R : Token → Type 0} {f g : Token → Bool} {s u : Sort → Bool} → Test Q f s → Test R g u → Test (λ t. Q t ⊎ R t) (λ t. f t || g t) (λ k. s k || u k)
either_test {Q} {R} {f} {g} {s} {u} a b = record { holds = λ t h. holds t (or_true (f t) (g t) h); told = told; sorted = sorted }
  where
    holds : (t : Token) → (f t ≡ true) ⊎ (g t ≡ true) → Q t ⊎ R t
    holds t (inl h) = inl (a.holds t h)
    holds t (inr h) = inr (b.holds t h)

    told : (t : Token) → Q t ⊎ R t → (f t || g t) ≡ true
    told t (inl h) = or_first (f t) (g t) (a.told t h)
    told t (inr h) = or_second (f t) (g t) (b.told t h)

    sorted : (t : Token) → Q t ⊎ R t → (s (sort_of t) || u (sort_of t)) ≡ true
    sorted t (inl h) = or_first (s (sort_of t)) (u (sort_of t)) (a.sorted t h)
    sorted t (inr h) = or_second (s (sort_of t)) (u (sort_of t)) (b.sorted t h)

-- ---- words that are names in some editions

box_spelled : (o : Option (List ℕ)) (k : Kind) → weak_is weak.Box (sort_by o k) ≡ is_one_of (codes "Box" ∷ []) o
box_spelled None k = refl
box_spelled (Some text) k = go (written_of text) refl
  where
    weak_at : (b c d : Bool) → bytes_eq text (codes "Box") ≡ b → weak_is weak.Box (weak_sort (if b then Some weak.Box else (if c then Some weak.Dyn else (if d then Some weak.MacroRules else None))) k) ≡ b
    weak_at true c d is = refl
    weak_at false true d is = refl
    weak_at false false true is = refl
    weak_at false false false is = refl

    go : (m : Option Written) → written_of text ≡ m → weak_is weak.Box (sort_named m (weak_of text) k) ≡ (bytes_eq (codes "Box") text || false)
    go (Some y) at =
        ap (λ b. b || false) (sym (not_true (bytes_eq (codes "Box") (text_of y)) (written_at (λ y. not (bytes_eq (codes "Box") (text_of y))) y refl))) ∙ ap (λ u. bytes_eq (codes "Box") u || false) (written_is_so text y at)
    go None at = weak_at (bytes_eq text (codes "Box")) (bytes_eq text (codes "dyn")) (bytes_eq text (codes "macro_rules")) refl ∙ turned (codes "Box") text

dyn_spelled : (o : Option (List ℕ)) (k : Kind) → weak_is weak.Dyn (sort_by o k) ≡ is_one_of (codes "dyn" ∷ []) o
dyn_spelled None k = refl
dyn_spelled (Some text) k = go (written_of text) refl
  where
    weak_at : (b c d : Bool) → bytes_eq text (codes "Box") ≡ b → bytes_eq text (codes "dyn") ≡ c
        → weak_is weak.Dyn (weak_sort (if b then Some weak.Box else (if c then Some weak.Dyn else (if d then Some weak.MacroRules else None))) k) ≡ c
    weak_at true true d is as_dyn = sym (ap (λ u. bytes_eq u (codes "dyn")) ((bytes_decides text (codes "Box")).0 is)) ∙ as_dyn
    weak_at true false d is as_dyn = refl
    weak_at false true d is as_dyn = refl
    weak_at false false true is as_dyn = refl
    weak_at false false false is as_dyn = refl

    go : (m : Option Written) → written_of text ≡ m → weak_is weak.Dyn (sort_named m (weak_of text) k) ≡ (bytes_eq (codes "dyn") text || false)
    go (Some y) at =
        ap (λ b. b || false) (sym (not_true (bytes_eq (codes "dyn") (text_of y)) (written_at (λ y. not (bytes_eq (codes "dyn") (text_of y))) y refl))) ∙ ap (λ u. bytes_eq (codes "dyn") u || false) (written_is_so text y at)
    go None at = weak_at (bytes_eq text (codes "Box")) (bytes_eq text (codes "dyn")) (bytes_eq text (codes "macro_rules")) refl refl ∙ turned (codes "dyn") text

pub box_sort : (t : Token) → weak_is weak.Box (sort_of t) ≡ is_spelled (codes "Box" ∷ []) t
unfolding sort_of
box_sort t = box_spelled (spelling t) (class_of t)

pub dyn_word : (t : Token) → weak_is weak.Dyn (sort_of t) ≡ is_spelled (codes "dyn" ∷ []) t
unfolding sort_of
dyn_word t = dyn_spelled (spelling t) (class_of t)

pub spelled_so : (text : List ℕ) (t : Token) → Is text t → is_spelled (text ∷ []) t ≡ true
spelled_so text t is = ap (λ o. is_one_of (text ∷ []) o) is ∙ ap (λ b. b || false) (same_bytes text)

pub box_test : Test (Is (codes "Box")) (λ t. weak_is weak.Box (sort_of t)) (weak_is weak.Box)
box_test = record { holds = λ t h. one_spelled (codes "Box") (spelling t) (sym (box_sort t) ∙ h); told = λ t is. box_sort t ∙ spelled_so (codes "Box") t is; sorted = λ t is. box_sort t ∙ spelled_so (codes "Box") t is }

pub dyn_test : Test (Is (codes "dyn")) (λ t. weak_is weak.Dyn (sort_of t)) (weak_is weak.Dyn)
dyn_test = record { holds = λ t h. one_spelled (codes "dyn") (spelling t) (sym (dyn_word t) ∙ h); told = λ t is. dyn_word t ∙ spelled_so (codes "dyn") t is; sorted = λ t is. dyn_word t ∙ spelled_so (codes "dyn") t is }

both_true : (a b : Bool) → a ≡ true → b ≡ false → (a && not b) ≡ true
both_true true false h k = refl
both_true true true h k = cc
both_true false b h k = cc

not_name : (t : Token) → (Name t → ⊥) → name_sort (sort_of t) ≡ false
not_name t h = go (name_sort (sort_of t)) refl
  where
    go : (b : Bool) → name_sort (sort_of t) ≡ b → b ≡ false
    go true is = absurd (h (name.holds t is))
    go false is = refl

-- the `dyn` that is no name
pub keyword_dyn : Test (λ t. Is (codes "dyn") t × (Name t → ⊥)) (λ t. dyn_sort (sort_of t)) dyn_sort
keyword_dyn = record { holds = λ t h. (dyn_test.holds t (and-left _ _ h), λ n. clash (name_sort (sort_of t)) (name.told t n) (and-right _ _ h)); told = told; sorted = told }
  where
    clash : (b : Bool) → b ≡ true → not b ≡ true → ⊥
    clash true h k = cc
    clash false h k = cc

    told : (t : Token) → Is (codes "dyn") t × (Name t → ⊥) → dyn_sort (sort_of t) ≡ true
    told t m = both_true (weak_is weak.Dyn (sort_of t)) (name_sort (sort_of t)) (dyn_test.told t m.0) (not_name t m.1)
