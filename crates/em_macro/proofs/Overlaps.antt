-- Two starters overlap exactly where some pieces begin with both.
use Rattle.std.proofs.Common.{◌≡◌, ◌&&◌, ◌||◌, ◌⊎◌, inl, inr, Bool, true, false, not, if◌then◌else◌, List, [], ◌∷◌, ℕ, Some, None, refl, sym, ◌∙◌, ap, subst, codes}
use Rattle.std.specs.Str.{bytes_eq}
use Rattle.std.specs.List.{list_any}
use Rattle.std.specs.Cmp.Lexicographic.{bytes_decides}
use Rattle.em_base.specs.declared.edition.Edition.{Edition}
use Rattle.em_base.specs.declared.edition.Edition.TheVariants.{E2015}
use Rattle.em_base.specs.declared.token.Token.{Token}
use Rattle.em_base.specs.declared.token.TokenKind.{TokenKind}
use Rattle.em_base.specs.declared.token.TokenKind.TheVariants as t
use Rattle.em_base.specs.declared.words.Class.TheVariants as c
use Rattle.em_base.specs.Words.{is_among, always, from_2018, class_of, class_of_new}
use Rattle.em_tree.specs.declared.piece.FragmentKind.{FragmentKind}
use Rattle.em_tree.specs.declared.piece.FragmentKind.TheVariants as f
use Rattle.em_tree.specs.declared.piece.Piece.TheVariants as p
use Rattle.em_tree.specs.Starts.{Pieces, kind_of, pieces_of, is_bar, starts, starts_token, starts_kind, starts_in_2021, is_word, is_name, is_literal, is_lifetime, is_close, is_spelled, spelling, is_one_of, is_lettered, is_keyword, expr_starts, type_starts, path_starts, pattern_starts, literal_starts}
use Rattle.em_macro.specs.declared.starters.Starter.{Starter}
use Rattle.em_macro.specs.declared.starters.Starter.TheVariants as s
use Rattle.em_macro.specs.declared.rules.Specifier.{Specifier}
use Rattle.em_macro.specs.Match.{is_next, starts_at, Disjoint}
use Rattle.em_macro.specs.Starters.{Starters, begins, begins_any, is_old_name, starts_name, starts_true, starts_brace, kinds_meet, token_meets, overlaps, apart_from, apart}
use Rattle.em_macro.proofs.SameTokens.{clash, is_false, not_true, not_false, and_left, and_right, and_both, or_left, or_right, or_cases, Alike, alike, same_itself, same_shared}

-- ---- names

old_class : (e : Edition) (n : List ℕ) → not (is_keyword (class_of e n)) ≡ true → not (is_keyword (class_of E2015 n)) ≡ true
unfolding class_of
old_class e n h = go (is_among always n) (is_among from_2018 n) (bytes_eq n (codes "dyn")) h
  where
    go : (a b d : Bool) → not (is_keyword (if a then c.Keyword else (if b then class_of_new e n else c.Ident))) ≡ true
        → not (is_keyword (if a then c.Keyword else (if b then (if d then c.Weak else c.Ident) else c.Ident))) ≡ true
    go true b d h = cc
    go false false d h = refl
    go false true true h = refl
    go false true false h = refl

abbrev of_kind : Token → TokenKind → Token
of_kind u k = record u { kind = k }

-- a name is one in the oldest edition, and a word
old_name : (u : Token) → is_name u ≡ true → (is_old_name u ≡ true) × (is_word u ≡ true)
old_name u h = go u.kind h
  where
    go : (k : TokenKind) → is_name (of_kind u k) ≡ true → (is_old_name (of_kind u k) ≡ true) × (is_word (of_kind u k) ≡ true)
    go (t.Ident name true) h = (refl, refl)
    go (t.Ident name false) h = (old_class u.edition name h, refl)
    go (t.Lifetime name) h = cc
    go (t.Int value suffix) h = cc
    go (t.Char value) h = cc
    go (t.Byte value) h = cc
    go (t.Str value) h = cc
    go (t.ByteStr value) h = cc
    go t.Open h = cc
    go t.Close h = cc
    go t.Punct h = cc

word_opens : (u : Token) → is_word u ≡ true → not (is_close u) ≡ true
word_opens u h = go u.kind h
  where
    go : (k : TokenKind) → is_word (of_kind u k) ≡ true → not (is_close (of_kind u k)) ≡ true
    go (t.Ident name raw) h = refl
    go (t.Lifetime name) h = cc
    go (t.Int value suffix) h = cc
    go (t.Char value) h = cc
    go (t.Byte value) h = cc
    go (t.Str value) h = cc
    go (t.ByteStr value) h = cc
    go t.Open h = cc
    go t.Close h = cc
    go t.Punct h = cc

name_starts : (k : FragmentKind) (e : Edition) (u : Token) → is_name u ≡ true → starts_name k ≡ true → starts_token k e u ≡ true
unfolding starts_token
name_starts f.Ident e u h is = (old_name u h).1
name_starts f.Tt e u h is = word_opens u (old_name u h).1
name_starts f.Literal e u h is = cc
name_starts f.Block e u h is = cc
name_starts f.Expr e u h is = or_left (is_name u) (is_literal u || (is_lifetime u || is_spelled expr_starts u)) h
name_starts f.Stmt e u h is = word_opens u (old_name u h).1
name_starts f.Ty e u h is = or_left (is_name u) (is_lifetime u || is_spelled type_starts u) h
name_starts f.Path e u h is = or_left (is_word u) (is_spelled path_starts u) (old_name u h).1
name_starts f.Pat e u h is =
    or_left (is_word u || (is_literal u || is_spelled pattern_starts u)) (starts_in_2021 e && is_spelled (codes "|" ∷ []) u)
    (or_left (is_word u) (is_literal u || is_spelled pattern_starts u) (old_name u h).1)
name_starts f.PatParam e u h is = or_left (is_word u) (is_literal u || is_spelled pattern_starts u) (old_name u h).1
name_starts f.Item e u h is = word_opens u (old_name u h).1

-- ---- a token and a fragment

or_same : (a b x y : Bool) → a ≡ x → b ≡ y → (a || b) ≡ (x || y)
or_same a b x y p q = ap (λ z. z || b) p ∙ ap (λ z. x || z) q

-- what starts with a name, or with something that is alike
named : (n m x y o : Bool) → (n ≡ true → o ≡ true) → x ≡ y → (n || x) ≡ true → ((m || y) || (o && true)) ≡ true
named true m x y o old is h = or_right (m || y) (o && true) (and_both o true (old refl) refl)
named false m x y o old is h = or_left (m || y) (o && true) (or_right m y (sym is ∙ h))

-- a token that starts a fragment meets it with the spelling of another
token_met : (k : FragmentKind) (e : Edition) (u v : Token) → Alike u v → starts_token k e v ≡ true → (starts_token k e u || (is_old_name u && starts_name k)) ≡ true
unfolding starts_token
token_met f.Ident e u v a h = or_left (is_word u) (is_old_name u && true) (a.0 ∙ h)
token_met f.Tt e u v a h = or_left (not (is_close u)) (is_old_name u && true) (ap (λ b. not b) a.1 ∙ h)
token_met f.Literal e u v a h =
    or_left (is_literal u || is_spelled literal_starts u) (is_old_name u && false) (or_same (is_literal u) (is_spelled literal_starts u) (is_literal v) (is_spelled literal_starts v) a.2 (ap (λ o. is_one_of literal_starts o) a.4) ∙ h)
token_met f.Block e u v a h = or_left (is_spelled (codes "{" ∷ []) u) (is_old_name u && false) (ap (λ o. is_one_of (codes "{" ∷ []) o) a.4 ∙ h)
token_met f.Expr e u v a h =
    named (is_name v) (is_name u) (is_literal v || (is_lifetime v || is_spelled expr_starts v)) (is_literal u || (is_lifetime u || is_spelled expr_starts u)) (is_old_name u)
    (λ n. a.5 ∙ (old_name v n).0)
    (sym (or_same (is_literal u) (is_lifetime u || is_spelled expr_starts u) (is_literal v) (is_lifetime v || is_spelled expr_starts v) a.2
    (or_same (is_lifetime u) (is_spelled expr_starts u) (is_lifetime v) (is_spelled expr_starts v) a.3 (ap (λ o. is_one_of expr_starts o) a.4)))) h
token_met f.Stmt e u v a h = or_left (not (is_close u)) (is_old_name u && true) (ap (λ b. not b) a.1 ∙ h)
token_met f.Ty e u v a h =
    named (is_name v) (is_name u) (is_lifetime v || is_spelled type_starts v) (is_lifetime u || is_spelled type_starts u) (is_old_name u) (λ n. a.5 ∙ (old_name v n).0)
    (sym (or_same (is_lifetime u) (is_spelled type_starts u) (is_lifetime v) (is_spelled type_starts v) a.3 (ap (λ o. is_one_of type_starts o) a.4))) h
token_met f.Path e u v a h =
    or_left (is_word u || is_spelled path_starts u) (is_old_name u && true) (or_same (is_word u) (is_spelled path_starts u) (is_word v) (is_spelled path_starts v) a.0 (ap (λ o. is_one_of path_starts o) a.4) ∙ h)
token_met f.Pat e u v a h =
    or_left ((is_word u || (is_literal u || is_spelled pattern_starts u)) || (starts_in_2021 e && is_spelled (codes "|" ∷ []) u)) (is_old_name u && true)
    (or_same (is_word u || (is_literal u || is_spelled pattern_starts u)) (starts_in_2021 e && is_spelled (codes "|" ∷ []) u)
    (is_word v || (is_literal v || is_spelled pattern_starts v)) (starts_in_2021 e && is_spelled (codes "|" ∷ []) v)
    (or_same (is_word u) (is_literal u || is_spelled pattern_starts u) (is_word v) (is_literal v || is_spelled pattern_starts v) a.0
    (or_same (is_literal u) (is_spelled pattern_starts u) (is_literal v) (is_spelled pattern_starts v) a.2 (ap (λ o. is_one_of pattern_starts o) a.4)))
    (ap (λ o. starts_in_2021 e && is_one_of (codes "|" ∷ []) o) a.4) ∙ h)
token_met f.PatParam e u v a h =
    or_left (is_word u || (is_literal u || is_spelled pattern_starts u)) (is_old_name u && true)
    (or_same (is_word u) (is_literal u || is_spelled pattern_starts u) (is_word v) (is_literal v || is_spelled pattern_starts v) a.0
    (or_same (is_literal u) (is_spelled pattern_starts u) (is_literal v) (is_spelled pattern_starts v) a.2 (ap (λ o. is_one_of pattern_starts o) a.4)) ∙ h)
token_met f.Item e u v a h = or_left (not (is_close u)) (is_old_name u && true) (ap (λ b. not b) a.1 ∙ h)

token_found : (u : Token) (k : Specifier) (i : Pieces) → is_next u i ≡ true → starts_at k i ≡ true → token_meets u k ≡ true
unfolding starts
token_found u k [] a b = cc
token_found u k (p.Token v ∷ i) a b = token_met k.kind k.edition u v (alike u v a) b
token_found u k (x ∷ i) a b = cc

token_at : (u : Token) (k : Specifier) → token_meets u k ≡ true → (i : Pieces) × (is_next u i ≡ true) × (starts_at k i ≡ true)
unfolding starts
token_at u k h = pick (or_cases (starts_token k.kind k.edition u) (is_old_name u && starts_name k.kind) h)
  where
    pick : (starts_token k.kind k.edition u ≡ true) ⊎ ((is_old_name u && starts_name k.kind) ≡ true) → (i : Pieces) × (is_next u i ≡ true) × (starts_at k i ≡ true)
    pick (inl a) = (p.Token u ∷ [], same_itself u u refl refl, a)
    pick (inr a) =
        let v : Token = record u { edition = E2015 } in
        (p.Token v ∷ [], same_itself u v refl refl, name_starts k.kind k.edition v (and_left (is_old_name u) (starts_name k.kind) a) (and_right (is_old_name u) (starts_name k.kind) a))

-- ---- two fragments

abbrev a_token : TokenKind → List ℕ → Token
a_token k x = record { kind = k; text = x; span = record { file = 0; start = 0; end = 0 }; edition = E2015; marks = []; doc = false }

abbrev pub a_name : Token
a_name = a_token (t.Ident (codes "x") false) (codes "x")

abbrev pub a_truth : Token
a_truth = a_token (t.Ident (codes "true") false) (codes "true")

abbrev pub a_brace : Token
a_brace = a_token t.Open (codes "{")

pub name_at : (k : FragmentKind) (e : Edition) → starts_name k ≡ true → starts_token k e a_name ≡ true
unfolding class_of
name_at k e h = name_starts k e a_name refl h

pub truth_at : (k : FragmentKind) (e : Edition) → starts_true k ≡ true → starts_token k e a_truth ≡ true
unfolding starts_token class_of
truth_at f.Ident e h = refl
truth_at f.Tt e h = refl
truth_at f.Literal e h = refl
truth_at f.Block e h = cc
truth_at f.Expr e h = refl
truth_at f.Stmt e h = refl
truth_at f.Ty e h = cc
truth_at f.Path e h = refl
truth_at f.Pat e h = refl
truth_at f.PatParam e h = refl
truth_at f.Item e h = refl

pub brace_at : (k : FragmentKind) (e : Edition) → starts_brace k ≡ true → starts_token k e a_brace ≡ true
unfolding starts_token
brace_at f.Ident e h = cc
brace_at f.Tt e h = refl
brace_at f.Literal e h = cc
brace_at f.Block e h = refl
brace_at f.Expr e h = refl
brace_at f.Stmt e h = refl
brace_at f.Ty e h = cc
brace_at f.Path e h = cc
brace_at f.Pat e h = cc
brace_at f.PatParam e h = cc
brace_at f.Item e h = refl

kinds_at : (k l : Specifier) → kinds_meet k.kind l.kind ≡ true → (i : Pieces) × (starts_at k i ≡ true) × (starts_at l i ≡ true)
unfolding starts
kinds_at k l h = pick (or_cases (starts_name k.kind && starts_name l.kind) ((starts_true k.kind && starts_true l.kind) || (starts_brace k.kind && starts_brace l.kind)) h)
  where
    more : ((starts_true k.kind && starts_true l.kind) ≡ true) ⊎ ((starts_brace k.kind && starts_brace l.kind) ≡ true) → (i : Pieces) × (starts_at k i ≡ true) × (starts_at l i ≡ true)
    more (inl a) =
        (p.Token a_truth ∷ [], truth_at k.kind k.edition (and_left (starts_true k.kind) (starts_true l.kind) a), truth_at l.kind l.edition (and_right (starts_true k.kind) (starts_true l.kind) a))
    more (inr a) =
        (p.Token a_brace ∷ [], brace_at k.kind k.edition (and_left (starts_brace k.kind) (starts_brace l.kind) a), brace_at l.kind l.edition (and_right (starts_brace k.kind) (starts_brace l.kind) a))

    pick : ((starts_name k.kind && starts_name l.kind) ≡ true) ⊎ (((starts_true k.kind && starts_true l.kind) || (starts_brace k.kind && starts_brace l.kind)) ≡ true)
        → (i : Pieces) × (starts_at k i ≡ true) × (starts_at l i ≡ true)
    pick (inl a) =
        (p.Token a_name ∷ [], name_at k.kind k.edition (and_left (starts_name k.kind) (starts_name l.kind) a), name_at l.kind l.edition (and_right (starts_name k.kind) (starts_name l.kind) a))
    pick (inr a) = more (or_cases (starts_true k.kind && starts_true l.kind) (starts_brace k.kind && starts_brace l.kind) a)

-- a token with which a block starts
abbrev pub IsBrace : Token → Type 0
IsBrace v = (is_word v ≡ false) × (is_literal v ≡ false) × (is_lifetime v ≡ false) × (is_name v ≡ false) × (spelling v ≡ Some (codes "{"))

brace_text : (x : List ℕ) → is_one_of (codes "{" ∷ []) (Some x) ≡ true → x ≡ codes "{"
brace_text x h = pick (or_cases (bytes_eq (codes "{") x) false h)
  where
    pick : (bytes_eq (codes "{") x ≡ true) ⊎ (false ≡ true) → x ≡ codes "{"
    pick (inl a) = sym ((bytes_decides (codes "{") x).0 a)
    pick (inr a) = cc

pub brace_is : (v : Token) → is_spelled (codes "{" ∷ []) v ≡ true → IsBrace v
brace_is v h = go v.kind h
  where
    go : (k : TokenKind) → is_spelled (codes "{" ∷ []) (of_kind v k) ≡ true → IsBrace (of_kind v k)
    go (t.Ident name true) h = cc
    go (t.Ident name false) h = absurd (word (is_lettered name) refl h)
      where
        word : (b : Bool) → is_lettered name ≡ b → is_one_of (codes "{" ∷ []) (if b then Some name else None) ≡ true → ⊥
        word true is h = let e : false ≡ true = sym (ap (λ n. is_lettered n) (brace_text name h)) ∙ is in cc
        word false is h = cc
    go (t.Lifetime name) h = cc
    go (t.Int value suffix) h = cc
    go (t.Char value) h = cc
    go (t.Byte value) h = cc
    go (t.Str value) h = cc
    go (t.ByteStr value) h = cc
    go t.Open h = (refl, refl, refl, refl, ap (λ x. Some x) (brace_text v.text h))
    go t.Close h = (refl, refl, refl, refl, ap (λ x. Some x) (brace_text v.text h))
    go t.Punct h = (refl, refl, refl, refl, ap (λ x. Some x) (brace_text v.text h))

brace_kinds : (l : FragmentKind) (g : Edition) (v : Token) → IsBrace v → starts_token l g v ≡ true → kinds_meet f.Block l ≡ true
unfolding starts_token
brace_kinds f.Ident g v a h = absurd (clash (is_word v) h a.0)
brace_kinds f.Tt g v a h = refl
brace_kinds f.Literal g v a h =
    absurd (clash (is_literal v || is_spelled literal_starts v) h (or_same (is_literal v) (is_spelled literal_starts v) false false a.1 (ap (λ o. is_one_of literal_starts o) a.4)))
brace_kinds f.Block g v a h = refl
brace_kinds f.Expr g v a h = refl
brace_kinds f.Stmt g v a h = refl
brace_kinds f.Ty g v a h =
    absurd (clash (is_name v || (is_lifetime v || is_spelled type_starts v)) h (or_same (is_name v) (is_lifetime v || is_spelled type_starts v) false false a.3
    (or_same (is_lifetime v) (is_spelled type_starts v) false false a.2 (ap (λ o. is_one_of type_starts o) a.4))))
brace_kinds f.Path g v a h =
    absurd (clash (is_word v || is_spelled path_starts v) h (or_same (is_word v) (is_spelled path_starts v) false false a.0 (ap (λ o. is_one_of path_starts o) a.4)))
brace_kinds f.Pat g v a h = absurd (clash _ h (or_same _ _ false false (or_same _ _ false false a.0 (or_same _ _ false false a.1 (ap (λ o. is_one_of pattern_starts o) a.4)))
    (bar (starts_in_2021 g))))
  where
    bar : (b : Bool) → (b && is_spelled (codes "|" ∷ []) v) ≡ false
    bar true = ap (λ o. is_one_of (codes "|" ∷ []) o) a.4
    bar false = refl
brace_kinds f.PatParam g v a h = absurd (clash _ h (or_same _ _ false false a.0 (or_same _ _ false false a.1 (ap (λ o. is_one_of pattern_starts o) a.4))))
brace_kinds f.Item g v a h = refl

-- a token that starts a literal starts no type
no_sign : (x y : List ℕ) → bytes_eq x y ≡ true → is_one_of type_starts (Some x) ≡ false → is_one_of type_starts (Some y) ≡ true → ⊥
no_sign x y is none h = clash (is_one_of type_starts (Some y)) h (ap (λ z. is_one_of type_starts (Some z)) (sym ((bytes_decides x y).0 is)) ∙ none)

no_keyword : (e : Edition) (x y : List ℕ) → bytes_eq x y ≡ true → is_keyword (class_of e x) ≡ true → is_one_of type_starts (Some x) ≡ false
    → (not (is_keyword (class_of e y)) || is_one_of type_starts (Some y)) ≡ true → ⊥
no_keyword e x y is key none h =
    let q : x ≡ y = (bytes_decides x y).0 is in
    clash (not (is_keyword (class_of e y)) || is_one_of type_starts (Some y)) h
    (or_same (not (is_keyword (class_of e y))) (is_one_of type_starts (Some y)) false false (ap (λ z. not (is_keyword (class_of e z))) (sym q) ∙ ap (λ z. not z) key)
    (ap (λ z. is_one_of type_starts (Some z)) (sym q) ∙ none))

true_or_false_or_minus : (x : List ℕ) → is_one_of literal_starts (Some x) ≡ true → (bytes_eq (codes "true") x ≡ true) ⊎ ((bytes_eq (codes "false") x ≡ true) ⊎ (bytes_eq (codes "-") x ≡ true))
true_or_false_or_minus x h = first (or_cases (bytes_eq (codes "true") x) (bytes_eq (codes "false") x || (bytes_eq (codes "-") x || false)) h)
  where
    third : (bytes_eq (codes "-") x ≡ true) ⊎ (false ≡ true) → (bytes_eq (codes "false") x ≡ true) ⊎ (bytes_eq (codes "-") x ≡ true)
    third (inl h) = inr h
    third (inr h) = cc

    second : (bytes_eq (codes "false") x ≡ true) ⊎ ((bytes_eq (codes "-") x || false) ≡ true) → (bytes_eq (codes "false") x ≡ true) ⊎ (bytes_eq (codes "-") x ≡ true)
    second (inl h) = inl h
    second (inr h) = third (or_cases (bytes_eq (codes "-") x) false h)

    first : (bytes_eq (codes "true") x ≡ true) ⊎ ((bytes_eq (codes "false") x || (bytes_eq (codes "-") x || false)) ≡ true)
        → (bytes_eq (codes "true") x ≡ true) ⊎ ((bytes_eq (codes "false") x ≡ true) ⊎ (bytes_eq (codes "-") x ≡ true))
    first (inl h) = inl h
    first (inr h) = inr (second (or_cases (bytes_eq (codes "false") x) (bytes_eq (codes "-") x || false) h))

sign_no_type : (x : List ℕ) → is_one_of literal_starts (Some x) ≡ true → is_one_of type_starts (Some x) ≡ true → ⊥
sign_no_type x a b = go (true_or_false_or_minus x a)
  where
    go : (bytes_eq (codes "true") x ≡ true) ⊎ ((bytes_eq (codes "false") x ≡ true) ⊎ (bytes_eq (codes "-") x ≡ true)) → ⊥
    go (inl h) = no_sign (codes "true") x h refl b
    go (inr (inl h)) = no_sign (codes "false") x h refl b
    go (inr (inr h)) = no_sign (codes "-") x h refl b

word_no_type : (e : Edition) (name : List ℕ) (lettered : Bool) → is_lettered name ≡ lettered → is_one_of literal_starts (if lettered then Some name else None) ≡ true
    → (not (is_keyword (class_of e name)) || is_one_of type_starts (if lettered then Some name else None)) ≡ true → ⊥
unfolding class_of
word_no_type e name false is a b = cc
word_no_type e name true is a b = go (true_or_false_or_minus name a)
  where
    go : (bytes_eq (codes "true") name ≡ true) ⊎ ((bytes_eq (codes "false") name ≡ true) ⊎ (bytes_eq (codes "-") name ≡ true)) → ⊥
    go (inl h) = no_keyword e (codes "true") name h refl refl b
    go (inr (inl h)) = no_keyword e (codes "false") name h refl refl b
    go (inr (inr h)) = clash (is_lettered name) is (ap (λ z. is_lettered z) (sym ((bytes_decides (codes "-") name).0 h)))

no_type : (e g : Edition) (v : Token) → starts_token f.Literal e v ≡ true → starts_token f.Ty g v ≡ true → ⊥
unfolding starts_token
no_type e g v a b = go v.kind a b
  where
    go : (k : TokenKind) → (is_literal (of_kind v k) || is_spelled literal_starts (of_kind v k)) ≡ true
        → (is_name (of_kind v k) || (is_lifetime (of_kind v k) || is_spelled type_starts (of_kind v k))) ≡ true → ⊥
    go (t.Ident name true) a b = cc
    go (t.Ident name false) a b = word_no_type v.edition name (is_lettered name) refl a b
    go (t.Lifetime name) a b = cc
    go (t.Int value suffix) a b = cc
    go (t.Char value) a b = cc
    go (t.Byte value) a b = cc
    go (t.Str value) a b = cc
    go (t.ByteStr value) a b = cc
    go t.Open a b = sign_no_type v.text a b
    go t.Close a b = sign_no_type v.text a b
    go t.Punct a b = sign_no_type v.text a b

starts_block : (e : Edition) (v : Token) → starts_token f.Block e v ≡ true → IsBrace v
unfolding starts_token
starts_block e v h = brace_is v h

no_block : (e g : Edition) (v : Token) → starts_token f.Literal e v ≡ true → starts_token f.Block g v ≡ true → ⊥
unfolding starts_token
no_block e g v a h =
    let b : IsBrace v = brace_is v h in
    clash (is_literal v || is_spelled literal_starts v) a (or_same (is_literal v) (is_spelled literal_starts v) false false b.1 (ap (λ o. is_one_of literal_starts o) b.4))

literal_kinds : (l : FragmentKind) (e g : Edition) (v : Token) → starts_token f.Literal e v ≡ true → starts_token l g v ≡ true → kinds_meet f.Literal l ≡ true
literal_kinds f.Ident e g v a h = refl
literal_kinds f.Tt e g v a h = refl
literal_kinds f.Literal e g v a h = refl
literal_kinds f.Block e g v a h = absurd (no_block e g v a h)
literal_kinds f.Expr e g v a h = refl
literal_kinds f.Stmt e g v a h = refl
literal_kinds f.Ty e g v a h = absurd (no_type e g v a h)
literal_kinds f.Path e g v a h = refl
literal_kinds f.Pat e g v a h = refl
literal_kinds f.PatParam e g v a h = refl
literal_kinds f.Item e g v a h = refl

and_sym : (a b : Bool) → (a && b) ≡ (b && a)
and_sym true true = refl
and_sym true false = refl
and_sym false true = refl
and_sym false false = refl

meet_sym : (k l : FragmentKind) → kinds_meet k l ≡ kinds_meet l k
meet_sym k l =
    or_same (starts_name k && starts_name l) ((starts_true k && starts_true l) || (starts_brace k && starts_brace l)) (starts_name l && starts_name k)
    ((starts_true l && starts_true k) || (starts_brace l && starts_brace k)) (and_sym (starts_name k) (starts_name l))
    (or_same (starts_true k && starts_true l) (starts_brace k && starts_brace l) (starts_true l && starts_true k) (starts_brace l && starts_brace k)
    (and_sym (starts_true k) (starts_true l)) (and_sym (starts_brace k) (starts_brace l)))

-- kinds that don't start with a name
abbrev Nameless : FragmentKind → Type 0
Nameless k = (k ≡ f.Literal) ⊎ (k ≡ f.Block)

named_or_not : (k : FragmentKind) → (starts_name k ≡ true) ⊎ Nameless k
named_or_not f.Ident = inl refl
named_or_not f.Tt = inl refl
named_or_not f.Literal = inr (inl refl)
named_or_not f.Block = inr (inr refl)
named_or_not f.Expr = inl refl
named_or_not f.Stmt = inl refl
named_or_not f.Ty = inl refl
named_or_not f.Path = inl refl
named_or_not f.Pat = inl refl
named_or_not f.PatParam = inl refl
named_or_not f.Item = inl refl

-- two kinds meet if that holds wherever one of them doesn't start with a name
meet_by : (k l : FragmentKind) → (Nameless k → kinds_meet k l ≡ true) → (Nameless l → kinds_meet l k ≡ true) → kinds_meet k l ≡ true
meet_by k l a b = go (named_or_not k) (named_or_not l)
  where
    go : (starts_name k ≡ true) ⊎ Nameless k → (starts_name l ≡ true) ⊎ Nameless l → kinds_meet k l ≡ true
    go (inr x) y = a x
    go (inl x) (inr y) = meet_sym k l ∙ b y
    go (inl x) (inl y) =
        or_left (starts_name k && starts_name l) ((starts_true k && starts_true l) || (starts_brace k && starts_brace l)) (and_both (starts_name k) (starts_name l) x y)

tokens_meet : (k l : FragmentKind) (e g : Edition) (v : Token) → starts_token k e v ≡ true → starts_token l g v ≡ true → kinds_meet k l ≡ true
tokens_meet k l e g v a b = meet_by k l (side k l e g a b) (side l k g e b a)
  where
    side : (k l : FragmentKind) (e g : Edition) → starts_token k e v ≡ true → starts_token l g v ≡ true → Nameless k → kinds_meet k l ≡ true
    side k l e g a b (inl is) = ap (λ z. kinds_meet z l) is ∙ literal_kinds l e g v (subst (λ z. starts_token z e v ≡ true) is a) b
    side k l e g a b (inr is) = ap (λ z. kinds_meet z l) is ∙ brace_kinds l g v (starts_block e v (subst (λ z. starts_token z e v ≡ true) is a)) b

-- a group that starts a block is one
pub block_group : (g : FragmentKind) (one : Bool) → starts_kind g one f.Block ≡ true → g ≡ f.Block
unfolding starts_kind
block_group f.Ident one h = cc
block_group f.Tt one h = cc
block_group f.Literal one h = cc
block_group f.Block one h = refl
block_group f.Expr one h = cc
block_group f.Stmt one h = cc
block_group f.Ty one h = cc
block_group f.Path one h = cc
block_group f.Pat one h = cc
block_group f.PatParam one h = cc
block_group f.Item one h = cc

literal_group : (g : FragmentKind) (one : Bool) → starts_kind g one f.Literal ≡ true → g ≡ f.Literal
unfolding starts_kind
literal_group f.Ident one h = cc
literal_group f.Tt one h = cc
literal_group f.Literal one h = refl
literal_group f.Block one h = cc
literal_group f.Expr one h = cc
literal_group f.Stmt one h = cc
literal_group f.Ty one h = cc
literal_group f.Path one h = cc
literal_group f.Pat one h = cc
literal_group f.PatParam one h = cc
literal_group f.Item one h = cc

from_block : (l : FragmentKind) (one : Bool) → starts_kind f.Block one l ≡ true → kinds_meet f.Block l ≡ true
unfolding starts_kind
from_block f.Ident one h = cc
from_block f.Tt one h = refl
from_block f.Literal one h = cc
from_block f.Block one h = refl
from_block f.Expr one h = refl
from_block f.Stmt one h = refl
from_block f.Ty one h = cc
from_block f.Path one h = cc
from_block f.Pat one h = cc
from_block f.PatParam one h = cc
from_block f.Item one h = cc

from_literal : (l : FragmentKind) (one : Bool) → starts_kind f.Literal one l ≡ true → kinds_meet f.Literal l ≡ true
unfolding starts_kind
from_literal f.Ident one h = cc
from_literal f.Tt one h = refl
from_literal f.Literal one h = refl
from_literal f.Block one h = cc
from_literal f.Expr one h = refl
from_literal f.Stmt one h = refl
from_literal f.Ty one h = cc
from_literal f.Path one h = cc
from_literal f.Pat one h = refl
from_literal f.PatParam one h = refl
from_literal f.Item one h = cc

groups_meet : (k l g : FragmentKind) (one : Bool) → starts_kind g one k ≡ true → starts_kind g one l ≡ true → kinds_meet k l ≡ true
groups_meet k l g one a b = meet_by k l (side k l a b) (side l k b a)
  where
    side : (k l : FragmentKind) → starts_kind g one k ≡ true → starts_kind g one l ≡ true → Nameless k → kinds_meet k l ≡ true
    side k l a b (inl is) =
        let e : g ≡ f.Literal = literal_group g one (subst (λ z. starts_kind g one z ≡ true) is a) in
        ap (λ z. kinds_meet z l) is ∙ from_literal l one (subst (λ z. starts_kind z one l ≡ true) e b)
    side k l a b (inr is) =
        let e : g ≡ f.Block = block_group g one (subst (λ z. starts_kind g one z ≡ true) is a) in
        ap (λ z. kinds_meet z l) is ∙ from_block l one (subst (λ z. starts_kind z one l ≡ true) e b)

kinds_found : (k l : Specifier) (i : Pieces) → starts_at k i ≡ true → starts_at l i ≡ true → kinds_meet k.kind l.kind ≡ true
unfolding starts
kinds_found k l [] a b = cc
kinds_found k l (p.Token v ∷ i) a b = tokens_meet k.kind l.kind k.edition l.edition v a b
kinds_found k l (p.Group g ∷ i) a b = groups_meet k.kind l.kind (kind_of g) (not (list_any is_bar (pieces_of g))) a b

-- ---- starters

none_start : (k : Specifier) → starts_at k [] ≡ true → ◌≡◌ {A = Bool} false true
unfolding starts
none_start k h = h

-- pieces with which both begin are an overlap
overlap_found : (x y : Starter) (i : Pieces) → begins x i ≡ true → begins y i ≡ true → overlaps x y ≡ true
overlap_found (s.Next u) (s.Next v) [] a b = cc
overlap_found (s.Next u) (s.Next v) (p.Token w ∷ i) a b = same_shared u v w a b
overlap_found (s.Next u) (s.Next v) (z ∷ i) a b = cc
overlap_found (s.Next u) (s.Begins l) i a b = token_found u l i a b
overlap_found (s.Next u) s.End [] a b = cc
overlap_found (s.Next u) s.End (z ∷ i) a b = cc
overlap_found (s.Begins k) (s.Next v) i a b = token_found v k i b a
overlap_found (s.Begins k) (s.Begins l) i a b = kinds_found k l i a b
overlap_found (s.Begins k) s.End [] a b = none_start k a
overlap_found (s.Begins k) s.End (z ∷ i) a b = cc
overlap_found s.End (s.Next v) [] a b = cc
overlap_found s.End (s.Next v) (z ∷ i) a b = cc
overlap_found s.End (s.Begins l) [] a b = none_start l b
overlap_found s.End (s.Begins l) (z ∷ i) a b = cc
overlap_found s.End s.End i a b = refl

-- an overlap has such pieces
overlap_at : (x y : Starter) → overlaps x y ≡ true → (i : Pieces) × (begins x i ≡ true) × (begins y i ≡ true)
overlap_at (s.Next u) (s.Next v) h = (p.Token v ∷ [], h, same_itself v v refl refl)
overlap_at (s.Next u) (s.Begins l) h = token_at u l h
overlap_at (s.Next u) s.End h = cc
overlap_at (s.Begins k) (s.Next v) h = let w : (i : Pieces) × (is_next v i ≡ true) × (starts_at k i ≡ true) = token_at v k h in (w.0, w.2, w.1)
overlap_at (s.Begins k) (s.Begins l) h = kinds_at k l h
overlap_at (s.Begins k) s.End h = cc
overlap_at s.End (s.Next v) h = cc
overlap_at s.End (s.Begins l) h = cc
overlap_at s.End s.End h = ([], refl, refl)

-- ---- lists of starters

from_sound : (x : Starter) (ys : Starters) (i : Pieces) → apart_from x ys ≡ true → begins x i ≡ true → begins_any ys i ≡ true → ⊥
from_sound x [] i h a b = cc
from_sound x (y ∷ ys) i h a b =
    pick (λ c. from_sound x ys i (and_right (not (overlaps x y)) (apart_from x ys) h) a c) (or_cases (begins y i) (begins_any ys i) b)
  where
    pick : (begins_any ys i ≡ true → ⊥) → (begins y i ≡ true) ⊎ (begins_any ys i ≡ true) → ⊥
    pick go (inl c) = clash (overlaps x y) (overlap_found x y i a c) (not_true (overlaps x y) (and_left (not (overlaps x y)) (apart_from x ys) h))
    pick go (inr c) = go c

pub apart_sound : (xs ys : Starters) → apart xs ys ≡ true → Disjoint (begins_any xs) (begins_any ys)
apart_sound [] ys h i a b = cc
apart_sound (x ∷ xs) ys h i a b = pick (λ c. apart_sound xs ys (and_right (apart_from x ys) (apart xs ys) h) i c b) (or_cases (begins x i) (begins_any xs i) a)
  where
    pick : (begins_any xs i ≡ true → ⊥) → (begins x i ≡ true) ⊎ (begins_any xs i ≡ true) → ⊥
    pick go (inl c) = from_sound x ys i (and_left (apart_from x ys) (apart xs ys) h) c b
    pick go (inr c) = go c

from_complete : (x : Starter) (ys : Starters) → ((i : Pieces) → begins x i ≡ true → begins_any ys i ≡ true → ⊥) → apart_from x ys ≡ true
from_complete x [] h = refl
from_complete x (y ∷ ys) h =
    and_both (not (overlaps x y)) (apart_from x ys) (not_false (overlaps x y) (is_false (overlaps x y) none))
    (from_complete x ys (λ i a b. h i a (or_right (begins y i) (begins_any ys i) b)))
  where
    none : overlaps x y ≡ true → ⊥
    none is =
        let w : (i : Pieces) × (begins x i ≡ true) × (begins y i ≡ true) = overlap_at x y is in h w.0 w.1 (or_left (begins y w.0) (begins_any ys w.0) w.2)

pub apart_complete : (xs ys : Starters) → Disjoint (begins_any xs) (begins_any ys) → apart xs ys ≡ true
apart_complete [] ys h = refl
apart_complete (x ∷ xs) ys h =
    and_both (apart_from x ys) (apart xs ys) (from_complete x ys (λ i a b. h i (or_left (begins x i) (begins_any xs i) a) b))
    (apart_complete xs ys (λ i a b. h i (or_right (begins x i) (begins_any xs i) a) b))
