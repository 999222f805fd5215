-- Receivers and parameters are read.
use Rattle.std.proofs.Common.{◌≡◌, ℕ, suc, ◌≤◌, Bool, true, false, not, ◌&&◌, ◌||◌, if◌then◌else◌, List, [], ◌∷◌, ◌++◌, Option, Some, None, refl, sym, ◌∙◌, ap, subst, append_assoc, arith, ◌⊎◌, inl, inr}
use Rattle.std.specs.Prelude.{codes}
use Rattle.em_base.specs.declared.token.Token.{Token}
use Rattle.em_tree.specs.declared.piece.Piece.{Piece}
use Rattle.em_tree.specs.declared.piece.Piece.TheVariants as p
use Rattle.em_tree.specs.declared.types.TypeTree.{TypeTree}
use Rattle.em_tree.specs.declared.pat.Pat.{Pat}
use Rattle.em_tree.specs.declared.item.SelfParam.{SelfParam}
use Rattle.em_tree.specs.declared.item.Param.{Param}
use Rattle.em_tree.specs.declared.item.Param.TheVariants as param
use Rattle.em_tree.specs.Parts.{maybe, self_param_parts}
use Rattle.em_tree.specs.Starts.{Pieces, spelling, is_spelled}
use Rattle.em_tree.specs.Tokens.{Is, Maybe}
use Rattle.em_tree.specs.Yields.{piece, whole, as_it_is, opened, opened_piece}
use Rattle.em_tree.specs.PathGrammar.{type_pieces, TypeWithin}
use Rattle.em_tree.specs.PatGrammar.{pat_pieces, IsPat}
use Rattle.em_tree.specs.ItemGrammar.{IsReceiver, is_receiver, starts_before_2018, param_pieces, can_be_named, is_short, IsParam}
use Rattle.em_grammar.specs.declared.sort.Written.{Written}
use Rattle.em_grammar.specs.declared.sort.Written.TheVariants as word
use Rattle.em_grammar.specs.Sorts.{text_of}
use Rattle.em_grammar.specs.Sets.{Set, next, subset, either, both, tokens, others, unended, only, is_sign, name_sort}
use Rattle.em_grammar.specs.Lang.{Seq, Opt, Image}
use Rattle.em_grammar.specs.Reader.{Read, Found, Absent, Deep, and_then, or_stay, seq, opt, mapped}
use Rattle.em_grammar.specs.TypeReader.{type_first, type_clear}
use Rattle.em_grammar.specs.PatReader.{pat_first, pat_clear}
use Rattle.em_grammar.specs.ItemReader.{at, mark, self_of, self_param, self_end, stands_before, self_ahead, one_ahead, mut_ahead, pattern_ahead, typed_of, anonymous_of, param_by}
use Rattle.em_grammar.specs.Pairs.{Pair, Begins}
use Rattle.em_grammar.proofs.Pairs.{tok, seq_of, part_seq, opt_of, may_opt, in_subset, next_others, begins_next, absent_token, whole_token}
use Rattle.em_grammar.proofs.Forms.{image_of, same_of}
use Rattle.em_grammar.proofs.Tests as test
use Rattle.em_grammar.proofs.Tests.{sign, one_spelled, spelled_so}
use Rattle.em_grammar.proofs.PathFacts.{Opens, opened_token, each_append}
use Rattle.em_grammar.proofs.PatPairs.{pats_read}
use Rattle.em_grammar.proofs.ItemTools.{ahead_of, Told, flat3, nest3}
use Rattle.em_grammar.proofs.ItemUsePairs.{free}
use Rattle.em_grammar.proofs.ItemSecond.{Second, stops, head_only, type_begins, type_second, type_ref, RefPieces, type_opens}
use Rattle.em_grammar.proofs.ItemPats.{begins_apart, pat_second, pat_mut, MutName}

abbrev pub self_pieces : SelfParam → Pieces
self_pieces x = self_param_parts piece whole as_it_is x

-- ---- receivers

to_self : (d : ℕ) (x : SelfParam) → Image self_of (Seq (Opt (λ d. Is (codes "&"))) (Seq (Opt (λ d. Is (codes "mut"))) (λ d. Is (codes "self")))) d x → IsReceiver x
to_self d x m = subst (λ x. IsReceiver x) (sym m.2) (flat3 m.1)

abbrev pub self_first : Set
self_first = either (at word.And) (either (at word.Mut) (at word.SelfValue))

pub self_pair : (H : Pieces → Type 0) (depth : ℕ) → Pair H depth (λ d. IsReceiver) self_pieces self_param self_first free
self_pair H depth =
    same_of to_self (λ d x m. ((x.amp, (x.word_mut, x.word)), nest3 m, refl))
    (image_of self_of self_pieces (λ d t m. refl) (λ _. refl)
    (part_seq (opt_of (tok (sign word.And))) (part_seq (opt_of (tok (sign word.Mut))) (tok (sign word.SelfValue)) (may_opt (at word.SelfValue) (at word.Mut) free refl (λ _. refl)))
    (may_opt (either (at word.Mut) (at word.SelfValue)) (at word.And) free refl (λ _. refl))))

stands_then : {A B : Type 0} (s : Set) (m : Read A) (f : A → B) → stands_before s (and_then m (λ a r. Found (f a) r)) ≡ stands_before s m
stands_then s (Found a r) f = refl
stands_then s Absent f = refl
stands_then s Deep f = refl

-- a sign that may be there
opt_reads : (x : Written) (a : Option Token) (i : Pieces) → Maybe (Is (text_of x)) a → (a ≡ None → next (at x) i ≡ false) → opt (mark x) (maybe piece a ++ i) ≡ Found a i
opt_reads x None i m h = ap (λ q. or_stay q (λ a r. Found (Some a) r) (Found None i)) (absent_token (Is (text_of x)) (is_sign x) (only x) (sign x) i (h refl))
opt_reads x (Some t) i m h = ap (λ q. or_stay q (λ a r. Found (Some a) r) (Found None (p.Token t ∷ i))) (whole_token (Is (text_of x)) (is_sign x) (only x) (sign x) t i m)

self_marks : (a m : Option Token) (i : Pieces) → Maybe (Is (codes "&")) a → Maybe (Is (codes "mut")) m → (a ≡ None → next (at word.And) (maybe piece m ++ i) ≡ false) → (m ≡ None → next (at word.Mut) i ≡ false)
    → self_ahead (maybe piece a ++ (maybe piece m ++ i)) ≡ stands_before self_end (mark word.SelfValue i)
self_marks a m i is at' h k =
    ap (λ q. stands_before self_end (and_then (and_then q (λ x r. and_then (seq (opt (mark word.Mut)) (mark word.SelfValue) r) (λ u s. Found (x, u) s))) (λ t s. Found (self_of t) s)))
    (opt_reads word.And a (maybe piece m ++ i) is h)
    ∙ stands_then self_end (and_then (seq (opt (mark word.Mut)) (mark word.SelfValue) (maybe piece m ++ i)) (λ u s. Found (a, u) s)) self_of
    ∙ stands_then self_end (seq (opt (mark word.Mut)) (mark word.SelfValue) (maybe piece m ++ i)) (λ u. (a, u))
    ∙ ap (λ q. stands_before {A = Option Token × Token} self_end (and_then q (λ x r. and_then (mark word.SelfValue r) (λ u s. Found (x, u) s)))) (opt_reads word.Mut m i at' k)
    ∙ stands_then self_end (mark word.SelfValue i) (λ u. (m, u))

-- what is in none of the first isn't in the second
outside : (s u : Set) (i : Pieces) → subset s u ≡ true → next u i ≡ false → next s i ≡ false
outside s u i inc h = go (next s i) refl
  where
    go : (b : Bool) → next s i ≡ b → b ≡ false
    go false is = refl
    go true is = sym (in_subset s u inc i is) ∙ h

not_next : (s f : Set) (ys r : Pieces) → subset f (others s) ≡ true → Begins f ys → next s (ys ++ r) ≡ false
not_next s f ys r inc b = next_others s (ys ++ r) (in_subset f (others s) inc (ys ++ r) (begins_next f ys r b))

-- what stands behind `self`
behind_self : (a : Token) (zs r : Pieces) → is_sign word.SelfValue a ≡ true → Second (p.Token a ∷ zs) → (zs ≡ [] → next self_end r ≡ false) → next self_end (zs ++ r) ≡ false
behind_self a [] r is s lone = lone refl
behind_self a (y ∷ zs) r is (inl s) lone = outside self_end stops (y ∷ (zs ++ r)) refl (head_only stops y (zs ++ r) ∙ s.1)
behind_self a (y ∷ zs) r is (inr s) lone = absurd (begins_apart (at word.OpenParen) (at word.SelfValue) (p.Token a ∷ []) refl is s.0)

self_behind : (ys r : Pieces) → Second ys → ((t : Token) → ys ≡ p.Token t ∷ [] → Is (codes "self") t → next self_end r ≡ false) → stands_before self_end (mark word.SelfValue (ys ++ r)) ≡ false
self_behind [] r s lone = absurd s
self_behind (p.Group g ∷ ys) r s lone = refl
self_behind (p.Token a ∷ zs) r s lone = go (is_sign word.SelfValue a) refl
  where
    go : (b : Bool) → is_sign word.SelfValue a ≡ b → stands_before self_end (if b then Found a (zs ++ r) else Absent) ≡ false
    go false is = refl
    go true is = behind_self a zs r is s (λ none. lone a (ap (λ k. p.Token a ∷ k) none) ((sign word.SelfValue).holds a is))

both_true : (a b : Bool) → a ≡ true → b ≡ true → (a && b) ≡ true
both_true true true h k = refl
both_true true false h k = cc
both_true false b h k = cc

receiver_yes : (amp : Token) (m : Option Token) (t : Token) → Is (codes "&") amp → Maybe (Is (codes "mut")) m → Is (codes "self") t → is_receiver (piece amp ++ (maybe piece m ++ piece t)) ≡ true
receiver_yes amp None t a b c = both_true (is_spelled (codes "&" ∷ []) amp) (is_spelled (codes "self" ∷ []) t) (spelled_so (codes "&") amp a) (spelled_so (codes "self") t c)
receiver_yes amp (Some w) t a b c =
    both_true (is_spelled (codes "&" ∷ []) amp) (is_spelled (codes "mut" ∷ []) w && is_spelled (codes "self" ∷ []) t) (spelled_so (codes "&") amp a)
    (both_true (is_spelled (codes "mut" ∷ []) w) (is_spelled (codes "self" ∷ []) t) (spelled_so (codes "mut") w b) (spelled_so (codes "self") t c))

-- a type that isn't a receiver isn't read as one
pub type_no_self : (d : ℕ) (x : TypeTree) (r : Pieces) → TypeWithin d x → is_receiver (type_pieces x) ≡ false → self_ahead (type_pieces x ++ r) ≡ false
type_no_self d x r m no_self = go (next (at word.And) (type_pieces x)) refl
  where
    plain : (ys : Pieces) → Begins type_first ys → next (at word.And) ys ≡ false → next (at word.And) (ys ++ r) ≡ false
    plain [] b h = absurd b
    plain (y ∷ ys) b h = head_only (at word.And) y (ys ++ r) ∙ sym (head_only (at word.And) y ys) ∙ h

    go : (b : Bool) → next (at word.And) (type_pieces x) ≡ b → self_ahead (type_pieces x ++ r) ≡ false
    go false h =
        self_marks None None (type_pieces x ++ r) tt tt (λ _. plain (type_pieces x) (type_begins d false x m) h) (λ _. not_next (at word.Mut) type_first (type_pieces x) r refl (type_begins d false x m))
        ∙ self_behind (type_pieces x) r (type_second d false x m) (λ t eq is. let yes : is_receiver (type_pieces x) ≡ true = ap (λ k. is_receiver k) eq ∙ spelled_so (codes "self") t is in cc)
    go true h = ref (type_ref d false x m h)
      where
        ref : RefPieces false (type_pieces x) → self_ahead (type_pieces x ++ r) ≡ false
        ref (amp, w, y, e, a, b, k, eq) =
            ap (λ ys. self_ahead (ys ++ r)) eq ∙ ap (λ k. self_ahead (p.Token amp ∷ k)) (append_assoc (maybe piece w) (type_pieces y) r)
            ∙ self_marks (Some amp) w (type_pieces y ++ r) a b (λ none. cc) (λ _. not_next (at word.Mut) type_first (type_pieces y) r refl (type_begins e false y k))
            ∙ self_behind (type_pieces y) r (type_second e false y k) (λ t one is.
            let yes : is_receiver (type_pieces x) ≡ true = ap (λ k. is_receiver k) (eq ∙ ap (λ k. piece amp ++ (maybe piece w ++ k)) one) ∙ receiver_yes amp w t a b is in cc)

pat_begins : (d : ℕ) (x : Pat) → IsPat d x → Begins pat_first (pat_pieces x)
pat_begins d x m = (pats_read 0 d).begins d x (omega arith) m

-- nor is a pattern with a type
pub pat_no_self : (d : ℕ) (x : Pat) (c : Token) (r : Pieces) → IsPat d x → Is (codes ":") c → self_ahead (pat_pieces x ++ (p.Token c ∷ r)) ≡ false
pat_no_self d x c r m is = go (next (at word.Mut) (pat_pieces x)) refl
  where
    plain : (ys : Pieces) → Begins pat_first ys → next (at word.Mut) ys ≡ false → next (at word.Mut) (ys ++ (p.Token c ∷ r)) ≡ false
    plain [] b h = absurd b
    plain (y ∷ ys) b h = head_only (at word.Mut) y (ys ++ (p.Token c ∷ r)) ∙ sym (head_only (at word.Mut) y ys) ∙ h

    go : (b : Bool) → next (at word.Mut) (pat_pieces x) ≡ b → self_ahead (pat_pieces x ++ (p.Token c ∷ r)) ≡ false
    go false h =
        self_marks None None (pat_pieces x ++ (p.Token c ∷ r)) tt tt (λ _. not_next (at word.And) pat_first (pat_pieces x) (p.Token c ∷ r) refl (pat_begins d x m)) (λ _. plain (pat_pieces x) (pat_begins d x m) h)
        ∙ self_behind (pat_pieces x) (p.Token c ∷ r) (pat_second d x m) (λ t one self. not_next self_end (at word.Colon) (p.Token c ∷ []) r refl ((sign word.Colon).sorted c is))
    go true h = named (pat_mut d x m h)
      where
        named : MutName (pat_pieces x) → self_ahead (pat_pieces x ++ (p.Token c ∷ r)) ≡ false
        named (a, b, k, n, eq) =
            ap (λ ys. self_ahead (ys ++ (p.Token c ∷ r))) eq
            ∙ self_marks None (Some a) (p.Token b ∷ p.Token c ∷ r) tt k (λ _. not_next (at word.And) (at word.Mut) (p.Token a ∷ []) (p.Token b ∷ p.Token c ∷ r) refl ((sign word.Mut).sorted a k)) (λ none. cc)
            ∙ ap (λ q. stands_before self_end q) (absent_token (Is (codes "self")) (is_sign word.SelfValue) (only word.SelfValue) (sign word.SelfValue) (p.Token b ∷ p.Token c ∷ r)
            (not_next (at word.SelfValue) (tokens name_sort) (p.Token b ∷ []) (p.Token c ∷ r) refl (test.name.sorted b n)))

-- ---- short patterns

and_left_off : (a b : Bool) → a ≡ false → (a && b) ≡ false
and_left_off true b h = cc
and_left_off false b h = refl

and_right_off : (a b : Bool) → b ≡ false → (a && b) ≡ false
and_right_off true b h = h
and_right_off false b h = refl

or_off : (a b : Bool) → a ≡ false → b ≡ false → (a || b) ≡ false
or_off true b h k = cc
or_off false b h k = k

or_second_on : (a b : Bool) → (a || b) ≡ true → a ≡ false → b ≡ true
or_second_on true b h k = cc
or_second_on false b h k = h

or_on_left : (a b : Bool) → a ≡ true → (a || b) ≡ true
or_on_left true b h = refl
or_on_left false b h = cc

or_on_right : (a b : Bool) → b ≡ true → (a || b) ≡ true
or_on_right true b h = refl
or_on_right false b h = h

abbrev short_ahead : Pieces → Bool
short_ahead i = one_ahead i || mut_ahead i

short_told : (ys : Pieces) (c : Token) (r : Pieces) → Is (codes ":") c → is_short ys ≡ true → short_ahead (ys ++ (p.Token c ∷ r)) ≡ true
short_told [] c r is h = cc
short_told (x ∷ []) c r is h = or_on_left (can_be_named x && is_sign word.Colon c) (mut_ahead (x ∷ p.Token c ∷ r)) (both_true (can_be_named x) (is_sign word.Colon c) h ((sign word.Colon).told c is))
short_told (p.Token a ∷ p.Token b ∷ []) c r is h =
    or_on_right (one_ahead (p.Token a ∷ p.Token b ∷ p.Token c ∷ r)) (is_sign word.Mut a && is_sign word.Colon c)
    (both_true (is_sign word.Mut a) (is_sign word.Colon c) ((sign word.Mut).told a (one_spelled (codes "mut") (spelling a) h)) ((sign word.Colon).told c is))
short_told (p.Token a ∷ p.Group g ∷ []) c r is h = cc
short_told (p.Group g ∷ y ∷ []) c r is h = cc
short_told (p.Token a ∷ p.Token b ∷ z ∷ zs) c r is h = cc
short_told (p.Token a ∷ p.Group g ∷ z ∷ zs) c r is h = cc
short_told (p.Group g ∷ y ∷ z ∷ zs) c r is h = cc

-- no `:` stands second
pair_none : (x y : Piece) (zs : Pieces) → next (at word.Colon) (y ∷ []) ≡ false → one_ahead (x ∷ y ∷ zs) ≡ false
pair_none x (p.Token b) zs h = and_right_off (can_be_named x) (is_sign word.Colon b) h
pair_none x (p.Group g) zs h = refl

no_mut : (x : Piece) (zs : Pieces) → next (at word.Mut) (x ∷ []) ≡ false → mut_ahead (x ∷ zs) ≡ false
no_mut (p.Group g) zs h = refl
no_mut (p.Token a) [] h = refl
no_mut (p.Token a) (p.Group g ∷ zs) h = refl
no_mut (p.Token a) (p.Token b ∷ []) h = refl
no_mut (p.Token a) (p.Token b ∷ p.Group g ∷ zs) h = refl
no_mut (p.Token a) (p.Token b ∷ p.Token c ∷ zs) h = and_left_off (is_sign word.Mut a) (is_sign word.Colon c) h

no_colon : (x y : Piece) (zs : Pieces) → Second (x ∷ y ∷ zs) → next (at word.Colon) (y ∷ []) ≡ false
no_colon x y zs (inl s) = outside (at word.Colon) stops (y ∷ []) refl s.1
no_colon x (p.Token b) zs (inr s) = not_next (at word.Colon) (at word.CloseParen) (p.Token b ∷ []) [] refl s.1
no_colon x (p.Group g) zs (inr s) = refl

-- pieces of which the second is no `:`, before what isn't one
short_none : (ys r : Pieces) → Second ys → next (at word.Mut) ys ≡ false → next (at word.Colon) r ≡ false → short_ahead (ys ++ r) ≡ false
short_none [] r s h k = absurd s
short_none (x ∷ []) [] s h k = or_off (one_ahead (x ∷ [])) (mut_ahead (x ∷ [])) refl (no_mut x [] h)
short_none (x ∷ []) (y ∷ r) s h k = or_off (one_ahead (x ∷ y ∷ r)) (mut_ahead (x ∷ y ∷ r)) (pair_none x y r (sym (head_only (at word.Colon) y r) ∙ k)) (no_mut x (y ∷ r) h)
short_none (x ∷ y ∷ ys) r s h k =
    or_off (one_ahead (x ∷ y ∷ (ys ++ r))) (mut_ahead (x ∷ y ∷ (ys ++ r))) (pair_none x y (ys ++ r) (no_colon x y ys s)) (no_mut x (y ∷ (ys ++ r)) (sym (head_only (at word.Mut) x (y ∷ ys)) ∙ h))

group_named : (a b : Bool) → ((a && b) || false) ≡ true → a ≡ true
group_named true b h = refl
group_named false b h = cc

-- a pattern before `:`
short_of : (ys : Pieces) (c : Token) (r : Pieces) → Second ys → (next (at word.Mut) ys ≡ true → MutName ys) → short_ahead (ys ++ (p.Token c ∷ r)) ≡ true → is_short ys ≡ true
short_of [] c r s n h = absurd s
short_of (p.Token a ∷ []) c r s n h = refl
short_of (p.Group g ∷ []) c r s n h = group_named (can_be_named (p.Group g)) (is_sign word.Colon c) h
short_of (x ∷ y ∷ ys) c r s n h = named (n (go (next (at word.Mut) (x ∷ y ∷ ys)) refl))
  where
    named : MutName (x ∷ y ∷ ys) → is_short (x ∷ y ∷ ys) ≡ true
    named (a, b, is, k, eq) = ap (λ ys. is_short ys) eq ∙ spelled_so (codes "mut") a is

    go : (b : Bool) → next (at word.Mut) (x ∷ y ∷ ys) ≡ b → b ≡ true
    go true is = refl
    go false is =
        let none : short_ahead (x ∷ y ∷ (ys ++ (p.Token c ∷ r))) ≡ false
        = or_off (one_ahead (x ∷ y ∷ (ys ++ (p.Token c ∷ r)))) (mut_ahead (x ∷ y ∷ (ys ++ (p.Token c ∷ r)))) (pair_none x y (ys ++ (p.Token c ∷ r)) (no_colon x y ys s))
        (no_mut x (y ∷ (ys ++ (p.Token c ∷ r))) (sym (head_only (at word.Mut) x (y ∷ ys)) ∙ is)) in
        cc

-- ---- the edition of a parameter

starts_more : (xs ys : List Token) → starts_before_2018 xs ≡ true → starts_before_2018 (xs ++ ys) ≡ true
starts_more [] ys h = cc
starts_more (x ∷ xs) ys h = h

starts_same : (ys r : Pieces) → Opens ys → starts_before_2018 (opened (ys ++ r)) ≡ starts_before_2018 (opened ys)
starts_same ys r o =
    ap (λ k. starts_before_2018 k) (each_append opened_piece ys r) ∙ ap (λ k. starts_before_2018 (k ++ opened r)) o.2 ∙ sym (ap (λ k. starts_before_2018 k) o.2)

opens_colon : (xs : Pieces) (c : Token) (zs : Pieces) → Opens (xs ++ (p.Token c ∷ zs))
opens_colon xs c zs = go (opened xs) refl
  where
    go : (ts : List Token) → opened xs ≡ ts → Opens (xs ++ (p.Token c ∷ zs))
    go [] is = (c, opened zs, each_append opened_piece xs (p.Token c ∷ zs) ∙ ap (λ k. k ++ opened (p.Token c ∷ zs)) is ∙ ap (λ k. k ++ opened zs) (opened_token c))
    go (t ∷ ts) is = (t, ts ++ opened (p.Token c ∷ zs), each_append opened_piece xs (p.Token c ∷ zs) ∙ ap (λ k. k ++ opened (p.Token c ∷ zs)) is)

-- ---- parameters

-- what may follow a parameter
abbrev pub param_clear : Set
param_clear = unended (both type_clear (others (at word.Colon)))

abbrev TypedSide : ℕ → Param → Type 0
TypedSide = Image typed_of (Seq IsPat (Seq (λ d. Is (codes ":")) TypeWithin))

abbrev BareSide : ℕ → Param → Type 0
BareSide = Image anonymous_of TypeWithin

not_or : (a b : Bool) → (not a || b) ≡ true → a ≡ true → b ≡ true
not_or true b h k = h
not_or false b h k = cc

not_or_off : (a b : Bool) → (not a || b) ≡ false → a ≡ true
not_or_off true b h = refl
not_or_off false b h = cc

by_old : (a b : Bool) → (a ≡ true → b ≡ true) → (not a || b) ≡ true
by_old true b h = h refl
by_old false b h = refl

new_off : (a b : Bool) → a ≡ true → b ≡ false → (not a || b) ≡ false
new_off true b h k = k
new_off false b h k = cc

module _ (H : Pieces → Type 0) (depth : ℕ) (ty : Pieces → Read TypeTree) (pat : Pieces → Read Pat) (types : Pair H depth TypeWithin type_pieces ty type_first (λ _. type_clear))
    (pats : Pair H depth IsPat pat_pieces pat pat_first (λ _. pat_clear)) (old : Bool) where
  typed_pair : Pair H depth TypedSide param_pieces (mapped typed_of (seq pat (seq (mark word.Colon) ty))) pat_first (λ _. param_clear)
  typed_pair = image_of typed_of param_pieces (λ d t m. refl) (λ _. refl) (seq_of pats (seq_of (tok (sign word.Colon)) types (λ _. refl)) (λ _. refl))

  bare_pair : Pair H depth BareSide param_pieces (mapped anonymous_of ty) type_first (λ _. param_clear)
  bare_pair = image_of anonymous_of param_pieces (λ d t m. refl) (λ _. refl) types

  grows : (d : ℕ) (x : Param) → IsParam d old x → IsParam (suc d) old x
  grows d (param.Typed x c t) m = (pats.grows d x m.0, m.1, types.grows d t m.2, m.3)
  grows d (param.Anonymous t) m = (types.grows d t m.0, m.1)

  told : (d : ℕ) (x : Param) → IsParam d old x → Told depth TypedSide BareSide param_pieces (λ _. param_clear) (pattern_ahead old) d x
  told d (param.Typed x c t) m = inl (((x, (c, t)), (m.0, (m.1, m.2)), refl), on)
    where
      on : (r : Pieces) → d ≤ depth → pattern_ahead old (param_pieces (param.Typed x c t) ++ r) ≡ true
      on r h =
          by_old (old && starts_before_2018 (opened (param_pieces (param.Typed x c t) ++ r))) (short_ahead (param_pieces (param.Typed x c t) ++ r)) (λ is.
          ap (λ k. short_ahead k) (append_assoc (pat_pieces x) (p.Token c ∷ type_pieces t) r)
          ∙ short_told (pat_pieces x) c (type_pieces t ++ r) m.1 (m.3 (ap (λ b. old && b) (sym (starts_same (param_pieces (param.Typed x c t)) r (opens_colon (pat_pieces x) c (type_pieces t)))) ∙ is)))
  told d (param.Anonymous t) m = inr ((t, m.0, refl), off)
    where
      none : (ys : Pieces) → Begins type_first ys → next (at word.Mut) ys ≡ false
      none [] b = absurd b
      none (y ∷ ys) b = next_others (at word.Mut) (y ∷ ys) (in_subset type_first (others (at word.Mut)) refl (y ∷ ys) b)

      colon : (r : Pieces) → (next param_clear r ≡ true) ⊎ (param_clear.end ≡ true) → next (at word.Colon) r ≡ false
      colon [] k = refl
      colon (y ∷ r) (inl k) = next_others (at word.Colon) (y ∷ r) (in_subset param_clear (others (at word.Colon)) refl (y ∷ r) k)
      colon (y ∷ r) (inr k) = cc

      off : (r : Pieces) → d ≤ depth → (next param_clear r ≡ true) ⊎ (param_clear.end ≡ true) → pattern_ahead old (type_pieces t ++ r) ≡ false
      off r h k =
          new_off (old && starts_before_2018 (opened (type_pieces t ++ r))) (short_ahead (type_pieces t ++ r)) (ap (λ b. old && b) (starts_same (type_pieces t) r (type_opens d false t m.0)) ∙ m.1)
          (short_none (type_pieces t) r (type_second d false t m.0) (none (type_pieces t) (type_begins d false t m.0)) (colon r k))

  on_pattern : (d : ℕ) (x : Param) (r : Pieces) → TypedSide d x → pattern_ahead old (param_pieces x ++ r) ≡ true → IsParam d old x
  on_pattern d x r (k, m, eq) h = subst (λ x. IsParam d old x) (sym eq) (
    m.0,
    m.1.0,
    m.1.1,
    λ is.
        short_of (pat_pieces k.0) k.1.0 (type_pieces k.1.1 ++ r) (pat_second d k.0 m.0) (pat_mut d k.0 m.0)
        (ap (λ k. short_ahead k) (sym (append_assoc (pat_pieces k.0) (p.Token k.1.0 ∷ type_pieces k.1.1) r))
        ∙ not_or (old && starts_before_2018 (opened (param_pieces (typed_of k) ++ r))) (short_ahead (param_pieces (typed_of k) ++ r)) (ap (λ x. pattern_ahead old (param_pieces x ++ r)) (sym eq) ∙ h)
        (ap (λ b. old && b) (starts_same (param_pieces (typed_of k)) r (opens_colon (pat_pieces k.0) k.1.0 (type_pieces k.1.1))) ∙ is)),
  )

  off_pattern : (d : ℕ) (x : Param) (r : Pieces) → BareSide d x → pattern_ahead old (param_pieces x ++ r) ≡ false → IsParam d old x
  off_pattern d x r (t, m, eq) h = subst (λ x. IsParam d old x) (sym eq) (
    m,
    ap (λ b. old && b) (sym (starts_same (type_pieces t) r (type_opens d false t m)))
        ∙ not_or_off (old && starts_before_2018 (opened (type_pieces t ++ r))) (short_ahead (type_pieces t ++ r)) (ap (λ x. pattern_ahead old (param_pieces x ++ r)) (sym eq) ∙ h),
  )

  pub param_pair : Pair H depth (λ d x. IsParam d old x) param_pieces (param_by ty pat old) (either pat_first type_first) (λ _. param_clear)
  param_pair = ahead_of (pattern_ahead old) typed_pair bare_pair grows told on_pattern off_pattern
