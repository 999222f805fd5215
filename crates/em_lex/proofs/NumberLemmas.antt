-- At a digit.
use Rattle.std.proofs.Common.{◌≡◌, inl, inr, ℕ, ◌<◌, ◌≤◌, Bool, true, false, not, cond, ◌&&◌, ◌||◌, ◌==◌, nat_lt, [], ◌∷◌, ◌++◌, length, take, drop, codes, Option, Some, None, refl, sym, ap, ◌∙◌, subst, arith}
use Rattle.std.specs.Prelude.{nat_eq}
use Rattle.std.proofs.lemmas.Bool.{and_parts, both_ways, or_cases, eqb-true, ltb-true, cases_lt}
use Rattle.std.proofs.lemmas.Bool.Decides.{nat_tests, Decides-eqb}
use Rattle.std.proofs.lemmas.Slice.Eq.{starts_is}
use Rattle.std.specs.Char.{is_ascii_digit, is_ascii_hexdigit, is_ascii_alphanumeric}
use Rattle.std.specs.List.{list_all, prefix_len}
use Rattle.std.specs.Str.{bytes_eq}
use Rattle.unicode_ident.specs.Ident.{is_xid_start, is_xid_continue}
use Rattle.unicode_ident.proofs.IdentLemmas.{is_xid_continue-ascii, is_xid_start-ascii}
use Rattle.em_base.specs.declared.edition.Edition.{Edition}
use Rattle.em_base.specs.declared.int_kind.IntKind.{IntKind}
use Rattle.em_base.specs.declared.int_kind.IntKind.TheVariants.{I8, I16, I32, I64, Isize, U8, U16, U32, U64, Usize}
use Rattle.em_base.specs.declared.token.TokenKind.{TokenKind}
use Rattle.em_base.specs.declared.token.TokenKind.TheVariants.{Int}
use Rattle.em_lex.specs.declared.error.LexKind.TheVariants.{Float, BadNumber, LiteralSuffix}
use Rattle.em_lex.specs.declared.piece.Piece.{Piece}
use Rattle.em_lex.specs.declared.piece.Piece.TheVariants.{Trivia as Gap, Token as Took, Fault as Bad}
use Rattle.em_lex.specs.Characters.{Chars, starts, begins}
use Rattle.em_lex.specs.Numbers.{base_of, base_mark, is_part, Cut, HasValue, suffix_text, IsSuffix, IsInt}
use Rattle.em_lex.specs.Faults.{float, number, number_suffix, NumberAt, is_point, IsFloat}
use Rattle.em_lex.specs.Scan.{first, value_from, radix_of, digit_part, mark_len, suffix_of, point_at, float_tail, number_end, number_of, number_step, step}
use Rattle.em_lex.proofs.Base.{impossible, by_test, pick, both, not_true, same_text, Passed, passed, prefix_all, prefix_most, take_front, drop_front, same_front, digit_continues}
use Rattle.em_lex.proofs.Values.{has_value, value_has, none_some}
use Rattle.em_lex.proofs.Heads.{step_digit}
use Rattle.em_lex.proofs.WordLemmas.{run_is}
use Rattle.em_lex.proofs.Pieces.{Holds, Covered, Told}

-- ---- the base

pub eq_turned : (a b : ℕ) → (a == b) ≡ (b == a)
eq_turned a b =
    by_test ((a == b) ≡ (b == a)) (a == b) (λ t. let e = eqb-true a b t in t ∙ sym (ap (λ x. x == a) (sym e) ∙ (ap (λ x. a == a) e ∙ same a)))
    (λ t. by_test ((a == b) ≡ (b == a)) (b == a) (λ u. absurd (both_ways _ t (subst (λ x. (a == x) ≡ true) (sym (eqb-true b a u)) (same a)))) (λ u. t ∙ sym u))
  where
    same : (a : ℕ) → (a == a) ≡ true
    same a = grind (arith, nat_tests)

and_true : (x : Bool) → (x && true) ≡ x
and_true true = refl
and_true false = refl

two_marks : (c d : ℕ) (w : Chars) (x : ℕ) → (begins (48 ∷ x ∷ []) (c ∷ d ∷ w)) ≡ ((c == 48) && (d == x))
two_marks c d w x = let a = eq_turned 48 c in let b = eq_turned x d in let z = and_true (d == x) in rw (a, b, z)

radix_is : (dot : Bool) (w : Chars) → radix_of dot w ≡ base_of dot w
radix_is true w = refl
radix_is false [] = refl
radix_is false (c ∷ []) = here (c == 48) refl
  where
    never : (x : Bool) → (x && false) ≡ false
    never true = refl
    never false = refl

    here : (b : Bool) → (c == 48) ≡ b → radix_of false (c ∷ []) ≡ base_of false (c ∷ [])
    here true h = let n = never (nat_eq 48 c) in rw (h, n)
    here false h = let n = never (nat_eq 48 c) in rw (h, n)
radix_is false (c ∷ d ∷ w) =
    let x = two_marks c d w 120 in
    let o = two_marks c d w 111 in
    let b = two_marks c d w 98 in
    here (c == 48) (d == 120) (d == 111) (d == 98) ∙ sym (ap (λ z. cond z 16 (cond (begins (codes "0o") (c ∷ d ∷ w)) 8 (cond (begins (codes "0b") (c ∷ d ∷ w)) 2 10))) x
    ∙ ap (λ z. cond ((c == 48) && (d == 120)) 16 (cond z 8 (cond (begins (codes "0b") (c ∷ d ∷ w)) 2 10))) o ∙ ap (λ z. cond ((c == 48) && (d == 120)) 16 (cond ((c == 48) && (d == 111)) 8 (cond z 2 10))) b)
  where
    here : (p q r s : Bool) → ◌≡◌ {A = ℕ} (cond (not p) 10 (cond q 16 (cond r 8 (cond s 2 10)))) (cond (p && q) 16 (cond (p && r) 8 (cond (p && s) 2 10)))
    here true q r s = refl
    here false q r s = refl

-- what is so for each base
each_base : (P : ℕ → Type 0) (dot : Bool) (w : Chars) → (begins (codes "0x") w ≡ true → P 16) → (begins (codes "0o") w ≡ true → P 8) → (begins (codes "0b") w ≡ true → P 2) → P 10 → P (base_of dot w)
each_base P true w f g h k = k
each_base P false w f g h k =
    pick P (begins (codes "0x") w) _ _ f (λ _. pick P (begins (codes "0o") w) _ _ g (λ _. pick P (begins (codes "0b") w) _ _ h (λ _. k)))

pub marked : (w : Chars) (x : Chars) → begins x w ≡ true → w ≡ x ++ drop (length x) w
marked w x h = (starts_is Decides-eqb w x _ refl).0 h

base_front : (dot : Bool) (w : Chars) → w ≡ base_mark (base_of dot w) ++ drop (mark_len (base_of dot w)) w
base_front dot w = each_base (λ b. w ≡ base_mark b ++ drop (mark_len b) w) dot w (λ t. marked w (codes "0x") t) (λ t. marked w (codes "0o") t) (λ t. marked w (codes "0b") t) refl

mark_is : (dot : Bool) (w : Chars) → length (base_mark (base_of dot w)) ≡ mark_len (base_of dot w)
mark_is dot w = each_base (λ b. length (base_mark b) ≡ mark_len b) dot w (λ t. refl) (λ t. refl) (λ t. refl) refl

base_low : (dot : Bool) (w : Chars) → 1 ≤ base_of dot w
base_low dot w = each_base (λ b. 1 ≤ b) dot w (λ t. omega arith) (λ t. omega arith) (λ t. omega arith) (omega arith)

-- ---- the digits and what follows

pub record NumberCut (dot : Bool) (w : Chars) : Type 0 where
  pub part : Chars
  pub tail : Chars
  pub cut : Cut dot w part tail

pub number_cut : (dot : Bool) (w : Chars) → NumberCut dot w
number_cut dot w = whole (passed (is_part dot (base_of dot w)) (drop (mark_len (base_of dot w)) w))
  where
    whole : Passed (is_part dot (base_of dot w)) (drop (mark_len (base_of dot w)) w) → NumberCut dot w
    whole p = record { part = p.front; tail = p.rest; cut = record { parts = base_front dot w ∙ ap (λ x. base_mark (base_of dot w) ++ x) p.parts; digits = p.all; ends = p.ends } }

-- the number of a word, by its parts
abbrev number_with : Bool → Chars → Chars → Chars → Chars → Piece
number_with dot w part tail cs =
    cond (not dot && (base_of dot w == 10) && float_tail tail cs) (Bad Float 0) (number_end (length w) (value_from (base_of dot w) false 0 part) (suffix_of dot tail))

abbrev number_by : Bool → Chars → Chars → ℕ → Piece
number_by dot w cs b =
    cond (not dot && (b == 10) && float_tail (drop (prefix_len (digit_part dot b) (drop (mark_len b) w)) (drop (mark_len b) w)) cs) (Bad Float 0)
    (number_end (length w) (value_from b false 0 (take (prefix_len (digit_part dot b) (drop (mark_len b) w)) (drop (mark_len b) w))) (suffix_of dot (drop (prefix_len (digit_part dot b) (drop (mark_len b) w)) (drop (mark_len b) w))))

number_by_is : (dot : Bool) (w cs : Chars) → number_of dot w cs ≡ number_by dot w cs (radix_of dot w)
unfolding number_of
number_by_is dot w cs = refl

abbrev number_split : Bool → Chars → Chars → Chars → ℕ → Piece
number_split dot w cs ds m =
    cond (not dot && (base_of dot w == 10) && float_tail (drop m ds) cs) (Bad Float 0) (number_end (length w) (value_from (base_of dot w) false 0 (take m ds)) (suffix_of dot (drop m ds)))

pub number_is : (dot : Bool) (w part tail cs : Chars) → Cut dot w part tail → number_of dot w cs ≡ number_with dot w part tail cs
number_is dot w part tail cs c =
    let ds : drop (mark_len (base_of dot w)) w ≡ part ++ tail =
    ap (drop (mark_len (base_of dot w))) c.parts ∙ ap (λ n. drop n (base_mark (base_of dot w) ++ (part ++ tail))) (sym (mark_is dot w)) ∙ drop_front (base_mark (base_of dot w)) (part ++ tail) in
    let m : prefix_len (digit_part dot (base_of dot w)) (part ++ tail) ≡ length part = prefix_all (digit_part dot (base_of dot w)) part tail c.digits c.ends in
    number_by_is dot w cs ∙ ap (number_by dot w cs) (radix_is dot w)
    ∙ ap (λ x. number_split dot w cs x (prefix_len (digit_part dot (base_of dot w)) x)) ds
    ∙ ap (number_split dot w cs (part ++ tail)) m
    ∙ ap (λ x. cond (not dot && (base_of dot w == 10) && float_tail (drop (length part) (part ++ tail)) cs) (Bad Float 0) (number_end (length w) (value_from (base_of dot w) false 0 x) (suffix_of dot (drop (length part) (part ++ tail))))) (take_front part tail)
    ∙ ap (λ x. cond (not dot && (base_of dot w == 10) && float_tail x cs) (Bad Float 0) (number_end (length w) (value_from (base_of dot w) false 0 part) (suffix_of dot x))) (drop_front part tail)

-- ---- fractions and suffixes

zero_start : is_xid_start 0 ≡ false
zero_start = is_xid_start-ascii 0 (omega arith)

point_is : (cs : Chars) → point_at cs ≡ is_point cs
point_is [] = refl
point_is (c ∷ []) = let z = zero_start in rw z
point_is (c ∷ d ∷ cs) = refl

starts_e : (tail : Chars) → (first tail == 101 || first tail == 69) ≡ starts (λ c. c == 101 || c == 69) tail
starts_e [] = refl
starts_e (c ∷ tail) = refl

pub float_is : (tail cs : Chars) → float_tail tail cs ≡ true → IsFloat tail cs
float_is tail cs h =
    elim (or_cases (first tail == 101 || first tail == 69 || bytes_eq tail (codes "f32") || bytes_eq tail (codes "f64")) (bytes_eq tail [] && point_at cs) h) [
      | inl a ↦ elim (or_cases (first tail == 101 || first tail == 69 || bytes_eq tail (codes "f32")) (bytes_eq tail (codes "f64")) a) [
        | inl b ↦ elim (or_cases (first tail == 101 || first tail == 69) (bytes_eq tail (codes "f32")) b) [
          | inl d ↦ inl (sym (starts_e tail) ∙ d)
          | inr d ↦ inr (inl (same_text tail (codes "f32") d))
        ]
        | inr b ↦ inr (inr (inl (same_text tail (codes "f64") b)))
      ]
      | inr a ↦ let b = and_parts (bytes_eq tail []) (point_at cs) a in inr (inr (inr (same_text tail [] b.0, sym (point_is cs) ∙ b.1)))
    ]

or_left : (a b : Bool) → a ≡ true → (a || b) ≡ true
or_left true b h = refl
or_left false b h = impossible h

or_right : (a b : Bool) → b ≡ true → (a || b) ≡ true
or_right true b h = refl
or_right false b h = h

pub is_float : (tail cs : Chars) → IsFloat tail cs → float_tail tail cs ≡ true
is_float tail cs (inl h) = or_left (first tail == 101 || first tail == 69 || bytes_eq tail (codes "f32") || bytes_eq tail (codes "f64")) _ (or_left (first tail == 101 || first tail == 69 || bytes_eq tail (codes "f32")) _ (or_left (first tail == 101 || first tail == 69) _ (starts_e tail ∙ h)))
is_float tail cs (inr (inl h)) = rw h
is_float tail cs (inr (inr (inl h))) = rw h
is_float tail cs (inr (inr (inr (h, k)))) = let p = point_is cs ∙ k in rw (h, p)

suffix_found : (dot : Bool) (tail : Chars) (s : Option IntKind) → IsSuffix dot tail s → suffix_of dot tail ≡ Some s
suffix_found dot tail None h = rw h
suffix_found dot tail (Some I8) (d, h) = rw (d, h)
suffix_found dot tail (Some I16) (d, h) = rw (d, h)
suffix_found dot tail (Some I32) (d, h) = rw (d, h)
suffix_found dot tail (Some I64) (d, h) = rw (d, h)
suffix_found dot tail (Some Isize) (d, h) = rw (d, h)
suffix_found dot tail (Some U8) (d, h) = rw (d, h)
suffix_found dot tail (Some U16) (d, h) = rw (d, h)
suffix_found dot tail (Some U32) (d, h) = rw (d, h)
suffix_found dot tail (Some U64) (d, h) = rw (d, h)
suffix_found dot tail (Some Usize) (d, h) = rw (d, h)

suffix_none : {s : Option IntKind} → ◌≡◌ {A = Option (Option IntKind)} None (Some s) → ⊥
suffix_none e = cc

suffix_same : {a b : Option IntKind} → ◌≡◌ {A = Option (Option IntKind)} (Some a) (Some b) → a ≡ b
suffix_same e = cc

found_suffix : (dot : Bool) (tail : Chars) (s : Option IntKind) → suffix_of dot tail ≡ Some s → IsSuffix dot tail s
found_suffix dot tail s =
    pick P (bytes_eq tail []) _ _ (λ t e. subst (IsSuffix dot tail) (suffix_same e) (same_text tail [] t))
    (λ _. pick P dot _ _ (λ t e. absurd (suffix_none e))
    (λ d. one I8 d _ (one I16 d _ (one I32 d _ (one I64 d _ (one Isize d _ (one U8 d _ (one U16 d _ (one U32 d _ (one U64 d _ (one Usize d None (λ e. absurd (suffix_none e)))))))))))))
  where
    P : Option (Option IntKind) → Type 0
    P o = o ≡ Some s → IsSuffix dot tail s

    one : (k : IntKind) → dot ≡ false → (o : Option (Option IntKind)) → P o → P (cond (bytes_eq tail (suffix_text k)) (Some (Some k)) o)
    one k d o f = pick P (bytes_eq tail (suffix_text k)) _ _ (λ t e. subst (IsSuffix dot tail) (suffix_same e) (d, same_text tail (suffix_text k) t)) (λ _. f)

-- ---- what is found holds

end_holds : (e : Edition) (dot : Bool) (text w left part tail : Chars) → NumberAt text w left → Cut dot w part tail → (o : Option ℕ) (s : Option (Option IntKind)) → value_from (base_of dot w) false 0 part ≡ o → suffix_of dot tail ≡ s
    → Holds e dot text (number_end (length w) o s)
end_holds e dot text w left part tail at c None s v x = number w left part tail at c (λ value has. none_some (sym v ∙ has_value (base_of dot w) part value (base_low dot w) has)) refl refl
end_holds e dot text w left part tail at c (Some value) None v x = number_suffix w left part tail at c (λ s is. suffix_none (sym x ∙ suffix_found dot tail s is)) refl refl
end_holds e dot text w left part tail at c (Some value) (Some s) v x = (
  record { w = w; left = left; parts = at.parts; len = refl },
  record { part = part; tail = tail; digit = at.digit; cut = c; value_is = value_has (base_of dot w) part value v; suffix_is = found_suffix dot tail s x },
)

with_holds : (e : Edition) (dot : Bool) (text w left part tail : Chars) → NumberAt text w left → Cut dot w part tail → Holds e dot text (number_with dot w part tail left)
with_holds e dot text w left part tail at c =
    pick (Holds e dot text) (not dot && (base_of dot w == 10) && float_tail tail left) _ _
    (λ t. let a = and_parts (not dot && (base_of dot w == 10)) (float_tail tail left) t in
    let b = and_parts (not dot) (base_of dot w == 10) a.0 in
    float w left part tail (not_true dot b.0) at (eqb-true (base_of dot w) 10 b.1) c (float_is tail left a.1) refl refl)
    (λ t. end_holds e dot text w left part tail at c (value_from (base_of dot w) false 0 part) (suffix_of dot tail) refl refl)

-- the step at a whole number
pub number_at : (e : Edition) (dot : Bool) (text w left part tail : Chars) → NumberAt text w left → Cut dot w part tail → step e dot text ≡ number_with dot w part tail left
unfolding number_step
number_at e dot text [] left part tail at c = impossible at.digit
number_at e dot text (d ∷ w) left part tail at c =
    let a = and_parts (is_xid_continue d) (list_all is_xid_continue w) at.characters in
    let n = run_is d w left a.1 at.ends in
    ap (step e dot) at.parts ∙ step_digit e dot d (w ++ left) at.digit
    ∙ ap (λ n. number_of dot (take n (d ∷ (w ++ left))) (drop n (d ∷ (w ++ left)))) n
    ∙ ap (λ x. number_of dot x (drop (length (d ∷ w)) (d ∷ (w ++ left)))) (take_front (d ∷ w) left)
    ∙ ap (number_of dot (d ∷ w)) (drop_front (d ∷ w) left)
    ∙ number_is dot (d ∷ w) part tail left c

-- the whole number in front
pub record Whole (text : Chars) : Type 0 where
  pub w : Chars
  pub left : Chars
  pub at : NumberAt text w left

pub whole_number : (d : ℕ) (cs : Chars) → is_ascii_digit d ≡ true → Whole (d ∷ cs)
whole_number d cs h = whole (passed is_xid_continue cs)
  where
    whole : Passed is_xid_continue cs → Whole (d ∷ cs)
    whole p = record { w = d ∷ p.front; left = p.rest; at = record { parts = ap (λ x. d ∷ x) p.parts; digit = h; characters = both (is_xid_continue d) _ (digit_continues d h) p.all; ends = p.ends } }

pub number_holds : (e : Edition) (dot : Bool) (d : ℕ) (cs : Chars) → is_ascii_digit d ≡ true → Holds e dot (d ∷ cs) (step e dot (d ∷ cs))
number_holds e dot d cs h =
    let n = whole_number d cs h in
    let c = number_cut dot n.w in
    subst (Holds e dot (d ∷ cs)) (sym (number_at e dot (d ∷ cs) n.w n.left c.part c.tail n.at c.cut)) (with_holds e dot (d ∷ cs) n.w n.left c.part c.tail n.at c.cut)

-- ---- what stands there is found

ascii_continues : (c : ℕ) → (nat_lt c 128 && (is_ascii_alphanumeric c || (c == 95))) ≡ true → is_xid_continue c ≡ true
ascii_continues c h = let a = and_parts (nat_lt c 128) (is_ascii_alphanumeric c || (c == 95)) h in is_xid_continue-ascii c (ltb-true c 128 a.0) ∙ a.1

all_continue : (p : ℕ → Bool) → ((c : ℕ) → p c ≡ true → is_xid_continue c ≡ true) → (w : Chars) → list_all p w ≡ true → list_all is_xid_continue w ≡ true
all_continue p f [] h = refl
all_continue p f (c ∷ w) h = let a = and_parts (p c) (list_all p w) h in both (is_xid_continue c) _ (f c a.0) (all_continue p f w a.1)

ascii_text : (w : Chars) → list_all (λ c. nat_lt c 128 && (is_ascii_alphanumeric c || (c == 95))) w ≡ true → list_all is_xid_continue w ≡ true
ascii_text w h = all_continue (λ c. nat_lt c 128 && (is_ascii_alphanumeric c || (c == 95))) ascii_continues w h

hex_ascii : (c : ℕ) → is_ascii_hexdigit c ≡ true → (nat_lt c 128 && (is_ascii_alphanumeric c || (c == 95))) ≡ true
hex_ascii c h = both (nat_lt c 128) _ (grind (arith, nat_tests)) (grind (arith, nat_tests))

part_continues : (dot : Bool) (base c : ℕ) → is_part dot base c ≡ true → is_xid_continue c ≡ true
part_continues dot base c h =
    elim (or_cases (not dot && c == 95) (cond (base == 16) (is_ascii_hexdigit c) (is_ascii_digit c)) h) [
      | inl a ↦ let b = and_parts (not dot) (c == 95) a in subst (λ c. is_xid_continue c ≡ true) (sym (eqb-true c 95 b.1)) (ascii_continues 95 refl)
      | inr a ↦ pick (λ x. x ≡ true → is_xid_continue c ≡ true) (base == 16) (is_ascii_hexdigit c) (is_ascii_digit c) (λ t k. ascii_continues c (hex_ascii c k)) (λ t k. digit_continues c k) a
    ]

suffix_continues : (dot : Bool) (tail : Chars) (s : Option IntKind) → IsSuffix dot tail s → list_all is_xid_continue tail ≡ true
suffix_continues dot tail None h = rw h
suffix_continues dot tail (Some k) (d, h) = subst (λ x. list_all is_xid_continue x ≡ true) (sym h) (ascii_text (suffix_text k) (texts k))
  where
    texts : (k : IntKind) → list_all (λ c. nat_lt c 128 && (is_ascii_alphanumeric c || (c == 95))) (suffix_text k) ≡ true
    texts I8 = refl
    texts I16 = refl
    texts I32 = refl
    texts I64 = refl
    texts Isize = refl
    texts U8 = refl
    texts U16 = refl
    texts U32 = refl
    texts U64 = refl
    texts Usize = refl

all_append : (p : ℕ → Bool) (v w : Chars) → list_all p v ≡ true → list_all p w ≡ true → list_all p (v ++ w) ≡ true
all_append p [] w h k = k
all_append p (c ∷ v) w h k = let a = and_parts (p c) (list_all p v) h in both (p c) _ a.0 (all_append p v w a.1 k)

int_continues : (dot : Bool) (v : Chars) (value : ℕ) (s : Option IntKind) → IsInt dot v value s → list_all is_xid_continue v ≡ true
int_continues dot v value s i =
    let mark : list_all is_xid_continue (base_mark (base_of dot v)) ≡ true =
    each_base (λ b. list_all is_xid_continue (base_mark b) ≡ true) dot v (λ t. ascii_text (codes "0x") refl) (λ t. ascii_text (codes "0o") refl) (λ t. ascii_text (codes "0b") refl) refl in
    subst (λ x. list_all is_xid_continue x ≡ true) (sym i.cut.parts)
    (all_append is_xid_continue (base_mark (base_of dot v)) (i.part ++ i.tail) mark (all_append is_xid_continue i.part i.tail (all_continue (is_part dot (base_of dot v)) (part_continues dot (base_of dot v)) i.part i.cut.digits) (suffix_continues dot i.tail s i.suffix_is)))

-- a number's tokens have its whole length
abbrev Sized : ℕ → Piece → Type 0
Sized len (Gap n doc) = ⊥
Sized len (Took kind n) = n ≡ len
Sized len (Bad kind at) = Unit {0}

end_sized : (n : ℕ) (o : Option ℕ) (s : Option (Option IntKind)) → Sized n (number_end n o s)
end_sized n None s = tt
end_sized n (Some v) None = tt
end_sized n (Some v) (Some s) = refl

with_sized : (dot : Bool) (w part tail cs : Chars) → Sized (length w) (number_with dot w part tail cs)
with_sized dot w part tail cs =
    pick (Sized (length w)) (not dot && (base_of dot w == 10) && float_tail tail cs) _ _ (λ t. tt) (λ t. end_sized (length w) (value_from (base_of dot w) false 0 part) (suffix_of dot tail))

sized_covers : (text : Chars) (kind : TokenKind) (m n : ℕ) (p : Piece) → m < n → Sized n p → Covered text p kind m
sized_covers text kind m n (Gap k doc) h s = absurd s
sized_covers text kind m n (Took other k) h s = (omega (arith, h, s), λ e. absurd (omega (arith, h, s, e)))
sized_covers text kind m n (Bad fault at) h s = tt

-- an integer that is spelled in front is found, unless a fault is
pub int_covers : (e : Edition) (dot : Bool) (v rest : Chars) (value : ℕ) (s : Option IntKind) → IsInt dot v value s → Covered (v ++ rest) (step e dot (v ++ rest)) (Int value s) (length v)
int_covers e dot [] rest value s i = impossible i.digit
int_covers e dot (d ∷ v) rest value s i = whole (whole_number d (v ++ rest) i.digit)
  where
    P : Piece → Type 0
    P p = Covered ((d ∷ v) ++ rest) p (Int value s) (length (d ∷ v))

    same_whole : (n : Whole (d ∷ (v ++ rest))) → length (d ∷ v) ≡ length n.w → P (step e dot (d ∷ (v ++ rest)))
    same_whole n l =
        let same : (d ∷ v) ≡ n.w = (same_front (d ∷ v) n.w rest n.left n.at.parts l).0 in
        let c : Cut dot n.w i.part i.tail = subst (λ x. Cut dot x i.part i.tail) same i.cut in
        let has : HasValue (base_of dot n.w) i.part value = subst (λ x. HasValue (base_of dot x) i.part value) same i.value_is in
        let found = number_at e dot (d ∷ (v ++ rest)) n.w n.left i.part i.tail n.at c in
        let val = has_value (base_of dot n.w) i.part value (base_low dot n.w) has in
        let suf = suffix_found dot i.tail s i.suffix_is in
        let end : number_end (length n.w) (value_from (base_of dot n.w) false 0 i.part) (suffix_of dot i.tail) ≡ Took (Int value s) (length n.w) =
        ap (λ o. number_end (length n.w) o (suffix_of dot i.tail)) val ∙ ap (number_end (length n.w) (Some value)) suf in
        subst P (sym found)
        (pick P (not dot && (base_of dot n.w == 10) && float_tail i.tail n.left) _ _ (λ t. tt) (λ t. subst P (sym end) (omega (arith, l), λ e. refl)))

    whole : Whole (d ∷ (v ++ rest)) → P (step e dot (d ∷ (v ++ rest)))
    whole n =
        let most = longest n.w n.left n.at in
        elim (cases_lt (length (d ∷ v)) (length n.w)) [
          | inl less ↦ let c = number_cut dot n.w in subst P (sym (number_at e dot (d ∷ (v ++ rest)) n.w n.left c.part c.tail n.at c.cut)) (sized_covers ((d ∷ v) ++ rest) (Int value s) (length (d ∷ v)) (length n.w) (number_with dot n.w c.part c.tail n.left) less (with_sized dot n.w c.part c.tail n.left))
          | inr more ↦ same_whole n (omega (arith, more, most))
        ]
      where
        longest : (w left : Chars) → NumberAt (d ∷ (v ++ rest)) w left → length (d ∷ v) ≤ length w
        longest w left at =
            let all = int_continues dot (d ∷ v) value s i in
            let a = prefix_most is_xid_continue (d ∷ v) rest all in
            let b = prefix_all is_xid_continue w left at.characters at.ends in
            let c = ap (prefix_len is_xid_continue) at.parts in
            omega (arith, a, b, c)

-- ---- a fault that stands there is found

pub float_told : (e : Edition) (dot : Bool) (text w left part tail : Chars) → dot ≡ false → NumberAt text w left → base_of dot w ≡ 10 → Cut dot w part tail → IsFloat tail left → Told (step e dot text) Float 0
float_told e dot text w left part tail d at b c f =
    subst (λ p. Told p Float 0) (sym (number_at e dot text w left part tail at c))
    (pick (λ p. Told p Float 0) (not dot && (base_of dot w == 10) && float_tail tail left) _ _ (λ t. inr (refl, omega arith))
    (λ t. let base : (base_of dot w == 10) ≡ true = ap (λ x. x == 10) b in absurd (both_ways _ t (both (not dot && (base_of dot w == 10)) _ (both (not dot) _ (ap not d) base) (is_float tail left f)))))

pub value_told : (e : Edition) (dot : Bool) (text w left part tail : Chars) → NumberAt text w left → Cut dot w part tail → ((value : ℕ) → HasValue (base_of dot w) part value → ⊥) → Told (step e dot text) BadNumber 0
value_told e dot text w left part tail at c none =
    subst (λ p. Told p BadNumber 0) (sym (number_at e dot text w left part tail at c))
    (pick (λ p. Told p BadNumber 0) (not dot && (base_of dot w == 10) && float_tail tail left) _ _ (λ t. inr (refl, omega arith))
    (λ t. here (value_from (base_of dot w) false 0 part) refl))
  where
    here : (o : Option ℕ) → value_from (base_of dot w) false 0 part ≡ o → Told (number_end (length w) o (suffix_of dot tail)) BadNumber 0
    here None v = inr (refl, omega arith)
    here (Some value) v = absurd (none value (value_has (base_of dot w) part value v))

pub suffix_told : (e : Edition) (dot : Bool) (text w left part tail : Chars) → NumberAt text w left → Cut dot w part tail → ((s : Option IntKind) → IsSuffix dot tail s → ⊥) → Told (step e dot text) LiteralSuffix 0
suffix_told e dot text w left part tail at c none =
    subst (λ p. Told p LiteralSuffix 0) (sym (number_at e dot text w left part tail at c))
    (pick (λ p. Told p LiteralSuffix 0) (not dot && (base_of dot w == 10) && float_tail tail left) _ _ (λ t. inr (refl, omega arith))
    (λ t. here (value_from (base_of dot w) false 0 part) (suffix_of dot tail) refl))
  where
    here : (o : Option ℕ) (s : Option (Option IntKind)) → suffix_of dot tail ≡ s → Told (number_end (length w) o s) LiteralSuffix 0
    here None s x = inr (refl, omega arith)
    here (Some value) None x = inr (refl, omega arith)
    here (Some value) (Some s) x = absurd (none s (found_suffix dot tail s x))
