-- A token stays one where the text behind it changes from a word on.
use Rattle.std.proofs.Common.{◌≡◌, inl, inr, ℕ, ◌+◌, ◌<◌, ◌≤◌, Bool, true, false, not, cond, ◌&&◌, ◌||◌, ◌==◌, List, [], ◌∷◌, ◌++◌, length, take, drop, get_or, codes, Option, Some, None, refl, subst, sym, ap, ◌∙◌, arith, length-append, append_assoc}
use Rattle.std.proofs.lemmas.Bool.{and_parts, both_ways, or_cases, eqb-true}
use Rattle.std.proofs.lemmas.Bool.Decides.{nat_tests}
use Rattle.std.specs.Char.{is_ascii_digit}
use Rattle.std.specs.List.{list_all}
use Rattle.std.specs.Str.{bytes_eq}
use Rattle.unicode_ident.specs.Ident.{is_xid_start, is_xid_continue}
use Rattle.unicode_ident.proofs.IdentLemmas.{is_xid_start-ascii, is_xid_continue-ascii, is_xid_start-is_xid_continue}
use Rattle.em_base.specs.Names.{is_start, is_word, is_identifier}
use Rattle.em_base.specs.declared.edition.Edition.{Edition}
use Rattle.em_base.specs.declared.edition.Edition.TheVariants.{E2015, E2018}
use Rattle.em_base.specs.declared.int_kind.IntKind.{IntKind}
use Rattle.em_base.specs.declared.token.TokenKind.{TokenKind}
use Rattle.em_base.specs.declared.token.TokenKind.TheVariants.{Ident, Lifetime, Int, Open, Close, Punct}
use Rattle.em_lex.specs.declared.error.LexKind.TheVariants.{BadCharacter, Float, LiteralSuffix, BadLifetime, BadRaw}
use Rattle.em_lex.specs.declared.piece.Form.{Form}
use Rattle.em_lex.specs.declared.piece.Form.TheVariants.{Quoted, Single, Raw}
use Rattle.em_lex.specs.declared.piece.Piece.{Piece}
use Rattle.em_lex.specs.declared.piece.Piece.TheVariants.{Token as Took, Fault as Bad}
use Rattle.em_lex.specs.Characters.{Chars, starts, name_of}
use Rattle.em_lex.specs.Trivia.{begins_comment}
use Rattle.em_lex.specs.Literals.{IsLiteral}
use Rattle.em_lex.specs.Numbers.{base_of, IsInt}
use Rattle.em_lex.specs.Spelling.{Spells, IsRawWord, is_never_raw}
use Rattle.em_lex.specs.Faults.{NumberAt}
use Rattle.em_lex.specs.Scan.{first, starts_word, is_none, some_if, single_len, close_len, Reading, read, literal_read, literal_closed, literal_kind, literal_step, not_raw, raw_word, word_before, value_from, suffix_of, point_at, number_end, is_punct1, is_punct2, is_punct3, punct_len, is_open, is_close, mark_step, step}
use Rattle.em_lex.proofs.Base.{impossible, by_test, pick, both, not_true, Passed, passed, same_front, same_text, no_start, no_continue}
use Rattle.em_lex.proofs.Heads.{r_starts, step_word, step_single, step_mark}
use Rattle.em_lex.proofs.LiteralLemmas.{literal_found}
use Rattle.em_lex.proofs.WordLemmas.{true_false, Far, literal_far, hash_far, name_free, apart, word_ends, raw_is, lifetime_is, quote_if}
use Rattle.em_lex.proofs.NumberLemmas.{number_cut, number_at, Whole, whole_number}
use Rattle.em_lex.proofs.MarkLemmas.{Apart}
use Rattle.em_lex.proofs.LexingLemmas.{no_bad, same_took}

-- texts that are the same up to where a word begins in the one and `r#` in the other
pub data Looks : Chars → Chars → Type 0 where
  none : Looks [] []
  same : {x y : Chars} (c : ℕ) → Looks x y → Looks (c ∷ x) (c ∷ y)
  word : {x y : Chars} (c : ℕ) → is_start c ≡ true → Looks (c ∷ x) (114 ∷ 35 ∷ y)

pub looks_append : (w : Chars) {u v : Chars} → Looks u v → Looks (w ++ u) (w ++ v)
looks_append [] l = l
looks_append (c ∷ w) l = same c (looks_append w l)

-- ---- what the two texts begin with

start_continues : (c : ℕ) → is_start c ≡ true → is_xid_continue c ≡ true
start_continues c h = elim (or_cases (c == 95) (is_xid_start c) h) [
  | inl a ↦ subst (λ c. is_xid_continue c ≡ true) (sym (eqb-true c 95 a)) (is_xid_continue-ascii 95 (omega arith))
  | inr a ↦ is_xid_start-is_xid_continue c a
]

-- no word begins where none goes on
pub calm : (u : Chars) → starts is_xid_continue u ≡ false → starts is_start u ≡ false
calm [] h = refl
calm (c ∷ u) h = by_test _ (is_start c) (λ t. absurd (both_ways _ h (start_continues c t))) (λ t. t)

pub starts_same : (p : ℕ → Bool) {u v : Chars} → Looks u v → starts is_start u ≡ false → starts p u ≡ starts p v
starts_same p none h = refl
starts_same p (same c l) h = refl
starts_same p (word c s) h = absurd (both_ways _ h s)

first_same : {u v : Chars} → Looks u v → starts is_start u ≡ false → first u ≡ first v
first_same none h = refl
first_same (same c l) h = refl
first_same (word c s) h = absurd (both_ways _ h s)

first_test : (k : ℕ) {u v : Chars} → Looks u v → is_start k ≡ false → (114 == k) ≡ false → (first u == k) ≡ (first v == k)
first_test k none h r = refl
first_test k (same c l) h r = refl
first_test k (word c s) h r = apart c k s h ∙ sym r

-- ---- words

pub longer_word : (w : Chars) (d : ℕ) → is_word w ≡ true → is_xid_continue d ≡ true → is_identifier (w ++ d ∷ []) ≡ true
longer_word [] d h k = impossible h
longer_word (c ∷ w) d h k =
    let a = and_parts (is_start c) (list_all is_xid_continue w) h in
    both (is_word ((c ∷ w) ++ d ∷ [])) _ (both (is_start c) _ a.0 (all_more w a.1)) (other w)
  where
    all_more : (w : Chars) → list_all is_xid_continue w ≡ true → list_all is_xid_continue (w ++ d ∷ []) ≡ true
    all_more [] h = both (is_xid_continue d) true k refl
    all_more (c ∷ w) h = let a = and_parts (is_xid_continue c) (list_all is_xid_continue w) h in both (is_xid_continue c) _ a.0 (all_more w a.1)

    short : (w : Chars) → c ∷ (w ++ d ∷ []) ≡ 95 ∷ [] → ⊥
    short w e = let l = ap (λ x. length x) e in let n = length-append w (d ∷ []) in omega (arith, l, n)

    other : (w : Chars) → not (bytes_eq (c ∷ (w ++ d ∷ [])) (95 ∷ [])) ≡ true
    other w = ap not (by_test (bytes_eq (c ∷ (w ++ d ∷ [])) (95 ∷ []) ≡ false) (bytes_eq (c ∷ (w ++ d ∷ [])) (95 ∷ [])) (λ t. absurd (short w (same_text _ _ t))) (λ t. t))

-- no token before a text is longer
abbrev pub NoLonger : Bool → Chars → Chars → Type 0
NoLonger dot w u = (x rest : Chars) (other : TokenKind) → w ++ u ≡ x ++ rest → Spells dot x other → length x ≤ length w

pub word_stops : (dot : Bool) (w u : Chars) → is_word w ≡ true → NoLonger dot w u → starts is_xid_continue u ≡ false
word_stops dot w [] h n = refl
word_stops dot w (d ∷ u) h n =
    by_test (is_xid_continue d ≡ false) (is_xid_continue d)
    (λ t. let l = n (w ++ d ∷ []) u (Ident (name_of (w ++ d ∷ [])) false) (sym (append_assoc w (d ∷ []) u)) (longer_word w d h t, refl) in
    let m = length-append w (d ∷ []) in absurd (omega (arith, l, m)))
    (λ t. t)

-- what holds of both branches that a test chooses in two pieces
pick_both : (P : Piece → Piece → Type 0) (b : Bool) (p q r s : Piece) → (b ≡ true → P p r) → (b ≡ false → P q s) → P (cond b p q) (cond b r s)
pick_both P true p q r s f g = f refl
pick_both P false p q r s f g = g refl

before_same : (w : Chars) (d : ℕ) (x y : Chars) (kind : TokenKind) → word_before E2015 w (length w) d (d ∷ x) ≡ Took kind (length w) → word_before E2018 w (length w) d (d ∷ y) ≡ Took kind (length w)
before_same w d x y kind =
    pick_both P (d == 34) _ _ _ _
    (λ t. pick_both P (bytes_eq w (codes "b")) _ _ _ _ (λ b. far 2 (small (codes "b") 2 b (omega arith)) _ _ (literal_far true Quoted 2 x))
    (λ b. pick_both P (bytes_eq w (codes "r")) _ _ _ _ (λ r. far 2 (small (codes "r") 2 r (omega arith)) _ _ (literal_far false (Raw 0) 2 x))
    (λ r. pick_both P (bytes_eq w (codes "br")) _ _ _ _ (λ br. far 3 (small (codes "br") 3 br (omega arith)) _ _ (literal_far true (Raw 0) 3 x))
    (λ br h. h))))
    (λ t. pick_both P (d == 35) _ _ _ _
    (λ t. pick_both P (bytes_eq w (codes "r")) _ _ _ _ (λ r. far 1 (small (codes "r") 1 r (omega arith)) _ _ (hash_far false 1 (d ∷ x) (omega arith) (λ e. refl)))
    (λ r. pick_both P (bytes_eq w (codes "br")) _ _ _ _ (λ br. far 2 (small (codes "br") 2 br (omega arith)) _ _ (hash_far true 2 (d ∷ x) (omega arith) (λ e. absurd (true_false e))))
    (λ br h. h)))
    (λ t. pick_both P (d == 39) _ _ _ _
    (λ t. pick_both P (bytes_eq w (codes "b")) _ _ _ _ (λ b. far 2 (small (codes "b") 2 b (omega arith)) _ _ (literal_far true Single 2 x))
    (λ b h. h))
    (λ t h. h)))
  where
    P : Piece → Piece → Type 0
    P p q = p ≡ Took kind (length w) → q ≡ Took kind (length w)

    far : (at : ℕ) → length w ≤ at → (p q : Piece) → Far at p → P p q
    far at h p q f e = let g : at < length w = subst (Far at) e f in absurd (omega (arith, h, g))

    small : (x : Chars) (at : ℕ) → bytes_eq w x ≡ true → length x ≤ at → length w ≤ at
    small x at e h = subst (λ y. length y ≤ at) (sym (same_text w x e)) h

-- the step at a whole word
whole_word : (e : Edition) (dot : Bool) (c : ℕ) (w r : Chars) → is_word (c ∷ w) ≡ true → starts is_xid_continue r ≡ false → step e dot ((c ∷ w) ++ r) ≡ word_before e (c ∷ w) (length (c ∷ w)) (first r) r
whole_word e dot c w r h s = let a = and_parts (is_start c) (list_all is_xid_continue w) h in step_word e dot c (w ++ r) a.0 ∙ word_ends e c w r a.1 s

pub word_kept : (dot : Bool) (w u v : Chars) (kind : TokenKind) → is_word w ≡ true → starts is_xid_continue u ≡ false → Looks u v → step E2015 dot (w ++ u) ≡ Took kind (length w) → step E2018 dot (w ++ v) ≡ Took kind (length w)
word_kept dot [] u v kind h s l is = impossible h
word_kept dot (c ∷ w) u v kind h s l is =
    whole_word E2018 dot c w v h (sym (starts_same is_xid_continue l (calm u s)) ∙ s) ∙ here l s (sym (whole_word E2015 dot c w u h s) ∙ is)
  where
    here : {u v : Chars} → Looks u v → starts is_xid_continue u ≡ false → word_before E2015 (c ∷ w) (length (c ∷ w)) (first u) u ≡ Took kind (length (c ∷ w)) → word_before E2018 (c ∷ w) (length (c ∷ w)) (first v) v ≡ Took kind (length (c ∷ w))
    here none s is = is
    here (same {x} {y} d l) s is = before_same (c ∷ w) d x y kind is
    here (word d t) s is = absurd (both_ways _ s (start_continues d t))

-- ---- raw words

raw_at : (e : Edition) (dot : Bool) (c : ℕ) (cs : Chars) → is_start c ≡ true → step e dot (114 ∷ 35 ∷ c ∷ cs) ≡ raw_word (c ∷ cs)
raw_at e dot c cs h =
    let no_hash : (c == 35) ≡ false = apart c 35 h (no_start 35 (omega arith) refl) in
    let no_quote : (c == 34) ≡ false = apart c 34 h (no_start 34 (omega arith) refl) in
    step_word e dot 114 (35 ∷ c ∷ cs) r_starts ∙ word_ends e 114 [] (35 ∷ c ∷ cs) refl (no_continue 35 (omega arith) refl) ∙ (rw (no_hash, no_quote))

pub raw_found : (e : Edition) (dot : Bool) (x r : Chars) (name : List ℕ) → is_identifier x ≡ true → name ≡ name_of x → is_never_raw name ≡ false → starts is_xid_continue r ≡ false
    → step e dot ((114 ∷ 35 ∷ x) ++ r) ≡ Took (Ident name true) (length (114 ∷ 35 ∷ x))
raw_found e dot [] r name i n f s = impossible i
raw_found e dot (c ∷ w) r name i n f s =
    let a = and_parts (is_word (c ∷ w)) _ i in
    let b = and_parts (is_start c) (list_all is_xid_continue w) a.0 in
    let free : not_raw (name_of (c ∷ w)) ≡ false = name_free (name_of (c ∷ w)) (subst (λ x. is_never_raw x ≡ false) n f) in
    let score : bytes_eq (c ∷ w) (codes "_") ≡ false = not_true _ a.1 in
    let good : (is_start c && not (bytes_eq (c ∷ w) (codes "_") || not_raw (name_of (c ∷ w)))) ≡ true = both (is_start c) _ b.0 (rw (score, free)) in
    raw_at e dot c (w ++ r) b.0 ∙ raw_is c w r b.1 s
    ∙ ap (λ (x : Bool). cond x (Took (Ident (name_of (c ∷ w)) true) (2 + length (c ∷ w))) (Bad BadRaw 0)) good
    ∙ ap (λ x. Took (Ident x true) (2 + length (c ∷ w))) (sym n) ∙ ap (Took (Ident name true)) (let k : 2 + length (c ∷ w) ≡ length (114 ∷ 35 ∷ c ∷ w) = omega arith in k)

raw_stops : (e : Edition) (dot : Bool) (x u : Chars) (kind : TokenKind) → is_identifier x ≡ true → step e dot ((114 ∷ 35 ∷ x) ++ u) ≡ Took kind (length (114 ∷ 35 ∷ x)) → starts is_xid_continue u ≡ false
raw_stops e dot [] u kind i is = impossible i
raw_stops e dot (c ∷ w) u kind i is = whole (passed is_xid_continue (w ++ u))
  where
    whole : Passed is_xid_continue (w ++ u) → starts is_xid_continue u ≡ false
    whole p =
        let a = and_parts (is_word (c ∷ w)) _ i in
        let b = and_parts (is_start c) (list_all is_xid_continue w) a.0 in
        pick (λ q. q ≡ Took kind (length (114 ∷ 35 ∷ c ∷ w)) → starts is_xid_continue u ≡ false) (is_start c && not (bytes_eq (c ∷ p.front) (codes "_") || not_raw (name_of (c ∷ p.front)))) _ _
        (λ t e. let n = (same_took e).0 in
        let l : length p.front ≡ length w = omega (arith, n) in
        subst (λ x. starts is_xid_continue x ≡ false) (same_front p.front w p.rest u (sym p.parts) l).1 p.ends)
        (λ t e. absurd (no_bad e))
        (sym (raw_at e dot c (w ++ u) b.0 ∙ ap (λ xs. raw_word (c ∷ xs)) p.parts ∙ raw_is c p.front p.rest p.all p.ends) ∙ is)

pub raw_kept : (dot : Bool) (w u v : Chars) (name : List ℕ) → IsRawWord w name → Looks u v → step E2015 dot (w ++ u) ≡ Took (Ident name true) (length w) → step E2018 dot (w ++ v) ≡ Took (Ident name true) (length w)
raw_kept dot w u v name r l is =
    let at : step E2015 dot ((114 ∷ 35 ∷ r.word) ++ u) ≡ Took (Ident name true) (length (114 ∷ 35 ∷ r.word)) = subst (λ w. step E2015 dot (w ++ u) ≡ Took (Ident name true) (length w)) r.parts is in
    let s = raw_stops E2015 dot r.word u (Ident name true) r.identifier at in
    subst (λ w. step E2018 dot (w ++ v) ≡ Took (Ident name true) (length w)) (sym r.parts)
    (raw_found E2018 dot r.word v name r.identifier r.name_is r.free (sym (starts_same is_xid_continue l (calm u s)) ∙ s))

-- ---- lifetimes

letter_not : (cs : Chars) (name : List ℕ) (n : ℕ) → literal_step false Single 1 cs ≡ Took (Lifetime name) n → ⊥
unfolding literal_step
letter_not cs name n = here (close_len false Single cs)
  where
    reads : (body : Chars) (len : ℕ) (r : Reading) (o : Option ℕ) → literal_read false Single 1 body len r o ≡ Took (Lifetime name) n → ⊥
    reads body len r None e = cc
    reads body len r (Some p) e = no_bad e

    here : (o : Option ℕ) → literal_closed false Single 1 cs o ≡ Took (Lifetime name) n → ⊥
    here None e = no_bad e
    here (Some k) e = pick (λ q. q ≡ Took (Lifetime name) n → ⊥) (starts_word (drop (k + 1) cs)) _ _ (λ t e. no_bad e) (λ t e. reads (take k cs) (1 + (k + 1)) (read false Single 0 (take k cs)) (read false Single 0 (take k cs)).bad e) e

single_at : (c : ℕ) (x : Chars) → (c == 92) ≡ false → single_len false (c ∷ x) ≡ some_if (first x == 39 && not (c == 39 || c == 10 || c == 9)) 1
unfolding single_len
single_at c x h = rw h

first_behind : (w u v : Chars) → first u ≡ first v → first (w ++ u) ≡ first (w ++ v)
first_behind [] u v e = e
first_behind (c ∷ w) u v e = refl

pub lifetime_kept : (dot : Bool) (w u v : Chars) (name : List ℕ) → is_word w ≡ true → name ≡ name_of w → starts is_xid_continue u ≡ false → Looks u v
    → step E2015 dot ((39 ∷ w) ++ u) ≡ Took (Lifetime name) (length (39 ∷ w)) → step E2018 dot ((39 ∷ w) ++ v) ≡ Took (Lifetime name) (length (39 ∷ w))
lifetime_kept dot [] u v name h n s l is = impossible h
lifetime_kept dot (c ∷ w) u v name h n s l is =
    step_single E2018 dot (c ∷ (w ++ v)) ∙ quote_if (c ∷ (w ++ v)) (λ q. q ≡ Took (Lifetime name) (length (39 ∷ c ∷ w)))
    (λ t. lifetime_is c w v a.1 (sym (starts_same is_xid_continue l (calm u s)) ∙ s)
    ∙ ap (λ (x : Bool). cond x (Bad BadLifetime 0) (Took (Lifetime (name_of (c ∷ w))) (1 + length (c ∷ w)))) (ap (λ x. x == 39 || x == 35) (sym heads) ∙ old.1)
    ∙ ap (λ x. Took (Lifetime x) (1 + length (c ∷ w))) (sym n) ∙ ap (Took (Lifetime name)) (let k : 1 + length (c ∷ w) ≡ length (39 ∷ c ∷ w) = omega arith in k))
    (λ t. absurd (both_ways _ t (ap (λ o. is_start c && is_none o) (sym lens) ∙ old.0)))
  where
    a : (is_start c ≡ true) × (list_all is_xid_continue w ≡ true)
    a = and_parts (is_start c) (list_all is_xid_continue w) h

    heads : first u ≡ first v
    heads = first_same l (calm u s)

    slash : (c == 92) ≡ false
    slash = apart c 92 a.0 (no_start 92 (omega arith) refl)

    lens : single_len false (c ∷ (w ++ u)) ≡ single_len false (c ∷ (w ++ v))
    lens = single_at c (w ++ u) slash ∙ ap (λ x. some_if (x == 39 && not (c == 39 || c == 10 || c == 9)) 1) (first_behind w u v heads) ∙ sym (single_at c (w ++ v) slash)

    Old : Type 0
    Old = ((is_start c && is_none (single_len false (c ∷ (w ++ u)))) ≡ true) × ((first u == 39 || first u == 35) ≡ false)

    old : Old
    old =
        quote_if (c ∷ (w ++ u)) (λ q. q ≡ Took (Lifetime name) (length (39 ∷ c ∷ w)) → Old)
        (λ t e. (t, by_test _ (first u == 39 || first u == 35) (λ f. absurd (no_bad (sym (lifetime_is c w u a.1 s ∙ ap (λ (x : Bool). cond x (Bad BadLifetime 0) (Took (Lifetime (name_of (c ∷ w))) (1 + length (c ∷ w)))) f) ∙ e))) (λ f. f)))
        (λ t e. absurd (letter_not (c ∷ (w ++ u)) name (length (39 ∷ c ∷ w)) e))
        (sym (step_single E2015 dot (c ∷ (w ++ u))) ∙ is)

-- ---- numbers

r_start : is_xid_start 114 ≡ true
r_start = is_xid_start-ascii 114 (omega arith)

three_or : (a b c : Bool) → (b || c) ≡ true → (a || b || c) ≡ true
three_or true b c h = refl
three_or false b c h = h

point_same : {u v : Chars} → Looks u v → starts is_start u ≡ false → point_at u ≡ point_at v
point_same none h = refl
point_same (same d l) h = behind l
  where
    behind : {x y : Chars} → Looks x y → point_at (d ∷ x) ≡ point_at (d ∷ y)
    behind none = refl
    behind (same f l) = refl
    behind (word f s) =
        let a : (f == 46 || f == 95 || is_xid_start f) ≡ true = three_or (f == 46) (f == 95) (is_xid_start f) s in
        let b : (114 == 46 || 114 == 95 || is_xid_start 114) ≡ true = r_start in
        ap (λ (x : Bool). d == 46 && not x) a ∙ sym (ap (λ (x : Bool). d == 46 && not x) b)
point_same (word c s) h = absurd (both_ways _ h s)

-- the number of a word before a text, by whether a point stands there
abbrev number_before : Bool → Chars → Chars → Chars → Bool → Piece
number_before dot w part tail point =
    cond (not dot && (base_of dot w == 10) && (first tail == 101 || first tail == 69 || bytes_eq tail (codes "f32") || bytes_eq tail (codes "f64") || (bytes_eq tail [] && point))) (Bad Float 0)
    (number_end (length w) (value_from (base_of dot w) false 0 part) (suffix_of dot tail))

number_len : (dot : Bool) (w part tail : Chars) (point : Bool) (kind : TokenKind) (n : ℕ) → number_before dot w part tail point ≡ Took kind n → length w ≡ n
number_len dot w part tail point kind n =
    pick (λ q. q ≡ Took kind n → length w ≡ n) (not dot && (base_of dot w == 10) && (first tail == 101 || first tail == 69 || bytes_eq tail (codes "f32") || bytes_eq tail (codes "f64") || (bytes_eq tail [] && point))) _ _
    (λ t e. absurd (no_bad e)) (λ t. here (value_from (base_of dot w) false 0 part) (suffix_of dot tail))
  where
    here : (o : Option ℕ) (s : Option (Option IntKind)) → number_end (length w) o s ≡ Took kind n → length w ≡ n
    here None s e = absurd (no_bad e)
    here (Some value) None e = absurd (no_bad e)
    here (Some value) (Some s) e = (same_took e).0

number_whole : (dot : Bool) (w u : Chars) (kind : TokenKind) → starts is_ascii_digit w ≡ true → step E2015 dot (w ++ u) ≡ Took kind (length w) → NumberAt (w ++ u) w u
number_whole dot [] u kind d is = impossible d
number_whole dot (c ∷ w) u kind d is = whole (whole_number c (w ++ u) d)
  where
    whole : Whole (c ∷ (w ++ u)) → NumberAt (c ∷ (w ++ u)) (c ∷ w) u
    whole n =
        let k = number_cut dot n.w in
        let l = number_len dot n.w k.part k.tail (point_at n.left) kind (length (c ∷ w)) (sym (number_at E2015 dot (c ∷ (w ++ u)) n.w n.left k.part k.tail n.at k.cut) ∙ is) in
        let (x, y) = same_front n.w (c ∷ w) n.left u (sym n.at.parts) l in
        subst (λ w'. NumberAt (c ∷ (w ++ u)) w' u) x (subst (NumberAt (c ∷ (w ++ u)) n.w) y n.at)

pub number_kept : (dot : Bool) (w u v : Chars) (value : ℕ) (suffix : Option IntKind) → IsInt dot w value suffix → Looks u v → step E2015 dot (w ++ u) ≡ Took (Int value suffix) (length w) → step E2018 dot (w ++ v) ≡ Took (Int value suffix) (length w)
number_kept dot w u v value suffix i l is =
    let old = number_whole dot w u (Int value suffix) i.digit is in
    let quiet = calm u old.ends in
    let new : NumberAt (w ++ v) w v = record { parts = refl; digit = old.digit; characters = old.characters; ends = sym (starts_same is_xid_continue l quiet) ∙ old.ends } in
    number_at E2018 dot (w ++ v) w v i.part i.tail new i.cut
    ∙ ap (number_before dot w i.part i.tail) (sym (point_same l quiet))
    ∙ sym (number_at E2015 dot (w ++ u) w u i.part i.tail old i.cut) ∙ is

-- ---- literals

pub literal_kept : (dot byte : Bool) (form : Form) (w value u v : Chars) (kind : TokenKind) → IsLiteral byte form w value → Looks u v → step E2015 dot (w ++ u) ≡ Took kind (length w) → step E2018 dot (w ++ v) ≡ Took kind (length w)
literal_kept dot byte form w value u v kind lit l is =
    let old = sym (literal_found E2015 dot byte form w value u lit) ∙ is in
    let quiet : starts is_start u ≡ false = by_test _ (starts is_start u) (λ t. absurd (no_bad (sym (ap (λ (x : Bool). cond x (Bad LiteralSuffix 0) (Took (literal_kind byte form value) (length w))) t) ∙ old))) (λ t. t) in
    literal_found E2018 dot byte form w value v lit
    ∙ ap (λ (x : Bool). cond x (Bad LiteralSuffix 0) (Took (literal_kind byte form value) (length w))) (sym (starts_same is_start l quiet)) ∙ old

-- ---- marks

no_third : (a b c : ℕ) → (c == 46) ≡ false → (c == 61) ≡ false → is_punct3 a b c ≡ false
no_third a b c h k = grind (arith, nat_tests)

-- a character that is in no mark behind the first
record Outside (b : ℕ) : Type 0 where
  equals : (b == 61) ≡ false
  and : (b == 38) ≡ false
  bar : (b == 124) ≡ false
  less : (b == 60) ≡ false
  more : (b == 62) ≡ false
  dot : (b == 46) ≡ false
  colon : (b == 58) ≡ false
  minus : (b == 45) ≡ false

outside : (b : ℕ) → is_start b ≡ true → Outside b
outside b s = record {
  equals = apart b 61 s (no_start 61 (omega arith) refl);
  and = apart b 38 s (no_start 38 (omega arith) refl);
  bar = apart b 124 s (no_start 124 (omega arith) refl);
  less = apart b 60 s (no_start 60 (omega arith) refl);
  more = apart b 62 s (no_start 62 (omega arith) refl);
  dot = apart b 46 s (no_start 46 (omega arith) refl);
  colon = apart b 58 s (no_start 58 (omega arith) refl);
  minus = apart b 45 s (no_start 45 (omega arith) refl);
}

no_two : (a b : ℕ) → Outside b → is_punct2 a b ≡ false
no_two a b o = grind (arith, nat_tests)

no_three : (a b c : ℕ) → Outside b → is_punct3 a b c ≡ false
no_three a b c o = grind (arith, nat_tests)

one_mark : (a b c : ℕ) → Outside b → punct_len a b c ≡ cond (is_punct1 a) 1 0
unfolding punct_len
one_mark a b c o = let h = no_three a b c o in let k = no_two a b o in rw (h, k)

two_marks : (a b c : ℕ) → Outside c → punct_len a b c ≡ cond (is_punct2 a b) 2 (cond (is_punct1 a) 1 0)
unfolding punct_len
two_marks a b c o = let h = no_third a b c o.dot o.equals in rw h

punct_same : (a : ℕ) {u v : Chars} → Looks u v → punct_len a (first u) (get_or u 1 0) ≡ punct_len a (first v) (get_or v 1 0)
punct_same a none = refl
punct_same a (same d l) = behind l
  where
    behind : {x y : Chars} → Looks x y → punct_len a d (first x) ≡ punct_len a d (first y)
    behind none = refl
    behind (same f l) = refl
    behind (word f s) = two_marks a d f (outside f s) ∙ sym (two_marks a d 114 (outside 114 r_starts))
punct_same a (word {x} c s) = one_mark a c (get_or x 0 0) (outside c s) ∙ sym (one_mark a 114 35 (outside 114 r_starts))

mark_same : (a : ℕ) {u v : Chars} → Looks u v → mark_step (a ∷ u) ≡ mark_step (a ∷ v)
unfolding mark_step
mark_same a l = ap (λ n. cond (is_open a) (Took Open 1) (cond (is_close a) (Took Close 1) (cond (n == 0) (Bad BadCharacter 0) (Took Punct n)))) (punct_same a l)

no_comment : (a : ℕ) (s : Chars) → begins_comment (a ∷ s) ≡ false → ((a == 47 && first s == 47) ≡ false) × ((a == 47 && first s == 42) ≡ false)
no_comment a s h = (none_at 47 s h (λ r. refl) refl, none_at 42 s h (λ r. refl) refl)
  where
    none_at : (d : ℕ) (s : Chars) → begins_comment (a ∷ s) ≡ false → ((r : Chars) → begins_comment (47 ∷ d ∷ r) ≡ true) → (0 == d) ≡ false → (a == 47 && first s == d) ≡ false
    none_at d [] h f z = by_test _ (a == 47 && 0 == d) (λ t. absurd (both_ways _ z (and_parts (a == 47) (0 == d) t).1)) (λ t. t)
    none_at d (b ∷ r) h f z =
        by_test _ (a == 47 && b == d)
        (λ t. let k = and_parts (a == 47) (b == d) t in
        absurd (both_ways _ h (subst (λ a. begins_comment (a ∷ b ∷ r) ≡ true) (sym (eqb-true a 47 k.0)) (subst (λ b. begins_comment (47 ∷ b ∷ r) ≡ true) (sym (eqb-true b d k.1)) (f r)))))
        (λ t. t)

-- the mark in front of a text
mark_at : (e : Edition) (dot : Bool) (a : ℕ) (s : Chars) → Apart a → (a == 47 && first s == 47) ≡ false → (a == 47 && first s == 42) ≡ false → step e dot (a ∷ s) ≡ mark_step (a ∷ s)
mark_at e dot a s p h k = step_mark e dot a s (record { word = p.word; digit = p.digit; quote = p.quote; single = p.single; blank = p.blank; line = h; block = k })

pub mark_kept : (dot : Bool) (a : ℕ) (s t : Chars) (kind : TokenKind) (n : ℕ) → Apart a → begins_comment (a ∷ s) ≡ false → Looks s t → step E2015 dot (a ∷ s) ≡ Took kind n → step E2018 dot (a ∷ t) ≡ Took kind n
mark_kept dot a s t kind n p h l is =
    let c = no_comment a s h in
    let x : (a == 47 && first t == 47) ≡ false = ap (λ (b : Bool). a == 47 && b) (sym (first_test 47 l (no_start 47 (omega arith) refl) refl)) ∙ c.0 in
    let y : (a == 47 && first t == 42) ≡ false = ap (λ (b : Bool). a == 47 && b) (sym (first_test 42 l (no_start 42 (omega arith) refl) refl)) ∙ c.1 in
    mark_at E2018 dot a t p x y ∙ sym (mark_same a l) ∙ sym (mark_at E2015 dot a s p c.0 c.1) ∙ is
