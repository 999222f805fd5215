-- The text with chosen words raw has the moved tokens.
use Rattle.std.proofs.Common.{◌≡◌, ◌⊎◌, inl, inr, ℕ, ◌<◌, Bool, true, false, not, ◌&&◌, ◌||◌, ◌==◌, List, [], ◌∷◌, ◌++◌, length, encode_utf8_all, refl, subst, sym, ap, ◌∙◌, arith, length-append, append_assoc}
use Rattle.std.specs.Prelude.{All}
use Rattle.std.specs.Str.{all_scalars, bytes_eq}
use Rattle.std.proofs.lemmas.Bool.{and_parts, both_ways}
use Rattle.unicode_ident.specs.Ident.{is_xid_continue}
use Rattle.em_base.specs.Names.{is_start, is_word, is_identifier}
use Rattle.em_base.specs.declared.edition.Edition.{Edition}
use Rattle.em_base.specs.declared.edition.Edition.TheVariants.{E2015, E2018}
use Rattle.em_base.specs.declared.token.TokenKind.{TokenKind}
use Rattle.em_base.specs.declared.token.TokenKind.TheVariants.{Ident, Lifetime, Int, Char, Byte, Str, ByteStr, Open, Close, Punct}
use Rattle.em_lex.specs.declared.piece.Form.TheVariants.{Quoted, Single, Raw}
use Rattle.em_lex.specs.declared.piece.Piece.{Piece}
use Rattle.em_lex.specs.declared.piece.Piece.TheVariants.{Token as Took}
use Rattle.em_lex.specs.Characters.{Chars, starts, not_line_feed, name_of}
use Rattle.em_lex.specs.Trivia.{is_comment_mark, Within, closes, lowers, raises, passes, IsTrivia, blank, line, block, begins_comment}
use Rattle.em_lex.specs.Spelling.{Spells, is_never_raw, opening_delimiters, closing_delimiters}
use Rattle.em_lex.specs.Lexing.{Part, trivia, token, spelled, is_dot, TokenAt, Tiles, byte_len, tokens_of}
use Rattle.em_lex.specs.Marking.{moved, marked, HasRawForm}
use Rattle.em_lex.specs.Laws.{MarkedLexes}
use Rattle.em_lex.specs.Scan.{step}
use Rattle.em_lex.proofs.Base.{impossible, by_test, any_of, same_front, no_start}
use Rattle.em_lex.proofs.WordLemmas.{apart}
use Rattle.em_lex.proofs.MarkLemmas.{punct_apart, open_apart, close_apart, Shape, under, one, two, three, shape_of}
use Rattle.em_lex.proofs.LexingLemmas.{no_gap, no_bad, same_took, spells_some, part_step, Found, part, fault}
use Rattle.em_lex.proofs.WalkLemmas.{found_at}
use Rattle.em_lex.proofs.MarkedText.{all_of, Raises, ends, keeps, lifts, raised, raised_raises, marked_text, moved_tokens, scalars_marked}
use Rattle.em_lex.proofs.MarkedLooks.{Looks, none, same, word, looks_append, calm, starts_same, NoLonger, longer_word, word_stops, word_kept, raw_found, raw_kept, lifetime_kept, number_kept, literal_kept, mark_kept}

-- ---- trivia

-- the front of a text that is the rest of a comment, before any other text
record CommentFront (depth : ℕ) (text left : Chars) : Type 0 where
  front : Chars
  some : 0 < length front
  parts : text ≡ front ++ left
  goes : (other : Chars) → Within depth (front ++ other) other

same_start : (p : ℕ → Bool) (f left other : Chars) → 0 < length f → starts p (f ++ left) ≡ starts p (f ++ other)
same_start p [] left other h = absurd (omega (arith, h))
same_start p (c ∷ f) left other h = refl

comment_front : {depth : ℕ} {text left : Chars} → Within depth text left → CommentFront depth text left
comment_front (closes z e) = record { front = 42 ∷ 47 ∷ []; some = omega arith; parts = e; goes = λ other. closes z refl }
comment_front (lowers d cs z e w) =
    let r = comment_front w in
    record { front = 42 ∷ 47 ∷ r.front; some = omega arith; parts = e ∙ ap (λ x. 42 ∷ 47 ∷ x) r.parts; goes = λ other. lowers d (r.front ++ other) z refl (r.goes other) }
comment_front (raises cs e w) =
    let r = comment_front w in
    record { front = 47 ∷ 42 ∷ r.front; some = omega arith; parts = e ∙ ap (λ x. 47 ∷ 42 ∷ x) r.parts; goes = λ other. raises (r.front ++ other) refl (r.goes other) }
comment_front {depth} {text} {left} (passes c cs e m w) =
    let r = comment_front w in
    record {
      front = c ∷ r.front;
      some = omega arith;
      parts = e ∙ ap (λ x. c ∷ x) r.parts;
      goes = λ other. passes c (r.front ++ other) refl (here r.front other r.some (subst (λ x. is_comment_mark c x ≡ false) r.parts m)) (r.goes other);
    }
  where
    here : (f other : Chars) → 0 < length f → is_comment_mark c (f ++ left) ≡ false → is_comment_mark c (f ++ other) ≡ false
    here f other h k = ap (λ (x : Bool). (c == 42 && x) || (c == 47 && starts (λ d. d == 42) (f ++ other))) (sym (same_start (λ d. d == 47) f left other h)) ∙ ap (λ (x : Bool). (c == 42 && starts (λ d. d == 47) (f ++ left)) || (c == 47 && x)) (sym (same_start (λ d. d == 42) f left other h)) ∙ k

comment_kept : (cs left other : Chars) → Within 0 (cs ++ left) left → Within 0 (cs ++ other) other
comment_kept cs left other w =
    let r = comment_front w in
    let a = length-append cs left in
    let b = length-append r.front left in
    let c = ap (λ x. length x) r.parts in
    let l : length cs ≡ length r.front = omega (arith, a, b, c) in
    subst (λ x. Within 0 (x ++ other) other) (sym (same_front cs r.front left left r.parts l).0) (r.goes other)

line_kept : {u v : Chars} → Looks u v → starts not_line_feed u ≡ false → starts not_line_feed v ≡ false
line_kept none h = h
line_kept (same c l) h = h
line_kept (word c s) h = absurd (both_ways _ h (ap not (apart c 10 s (no_start 10 (omega arith) refl))))

trivia_kept : (w : Chars) (doc : Bool) (u v : Chars) → IsTrivia w doc u → Looks u v → IsTrivia w doc v
trivia_kept w doc u v (blank c is h d) l = blank c is h d
trivia_kept w doc u v (line cs is all stop d) l = line cs is all (line_kept l stop) d
trivia_kept w doc u v (block cs is within d) l = block cs is (comment_kept cs u v within) d

-- ---- tokens

-- where the step finds a token, it stands
token_at : (e : Edition) (dot : Bool) (w v : Chars) (kind : TokenKind) → 0 < length w → step e dot (w ++ v) ≡ Took kind (length w) → TokenAt e dot w v kind
token_at e dot w v kind some is = here (found_at e dot (w ++ v) (Took kind (length w)) (let l = length-append w v in omega (arith, l, some)) (sym is)) refl
  where
    here : {p : Piece} → Found e dot (w ++ v) p → p ≡ Took kind (length w) → TokenAt e dot w v kind
    here (fault k at f) q = absurd (no_bad q)
    here (part (trivia x doc) rest parts t) q = absurd (no_gap q)
    here (part (token x k) rest parts t) q =
        let (n, kind_is) = same_took q in
        let (a, b) = same_front x w rest v (sym parts) n in
        subst (TokenAt e dot w v) kind_is (subst (λ y. TokenAt e dot w y k) b (subst (λ y. TokenAt e dot y rest k) a t))

lifetime_stops : (dot : Bool) (w u : Chars) → is_word w ≡ true → NoLonger dot (39 ∷ w) u → starts is_xid_continue u ≡ false
lifetime_stops dot w [] h n = refl
lifetime_stops dot w (d ∷ u) h n =
    by_test (is_xid_continue d ≡ false) (is_xid_continue d)
    (λ t. let l = n (39 ∷ (w ++ d ∷ [])) u (Lifetime (name_of (w ++ d ∷ []))) (ap (λ x. 39 ∷ x) (sym (append_assoc w (d ∷ []) u))) (w ++ d ∷ [], refl, (and_parts (is_word (w ++ d ∷ [])) _ (longer_word w d h t)).0, refl) in
    let m = length-append w (d ∷ []) in absurd (omega (arith, l, m)))
    (λ t. t)

abbrev Stays : Bool → Chars → Chars → TokenKind → Chars → Type 0
Stays dot u v kind w = begins_comment (w ++ u) ≡ false → step E2015 dot (w ++ u) ≡ Took kind (length w) → step E2018 dot (w ++ v) ≡ Took kind (length w)

punct_kept : (dot : Bool) (w u v : Chars) → NoLonger dot w u → Looks u v → Shape w → Stays dot u v Punct w
punct_kept dot _ u v n l under c is = word_kept dot (95 ∷ []) u v Punct refl (word_stops dot (95 ∷ []) u refl n) l is
punct_kept dot _ u v n l (one {a} p) c is = mark_kept dot a u v Punct 1 (punct_apart a p) c l is
punct_kept dot _ u v n l (two {a} {b} p q) c is = mark_kept dot a (b ∷ u) (b ∷ v) Punct 2 (punct_apart a q) c (same b l) is
punct_kept dot _ u v n l (three {a} {b} {c} p q) free is = mark_kept dot a (b ∷ c ∷ u) (b ∷ c ∷ v) Punct 3 (punct_apart a q) free (same b (same c l)) is

stays : (dot : Bool) (w u v : Chars) (kind : TokenKind) → Spells dot w kind → NoLonger dot w u → Looks u v → Stays dot u v kind w
stays dot w u v (Ident name true) r n l c is = raw_kept dot w u v name r l is
stays dot w u v (Ident name false) (i, m) n l c is = let h = (and_parts (is_word w) _ i).0 in word_kept dot w u v (Ident name false) h (word_stops dot w u h n) l is
stays dot w u v (Lifetime name) (x, e, h, m) n l c is =
    let s = lifetime_stops dot x u h (subst (λ w. NoLonger dot w u) e n) in
    subst (λ w. step E2018 dot (w ++ v) ≡ Took (Lifetime name) (length w)) (sym e)
    (lifetime_kept dot x u v name h m s l (subst (λ w. step E2015 dot (w ++ u) ≡ Took (Lifetime name) (length w)) e is))
stays dot w u v (Int value suffix) i n l c is = number_kept dot w u v value suffix i l is
stays dot w u v (Char value) lit n l c is = literal_kept dot false Single w (value ∷ []) u v (Char value) lit l is
stays dot w u v (Byte value) lit n l c is = literal_kept dot true Single w (value ∷ []) u v (Byte value) lit l is
stays dot w u v (Str value) (vs, inl lit, e) n l c is = literal_kept dot false Quoted w vs u v (Str value) lit l is
stays dot w u v (Str value) (vs, inr (k, lit), e) n l c is = literal_kept dot false (Raw k) w vs u v (Str value) lit l is
stays dot w u v (ByteStr value) (inl lit) n l c is = literal_kept dot true Quoted w value u v (ByteStr value) lit l is
stays dot w u v (ByteStr value) (inr (k, lit)) n l c is = literal_kept dot true (Raw k) w value u v (ByteStr value) lit l is
stays dot w u v Open h n l c is = any_of (Stays dot u v Open) w opening_delimiters (at 40 refl, (at 91 refl, (at 123 refl, tt))) h c is
  where
    at : (a : ℕ) → (a == 40 || a == 91 || a == 123) ≡ true → Stays dot u v Open (a ∷ [])
    at a o free found = mark_kept dot a u v Open 1 (open_apart a o) free l found
stays dot w u v Close h n l c is = any_of (Stays dot u v Close) w closing_delimiters (at 41 refl, (at 93 refl, (at 125 refl, tt))) h c is
  where
    at : (a : ℕ) → (a == 41 || a == 93 || a == 125) ≡ true → Stays dot u v Close (a ∷ [])
    at a o free found = mark_kept dot a u v Close 1 (close_apart a o) free l found
stays dot w u v Punct h n l c is = punct_kept dot w u v n l (shape_of w h) c is

token_kept : (dot : Bool) (w u v : Chars) (kind : TokenKind) → TokenAt E2015 dot w u kind → Looks u v → TokenAt E2018 dot w v kind
token_kept dot w u v kind t l =
    token_at E2018 dot w v kind (spells_some dot w kind t.longest.spells) (stays dot w u v kind t.longest.spells t.longest.longest l t.no_comment (part_step E2015 dot (token w kind) u t))

-- an identifier becomes a raw one
token_lifted : (dot : Bool) (w u v : Chars) (name : List ℕ) → TokenAt E2015 dot w u (Ident name false) → is_never_raw name ≡ false → Looks u v → TokenAt E2018 dot (114 ∷ 35 ∷ w) v (Ident name true)
token_lifted dot w u v name t f l =
    let (i, m) = t.longest.spells in
    let s = word_stops dot w u (and_parts (is_word w) _ i).0 t.longest.longest in
    token_at E2018 dot (114 ∷ 35 ∷ w) v (Ident name true) (omega arith) (raw_found E2018 dot w v name i m f (sym (starts_same is_xid_continue l (calm u s)) ∙ s))

-- ---- the text

tiles_text : (e : Edition) (dot : Bool) (text : Chars) (ps : List Part) (end : Bool) → Tiles e dot text ps end [] → text ≡ all_of ps
tiles_text e dot text [] end (d, is) = is
tiles_text e dot text (p ∷ ps) end (rest, parts, at, more) = parts ∙ ap (λ x. spelled p ++ x) (tiles_text e (is_dot p) rest ps end more)

looks_raised : {ps qs : List Part} → Raises ps qs → (dot : Bool) (text : Chars) (end : Bool) → Tiles E2015 dot text ps end [] → Looks text (all_of qs)
looks_raised ends dot text end (d, is) = subst (λ x. Looks x []) (sym is) none
looks_raised (keeps {ps} {qs} p r) dot text end (rest, parts, at, more) = subst (λ x. Looks x (spelled p ++ all_of qs)) (sym parts) (looks_append (spelled p) (looks_raised r (is_dot p) rest end more))
looks_raised (lifts {ps} {qs} w name free r) dot text end (rest, parts, at, more) = subst (λ x. Looks x (114 ∷ 35 ∷ (w ++ all_of qs))) (sym parts) (here w at.longest.spells.0)
  where
    here : (w : Chars) → is_identifier w ≡ true → Looks (w ++ rest) (114 ∷ 35 ∷ (w ++ all_of qs))
    here [] i = impossible i
    here (c ∷ w) i = word c (and_parts (is_start c) _ (and_parts (is_word (c ∷ w)) _ i).0).0

no_dot : (w : Chars) → is_identifier w ≡ true → bytes_eq w (46 ∷ []) ≡ false
no_dot [] i = impossible i
no_dot (c ∷ w) i = by_test _ (bytes_eq (c ∷ w) (46 ∷ [])) (λ t. absurd (both_ways _ (apart c 46 (and_parts (is_start c) _ (and_parts (is_word (c ∷ w)) _ i).0).0 (no_start 46 (omega arith) refl)) (and_parts (c == 46) _ t).0)) (λ t. t)

tiles_raised : {ps qs : List Part} → Raises ps qs → (dot : Bool) (text : Chars) (end : Bool) → Tiles E2015 dot text ps end [] → Tiles E2018 dot (all_of qs) qs end []
tiles_raised ends dot text end (d, is) = (d, refl)
tiles_raised (keeps {ps} {qs} (trivia w doc) r) dot text end (rest, parts, at, more) =
    (all_of qs, refl, trivia_kept w doc rest (all_of qs) at (looks_raised r false rest end more), tiles_raised r false rest end more)
tiles_raised (keeps {ps} {qs} (token w kind) r) dot text end (rest, parts, at, more) =
    (all_of qs, refl, token_kept dot w rest (all_of qs) kind at (looks_raised r (is_dot (token w kind)) rest end more), tiles_raised r (is_dot (token w kind)) rest end more)
tiles_raised (lifts {ps} {qs} w name free r) dot text end (rest, parts, at, more) = (
  all_of qs,
  refl,
  token_lifted dot w rest (all_of qs) name at free (looks_raised r (is_dot (token w (Ident name false))) rest end more),
  subst (λ d. Tiles E2018 d (all_of qs) qs end []) (no_dot w at.longest.spells.0) (tiles_raised r (is_dot (token w (Ident name false))) rest end more),
)

-- no U+FEFF comes to stand in front
no_mark : {u v : Chars} → Looks u v → ((cs : Chars) → u ≡ 0xFEFF ∷ cs → ⊥) → (cs : Chars) → v ≡ 0xFEFF ∷ cs → ⊥
no_mark none f cs e = f cs e
no_mark (same {x} {y} c l) f cs e = f x (ap (λ c. c ∷ x) (let h : c ≡ 0xFEFF = cc in h))
no_mark (word c s) f cs e = let h : ◌≡◌ {A = ℕ} 114 0xFEFF = cc in omega (arith, h)

pub marked_lexes : MarkedLexes
marked_lexes chosen file bytes ts a h =
    let qs : List Part = raised chosen file (byte_len h.mark) false h.parts in
    let r : Raises h.parts qs = raised_raises chosen file (byte_len h.mark) false h.parts (subst (All (HasRawForm chosen)) h.tokens a) in
    let t : h.text ≡ all_of h.parts = tiles_text E2015 false h.text h.parts h.dot h.tiles in
    let whole : encode_utf8_all (h.mark ++ all_of h.parts) ≡ bytes = ap (λ x. encode_utf8_all (h.mark ++ x)) (sym t) ∙ h.is_text.encoded in
    record {
      mark = h.mark;
      text = all_of qs;
      parts = qs;
      dot = h.dot;
      is_text = record {
        scalars = scalars_marked h.mark r (subst (λ x. all_scalars (h.mark ++ x) ≡ true) t h.is_text.scalars);
        encoded = sym (marked_text chosen file h.mark h.parts) ∙ ap (λ x. marked chosen 0 x (tokens_of file E2015 (byte_len h.mark) false h.parts)) whole ∙ ap (marked chosen 0 bytes) (sym h.tokens);
        marked = front (looks_raised r false h.text h.dot h.tiles) h.is_text.marked;
      };
      tiles = tiles_raised r false h.text h.dot h.tiles;
      tokens = ap (moved chosen E2018 0) h.tokens ∙ moved_tokens chosen file (byte_len h.mark) h.parts;
    }
  where
    front : {m u v : Chars} → Looks u v → (m ≡ 0xFEFF ∷ []) ⊎ ((m ≡ []) × ((cs : Chars) → u ≡ 0xFEFF ∷ cs → ⊥)) → (m ≡ 0xFEFF ∷ []) ⊎ ((m ≡ []) × ((cs : Chars) → v ≡ 0xFEFF ∷ cs → ⊥))
    front l (inl x) = inl x
    front l (inr (x, f)) = inr (x, no_mark l f)
