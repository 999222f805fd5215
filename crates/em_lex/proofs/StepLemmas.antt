-- What the step finds stands there, and what stands there is found.
use Rattle.std.proofs.Common.{◌≡◌, inl, inr, ℕ, ◌+◌, ◌<◌, Bool, true, false, not, cond, ◌&&◌, ◌||◌, ◌==◌, [], ◌∷◌, ◌++◌, length, get_or, codes, Option, Some, None, refl, sym, ap, ◌∙◌, subst, arith}
use Rattle.std.proofs.lemmas.Bool.{and_parts, both_ways, or_cases, eqb-true}
use Rattle.std.proofs.lemmas.Bool.Decides.{nat_tests}
use Rattle.std.specs.Char.{is_ascii_digit}
use Rattle.std.specs.List.{list_all, prefix_len}
use Rattle.std.specs.Str.{bytes_eq}
use Rattle.unicode_ident.specs.Ident.{is_xid_continue}
use Rattle.unicode_ident.proofs.IdentLemmas.{is_xid_continue-ascii}
use Rattle.em_base.specs.Names.{is_start, is_word}
use Rattle.em_base.specs.declared.edition.Edition.{Edition}
use Rattle.em_base.specs.declared.token.TokenKind.{TokenKind}
use Rattle.em_base.specs.declared.token.TokenKind.TheVariants.{Ident, Lifetime, Int, Char, Byte, Str, ByteStr, Open, Close, Punct}
use Rattle.em_lex.specs.declared.error.LexKind.{LexKind}
use Rattle.em_lex.specs.declared.error.LexKind.TheVariants.{BadCharacter, Unclosed, ReservedPrefix, LiteralSuffix, BadLifetime, BadRaw}
use Rattle.em_lex.specs.declared.piece.Form.{Form}
use Rattle.em_lex.specs.declared.piece.Form.TheVariants.{Quoted, Single, Raw}
use Rattle.em_lex.specs.declared.piece.Piece.{Piece}
use Rattle.em_lex.specs.declared.piece.Piece.TheVariants.{Token as Took, Fault as Bad}
use Rattle.em_lex.specs.Characters.{Chars, starts, is_blank, name_of}
use Rattle.em_lex.specs.Literals.{opening, Units, NoUnit, Closed}
use Rattle.em_lex.specs.Spelling.{Spells}
use Rattle.em_lex.specs.Faults.{Fault as Stands, unknown, comment, prefix, hash_r, hash_br, float, number, number_suffix, unclosed, literal_suffix, body, lifetime, reserves, is_reserved, BeginsRawString, BeginsRawWord, bad_unit}
use Rattle.em_lex.specs.Scan.{first, starts_word, is_none, single_len, hash, close_len, closing_len, read, body_fault, literal_read, literal_step, lifetime_step, is_2021, not_raw, prefixed, raw_word, hash_step, word_before, step}
use Rattle.em_lex.proofs.Base.{impossible, by_test, pick, both, not_true, or_false, Passed, passed, index_front, no_continue, is_start-ascii}
use Rattle.em_lex.proofs.BodyLemmas.{close_cut, close_is, read_stops}
use Rattle.em_lex.proofs.Heads.{IsLetter, step_word, step_quoted, step_single, step_blank, step_line, step_block, step_mark, Mark, step_opening}
use Rattle.em_lex.proofs.Pieces.{Holds, Covered, Told}
use Rattle.em_lex.proofs.LiteralLemmas.{starts_same, fault_same, literal_is, literal_open, literal_holds, literal_covers}
use Rattle.em_lex.proofs.WordLemmas.{word_ends, word_holds, word_covers, raw_covers, lifetime_covers, single_holds, hash_quote, raw_is, lifetime_is, quote_if, same_edition, free_name}
use Rattle.em_lex.proofs.NumberLemmas.{number_holds, int_covers, float_told, value_told, suffix_told}
use Rattle.em_lex.proofs.MarkLemmas.{mark_holds, open_covers, close_covers, punct_covers, unknown_told}
use Rattle.em_lex.proofs.TriviaLemmas.{blank_holds, line_holds, block_holds, comment_told}

-- ---- what is found holds

there : (cs : Chars) (c : ℕ) → (first cs == c) ≡ true → 0 < c → (rest : Chars) × (cs ≡ c ∷ rest)
there [] c h some = absurd (omega (arith, eqb-true 0 c h, some))
there (d ∷ rest) c h some = (rest, ap (λ x. x ∷ rest) (eqb-true d c h))

slashed : (e : Edition) (dot : Bool) (c d : ℕ) (cs : Chars) → (c == 47 && first cs == d) ≡ true → 0 < d → ((rest : Chars) → Holds e dot (47 ∷ d ∷ rest) (step e dot (47 ∷ d ∷ rest))) → Holds e dot (c ∷ cs) (step e dot (c ∷ cs))
slashed e dot c d cs t some f =
    let k = and_parts (c == 47) (first cs == d) t in
    let (rest, r) = there cs d k.1 some in
    subst (λ x. Holds e dot x (step e dot x)) (sym (ap (λ c. c ∷ cs) (eqb-true c 47 k.0) ∙ ap (λ xs. 47 ∷ xs) r)) (f rest)

pub holds : (e : Edition) (dot : Bool) (c : ℕ) (cs : Chars) → Holds e dot (c ∷ cs) (step e dot (c ∷ cs))
holds e dot c cs =
    by_test P (is_start c) (λ h. subst (Holds e dot (c ∷ cs)) (sym (step_word e dot c cs h)) (word_holds e dot c cs h))
    (λ w. by_test P (is_ascii_digit c) (λ h. number_holds e dot c cs h)
    (λ d. by_test P (c == 34) (λ h. subst (λ c. Holds e dot (c ∷ cs) (step e dot (c ∷ cs))) (sym (eqb-true c 34 h)) (subst (Holds e dot (34 ∷ cs)) (sym (step_quoted e dot cs)) (literal_holds e dot false Quoted (34 ∷ cs) cs refl (λ f k. absurd (quoted_single k)))))
    (λ q. by_test P (c == 39) (λ h. subst (λ c. Holds e dot (c ∷ cs) (step e dot (c ∷ cs))) (sym (eqb-true c 39 h)) (subst (Holds e dot (39 ∷ cs)) (sym (step_single e dot cs)) (single_holds e dot cs)))
    (λ s. by_test P (is_blank c) (λ h. subst (Holds e dot (c ∷ cs)) (sym (step_blank e dot c cs h)) (blank_holds e dot c cs h))
    (λ b. by_test P (c == 47 && first cs == 47) (λ t. slashed e dot c 47 cs t (omega arith) (λ rest. subst (Holds e dot (47 ∷ 47 ∷ rest)) (sym (step_line e dot rest)) (line_holds e dot rest)))
    (λ l. by_test P (c == 47 && first cs == 42) (λ t. slashed e dot c 42 cs t (omega arith) (λ rest. subst (Holds e dot (47 ∷ 42 ∷ rest)) (sym (step_block e dot rest)) (block_holds e dot rest)))
    (λ k. let m : Mark c cs = record { word = w; digit = d; quote = q; single = s; blank = b; line = l; block = k } in
    subst (Holds e dot (c ∷ cs)) (sym (step_mark e dot c cs m)) (mark_holds e dot c cs m))))))))
  where
    P : Type 0
    P = Holds e dot (c ∷ cs) (step e dot (c ∷ cs))

    quoted_single : ◌≡◌ {A = Form} Quoted Single → ⊥
    quoted_single e = cc

-- ---- what is spelled is found

pub covers : (e : Edition) (dot : Bool) (v rest : Chars) (kind : TokenKind) → Spells dot v kind → Covered (v ++ rest) (step e dot (v ++ rest)) kind (length v)
covers e dot v rest (Ident name true) s = raw_covers e dot v rest name s
covers e dot v rest (Ident name false) (i, n) = subst (λ name. Covered (v ++ rest) (step e dot (v ++ rest)) (Ident name false) (length v)) (sym n) (word_covers e dot v rest i)
covers e dot v rest (Lifetime name) (w, is, h, n) =
    let one : 1 + length w ≡ length (39 ∷ w) = omega arith in
    subst (λ x. Covered (x ++ rest) (step e dot (x ++ rest)) (Lifetime name) (length x)) (sym is)
    (subst (λ m. Covered (39 ∷ (w ++ rest)) (step e dot (39 ∷ (w ++ rest))) (Lifetime name) m) one
    (subst (λ name. Covered (39 ∷ (w ++ rest)) (step e dot (39 ∷ (w ++ rest))) (Lifetime name) (1 + length w)) (sym n) (lifetime_covers e dot w rest h)))
covers e dot v rest (Int value suffix) i = int_covers e dot v rest value suffix i
covers e dot v rest (Char value) lit = literal_covers e dot false Single v (value ∷ []) rest lit
covers e dot v rest (Byte value) lit = literal_covers e dot true Single v (value ∷ []) rest lit
covers e dot v rest (Str value) (vs, inl lit, is) = subst (λ x. Covered (v ++ rest) (step e dot (v ++ rest)) (Str x) (length v)) (sym is) (literal_covers e dot false Quoted v vs rest lit)
covers e dot v rest (Str value) (vs, inr (n, lit), is) = subst (λ x. Covered (v ++ rest) (step e dot (v ++ rest)) (Str x) (length v)) (sym is) (literal_covers e dot false (Raw n) v vs rest lit)
covers e dot v rest (ByteStr value) (inl lit) = literal_covers e dot true Quoted v value rest lit
covers e dot v rest (ByteStr value) (inr (n, lit)) = literal_covers e dot true (Raw n) v value rest lit
covers e dot v rest Open h = open_covers e dot v rest h
covers e dot v rest Close h = close_covers e dot v rest h
covers e dot v rest Punct h = punct_covers e dot v rest h

-- ---- a fault that stands there is found

told_at : (text : Chars) (p : Piece) (kind other : LexKind) (at place : ℕ) → other ≡ kind → place ≡ at → Told p kind at → Told p other place
told_at text p kind other at place k a t = subst (λ k. Told p k place) (sym k) (subst (Told p kind) (sym a) t)

same_told : (kind : LexKind) (at : ℕ) → Told (Bad kind at) kind at
same_told kind at = inr (refl, omega arith)

stops : (c : ℕ) → (c == 34 || c == 39 || c == 35) ≡ true → is_xid_continue c ≡ false
stops c h = elim (or_cases (c == 34 || c == 39) (c == 35) h) [
  | inl h ↦ elim (or_cases (c == 34) (c == 39) h) [
    | inl a ↦ subst (λ c. is_xid_continue c ≡ false) (sym (eqb-true c 34 a)) (no_continue 34 (omega arith) refl)
    | inr a ↦ subst (λ c. is_xid_continue c ≡ false) (sym (eqb-true c 39 a)) (no_continue 39 (omega arith) refl)
  ]
  | inr a ↦ subst (λ c. is_xid_continue c ≡ false) (sym (eqb-true c 35 a)) (no_continue 35 (omega arith) refl)
]

-- the step at a whole word before such a character
word_at : (e : Edition) (dot : Bool) (w : Chars) (c : ℕ) (cs : Chars) → is_word w ≡ true → (c == 34 || c == 39 || c == 35) ≡ true → step e dot (w ++ c ∷ cs) ≡ word_before e w (length w) c (c ∷ cs)
word_at e dot [] c cs h s = impossible h
word_at e dot (d ∷ w) c cs h s =
    let a = and_parts (is_start d) (list_all is_xid_continue w) h in
    step_word e dot d (w ++ c ∷ cs) a.0 ∙ word_ends e d w (c ∷ cs) a.1 (stops c s)

three_false : (a b c : Bool) → not (a || b || c) ≡ true → (a ≡ false) × (b ≡ false) × (c ≡ false)
three_false true b c h = impossible h
three_false false true c h = impossible h
three_false false false true h = impossible h
three_false false false false h = (refl, refl, refl)

two_false : (a b : Bool) → not (a || b) ≡ true → (a ≡ false) × (b ≡ false)
two_false true b h = impossible h
two_false false true h = impossible h
two_false false false h = (refl, refl)

prefix_is : (e : Edition) (w : Chars) (c : ℕ) (cs : Chars) → is_reserved w c ≡ true → ((c == 34 || c == 39 || c == 35) ≡ true) × (word_before e w (length w) c (c ∷ cs) ≡ prefixed e w (length w))
prefix_is e w c cs h =
    elim (or_cases ((c == 34 && not (bytes_eq w (codes "b") || bytes_eq w (codes "r") || bytes_eq w (codes "br"))) || (c == 39 && not (bytes_eq w (codes "b")))) (c == 35 && not (bytes_eq w (codes "r") || bytes_eq w (codes "br"))) h) [
      | inl h ↦ elim (or_cases (c == 34 && not (bytes_eq w (codes "b") || bytes_eq w (codes "r") || bytes_eq w (codes "br"))) (c == 39 && not (bytes_eq w (codes "b"))) h) [
        | inl a ↦ let k = and_parts (c == 34) _ a in let is = eqb-true c 34 k.0 in let (b, r, br) = three_false (bytes_eq w (codes "b")) (bytes_eq w (codes "r")) (bytes_eq w (codes "br")) k.1 in (rw is, rw (is, b, r, br))
        | inr a ↦ let k = and_parts (c == 39) _ a in let is = eqb-true c 39 k.0 in let b = not_true (bytes_eq w (codes "b")) k.1 in (rw is, rw (is, b))
      ]
      | inr a ↦ let k = and_parts (c == 35) _ a in let is = eqb-true c 35 k.0 in let (r, br) = two_false (bytes_eq w (codes "r")) (bytes_eq w (codes "br")) k.1 in (rw is, rw (is, r, br))
    ]

prefix_told : (e : Edition) (dot : Bool) (w : Chars) (c : ℕ) (cs : Chars) → is_word w ≡ true → reserves e ≡ true → is_reserved w c ≡ true → Told (step e dot (w ++ c ∷ cs)) ReservedPrefix 0
prefix_told e dot w c cs h r s =
    let (stop, is) = prefix_is e w c cs s in
    let new : is_2021 e ≡ true = same_edition e ∙ r in
    let found : step e dot (w ++ c ∷ cs) ≡ Bad ReservedPrefix 0 = word_at e dot w c cs h stop ∙ is ∙ (rw new) in
    subst (λ p. Told p ReservedPrefix 0) (sym found) (same_told ReservedPrefix 0)

raw_told : (cs : Chars) → (BeginsRawWord cs → ⊥) → raw_word cs ≡ Bad BadRaw 0
raw_told [] none = refl
raw_told (c ∷ cs) none = whole (passed is_xid_continue cs)
  where
    whole : Passed is_xid_continue cs → raw_word (c ∷ cs) ≡ Bad BadRaw 0
    whole p =
        ap (λ xs. raw_word (c ∷ xs)) p.parts ∙ raw_is c p.front p.rest p.all p.ends
        ∙ pick (λ q. q ≡ Bad BadRaw 0) (is_start c && not (bytes_eq (c ∷ p.front) (codes "_") || not_raw (name_of (c ∷ p.front)))) _ _
        (λ t. let a = and_parts (is_start c) _ t in
        let b = or_false (bytes_eq (c ∷ p.front) (codes "_")) (not_raw (name_of (c ∷ p.front))) (not_true _ a.1) in
        absurd (none (c ∷ p.front, p.rest, ap (λ xs. c ∷ xs) p.parts, p.ends, both (is_word (c ∷ p.front)) _ (both (is_start c) _ a.0 p.all) (ap not b.0), free_name (name_of (c ∷ p.front)) b.1)))
        (λ t. refl)

word_r : is_word (114 ∷ []) ≡ true
word_r = both (is_start 114) true (is_start-ascii 114 (omega arith)) refl

hash_told : (e : Edition) (dot byte : Bool) (cs : Chars) → (BeginsRawString (35 ∷ cs) → ⊥) → (byte ≡ false → BeginsRawWord cs → ⊥) → (at : ℕ) → hash_step byte at (35 ∷ cs) ≡ Bad BadRaw 0
hash_told e dot byte cs none no_word at =
    pick (λ q. q ≡ Bad BadRaw 0) (get_or (35 ∷ cs) (prefix_len hash (35 ∷ cs)) 0 == 34) _ _
    (λ t. let q = hash_quote (35 ∷ cs) t in absurd (none (prefix_len hash (35 ∷ cs), q.rest, q.parts)))
    (λ t. last byte no_word)
  where
    last : (byte : Bool) → (byte ≡ false → BeginsRawWord cs → ⊥) → cond byte (Bad BadRaw 0) (raw_word cs) ≡ Bad BadRaw 0
    last true f = refl
    last false f = raw_told cs (f refl)

hash_r_told : (e : Edition) (dot : Bool) (cs : Chars) → (BeginsRawString (35 ∷ cs) → ⊥) → (BeginsRawWord cs → ⊥) → Told (step e dot (114 ∷ 35 ∷ cs)) BadRaw 0
hash_r_told e dot cs none no_word =
    subst (λ p. Told p BadRaw 0) (sym (word_at e dot (114 ∷ []) 35 cs word_r refl ∙ hash_told e dot false cs none (λ f. no_word) 1)) (same_told BadRaw 0)

word_br : is_word (98 ∷ 114 ∷ []) ≡ true
word_br = both (is_start 98) _ (is_start-ascii 98 (omega arith)) (both (is_xid_continue 114) true (is_xid_continue-ascii 114 (omega arith)) refl)

hash_br_told : (e : Edition) (dot : Bool) (cs : Chars) → (BeginsRawString (35 ∷ cs) → ⊥) → Told (step e dot (98 ∷ 114 ∷ 35 ∷ cs)) BadRaw 0
hash_br_told e dot cs none =
    subst (λ p. Told p BadRaw 0) (sym (word_at e dot (98 ∷ 114 ∷ []) 35 cs word_br refl ∙ hash_told e dot true cs none (λ f. absurd (impossible (sym f))) 2)) (same_told BadRaw 0)

pub opening_some : (byte : Bool) (form : Form) → 0 < length (opening byte form)
opening_some true form = omega arith
opening_some false Quoted = omega arith
opening_some false Single = omega arith
opening_some false (Raw n) = omega arith

unclosed_told : (e : Edition) (dot byte : Bool) (form : Form) (cs : Chars) → ((b after : Chars) → Closed byte form cs b after → ⊥) → (byte ≡ false → form ≡ Single → starts is_start cs ≡ false) → Told (step e dot (opening byte form ++ cs)) Unclosed 0
unclosed_told e dot byte form cs none no_word =
    subst (λ p. Told p Unclosed 0) (sym (step_opening e dot byte form cs (λ f k. never (starts_word cs) _ (starts_same cs ∙ no_word f k)) ∙ literal_open byte form (length (opening byte form)) cs none)) (same_told Unclosed 0)
  where
    never : (a b : Bool) → a ≡ false → (a && b) ≡ false
    never true b h = absurd (impossible (sym h))
    never false b h = refl

closed_letter : (byte : Bool) (form : Form) (cs b after : Chars) → Closed byte form cs b after → IsLetter byte form cs
closed_letter byte form cs b after c f s =
    let some : single_len false cs ≡ Some (length b) = ap (λ x. close_len x Single cs) (sym f) ∙ ap (λ x. close_len byte x cs) (sym s) ∙ close_is byte form cs b after c in
    rw some (never (starts_word cs))
  where
    never : (x : Bool) → (x && false) ≡ false
    never true = refl
    never false = refl

after_told : (e : Edition) (dot byte : Bool) (form : Form) (cs b after : Chars) → Closed byte form cs b after → starts is_start after ≡ true → Told (step e dot (opening byte form ++ cs)) LiteralSuffix 0
after_told e dot byte form cs b after c s =
    subst (λ p. Told p LiteralSuffix 0) (sym (step_opening e dot byte form cs (closed_letter byte form cs b after c) ∙ literal_is byte form (length (opening byte form)) cs b after c))
    (subst (λ (x : Bool). Told (cond x (Bad LiteralSuffix 0) (literal_read byte form (length (opening byte form)) b (length (opening byte form) + (length b + closing_len form)) (read byte form 0 b) (read byte form 0 b).bad)) LiteralSuffix 0) (sym s) (same_told LiteralSuffix 0))

body_told : (e : Edition) (dot byte : Bool) (form : Form) (cs b after good value bad : Chars) (c : ℕ) → Closed byte form cs b after → b ≡ good ++ c ∷ bad → Units byte form good value (c ∷ bad) → NoUnit byte form (c ∷ bad)
    → Told (step e dot (opening byte form ++ cs)) (bad_unit form c) (length (opening byte form) + length good)
body_told e dot byte form cs b after good value bad c closed is us free =
    subst P (sym (step_opening e dot byte form cs (closed_letter byte form cs b after closed) ∙ literal_is byte form (length (opening byte form)) cs b after closed))
    (pick P (starts is_start after) _ _ (λ t. inl (let s = opening_some byte form in omega (arith, s)))
    (λ t. subst (λ o. P (literal_read byte form (length (opening byte form)) b (length (opening byte form) + (length b + closing_len form)) (read byte form 0 b) o)) (sym stop)
    (subst (λ k. P (Bad k (length (opening byte form) + length good))) (sym (ap (body_fault form) (ap (λ x. get_or x (length good) 0) is ∙ index_front good c bad) ∙ fault_same form c)) (same_told (bad_unit form c) (length (opening byte form) + length good)))))
  where
    P : Piece → Type 0
    P p = Told p (bad_unit form c) (length (opening byte form) + length good)

    stop : (read byte form 0 b).bad ≡ Some (length good)
    stop = ap (λ x. (read byte form 0 x).bad) is ∙ read_stops byte form good value bad c us free

lifetime_told : (e : Edition) (dot : Bool) (w : Chars) (c : ℕ) (cs : Chars) → is_word w ≡ true → (c == 39 || c == 35) ≡ true → ((b after : Chars) → Closed false Single (w ++ c ∷ cs) b after → ⊥) → Told (step e dot (39 ∷ (w ++ c ∷ cs))) BadLifetime 0
lifetime_told e dot [] c cs h s none = impossible h
lifetime_told e dot (d ∷ w) c cs h s none =
    subst P (sym (step_single e dot (d ∷ (w ++ c ∷ cs)))) (quote_if (d ∷ (w ++ c ∷ cs)) P (λ t. named) (λ t. no_letter (single_len false (d ∷ (w ++ c ∷ cs))) refl t))
  where
    P : Piece → Type 0
    P p = Told p BadLifetime 0

    stop : (c : ℕ) → (c == 39 || c == 35) ≡ true → (c == 34 || c == 39 || c == 35) ≡ true
    stop c s = grind (arith, nat_tests)

    named : P (lifetime_step (39 ∷ d ∷ (w ++ c ∷ cs)))
    named =
        let a = and_parts (is_start d) (list_all is_xid_continue w) h in
        subst P (sym (lifetime_is d w (c ∷ cs) a.1 (stops c (stop c s))))
        (subst (λ (x : Bool). P (cond x (Bad BadLifetime 0) (Took (Lifetime (name_of (d ∷ w))) (1 + length (d ∷ w))))) (sym s) (same_told BadLifetime 0))

    no_letter : (o : Option ℕ) → single_len false (d ∷ (w ++ c ∷ cs)) ≡ o → (starts_word (d ∷ (w ++ c ∷ cs)) && is_none (single_len false (d ∷ (w ++ c ∷ cs)))) ≡ false → P (literal_step false Single 1 (d ∷ (w ++ c ∷ cs)))
    no_letter None o t = absurd (both_ways _ t (rw o (both (is_start d) true (and_parts (is_start d) (list_all is_xid_continue w) h).0 refl)))
    no_letter (Some k) o t = let r = close_cut false Single (d ∷ (w ++ c ∷ cs)) k o in absurd (none r.body r.rest r.closed)

pub told : (e : Edition) (dot : Bool) (text : Chars) (kind : LexKind) (at : ℕ) → Stands e dot text kind at → Told (step e dot text) kind at
told e dot text kind at (unknown c cs is h k a) = told_at text _ _ kind _ at k a (subst (λ x. Told (step e dot x) BadCharacter 0) (sym is) (unknown_told e dot c cs h))
told e dot text kind at (comment cs is none k a) = told_at text _ _ kind _ at k a (comment_told e dot text cs is none)
told e dot text kind at (prefix w c cs is h r s k a) = told_at text _ _ kind _ at k a (subst (λ x. Told (step e dot x) ReservedPrefix 0) (sym is) (prefix_told e dot w c cs h r s))
told e dot text kind at (hash_r cs is none no_word k a) = told_at text _ _ kind _ at k a (subst (λ x. Told (step e dot x) BadRaw 0) (sym is) (hash_r_told e dot cs none no_word))
told e dot text kind at (hash_br cs is none k a) = told_at text _ _ kind _ at k a (subst (λ x. Told (step e dot x) BadRaw 0) (sym is) (hash_br_told e dot cs none))
told e dot text kind at (float w left part tail d n b c f k a) = told_at text _ _ kind _ at k a (float_told e dot text w left part tail d n b c f)
told e dot text kind at (number w left part tail n c f k a) = told_at text _ _ kind _ at k a (value_told e dot text w left part tail n c f)
told e dot text kind at (number_suffix w left part tail n c f k a) = told_at text _ _ kind _ at k a (suffix_told e dot text w left part tail n c f)
told e dot text kind at (unclosed byte form cs is none no_word k a) = told_at text _ _ kind _ at k a (subst (λ x. Told (step e dot x) Unclosed 0) (sym is) (unclosed_told e dot byte form cs none no_word))
told e dot text kind at (literal_suffix byte form cs b after is c s k a) = told_at text _ _ kind _ at k a (subst (λ x. Told (step e dot x) LiteralSuffix 0) (sym is) (after_told e dot byte form cs b after c s))
told e dot text kind at (body byte form cs b after good value bad c is closed parts us free k a) = told_at text _ _ kind _ at k a (subst (λ x. Told (step e dot x) (bad_unit form c) (length (opening byte form) + length good)) (sym is) (body_told e dot byte form cs b after good value bad c closed parts us free))
told e dot text kind at (lifetime w c cs is h s none k a) = told_at text _ _ kind _ at k a (subst (λ x. Told (step e dot x) BadLifetime 0) (sym is) (lifetime_told e dot w c cs h s none))
