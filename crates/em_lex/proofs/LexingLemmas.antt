-- One list of parts, and one first fault.
use Rattle.std.proofs.Common.{◌≡◌, ◌⊎◌, inl, inr, ℕ, ◌<◌, ◌≤◌, Bool, true, false, cond, ◌==◌, List, [], ◌∷◌, ◌++◌, length, take, drop, codes, refl, sym, ap, ◌∙◌, subst, arith, length-append}
use Rattle.std.proofs.Common.{Option, Some, None}
use Rattle.std.proofs.lemmas.Bool.{both_ways, or_cases, cases_lt}
use Rattle.std.proofs.lemmas.Str.{encodes_same}
use Rattle.std.specs.Char.{is_ascii_digit}
use Rattle.std.specs.Str.{IsUtf8, IsValidUpTo}
use Rattle.em_base.specs.Names.{is_identifier}
use Rattle.em_base.specs.declared.edition.Edition.{Edition}
use Rattle.em_base.specs.declared.token.Token.{Token}
use Rattle.em_base.specs.declared.token.TokenKind.{TokenKind}
use Rattle.em_base.specs.declared.token.TokenKind.TheVariants.{Ident, Lifetime, Int, Char, Byte, Str, ByteStr, Open, Close, Punct}
use Rattle.em_lex.specs.declared.error.LexKind.{LexKind}
use Rattle.em_lex.specs.declared.error.LexKind.TheVariants.{NotUtf8, BadCharacter, Unclosed, ReservedPrefix, Float, BadNumber, LiteralSuffix, BadEscape, BadLifetime, BadRaw}
use Rattle.em_lex.specs.declared.piece.Form.{Form}
use Rattle.em_lex.specs.declared.piece.Form.TheVariants.{Quoted, Single, Raw}
use Rattle.em_lex.specs.declared.piece.Piece.{Piece}
use Rattle.em_lex.specs.declared.piece.Piece.TheVariants.{Trivia as Gap, Token as Took, Fault as Bad}
use Rattle.em_lex.specs.Characters.{Chars, starts, begins}
use Rattle.em_lex.specs.Trivia.{IsTrivia, blank, line, block, begins_comment}
use Rattle.em_lex.specs.Literals.{opening, closing, IsLiteral}
use Rattle.em_lex.specs.Spelling.{Spells, is_among, opening_delimiters, closing_delimiters, punctuation}
use Rattle.em_lex.specs.Faults.{Fault as Stands, unknown, comment, prefix, hash_r, hash_br, float, number, number_suffix, unclosed, literal_suffix, body, lifetime, NumberAt, First, rank, ToldBefore}
use Rattle.em_lex.specs.Lexing.{Part, trivia, token, spelled, is_dot, TokenAt, PartAt, Tiles, byte_len, tokens_of, IsText, Lexes, Fails, FirstFault}
use Rattle.em_lex.specs.Scan.{block_of, block_len, step}
use Rattle.em_lex.proofs.Base.{impossible, by_test, same_front}
use Rattle.em_lex.proofs.Heads.{step_line, step_block}
use Rattle.em_lex.proofs.Pieces.{Holds, Covered, Told}
use Rattle.em_lex.proofs.NumberLemmas.{marked}
use Rattle.em_lex.proofs.TriviaLemmas.{trivia_step}
use Rattle.em_lex.proofs.StepLemmas.{holds, covers, told, opening_some}

-- ---- nothing is empty

literal_some : (byte : Bool) (form : Form) (w value : Chars) → IsLiteral byte form w value → 0 < length w
literal_some byte form w value lit =
    let l = ap (λ x. length x) lit.parts ∙ length-append (opening byte form) (lit.body ++ closing form) in
    let s = opening_some byte form in omega (arith, l, s)

among_some : (list : List Chars) (w : Chars) → is_among list w ≡ true → (list ≡ opening_delimiters) ⊎ ((list ≡ closing_delimiters) ⊎ (list ≡ punctuation)) → 0 < length w
among_some list [] h (inl e) = impossible (subst (λ l. is_among l [] ≡ true) e h)
among_some list [] h (inr (inl e)) = impossible (subst (λ l. is_among l [] ≡ true) e h)
among_some list [] h (inr (inr e)) = impossible (subst (λ l. is_among l [] ≡ true) e h)
among_some list (c ∷ w) h e = omega arith

starts_some : (p : ℕ → Bool) (w : Chars) → starts p w ≡ true → 0 < length w
starts_some p [] h = impossible h
starts_some p (c ∷ w) h = omega arith

identifier_some : (w : Chars) → is_identifier w ≡ true → 0 < length w
identifier_some [] h = impossible h
identifier_some (c ∷ w) h = omega arith

pub spells_some : (dot : Bool) (w : Chars) (kind : TokenKind) → Spells dot w kind → 0 < length w
spells_some dot w (Ident name true) s = let e = ap (λ x. length x) s.parts in omega (arith, e)
spells_some dot w (Ident name false) (i, n) = identifier_some w i
spells_some dot w (Lifetime name) (x, is, h, n) = let e = ap (λ x. length x) is in omega (arith, e)
spells_some dot w (Int value suffix) i = starts_some is_ascii_digit w i.digit
spells_some dot w (Char value) lit = literal_some false Single w _ lit
spells_some dot w (Byte value) lit = literal_some true Single w _ lit
spells_some dot w (Str value) (vs, inl lit, e) = literal_some false Quoted w vs lit
spells_some dot w (Str value) (vs, inr (n, lit), e) = literal_some false (Raw n) w vs lit
spells_some dot w (ByteStr value) (inl lit) = literal_some true Quoted w value lit
spells_some dot w (ByteStr value) (inr (n, lit)) = literal_some true (Raw n) w value lit
spells_some dot w Open h = among_some opening_delimiters w h (inl refl)
spells_some dot w Close h = among_some closing_delimiters w h (inr (inl refl))
spells_some dot w Punct h = among_some punctuation w h (inr (inr refl))

trivia_some : (w : Chars) (doc : Bool) (left : Chars) → IsTrivia w doc left → 0 < length w
trivia_some w doc left (blank c is h d) = let e = ap (λ x. length x) is in omega (arith, e)
trivia_some w doc left (line cs is all ends d) = let e = ap (λ x. length x) is in omega (arith, e)
trivia_some w doc left (block cs is within d) = let e = ap (λ x. length x) is in omega (arith, e)

pub part_some : (e : Edition) (dot : Bool) (p : Part) (rest : Chars) → PartAt e dot p rest → 0 < length (spelled p)
part_some e dot (trivia w doc) rest t = trivia_some w doc rest t
part_some e dot (token w kind) rest t = spells_some dot w kind t.longest.spells

append_some : (v w : Chars) → 0 < length v → 0 < length (v ++ w)
append_some v w h = let l = length-append v w in omega (arith, l, h)

append_last : (v : Chars) (c : ℕ) (w : Chars) → 0 < length (v ++ c ∷ w)
append_last v c w = let l = length-append v (c ∷ w) in omega (arith, l)

number_some : (text w left : Chars) → NumberAt text w left → 0 < length text
number_some text w left n = subst (λ x. 0 < length x) (sym n.parts) (append_some w left (starts_some is_ascii_digit w n.digit))

pub fault_some : (e : Edition) (dot : Bool) (text : Chars) (kind : LexKind) (at : ℕ) → Stands e dot text kind at → 0 < length text
fault_some e dot text kind at (unknown c cs is h k a) = rw is (omega arith)
fault_some e dot text kind at (comment cs is none k a) = rw is (omega arith)
fault_some e dot text kind at (prefix w c cs is h r s k a) = rw is (append_last w c cs)
fault_some e dot text kind at (hash_r cs is none no_word k a) = rw is (omega arith)
fault_some e dot text kind at (hash_br cs is none k a) = rw is (omega arith)
fault_some e dot text kind at (float w left part tail d n b c f k a) = number_some text w left n
fault_some e dot text kind at (number w left part tail n c f k a) = number_some text w left n
fault_some e dot text kind at (number_suffix w left part tail n c f k a) = number_some text w left n
fault_some e dot text kind at (unclosed byte form cs is none no_word k a) = rw is (append_some (opening byte form) cs (opening_some byte form))
fault_some e dot text kind at (literal_suffix byte form cs b after is c s k a) = rw is (append_some (opening byte form) cs (opening_some byte form))
fault_some e dot text kind at (body byte form cs b after good value bad c is closed parts us free k a) = rw is (append_some (opening byte form) cs (opening_some byte form))
fault_some e dot text kind at (lifetime w c cs is h s none k a) = rw is (omega arith)

-- ---- what stands there, and the step

abbrev pub piece_of : Part → Piece
piece_of (trivia w doc) = Gap (length w) doc
piece_of (token w kind) = Took kind (length w)

token_step : (e : Edition) (dot : Bool) (c : ℕ) (cs w left : Chars) (kind : TokenKind) → c ∷ cs ≡ w ++ left → TokenAt e dot w left kind → step e dot (c ∷ cs) ≡ Took kind (length w)
token_step e dot c cs w left kind parts t = here (step e dot (c ∷ cs)) (holds e dot c cs) (subst (λ x. Covered x (step e dot x) kind (length w)) (sym parts) (covers e dot w left kind t.longest.spells))
  where
    here : (p : Piece) → Holds e dot (c ∷ cs) p → Covered (c ∷ cs) p kind (length w) → p ≡ Took kind (length w)
    here (Gap n doc) h v = absurd (both_ways _ (subst (λ x. begins_comment x ≡ false) (sym parts) t.no_comment) v)
    here (Bad fault at) h v = absurd (t.no_fault fault at (subst (λ x. Stands e dot x fault at) parts h))
    here (Took other n) (f, s) (low, same) =
        let most = t.longest.longest f.w f.left other (sym parts ∙ f.parts) s in
        let l : length w ≡ n = omega (arith, most, low, f.len) in
        ap (λ k. Took k n) (sym (same l)) ∙ ap (Took kind) (sym l)

pub part_step : (e : Edition) (dot : Bool) (p : Part) (rest : Chars) → PartAt e dot p rest → step e dot (spelled p ++ rest) ≡ piece_of p
part_step e dot (trivia w doc) rest t = trivia_step e dot w doc rest t
part_step e dot (token [] kind) rest t = absurd (omega (arith, spells_some dot [] kind t.longest.spells))
part_step e dot (token (c ∷ w) kind) rest t = token_step e dot c (w ++ rest) (c ∷ w) rest kind refl t

pub no_gap : {n m : ℕ} {doc : Bool} {kind : TokenKind} → Gap n doc ≡ Took kind m → ⊥
no_gap e = cc

pub no_bad : {at m : ℕ} {fault : LexKind} {kind : TokenKind} → Bad fault at ≡ Took kind m → ⊥
no_bad e = cc

-- no token begins where a comment does
no_token : (e : Edition) (dot : Bool) (text : Chars) (kind : TokenKind) (n : ℕ) → begins_comment text ≡ true → step e dot text ≡ Took kind n → ⊥
no_token e dot text kind n h is = elim (or_cases (begins (codes "//") text) (begins (codes "/*") text) h) [
  | inl a ↦ let m = marked text (codes "//") a in no_gap (sym (ap (step e dot) m ∙ step_line e dot (drop 2 text)) ∙ is)
  | inr a ↦ let m = marked text (codes "/*") a in at_block (drop 2 text) (block_len 0 false (drop 2 text)) (sym (ap (step e dot) m ∙ step_block e dot (drop 2 text)) ∙ is)
]
  where
    at_block : (cs : Chars) (o : Option ℕ) → block_of (47 ∷ 42 ∷ cs) o ≡ Took kind n → ⊥
    at_block cs None is = no_bad is
    at_block cs (Some k) is = no_gap is

-- the part or the first fault that the step finds
pub data Found (e : Edition) (dot : Bool) (text : Chars) : Piece → Type 0 where
  part : (p : Part) (rest : Chars) → text ≡ spelled p ++ rest → PartAt e dot p rest → Found e dot text (piece_of p)
  fault : (kind : LexKind) (at : ℕ) → First e dot text kind at → Found e dot text (Bad kind at)

pub found : (e : Edition) (dot : Bool) (c : ℕ) (cs : Chars) → Found e dot (c ∷ cs) (step e dot (c ∷ cs))
found e dot c cs = here (step e dot (c ∷ cs)) refl (holds e dot c cs)
  where
    longest : (n : ℕ) (kind : TokenKind) → step e dot (c ∷ cs) ≡ Took kind n → (v rest : Chars) (other : TokenKind) → c ∷ cs ≡ v ++ rest → Spells dot v other → length v ≤ n
    longest n kind is v rest other parts s =
        let v_covered = covers e dot v rest other s in
        (subst (λ p. Covered (v ++ rest) p other (length v)) (ap (step e dot) (sym parts) ∙ is) v_covered).0

    here : (p : Piece) → step e dot (c ∷ cs) ≡ p → Holds e dot (c ∷ cs) p → Found e dot (c ∷ cs) p
    here (Gap n doc) is (f, t) = subst (λ k. Found e dot (c ∷ cs) (Gap k doc)) (sym f.len) (part (trivia f.w doc) f.left f.parts t)
    here (Took kind n) is (f, s) =
        subst (λ k. Found e dot (c ∷ cs) (Took kind k)) (sym f.len)
        (part (token f.w kind) f.left f.parts (record {
          longest = record { spells = s; longest = λ v rest other parts s. let l = longest n kind is v rest other (f.parts ∙ parts) s in omega (arith, l, f.len) };
          no_comment = by_test _ (begins_comment (f.w ++ f.left)) (λ t. absurd (no_token e dot (f.w ++ f.left) kind n t (ap (step e dot) (sym f.parts) ∙ is))) (λ t. t);
          no_fault = λ kind' at t. subst (λ p. Told p kind' at) (ap (step e dot) (sym f.parts) ∙ is) (told e dot (f.w ++ f.left) kind' at t);
        }))
    here (Bad kind at) is h = fault kind at (record { stands = h; before = λ other place t. subst (λ p. Told p other place) is (told e dot (c ∷ cs) other place t) })

-- ---- one way to tile a text

abbrev pub Stuck : Edition → Bool → Chars → Type 0
Stuck e dot text = (p : Part) (rest : Chars) → text ≡ spelled p ++ rest → PartAt e dot p rest → ⊥

pub end_stuck : (e : Edition) (dot : Bool) → Stuck e dot []
end_stuck e dot p rest parts at =
    let s = part_some e dot p rest at in
    let l = length-append (spelled p) rest in
    let n = ap (λ x. length x) parts in omega (arith, s, l, n)

not_fault : (p : Part) (kind : LexKind) (at : ℕ) → Told (piece_of p) kind at → ⊥
not_fault (trivia w doc) kind at t = t
not_fault (token w k) kind at t = t

pub fault_stuck : (e : Edition) (dot : Bool) (text : Chars) (kind : LexKind) (at : ℕ) → Stands e dot text kind at → Stuck e dot text
fault_stuck e dot text kind at s p rest parts is = not_fault p kind at (subst (λ q. Told q kind at) (ap (step e dot) parts ∙ part_step e dot p rest is) (told e dot text kind at s))

same_gap : {n m : ℕ} {a b : Bool} → Gap n a ≡ Gap m b → (n ≡ m) × (a ≡ b)
same_gap e = (cc, cc)

pub same_took : {n m : ℕ} {a b : TokenKind} → Took a n ≡ Took b m → (n ≡ m) × (a ≡ b)
same_took e = (cc, cc)

record SamePart (p q : Part) (r s : Chars) : Type 0 where
  part_is : p ≡ q
  rest_is : r ≡ s

same_part : (p q : Part) (r s : Chars) → spelled p ++ r ≡ spelled q ++ s → piece_of p ≡ piece_of q → SamePart p q r s
same_part (trivia v a) (trivia w b) r s e k =
    let (n, d) = same_gap k in
    let (x, y) = same_front v w r s e n in
    record { part_is = ap (λ v. trivia v a) x ∙ ap (trivia w) d; rest_is = y }
same_part (trivia v a) (token w k2) r s e k = absurd (no_gap k)
same_part (token v a) (trivia w b) r s e k = absurd (no_gap (sym k))
same_part (token v a) (token w b) r s e k =
    let (n, d) = same_took k in
    let (x, y) = same_front v w r s e n in
    record { part_is = ap (λ v. token v a) x ∙ ap (token w) d; rest_is = y }

pub record SameReach (ps qs : List Part) (d f : Bool) (l m : Chars) : Type 0 where
  pub parts_are : ps ≡ qs
  pub dot_is : d ≡ f
  pub left_is : l ≡ m

-- two ways to where no part goes on are one
pub one_reach : (e : Edition) (dot : Bool) (text : Chars) (ps qs : List Part) (d f : Bool) (l m : Chars) → Tiles e dot text ps d l → Tiles e dot text qs f m → Stuck e d l → Stuck e f m → SameReach ps qs d f l m
one_reach e dot text [] [] d f l m (a, b) (x, y) s t = record { parts_are = refl; dot_is = sym a ∙ x; left_is = sym b ∙ y }
one_reach e dot text [] (q ∷ qs) d f l m (a, b) (rest, parts, at, more) s t = absurd (s q rest (sym b ∙ parts) (subst (λ d. PartAt e d q rest) a at))
one_reach e dot text (p ∷ ps) [] d f l m (rest, parts, at, more) (x, y) s t = absurd (t p rest (sym y ∙ parts) (subst (λ d. PartAt e d p rest) x at))
one_reach e dot text (p ∷ ps) (q ∷ qs) d f l m (r, parts, at, more) (r', parts', at', more') s t =
    let same = same_part p q r r' (sym parts ∙ parts') (sym (part_step e dot p r at) ∙ ap (step e dot) (sym parts ∙ parts') ∙ part_step e dot q r' at') in
    let moved : Tiles e (is_dot p) r qs f m = subst (λ x. Tiles e (is_dot x) r qs f m) (sym same.part_is) (subst (λ x. Tiles e (is_dot q) x qs f m) (sym same.rest_is) more') in
    let rest = one_reach e (is_dot p) r ps qs d f l m more moved s t in
    record { parts_are = ap (λ x. x ∷ ps) same.part_is ∙ ap (λ xs. q ∷ xs) rest.parts_are; dot_is = rest.dot_is; left_is = rest.left_is }

-- a text is these characters alone
pub one_text : (bytes : List ℕ) (m t n u : Chars) → IsText bytes m t → IsText bytes n u → (m ≡ n) × (t ≡ u)
one_text bytes m t n u a b = here a.marked b.marked (encodes_same (m ++ t) (n ++ u) (a.encoded ∙ sym b.encoded))
  where
    here : (m ≡ 0xFEFF ∷ []) ⊎ ((m ≡ []) × ((cs : Chars) → t ≡ 0xFEFF ∷ cs → ⊥)) → (n ≡ 0xFEFF ∷ []) ⊎ ((n ≡ []) × ((cs : Chars) → u ≡ 0xFEFF ∷ cs → ⊥)) → m ++ t ≡ n ++ u → (m ≡ n) × (t ≡ u)
    here (inl x) (inl y) e = (x ∙ sym y, let k : 0xFEFF ∷ t ≡ 0xFEFF ∷ u = sym (ap (λ m. m ++ t) x) ∙ e ∙ ap (λ n. n ++ u) y in cc)
    here (inl x) (inr (y, none)) e = absurd (none t (sym (sym (ap (λ m. m ++ t) x) ∙ e ∙ ap (λ n. n ++ u) y)))
    here (inr (x, none)) (inl y) e = absurd (none u (sym (ap (λ m. m ++ t) x) ∙ e ∙ ap (λ n. n ++ u) y))
    here (inr (x, none)) (inr (y, none')) e = (x ∙ sym y, sym (ap (λ m. m ++ t) x) ∙ e ∙ ap (λ n. n ++ u) y)

-- ---- the laws

pub one_lexing : (file : ℕ) (e : Edition) (bytes : List ℕ) (ts us : List Token) → Lexes file e bytes ts → Lexes file e bytes us → ts ≡ us
one_lexing file e bytes ts us a b =
    let (m, t) = one_text bytes a.mark a.text b.mark b.text a.is_text b.is_text in
    let r = one_reach e false a.text a.parts b.parts a.dot b.dot [] [] a.tiles (subst (λ x. Tiles e false x b.parts b.dot []) (sym t) b.tiles) (end_stuck e a.dot) (end_stuck e b.dot) in
    a.tokens ∙ ap (λ m. tokens_of file e (byte_len m) false a.parts) m ∙ ap (tokens_of file e (byte_len b.mark) false) r.parts_are ∙ sym b.tokens

pub lexes_utf8 : (file : ℕ) (e : Edition) (bytes : List ℕ) (ts : List Token) → Lexes file e bytes ts → IsUtf8 bytes
lexes_utf8 file e bytes ts a = (a.mark ++ a.text, (a.is_text.scalars, a.is_text.encoded))

pub list_no_fault : (file : ℕ) (e : Edition) (bytes : List ℕ) (ts : List Token) (kind : LexKind) (offset : ℕ) → Lexes file e bytes ts → FirstFault e bytes kind offset → ⊥
list_no_fault file e bytes ts kind offset a (inl (none, k, v)) = none (lexes_utf8 file e bytes ts a)
list_no_fault file e bytes ts kind offset a (inr b) =
    let (m, t) = one_text bytes a.mark a.text b.mark b.text a.is_text b.is_text in
    let r = one_reach e false a.text a.parts b.parts a.dot b.dot [] b.left a.tiles (subst (λ x. Tiles e false x b.parts b.dot b.left) (sym t) b.tiles) (end_stuck e a.dot) (fault_stuck e b.dot b.left kind b.at b.first.stands) in
    let s = fault_some e b.dot b.left kind b.at b.first.stands in
    let n = ap (λ x. length x) r.left_is in omega (arith, s, n)

ranked : ℕ → LexKind
ranked n =
    cond (n == 0) NotUtf8 (cond (n == 1) BadCharacter (cond (n == 2) Unclosed (cond (n == 3) ReservedPrefix (cond (n == 4) Float
    (cond (n == 5) BadNumber (cond (n == 6) LiteralSuffix (cond (n == 7) BadEscape (cond (n == 8) BadLifetime BadRaw))))))))

rank_back : (k : LexKind) → ranked (rank k) ≡ k
unfolding ranked
rank_back NotUtf8 = refl
rank_back BadCharacter = refl
rank_back Unclosed = refl
rank_back ReservedPrefix = refl
rank_back Float = refl
rank_back BadNumber = refl
rank_back LiteralSuffix = refl
rank_back BadEscape = refl
rank_back BadLifetime = refl
rank_back BadRaw = refl

pub one_first : (e : Edition) (dot : Bool) (text : Chars) (k j : LexKind) (at place : ℕ) → First e dot text k at → First e dot text j place → (k ≡ j) × (at ≡ place)
one_first e dot text k j at place a b = here (a.before j place b.stands) (b.before k at a.stands)
  where
    here : ToldBefore k at j place → ToldBefore j place k at → (k ≡ j) × (at ≡ place)
    here (inl x) (inl y) = absurd (omega (arith, x, y))
    here (inl x) (inr (y, z)) = absurd (omega (arith, x, y))
    here (inr (x, z)) (inl y) = absurd (omega (arith, x, y))
    here (inr (x, z)) (inr (y, u)) = let r : rank k ≡ rank j = omega (arith, z, u) in (sym (rank_back k) ∙ ap ranked r ∙ rank_back j, x)

valid_once : (bytes : List ℕ) (m n : ℕ) → IsValidUpTo bytes m → IsValidUpTo bytes n → m ≡ n
valid_once bytes m n a b = elim (cases_lt m n) [
  | inl x ↦ absurd (a.longest n x b.front)
  | inr x ↦ elim (cases_lt n m) [ inl y ↦ absurd (b.longest m y a.front) | inr y ↦ omega (arith, x, y) ]
]

fails_utf8 : (e : Edition) (bytes : List ℕ) (kind : LexKind) (offset : ℕ) → Fails e bytes kind offset → IsUtf8 bytes
fails_utf8 e bytes kind offset a = (a.mark ++ a.text, (a.is_text.scalars, a.is_text.encoded))

pub one_fault : (e : Edition) (bytes : List ℕ) (k j : LexKind) (offset place : ℕ) → FirstFault e bytes k offset → FirstFault e bytes j place → (k ≡ j) × (offset ≡ place)
one_fault e bytes k j offset place (inl (none, x, v)) (inl (none', y, w)) = (x ∙ sym y, valid_once bytes offset place v w)
one_fault e bytes k j offset place (inl (none, x, v)) (inr b) = absurd (none (fails_utf8 e bytes j place b))
one_fault e bytes k j offset place (inr a) (inl (none, y, w)) = absurd (none (fails_utf8 e bytes k offset a))
one_fault e bytes k j offset place (inr a) (inr b) =
    let (m, t) = one_text bytes a.mark a.text b.mark b.text a.is_text b.is_text in
    let r = one_reach e false a.text a.parts b.parts a.dot b.dot a.left b.left a.tiles (subst (λ x. Tiles e false x b.parts b.dot b.left) (sym t) b.tiles) (fault_stuck e a.dot a.left k a.at a.first.stands) (fault_stuck e b.dot b.left j b.at b.first.stands) in
    let first : First e a.dot a.left j b.at = subst (λ d. First e d a.left j b.at) (sym r.dot_is) (subst (λ l. First e b.dot l j b.at) (sym r.left_is) b.first) in
    let (x, y) = one_first e a.dot a.left k j a.at b.at a.first first in
    (x, offsets r y m t)
  where
    offsets : SameReach a.parts b.parts a.dot b.dot a.left b.left → a.at ≡ b.at → a.mark ≡ b.mark → a.text ≡ b.text → offset ≡ place
    offsets r y m t =
        let l = ap byte_len r.left_is in
        let f : byte_len (take a.at a.left) ≡ byte_len (take b.at b.left) = ap (λ n. byte_len (take n a.left)) y ∙ ap (λ x. byte_len (take b.at x)) r.left_is in
        let w : byte_len (a.mark ++ a.text) ≡ byte_len (b.mark ++ b.text) = ap (λ m. byte_len (m ++ a.text)) m ∙ ap (λ t. byte_len (b.mark ++ t)) t in
        omega (arith, a.place, b.place, l, f, w)
