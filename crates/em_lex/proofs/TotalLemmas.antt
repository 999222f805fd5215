-- Each text has tokens or a first fault.
use Rattle.std.proofs.Common.{◌≡◌, ◌⊎◌, inl, inr, ℕ, zero, suc, ◌+◌, ◌<◌, ◌≤◌, Bool, true, false, ◌==◌, List, [], ◌∷◌, ◌++◌, length, take, refl, sym, ap, ◌∙◌, subst, arith, length-append, encode_utf8_all}
use Rattle.std.proofs.lemmas.Bool.{both_ways, eqb-true, cases_lt}
use Rattle.std.proofs.lemmas.Str.{IsUtf8-from_is_utf8, is_utf8-from_IsUtf8, IsUtf8-nil}
use Rattle.std.specs.Str.{IsUtf8, IsValidUpTo, all_scalars, is_utf8}
use Rattle.em_base.specs.declared.edition.Edition.{Edition}
use Rattle.em_base.specs.declared.token.Token.{Token}
use Rattle.em_lex.specs.declared.error.LexKind.{LexKind}
use Rattle.em_lex.specs.declared.error.LexKind.TheVariants.{NotUtf8}
use Rattle.em_lex.specs.declared.piece.Piece.{Piece}
use Rattle.em_lex.specs.Characters.{Chars}
use Rattle.em_lex.specs.Faults.{First}
use Rattle.em_lex.specs.Lexing.{Part, spelled, is_dot, PartAt, Tiles, byte_len, tokens_of, IsText, Lexes, FirstFault}
use Rattle.em_lex.specs.Scan.{step}
use Rattle.em_lex.specs.Laws.{ListOrFault}
use Rattle.em_lex.proofs.Base.{by_test}
use Rattle.em_lex.proofs.LexingLemmas.{Found, part, fault, found, part_some}
use Rattle.em_lex.proofs.WalkLemmas.{byte_len-append}

-- parts lead to the end, or to a place where a fault stands
data Walked (e : Edition) (dot : Bool) (text : Chars) : Type 0 where
  ends : (ps : List Part) (d : Bool) → Tiles e dot text ps d [] → Walked e dot text
  stops : (ps : List Part) (d : Bool) (left : Chars) (kind : LexKind) (at : ℕ) → Tiles e dot text ps d left → First e d left kind at → Walked e dot text

further : (e : Edition) (dot : Bool) (text : Chars) (p : Part) (rest : Chars) → text ≡ spelled p ++ rest → PartAt e dot p rest → Walked e (is_dot p) rest → Walked e dot text
further e dot text p rest parts at (ends ps d t) = ends (p ∷ ps) d (rest, parts, at, t)
further e dot text p rest parts at (stops ps d left kind place t first) = stops (p ∷ ps) d left kind place (rest, parts, at, t) first

walk_found : (n : ℕ) (e : Edition) (dot : Bool) (text : Chars) (piece : Piece) → length text ≤ suc n → ((e : Edition) (dot : Bool) (rest : Chars) → length rest ≤ n → Walked e dot rest) → Found e dot text piece → Walked e dot text
walk_found n e dot text _ h go (part p rest parts at) =
    let l = ap (λ x. length x) parts ∙ length-append (spelled p) rest in
    let s = part_some e dot p rest at in
    further e dot text p rest parts at (go e (is_dot p) rest (omega (arith, l, s, h)))
walk_found n e dot text _ h go (fault kind at first) = stops [] dot text kind at (refl, refl) first

walk : (n : ℕ) (e : Edition) (dot : Bool) (text : Chars) → length text ≤ n → Walked e dot text
walk n e dot [] h = ends [] dot (refl, refl)
walk zero e dot (c ∷ cs) h = absurd (omega (arith, h))
walk (suc n) e dot (c ∷ cs) h = walk_found n e dot (c ∷ cs) (step e dot (c ∷ cs)) h (λ e dot rest l. walk n e dot rest l) (found e dot c cs)

-- what is left takes no more bytes than all
tiles_bytes : (e : Edition) (dot : Bool) (text : Chars) (ps : List Part) (d : Bool) (left : Chars) → Tiles e dot text ps d left → (n : ℕ) × (byte_len text ≡ n + byte_len left)
tiles_bytes e dot text [] d left (a, b) = (0, ap byte_len b ∙ (let z : byte_len left ≡ 0 + byte_len left = omega arith in z))
tiles_bytes e dot text (p ∷ ps) d left (rest, parts, at, more) =
    let (n, is) = tiles_bytes e (is_dot p) rest ps d left more in
    let l = ap byte_len parts ∙ byte_len-append (spelled p) rest in
    (byte_len (spelled p) + n, omega (arith, l, is))

record TextOf (bytes : List ℕ) : Type 0 where
  mark : Chars
  text : Chars
  is_text : IsText bytes mark text

text_of : (bytes : List ℕ) → IsUtf8 bytes → TextOf bytes
text_of bytes ([], (s, e)) = record { mark = []; text = []; is_text = record { scalars = s; encoded = e; marked = inr (refl, λ cs f. empty f) } }
  where
    empty : {cs : Chars} → [] ≡ 0xFEFF ∷ cs → ⊥
    empty f = cc
text_of bytes (c ∷ cs, (s, e)) =
    by_test (TextOf bytes) (c == 0xFEFF)
    (λ t. let is = eqb-true c 0xFEFF t in
    record { mark = 0xFEFF ∷ []; text = cs; is_text = record { scalars = subst (λ c. all_scalars (c ∷ cs) ≡ true) is s; encoded = ap (λ c. encode_utf8_all (c ∷ cs)) (sym is) ∙ e; marked = inl refl } })
    (λ t. record { mark = []; text = c ∷ cs; is_text = record { scalars = s; encoded = e; marked = inr (refl, λ ds f. other t ds f) } })
  where
    other : (c == 0xFEFF) ≡ false → (ds : Chars) → c ∷ cs ≡ 0xFEFF ∷ ds → ⊥
    other t ds f = let same : c ≡ 0xFEFF = cc in both_ways _ t (ap (λ x. x == 0xFEFF) same)

-- the longest front that is UTF-8
longest_front : (bytes : List ℕ) (n : ℕ) → ((m : ℕ) → n < m → ¬ (IsUtf8 (take m bytes))) → n < length bytes → (m : ℕ) × IsValidUpTo bytes m
longest_front bytes zero none short = (0, record { short = short; front = IsUtf8-nil; longest = none })
longest_front bytes (suc n) none short =
    by_test ((m : ℕ) × IsValidUpTo bytes m) (is_utf8 (take (suc n) bytes))
    (λ t. (suc n, record { short = short; front = IsUtf8-from_is_utf8 _ t; longest = none }))
    (λ t. longest_front bytes n (λ m l. more t m l) (omega (arith, short)))
  where
    more : is_utf8 (take (suc n) bytes) ≡ false → (m : ℕ) → n < m → ¬ (IsUtf8 (take m bytes))
    more t m l u = elim (cases_lt (suc n) m) [
      | inl x ↦ none m x u
      | inr x ↦ let same : m ≡ suc n = omega (arith, x, l) in both_ways _ t (is_utf8-from_IsUtf8 _ (subst (λ k. IsUtf8 (take k bytes)) same u))
    ]

walked : (file : ℕ) (e : Edition) (bytes : List ℕ) → TextOf bytes → ((ts : List Token) × Lexes file e bytes ts) ⊎ ((kind : LexKind) × (offset : ℕ) × FirstFault e bytes kind offset)
walked file e bytes t = here (walk (length t.text) e false t.text (omega arith))
  where
    here : Walked e false t.text → ((ts : List Token) × Lexes file e bytes ts) ⊎ ((kind : LexKind) × (offset : ℕ) × FirstFault e bytes kind offset)
    here (ends ps d tiles) = inl (tokens_of file e (byte_len t.mark) false ps, record { mark = t.mark; text = t.text; parts = ps; dot = d; is_text = t.is_text; tiles = tiles; tokens = refl })
    here (stops ps d left kind at tiles first) =
        let (n, is) = tiles_bytes e false t.text ps d left tiles in
        let both = byte_len-append t.mark t.text in
        inr (kind, byte_len t.mark + n + byte_len (take at left), inr (record { mark = t.mark; text = t.text; parts = ps; dot = d; left = left; at = at; is_text = t.is_text; tiles = tiles; first = first; place = omega (arith, is, both) }))

take_past : (m : ℕ) (xs : List ℕ) → length xs ≤ m → take m xs ≡ xs
take_past zero [] h = refl
take_past (suc m) [] h = refl
take_past zero (x ∷ xs) h = absurd (omega (arith, h))
take_past (suc m) (x ∷ xs) h = ap (λ l. x ∷ l) (take_past m xs (omega (arith, h)))

no_utf8 : (bytes : List ℕ) → is_utf8 bytes ≡ false → IsUtf8 bytes → ⊥
no_utf8 bytes t u = both_ways _ t (is_utf8-from_IsUtf8 bytes u)

broken : (bytes : List ℕ) → is_utf8 bytes ≡ false → (m : ℕ) × IsValidUpTo bytes m
broken [] t = absurd (no_utf8 [] t IsUtf8-nil)
broken (b ∷ bs) t = longest_front (b ∷ bs) (length bs) (λ m l u. no_utf8 (b ∷ bs) t (subst IsUtf8 (take_past m (b ∷ bs) (omega (arith, l))) u)) (omega arith)

pub list_or_fault : ListOrFault
list_or_fault file e bytes =
    by_test (((ts : List Token) × Lexes file e bytes ts) ⊎ ((kind : LexKind) × (offset : ℕ) × FirstFault e bytes kind offset)) (is_utf8 bytes)
    (λ t. walked file e bytes (text_of bytes (IsUtf8-from_is_utf8 bytes t)))
    (λ t. let (m, v) = broken bytes t in inr (NotUtf8, m, inl (λ u. no_utf8 bytes t u, refl, v)))
