-- The characters of a text, and its bytes.
use Rattle.std.proofs.Common.{◌≡◌, ◌⊎◌, inl, inr, ℕ, true, false, ◌==◌, List, [], ◌∷◌, length, take, drop, chars, refl, sym, ap, ◌∙◌, arith, length-append, take-append-drop, encode_utf8_all}
use Rattle.std.proofs.lemmas.Bool.{both_ways, eqb-true}
use Rattle.std.proofs.lemmas.Str.{length-encode, encodes-chars, scalars-chars}
use Rattle.std.specs.Char.{len_utf8, encode_utf8}
use Rattle.std.specs.Str.{IsUtf8, all_scalars}
use Rattle.em_base.specs.declared.edition.Edition.{Edition}
use Rattle.em_base.specs.declared.token.Token.{Token}
use Rattle.em_lex.specs.declared.error.LexError.{LexError}
use Rattle.em_lex.specs.declared.error.LexError.TheVariants.{NoMemory, At, Limit}
use Rattle.em_lex.specs.Characters.{Chars}
use Rattle.em_lex.specs.Lexing.{byte_len, tokens_of, IsText, Lexes}
use Rattle.em_lex.specs.Walk.{LexesFrom, RefusedFrom, mark_len, RefusedText}
use Rattle.em_lex.proofs.Base.{by_test}
use Rattle.em_lex.proofs.WalkLemmas.{byte_len-append, length-byte_len, byte_len-take}

pub encodes-byte_len : (cs : Chars) → length (encode_utf8_all cs) ≡ byte_len cs
encodes-byte_len [] = refl
encodes-byte_len (c ∷ cs) =
    let more = encodes-byte_len cs in
    let one = length-encode c in
    let both = length-append (encode_utf8 c) (encode_utf8_all cs) in
    let cut = byte_len-append (c ∷ []) cs in
    let first : byte_len (c ∷ []) ≡ len_utf8 c = omega arith in
    omega (arith, more, one, both, cut, first)

-- the text behind a byte order mark
pub is_text : (bytes cs : Chars) → all_scalars cs ≡ true → encode_utf8_all cs ≡ bytes → IsText bytes (take (mark_len cs) cs) (drop (mark_len cs) cs)
is_text bytes cs s e =
    let cut = take-append-drop (mark_len cs) cs in
    record { scalars = ap all_scalars cut ∙ s; encoded = ap encode_utf8_all cut ∙ e; marked = marks cs }
  where
    other : (d : ℕ) (cs ds : Chars) → (d == 0xFEFF) ≡ false → d ∷ cs ≡ 0xFEFF ∷ ds → ⊥
    other d cs ds t f = let same : d ≡ 0xFEFF = cc in both_ways _ t (ap (λ x. x == 0xFEFF) same)

    empty : {ds : Chars} → [] ≡ 0xFEFF ∷ ds → ⊥
    empty f = cc

    marks : (cs : Chars) → (take (mark_len cs) cs ≡ 0xFEFF ∷ []) ⊎ ((take (mark_len cs) cs ≡ []) × ((ds : Chars) → drop (mark_len cs) cs ≡ 0xFEFF ∷ ds → ⊥))
    marks [] = inr (refl, λ ds f. empty f)
    marks (c ∷ cs) =
        by_test ((take (mark_len (c ∷ cs)) (c ∷ cs) ≡ 0xFEFF ∷ []) ⊎ ((take (mark_len (c ∷ cs)) (c ∷ cs) ≡ []) × ((ds : Chars) → drop (mark_len (c ∷ cs)) (c ∷ cs) ≡ 0xFEFF ∷ ds → ⊥))) (c == 0xFEFF)
        (λ t. inl (rw t (ap (λ c. c ∷ []) (eqb-true c 0xFEFF t))))
        (λ t. inr (rw t refl, λ ds f. other c cs ds t (rw t at f)))

pub lexes_text : (file : ℕ) (e : Edition) (bytes cs : Chars) (start : ℕ) (list : List Token) → all_scalars cs ≡ true → encode_utf8_all cs ≡ bytes → start ≡ byte_len (take (mark_len cs) cs) → LexesFrom file e start (drop (mark_len cs) cs) list → Lexes file e bytes list
lexes_text file e bytes cs start list s f is (ps, d, tiles, toks) =
    record { mark = take (mark_len cs) cs; text = drop (mark_len cs) cs; parts = ps; dot = d; is_text = is_text bytes cs s f; tiles = tiles; tokens = toks ∙ ap (λ n. tokens_of file e n false ps) is }

pub refused_text : (e : Edition) (bytes cs : Chars) (start : ℕ) (error : LexError) → all_scalars cs ≡ true → encode_utf8_all cs ≡ bytes → start ≡ byte_len (take (mark_len cs) cs) → RefusedFrom e start (drop (mark_len cs) cs) error → RefusedText e bytes error
refused_text e bytes cs start NoMemory s f is r = tt
refused_text e bytes cs start (Limit l) s f is r = r
refused_text e bytes cs start (At place kind) s f is r =
    let whole = byte_len-append (take (mark_len cs) cs) (drop (mark_len cs) cs) in
    record { mark = take (mark_len cs) cs; text = drop (mark_len cs) cs; parts = r.parts; dot = r.dot; left = r.left; at = r.at; is_text = is_text bytes cs s f; tiles = r.tiles; first = r.first; place = omega (arith, whole, r.place_is, is) }

pub text_scalars : (bytes cs : Chars) → IsUtf8 bytes → cs ≡ chars bytes → all_scalars cs ≡ true
text_scalars bytes cs u is = ap all_scalars is ∙ scalars-chars bytes u

pub text_encoded : (bytes cs : Chars) → IsUtf8 bytes → cs ≡ chars bytes → encode_utf8_all cs ≡ bytes
text_encoded bytes cs u is = ap encode_utf8_all is ∙ encodes-chars bytes u

pub text_bytes : (bytes cs : Chars) → IsUtf8 bytes → cs ≡ chars bytes → byte_len cs ≡ length bytes
text_bytes bytes cs u is = sym (encodes-byte_len cs) ∙ ap (λ x. length x) (text_encoded bytes cs u is)

pub ruleset encoded = (encodes-byte_len, length-byte_len, byte_len-take)
