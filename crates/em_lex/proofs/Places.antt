-- Where the tokens of a text lie.
use Rattle.std.proofs.Common.{◌≡◌, ℕ, ◌+◌, ◌-◌, ◌<◌, ◌≤◌, Bool, true, false, not, ◌&&◌, ◌||◌, nat_le, List, [], ◌∷◌, ◌++◌, length, take, drop, get_or, encode_utf8_all, refl, subst, sym, ap, ◌∙◌, arith, length-append, append_assoc}
use Rattle.std.specs.Str.{all_scalars, IsCharBoundary}
use Rattle.std.proofs.lemmas.Grind.{common_steps}
use Rattle.std.proofs.lemmas.Bool.{and_parts}
use Rattle.std.proofs.lemmas.Bool.Decides.{nat_tests}
use Rattle.std.proofs.lemmas.List.{take_at, drop_at}
use Rattle.std.proofs.lemmas.Str.{encodes-append, length-le-encodes, IsCharBoundary-at_seam}
use Rattle.em_base.specs.declared.edition.Edition.{Edition}
use Rattle.em_base.specs.declared.token.Token.{Token}
use Rattle.em_base.specs.declared.token.TokenKind.{TokenKind}
use Rattle.em_lex.specs.Characters.{Chars}
use Rattle.em_lex.specs.Lexing.{Part, trivia, token, Tiles, byte_len, tokens_of}
use Rattle.em_lex.specs.Laws.{is_boundary, LiesIn, LieInOrder, TokensInText}
use Rattle.em_lex.proofs.LexingLemmas.{spells_some}
use Rattle.em_lex.proofs.WalkLemmas.{byte_len-append}
use Rattle.em_lex.proofs.TextLemmas.{encodes-byte_len}

-- ---- boundaries

scalars_behind : (xs ys : Chars) → all_scalars (xs ++ ys) ≡ true → all_scalars ys ≡ true
scalars_behind [] ys h = h
scalars_behind (c ∷ xs) ys h = scalars_behind xs ys (and_parts _ (all_scalars (xs ++ ys)) h).1

past_end : (bs : List ℕ) (i : ℕ) → length bs ≤ i → get_or bs i 0 ≡ 0
past_end bs i h = grind (arith, common_steps)

uncut : (bs : List ℕ) (i : ℕ) → IsCharBoundary bs i → is_boundary bs i ≡ true
uncut bs i (within, lead) = here (get_or bs i 0) (λ h. past_end bs i h) lead
  where
    here : (b : ℕ) → (length bs ≤ i → b ≡ 0) → (i < length bs → 128 ≤ b → 192 ≤ b) → not (nat_le 128 b && nat_le b 191) ≡ true
    here b end lead = grind (arith, nat_tests)

-- a place between characters
boundary_at : (xs ys : Chars) → all_scalars (xs ++ ys) ≡ true → is_boundary (encode_utf8_all (xs ++ ys)) (byte_len xs) ≡ true
boundary_at xs ys h =
    subst (λ n. is_boundary (encode_utf8_all (xs ++ ys)) n ≡ true) (encodes-byte_len xs)
    (uncut (encode_utf8_all (xs ++ ys)) (length (encode_utf8_all xs))
    (IsCharBoundary-at_seam (encode_utf8_all (xs ++ ys)) (encode_utf8_all xs) (encode_utf8_all ys) (encodes-append xs ys) (ys, (scalars_behind xs ys h, refl))))

-- ---- tokens

-- a token of these parts
abbrev pub token_is : ℕ → Edition → ℕ → Bool → Chars → TokenKind → Token
token_is file edition start doc w kind = record {
  kind = kind;
  text = encode_utf8_all w;
  span = record { file = file; start = start; end = start + byte_len w };
  edition = edition;
  marks = [];
  doc = doc;
}

-- the token of characters behind a front of the text
lies_in : (file : ℕ) (edition : Edition) (at : ℕ) (doc : Bool) (front w rest : Chars) (kind : TokenKind) → at ≤ byte_len front → 0 < length w → all_scalars (front ++ (w ++ rest)) ≡ true
    → LiesIn file edition at (encode_utf8_all (front ++ (w ++ rest))) (token_is file edition (byte_len front) doc w kind)
lies_in file edition at doc front w rest kind le some scalars =
    let fl = encodes-byte_len front in
    let wl = encodes-byte_len w in
    let most = length-le-encodes w in
    let cut : encode_utf8_all (front ++ (w ++ rest)) ≡ encode_utf8_all front ++ (encode_utf8_all w ++ encode_utf8_all rest) = encodes-append front (w ++ rest) ∙ ap (λ x. encode_utf8_all front ++ x) (encodes-append w rest) in
    let all : length (encode_utf8_all (front ++ (w ++ rest))) ≡ length (encode_utf8_all front) + length (encode_utf8_all w ++ encode_utf8_all rest) = ap (λ x. length x) cut ∙ length-append (encode_utf8_all front) (encode_utf8_all w ++ encode_utf8_all rest) in
    let inner : length (encode_utf8_all w ++ encode_utf8_all rest) ≡ length (encode_utf8_all w) + length (encode_utf8_all rest) = length-append (encode_utf8_all w) (encode_utf8_all rest) in
    let len : byte_len front + byte_len w - byte_len front ≡ byte_len w = omega arith in
    let both : byte_len (front ++ w) ≡ byte_len front + byte_len w = byte_len-append front w in
    let whole : (front ++ w) ++ rest ≡ front ++ (w ++ rest) = append_assoc front w rest in
    record {
      file_is = refl;
      edition_is = refl;
      behind = le;
      some = omega (arith, some, wl, most);
      within = omega (arith, all, inner, fl, wl);
      bytes = sym (ap (λ x. take (byte_len front + byte_len w - byte_len front) (drop (byte_len front) x)) cut
          ∙ ap (λ x. take (byte_len front + byte_len w - byte_len front) x) (drop_at (encode_utf8_all front) (encode_utf8_all w ++ encode_utf8_all rest) (byte_len front) fl)
          ∙ ap (λ n. take n (encode_utf8_all w ++ encode_utf8_all rest)) len
          ∙ take_at (encode_utf8_all w) (encode_utf8_all rest) (byte_len w) wl);
      starts_whole = boundary_at front (w ++ rest) scalars;
      ends_whole = subst (λ x. is_boundary (encode_utf8_all x) (byte_len front + byte_len w) ≡ true) whole
          (subst (λ n. is_boundary (encode_utf8_all ((front ++ w) ++ rest)) n ≡ true) both (boundary_at (front ++ w) rest (subst (λ x. all_scalars x ≡ true) (sym whole) scalars)));
    }

-- the tokens of parts behind a front of the text
in_order : (file : ℕ) (edition : Edition) (at : ℕ) (dot doc end : Bool) (front text : Chars) (parts : List Part) → at ≤ byte_len front → all_scalars (front ++ text) ≡ true → Tiles edition dot text parts end []
    → LieInOrder file edition at (encode_utf8_all (front ++ text)) (tokens_of file edition (byte_len front) doc parts)
in_order file edition at dot doc end front text [] le scalars h = tt
in_order file edition at dot doc end front text (trivia w is ∷ ps) le scalars (rest, parts, here, more) =
    let len = byte_len-append front w in
    let whole : (front ++ w) ++ rest ≡ front ++ text = append_assoc front w rest ∙ ap (λ x. front ++ x) (sym parts) in
    subst (λ n. LieInOrder file edition at (encode_utf8_all (front ++ text)) (tokens_of file edition n (doc || is) ps)) len
    (subst (λ x. LieInOrder file edition at (encode_utf8_all x) (tokens_of file edition (byte_len (front ++ w)) (doc || is) ps)) whole
    (in_order file edition at false (doc || is) end (front ++ w) rest ps (omega (arith, le, len)) (subst (λ x. all_scalars x ≡ true) (sym whole) scalars) more))
in_order file edition at dot doc end front text (token w kind ∷ ps) le scalars (rest, parts, here, more) =
    let len = byte_len-append front w in
    let whole : (front ++ w) ++ rest ≡ front ++ text = append_assoc front w rest ∙ ap (λ x. front ++ x) (sym parts) in
    let lies : LiesIn file edition at (encode_utf8_all (front ++ text)) (token_is file edition (byte_len front) doc w kind) =
    subst (λ x. LiesIn file edition at (encode_utf8_all (front ++ x)) (token_is file edition (byte_len front) doc w kind)) (sym parts)
    (lies_in file edition at doc front w rest kind le (spells_some dot w kind here.longest.spells) (subst (λ x. all_scalars (front ++ x) ≡ true) parts scalars)) in (
      lies,
      subst (λ n. LieInOrder file edition n (encode_utf8_all (front ++ text)) (tokens_of file edition n false ps)) len
          (subst (λ x. LieInOrder file edition (byte_len (front ++ w)) (encode_utf8_all x) (tokens_of file edition (byte_len (front ++ w)) false ps)) whole
          (in_order file edition (byte_len (front ++ w)) _ false end (front ++ w) rest ps (omega arith) (subst (λ x. all_scalars x ≡ true) (sym whole) scalars) more)),
    )

pub tokens_in_text : TokensInText
tokens_in_text file edition text ts h =
    subst (λ x. LieInOrder file edition 0 x ts) h.is_text.encoded
    (subst (λ x. LieInOrder file edition 0 (encode_utf8_all (h.mark ++ h.text)) x) (sym h.tokens)
    (in_order file edition 0 false false h.dot h.mark h.text h.parts (omega arith) h.is_text.scalars h.tiles))
